-- Children's numbers, read off the stack and the leaves.
use Prim.Native.Nat.{ℕ, zero, suc, min, ◌+◌, ◌-◌, ◌*◌, ◌≤◌, ◌<◌}
use mathlib.Core.Path.{◌≡◌, refl, sym, ap, ◌∙◌}
use mathlib.Core.Bool.{Bool, true, false}
use mathlib.Core.List.{List, [], ◌∷◌, ◌++◌, append_assoc, append-nil}
use native.Mathlib.Omega.{arith}
use native.Mathlib.Nat.{add-mul}
use native.Mathlib.Numerals.{add-one}
use lib.ListN.{length, get_or, take, set, length-set}
use lib.Seq.{get_or-take, take-suc-set, take-set-le}
use Rattle.append.specs.Append.{room}
use Rattle.put.specs.Meets.{Listed}
use Rattle.append.proofs.Laws.{room-yes, room_full, room_short}
use Rattle.text.specs.Choice.{le_or_lt}
use mathlib.Core.Logic.{⊎_elim}
use Rattle.merge.proofs.Lists.{part_same}
use Rattle.put.specs.Chase.{is_fresh, num, next, weave_at, top_at}
use Rattle.compilation.specs.Table.{span}
use Rattle.std.specs.Prelude.{Result, Ok, Err}
use Rattle.error.specs.declared.Failure.{Failure}
use Rattle.put.specs.declared.Lead.{Lead}
use Rattle.put.specs.declared.Lead.TheVariants.{Leaf, Node}

pub span_snoc : (Q : List ℕ) (at step n : ℕ) → span Q at step (suc n) ≡ span Q at step n ++ (get_or Q (at + n * step) 0 ∷ [])
unfolding span
span_snoc Q at step zero = ap (λ (k : ℕ). get_or Q k 0 ∷ []) (omega arith)
span_snoc Q at step (suc n) =
    let e : at + step + n * step ≡ at + (n + 1) * step = omega (arith, add-mul n 1 step) in
    ap (λ (l : List ℕ). get_or Q at 0 ∷ l) (span_snoc Q (at + step) step n ∙ ap (λ (k : ℕ). span Q (at + step) step n ++ (get_or Q k 0 ∷ [])) (e ∙ ap (λ (m : ℕ). at + m * step) (add-one n)))

pub next_least : (b : Bool) (p : ℕ) → p ≤ next b p
unfolding next
next_least true p = omega arith
next_least false p = omega arith

pub next_most : (b : Bool) (p : ℕ) → next b p ≤ p + 1
unfolding next
next_most true p = omega arith
next_most false p = omega arith

module _ (f : ℕ → Result Lead Failure) where
  pub weave_length : (ss X : List ℕ) (p : ℕ) → length (weave_at f ss X p) ≡ length ss
  unfolding weave_at
  weave_length [] X p = refl
  weave_length (s ∷ ss) X p = ap suc (weave_length ss X (next (is_fresh (f s)) p))

  pub top_least : (ss : List ℕ) (p : ℕ) → p ≤ top_at f ss p
  unfolding top_at
  top_least [] p = omega arith
  top_least (s ∷ ss) p = omega (arith, top_least ss (next (is_fresh (f s)) p), next_least (is_fresh (f s)) p)

  pub top_snoc : (ss : List ℕ) (s p : ℕ) → top_at f (ss ++ (s ∷ [])) p ≡ next (is_fresh (f s)) (top_at f ss p)
  unfolding top_at
  top_snoc [] s p = refl
  top_snoc (t ∷ ss) s p = top_snoc ss s (next (is_fresh (f t)) p)

  pub weave_snoc : (ss : List ℕ) (s : ℕ) (X : List ℕ) (p : ℕ) → weave_at f (ss ++ (s ∷ [])) X p ≡ weave_at f ss X p ++ (num (f s) (get_or X (top_at f ss p) 0) ∷ [])
  unfolding weave_at top_at
  weave_snoc [] s X p = refl
  weave_snoc (t ∷ ss) s X p = ap (λ (l : List ℕ). num (f t) (get_or X p 0) ∷ l) (weave_snoc ss s X (next (is_fresh (f t)) p))

  num_same : (b : Result Lead Failure) (x y p q : ℕ) → (next (is_fresh b) p ≤ q → p < q → x ≡ y) → next (is_fresh b) p ≤ q → num b x ≡ num b y
  unfolding num next
  num_same (Ok (Leaf n)) x y p q h l = refl
  num_same (Err e) x y p q h l = h l (omega arith)
  num_same (Ok (Node t j)) x y p q h l = h l (omega arith)

  -- only what lies below the top counts
  pub weave_kept : (ss X Y : List ℕ) (p q : ℕ) → top_at f ss p ≤ q → take q X ≡ take q Y → weave_at f ss X p ≡ weave_at f ss Y p
  unfolding weave_at top_at
  weave_kept [] X Y p q h e = refl
  weave_kept (s ∷ ss) X Y p q h e =
      let m : next (is_fresh (f s)) p ≤ q = omega (arith, top_least ss (next (is_fresh (f s)) p)) in
      let g : num (f s) (get_or X p 0) ≡ num (f s) (get_or Y p 0) = num_same (f s) (get_or X p 0) (get_or Y p 0) p q (λ a b. sym (get_or-take q X p 0 b) ∙ ap (λ (l : List ℕ). get_or l p 0) e ∙ get_or-take q Y p 0 b) m in
      let t : weave_at f ss X (next (is_fresh (f s)) p) ≡ weave_at f ss Y (next (is_fresh (f s)) p) = weave_kept ss X Y (next (is_fresh (f s)) p) q h e in
      cc

-- no room
pub room_none : (lent used n : ℕ) → min 16384 lent < used + n → room 16384 lent used n ≡ false
room_none lent used n h = ⊎_elim (λ a. room_full 16384 lent used n (omega arith)) (λ a. room_short 16384 lent used n (omega arith)) (le_or_lt 16384 lent)

module _ (L : List ℕ) (ul count : ℕ) (new : List ℕ) where
  pub listed_no : room 16384 (length L) ul count ≡ false → Listed L L ul count new false
  listed_no e =
      record {
        yes = sym e;
        grown = λ z. absurd (let z : ◌≡◌ {A = ℕ} 0 1 = cc in omega arith);
        kept = refl;
        long = refl;
      }

-- put_list after i turns
pub record Putting (f : ℕ → Result Lead Failure) (lb : ℕ) (X L₀ L : List ℕ) (ul at count sp i p : ℕ) : Type 0 where
  pub turn : i ≤ count
  pub limit : ul + count ≤ 16384
  pub lent : ul + count ≤ length L₀
  pub long : length L ≡ length L₀
  pub top : p ≤ sp + i
  pub kept : take ul L ≡ take ul L₀
  pub low : lb ≤ ul
  pub small : sp ≤ 4096
  pub rest : take (ul + i) L ++ weave_at f (span (take lb L₀) (at + i) 1 (count - i)) X p ≡ take ul L₀ ++ weave_at f (span (take lb L₀) at 1 count) X sp

pub put-none : (f : ℕ → Result Lead Failure) (lb : ℕ) (X L : List ℕ) (ul at count sp : ℕ) → ul + count ≤ 16384 → ul + count ≤ length L → lb ≤ ul → sp ≤ 4096 → Putting f lb X L L ul at count sp 0 sp
put-none f lb X L ul at count sp a b l m =
    let x : ul + 0 ≡ ul = omega arith in
    let y : at + 0 ≡ at = omega arith in
    let z : count - 0 ≡ count = omega arith in
    record { turn = omega arith; limit = a; lent = b; long = refl; top = omega arith; kept = refl; low = l; small = m; rest = rw (x, y, z) }

module _ (f : ℕ → Result Lead Failure) (lb : ℕ) (X L₀ L : List ℕ) (ul at count sp i p : ℕ) (g : Putting f lb X L₀ L ul at count sp i p) where
  pub put_more : (s w p' x : ℕ) (c : Result Lead Failure) → i < count → s ≡ get_or (take lb L) (at + i) 0 → c ≡ f s → x ≡ get_or X p 0 → w ≡ num c x → p' ≡ next (is_fresh c) p → Putting f lb X L₀ (set L (ul + i) w) ul at count sp (i + 1) p'
  unfolding span weave_at
  put_more s w p' x c lt a k y b d =
      let n : count - i ≡ suc (count - (i + 1)) = omega arith in
      let j : ul + (i + 1) ≡ suc (ul + i) = omega arith in
      let q : at + (i + 1) ≡ at + i + 1 = omega arith in
      let h : ul + i < length L = omega (arith, g.lent, g.long) in
      let v : get_or (take lb L) (at + i) 0 ≡ get_or (take lb L₀) (at + i) 0 = ap (λ (l : List ℕ). get_or l (at + i) 0) (part_same lb ul L L₀ g.low g.kept) in
      record {
        turn = omega arith;
        limit = g.limit;
        lent = g.lent;
        long = length-set L (ul + i) w ∙ g.long;
        top = omega (arith, d, next_most (is_fresh c) p, g.top);
        kept = take-set-le ul L (ul + i) w (omega arith) ∙ g.kept;
        low = g.low;
        small = g.small;
        rest = rw (j, take-suc-set L (ul + i) w h, append_assoc, q, b, d, k, a, v, y) (rw n at g.rest);
      }

  pub put_all : count ≤ i → Listed L₀ L ul count (weave_at f (span (take lb L₀) at 1 count) X sp) true
  unfolding span weave_at
  put_all l =
      let n : count - i ≡ 0 = omega arith in
      let j : ul + i ≡ ul + count = omega (arith, g.turn) in
      record {
        yes = sym (room-yes 16384 (length L₀) ul count g.limit g.lent);
        grown = λ _. sym (append-nil (take (ul + count) L)) ∙ rw (n, j) at g.rest;
        kept = g.kept;
        long = g.long;
      }
