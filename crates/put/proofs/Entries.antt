-- put_entries: pairs appended, each value's number read off the stack or found again. Assumes nothing.
use Prim.Native.Nat.{ℕ, suc, ◌+◌, ◌-◌, ◌*◌, ◌≤◌, ◌<◌}
use mathlib.Core.Path.{◌≡◌, refl, sym, ap, ◌∙◌}
use mathlib.Core.Bool.{true}
use mathlib.Core.List.{List, [], ◌∷◌, ◌++◌, append_assoc, append-nil}
use native.Mathlib.Omega.{arith}
use lib.ListN.{length, get_or, take, set, length-set}
use lib.Seq.{take-suc-set, take-set-le}
use Rattle.put.specs.Meets.{Listed}
use Rattle.put.specs.Chase.{is_fresh, num, next, entry_words}
use Rattle.std.specs.Prelude.{Result}
use Rattle.error.specs.declared.Failure.{Failure}
use Rattle.put.specs.declared.Lead.{Lead}
use Rattle.append.proofs.Laws.{room-yes}
use Rattle.merge.proofs.Lists.{part_same}
use Rattle.put.proofs.Weave.{next_most}

-- after i turns
pub record Entering (f : ℕ → Result Lead Failure) (lb : ℕ) (X L₀ L : List ℕ) (ul at count sp i p : ℕ) : Type 0 where
  pub turn : i ≤ count
  pub limit : ul + count * 2 ≤ 16384
  pub lent : ul + count * 2 ≤ length L₀
  pub long : length L ≡ length L₀
  pub top : p ≤ sp + i
  pub kept : take ul L ≡ take ul L₀
  pub low : lb ≤ ul
  pub small : sp ≤ 4096
  pub rest : take (ul + i * 2) L ++ entry_words f (take lb L₀) (at + i * 2) (count - i) X p ≡ take ul L₀ ++ entry_words f (take lb L₀) at count X sp

pub enter_none : (f : ℕ → Result Lead Failure) (lb : ℕ) (X L : List ℕ) (ul at count sp : ℕ) → ul + count * 2 ≤ 16384 → ul + count * 2 ≤ length L → lb ≤ ul → sp ≤ 4096 → Entering f lb X L L ul at count sp 0 sp
enter_none f lb X L ul at count sp a b l m =
    let x : ul + 0 * 2 ≡ ul = omega arith in
    let y : at + 0 * 2 ≡ at = omega arith in
    let z : count - 0 ≡ count = omega arith in
    record { turn = omega arith; limit = a; lent = b; long = refl; top = omega arith; kept = refl; low = l; small = m; rest = rw (x, y, z) }

-- two words stored one after the other
two_stored : (L : List ℕ) (a k v : ℕ) → a + 1 < length L → take (a + 2) (set (set L a k) (a + 1) v) ≡ take a L ++ (k ∷ v ∷ [])
two_stored L a k v h =
    let x : a + 2 ≡ suc (suc a) = omega arith in
    let y : a + 1 ≡ suc a = omega arith in
    let l : suc a < length (set L a k) = rw length-set (omega arith) in
    rw (x, y, take-suc-set (set L a k) (suc a) v l, take-suc-set L a k (omega arith)) (append_assoc (take a L) (k ∷ []) (v ∷ []))

module _ (f : ℕ → Result Lead Failure) (lb : ℕ) (X L₀ L : List ℕ) (ul at count sp i p : ℕ) (g : Entering f lb X L₀ L ul at count sp i p) where
  pub enter_place : i < count → ul + i * 2 + 1 < length L
  enter_place h = omega (arith, g.lent, g.long)

  pub enter_more : (k s v p' x : ℕ) (c : Result Lead Failure) → i < count → k ≡ get_or (take lb L) (at + i * 2) 0 → s ≡ get_or (take lb L) (at + i * 2 + 1) 0 → c ≡ f s → x ≡ get_or X p 0 → v ≡ num c x → p' ≡ next (is_fresh c) p → Entering f lb X L₀ (set (set L (ul + i * 2) k) (ul + i * 2 + 1) v) ul at count sp (i + 1) p'
  unfolding entry_words
  enter_more k s v p' x c lt ek es ec ex ev ep =
      let n : count - i ≡ suc (count - (i + 1)) = omega arith in
      let j : ul + (i + 1) * 2 ≡ ul + i * 2 + 2 = omega arith in
      let q : at + (i + 1) * 2 ≡ at + i * 2 + 2 = omega arith in
      let b : take lb L ≡ take lb L₀ = part_same lb ul L L₀ g.low g.kept in
      let k₀ : k ≡ get_or (take lb L₀) (at + i * 2) 0 = ek ∙ ap (λ (l : List ℕ). get_or l (at + i * 2) 0) b in
      let s₀ : s ≡ get_or (take lb L₀) (at + i * 2 + 1) 0 = es ∙ ap (λ (l : List ℕ). get_or l (at + i * 2 + 1) 0) b in
      let x₀ : x ≡ get_or X p 0 = ex in
      let w = entry_words f (take lb L₀) (at + i * 2 + 2) (count - (i + 1)) X p' in
      let turned : entry_words f (take lb L₀) (at + i * 2) (count - i) X p ≡ k ∷ v ∷ entry_words f (take lb L₀) (at + i * 2 + 2) (count - (i + 1)) X p' = rw (n, ← k₀, ← s₀, ← ec, ← x₀, ← ev, ← ep) in
      record {
        turn = omega arith;
        limit = g.limit;
        lent = g.lent;
        long = length-set (set L (ul + i * 2) k) (ul + i * 2 + 1) v ∙ length-set L (ul + i * 2) k ∙ g.long;
        top = omega (arith, ep, next_most (is_fresh c) p, g.top);
        kept = take-set-le ul (set L (ul + i * 2) k) (ul + i * 2 + 1) v (omega arith) ∙ take-set-le ul L (ul + i * 2) k (omega arith) ∙ g.kept;
        low = g.low;
        small = g.small;
        rest = rw (j, q, two_stored L (ul + i * 2) k v (enter_place lt)) (append_assoc (take (ul + i * 2) L) (k ∷ v ∷ []) (entry_words f (take lb L₀) (at + i * 2 + 2) (count - (i + 1)) X p') ∙ ap (λ (l : List ℕ). take (ul + i * 2) L ++ l) (sym turned) ∙ g.rest);
      }

  pub enter_all : count ≤ i → Listed L₀ L ul (count * 2) (entry_words f (take lb L₀) at count X sp) true
  unfolding entry_words
  enter_all l =
      let n : count - i ≡ 0 = omega arith in
      let j : ul + i * 2 ≡ ul + count * 2 = omega (arith, g.turn) in
      record {
        yes = sym (room-yes 16384 (length L₀) ul (count * 2) g.limit g.lent);
        grown = λ _. sym (append-nil (take (ul + count * 2) L)) ∙ rw (n, j) at g.rest;
        kept = g.kept;
        long = g.long;
      }
