-- Children in order, and children that may be absent. Assumes nothing.
use Prim.Native.Nat.{ℕ, zero, suc, ◌+◌, ◌*◌, ◌<◌}
use mathlib.Core.Path.{◌≡◌, refl, ap}
use mathlib.Core.Bool.{Bool, true, false}
use mathlib.Core.List.{List, [], ◌∷◌}
use mathlib.Core.Option.{Option}
use native.Mathlib.Nat.{suc-mul}
use native.Mathlib.Omega.{arith}
use lib.ListN.{length, get_or}
use lib.Dec.{eqb}
use borrow.Author.Tests.{eqb-false}
use Rattle.text.specs.Choice.{pick}
use Rattle.layout.specs.Layout.{NONE}
use Rattle.schema.specs.Shape.{Pair}
use Rattle.schema.specs.Look.{Words}
use Rattle.merge.specs.Pairs.{pair, pairs_at, flat_pairs, span}
use Rattle.compilation.specs.State.{Source, State, Out, done, Outs, many, stop, on_many}
use Rattle.compilation.specs.Table.{after, on_out, each_over, perhaps_at, weld}
use Rattle.compilation.specs.Compile.{Result, ok, refuse, then, Room, each, each_pair, optionally}
use Rattle.compilation.proofs.Grows.{Grown}
use Rattle.compilation.proofs.Same.{words_in, Same, made, stopped}

-- every number of a list is below c
pub data Below (c : ℕ) : List ℕ → Type 0 where
  no_more : Below c []
  below : {x : ℕ} {xs : List ℕ} → x < c → Below c xs → Below c (x ∷ xs)

pub span_below : (c : ℕ) (L : List ℕ) (at step n : ℕ) → ((i : ℕ) → i < n → get_or L (at + i * step) 0 < c) → Below c (span L at step n)
unfolding span
span_below c L at step zero h = no_more
span_below c L at step (suc n) h =
    let z : at + 0 * step ≡ at = omega arith in
    below (rw z at (h 0 (omega arith))) (span_below c L (at + step) step n (λ i l. rw (next i) at (h (suc i) (omega arith))))
  where
    next : (i : ℕ) → at + suc i * step ≡ at + step + i * step
    next i = omega (arith, suc-mul i step)

-- several children: the same records and words, or the same refusal
pub data SameMany (C : Source) (n : ℕ) : Outs → Result (List ℕ) → Type 0 where
  all_made : (st : State) (ns : List ℕ) → Grown C st → length ns ≡ n → SameMany C n (many st ns) (ok ns (words_in st))
  one_stopped : (k : ℕ) → SameMany C n (stop k) (refuse k)

pub many-then : {C : Source} {n : ℕ} {o : Outs} {r : Result (List ℕ)} (f : State → List ℕ → Out) (g : List ℕ → Words → Result ℕ) → SameMany C n o r → ((st : State) (ns : List ℕ) → Grown C st → length ns ≡ n → Same C (f st ns) (g ns (words_in st))) → Same C (on_many o f) (then r g)
many-then f g (all_made st ns i e) h = h st ns i e
many-then f g (one_stopped k) h = stopped k

-- pairs: the keys as they stand beside the new values
pub data SamePairs (C : Source) (keys : List ℕ) : Outs → Result (List (Pair ℕ)) → Type 0 where
  all_paired : (st : State) (ns : List ℕ) (ps : List (Pair ℕ)) → Grown C st → weld keys ns ≡ flat_pairs ps → length keys ≡ length ps → SamePairs C keys (many st ns) (ok ps (words_in st))
  none-paired : (k : ℕ) → SamePairs C keys (stop k) (refuse k)

pub pairs-then : {C : Source} {keys : List ℕ} {o : Outs} {r : Result (List (Pair ℕ))} (f : State → List ℕ → Out) (g : List (Pair ℕ) → Words → Result ℕ) → SamePairs C keys o r → ((st : State) (ns : List ℕ) (ps : List (Pair ℕ)) → Grown C st → weld keys ns ≡ flat_pairs ps → length keys ≡ length ps → Same C (f st ns) (g ps (words_in st))) → Same C (on_many o f) (then r g)
pairs-then f g (all_paired st ns ps i e l) h = h st ns ps i e l
pairs-then f g (none-paired k) h = stopped k

after_same : {C : Source} {n : ℕ} (y : ℕ) {o : Outs} {r : Result (List ℕ)} → SameMany C n o r → SameMany C (suc n) (after y o) (then r (λ ys t. ok (y ∷ ys) t))
after_same y (all_made st ns i e) = all_made st (y ∷ ns) i (ap suc e)
after_same y (one_stopped k) = one_stopped k

on_same : {C : Source} {n : ℕ} {o : Out} {r : Result ℕ} → Same C o r → (f : State → Outs) (g : Words → Result (List ℕ)) → ((st : State) → Grown C st → SameMany C n (f st) (g (words_in st))) → SameMany C (suc n) (on_out o (λ st y. after y (f st))) (then r (λ y t. then (g t) (λ ys t. ok (y ∷ ys) t)))
on_same (made st y i) f g h = after_same y (h st i)
on_same (stopped k) f g h = one_stopped k

after-pair : {C : Source} {keys : List ℕ} (key y : ℕ) {o : Outs} {r : Result (List (Pair ℕ))} → SamePairs C keys o r → SamePairs C (key ∷ keys) (after y o) (then r (λ ys t. ok (pair key y ∷ ys) t))
unfolding weld flat_pairs
after-pair key y (all_paired st ns ps i e l) = all_paired st (y ∷ ns) (pair key y ∷ ps) i (ap (λ (r : List ℕ). key ∷ y ∷ r) e) (ap suc l)
after-pair key y (none-paired k) = none-paired k

on_pair : {C : Source} {keys : List ℕ} (key : ℕ) {o : Out} {r : Result ℕ} → Same C o r → (f : State → Outs) (g : Words → Result (List (Pair ℕ))) → ((st : State) → Grown C st → SamePairs C keys (f st) (g (words_in st))) → SamePairs C (key ∷ keys) (on_out o (λ st y. after y (f st))) (then r (λ y t. then (g t) (λ ys t. ok (pair key y ∷ ys) t)))
on_pair key (made st y i) f g h = after-pair key y (h st i)
on_pair key (stopped k) f g h = none-paired k

-- what compiles a child, in both
abbrev pub Follows : Source → (State → ℕ → Out) → (ℕ → Words → Result ℕ) → Type 0
Follows C go to = (st : State) (s : ℕ) → Grown C st → s < C.count → Same C (go st s) (to s (words_in st))

module _ {C : Source} (R : Room) (eq : ℕ → ℕ → Bool) (find : ℕ → Option ℕ) (go : State → ℕ → Out) (to : ℕ → Words → Result ℕ) (follows : Follows C go to) where
  pub each_same : {xs : List ℕ} → Below C.count xs → (st : State) → Grown C st → SameMany C (length xs) (each_over go st xs) (each R eq find to xs (words_in st))
  unfolding each_over each
  each_same no_more st g = all_made st [] g refl
  each_same (below {x = x} {xs = xs} l b) st g = on_same (follows st x g l) (λ st₁. each_over go st₁ xs) (each R eq find to xs) (λ st₁ g₁. each_same b st₁ g₁)

  pairs_onward : (L : List ℕ) (n at on : ℕ) → on ≡ at + 1 → Below C.count (span L on 2 n) → (st : State) → Grown C st → SamePairs C (span L at 2 n) (each_over go st (span L on 2 n)) (each_pair R eq find to (pairs_at L at n) (words_in st))
  unfolding each_over each_pair span pairs_at weld flat_pairs
  pairs_onward L zero at on e b st g = all_paired st [] [] g refl refl
  pairs_onward L (suc n) at on e (below l b) st g =
      rw (← e) (on_pair (get_or L at 0) (follows st (get_or L on 0) g l) (λ st₁. each_over go st₁ (span L (on + 2) 2 n)) (each_pair R eq find to (pairs_at L (at + 2) n)) (λ st₁ g₁. pairs_onward L n (at + 2) (on + 2) (omega arith) b st₁ g₁))

  pub each_pair_same : (L : List ℕ) (at n : ℕ) → Below C.count (span L (at + 1) 2 n) → (st : State) → Grown C st → SamePairs C (span L at 2 n) (each_over go st (span L (at + 1) 2 n)) (each_pair R eq find to (pairs_at L at n) (words_in st))
  each_pair_same L at n b st g = pairs_onward L n at (at + 1) refl b st g

  pub optional_same : (s : ℕ) → ((s ≡ NONE → ⊥) → s < C.count) → (st : State) → Grown C st → Same C (perhaps_at go st s) (optionally R eq find to s (words_in st))
  unfolding optionally
  optional_same s h st g = choose (eqb s NONE) refl
    where
      choose : (t : Bool) → eqb s NONE ≡ t → Same C (pick t (done st NONE) (go st s)) (pick t (ok NONE (words_in st)) (to s (words_in st)))
      choose true e = made st NONE g
      choose false e = follows st s g (h (eqb-false s NONE e))
