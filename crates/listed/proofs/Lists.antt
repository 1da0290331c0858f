-- An enum's listed nodes and an array's items: the steps of the loops over them, and each verdict, test by test. Assumes nothing.
use mathlib.Core.Path.{◌≡◌, refl, sym, ap, ◌∙◌}
use mathlib.Core.Bool.{Bool, true, false, ◌||◌}
use mathlib.Core.List.{List, [], ◌∷◌}
use Prim.Native.Nat.{ℕ, zero, suc, ◌+◌, ◌-◌, ◌<◌, ◌≤◌}
use native.Mathlib.Omega.{arith}
use lib.ListN.{get_or}
use Rattle.number.specs.declared.equal.Equality.{Equality}
use Rattle.error.specs.declared.Mode.{Mode}
use Rattle.std.specs.Prelude.{Err}
use Rattle.std.specs.List.{list_any, range_with_len}
use Rattle.text.specs.Choice.{either}
use Rattle.layout.specs.Layout.{node_b, array_minimum, array_maximum, array_unique}
use Rattle.schema.specs.Look.{slice, own_words}
use Rattle.schema.proofs.Slices.{slice_more, slice-end, own_word}
use Rattle.error.specs.declared.Reason.{Reason}
use Rattle.judge.specs.declared.Wrong.{Wrong}
use Rattle.error.specs.declared.Reason.TheVariants as reason
use Rattle.judge.specs.Judge.{fine, first_wrong, kind_verdict, count_verdict, is_listed, any_repeated, unique_verdict, array_verdict}
use Rattle.judge.proofs.Verdicts.{kind_fits, kind_misfits}

or_either : (s : Bool) {t u : Bool} → t ≡ u → (s || t) ≡ either s u
or_either true h = refl
or_either false h = h

-- a test of a list that recurses by `either` is a test of the places of a slice
pub any_slice : (F : List ℕ → Bool) (p : ℕ → Bool) → F [] ≡ false → ((x : ℕ) (xs : List ℕ) → F (x ∷ xs) ≡ either (p x) (F xs)) → (links : List ℕ) (at i n : ℕ) → list_any (λ k. p (get_or links (at + k) 0)) (range_with_len i n) ≡ F (slice links (at + i) n)
unfolding slice
any_slice F p none step links at i zero = sym none
any_slice F p none step links at i (suc n) =
    let next : at + (i + 1) ≡ at + i + 1 = omega arith in
    or_either (p (get_or links (at + i) 0)) (any_slice F p none step links at (i + 1) n ∙ ap (λ (k : ℕ). F (slice links k n)) next)
    ∙ sym (step (get_or links (at + i) 0) (slice links (at + i + 1) n))

module _ (way : Equality) (pool texts nodes links numbers : List ℕ) (at i e : ℕ) {x : Bool} where
  module _ (inv : any_repeated way pool texts nodes links numbers (slice links (at + i) (e - i)) ≡ x) where
    pub repeated_more : i < e → is_listed way pool texts nodes links numbers (get_or links (at + i) 0) (slice links (at + (i + 1)) (e - (i + 1))) ≡ false → any_repeated way pool texts nodes links numbers (slice links (at + (i + 1)) (e - (i + 1))) ≡ x
    unfolding any_repeated
    repeated_more h t = rw (slice_more links at i e h, t) at inv

    pub repeated_stop : i < e → is_listed way pool texts nodes links numbers (get_or links (at + i) 0) (slice links (at + (i + 1)) (e - (i + 1))) ≡ true → true ≡ x
    unfolding any_repeated
    repeated_stop h t = rw (slice_more links at i e h, t) at inv

    pub repeated_end : e ≤ i → false ≡ x
    unfolding any_repeated
    repeated_end h = rw (slice-end links at i e h) at inv

module _ (m : Mode) (pool texts nodes schemas links numbers : List ℕ) (n s : ℕ) where
  pub array_fits : kind_verdict nodes 5 9 n ≡ fine → array_verdict m pool texts nodes links numbers (own_words schemas s 3 3) n ≡ first_wrong (count_verdict reason.ArrayLength n (array_minimum schemas s) (array_maximum schemas s) (node_b nodes n)) (unique_verdict m pool texts nodes links numbers (array_unique schemas s) n)
  unfolding array_verdict
  array_fits h =
      kind_fits nodes 5 9 n _ h ∙ rw (own_word schemas s 3 3 0 (omega arith), own_word schemas s 3 3 1 (omega arith), own_word schemas s 3 3 2 (omega arith))

  pub array_misfits : {e : Wrong Reason} → kind_verdict nodes 5 9 n ≡ Err e → array_verdict m pool texts nodes links numbers (own_words schemas s 3 3) n ≡ Err e
  unfolding array_verdict
  array_misfits h = kind_misfits nodes 5 9 n _ h
