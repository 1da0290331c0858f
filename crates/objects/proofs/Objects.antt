-- A search among an object's entries, and the steps of the loop over the required texts. Assumes nothing.
use mathlib.Core.Path.{◌≡◌, refl, ap, ◌∙◌}
use mathlib.Core.Bool.{Bool, true, false, ◌||◌}
use mathlib.Core.List.{List}
use Prim.Native.Nat.{ℕ, zero, suc, ◌+◌, ◌-◌, ◌<◌, ◌≤◌}
use lib.ListN.{get_or}
use Rattle.error.specs.declared.Detail.TheVariants as detail
use Rattle.layout.specs.Layout.{node_a, required_first, required_count}
use Rattle.lookup.specs.Find.{Found, first_from, found}
use Rattle.std.specs.Prelude.{Some}
use Rattle.lookup.specs.Lookup.{entry_key}
use Rattle.std.specs.List.{list_any, range_with_len}
use Rattle.text.specs.Choice.{pick}
use native.Mathlib.Numerals.{add-one}
use Rattle.schema.specs.Look.{slice}
use Rattle.schema.proofs.Slices.{slice_begin, slice_more, slice-end}
use Rattle.std.specs.Prelude.{Err}
use Rattle.judge.specs.declared.Wrong.TheVariants.{Value}
use Rattle.error.specs.declared.Reason.TheVariants as reason
use Rattle.judge.specs.Judge.{Verdict, fine, duplicate_wrong, has_key, missing, required_verdict}

-- one of a run of places passes where the first that passes is found
found_or : (t : Bool) (i : ℕ) {u : Bool} (f : Found) → u ≡ found f → (t || u) ≡ found (pick t (Some i) f)
found_or true i f h = refl
found_or false i f h = h

pub any_first : (f : ℕ → Bool) (i n : ℕ) → list_any f (range_with_len i n) ≡ found (first_from f i n)
unfolding first_from
any_first f i zero = refl
any_first f i (suc n) = found_or (f i) i _ (rw (add-one i) (any_first f (suc i) n))

-- 13, from what the code looked up
pub duplicate_is : (nodes links : List ℕ) (n k : ℕ) {key text : ℕ} → key ≡ entry_key nodes links n k → text ≡ node_a nodes key → ◌≡◌ {A = Verdict} (Err (Value reason.DuplicateKey key (detail.Key text))) (duplicate_wrong nodes links n (Some k))
duplicate_is nodes links n k p q = rw (q, p)

pub required_begin : (pool texts nodes schemas links : List ℕ) (first count n s : ℕ) {at e : ℕ} → at ≡ required_first schemas s → e ≡ required_count schemas s → required_verdict pool texts nodes links first count n (slice links (at + 0) (e - 0)) ≡ required_verdict pool texts nodes links first count n (slice links (required_first schemas s) (required_count schemas s))
required_begin pool texts nodes schemas links first count n s {at} {e} p q =
    ap (required_verdict pool texts nodes links first count n) (slice_begin links at e ∙ rw (p, q))

module _ (pool texts nodes links : List ℕ) (first count n at i e : ℕ) {x : Verdict} (inv : required_verdict pool texts nodes links first count n (slice links (at + i) (e - i)) ≡ x) where
  pub required_more : i < e → has_key pool texts nodes links n (get_or links (at + i) 0) ≡ true → required_verdict pool texts nodes links first count n (slice links (at + (i + 1)) (e - (i + 1))) ≡ x
  unfolding required_verdict
  required_more h t = rw (slice_more links at i e h, t) at inv

  pub required_stop : i < e → has_key pool texts nodes links n (get_or links (at + i) 0) ≡ false → missing pool texts links first count n (get_or links (at + i) 0) ≡ x
  unfolding required_verdict
  required_stop h t = rw (slice_more links at i e h, t) at inv

  pub required_end : e ≤ i → fine ≡ x
  unfolding required_verdict
  required_end h = rw (slice-end links at i e h) at inv
