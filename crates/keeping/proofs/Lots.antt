-- Lists of pairs whose keys are texts that differ in bytes, and whose values are records: read from the links, merged, and linked again.
-- Assumes nothing.
use Prim.Native.Nat.{ℕ, zero, suc, ◌+◌, ◌<◌, ◌≤◌}
use mathlib.Core.Path.{◌≡◌, sym, ap, subst, ◌∙◌}
use mathlib.Core.Bool.{Bool, true, false}
use mathlib.Core.List.{List, [], ◌∷◌, ◌++◌, append-nil}
use mathlib.Core.Logic.{⊎_elim}
use native.Mathlib.Omega.{arith}
use lib.ListN.{length, get_or, length-append}
use lib.Seq.{get_or-append-add}
use Rattle.text.specs.Choice.{pick, le_or_lt}
use Rattle.text.specs.Text.{same_text}
use Rattle.layout.specs.Layout.{pair_key, pair_value}
use Rattle.tables.proofs.Facts.{ListIn}
use Rattle.schema.specs.Shape.{Pair}
use Rattle.schema.specs.Look.{pairs_from}
use Rattle.merge.specs.Merge.{put, put_all}
use Rattle.merge.specs.Pairs.{pairs_at, flat_pairs}
use Rattle.merge.proofs.Laws.{flat_length}
use Rattle.grouping.specs.Tree.{Every, nil, one, EveryPair, nil_pair, one_pair}
use Rattle.grouping.proofs.Merging.{Keys, Lacks, ended, other, Distinct, done, new, put_all_distinct}
use Rattle.grouping.proofs.Natural.{put_all_in}
use Rattle.grouping.proofs.Growing.{pairs_new}
use Rattle.merge.proofs.Lists.{pairs_are}
use Rattle.grouping.proofs.Shapes.{pairs_less}
use Rattle.grouping.proofs.WellFormed.{pairs-every}
use Rattle.grouping.proofs.Grouping.{text_keys}
use Rattle.keeping.proofs.Rules.{PairsHeld}

-- a list of records, linked
every_place : {P : ℕ → Type 0} {xs : List ℕ} → Every P xs → (k : ℕ) → k < length xs → P (get_or xs k 0)
every_place nil k l = absurd (omega arith)
every_place (one p ps) zero l = p
every_place (one p ps) (suc k) l = every_place ps k (omega arith)

pub links_in : (L x : List ℕ) (n : ℕ) → Every (λ y. y < n) x → ListIn (L ++ x) (length L) (length x) n
links_in L x n h = record {
  inside = omega (arith, length-append L x);
  below = λ k l. subst (λ (y : ℕ). y < n) (sym (get_or-append-add L x k 0)) (every_place h k l);
}

-- every key is below
pub data Keyed (known : ℕ) : List (Pair ℕ) → Type 0 where
  no_keys : Keyed known []
  one_key : {x : Pair ℕ} {xs : List (Pair ℕ)} → x.key < known → Keyed known xs → Keyed known (x ∷ xs)

put-keyed : (eq : ℕ → ℕ → Bool) (known : ℕ) (p : Pair ℕ) (l : List (Pair ℕ)) → p.key < known → Keyed known l → Keyed known (put eq p l)
unfolding put
put-keyed eq known p [] a no_keys = one_key a no_keys
put-keyed eq known p (q ∷ qs) a (one_key b bs) = at (eq q.key p.key) (put-keyed eq known p qs a bs)
  where
    at : (c : Bool) → Keyed known (put eq p qs) → Keyed known (pick c (p ∷ qs) (q ∷ put eq p qs))
    at true r = one_key a bs
    at false r = one_key b r

put_all-keyed : (eq : ℕ → ℕ → Bool) (known : ℕ) (l xs : List (Pair ℕ)) → Keyed known l → Keyed known xs → Keyed known (put_all eq l xs)
unfolding put_all
put_all-keyed eq known l [] a no_keys = a
put_all-keyed eq known l (x ∷ xs) a (one_key b bs) = put_all-keyed eq known (put eq x l) xs (put-keyed eq known x l b a) bs

-- the same keys, in order
pub data Rekeyed : List (Pair ℕ) → List (Pair ℕ) → Type 0 where
  none_rekeyed : Rekeyed [] []
  one_rekeyed : {x y : Pair ℕ} {xs ys : List (Pair ℕ)} → x.key ≡ y.key → Rekeyed xs ys → Rekeyed (x ∷ xs) (y ∷ ys)

keyed_again : {known : ℕ} {xs ys : List (Pair ℕ)} → Rekeyed xs ys → Keyed known xs → Keyed known ys
keyed_again none_rekeyed no_keys = no_keys
keyed_again {known} (one_rekeyed e r) (one_key a b) = one_key (subst (λ (k : ℕ). k < known) e a) (keyed_again r b)

module _ (pool texts : List ℕ) where
  abbrev eq : ℕ → ℕ → Bool
  eq = same_text pool texts

  abbrev K : Keys eq
  K = text_keys pool texts

  pub record Lot (known limit : ℕ) (ps : List (Pair ℕ)) : Type 0 where
    pub keys : Keyed known ps
    pub values : EveryPair (λ x. x < limit) ps
    pub distinct : Distinct {A = ℕ} eq K ps

  pub lot_none : (known limit : ℕ) → Lot known limit []
  lot_none known limit = record { keys = no_keys; values = nil_pair; distinct = done }

  pub lot_more : {known a b : ℕ} {ps : List (Pair ℕ)} → a ≤ b → Lot known a ps → Lot known b ps
  lot_more le h = record { keys = h.keys; values = pairs_less le h.values; distinct = h.distinct }

  pub lot_put : {known limit : ℕ} {l xs : List (Pair ℕ)} → Lot known limit l → Lot known limit xs → Lot known limit (put_all eq l xs)
  lot_put {known} {limit} {l} {xs} a b = record {
    keys = put_all-keyed eq known l xs a.keys b.keys;
    values = put_all_in eq l xs a.values b.values;
    distinct = put_all_distinct eq K l xs a.distinct;
  }

  lacks_again : {k : ℕ} {xs ys : List (Pair ℕ)} → Rekeyed xs ys → Lacks {A = ℕ} eq K k xs → Lacks {A = ℕ} eq K k ys
  lacks_again none_rekeyed ended = ended
  lacks_again {k} (one_rekeyed e r) (other a b) = other (subst (λ (x : ℕ). eq x k ≡ false) e a) (lacks_again r b)

  distinct_again : {xs ys : List (Pair ℕ)} → Rekeyed xs ys → Distinct {A = ℕ} eq K xs → Distinct {A = ℕ} eq K ys
  distinct_again none_rekeyed done = done
  distinct_again (one_rekeyed {ys = ys} e r) (new a b) = new (subst (λ (x : ℕ). Lacks {A = ℕ} eq K x ys) e (lacks_again r a)) (distinct_again r b)

  -- compiled values under the same keys
  pub lot_again : {known a b : ℕ} {xs ys : List (Pair ℕ)} → Rekeyed xs ys → Lot known a xs → EveryPair (λ x. x < b) ys → Lot known b ys
  lot_again r h v = record { keys = keyed_again r h.keys; values = v; distinct = distinct_again r h.distinct }

  -- ---- read from the links
  module _ (links : List ℕ) (at : ℕ) where
    keyed-from : (k n known : ℕ) → ((j : ℕ) → k ≤ j → j < k + n → pair_key links at j < known) → Keyed known (pairs_from links at k n)
    unfolding pairs_from
    keyed-from k zero known h = no_keys
    keyed-from k (suc n) known h = one_key (h k (omega arith) (omega arith)) (keyed-from (k + 1) n known (λ j a b. h j (omega arith) (omega arith)))

    lacks_from : (x k n : ℕ) → ((j : ℕ) → k ≤ j → j < k + n → eq (pair_key links at j) x ≡ false) → Lacks {A = ℕ} eq K x (pairs_from links at k n)
    unfolding pairs_from
    lacks_from x k zero h = ended
    lacks_from x k (suc n) h = other (h k (omega arith) (omega arith)) (lacks_from x (k + 1) n (λ j a b. h j (omega arith) (omega arith)))

    distinct_from : (k n : ℕ) → ((i j : ℕ) → k ≤ i → i < j → j < k + n → eq (pair_key links at i) (pair_key links at j) ≡ false) → Distinct {A = ℕ} eq K (pairs_from links at k n)
    unfolding pairs_from
    distinct_from k zero h = done
    distinct_from k (suc n) h =
        new (lacks_from (pair_key links at k) (k + 1) n (λ j a b. K.turn (pair_key links at j) (pair_key links at k) ∙ h k j (omega arith) (omega arith) (omega arith)))
        (distinct_from (k + 1) n (λ i j a b c. h i j (omega arith) b (omega arith)))

    pub lot_read : (n known limit : ℕ) → PairsHeld pool texts links at n known limit → Lot known limit (pairs_from links at 0 n)
    lot_read n known limit h = record {
      keys = keyed-from 0 n known (λ j a b. h.key j (omega arith));
      values = pairs-every links at 0 n limit (λ j a b. h.value j (omega arith));
      distinct = distinct_from 0 n (λ i j a b c. h.distinct i j b (omega arith));
    }

    -- ---- and what that says of each place
    keyed_at : (k n known : ℕ) → Keyed known (pairs_from links at k n) → (j : ℕ) → k ≤ j → j < k + n → pair_key links at j < known
    unfolding pairs_from
    keyed_at k zero known h j a b = absurd (omega arith)
    keyed_at k (suc n) known (one_key p ps) j a b =
        ⊎_elim (λ l. let e : k ≡ j = omega arith in subst (λ (i : ℕ). pair_key links at i < known) e p) (λ l. keyed_at (k + 1) n known ps j (omega arith) (omega arith)) (le_or_lt j k)

    values_at_lem : (k n limit : ℕ) → EveryPair (λ x. x < limit) (pairs_from links at k n) → (j : ℕ) → k ≤ j → j < k + n → pair_value links at j < limit
    unfolding pairs_from
    values_at_lem k zero limit h j a b = absurd (omega arith)
    values_at_lem k (suc n) limit (one_pair p ps) j a b =
        ⊎_elim (λ l. let e : k ≡ j = omega arith in subst (λ (i : ℕ). pair_value links at i < limit) e p) (λ l. values_at_lem (k + 1) n limit ps j (omega arith) (omega arith)) (le_or_lt j k)

    lacks_at : (x k n : ℕ) → Lacks {A = ℕ} eq K x (pairs_from links at k n) → (j : ℕ) → k ≤ j → j < k + n → eq (pair_key links at j) x ≡ false
    unfolding pairs_from
    lacks_at x k zero h j a b = absurd (omega arith)
    lacks_at x k (suc n) (other p ps) j a b =
        ⊎_elim (λ l. let e : k ≡ j = omega arith in subst (λ (i : ℕ). eq (pair_key links at i) x ≡ false) e p) (λ l. lacks_at x (k + 1) n ps j (omega arith) (omega arith)) (le_or_lt j k)

    distinct_at : (k n : ℕ) → Distinct {A = ℕ} eq K (pairs_from links at k n) → (i j : ℕ) → k ≤ i → i < j → j < k + n → eq (pair_key links at i) (pair_key links at j) ≡ false
    unfolding pairs_from
    distinct_at k zero h i j a b c = absurd (omega arith)
    distinct_at k (suc n) (new p ps) i j a b c =
        ⊎_elim
        (λ l. let e : k ≡ i = omega arith in
        subst (λ (x : ℕ). eq (pair_key links at x) (pair_key links at j) ≡ false) e (K.turn (pair_key links at k) (pair_key links at j) ∙ lacks_at (pair_key links at k) (k + 1) n p j (omega arith) (omega arith)))
        (λ l. distinct_at (k + 1) n ps i j (omega arith) b (omega arith)) (le_or_lt i k)

  -- linked
  pub lot_held : (L : List ℕ) (ps : List (Pair ℕ)) (known limit : ℕ) → Lot known limit ps → PairsHeld pool texts (L ++ flat_pairs ps) (length L) (length ps) known limit
  lot_held L ps known limit h =
      let X : List ℕ = L ++ flat_pairs ps in
      let is : pairs_from X (length L) 0 (length ps) ≡ ps =
      pairs_are X (length L) (length ps) ∙ (ap (λ (y : List ℕ). pairs_at (L ++ y) (length L) (length ps)) (sym (append-nil (flat_pairs ps))) ∙ pairs_new L ps []) in
      let read : Lot known limit (pairs_from X (length L) 0 (length ps)) = subst (Lot known limit) (sym is) h in
      record {
        inside = omega (arith, length-append L (flat_pairs ps), flat_length ps);
        key = λ k l. keyed_at X (length L) 0 (length ps) known read.keys k (omega arith) (omega arith);
        value = λ k l. values_at_lem X (length L) 0 (length ps) limit read.values k (omega arith) (omega arith);
        distinct = λ i j a b. distinct_at X (length L) 0 (length ps) read.distinct i j (omega arith) a (omega arith);
      }
