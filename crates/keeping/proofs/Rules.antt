-- The rules of the check the other way: what makes a list, a list of pairs and a new record good, and that what was good stays good when the
-- words behind it grow. Assumes nothing.
use Prim.Native.Nat.{ℕ, zero, suc, ◌+◌, ◌*◌, ◌-◌, ◌<◌, ◌≤◌}
use mathlib.Core.Path.{◌≡◌, refl, sym, ap, ◌∙◌}
use mathlib.Core.Bool.{Bool, true, false, not}
use mathlib.Core.List.{List}
use mathlib.Core.Logic.{◌⊎◌, inl, inr}
use native.Mathlib.Omega.{arith}
use lib.ListN.{length, get_or}
use lib.Dec.{eqb, leb, ltb}
use borrow.Author.Tests.{eq-eqb, lt-ltb, le-leb}
use Rattle.text.specs.Choice.{pick, both, either, both-holds, both_left, both_right, either_left, either_right, same_test, not-holds}
use Rattle.text.specs.Text.{same_text}
use Rattle.text.proofs.Bytes.{same_text_sound}
use Rattle.layout.specs.Layout.{NONE, schema_word, schema_kind, schema_note, pair_key, pair_value, list_first, list_count, properties_first, properties_count, pattern_properties_first, pattern_properties_count, additional_properties, required_first, required_count, object_closed, property_names, bases_first, bases_count}
use Rattle.layout.specs.Rows.{list_row, array_row, object_row}
use Rattle.layout.specs.Walk.{every, first}
use Rattle.layout.proofs.Walk.{every_more, first_more, first_end}
use Rattle.records.specs.declared.Counts.{Counts}
use Rattle.lists.specs.Lists.{optional_below, link_below, list_below, pair_ok, keys_differ, key_is_new, keys_distinct, pairs_below, pairs_ok}
use Rattle.records.specs.Records.{list_node_ok, node_rule}
use Rattle.rules.specs.Schemas.{unused_at, unused_from, schema_note_ok, true_ok, number_ok, string_ok, list_ok, array_ok, bases_ok, object_pairs_ok, object_words_ok, object_ok, ref_ok, schema_rule, schema_ok}
use Rattle.lists.proofs.Walked.{every-none, every_at}
use Rattle.tables.proofs.Facts.{Optional, optional, ListIn, list_in, PairsIn, pairs_in}
use Rattle.compilation.proofs.Grows.{Begins}

-- a test that holds at each place
every_within : (f : ℕ → Bool) (n i e : ℕ) → e - i ≡ n → ((k : ℕ) → i ≤ k → k < e → f k ≡ true) → every f i e ≡ true
every_within f zero i e z h = every-none f i e (omega arith)
every_within f (suc n) i e z h = sym (every_more f i e refl (omega arith) (h i (omega arith) (omega arith))) ∙ every_within f n (i + 1) e (omega arith) (λ k a b. h k (omega arith) b)

pub every_made : (f : ℕ → Bool) (i e : ℕ) → ((k : ℕ) → i ≤ k → k < e → f k ≡ true) → every f i e ≡ true
every_made f i e h = every_within f (e - i) i e refl h

-- a search that finds nothing
first_within : (f : ℕ → Bool) (n i e : ℕ) → e - i ≡ n → i ≤ e → ((k : ℕ) → i ≤ k → k < e → f k ≡ true) → first f i e ≡ e
first_within f zero i e z l h = sym (first_end f i e refl l (omega arith))
first_within f (suc n) i e z l h = sym (first_more f i e refl (omega arith) (h i (omega arith) (omega arith))) ∙ first_within f n (i + 1) e (omega arith) (omega arith) (λ k a b. h k (omega arith) b)

pub first_made : (f : ℕ → Bool) (e : ℕ) → ((k : ℕ) → k < e → f k ≡ true) → first f 0 e ≡ e
first_made f e h = first_within f (e - 0) 0 e refl (omega arith) (λ k a b. h k b)

pub optional_made : {w limit : ℕ} → Optional w limit → optional_below w limit ≡ true
unfolding optional_below
optional_made {w} {limit} (inl e) = either_left (ltb w limit) (eq-eqb w NONE e)
optional_made {w} {limit} (inr l) = either_right (eqb w NONE) (lt-ltb w limit l)

pub optional_more : {w a b : ℕ} → a ≤ b → Optional w a → Optional w b
optional_more le (inl e) = inl e
optional_more le (inr l) = inr (omega arith)

pub list_made : {links : List ℕ} {at count limit : ℕ} → ListIn links at count limit → list_below links at count limit ≡ true
unfolding list_below link_below
list_made {links} {at} {count} {limit} h =
    both-holds (le-leb (at + count) (length links) h.inside)
    (every_made (link_below links limit) at (at + count) (λ k a b.
    let e : at + (k - at) ≡ k = omega arith in
    lt-ltb (get_or links k 0) limit (rw e at (h.below (k - at) (omega arith)))))

pub list_later : {L L' : List ℕ} {at count a b : ℕ} → Begins L L' → a ≤ b → ListIn L at count a → ListIn L' at count b
list_later {L} {L'} {at} {count} g le h = record {
  inside = omega (arith, g.long, h.inside);
  below = λ k l. rw (g.same (at + k) (omega (arith, h.inside))) (omega (arith, h.below k l));
}

-- pairs in the links: keys and values below their limits, no two keys of equal bytes
pub record PairsHeld (pool texts links : List ℕ) (at count known limit : ℕ) : Type 0 where
  pub inside : at + count * 2 ≤ length links
  pub key : (k : ℕ) → k < count → pair_key links at k < known
  pub value : (k : ℕ) → k < count → pair_value links at k < limit
  pub distinct : (i j : ℕ) → i < j → j < count → same_text pool texts (pair_key links at i) (pair_key links at j) ≡ false

module _ (pool texts : List ℕ) where
  pub pairs_made : {links : List ℕ} {at count known limit : ℕ} → PairsHeld pool texts links at count known limit → pairs_ok pool texts links at count known limit ≡ true
  unfolding pairs_ok pairs_below pair_ok keys_distinct key_is_new keys_differ
  pairs_made {links} {at} {count} {known} {limit} h =
      both-holds
      (both-holds (le-leb (at + count * 2) (length links) h.inside)
      (every_made (pair_ok links at known limit) 0 count (λ k a b. both-holds (lt-ltb (pair_key links at k) known (h.key k b)) (lt-ltb (pair_value links at k) limit (h.value k b)))))
      (every_made (key_is_new pool texts links at) 0 count (λ j a b. every_made (keys_differ pool texts links at j) 0 j (λ i c d. ap not (h.distinct i j d b))))

  pub pairs-held : {links : List ℕ} {at count known limit : ℕ} → PairsIn pool texts links at count known limit → PairsHeld pool texts links at count known limit
  pairs-held {links} {at} {count} h = record {
    inside = h.inside;
    key = h.key;
    value = h.value;
    distinct = λ i j l m. not-holds _ (λ t. let e : i ≡ j = h.distinct i j (omega arith) m (same_text_sound pool texts (pair_key links at i) (pair_key links at j) t) in omega arith);
  }

  pub pairs-later : {L L' : List ℕ} {at count known a b : ℕ} → Begins L L' → a ≤ b → PairsHeld pool texts L at count known a → PairsHeld pool texts L' at count known b
  unfolding pair_key pair_value
  pairs-later {L} {L'} {at} {count} g le h = record {
    inside = omega (arith, g.long, h.inside);
    key = λ k l. rw (g.same (at + k * 2) (omega (arith, h.inside))) (h.key k l);
    value = λ k l. rw (g.same (at + k * 2 + 1) (omega (arith, h.inside))) (omega (arith, h.value k l));
    distinct = λ i j l m. rw (g.same (at + i * 2) (omega (arith, h.inside)), g.same (at + j * 2) (omega (arith, h.inside))) (h.distinct i j l m);
  }

-- a rule by cases keeps where each case keeps
pick_more : (t : Bool) (a b c d : Bool) → (a ≡ true → c ≡ true) → (b ≡ true → d ≡ true) → pick t a b ≡ true → pick t c d ≡ true
pick_more true a b c d f g h = f h
pick_more false a b c d f g h = g h

both_more : (a b c d : Bool) → (a ≡ true → c ≡ true) → (b ≡ true → d ≡ true) → both a b ≡ true → both c d ≡ true
both_more a b c d f g h = both-holds (f (both_left a b h)) (g (both_right a b h))

-- ---- longer links
module _ {L L' : List ℕ} (g : Begins L L') where
  list_longer : (at count limit : ℕ) → list_below L at count limit ≡ true → list_below L' at count limit ≡ true
  list_longer at count limit h = list_made (list_later g (omega arith) (list_in L at count limit h))

  pairs_longer : (pool texts : List ℕ) (at count known limit : ℕ) → pairs_ok pool texts L at count known limit ≡ true → pairs_ok pool texts L' at count known limit ≡ true
  pairs_longer pool texts at count known limit h = pairs_made pool texts (pairs-later pool texts g (omega arith) (pairs-held pool texts (pairs_in pool texts L at count known limit h)))

  pub node_longer : (z z' : Counts) → z'.numbers ≡ z.numbers → z'.texts ≡ z.texts → (n kind a b c : ℕ) → node_rule z L n kind a b c ≡ true → node_rule z' L' n kind a b c ≡ true
  unfolding node_rule list_node_ok
  node_longer z z' e f n kind a b c =
      rw (e, f)
      (pick_more (eqb kind 0) _ _ _ _ (λ h. h)
      (pick_more (eqb kind 1) _ _ _ _ (λ h. h)
      (pick_more (eqb kind 2) _ _ _ _ (λ h. h)
      (pick_more (eqb kind 3) _ _ _ _ (λ h. h)
      (pick_more (eqb kind 4) _ _ _ _ (λ h. h)
      (pick_more (eqb kind 5) _ _ _ _ (both_more (list_below L a b n) _ (list_below L' a b n) _ (list_longer a b n) (λ h. h))
      (pick_more (eqb kind 6) _ _ _ _ (both_more (list_below L a (b * 2) n) _ (list_below L' a (b * 2) n) _ (list_longer a (b * 2) n) (λ h. h))
      (λ h. h))))))))

  module _ (z : Counts) (pool texts S : List ℕ) (s : ℕ) where
    list_rule : (limit : ℕ) → list_ok L S s limit ≡ true → list_ok L' S s limit ≡ true
    unfolding list_ok
    list_rule limit = both_more (list_below L (list_first S s) (list_count S s) limit) _ (list_below L' (list_first S s) (list_count S s) limit) _ (list_longer (list_first S s) (list_count S s) limit) (λ h. h)

    bases_rule : bases_ok L S s ≡ true → bases_ok L' S s ≡ true
    unfolding bases_ok
    bases_rule = pick_more (eqb (bases_first S s) NONE) _ _ _ _ (λ h. h) (list_longer (bases_first S s) (bases_count S s) s)

    object_rule : object_ok z pool texts L S s ≡ true → object_ok z pool texts L' S s ≡ true
    unfolding object_ok object_pairs_ok object_words_ok
    object_rule =
        both_more (object_pairs_ok z pool texts L S s) _ (object_pairs_ok z pool texts L' S s) _
        (both_more (pairs_ok pool texts L (properties_first S s) (properties_count S s) z.texts s) _ (pairs_ok pool texts L' (properties_first S s) (properties_count S s) z.texts s) _
        (pairs_longer pool texts (properties_first S s) (properties_count S s) z.texts s) (pairs_longer pool texts (pattern_properties_first S s) (pattern_properties_count S s) z.texts s))
        (both_more (optional_below (additional_properties S s) s) _ (optional_below (additional_properties S s) s) _ (λ h. h)
        (both_more (list_below L (required_first S s) (required_count S s) z.texts) _ (list_below L' (required_first S s) (required_count S s) z.texts) _ (list_longer (required_first S s) (required_count S s) z.texts)
        (both_more (leb (object_closed S s) 1) _ (leb (object_closed S s) 1) _ (λ h. h)
        (both_more (optional_below (property_names S s) s) _ (optional_below (property_names S s) s) _ (λ h. h) bases_rule))))

    schema_longer : (kind : ℕ) → schema_rule z pool texts L S s kind ≡ true → schema_rule z pool texts L' S s kind ≡ true
    unfolding schema_rule
    schema_longer kind =
        pick_more (eqb kind 0) _ _ _ _ (λ h. h)
        (pick_more (eqb kind 1) _ _ _ _ (λ h. h)
        (pick_more (eqb kind 2) _ _ _ _ (λ h. h)
        (pick_more (eqb kind 3) _ _ _ _ (λ h. h)
        (pick_more (eqb kind 4) _ _ _ _ (λ h. h)
        (pick_more (eqb kind 5) _ _ _ _ (list_rule z.nodes)
        (pick_more (eqb kind 6) _ _ _ _ (λ h. h)
        (pick_more (eqb kind 7) _ _ _ _ (list_rule s)
        (pick_more (eqb kind 8) _ _ _ _ (list_rule s)
        (pick_more (eqb kind 9) _ _ _ _ (λ h. h)
        (pick_more (eqb kind 10) _ _ _ _ object_rule
        (λ h. h)))))))))))

-- ---- the same words
module _ (S S' : List ℕ) (s : ℕ) (same : (k : ℕ) → k < 16 → schema_word S' s k ≡ schema_word S s k) where
  unused_same : (k : ℕ) → unused_from S' s k ≡ unused_from S s k
  unfolding unused_from unused_at
  unused_same k =
      same_test (every (unused_at S' s) k 16) (every (unused_at S s) k 16)
      (λ h. every_made (unused_at S s) k 16 (λ j a b. ap (λ (w : ℕ). eqb w 0) (sym (same j b)) ∙ every_at (unused_at S' s) k 16 h j a b))
      (λ h. every_made (unused_at S' s) k 16 (λ j a b. ap (λ (w : ℕ). eqb w 0) (same j b) ∙ every_at (unused_at S s) k 16 h j a b))

  rule_same : (z z' : Counts) → z'.numbers ≡ z.numbers → z'.texts ≡ z.texts → z'.nodes ≡ z.nodes → (pool texts L : List ℕ) (kind : ℕ) → schema_rule z' pool texts L S' s kind ≡ schema_rule z pool texts L S s kind
  unfolding schema_rule true_ok number_ok string_ok list_ok array_ok bases_ok object_pairs_ok object_words_ok object_ok ref_ok
  rule_same z z' e f n pool texts L kind =
      rw (e, f, n, unused_same 2, unused_same 4, unused_same 5, unused_same 6, unused_same 7, same 1 (omega arith), same 2 (omega arith), same 3 (omega arith), same 4 (omega arith), same 5 (omega arith), same 6 (omega arith), same 7 (omega arith), same 8 (omega arith), same 11 (omega arith), same 12 (omega arith), same 14 (omega arith), same 15 (omega arith))

  -- a good record stays good
  pub schema-kept : {L L' : List ℕ} → Begins L L' → (z z' : Counts) → z'.numbers ≡ z.numbers → z'.texts ≡ z.texts → z'.nodes ≡ z.nodes → z.notes ≤ z'.notes → (pool texts : List ℕ) →
      schema_ok z pool texts L S s ≡ true → schema_ok z' pool texts L' S' s ≡ true
  unfolding schema_ok schema_note_ok
  schema-kept {L} {L'} g z z' e f n le pool texts h =
      let t = optional_below (schema_note S s) z.notes in
      let noted : optional_below (schema_note S' s) z'.notes ≡ true = rw (same 1 (omega arith)) (optional_made (optional_more le (optional (schema_note S s) z.notes (both_left t _ h)))) in
      let ruled : schema_rule z pool texts L' S s (schema_kind S s) ≡ true = schema_longer g z pool texts S s (schema_kind S s) (both_right t _ h) in
      both-holds noted (ap (λ (k : ℕ). schema_rule z' pool texts L' S' s k) (same 0 (omega arith)) ∙ (rule_same z z' e f n pool texts L' (schema_kind S s) ∙ ruled))

-- ---- new records
module _ (z : Counts) (pool texts L S : List ℕ) (s : ℕ) where
  abbrev Row : List ℕ → Type 0
  Row row = (k : ℕ) → k < 16 → schema_word S s k ≡ get_or row k 0

  list_unused : (kind note at n : ℕ) → Row (list_row kind note at n) → unused_from S s 4 ≡ true
  unfolding unused_from unused_at every
  list_unused kind note at n w =
      rw (w 4 (omega arith), w 5 (omega arith), w 6 (omega arith), w 7 (omega arith), w 8 (omega arith), w 9 (omega arith), w 10 (omega arith), w 11 (omega arith), w 12 (omega arith), w 13 (omega arith), w 14 (omega arith), w 15 (omega arith))

  pub any_ok : (note at n : ℕ) → Row (list_row 7 note at n) → Optional note z.notes → ListIn L at n s → schema_ok z pool texts L S s ≡ true
  unfolding schema_ok schema_note_ok schema_rule list_ok
  any_ok note at n w p q =
      rw (w 0 (omega arith), w 1 (omega arith), w 2 (omega arith), w 3 (omega arith)) (both-holds (optional_made p) (both-holds (list_made q) (list_unused 7 note at n w)))

  pub all_ok : (note at n : ℕ) → Row (list_row 8 note at n) → Optional note z.notes → ListIn L at n s → schema_ok z pool texts L S s ≡ true
  unfolding schema_ok schema_note_ok schema_rule list_ok
  all_ok note at n w p q =
      rw (w 0 (omega arith), w 1 (omega arith), w 2 (omega arith), w 3 (omega arith)) (both-holds (optional_made p) (both-holds (list_made q) (list_unused 8 note at n w)))

  array_unused : (note items least most unique : ℕ) → Row (array_row note items least most unique) → unused_from S s 6 ≡ true
  unfolding unused_from unused_at every
  array_unused note items least most unique w =
      rw (w 6 (omega arith), w 7 (omega arith), w 8 (omega arith), w 9 (omega arith), w 10 (omega arith), w 11 (omega arith), w 12 (omega arith), w 13 (omega arith), w 14 (omega arith), w 15 (omega arith))

  unique_made : (w : ℕ) → (w ≡ NONE) ⊎ (w ≤ 1) → either (eqb w NONE) (leb w 1) ≡ true
  unique_made w (inl e) = either_left (leb w 1) (eq-eqb w NONE e)
  unique_made w (inr l) = either_right (eqb w NONE) (le-leb w 1 l)

  pub array_ok_lem : (note items least most unique : ℕ) → Row (array_row note items least most unique) → Optional note z.notes → Optional items s → (unique ≡ NONE) ⊎ (unique ≤ 1) → schema_ok z pool texts L S s ≡ true
  unfolding schema_ok schema_note_ok schema_rule array_ok
  array_ok_lem note items least most unique w p q u =
      rw (w 0 (omega arith), w 1 (omega arith), w 2 (omega arith), w 5 (omega arith))
      (both-holds (optional_made p) (both-holds (optional_made q) (both-holds (unique_made unique u) (array_unused note items least most unique w))))

  pub object-ok : (note p np q nq additional r nr least most closed names naming : ℕ) → Row (object_row note p np q nq additional r nr least most closed names naming) →
      Optional note z.notes → PairsHeld pool texts L p np z.texts s → PairsHeld pool texts L q nq z.texts s → Optional additional s → ListIn L r nr z.texts → closed ≤ 1 → Optional names s →
      schema_ok z pool texts L S s ≡ true
  unfolding schema_ok schema_note_ok schema_rule object_ok object_pairs_ok object_words_ok bases_ok
  object-ok note p np q nq additional r nr least most closed names naming w a b c d e f g =
      rw (w 0 (omega arith), w 1 (omega arith), w 2 (omega arith), w 3 (omega arith), w 4 (omega arith), w 5 (omega arith), w 6 (omega arith), w 7 (omega arith), w 8 (omega arith), w 11 (omega arith), w 12 (omega arith), w 14 (omega arith), w 15 (omega arith))
      (both-holds (optional_made a)
      (both-holds (both-holds (pairs_made pool texts b) (pairs_made pool texts c))
      (both-holds (optional_made d) (both-holds (list_made e) (both-holds (le-leb closed 1 f) (both-holds (optional_made g) refl))))))
