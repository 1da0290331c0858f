-- Each kind that is built anew, over the tables and over the words. `go` and `to` compile a child. Assumes nothing.
use Prim.Native.Nat.{ℕ, ◌+◌, ◌*◌, ◌/◌, ◌<◌, ◌≤◌}
use mathlib.Core.Path.{◌≡◌, refl, sym, ap, ◌∙◌}
use mathlib.Core.Bool.{Bool, true, false}
use mathlib.Core.List.{List, [], ◌∷◌}
use mathlib.Core.Option.{Option, some, none}
use native.Mathlib.Omega.{arith}
use lib.ListN.{length, get_or}
use lib.Dec.{eqb}
use borrow.Author.Tests.{ne_eqb, eqb-false}
use Rattle.text.specs.Choice.{pick}
use Rattle.text.specs.Text.{same_text}
use Rattle.layout.specs.Layout.{NONE, schema_word, schema_note, array_items, additional_properties, property_names, required_first, required_count, object_minimum, object_maximum, object_closed, naming_convention, bases_first, bases_count, pair_value, note_count, note_word}
use Rattle.layout.specs.Rows.{array_row, object_row}
use Rattle.tables.proofs.Facts.{Optional, present, ListIn, PairsIn, ObjectFacts}
use Rattle.schema.specs.Shape.{Pair, Object}
use Rattle.schema.specs.Look.{Words, slice, note_at, list_of, object_of}
use Rattle.merge.specs.Merge.{description_of}
use Rattle.merge.specs.Pairs.{pairs_at, flat_pairs, record_pairs, span}
use Rattle.joins.specs.Joins.{note_field, required_of}
use Rattle.merge.proofs.Lists.{span-length, span-slice}
use Rattle.joins.proofs.Gathered.{keep_listed, objects}
use Rattle.compilation.specs.State.{Source, State, Out, refused, and_then, add_links, add_schema}
use Rattle.compilation.specs.Table.{field, group_at, array_at, all_objects, merge_at, perhaps_at, weld, plain_at, derived_at}
use Rattle.compilation.specs.Compile.{Result, then, Room, add_row as appendRow, add_list, add_array, add_object, each, each_pair, optionally, merge_from, objects_of, looks}
use Rattle.compilation.proofs.Grows.{Grown, word_same, slice_same, pairs_same}
use Rattle.compilation.proofs.Same.{words_in, Same, stopped, same_then, same_as, Rooms, schema_added, links_added, list_added}
use Rattle.compilation.proofs.Children.{Below, span_below, many-then, pairs-then, Follows, each_same, each_pair_same, optional_same}
use Rattle.compilation.proofs.Looked.{seen, objects_all, objects_none}
use Rattle.compilation.proofs.Joined.{read_note}
use Rattle.compilation.proofs.Bases.{Says, seen_props, seen_patterns, bases_merged}

-- a list of records lies in the source, and each of them is one of its own
pub list_below_lem : {L : List ℕ} {first count limit c : ℕ} → ListIn L first count limit → limit ≤ c → Below c (span L first 1 count)
list_below_lem {L} {first} {count} {limit} {c} l h = span_below c L first 1 count (λ i k. rw (one i) (omega (arith, l.below i k)))
  where
    one : (i : ℕ) → first + i * 1 ≡ first + i
    one i = omega arith

pub pairs_below_lem : {pool texts L : List ℕ} {first count known limit c : ℕ} → PairsIn pool texts L first count known limit → limit ≤ c → Below c (span L (first + 1) 2 count)
unfolding pair_value
pairs_below_lem {pool} {texts} {L} {first} {count} {known} {limit} {c} l h = span_below c L (first + 1) 2 count (λ i k. rw (one i) (omega (arith, l.value i k)))
  where
    one : (i : ℕ) → first + 1 + i * 2 ≡ first + i * 2 + 1
    one i = omega arith

module _ {C : Source} (whole : length C.schemas ≡ C.count * 16) (s : ℕ) (h : s < C.count) where
  -- a record of the source, read later
  pub word : {st : State} → Grown C st → (k : ℕ) → k < 16 → schema_word st.schemas s k ≡ field C s k
  word g k l = word_same g.schemas C.count s k whole h l

  pub list_read : {st : State} → Grown C st → (k : ℕ) → k < 15 → field C s k + field C s (k + 1) ≤ length C.links → slice st.links (schema_word st.schemas s k) (schema_word st.schemas s (k + 1)) ≡ slice C.links (field C s k) (field C s (k + 1))
  list_read {st} g k l i = rw (word g k (omega arith), word g (k + 1) (omega arith)) (slice_same g.links (field C s k) (field C s (k + 1)) i)

  pub pairs_read : {st : State} → Grown C st → (k : ℕ) → k < 15 → field C s k + field C s (k + 1) * 2 ≤ length C.links → record_pairs st.schemas st.links k s ≡ record_pairs C.schemas C.links k s
  unfolding record_pairs
  pairs_read {st} g k l i = rw (word g k (omega arith), word g (k + 1) (omega arith)) (pairs_same g.links (field C s k) (field C s (k + 1)) i)

  description_read : {st : State} → Grown C st → Optional (field C s 1) (note_count C.notes) → description_of (note_at st.notes (schema_note st.schemas s)) ≡ note_field C.notes C.schemas s 1
  unfolding note_at note_field note_word note_count
  description_read {st} g o = rw (word g 1 (omega arith)) (choose (eqb (field C s 1) NONE) refl)
    where
      choose : (c : Bool) → eqb (field C s 1) NONE ≡ c → description_of (pick c none (some (read_note st.notes (field C s 1)))) ≡ pick c NONE (get_or C.notes (field C s 1 * 9 + 1) 0)
      choose true e = refl
      choose false e =
          let n : field C s 1 < length C.notes / 9 = present o (eqb-false (field C s 1) NONE e) in
          g.notes.same (field C s 1 * 9 + 1) (omega arith)

  pub says : {st : State} → Grown C st → Optional (field C s 1) (note_count C.notes) → {known : ℕ} → ObjectFacts C.pool C.texts C.links C.schemas s known → Says C s (seen (words_in st) s)
  unfolding object_of required_of
  says {st} g n f =
      record {
        props = seen_props (words_in st) s ∙ pairs_read g 2 (omega arith) f.properties.inside;
        patterns = seen_patterns (words_in st) s ∙ pairs_read g 4 (omega arith) f.patterns.inside;
        additional = rw (word g 6 (omega arith)) (keep_listed (field C s 6));
        required = list_read g 7 (omega arith) f.required.inside;
        least = word g 9 (omega arith);
        most = word g 10 (omega arith);
        closed = rw (word g 11 (omega arith));
        naming = word g 13 (omega arith);
        description = description_read g n;
      }

module _ {C : Source} {R : Room} (rooms : Rooms C R) (find : ℕ → Option ℕ) (whole : length C.schemas ≡ C.count * 16) (go : State → ℕ → Out) (to : ℕ → Words → Result ℕ) (follows : Follows C go to) (s : ℕ) (h : s < C.count) (st : State) (g : Grown C st) where
  abbrev same : ℕ → ℕ → Bool
  same = same_text C.pool C.texts

  abbrev t : Words
  t = words_in st

  -- anyOf and allOf
  pub group_same : (kind : ℕ) → field C s 0 ≡ kind → ListIn C.links (field C s 2) (field C s 3) s → Same C (group_at C go st s) (then (each R same find to (list_of t s) t) (λ ys t₁. add_list R same find kind (schema_note t₁.schemas s) ys t₁))
  unfolding group_at
  group_same kind e l =
      let xs : List ℕ = span C.links (field C s 2) 1 (field C s 3) in
      let read : list_of t s ≡ xs = list_read whole s h g 2 (omega arith) l.inside ∙ sym (span-slice C.links (field C s 2) (field C s 3)) in
      same_as refl (ap (λ (x : List ℕ). then (each R same find to x t) (λ ys t₁. add_list R same find kind (schema_note t₁.schemas s) ys t₁)) read)
      (many-then _ _ (each_same R same find go to follows (list_below_lem l (omega arith)) st g) (λ st₁ ns g₁ n.
      rw (word whole s h g₁ 1 (omega arith), ← e)
      (list_added rooms same find st₁ g₁ (field C s 0) (field C s 1) (field C s 3) ns (n ∙ span-length C.links (field C s 2) 1 (field C s 3)))))

  pub array_same : field C s 0 ≡ 9 → Optional (field C s 2) s → Same C (array_at C go st s) (then (optionally R same find to (array_items t.schemas s) t) (λ y t₁. add_array R same find s y t₁))
  unfolding array_at add_array
  array_same e o =
      rw (word whole s h g 2 (omega arith))
      (same_then _ _ (optional_same R same find go to follows (field C s 2) (λ z. omega (arith, present o z)) st g) (λ st₁ items g₁.
      rw (word whole s h g₁ 1 (omega arith), word whole s h g₁ 3 (omega arith), word whole s h g₁ 4 (omega arith), word whole s h g₁ 5 (omega arith), e)
      (schema_added rooms same find st₁ g₁ (array_row (field C s 1) items (field C s 3) (field C s 4) (field C s 5)) refl)))

  -- a plain object, from its last appends back to its first child
  module _ (ps qs : List (Pair ℕ)) (ns ms : List ℕ) (w₁ : weld (span C.links (field C s 2) 2 (field C s 3)) ns ≡ flat_pairs ps) (w₂ : weld (span C.links (field C s 4) 2 (field C s 5)) ms ≡ flat_pairs qs) (k₁ : length ps ≡ field C s 3) (k₂ : length qs ≡ field C s 5) where
    abbrev appended : State → ℕ → ℕ → Out
    appended st₁ additional names =
        and_then (add_links C st₁ (weld (span C.links (field C s 2) 2 (field C s 3)) ns)) (λ st₂ at.
        and_then (add_links C st₂ (weld (span C.links (field C s 4) 2 (field C s 5)) ms)) (λ st₃ on.
        add_schema C st₃ (object_row (field C s 1) at (field C s 3) on (field C s 5) additional (field C s 7) (field C s 8) (field C s 9) (field C s 10) (field C s 11) names (field C s 13))))

    row_same : (st₁ : State) → Grown C st₁ → (at on additional names : ℕ) → Same C (add_schema C st₁ (object_row (field C s 1) at (field C s 3) on (field C s 5) additional (field C s 7) (field C s 8) (field C s 9) (field C s 10) (field C s 11) names (field C s 13))) (appendRow R same find (object_row (schema_note st₁.schemas s) at (length ps) on (length qs) additional (required_first st₁.schemas s) (required_count st₁.schemas s) (object_minimum st₁.schemas s) (object_maximum st₁.schemas s) (object_closed st₁.schemas s) names (naming_convention st₁.schemas s)) (words_in st₁))
    row_same st₁ g₁ at on additional names =
        let w : (k : ℕ) → k < 16 → schema_word st₁.schemas s k ≡ field C s k = word whole s h g₁ in
        rw (w 1 (omega arith), w 7 (omega arith), w 8 (omega arith), w 9 (omega arith), w 10 (omega arith), w 11 (omega arith), w 13 (omega arith), k₁, k₂)
        (schema_added rooms same find st₁ g₁ (object_row (field C s 1) at (field C s 3) on (field C s 5) additional (field C s 7) (field C s 8) (field C s 9) (field C s 10) (field C s 11) names (field C s 13)) refl)

    appended_same : (st₁ : State) → Grown C st₁ → (additional names : ℕ) → Same C (appended st₁ additional names) (add_object R same find s ps qs additional names (words_in st₁))
    unfolding add_object
    appended_same st₁ g₁ additional names =
        rw (w₁, w₂)
        (same_then _ _ (links_added rooms same find st₁ g₁ (flat_pairs ps)) (λ st₂ at g₂.
        same_then _ _ (links_added rooms same find st₂ g₂ (flat_pairs qs)) (λ st₃ on g₃. row_same st₃ g₃ at on additional names)))

    names_same : (names : ℕ) → names ≡ field C s 12 → Optional (field C s 12) s → (st₁ : State) → Grown C st₁ → (additional : ℕ) → Same C (and_then (perhaps_at go st₁ (field C s 12)) (λ st₂ n. appended st₂ additional n)) (then (optionally R same find to names (words_in st₁)) (λ n t₁. add_object R same find s ps qs additional n t₁))
    names_same names e o st₁ g₁ additional =
        rw e (same_then _ _ (optional_same R same find go to follows (field C s 12) (λ z. omega (arith, present o z)) st₁ g₁) (λ st₂ n g₂. appended_same st₂ g₂ additional n))

    additional_same : (additional : ℕ) → additional ≡ field C s 6 → Optional (field C s 6) s → Optional (field C s 12) s → (st₁ : State) → Grown C st₁ → Same C (and_then (perhaps_at go st₁ (field C s 6)) (λ st₂ a. and_then (perhaps_at go st₂ (field C s 12)) (λ st₃ n. appended st₃ a n))) (then (optionally R same find to additional (words_in st₁)) (λ a t₁. then (optionally R same find to (property_names t₁.schemas s) t₁) (λ n t₂. add_object R same find s ps qs a n t₂)))
    additional_same additional e o₁ o₂ st₁ g₁ =
        rw e (same_then _ _ (optional_same R same find go to follows (field C s 6) (λ z. omega (arith, present o₁ z)) st₁ g₁) (λ st₂ a g₂. names_same (property_names st₂.schemas s) (word whole s h g₂ 12 (omega arith)) o₂ st₂ g₂ a))

  pub plain_same : {known : ℕ} → ObjectFacts C.pool C.texts C.links C.schemas s known → (props patterns : List (Pair ℕ)) → props ≡ pairs_at C.links (field C s 2) (field C s 3) → patterns ≡ pairs_at C.links (field C s 4) (field C s 5) → Same C (plain_at C go st s)
      (then (each_pair R same find to props t) (λ ps t₁.
      then (each_pair R same find to patterns t₁) (λ qs t₂.
      then (optionally R same find to (additional_properties t₂.schemas s) t₂) (λ a t₃.
      then (optionally R same find to (property_names t₃.schemas s) t₃) (λ n t₄.
      add_object R same find s ps qs a n t₄)))))
  unfolding plain_at
  plain_same f props patterns e₁ e₂ =
      rw (e₁, e₂)
      (pairs-then _ _ (each_pair_same R same find go to follows C.links (field C s 2) (field C s 3) (pairs_below_lem f.properties (omega arith)) st g) (λ st₁ ns ps g₁ w₁ l₁.
      pairs-then _ _ (each_pair_same R same find go to follows C.links (field C s 4) (field C s 5) (pairs_below_lem f.patterns (omega arith)) st₁ g₁) (λ st₂ ms qs g₂ w₂ l₂.
      additional_same ps qs ns ms w₁ w₂ (sym l₁ ∙ span-length C.links (field C s 2) 2 (field C s 3)) (sym l₂ ∙ span-length C.links (field C s 4) 2 (field C s 5))
      (additional_properties st₂.schemas s) (word whole s h g₂ 6 (omega arith)) f.additional f.names st₂ g₂)))

  -- bases compiled, then merged into the object d
  merge_same : (d : Object ℕ) → Says C s d → (st₁ : State) → Grown C st₁ → (bs : List ℕ) → length bs ≡ field C s 15 → Same C (pick (eqb (field C s 15) 0) (refused 30) (merge_at C st₁ s bs)) (merge_from R same find (some (objects (seen (words_in st₁)) bs)) d (words_in st₁))
  unfolding objects
  merge_same d y st₁ g₁ [] n = rw (← n) (stopped 30)
  merge_same d y st₁ g₁ (b ∷ bs) n =
      let z : eqb (field C s 15) 0 ≡ false = ne_eqb (field C s 15) 0 (λ q. omega arith) in
      rw z (bases_merged rooms find st₁ g₁ s d y (b ∷ bs))

  objects_same : (d : Object ℕ) → Says C s d → (st₁ : State) → Grown C st₁ → (bs : List ℕ) → length bs ≡ field C s 15 → Same C (pick (all_objects st₁.schemas bs) (pick (eqb (field C s 15) 0) (refused 30) (merge_at C st₁ s bs)) (refused 31)) (merge_from R same find (objects_of (looks (words_in st₁) bs)) d (words_in st₁))
  objects_same d y st₁ g₁ bs n = choose (all_objects st₁.schemas bs) refl
    where
      choose : (c : Bool) → all_objects st₁.schemas bs ≡ c → Same C (pick c (pick (eqb (field C s 15) 0) (refused 30) (merge_at C st₁ s bs)) (refused 31)) (merge_from R same find (objects_of (looks (words_in st₁) bs)) d (words_in st₁))
      choose true e = rw (objects_all (words_in st₁) bs e) (merge_same d y st₁ g₁ bs n)
      choose false e = rw (objects_none (words_in st₁) bs e) (stopped 31)

  pub derived_same : (d : Object ℕ) → Says C s d → ListIn C.links (field C s 14) (field C s 15) s → Same C (derived_at C go st s) (then (each R same find to (slice t.links (bases_first t.schemas s) (bases_count t.schemas s)) t) (λ rs t₁. merge_from R same find (objects_of (looks t₁ rs)) d t₁))
  unfolding derived_at
  derived_same d y l =
      let xs : List ℕ = span C.links (field C s 14) 1 (field C s 15) in
      let read : slice t.links (bases_first t.schemas s) (bases_count t.schemas s) ≡ xs = list_read whole s h g 14 (omega arith) l.inside ∙ sym (span-slice C.links (field C s 14) (field C s 15)) in
      rw read
      (many-then _ _ (each_same R same find go to follows (list_below_lem l (omega arith)) st g) (λ st₁ bs g₁ n.
      objects_same d y st₁ g₁ bs (n ∙ span-length C.links (field C s 14) 1 (field C s 15))))
