-- Each append of a compile keeps the check: a list, an array, an object, and a merged object with its joins. Assumes nothing.
use Prim.Native.Nat.{ℕ, ◌+◌, ◌<◌, ◌≤◌}
use mathlib.Core.Path.{◌≡◌, refl, subst}
use mathlib.Core.Bool.{Bool, true, false}
use mathlib.Core.List.{List, [], ◌∷◌, ◌++◌}
use mathlib.Core.Logic.{◌⊎◌, inl, inr}
use mathlib.Core.Option.{Option, some, none}
use native.Mathlib.Omega.{arith}
use lib.ListN.{length, get_or, length-append}
use lib.Dec.{eqb, leb}
use Rattle.text.specs.Choice.{pick}
use Rattle.text.specs.Text.{text_count}
use Rattle.layout.specs.Layout.{Tables, NONE, note_count, schema_word, schema_kind, schema_note, array_minimum, array_maximum, array_unique, required_first, required_count, object_minimum, object_maximum, object_closed, naming_convention}
use Rattle.layout.specs.Rows.{list_row, array_row, object_row}
use Rattle.records.specs.declared.Counts.{Counts}
use Rattle.records.specs.Records.{counts_in, counts_of, note_ok}
use Rattle.rules.specs.Schemas.{schema_ok}
use Rattle.tables.proofs.Facts.{Optional, ListIn, SchemaFacts, schema-facts}
use Rattle.schema.specs.Shape.{Note, Pair, Object}
use Rattle.schema.specs.Look.{Words}
use Rattle.merge.specs.Pairs.{flat_pairs}
use Rattle.compilation.specs.Compile.{Result, ok, then, Room, with_notes, with_row, with_links, note_words_of, add_row, add_list, add_array, add_object, join_links, join_row, add_merged}
use Rattle.grouping.specs.Tree.{Every, one, PerhapsEvery, presents}
use Rattle.grouping.specs.Values.{grown}
use Rattle.grouping.specs.Record.{count}
use Rattle.grouping.proofs.Shapes.{every-perhaps}
use Rattle.grouping.proofs.Growing.{links-step, note_step, row_step, last_row}
use Rattle.keeping.proofs.Rules.{optional_more, list_later, PairsHeld, pairs-later, any_ok, all_ok, array_ok_lem, object-ok}
use Rattle.keeping.proofs.Growth.{Longer, longer_itself, longer_more, longer_count, Good, formed, longer_links, longer_notes, longer_row, good_links, good_note, good_row, row_word, note_word_lem, count_row}
use Rattle.keeping.proofs.Lots.{links_in, Lot, lot_held}

-- a note's flag, as the check asks
abbrev pub flagged : ℕ → ℕ → Bool
flagged tags detection = pick (eqb tags NONE) (eqb detection 0) (leb detection 1)

list_ok_lem : (z : Counts) (pool texts L S : List ℕ) (s kind note at n : ℕ) → (kind ≡ 7) ⊎ (kind ≡ 8) → ((k : ℕ) → k < 16 → schema_word S s k ≡ get_or (list_row kind note at n) k 0) → Optional note z.notes → ListIn L at n s →
    schema_ok z pool texts L S s ≡ true
list_ok_lem z pool texts L S s kind note at n (inl e) w p q = any_ok z pool texts L S s note at n (subst (λ (x : ℕ). (k : ℕ) → k < 16 → schema_word S s k ≡ get_or (list_row x note at n) k 0) e w) p q
list_ok_lem z pool texts L S s kind note at n (inr e) w p q = all_ok z pool texts L S s note at n (subst (λ (x : ℕ). (k : ℕ) → k < 16 → schema_word S s k ≡ get_or (list_row x note at n) k 0) e w) p q

optional-later : {w : ℕ} {t u : Words} → Longer t u → Optional w (note_count t.notes) → Optional w (note_count u.notes)
unfolding note_count
optional-later e h = optional_more (omega (arith, e.notes.long)) h

module _ (T : Tables) where
  -- compiled to record r, and the tables still pass
  pub record Kept (t t' : Words) (r : ℕ) : Type 0 where
    pub longer : Longer t t'
    pub good : Good T t'
    pub new : r < count t'

  pub kept-after : {t u w : Words} {r : ℕ} → Longer t u → Kept u w r → Kept t w r
  kept-after e k = record { longer = longer_more e k.longer; good = k.good; new = k.new }

  -- an allOf or an anyOf
  list_good : (t : Words) (kind note at n : ℕ) → Good T t → (kind ≡ 7) ⊎ (kind ≡ 8) → Optional note (note_count t.notes) → ListIn t.links at n (count t) → count t + 1 ≤ 4096 → Good T (with_row t (list_row kind note at n))
  list_good t kind note at n g k p q l =
      good_row T (list_row kind note at n) g refl l
      (list_ok_lem (counts_of (grown T (with_row t (list_row kind note at n)))) T.pool T.texts t.links (t.schemas ++ list_row kind note at n) (count t) kind note at n k
      (λ j m. row_word T (list_row kind note at n) g j) (unfold counts_in in p) q)

  module _ (R : Room) (eq : ℕ → ℕ → Bool) (find : ℕ → Option ℕ) (notes-room : R.notes ≤ 1024) (schemas-room : R.schemas ≤ 4096) (links-room : R.links ≤ 16384) where
    row_added : (row : List ℕ) (t : Words) (r : ℕ) (t' : Words) → Good T t → length row ≡ 16 → (count t + 1 ≤ 4096 → Good T (with_row t row)) → add_row R eq find row t ≡ ok r t' → Kept t t' r
    row_added row t r t' g n good =
        last_row R eq find (λ r t'. Kept t t' r) row t r t'
        (λ room. record { longer = longer_row T t row; good = good (omega (arith, room)); new = omega (arith, count_row T row g n) })

    pub list_added : (kind note : ℕ) (xs : List ℕ) (t : Words) (r : ℕ) (t' : Words) → Good T t → (kind ≡ 7) ⊎ (kind ≡ 8) → Optional note (note_count t.notes) → Every (λ x. x < count t) xs →
        add_list R eq find kind note xs t ≡ ok r t' → Kept t t' r
    unfolding add_list
    list_added kind note xs t r t' g k p q h =
        let s = links-step R eq find xs t _ r t' h in
        let g₁ : Good T (with_links t xs) = good_links T xs g (omega (arith, s.0)) in
        kept-after (longer_links T t xs)
        (row_added (list_row kind note (length t.links) (length xs)) (with_links t xs) r t' g₁ refl
        (λ l. list_good (with_links t xs) kind note (length t.links) (length xs) g₁ k p (links_in t.links xs (count t) q) l) s.1)

    pub array_added : (s items : ℕ) (t : Words) (r : ℕ) (t' : Words) → Good T t → s < count t → schema_kind t.schemas s ≡ 9 → Optional items (count t) → add_array R eq find s items t ≡ ok r t' → Kept t t' r
    unfolding add_array
    array_added s items t r t' g i e q h =
        let f : SchemaFacts (grown T t) s = schema-facts (grown T t) (formed T g) s i in
        let row : List ℕ = array_row (schema_note t.schemas s) items (array_minimum t.schemas s) (array_maximum t.schemas s) (array_unique t.schemas s) in
        row_added row t r t' g refl
        (λ l. good_row T row g refl l
        (array_ok_lem (counts_of (grown T (with_row t row))) T.pool T.texts t.links (t.schemas ++ row) (count t) (schema_note t.schemas s) items (array_minimum t.schemas s) (array_maximum t.schemas s) (array_unique t.schemas s)
        (λ j m. row_word T row g j) (unfold counts_in in f.note) q (f.unique e))) h

    abbrev Pairs : Words → ℕ → ℕ → Type 0
    Pairs t at n = PairsHeld T.pool T.texts t.links at n (text_count T.texts) (count t)

    -- an object whose lists are linked
    row_object_lem : (note p np q nq additional a na least most closed names naming : ℕ) (t : Words) (r : ℕ) (t' : Words) → Good T t → Optional note (note_count t.notes) → Pairs t p np → Pairs t q nq → Optional additional (count t) →
        ListIn t.links a na (text_count T.texts) → closed ≤ 1 → Optional names (count t) →
        add_row R eq find (object_row note p np q nq additional a na least most closed names naming) t ≡ ok r t' → Kept t t' r
    row_object_lem note p np q nq additional a na least most closed names naming t r t' g b c d e f k m h =
        let row : List ℕ = object_row note p np q nq additional a na least most closed names naming in
        row_added row t r t' g refl
        (λ l. good_row T row g refl l
        (object-ok (counts_of (grown T (with_row t row))) T.pool T.texts t.links (t.schemas ++ row) (count t) note p np q nq additional a na least most closed names naming (λ j m. row_word T row g j)
        (unfold counts_in in b) (unfold counts_in in c) (unfold counts_in in d) e (unfold counts_in in f) k m)) h

    abbrev LotIn : Words → List (Pair ℕ) → Type 0
    LotIn t ps = Lot T.pool T.texts (text_count T.texts) (count t) ps

    pub object_added : (s : ℕ) (ps qs : List (Pair ℕ)) (additional names : ℕ) (t : Words) (r : ℕ) (t' : Words) → Good T t → s < count t → schema_kind t.schemas s ≡ 10 → LotIn t ps → LotIn t qs →
        Optional additional (count t) → Optional names (count t) → add_object R eq find s ps qs additional names t ≡ ok r t' → Kept t t' r
    unfolding add_object
    object_added s ps qs additional names t r t' g i e b c d f h =
        let s₁ = links-step R eq find (flat_pairs ps) t _ r t' h in
        let t₁ : Words = with_links t (flat_pairs ps) in
        let g₁ : Good T t₁ = good_links T (flat_pairs ps) g (omega (arith, s₁.0)) in
        let s₂ = links-step R eq find (flat_pairs qs) t₁ _ r t' s₁.1 in
        let t₂ : Words = with_links t₁ (flat_pairs qs) in
        let g₂ : Good T t₂ = good_links T (flat_pairs qs) g₁ (omega (arith, s₂.0)) in
        let e₁ : Longer t₁ t₂ = longer_links T t₁ (flat_pairs qs) in
        let facts : SchemaFacts (grown T t₂) s = schema-facts (grown T t₂) (formed T g₂) s i in
        let o = facts.object e in
        kept-after {t = t} {u = t₁} (longer_links T t (flat_pairs ps))
        (kept-after {t = t₁} {u = t₂} e₁
        (row_object_lem (schema_note t.schemas s) (length t.links) (length ps) (length t₁.links) (length qs) additional (required_first t.schemas s) (required_count t.schemas s) (object_minimum t.schemas s) (object_maximum t.schemas s) (object_closed t.schemas s) names (naming_convention t.schemas s)
        t₂ r t' g₂ facts.note (pairs-later T.pool T.texts e₁.links (omega arith) (lot_held T.pool T.texts t.links ps (text_count T.texts) (count t) b)) (lot_held T.pool T.texts t₁.links qs (text_count T.texts) (count t) c) d
        o.required o.closed f s₂.1))

    -- ---- joins: none, the one, or a new record of all, whose links stand at that place
    data Linked (u : Words) (at : ℕ) : Option (List ℕ) → Type 0 where
      l_none : Linked u at none
      l_empty : Linked u at (some [])
      l_one : {x : ℕ} → x < count u → Linked u at (some (x ∷ []))
      l_many : {x y : ℕ} {ys : List ℕ} → ListIn u.links at (length (x ∷ (y ∷ ys))) (count u) → Linked u at (some (x ∷ (y ∷ ys)))

    linked_later : {u w : Words} {at : ℕ} {x : Option (List ℕ)} → Longer u w → Linked u at x → Linked w at x
    linked_later e l_none = l_none
    linked_later e l_empty = l_empty
    linked_later e (l_one {x = x} l) = l_one {x = x} (omega (arith, longer_count e))
    linked_later e (l_many h) = l_many (list_later e.links (longer_count e) h)

    record LinkStep {B : Type 0} (x : Option (List ℕ)) (t : Words) (f : ℕ → Words → Result B) (b : B) (t' : Words) : Type 0 where
      at : ℕ
      words : Words
      longer : Longer t words
      good : Good T words
      linked : Linked words at x
      rest : f at words ≡ ok b t'

    join_links_lem : {B : Type 0} (x : Option (List ℕ)) (t : Words) (f : ℕ → Words → Result B) (b : B) (t' : Words) → Good T t → PerhapsEvery (λ y. y < count t) x → then (join_links R eq find x t) f ≡ ok b t' → LinkStep x t f b t'
    join_links_lem none t f b t' g q e = record { at = 0; words = t; longer = longer_itself t; good = g; linked = l_none; rest = e }
    join_links_lem (some []) t f b t' g q e = record { at = 0; words = t; longer = longer_itself t; good = g; linked = l_empty; rest = e }
    join_links_lem (some (x ∷ [])) t f b t' g (presents (one p q)) e = record { at = 0; words = t; longer = longer_itself t; good = g; linked = l_one p; rest = e }
    join_links_lem (some (x ∷ (y ∷ ys))) t f b t' g (presents q) e =
        let s = links-step R eq find (x ∷ (y ∷ ys)) t f b t' e in
        record {
          at = length t.links;
          words = with_links t (x ∷ (y ∷ ys));
          longer = longer_links T t (x ∷ (y ∷ ys));
          good = good_links T (x ∷ (y ∷ ys)) g (omega (arith, s.0));
          linked = l_many (links_in t.links (x ∷ (y ∷ ys)) (count t) q);
          rest = s.1;
        }

    record RowStep {B : Type 0} (t : Words) (f : ℕ → Words → Result B) (b : B) (t' : Words) : Type 0 where
      word : ℕ
      words : Words
      longer : Longer t words
      good : Good T words
      new : Optional word (count words)
      rest : f word words ≡ ok b t'

    join_row_lem : {B : Type 0} (kind : ℕ) → (kind ≡ 7) ⊎ (kind ≡ 8) → (x : Option (List ℕ)) (at : ℕ) (t : Words) (f : ℕ → Words → Result B) (b : B) (t' : Words) → Good T t → Linked t at x →
        then (join_row R eq find kind at x t) f ≡ ok b t' → RowStep t f b t'
    join_row_lem kind k none at t f b t' g l_none e = record { word = NONE; words = t; longer = longer_itself t; good = g; new = inl refl; rest = e }
    join_row_lem kind k (some []) at t f b t' g l_empty e = record { word = NONE; words = t; longer = longer_itself t; good = g; new = inl refl; rest = e }
    join_row_lem kind k (some (x ∷ [])) at t f b t' g (l_one p) e = record { word = x; words = t; longer = longer_itself t; good = g; new = inr p; rest = e }
    join_row_lem kind k (some (x ∷ (y ∷ ys))) at t f b t' g (l_many q) e =
        let row : List ℕ = list_row kind NONE at (length (x ∷ (y ∷ ys))) in
        let s = row_step R eq find row t f b t' e in
        record {
          word = count t;
          words = with_row t row;
          longer = longer_row T t row;
          good = list_good t kind NONE at (length (x ∷ (y ∷ ys))) g k (inl refl) q (omega (arith, s.0));
          new = inr (omega (arith, count_row T row g refl));
          rest = s.1;
        }

    closed_low : (b : Bool) → pick b 1 0 ≤ 1
    closed_low true = omega arith
    closed_low false = omega arith

    note_good : (t : Words) (x : Note) → Good T t → flagged x.tags x.detection ≡ true → note_count t.notes + 1 ≤ 1024 → Good T (with_notes t (note_words_of x))
    note_good t x g fl l = good_note T (note_words_of x) g refl l (unfold note_ok in rw (note_word_lem T (note_words_of x) g 7, note_word_lem T (note_words_of x) g 8) fl)

    note_there : (t u : Words) (x : Note) → Longer (with_notes t (note_words_of x)) u → Optional (note_count t.notes) (note_count u.notes)
    unfolding note_count
    note_there t u x e = inr (omega (arith, e.notes.long, length-append t.notes (note_words_of x)))

    module _ (note : Note) (names : Option (List ℕ)) (o : Object ℕ) where
      -- what comes after the links of properties, patterns and required, which stand at p, q and a
      joins_added : (ν p q a : ℕ) (t : Words) (r : ℕ) (t' : Words) → Good T t → Optional ν (note_count t.notes) → Pairs t p (length o.props) → Pairs t q (length o.patterns) → ListIn t.links a (length o.required) (text_count T.texts) →
          PerhapsEvery (λ x. x < count t) o.additional → PerhapsEvery (λ x. x < count t) names →
          then (join_links R eq find o.additional t) (λ x t.
          then (join_links R eq find names t) (λ n t.
          then (join_row R eq find 8 x o.additional t) (λ additional t.
          then (join_row R eq find 7 n names t) (λ naming t.
          add_row R eq find (object_row ν p (length o.props) q (length o.patterns) additional a (length o.required) o.least o.most (pick o.closed 1 0) naming o.naming) t)))) ≡ ok r t' → Kept t t' r
      joins_added ν p q a t r t' g b c d e f k h =
          let s₁ = join_links_lem o.additional t _ r t' g f h in
          let s₂ = join_links_lem names s₁.words _ r t' s₁.good (every-perhaps (longer_count s₁.longer) k) s₁.rest in
          let s₃ = join_row_lem 8 (inr refl) o.additional s₁.at s₂.words _ r t' s₂.good (linked_later s₂.longer s₁.linked) s₂.rest in
          let s₄ = join_row_lem 7 (inl refl) names s₂.at s₃.words _ r t' s₃.good (linked_later s₃.longer s₂.linked) s₃.rest in
          let all : Longer t s₄.words = longer_more s₁.longer (longer_more s₂.longer (longer_more s₃.longer s₄.longer)) in
          kept-after {u = s₄.words} all
          (row_object_lem ν p (length o.props) q (length o.patterns) s₃.word a (length o.required) o.least o.most (pick o.closed 1 0) s₄.word o.naming s₄.words r t' s₄.good
          (optional-later all b) (pairs-later T.pool T.texts all.links (longer_count all) c) (pairs-later T.pool T.texts all.links (longer_count all) d) (optional_more (longer_count s₄.longer) s₃.new)
          (list_later all.links (omega arith) e) (closed_low o.closed) s₄.new s₄.rest)

      pub merged_added : (t : Words) (r : ℕ) (t' : Words) → Good T t → flagged note.tags note.detection ≡ true → LotIn t o.props → LotIn t o.patterns → Every (λ x. x < text_count T.texts) o.required →
          PerhapsEvery (λ x. x < count t) o.additional → PerhapsEvery (λ x. x < count t) names → add_merged R eq find note names o t ≡ ok r t' → Kept t t' r
      unfolding add_merged
      merged_added t r t' g fl b c d e f h =
          let t₁ : Words = with_notes t (note_words_of note) in
          let t₂ : Words = with_links t₁ (flat_pairs o.props) in
          let t₃ : Words = with_links t₂ (flat_pairs o.patterns) in
          let t₄ : Words = with_links t₃ o.required in
          let s₁ = note_step R eq find (note_words_of note) t _ r t' h in
          let g₁ : Good T t₁ = note_good t note g fl (omega (arith, s₁.0)) in
          let s₂ = links-step R eq find (flat_pairs o.props) t₁ _ r t' s₁.1 in
          let g₂ : Good T t₂ = good_links T (flat_pairs o.props) g₁ (omega (arith, s₂.0)) in
          let s₃ = links-step R eq find (flat_pairs o.patterns) t₂ _ r t' s₂.1 in
          let g₃ : Good T t₃ = good_links T (flat_pairs o.patterns) g₂ (omega (arith, s₃.0)) in
          let s₄ = links-step R eq find o.required t₃ _ r t' s₃.1 in
          let g₄ : Good T t₄ = good_links T o.required g₃ (omega (arith, s₄.0)) in
          let e₃ : Longer t₃ t₄ = longer_links T t₃ o.required in
          let e₂ : Longer t₂ t₄ = longer_more {t = t₂} {u = t₃} (longer_links T t₂ (flat_pairs o.patterns)) e₃ in
          let e₁ : Longer t₁ t₄ = longer_more {t = t₁} {u = t₂} (longer_links T t₁ (flat_pairs o.props)) e₂ in
          kept-after {t = t} {u = t₄} (longer_more {t = t} {u = t₁} (longer_notes T t (note_words_of note)) e₁)
          (joins_added (note_count t.notes) (length t₁.links) (length t₂.links) (length t₃.links) t₄ r t' g₄ (note_there t t₄ note e₁)
          (pairs-later T.pool T.texts {L = t₂.links} {L' = t₄.links} e₂.links (omega arith) (lot_held T.pool T.texts t₁.links o.props (text_count T.texts) (count t) b))
          (pairs-later T.pool T.texts {L = t₃.links} {L' = t₄.links} e₃.links (omega arith) (lot_held T.pool T.texts t₂.links o.patterns (text_count T.texts) (count t) c))
          (links_in t₃.links o.required (text_count T.texts) d) e f s₄.1)
