-- What compiling gives. `go` compiles with the levels that are left.
use Rattle.std.specs.Prelude.{ℕ, zero, suc, ◌+◌, Bool, true, false, List, [], ◌∷◌, ◌++◌, length, leb, ltb, eqb}
unfoldable pub use Rattle.merge.specs.Pairs.{span}
use Rattle.text.specs.Choice.{pick, both}
use Rattle.text.specs.Text.{same_text}
use Rattle.layout.specs.Layout.{NONE, schema_word, schema_kind, schema_note, list_first, list_count, array_items, array_minimum, array_maximum, array_unique, properties_first, properties_count, pattern_properties_first, pattern_properties_count, additional_properties, required_first, required_count, object_minimum, object_maximum, object_closed, property_names, naming_convention, bases_first, bases_count, ref_text, ref_eager}
use Rattle.layout.specs.Rows.{list_row, object_row}
use Rattle.joins.specs.declared.Offers.{Offers}
use Rattle.joins.specs.Joins.{note_field, offer_of, offered_of, joined, required_of, tally_one, tally, no_offers, join_words, closed_of}
use Rattle.lookup.specs.Lookup.{resolve_of}
use Rattle.schema.specs.Shape.{Pair}
use Rattle.merge.specs.Merge.{put_all}
use Rattle.merge.specs.Pairs.{flat_pairs, merge_all, record_pairs}
use Rattle.compilation.specs.State.{Source, State, Out, done, refused, Outs, many, stop, and_then, on_many, add_schema, add_links, add_note}
use Rattle.lookup.specs.Find.{Found}
use Rattle.std.specs.Prelude.{Some, None}

abbrev pub field : Source → ℕ → ℕ → ℕ
field C s k = schema_word C.schemas s k

abbrev pub after : ℕ → Outs → Outs
after n (many st ns) = many st (n ∷ ns)
after n (stop k) = stop k

abbrev pub on_out : Out → (State → ℕ → Outs) → Outs
on_out (done st n) f = f st n
on_out (refused k) f = stop k

-- children in order; the first refusal is the answer
unfoldable pub each_over : (State → ℕ → Out) → State → List ℕ → Outs
each_over go st [] = many st []
each_over go st (s ∷ ss) =
    let rest : State → Outs = λ st₁. each_over go st₁ ss in
    on_out (go st s) (λ st₁ n. after n (rest st₁))

-- anyOf and allOf: the children, then their links, then the record
unfoldable pub group_at : Source → (State → ℕ → Out) → State → ℕ → Out
group_at C go st s =
    on_many (each_over go st (span C.links (list_first C.schemas s) 1 (list_count C.schemas s))) (λ st₁ ns.
    and_then (add_links C st₁ ns) (λ st₂ first. add_schema C st₂ (list_row (schema_kind C.schemas s) (schema_note C.schemas s) first (list_count C.schemas s))))

-- a child, or none
abbrev pub perhaps_at : (State → ℕ → Out) → State → ℕ → Out
perhaps_at go st s = pick (eqb s NONE) (done st NONE) (go st s)

-- `array_row`, with the kind as it is read
abbrev pub array_record : Source → ℕ → ℕ → List ℕ
array_record C s items = schema_kind C.schemas s ∷ schema_note C.schemas s ∷ items ∷ array_minimum C.schemas s ∷ array_maximum C.schemas s ∷ array_unique C.schemas s ∷ 0 ∷ 0 ∷ 0 ∷ 0 ∷ 0 ∷ 0 ∷ 0 ∷ 0 ∷ 0 ∷ 0 ∷ []

unfoldable pub array_at : Source → (State → ℕ → Out) → State → ℕ → Out
array_at C go st s = and_then (perhaps_at go st (array_items C.schemas s)) (λ st₁ items. add_schema C st₁ (array_record C s items))

-- are all these records objects
unfoldable pub all_objects : List ℕ → List ℕ → Bool
all_objects S [] = true
all_objects S (n ∷ ns) = both (eqb (schema_kind S n) 10) (all_objects S ns)

-- the field j of the last of the records whose field k is present, else d
unfoldable pub last_word : List ℕ → List ℕ → ℕ → ℕ → ℕ → List ℕ → ℕ
last_word N S k j d [] = d
last_word N S k j d (b ∷ bs) = last_word N S k j (pick (eqb (note_field N S b k) NONE) d (note_field N S b j)) bs

abbrev or_word : ℕ → ℕ → ℕ
or_word own other = pick (eqb own NONE) other own

-- the bases' notes field by field, later present over earlier, id dropped; of the derived note only a present description
unfoldable pub merged_note_in : List ℕ → List ℕ → List ℕ → List ℕ → ℕ → List ℕ → List ℕ
merged_note_in N₀ S₀ N S s bs =
    let last : ℕ → ℕ = λ k. last_word N S k k NONE bs in
    NONE ∷ or_word (note_field N₀ S₀ s 1) (last 1) ∷ last 2 ∷ last 3 ∷ last 4 ∷ last 5 ∷ last 6 ∷ last 7 ∷ last_word N S 7 8 0 bs ∷ []

unfoldable pub merged_note : Source → State → ℕ → List ℕ → List ℕ
merged_note C st s bs = merged_note_in C.notes C.schemas st.notes st.schemas s bs

-- the bases' pairs, later over earlier, the derived ones last and uncompiled
unfoldable pub merged_pairs : Source → State → ℕ → List ℕ → ℕ → List (Pair ℕ)
merged_pairs C st s bs k =
    let same : ℕ → ℕ → Bool = same_text C.pool C.texts in
    put_all same (merge_all same (record_pairs st.schemas st.links k) [] bs) (record_pairs C.schemas C.links k s)

-- the join of additional, or of names: what is offered, and its links
abbrev pub offers_at : State → Bool → List ℕ → ℕ → Offers
offers_at st names bs own = tally_one (tally (offer_of st.notes st.schemas names) no_offers bs) own

abbrev pub join_links_at : State → Bool → List ℕ → ℕ → List ℕ
join_links_at st names bs own = join_words (offers_at st names bs own).n (joined (offered_of st.notes st.schemas names) bs) own

-- none, the one, or a new record of all
unfoldable pub join_row_at : Source → State → ℕ → ℕ → Offers → Out
join_row_at C st kind first o = pick (ltb o.n 2) (done st o.last) (add_schema C st (list_row kind NONE first o.n))

abbrev pub required_at : Source → State → ℕ → List ℕ → List ℕ
required_at C st s bs = joined (required_of st.schemas st.links) bs ++ required_of C.schemas C.links s

-- a merged object: note; links of properties, patterns, required, additional, names, which find room together or not at all; then the
-- records allOf, anyOf, object
unfoldable pub merge_at : Source → State → ℕ → List ℕ → Out
merge_at C st s bs =
    let P : List ℕ = flat_pairs (merged_pairs C st s bs 2) in
    let Q : List ℕ = flat_pairs (merged_pairs C st s bs 4) in
    let R : List ℕ = required_at C st s bs in
    let A : List ℕ = join_links_at st false bs (additional_properties C.schemas s) in
    let N : List ℕ = join_links_at st true bs NONE in
    let closed : Bool = closed_of st.schemas (eqb (object_closed C.schemas s) 1) bs in
    and_then (add_note C st (merged_note C st s bs)) (λ st₁ note.
    and_then (add_links C st₁ (P ++ Q ++ R ++ A ++ N)) (λ st₂ at.
    and_then (join_row_at C st₂ 8 (at + length (P ++ Q ++ R)) (offers_at st false bs (additional_properties C.schemas s))) (λ st₃ additional.
    and_then (join_row_at C st₃ 7 (at + length (P ++ Q ++ R ++ A)) (offers_at st true bs NONE)) (λ st₄ names.
    add_schema C st₄ (object_row note at (length (merged_pairs C st s bs 2)) (at + length P) (length (merged_pairs C st s bs 4)) additional (at + length (P ++ Q)) (length R) (object_minimum C.schemas s) (object_maximum C.schemas s) (pick closed 1 0) names (naming_convention C.schemas s))))))

-- keys as they stand, beside their compiled values
unfoldable pub weld : List ℕ → List ℕ → List ℕ
weld [] ns = []
weld (k ∷ ks) [] = []
weld (k ∷ ks) (n ∷ ns) = k ∷ n ∷ weld ks ns

-- a plain object: properties, patterns, additional, names compiled in order; then the links of both lists; then the record
unfoldable pub plain_at : Source → (State → ℕ → Out) → State → ℕ → Out
plain_at C go st s =
    on_many (each_over go st (span C.links (properties_first C.schemas s + 1) 2 (properties_count C.schemas s))) (λ st₁ ps.
    on_many (each_over go st₁ (span C.links (pattern_properties_first C.schemas s + 1) 2 (pattern_properties_count C.schemas s))) (λ st₂ qs.
    and_then (perhaps_at go st₂ (additional_properties C.schemas s)) (λ st₃ additional.
    and_then (perhaps_at go st₃ (property_names C.schemas s)) (λ st₄ names.
    and_then (add_links C st₄ (weld (span C.links (properties_first C.schemas s) 2 (properties_count C.schemas s)) ps)) (λ st₅ at.
    and_then (add_links C st₅ (weld (span C.links (pattern_properties_first C.schemas s) 2 (pattern_properties_count C.schemas s)) qs)) (λ st₆ on.
    add_schema C st₆ (object_row (schema_note C.schemas s) at (properties_count C.schemas s) on (pattern_properties_count C.schemas s) additional (required_first C.schemas s) (required_count C.schemas s) (object_minimum C.schemas s) (object_maximum C.schemas s) (object_closed C.schemas s) names (naming_convention C.schemas s))))))))

-- anyOf, allOf, array, object
abbrev pub is_built : ℕ → Bool
is_built kind = both (leb 7 kind) (leb kind 10)

abbrev pub is_eager : List ℕ → ℕ → Bool
is_eager S s = both (eqb (schema_kind S s) 11) (eqb (ref_eager S s) 1)

abbrev pub on_found {ℓ} : {A : Type ℓ} → Found → (ℕ → A) → A → A
on_found (Some t) f e = f t
on_found None f e = e

-- an object with bases: these first; 31 where one is no object, 30 where there is none
unfoldable pub derived_at : Source → (State → ℕ → Out) → State → ℕ → Out
derived_at C go st s =
    on_many (each_over go st (span C.links (bases_first C.schemas s) 1 (bases_count C.schemas s))) (λ st₁ bs.
    pick (all_objects st₁.schemas bs) (pick (eqb (bases_count C.schemas s) 0) (refused 30) (merge_at C st₁ s bs)) (refused 31))

-- the kinds that are built anew
unfoldable pub node_at : Source → (State → ℕ → Out) → State → ℕ → Out
node_at C go st s =
    pick (eqb (schema_kind C.schemas s) 9) (array_at C go st s)
    (pick (eqb (schema_kind C.schemas s) 10) (pick (eqb (bases_first C.schemas s) NONE) (plain_at C go st s) (derived_at C go st s)) (group_at C go st s))

unfoldable pub compile_at : Source → ℕ → State → ℕ → Out
compile_at C zero st s = refused 23
compile_at C (suc k) st s =
    let go : State → ℕ → Out = λ st₁ t. compile_at C k st₁ t in
    pick (leb C.count s) (refused 21)
    (pick (is_eager C.schemas s) (on_found (resolve_of C.pool C.texts C.registry (ref_text C.schemas s)) (go st) (refused 32))
    (pick (is_built (schema_kind C.schemas s)) (node_at C go st s) (done st s)))
