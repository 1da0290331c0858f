-- What compiling a schema needs and leaves, and the records of a merged object.
use Rattle.std.specs.Prelude.{ℕ, ◌+◌, ◌*◌, ◌/◌, ◌≤◌, ◌<◌, ◌≡◌, Bool, true, false, List, length, take, eqb, Option, Result, Ok, Err}
use Rattle.text.specs.Choice.{pick}
use Rattle.text.specs.Text.{same_text}
use Rattle.layout.specs.Layout.{NONE, schema_word, schema_words, note_words, most_notes, most_schemas, most_links}
use Rattle.layout.specs.Rows.{object_row}
use Rattle.error.specs.declared.Used.{Used}
use Rattle.error.specs.declared.Failure.{Failure}
use Rattle.error.specs.Answers.{number_of}
use Rattle.joins.specs.declared.Offers.{Offers}
use Rattle.joins.specs.declared.Lists.{Lists}
use Rattle.compilation.specs.State.{Source, State, Out, done, refused, and_then, source_of, state_of, add_schema}
use Rattle.joins.specs.Joins.{offer_of, offered_of, joined, tally_one, tally, no_offers, join_words, pair_words, required_words, Linked}
use Rattle.inherit.specs.Carried.{Carried}
use Rattle.compilation.specs.Table.{join_row_at, merged_note_in}
use Rattle.derive.specs.declared.Made.{Made}
use Rattle.derive.specs.declared.Origin.{Origin}
use Rattle.derive.specs.declared.Work.{Work}
use Rattle.derive.specs.declared.Taken.{Taken}
use Rattle.inherit.specs.declared.Scalars.{Scalars}

-- what an answer of the code tells: 0 with the record and the used counts by then, or a refusal's number with the counts before it
pub record Told : Type 0 where
  pub no : ℕ
  pub rec : ℕ
  pub fresh : Bool
  pub used : Used

abbrev pub told : Used → Result Made Failure → Told
told u (Ok m) = record { no = 0; rec = m.rec; fresh = m.fresh; used = m.used }
told u (Err failure) = record { no = number_of failure; rec = 0; fresh = false; used = u }

-- the source and the state that the tables hold
abbrev pub source_in : Origin → Work → List ℕ → Source
source_in o w L = source_of o.texts.pool.now o.texts.records.now o.registry.now o.base w.notes.now w.schemas.now L

abbrev pub state_in : Used → Work → List ℕ → State
state_in u w L = state_of u w.notes.now w.schemas.now L

-- the same tables are lent at the end
abbrev pub SameLent : Work → Work → Type 0
SameLent w w' =
    (w'.notes.ghost_name ≡ w.notes.ghost_name) × (w'.schemas.ghost_name ≡ w.schemas.ghost_name) × (w'.stack.ghost_name ≡ w.stack.ghost_name)

-- what it says, with what the tables then hold
unfoldable pub out_of : Told → List ℕ → List ℕ → List ℕ → Out
out_of r N S L = pick (eqb r.no 0) (done (state_of r.used N S L) r.rec) (refused r.no)

-- the counts by now are no less than at entry, and there are no more schemas than a table has
pub record Grows (b u : Used) : Type 0 where
  pub notes : b.notes ≤ u.notes
  pub schemas : b.schemas ≤ u.schemas
  pub links : b.links ≤ u.links
  pub most : u.schemas ≤ most_schemas

pub record Ready (b u : Used) (X : List ℕ) (sp : ℕ) : Type 0 where
  pub notes : b.notes ≤ u.notes
  pub schemas : b.schemas ≤ u.schemas
  pub links : b.links ≤ u.links
  pub most : u.schemas ≤ most_schemas
  pub top : sp ≤ u.schemas
  pub long : most_schemas ≤ length X

-- the source as it was, the stack as long as it was and the same below sp, the counts no less
pub record Ran (C C' : Source) (u u' : Used) (X X' : List ℕ) (sp : ℕ) : Type 0 where
  pub source : C' ≡ C
  pub stack : take sp X' ≡ take sp X
  pub long : length X' ≡ length X
  pub notes : u.notes ≤ u'.notes
  pub schemas : u.schemas ≤ u'.schemas
  pub links : u.links ≤ u'.links
  pub most : u'.schemas ≤ most_schemas

-- a record built: it is a new one
pub record Built (o : Out) (C C' : Source) (u : Used) (N S L X X' : List ℕ) (sp : ℕ) (r : Told) : Type 0 where
  pub answer : out_of r N S L ≡ o
  pub ran : Ran C C' u r.used X X' sp
  pub fresh : r.no ≡ 0 → r.fresh ≡ true
  pub rise : r.no ≡ 0 → u.schemas < r.used.schemas

-- the same of what a call is lent and leaves, where `out` says what it builds
abbrev pub Builds : Origin → Work → Work → List ℕ → List ℕ → Used → ℕ → (Source → State → Out) → Result Made Failure → Type 0
Builds o w w' L L' u sp out r =
    Built (out (source_in o w L) (state_in u w L)) (source_in o w L) (source_in o w' L') u w'.notes.now w'.schemas.now L' w.stack.now w'.stack.now sp (told u r)

-- a record appended, whatever the other two tables hold
pub record Finished (S S' : List ℕ) (u : Used) (w : List ℕ) (r : Told) : Type 0 where
  pub answer : (C : Source) (N L : List ℕ) → C.schemas_lent ≡ length S → out_of r N S' L ≡ add_schema C (state_of u N S L) w
  pub kept : take (u.schemas * schema_words) S' ≡ take (u.schemas * schema_words) S
  pub long : length S' ≡ length S
  pub notes : r.used.notes ≡ u.notes
  pub links : r.used.links ≡ u.links
  pub fresh : r.no ≡ 0 → r.fresh ≡ true
  pub least : u.schemas ≤ r.used.schemas
  pub rise : r.no ≡ 0 → u.schemas < r.used.schemas
  pub most : u.schemas ≤ most_schemas → r.used.schemas ≤ most_schemas

-- records appended or none: o says which, over the source and the state
pub record Rows (S S' : List ℕ) (u : Used) (o : Source → State → Out) (r : Told) : Type 0 where
  pub answer : (C : Source) (N L : List ℕ) → C.schemas_lent ≡ length S → out_of r N S' L ≡ o C (state_of u N S L)
  pub kept : take (u.schemas * schema_words) S' ≡ take (u.schemas * schema_words) S
  pub long : length S' ≡ length S
  pub notes : r.used.notes ≡ u.notes
  pub links : r.used.links ≡ u.links
  pub least : u.schemas ≤ r.used.schemas
  pub most : u.schemas ≤ most_schemas → r.used.schemas ≤ most_schemas

-- the same, the last of them new
pub record Rowed (S S' : List ℕ) (u : Used) (o : Source → State → Out) (r : Told) : Type 0 where
  pub rows : Rows S S' u o r
  pub fresh : r.no ≡ 0 → r.fresh ≡ true
  pub rise : r.no ≡ 0 → u.schemas < r.used.schemas

-- the join of additional, or of names
unfoldable pub join_row : ℕ → ℕ → Offers → Source → State → Out
join_row kind first offers C st = join_row_at C st kind first offers

-- the records of a merged object whose lists, of so many words, stand at `at`
unfoldable pub rows_of : ℕ → ℕ → Lists → Offers → Offers → Scalars → Source → State → Out
rows_of note at x offers named k C st =
    and_then (join_row 8 (at + (x.properties + x.patterns + x.required)) offers C st) (λ st₁ additional.
    and_then (join_row 7 (at + (x.properties + x.patterns + x.required + x.additional)) named C st₁) (λ st₂ names.
    add_schema C st₂ (object_row note at (x.properties / 2) (at + x.properties) (x.patterns / 2) additional (at + (x.properties + x.patterns)) x.required k.minimum k.maximum (pick k.closed 1 0) names k.naming)))

-- a join of two offers or more has a link for each, so that their number is a small one
pub record Joinable (u : Used) (o : Offers) : Type 0 where
  pub most : u.schemas ≤ most_schemas
  pub few : 2 ≤ o.n → o.n ≤ most_links

-- how many words the lists of a merged object take in the links
abbrev pub words_of : Lists → ℕ
words_of x = x.properties + x.patterns + x.required + x.additional + x.names

-- the used counts after a note and these lists
abbrev pub used_after : Used → Lists → Used
used_after u x = record { notes = u.notes + 1; schemas = u.schemas; links = u.links + words_of x }

pub record Fits (u : Used) (x : Lists) : Type 0 where
  pub notes : u.notes < most_notes
  pub links : u.links + words_of x ≤ most_links

pub record RowsReady (u : Used) (at : ℕ) (x : Lists) (offers named : Offers) : Type 0 where
  pub most : u.schemas ≤ most_schemas
  pub short : at + words_of x ≤ most_links
  pub few : 2 ≤ offers.n → offers.n ≤ most_links
  pub fewer : 2 ≤ named.n → named.n ≤ most_links

-- what a merged object takes of its bases and of the derived record, beside its lists
pub record Takes (b u : Used) (w : Work) (s : ℕ) (bs : List ℕ) (t : Taken) : Type 0 where
  pub scalars : Carried (take (b.schemas * schema_words) w.schemas.now) s (take (u.schemas * schema_words) w.schemas.now) bs t.scalars
  pub additional : t.additional ≡ schema_word (take (b.schemas * schema_words) w.schemas.now) s 6
  pub names : t.names ≡ NONE
  pub offers : t.offers ≡ tally_one (tally (offer_of (take (u.notes * note_words) w.notes.now) (take (u.schemas * schema_words) w.schemas.now) false) no_offers bs) t.additional
  pub named : t.named ≡ tally_one (tally (offer_of (take (u.notes * note_words) w.notes.now) (take (u.schemas * schema_words) w.schemas.now) true) no_offers bs) t.names
  pub note : t.note ≡ merged_note_in (take (b.notes * note_words) w.notes.now) (take (b.schemas * schema_words) w.schemas.now) (take (u.notes * note_words) w.notes.now) (take (u.schemas * schema_words) w.schemas.now) s bs

-- the links of a merged object appended
abbrev pub Lays : Origin → Used → Work → List ℕ → List ℕ → ℕ → List ℕ → Taken → Option Lists → Type 0
Lays o u w L L' s bs t r =
    let same : ℕ → ℕ → Bool = same_text o.texts.pool.now o.texts.records.now in
    let S : List ℕ = take (u.schemas * schema_words) w.schemas.now in
    let S₀ : List ℕ = take (o.base.schemas * schema_words) w.schemas.now in
    let N : List ℕ = take (u.notes * note_words) w.notes.now in
    Linked L L' u.links (pair_words same S S₀ u.links o.base.links L bs 2 s) (pair_words same S S₀ u.links o.base.links L bs 4 s) (required_words S S₀ u.links o.base.links L bs s) (join_words t.offers.n (joined (offered_of N S false) bs) t.additional) (join_words t.named.n (joined (offered_of N S true) bs) NONE) r
