-- What the members of the visit leave, against what the definition finds: the contracts of the cycle. Assumes nothing.
use Rattle.std.specs.Prelude.{ℕ, ◌+◌, ◌*◌, ◌≤◌, ◌<◌, ◌≡◌, Bool, true, false, List, [], ◌∷◌, length, get_or, set, eqb, ltb, Result, Ok, Err}
use Rattle.std.proofs.Math.Option.{Option, none}
use Rattle.text.specs.Choice.{either, pick}
use Rattle.error.specs.declared.Mode.{Mode}
use Rattle.error.specs.Paths.{Step, step_of, path_words}
use Rattle.layout.specs.Layout.{Tables, most_bytes, node_kind, node_b, node_count, schema_count, schema_note, array_items, ref_text, properties_first, properties_count, object_closed, additional_properties}
use Rattle.schema.specs.Shape.{Note, Object, Shape, plain, any_of, all_of, array, object, ref}
use Rattle.schema.specs.Look.{words_of, look, raw, detecting, note_at, list_of, array_of, object_of, optional, sort_object}
use Rattle.error.specs.declared.Answer.{Answer}
use Rattle.error.specs.declared.Detail.TheVariants.{Empty}
use Rattle.error.specs.declared.Failure.{Failure}
use Rattle.error.specs.declared.Failure.TheVariants.{WrongNumber, ShortBuffer}
use Rattle.error.specs.Answers.{NONE, plain_answer, refusal_of}
use Rattle.lookup.specs.Find.{Found}
use Rattle.std.specs.Prelude.{Some, None}
use Rattle.lookup.specs.Lookup.{entry_key, property_place, property_of, answer_of_pattern, find_in}
use Rattle.judge.specs.Judge.{Verdict, fine, key_text}
use Rattle.tables.specs.Found.{Fault, on_fault}
use Rattle.tables.specs.Check.{tables_fault}
use Rattle.validator.specs.declared.walk.Choice.{Choice}
use Rattle.validator.specs.declared.walk.Choice.TheVariants.{Part, Closed, Skip}
use Rattle.validator.specs.declared.paths.Paths.{Paths}
use Rattle.validator.specs.declared.paths.Trail.{Trail}
use Rattle.validator.specs.declared.paths.Stop.{Stop}
use Rattle.validator.specs.declared.paths.Stop.TheVariants.{Refused, Invalid, Ended}
use Rattle.validator.specs.Outcome.{Outcome, accepted, refused, invalid, ended, place, and_then, verdict}
use Rattle.validator.specs.Visit.{Nodes, any_over, all_over, array_at, object_at, entries_over, entry_at, ref_at}
use Rattle.validator.specs.Nodes.{nodes_of, entry_of, entries_from}
use Rattle.validator.specs.Validate.{instance_words, schema_step_words, visit_of}

-- ---- outcomes, as the code has them: the counts of both paths start at those of the visited place
abbrev pub Visited : Type 0
Visited = Result Unit Stop

abbrev pub told : Outcome → ℕ → ℕ → Visited
told accepted s k = Ok tt
told (refused e) s k =
    Err (Refused (record {
      number = e.number;
      node = e.node;
      schema = e.schema;
      hint = e.hint;
      detail = e.detail;
      steps = s + length e.steps;
      kinds = k + length e.kinds;
    }))
told (invalid p) s k = Err (Invalid (s + length p))
told (ended n) s k = Err (Ended n)

-- the steps of either path that an outcome leaves
abbrev pub steps_of : Outcome → List Step
steps_of accepted = []
steps_of (refused e) = e.steps
steps_of (invalid p) = p
steps_of (ended n) = []

abbrev pub kinds_of : Outcome → List ℕ
kinds_of accepted = []
kinds_of (refused e) = e.kinds
kinds_of (invalid p) = []
kinds_of (ended n) = []

-- which outcomes leave an instance step, and which a schema step
abbrev pub leaves_step : Visited → Bool
leaves_step (Ok _) = false
leaves_step (Err (Refused e)) = true
leaves_step (Err (Invalid n)) = true
leaves_step (Err (Ended n)) = false

abbrev pub leaves_kind : Visited → Bool
leaves_kind (Ok _) = false
leaves_kind (Err (Refused e)) = true
leaves_kind (Err (Invalid n)) = false
leaves_kind (Err (Ended n)) = false

-- a word at its place; two words of a step at theirs
abbrev pub mark_in : Bool → List ℕ → ℕ → ℕ → List ℕ
mark_in on xs at w = pick on (set xs at w) xs

abbrev pub pair_in : Bool → List ℕ → ℕ → ℕ → ℕ → List ℕ
pair_in on xs at tag w = pick on (set (set xs (at * 2 + 1) w) (at * 2) tag) xs

-- alternatives after the first error: one that accepts or ends everything decides, else that error stays
abbrev pub or_later : Outcome → Visited → Visited
or_later accepted rest = Ok tt
or_later (refused e) rest = rest
or_later (invalid p) rest = rest
or_later (ended n) rest = Err (Ended n)

unfoldable pub lastly : (ℕ → Outcome) → Visited → List ℕ → Visited
lastly go best [] = best
lastly go best (x ∷ xs) =
    let rest = lastly go best xs in
    or_later (go x) rest

-- property, else closed, else additional
abbrev pub choice_of : Found → Bool → ℕ → Choice
choice_of (Some x) closed more = Part x
choice_of None true more = Closed
choice_of None false more = pick (eqb more NONE) Skip (Part more)

unfoldable pub chosen_in : List ℕ → List ℕ → List ℕ → List ℕ → ℕ → ℕ → Choice
chosen_in pool texts schemas links s t =
    choice_of (property_of pool texts links (properties_first schemas s) (properties_count schemas s) t)
    (eqb (object_closed schemas s) 1)
    (additional_properties schemas s)

-- the place among the properties of entry k's key, where that is a string
unfoldable pub entry_place : List ℕ → List ℕ → List ℕ → List ℕ → List ℕ → ℕ → ℕ → ℕ → Found
entry_place pool texts nodes schemas links n s k =
    pick (eqb (node_kind nodes (entry_key nodes links n k)) 4)
    (property_place pool texts links (properties_first schemas s) (properties_count schemas s) (key_text nodes links n k))
    None

-- ---- what each member finds, with `below` levels left for the parts
module _ (T : Tables) (mode : Mode) where
  abbrev pub nodes_in : Nodes
  nodes_in = nodes_of T mode (answer_of_pattern T.pool T.texts T.patterns)

  abbrev pub note_in : ℕ → Option Note
  note_in s = note_at T.notes (schema_note T.schemas s)

  abbrev pub object_in : ℕ → Object ℕ
  object_in s = sort_object (λ n. detecting (raw (words_of T) n)) (object_of (words_of T) s)

  module _ (below n s : ℕ) where
    unfoldable pub any_in : Outcome
    any_in = any_over (visit_of T mode below n) none (list_of (words_of T) s)

    unfoldable pub all_in : Outcome
    all_in = all_over (visit_of T mode below n) (list_of (words_of T) s)

    unfoldable pub array_in : Outcome
    array_in =
        and_then (verdict (nodes_in.judge (array_of (words_of T) s) n) s (note_in s))
        (array_at nodes_in (λ x. x) (visit_of T mode below) (optional (array_items T.schemas s)) n)

    unfoldable pub entry_in : ℕ → Outcome
    entry_in k = entry_at nodes_in (λ x. x) (visit_of T mode below) s (object_in s) n (entry_of T n k).value (entry_of T n k).key

    -- all entries, in order
    unfoldable pub entries_in : Outcome
    entries_in =
        entries_over nodes_in (λ x. x) (visit_of T mode below) s (object_in s) n (entries_from T n 0 (node_b T.nodes n))

    unfoldable pub object_whole : Outcome
    object_whole = object_at nodes_in (λ x. x) (visit_of T mode below) s (object_in s) n

    unfoldable pub ref_in : Outcome
    ref_in = ref_at nodes_in (λ x. x) (visit_of T mode below) s (note_in s) (ref_text T.schemas s) n (find_in T (ref_text T.schemas s))

    -- a part of the value, one step down
    unfoldable pub part_in : ℕ → ℕ → Outcome
    part_in tag word = place (step_of tag word) (visit_of T mode below n s)

    -- a visit without its own schema step; a ref has none
    abbrev pub within : Shape ℕ → Outcome
    within (plain w) = verdict (nodes_in.judge w n) s w.note
    within (any_of _ xs) = any_over (visit_of T mode below n) none xs
    within (all_of _ xs) = all_over (visit_of T mode below n) xs
    within (array w x) =
        and_then (verdict (nodes_in.judge w n) s w.note) (array_at nodes_in (λ m. m) (visit_of T mode below) x n)
    within (object o) = object_at nodes_in (λ m. m) (visit_of T mode below) s o n
    within (ref _ t eager) = accepted

    unfoldable pub inner_in : Outcome
    inner_in = within (look (words_of T) s)

-- true where the outcome is known to be accepted; false says nothing
unfoldable pub Accepts : Bool → Outcome → Type 0
Accepts r o = r ≡ true → o ≡ accepted

-- true where that verdict is fine, and the outcome accepted; false says nothing
unfoldable pub AcceptsAll : Bool → Verdict → Outcome → Type 0
AcceptsAll r v o = r ≡ true → (v ≡ fine) × (o ≡ accepted)

-- ---- buffers
-- the words of p stand in xs from `at` on
unfoldable pub Holds : List ℕ → ℕ → List ℕ → Type 0
Holds xs at p = (j : ℕ) → j < length p → get_or xs (at + j) 0 ≡ get_or p j 0

-- a buffer before and after: as long, the same before n, and the same all over where nothing is logged
pub record Calm (log : Bool) (n : ℕ) (xs ys : List ℕ) : Type 0 where
  pub long : length ys ≡ length xs
  pub kept : (j : ℕ) → j < n → get_or ys j 0 ≡ get_or xs j 0
  pub quiet : log ≡ false → ys ≡ xs

-- ys is xs with zeros from `from` on
pub record Cleared (from : ℕ) (xs ys : List ℕ) : Type 0 where
  pub long : length ys ≡ length xs
  pub kept : (j : ℕ) → j < from → get_or ys j 0 ≡ get_or xs j 0
  pub zeros : (j : ℕ) → from ≤ j → get_or ys j 0 ≡ 0

-- ---- contracts
-- the same two buffers are lent on
pub record Same (P Q : Paths) : Type 0 where
  pub instance : Q.instance.ghost_name ≡ P.instance.ghost_name
  pub schema : Q.schema.ghost_name ≡ P.schema.ghost_name

pub record Met (o : Outcome) (log : Bool) (s k : ℕ) (I I' S S' : List ℕ) (r : Visited) : Type 0 where
  pub answer : r ≡ told o s k
  pub few_i : s + length (steps_of o) ≤ 64
  pub few_k : k + length (kinds_of o) ≤ 64
  pub calm_i : Calm log (s * 2) I I'
  pub calm_s : Calm log k S S'
  pub path_i : log ≡ true → Holds I' (s * 2) (path_words (steps_of o))
  pub path_s : log ≡ true → Holds S' k (kinds_of o)

-- where a call begins
abbrev pub start : Trail
start = record { log = true; steps = 0; kinds = 0 }

-- ... of both paths, as they are lent on
abbrev pub Meets : Outcome → Trail → Paths → Paths → Visited → Type 0
Meets o t P Q r = Met o t.log t.steps t.kinds P.instance.now Q.instance.now P.schema.now Q.schema.now r

-- every level left may add a step to either path
pub record Room (t : Trail) (level : ℕ) (Q : Paths) (P : List ℕ) : Type 0 where
  pub i_room : t.steps + level ≤ 64
  pub s_room : t.kinds + level ≤ 64
  pub i_long : 128 ≤ length Q.instance.now
  pub s_long : 64 ≤ length Q.schema.now
  pub bytes : length P ≤ most_bytes

-- ... and the place visited now one to the instance path
pub record Deep (t : Trail) (below : ℕ) (Q : Paths) (P : List ℕ) : Type 0 where
  pub i_room : t.steps + below < 64
  pub s_room : t.kinds + below ≤ 64
  pub i_long : 128 ≤ length Q.instance.now
  pub s_long : 64 ≤ length Q.schema.now
  pub bytes : length P ≤ most_bytes

pub record Late (t : Trail) (below from count : ℕ) (Q : Paths) (P : List ℕ) : Type 0 where
  pub deep : Deep t below Q P
  pub within : from ≤ count

pub record Stepping (t : Trail) (below tag : ℕ) (Q : Paths) (P : List ℕ) : Type 0 where
  pub deep : Deep t below Q P
  pub tagged : tag < 2

pub record Inside (t : Trail) (below : ℕ) (Q : Paths) (P : List ℕ) (kind own : ℕ) : Type 0 where
  pub deep : Deep t below Q P
  pub told : kind ≡ own
  pub small : kind ≤ 10

-- later alternatives write nothing
pub record Later (o : Visited) (I I' S S' : List ℕ) (r : Visited) : Type 0 where
  pub answer : r ≡ o
  pub same_i : I' ≡ I
  pub same_s : S' ≡ S

-- ---- the public entry
-- 20, 21 node, 21 schema, 22, then the work
abbrev pub sound_or : Fault → Result Unit Failure → Result Unit Failure
sound_or f rest = on_fault f Err rest

unfoldable pub begun_of : Tables → ℕ → ℕ → ℕ → ℕ → Result Unit Failure
begun_of T n s i k =
    sound_or (tables_fault T)
    (pick (ltb n (node_count T.nodes))
    (pick (ltb s (schema_count T.schemas))
    (pick (either (ltb i instance_words) (ltb k schema_step_words)) (Err ShortBuffer) (Ok tt))
    (Err WrongNumber))
    (Err WrongNumber))

-- the answer to what was found, and how many steps its paths have
abbrev pub answer_to : Visited → Answer
answer_to (Ok _) = plain_answer 0
answer_to (Err (Refused e)) = refusal_of e.number e.node e.schema e.hint e.detail e.steps e.kinds
answer_to (Err (Invalid n)) = refusal_of 14 NONE NONE NONE Empty n 0
answer_to (Err (Ended n)) = plain_answer n

abbrev pub steps_told : Visited → ℕ
steps_told (Ok _) = 0
steps_told (Err (Refused e)) = e.steps
steps_told (Err (Invalid n)) = n
steps_told (Err (Ended n)) = 0

abbrev pub kinds_told : Visited → ℕ
kinds_told (Ok _) = 0
kinds_told (Err (Refused e)) = e.kinds
kinds_told (Err (Invalid n)) = 0
kinds_told (Err (Ended n)) = 0

pub record Finished (a : Visited) (I I' S S' : List ℕ) (r : Answer) : Type 0 where
  pub answer : r ≡ answer_to a
  pub instance : Cleared (steps_told a * 2) I I'
  pub schema : Cleared (kinds_told a) S S'
