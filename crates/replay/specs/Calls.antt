-- A stored call, run again over the tables of its group: whether what it answers is what is stored, and the place behind it. Assumes nothing.
use Rattle.std.specs.Prelude.{ℕ, ◌+◌, ◌%◌, ◌^◌, false, List, ◌==◌, nat_le, nat_lt, slice_index}
use Rattle.text.specs.Choice.{pick, both, either}
use Rattle.text.specs.Text.{part_of}
use Rattle.layout.specs.Layout.{Tables, tables}
use Rattle.error.specs.declared.Mode.{Mode}
use Rattle.error.specs.declared.Mode.TheVariants.{Source, Standard}
use Rattle.number.specs.declared.equal.Equality.{Equality}
use Rattle.number.specs.declared.equal.Equality.TheVariants.{Enum, Unique}
use Rattle.json_equality.specs.Value.{equal_nodes_of}
use Rattle.navigate.specs.Navigate.{navigate_of}
use Rattle.validator.specs.Validate.{validate_of}
use Rattle.checker.specs.Flat.{flat_of}
use Rattle.checker.specs.Validated.{Left, left_of}
use Rattle.checker.specs.declared.flat.Flat.{Flat}
use Rattle.stored.specs.declared.group.Group.{Group}
use Rattle.stored.specs.Stored.{place_after, word_behind, between}
use Rattle.replay.specs.declared.answer.Met.{Met}
use Rattle.replay.specs.Answer.{judged_of, wrong_in, compared_of}

abbrev pub met : ℕ → ℕ → Met
met wrong after = record { wrong = wrong; after = after }

-- table k of a group: it stands where the one before it ends
abbrev pub table_of : List ℕ → List ℕ → ℕ → List ℕ
table_of words ends k = between words (slice_index ends k) (slice_index ends (k + 1))

-- the tables that a call is lent
unfoldable pub tables_of : List ℕ → List ℕ → List ℕ → List ℕ → Tables
tables_of ends words pool numbers =
    tables pool (table_of words ends 0) (table_of words ends 1) (table_of words ends 2) (table_of words ends 3) (table_of words ends 4) (table_of words ends 5) (table_of words ends 6) numbers

-- those of a group
unfoldable pub group_tables : Group → List ℕ → List ℕ → List ℕ → Tables
group_tables group words pool numbers =
    tables_of group.ends words (part_of pool 0 group.bytes) (between numbers 0 group.numbers)

-- a navigation: the node, whether the key is wanted, and the path are stored
unfoldable pub navigated_of : List ℕ → ℕ → List ℕ → Tables → Flat
navigated_of input at path T = flat_of (navigate_of T (word_behind input at 1) path (word_behind input at 2 == 1))

abbrev pub path_at : ℕ → ℕ
path_at at = place_after at 4

abbrev pub answer_behind : List ℕ → ℕ → ℕ
answer_behind input at = place_after (path_at at) (word_behind input at 3)

unfoldable pub navigation_of : List ℕ → ℕ → Tables → Met
navigation_of input at T =
    met (compared_of input (answer_behind input at) (navigated_of input at (between input (path_at at) (answer_behind input at)) T) false) (place_after (answer_behind input at) 18)

-- a pair of nodes: 1 where they are equal as JSON, for enum and for unique
unfoldable pub equal_of : Equality → List ℕ → ℕ → Tables → ℕ
equal_of way input at T =
    pick (equal_nodes_of way T.pool T.texts T.nodes T.links T.numbers (word_behind input at 1) (word_behind input at 2)) 1 0

unfoldable pub equality_of : List ℕ → ℕ → Tables → Met
equality_of input at T =
    met (judged_of (word_behind input at 4) (equal_of Unique input at T) (judged_of (word_behind input at 3) (equal_of Enum input at T) 0)) (place_after at 5)

-- a validation's mode by its stored number: 0 is none named, which means source mode, and 1 source mode by name
unfoldable pub mode_of : ℕ → Mode
mode_of n = pick (either (n == 0) (n == 1)) Source Standard

-- what a validation leaves: answer and both path buffers, of so many words
unfoldable pub validated_of : List ℕ → ℕ → Tables → ℕ → ℕ → Left
validated_of input at T i k =
    left_of (validate_of T (mode_of (word_behind input at 1)) (word_behind input at 2) (word_behind input at 3) i k)

-- the word that a path buffer has to have: those of the path, then 0
unfoldable pub path_word : List ℕ → ℕ → ℕ → ℕ → ℕ
path_word input at count k = pick (nat_lt k count) (word_behind input at k) 0

-- a path buffer of so many words
unfoldable pub path_wrong : List ℕ → ℕ → ℕ → List ℕ → ℕ → ℕ → ℕ
path_wrong input at count path length before = wrong_in (path_word input at count) (λ k. slice_index path k) length before

-- where a validation's answer stands, its two path counts, and where its two paths start
abbrev pub answer_at : ℕ → ℕ
answer_at at = place_after at 6

abbrev pub step_count : List ℕ → ℕ → ℕ
step_count input at = word_behind input (answer_at at) 9

abbrev pub kind_count : List ℕ → ℕ → ℕ
kind_count input at = word_behind input (answer_at at) 10

abbrev pub steps_at : ℕ → ℕ
steps_at at = place_after (answer_at at) 18

abbrev pub kinds_at : List ℕ → ℕ → ℕ
kinds_at input at = place_after (place_after (steps_at at) (step_count input at)) (step_count input at)

-- all that a validation leaves: the answer, then both buffers to their ends
unfoldable pub left_met : List ℕ → ℕ → Left → Met
left_met input at left =
    met
    (path_wrong input (kinds_at input at) (kind_count input at) left.schema (word_behind input at 5)
    (path_wrong input (steps_at at) ((step_count input at + step_count input at) % 2 ^ 32) left.instance (word_behind input at 4) (compared_of input (answer_at at) left.answer false)))
    (place_after (kinds_at input at) (kind_count input at))

-- buffers of so many words are at hand; more than that are never stored, and would be wrong
unfoldable pub within_of : List ℕ → ℕ → Tables → ℕ → ℕ → Met
within_of input at T i k =
    pick (both (nat_le (word_behind input at 4) i) (nat_le (word_behind input at 5) k)) (left_met input at (validated_of input at T (word_behind input at 4) (word_behind input at 5))) (met 1 4294967297)

unfoldable pub validation_of : List ℕ → ℕ → Tables → Met
validation_of input at T = within_of input at T 512 512
