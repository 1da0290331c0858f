-- Document 01, "Answers by number": what `navigate` answers. Assumes nothing.
use Rattle.std.specs.Prelude.{ℕ, Bool, List, ltb, Result, Ok, Err}
use Rattle.text.specs.Choice.{pick}
use Rattle.text.specs.Text.{text_count}
use Rattle.layout.specs.Layout.{Tables, node_count}
use Rattle.error.specs.declared.Answer.{Answer}
use Rattle.error.specs.Answers.{plain_answer, failure_answer, found_record}
use Rattle.lookup.specs.Find.{Found}
use Rattle.std.specs.Prelude.{Some, None}
use Rattle.error.specs.declared.Failure.{Failure}
use Rattle.tables.specs.Found.{Fault, on_fault}
use Rattle.tables.specs.Check.{tables_fault}
use Rattle.navigate.specs.Walk.{navigate_over}
use Rattle.navigate.specs.Path.{steps_of, path_fault}

-- 20 where there is a fault, else the rest
abbrev pub fault_or : Fault → Answer → Answer
fault_or f rest = on_fault f failure_answer rest

-- 0 with the node that is found, 40 where nothing is
abbrev pub found_answer : Found → Answer
found_answer (Some n) = found_record n
found_answer None = plain_answer 40

-- 0 with the node, or the answer of what stopped the call
abbrev pub answered : Result ℕ Failure → Answer
answered (Ok n) = found_record n
answered (Err failure) = failure_answer failure

-- 21 where there is no such node, else the walk
unfoldable pub walk_of : Tables → ℕ → List ℕ → Bool → Answer
walk_of T node path wanted =
    pick (ltb node (node_count T.nodes))
    (found_answer (navigate_over T.pool T.texts T.nodes T.links wanted node (steps_of path)))
    (plain_answer 21)

-- the tables, the path, the node number, then the walk
unfoldable pub navigate_of : Tables → ℕ → List ℕ → Bool → Answer
navigate_of T node path wanted =
    fault_or (tables_fault T) (fault_or (path_fault (text_count T.texts) path) (walk_of T node path wanted))
