-- What `navigate` answers, in the order of its tests. Assumes nothing.
use mathlib.Core.Path.{◌≡◌, refl}
use mathlib.Core.Bool.{Bool}
use mathlib.Core.List.{List}
use Prim.Native.Nat.{ℕ, ◌<◌, ◌≤◌}
use borrow.Author.Tests.{lt-ltb, le-ltb}
use Rattle.text.specs.Text.{text_count}
use Rattle.layout.specs.Layout.{Tables, node_count}
use Rattle.error.specs.declared.Answer.{Answer}
use Rattle.error.specs.Answers.{plain_answer}
use Rattle.lookup.specs.Find.{Found}
use Rattle.std.specs.Prelude.{Some, None, Result, Ok, Err, ⊤}
use Rattle.std.specs.Option.{ok_or}
use Rattle.error.specs.declared.Failure.{Failure}
use Rattle.error.specs.declared.Failure.TheVariants.{NotFound}
use Rattle.tables.specs.Found.{Fault}
use Rattle.tables.specs.Check.{tables_fault}
use Rattle.navigate.specs.Walk.{navigate_over}
use Rattle.navigate.specs.Path.{steps_of, path_fault}
use Rattle.navigate.specs.Navigate.{answered, found_answer, walk_of, navigate_of}

-- the node that is found, or 40
pub answered_found : (found : Found) → answered (ok_or found NotFound) ≡ found_answer found
answered_found (Some n) = refl
answered_found None = refl

module _ (T : Tables) (node : ℕ) (path : List ℕ) (wanted : Bool) {tabled : Fault} (tested : tabled ≡ tables_fault T) where
  pub bad_tables : {failure : Failure} {r : Result ℕ Failure} → tabled ≡ Err failure → r ≡ Err failure → answered r ≡ navigate_of T node path wanted
  unfolding navigate_of
  bad_tables f h = rw (← tested, f, h)

  module _ {count : ℕ} {pathed : Fault} {u : ⊤} (sound : tabled ≡ Ok u) (counted : count ≡ text_count T.texts) (walked : pathed ≡ path_fault count path) where
    pub bad_path : {failure : Failure} {r : Result ℕ Failure} → pathed ≡ Err failure → r ≡ Err failure → answered r ≡ navigate_of T node path wanted
    unfolding navigate_of
    bad_path f h = rw (← tested, sound, ← counted, ← walked, f, h)

    module _ {nodes : ℕ} {r : Answer} {v : ⊤} (good : pathed ≡ Ok v) (many : nodes ≡ node_count T.nodes) where
      pub no_node : nodes ≤ node → r ≡ plain_answer 21 → r ≡ navigate_of T node path wanted
      unfolding navigate_of walk_of
      no_node l h = rw (← tested, sound, ← counted, ← walked, good, ← many, le-ltb node nodes l) h

      pub walk_found : {found : Found} → node < nodes → found ≡ navigate_over T.pool T.texts T.nodes T.links wanted node (steps_of path) → r ≡ found_answer found → r ≡ navigate_of T node path wanted
      unfolding navigate_of walk_of
      walk_found l e h = rw (← tested, sound, ← counted, ← walked, good, ← many, lt-ltb node nodes l, ← e) h
