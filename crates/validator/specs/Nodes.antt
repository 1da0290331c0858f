-- The nodes of the tables, as the visit sees them. Assumes nothing.
use Rattle.std.specs.Prelude.{ℕ, zero, suc, ◌+◌, List, [], ◌∷◌, eqb}
use Rattle.std.proofs.Math.Option.{some, none}
use Rattle.text.specs.Choice.{pick}
use Rattle.text.specs.Text.{same_text}
use Rattle.error.specs.declared.Mode.{Mode}
use Rattle.layout.specs.Layout.{Tables, node_kind, node_a, node_b}
use Rattle.lookup.specs.Find.{Found}
use Rattle.lookup.specs.Lookup.{entry_key, entry_value}
use Rattle.judge.specs.Judge.{judge_of, size_verdict, object_verdict, has_key, items_of}
use Rattle.validator.specs.Visit.{Nodes, Entry}

module _ (T : Tables) where
  -- an object's entries from entry k on
  unfoldable pub entry_of : ℕ → ℕ → Entry
  entry_of n k =
      record {
        key =
            pick (eqb (node_kind T.nodes (entry_key T.nodes T.links n k)) 4) (some (node_a T.nodes (entry_key T.nodes T.links n k))) none;
        value = entry_value T.nodes T.links n k;
      }

  unfoldable pub entries_from : ℕ → ℕ → ℕ → List Entry
  entries_from n k zero = []
  entries_from n k (suc left) = entry_of n k ∷ entries_from n (k + 1) left

-- the nodes of these tables, in a mode, with the way that a pattern is answered
abbrev pub nodes_of : Tables → Mode → (ℕ → ℕ → Found) → Nodes
nodes_of T m answer =
    record {
      same = same_text T.pool T.texts;
      judge = judge_of T m answer;
      counted = size_verdict T.nodes;
      object_first = object_verdict T.pool T.texts T.nodes T.links;
      has = has_key T.pool T.texts T.nodes T.links;
      items = items_of T.nodes T.links;
      entries = λ n. entries_from T n 0 (node_b T.nodes n);
    }
