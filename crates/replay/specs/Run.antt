-- A run over the stored calls of a group: how many were met, how many were answered otherwise, and where the next one stands. Assumes nothing.
use Rattle.std.specs.Prelude.{◌≡◌, ℕ, zero, suc, ◌+◌, ◌%◌, ◌^◌, Bool, List, ◌==◌}
use Rattle.text.specs.Choice.{pick, both}
use Rattle.layout.specs.Layout.{Tables}
use Rattle.stored.specs.Stored.{place_after, word_behind}
use Rattle.stored.specs.Input.{Refilled}
use Rattle.stored.specs.Group.{Unpacked}
use Rattle.replay.specs.declared.Run.{Run}
use Rattle.replay.specs.declared.answer.Met.{Met}
use Rattle.replay.specs.Calls.{group_tables, navigation_of, validation_of, equality_of}

-- behind one more call
unfoldable pub counted_of : Run → Met → Run
counted_of run met =
    record { calls = (run.calls + 1) % 2 ^ 32; wrong = (run.wrong + met.wrong) % 2 ^ 32; at = met.after; end = run.end }

-- one that cannot go on: its place is past the end
unfoldable pub failed_of : Run → Run
failed_of run = record { calls = run.calls; wrong = (run.wrong + 1) % 2 ^ 32; at = 4294967296; end = 0 }

unfoldable pub placed_of : Run → ℕ → Run
placed_of run at = record { calls = run.calls; wrong = run.wrong; at = at; end = run.end }

-- one whose words were read on: the words at hand stay, and nothing is counted
pub record ReadOn (before after : List ℕ) (run next : Run) : Type 0 where
  pub calls : next.calls ≡ run.calls
  pub wrong : next.wrong ≡ run.wrong
  pub held : Refilled before after run.at run.end (record { at = next.at; end = next.end })

-- a call, by its number in the file's header
unfoldable pub call_of : ℕ → List ℕ → Run → Tables → Run
call_of call input run T =
    pick (call == 0) (counted_of run (navigation_of input run.at T))
    (pick (call == 1) (counted_of run (validation_of input run.at T))
    (pick (call == 3) (counted_of run (equality_of input run.at T))
    (failed_of run)))

-- so many calls, one behind the other
unfoldable pub calls_of : ℕ → List ℕ → Run → Tables → ℕ → Run
calls_of call input run T zero = run
calls_of call input run T (suc n) = call_of call input (calls_of call input run T n) T

-- a group: its tables are unpacked, and its calls, whose count stands behind the tables, are run
unfoldable pub group_of : ℕ → List ℕ → Run → Unpacked → Run
group_of call input before u =
    calls_of call input (placed_of before (place_after u.group.after 1)) (group_tables u.group u.words u.pool u.numbers) (word_behind input u.group.after 0)

-- the first two words of a stored file
unfoldable pub is_file : List ℕ → ℕ → Bool
is_file input at = both (word_behind input at 0 == 1348031057) (word_behind input at 1 == 1)
