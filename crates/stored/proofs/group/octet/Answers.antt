use mathlib.Core.Path.{ap, ◌∙◌}
use mathlib.Core.List.{List}
use Prim.Native.Nat.{ℕ}
use native.Mathlib.Omega.{arith}
use lib.ListN.{get_or}
use Rattle.stored.proofs.Unpacking.{octet_first, octet_second, octet_third, octet_last}
use Rattle.stored.proofs.group.octet.Goals as goal

pub returns-in-0 : goal.returns-in-0
returns-in-0 c = ap (λ (l : List ℕ). get_or l 0 0) c.to_le_bytes.ensures ∙ octet_first _ _ c.in-0.is

pub returns-in-1 : goal.returns-in-1
returns-in-1 c = ap (λ (l : List ℕ). get_or l 1 0) c.to_le_bytes.ensures ∙ octet_second _ _ c.in-1.is

pub returns-in-2 : goal.returns-in-2
returns-in-2 c = ap (λ (l : List ℕ). get_or l 2 0) c.to_le_bytes.ensures ∙ octet_third _ _ c.in-2.is

pub returns-in_default : goal.returns-in_default
returns-in_default c = ap (λ (l : List ℕ). get_or l 3 0) c.to_le_bytes.ensures ∙ octet_last _ _ (λ e. omega arith) (λ e. omega arith) (λ e. omega arith)
