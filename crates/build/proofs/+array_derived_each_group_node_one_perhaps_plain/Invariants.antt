use Prim.Native.Nat.{◌+◌, ◌*◌}
use Rattle.derive.specs.Meets.{source_in, state_in, SameLent}
use Rattle.build.proofs.Build as build
use Rattle.build.proofs.+array_derived_each_group_node_one_perhaps_plain.Given as goal

-- What the borrow checker leaves of each. Assumes nothing.
abbrev pub invariant-each-loop-i : goal.invariant-each-loop-i
invariant-each-loop-i l =
    record {
      going : build.Going (source_in l.origin l.initial.work l.initial.links) (source_in l.origin l.work l.links) l.below l.origin.base l.initial.u l.u (state_in l.initial.u l.initial.work l.initial.links) (state_in l.u l.work l.links) l.initial.work.stack.now l.work.stack.now l.at l.step l.count l.sp l.i l.q l.top;
      lent : SameLent l.initial.work l.work;
    }

-- The measures of the cycle, and what each member is given and asks. Assumes nothing.
abbrev pub decreases-array : goal.decreases-array
decreases-array l = 4 * l.below + 2

abbrev pub decreases-derived : goal.decreases-derived
decreases-derived l = 4 * l.below + 2

abbrev pub decreases-each : goal.decreases-each
decreases-each l = 4 * l.below + 1

abbrev pub decreases-group : goal.decreases-group
decreases-group l = 4 * l.below + 2

abbrev pub decreases-node : goal.decreases-node
decreases-node l = 4 * l.below + 3

abbrev pub decreases-one : goal.decreases-one
decreases-one l = 4 * l.level

abbrev pub decreases-perhaps : goal.decreases-perhaps
decreases-perhaps l = 4 * l.level + 1

abbrev pub decreases-plain : goal.decreases-plain
decreases-plain l = 4 * l.below + 2
