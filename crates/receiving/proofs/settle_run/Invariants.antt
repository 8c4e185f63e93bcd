-- `receiving::settle_run` meets its contract: one row more is settled while none opens, and what is left is what is
-- still going. Assumes nothing.
use Rattle.std.proofs.Common.{◌+◌, ◌-◌}
use Rattle.receiving.specs.Receiving.{standing, rest_did, Going}
use Rattle.receiving.proofs.settle_run.Given as goal

abbrev pub invariant-loop-j : goal.invariant-loop-j
invariant-loop-j l = Going l.book l.bound (rest_did l.book l.first l.left l.from (standing l.step l.initial.entries l.next l.kept l.at)) (standing l.step l.initial.entries l.next l.kept l.at)
    l.initial.log l.initial.out (l.first + l.j) (l.left - l.j) (l.from + l.j) (standing l.step l.entries l.next l.stored l.last) l.log l.out
