-- `receiving::receive_messages` meets its contract: one row after another, opened or settled, and whatever ends the
-- rest ends the whole, as in `receive_list`. Assumes nothing.
use Rattle.std.proofs.Common.{◌+◌, ◌-◌}
use Rattle.receiving.specs.Receiving.{standing, list_did, Going}
use Rattle.receiving.proofs.receive_messages.Given as goal

abbrev pub invariant-loop-j : goal.invariant-loop-j
invariant-loop-j l = Going l.book l.bound (list_did l.book l.first l.left (standing l.step l.initial.entries l.next l.kept l.at)) (standing l.step l.initial.entries l.next l.kept l.at) l.initial.log l.initial.out
    (l.first + l.j) (l.left - l.j) (l.next + l.j) (standing l.step l.entries l.reached.next l.reached.kept l.reached.at) l.log l.out
