-- `receiving::receive` and `receiving::receive_list`: why they end. `receive` hands on its row as the bound, with at most 9 rows, and
-- `receive_list` a row below it. Assumes nothing.
use Rattle.std.proofs.Common.{◌+◌, ◌-◌, ◌*◌}
use Rattle.receiving.specs.Receiving.{rest_did, Going}
use Rattle.receiving.proofs.+receive_receive_list.Given as goal

-- 16 times the row, and 15
abbrev pub decreases-receive : goal.decreases-receive
decreases-receive l = 16 * l.row + 15

-- 16 times the bound, and the rows of the list
abbrev pub decreases-receive_list : goal.decreases-receive_list
decreases-receive_list l = 16 * l.bound + l.left

abbrev pub invariant-receive_list-loop-j : goal.invariant-receive_list-loop-j
invariant-receive_list-loop-j l =
    Going l.book l.bound (rest_did l.book l.first l.left l.from l.initial.here) l.initial.here l.initial.log l.initial.out
    (l.first + l.j) (l.left - l.j) (l.from + l.j) l.here l.log l.out
