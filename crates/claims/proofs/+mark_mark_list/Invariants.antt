-- `claims::mark` and `claims::mark_list`: a row counts more than a list below it, and a list more than each of its rows: at most nine are
-- left of it. Assumes nothing.
use Rattle.std.proofs.Common.{◌+◌, ◌*◌}
use Rattle.claims.proofs.+mark_mark_list.Given as goal

abbrev pub decreases-mark : goal.decreases-mark
decreases-mark l = 16 * l.row + 15

abbrev pub decreases-mark_list : goal.decreases-mark_list
decreases-mark_list l = 16 * l.bound + l.left
