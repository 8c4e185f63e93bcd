-- `sending::make` and `sending::make_list`: a row counts more than a list below it, and a list more than each of its rows: at most nine are
-- left of it. Assumes nothing.
use Rattle.std.proofs.Common.{◌+◌, ◌*◌}
use Rattle.sending.proofs.+make_make_list.Given as goal

abbrev pub decreases-make : goal.decreases-make
decreases-make l = 16 * l.row + 15

abbrev pub decreases-make_list : goal.decreases-make_list
decreases-make_list l = 16 * l.bound + l.left
