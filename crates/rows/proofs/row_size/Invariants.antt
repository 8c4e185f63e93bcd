-- `rows::row_size` meets its contract: the sizes of the parts are added, one after the other. Each part is an earlier
-- row, of size at most 1,024, and there are at most 9, so that no sum wraps. Assumes nothing.
use Rattle.std.proofs.Common.{◌≡◌, ◌+◌, ◌*◌, ◌≤◌}
use Rattle.rows.proofs.Sizes.{size_so_far}
use Rattle.rows.proofs.row_size.Given as goal

abbrev pub invariant-loop-j : goal.invariant-loop-j
invariant-loop-j l = (l.size ≡ size_so_far l.book l.sizes l.row l.first l.j) × (l.size ≤ 3 + 1024 * l.j)
