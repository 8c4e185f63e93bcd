-- `twins::twin` meets its contract: no row passed agrees, since it is in another chain or differs in key, head or part;
-- the row that is returned is alike in all of them. Assumes nothing.
use Rattle.std.proofs.Common.{◌-◌}
use Rattle.twins.proofs.Twins.{SameTo, Own, Hunting}
use Rattle.twins.proofs.twin.Given as goal

abbrev pub invariant-parts : goal.invariant-parts
invariant-parts l = SameTo l.book l.row l.k l.first l.other l.n l.j

abbrev pub decreases-parts : goal.decreases-parts
decreases-parts l = l.n - l.j

abbrev pub invariant-rows : goal.invariant-rows
invariant-rows l = Own l.book l.row l.key l.first l.n × Hunting l.book l.row l.k

abbrev pub decreases-rows : goal.decreases-rows
decreases-rows l = l.row - l.k
