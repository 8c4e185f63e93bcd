-- `alike::count_where` meets its contract: the test holds of n of the effects behind. Assumes nothing.
use Rattle.alike.specs.Same.Each.{Counting}
use Rattle.alike.proofs.count_where.Given as goal

abbrev pub invariant-loop : goal.invariant-loop
invariant-loop g l = Counting l.w (goal.F-post g l.holds) l.a l.k l.end l.i l.counter l.n
