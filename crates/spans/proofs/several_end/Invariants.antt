-- `spans::several_end` meets its contract: of k things from the place a, as many as the turns are behind the place i. Assumes nothing.
use Rattle.spans.specs.Behind.Times.{Walk}
use Rattle.spans.proofs.several_end.Given as goal

abbrev pub invariant-loop : goal.invariant-loop
invariant-loop g l = Walk g.T.Thing.skip l.w l.a l.k l.i l.counter
