-- `alike::every_effect` meets its contract: the test holds of each of the effects behind. Assumes nothing.
use Rattle.alike.specs.Same.Each.{Each}
use Rattle.alike.proofs.every_effect.Given as goal

abbrev pub invariant-loop : goal.invariant-loop
invariant-loop g l = Each l.w (goal.F-post g l.holds) l.a l.k l.end l.i l.counter
