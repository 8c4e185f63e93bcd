-- `parts::same_several` meets its contract: those that are passed were the same. Assumes nothing.
use Rattle.parts.specs.Place.Several.{Pairing}
use Rattle.parts.proofs.same_several.Given as goal

abbrev pub invariant-loop : goal.invariant-loop
invariant-loop g l = Pairing g.T.Same.read l.u l.a l.e l.v l.b l.f l.k l.i l.j l.counter
