-- `translator::write_bodies` meets its contract: the programs of the parties passed are written, and each turn adds
-- one (`bodies-on`). Assumes nothing.
use Rattle.translator.proofs.Laid.{Laid}
use Rattle.translator.proofs.write_bodies.Given as goal

abbrev pub invariant-loop-party : goal.invariant-loop-party
invariant-loop-party l = Laid l.book l.party l.initial.out l.at l.out l.next
