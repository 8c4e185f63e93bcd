-- `translator::write_heads` meets its contract: the heads of the parties passed are written while no walk stops
-- (`heads-on`), and of those that stop the one at the smallest step is kept (`heads-off`). Assumes nothing.
use Rattle.translator.proofs.Measuring.{Measuring}
use Rattle.translator.proofs.write_heads.Given as goal

abbrev pub invariant-loop-party : goal.invariant-loop-party
invariant-loop-party l = Measuring l.book l.n l.party l.initial.out l.at l.out l.next l.sends l.receives l.ends l.end l.stop
