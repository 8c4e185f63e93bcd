-- `parties::name_repeats` meets its contract: every party that the loop has passed has another name. Assumes nothing.
use Rattle.std.proofs.Common.{eqb}
use Rattle.book.specs.Layout.{name}
use Rattle.header.specs.Scans.{Passed}
use Rattle.parties.proofs.name_repeats.Given as goal

abbrev pub invariant-loop-k : goal.invariant-loop-k
invariant-loop-k l = Passed (λ m. eqb (name l.book m) (name l.book l.party)) l.k
