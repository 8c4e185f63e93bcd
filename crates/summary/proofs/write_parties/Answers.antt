-- `summary::write_parties` meets its contract: the words of the parties passed are written, and each turn adds one's.
-- Assumes nothing.
use Rattle.summary.proofs.Held.{told-none, told-on}
use Rattle.summary.proofs.write_parties.Goals as goal

pub loop-party-init : goal.loop-party-init
loop-party-init c = told-none c.args.book.now

pub loop-party-preserved : goal.loop-party-preserved
loop-party-preserved c = told-on c.args.book.now _ c.loop-party.invariant c.write_party-next.ensures
