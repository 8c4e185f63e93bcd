-- `rows::entry_breaks` meets its contract: every entry that the loop has passed is below the bound. Assumes nothing.
use Rattle.std.proofs.Common.{refl, arith}
use Rattle.header.specs.Scans.Laws.{some-breaks, none-breaks}
use Rattle.header.specs.Tests.{leb_yes}
use Rattle.rows.proofs.entry_breaks.Goals as goal

pub returns-then-bound-pooled : goal.returns-then-bound-pooled
returns-then-bound-pooled c = some-breaks _ _ _ (omega arith) (leb_yes _ _ _ _ refl c.pooled.ensures (omega arith))

pub returns : goal.returns
returns c = none-breaks _ _ _ c.loop-j.invariant (omega arith)
