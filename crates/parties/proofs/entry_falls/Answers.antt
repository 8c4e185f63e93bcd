-- `parties::entry_falls` meets its contract: every entry before the loop's is below the next. Assumes nothing.
use Rattle.std.proofs.Common.{◌≡◌, ◌+◌, ◌-◌, arith}
use Rattle.header.specs.Scans.Laws.{some-breaks, none-breaks}
use Rattle.header.specs.Tests.{leb_yes}
use Rattle.parties.proofs.entry_falls.Goals as goal

-- the entry read is the next of the one before it
pub returns-then-pooled : goal.returns-then-pooled
returns-then-pooled c = let next : c.loop-j.j ≡ c.loop-j.j - 1 + 1 = omega arith in
    let read = rw next at c.pooled.ensures in
    some-breaks _ _ _ (omega arith) (leb_yes _ _ _ _ read c.pooled-in-loop-j.ensures (omega arith))

pub returns : goal.returns
returns c = none-breaks _ _ _ c.loop-j.invariant (omega arith)
