-- `calls::read_nth` meets its contract: a slice is read where the function has one (`nth-slice`). Assumes nothing.
use Rattle.std.proofs.Common.{arith}
use Rattle.calls.specs.Request.Laws.{nth-slice}
use Rattle.calls.proofs.read_nth.Goals as goal

pub returns-then-k-n-clause-came : goal.returns-then-k-n-clause-came
returns-then-k-n-clause-came g c = nth-slice _ _ _ _ _ _ (omega arith) c.read_slice.ensures.came
