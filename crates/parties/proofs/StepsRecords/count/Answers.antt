-- The steps' `rows::Records::count` meets its contract: the counts before the next step are those before this one, and its own. Assumes nothing.
use Rattle.std.proofs.Common.{arith}
use Rattle.words.specs.Sum.Laws.{sum_more}
use Rattle.book.specs.Layout.{step_count}
use Rattle.parties.proofs.StepsRecords.count.Goals as goal

pub returns : goal.returns
returns c = let more = sum_more (step_count c.args.book.now) c.args.step in omega arith
