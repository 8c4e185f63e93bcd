-- The rows' `rows::Records::count` meets its contract: the counts before the next row are those before this one, and its own. Assumes nothing.
use Rattle.std.proofs.Common.{arith}
use Rattle.words.specs.Sum.Laws.{sum_more}
use Rattle.book.specs.Layout.{row_count}
use Rattle.rows.proofs.RowsRecords.count.Goals as goal

pub returns : goal.returns
returns c = let more = sum_more (row_count c.args.book.now) c.args.row in omega arith
