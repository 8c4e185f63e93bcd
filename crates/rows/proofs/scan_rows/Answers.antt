-- `rows::scan_rows` meets its contract: no row comes before the first, and no count. Assumes nothing.
use Rattle.std.proofs.Common.{sym, rules, arith}
use Rattle.words.specs.Sum.Laws.{sum-none}
use Rattle.book.specs.Layout.{row_count}
use Rattle.rows.proofs.scan_rows.Goals as goal

pub scan-requires : goal.scan-requires
scan-requires c = (search rules, sym (sum-none (row_count c.args.book.now)), omega arith)
