-- `reader::read` meets its contract: the lines 1 to 3 of the table, and then the rest. Assumes nothing.
use Rattle.reader.proofs.Verdict.{says-short, says-count, counts-kept, says-offset, header-kept, says-body}
use Rattle.reader.proofs.read.Goals as goal

pub returns-then-book : goal.returns-then-book
returns-then-book c = says-short _ c.if-book.true

pub returns-in-Some : goal.returns-in-Some
returns-in-Some c = says-count _ c.if-book.false _ c.in-Some.ensures

pub offsets-requires : goal.offsets-requires
offsets-requires c = (c.if-book.false, counts-kept _ c.if-book.false c.in_default.ensures)

pub returns-in-Some-offsets : goal.returns-in-Some-offsets
returns-in-Some-offsets c = says-offset _ c.if-book.false c.in_default.ensures _ c.in-Some-offsets.ensures _ c.min.ensures

pub read_rows-requires : goal.read_rows-requires
read_rows-requires c = header-kept _ c.if-book.false c.in_default.ensures c.in_default-offsets.ensures

pub returns : goal.returns
returns c = says-body _ c.if-book.false c.in_default.ensures c.in_default-offsets.ensures _ c.read_rows.ensures
