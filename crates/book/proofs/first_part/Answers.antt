-- `book::first_part` meets its contract: it is the first word of the row's list, and a part is a row before its row.
-- Assumes nothing.
use Rattle.book.specs.Span.Laws.{part-index, part_at}
use Rattle.book.specs.Headed.Laws.{valid-headed}
use borrow.Author.Rules.{rules}
use Rattle.book.proofs.first_part.Goals as goal

pub returns : goal.returns
returns c = let (valid, inside, kinded) = c.requires in
    part_at valid inside kinded c.row_first.ensures.0
    c.pooled.ensures

pub row_first-requires : goal.row_first-requires
row_first-requires c = search (valid-headed, rules)

pub pooled-requires : goal.pooled-requires
pooled-requires c = (search valid-headed, search part-index)
