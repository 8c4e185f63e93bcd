-- `book::entry` meets its contract: it is the list's first word, and so below the list's bound. Assumes nothing.
use Rattle.book.specs.Span.Laws.{span_head, span-index}
use Rattle.book.specs.Headed.Laws.{valid-headed}
use native.Mathlib.Omega.{arith}
use Rattle.book.proofs.entry.Goals as goal

pub returns : goal.returns
returns c = let (valid, span, some) = c.requires in
    let head = span_head _ _ _ _ span some in
    (c.pooled.ensures, omega arith)

pub pooled-requires : goal.pooled-requires
pooled-requires c = (search valid-headed, search span-index)
