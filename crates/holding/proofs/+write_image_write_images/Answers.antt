-- `holding::write_image` and `holding::write_images` meet their contracts: what is held by its entry, else its head and
-- its parts, which are rows before it; a list one row after another. Assumes nothing.
use Rattle.std.proofs.Common.{rules, arith}
use Rattle.book.specs.Span.{Span}
use Rattle.book.specs.Span.Laws.{span-row, span_rest}
use Rattle.holding.proofs.Images.{held-wrote, free-wrote, none-wrote, more-wrote}
use Rattle.holding.proofs.+write_image_write_images.Goals as goal

-- the row is held
pub write_image-returns-then-held : goal.write_image-returns-then-held
write_image-returns-then-held t c = search held-wrote

-- its parts lie below the row
pub write_image-write_images-requires : goal.write_image-write_images-requires
write_image-write_images-requires t c =
    let parts : Span c.args.book.now c.args.row c.row_first.result c.row_count.result = search span-row in
    (omega (arith, parts), (search rules, omega arith, parts))

pub write_image-returns : goal.write_image-returns
write_image-returns t c = search free-wrote

pub write_images-returns-then-left-eq0 : goal.write_images-returns-then-left-eq0
write_images-returns-then-left-eq0 t c = search none-wrote

pub write_images-write_images-requires : goal.write_images-write_images-requires
write_images-write_images-requires t c = (omega arith, (search rules, search rules, search span_rest))

pub write_images-returns : goal.write_images-returns
write_images-returns t c = search more-wrote
