-- `sending::make` and `sending::make_list` meet their contracts: what is held is not made, an atom is made itself, any
-- other row by its parts, which are rows before it; a list is made one row after another. Assumes nothing.
use Rattle.std.proofs.Common.{rules, arith}
use Rattle.book.specs.Span.{Span}
use Rattle.book.specs.Span.Laws.{span-row, span_rest}
use Rattle.sending.proofs.Makes.{held-makes, atom-makes, parts-makes, none-makes, more-makes}
use Rattle.sending.proofs.+make_make_list.Goals as goal

-- the row is held
pub make-returns-then-held : goal.make-returns-then-held
make-returns-then-held t c =
    let (valid, inside, sized, low) = c.requires in
    held-makes c.args.entries.now valid inside sized c.wide.ensures.0 c.held.ensures c.if-held.true

-- the row is an atom that is not held: it is made, its NEW is written, and it is asked what stands against it
pub make-returns-then-row_kind-eq-ATOM : goal.make-returns-then-row_kind-eq-ATOM
make-returns-then-row_kind-eq-ATOM t c =
    let (valid, inside, sized, low) = c.requires in
    atom-makes {l = c.args.since.now} c.args.entries.now {k = c.args.mark}
    {s = c.args.step} valid inside {m = c.args.m} sized _ c.wide.ensures.0
    c.held.ensures c.if-held.false c.row_kind.ensures c.if-row_kind-eq-ATOM.true
    c.made-made.ensures c.wide-then-row_kind-eq-ATOM.ensures.0 c.put_each-at.ensures
    c.first_stop-stop.ensures

-- the parts of a row are rows before it, so they lie below the row
pub make-make_list-requires : goal.make-make_list-requires
make-make_list-requires t c =
    let parts : Span c.args.book.now c.args.row c.row_first.result c.row_count.result = search span-row in
    (omega (arith, parts), (search rules, omega arith, parts, search rules, search rules))

pub make-returns : goal.make-returns
make-returns t c = search parts-makes

-- no row is left
pub make_list-returns-then-left-eq0 : goal.make_list-returns-then-left-eq0
make_list-returns-then-left-eq0 t c =
    let (valid, inside, span, sized, low) = c.requires in
    none-makes _ sized c.if-left-eq0.true

-- one row less is left
pub make_list-make_list-requires : goal.make_list-make_list-requires
make_list-make_list-requires t c = (omega arith, (search rules, search rules, search span_rest, search rules, search rules))

pub make_list-returns : goal.make_list-returns
make_list-returns t c = search more-makes
