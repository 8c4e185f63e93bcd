-- `claims::mark` and `claims::mark_list` meet their contracts: what occurs in a row occurs in one of its parts, and
-- every atom of a row gone through before has an entry. Assumes nothing.
use Rattle.std.proofs.Common.{rules, arith}
use Rattle.book.specs.Span.{Span}
use Rattle.book.specs.Span.Laws.{span-row, span_rest}
use Rattle.claims.proofs.Marks.{atom-marked, ready_marked, row_done, seen_done, none_done, more-marked}
use Rattle.claims.proofs.+mark_mark_list.Goals as goal

pub mark-returns-then-row_kind-eq-ATOM : goal.mark-returns-then-row_kind-eq-ATOM
mark-returns-then-row_kind-eq-ATOM t c = (search atom-marked, search ready_marked)

-- the row was gone through
pub mark-returns-then-seen-wide : goal.mark-returns-then-seen-wide
mark-returns-then-seen-wide t c =
    let (valid, ready, inside, some) = c.requires in
    seen_done {r = c.args.row} c.wide.ensures.0 ready c.if-seen-wide.true

-- the parts of a row are rows before it, so they lie below the row
pub mark-mark_list-requires : goal.mark-mark_list-requires
mark-mark_list-requires t c =
    let parts : Span c.args.book.now c.args.row c.row_first.result c.row_count.result = search span-row in
    (omega (arith, parts), (search rules, search rules, omega arith, parts, search rules))

-- the parts are marked, and the row is noted as gone through
pub mark-returns : goal.mark-returns
mark-returns t c =
    let (valid, ready, inside, some) = c.requires in
    row_done valid inside c.row_kind.ensures c.if-row_kind-eq-ATOM.false
    c.row_first.ensures.0 c.row_count.ensures.0 c.wide-2.ensures.0 some
    c.mark_list.ensures.0 c.mark_list.ensures.1

-- no part is left
pub mark_list-returns-then-left-eq0 : goal.mark_list-returns-then-left-eq0
mark_list-returns-then-left-eq0 t c =
    let (valid, ready, inside, span, some) = c.requires in
    none_done _ c.if-left-eq0.true ready

-- one row less is left
pub mark_list-mark_list-requires : goal.mark_list-mark_list-requires
mark_list-mark_list-requires t c = (omega arith, (search rules, search rules, search rules, search span_rest, search rules))

pub mark_list-returns : goal.mark_list-returns
mark_list-returns t c = search (more-marked, rules)
