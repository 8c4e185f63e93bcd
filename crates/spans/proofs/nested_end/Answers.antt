-- `spans::nested_end` meets its contract: what is read from the place a ends where what is still due from the place i on does. Assumes nothing.
use Rattle.std.proofs.Common.{sym, ◌≤◌, ◌<◌, length}
use borrow.Author.Tests.{ltb-true, ltb-false}
use Rattle.spans.specs.Behind.Laws.{ends-nothing}
use Rattle.spans.specs.Behind.Nested.{walk-begin, walk-past, walk_none, walk-again, walk-done}
use Rattle.spans.proofs.nested_end.Goals as goal

pub loop-due-init : goal.loop-due-init
loop-due-init g c = walk-begin _ _ _ _

pub returns-in_err-first : goal.returns-in_err-first
returns-in_err-first g c =
    let past : length c.args.w.now ≤ c.loop-due.i = ltb-false _ _ (sym c.in_err-first.ensures.lookup.0) in
    search (ends-nothing, walk-past)

pub returns-in_err-i : goal.returns-in_err-i
returns-in_err-i g c =
    let inside : c.loop-due.i < length c.args.w.now = ltb-true _ _ (sym c.in_ok-first.ensures.lookup.0) in
    search (ends-nothing, walk_none, c.in_err-i.ensures)

pub loop-due-preserved : goal.loop-due-preserved
loop-due-preserved g c =
    let inside : c.loop-due.i < length c.args.w.now = ltb-true _ _ (sym c.in_ok-first.ensures.lookup.0) in
    search (walk-again, c.in_ok-i.ensures, c.in_ok-first.ensures.lookup.3.1 0)

pub returns : goal.returns
returns g c = search walk-done
