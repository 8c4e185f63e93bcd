-- `spans::list_end` meets its contract: the effects stand behind their count. Assumes nothing.
use Rattle.std.proofs.Common.{◌≤◌, ◌∙◌, sym, arith, length}
use borrow.Author.Tests.{ltb-false}
use Rattle.spans.specs.Behind.Laws.{ends-nothing, ends_as}
use Rattle.spans.specs.Behind.Processes.{list-cut, list-effects}
use Rattle.spans.proofs.list_end.Goals as goal

pub returns-in_err-count : goal.returns-in_err-count
returns-in_err-count c =
    let past : length c.args.w.now ≤ c.args.a = ltb-false _ _ (sym c.in_err-count.ensures.lookup.0) in
    search (ends-nothing, list-cut)

pub returns : goal.returns
returns c =
    ends_as _ _ _ _ _ _ (omega arith)
    (list-effects _ _ _ c.in_ok-count.ensures.lookup.3.0 (c.wide.ensures.0 ∙ c.in_ok-count.ensures.lookup.3.1 0))
    c.effects_end.ensures
