-- `spans::skip` meets its contract: names take a word each, then the terms, then the types. Assumes nothing.
use Rattle.std.proofs.Common.{arith}
use Rattle.spans.specs.Behind.Laws.{ends-nothing, ends_as}
use Rattle.spans.specs.Behind.Processes.{skip-short, skip-no-terms, skip-types}
use Rattle.spans.proofs.skip.Goals as goal

pub returns-then-w-a : goal.returns-then-w-a
returns-then-w-a c = search skip-short

pub returns-in_err-end : goal.returns-in_err-end
returns-in_err-end c = search (ends-nothing, skip-no-terms, c.in_err-end.ensures)

pub returns : goal.returns
returns c =
    ends_as _ _ _ _ _ _ (omega (arith, c.in_ok-end.ensures.after))
    (skip-types _ _ _ _ _ c.requires.1 c.if-w-a.false _ c.in_ok-end.ensures)
    c.several_end-2.ensures
