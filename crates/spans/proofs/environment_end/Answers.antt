-- `spans::environment_end` meets its contract: the older entries begin at the place i. Assumes nothing.
use Rattle.std.proofs.Common.{◌≡◌, ◌≤◌, ◌∙◌, sym, arith, length, get_or}
use borrow.Author.Tests.{ltb-false}
use Rattle.spans.specs.Behind.Laws.{ends-nothing}
use Rattle.spans.specs.Behind.Environments.{walk-begin, walk-past, walk-last, walk-other, walk-no-type, walk-again}
use Rattle.spans.proofs.environment_end.Goals as goal

pub loop-i-init : goal.loop-i-init
loop-i-init c = walk-begin _ _

pub returns-in_err-get : goal.returns-in_err-get
returns-in_err-get c =
    let past : length c.args.w.now ≤ c.loop-i.i = ltb-false _ _ (sym c.in_err-get.ensures.lookup.0) in
    search (ends-nothing, walk-past)

pub returns-in-1 : goal.returns-in-1
returns-in-1 c =
    let (inside, first) = c.in_ok-get.ensures.lookup.3 in
    walk-last _ _ _ c.loop-i.invariant inside (sym (first 0) ∙ c.in-1.is)

pub returns-in_err-i-in-2 : goal.returns-in_err-i-in-2
returns-in_err-i-in-2 c =
    let (inside, first) = c.in_ok-get.ensures.lookup.3 in
    ends-nothing _ _ _ _ c.from_residual-in_err-i-in-2.ensures
    (walk-no-type _ _ _ c.loop-i.invariant inside (sym (first 0) ∙ c.in-2.is) c.in_err-i-in-2.ensures)

pub loop-i-preserved : goal.loop-i-preserved
loop-i-preserved c =
    let (inside, first) = c.in_ok-get.ensures.lookup.3 in
    walk-again _ _ _ c.loop-i.invariant (sym (first 0) ∙ c.in-2.is) _ c.in_ok-i-in-2.ensures

pub returns-in_default : goal.returns-in_default
returns-in_default c =
    let (inside, first) = c.in_ok-get.ensures.lookup.3 in
    let same : c.in_ok-get.field-0.now ≡ get_or c.args.w.now c.loop-i.i 0 = first 0 in
    walk-other _ _ _ c.loop-i.invariant inside (λ h. omega arith) (λ h. omega arith)
