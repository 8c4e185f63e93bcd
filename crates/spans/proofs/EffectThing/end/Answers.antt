-- `end` of an effect meets its contract: its first word and its term. Assumes nothing.
use Rattle.std.proofs.Common.{◌≡◌, ◌≤◌, sym, arith, length, get_or}
use borrow.Author.Tests.{ltb-false}
use Rattle.spans.specs.Behind.Laws.{ends-nothing, ends_as}
use Rattle.spans.specs.Behind.Effects.{effect-past, effect-term, effect-other}
use Rattle.spans.proofs.EffectThing.end.Goals as goal

pub returns-in_err-get : goal.returns-in_err-get
returns-in_err-get c =
    let past : length c.args.w.now ≤ c.args.a = ltb-false _ _ (sym c.in_err-get.ensures.lookup.0) in
    search (ends-nothing, effect-past)

pub returns-in-1 : goal.returns-in-1
returns-in-1 c =
    let first : c.in_ok-get.field-0.now ≡ get_or c.args.w.now c.args.a 0 = c.in_ok-get.ensures.lookup.3.1 0 in
    ends_as _ _ _ _ _ _ (omega arith) (effect-term _ _ c.in_ok-get.ensures.lookup.3.0 (omega arith) (omega arith)) c.term_end.ensures

pub returns-in_default : goal.returns-in_default
returns-in_default c =
    let first : c.in_ok-get.field-0.now ≡ get_or c.args.w.now c.args.a 0 = c.in_ok-get.ensures.lookup.3.1 0 in
    effect-other _ _ c.in_ok-get.ensures.lookup.3.0 (λ h. omega arith)

pub returns-in_default-2 : goal.returns-in_default-2
returns-in_default-2 c =
    let first : c.in_ok-get.field-0.now ≡ get_or c.args.w.now c.args.a 0 = c.in_ok-get.ensures.lookup.3.1 0 in
    effect-other _ _ c.in_ok-get.ensures.lookup.3.0 (λ h. omega arith)
