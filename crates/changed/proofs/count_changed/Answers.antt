-- `changed::count_changed` meets its contract: whether each is the effect, changed, is counted. Assumes nothing.
use Rattle.std.proofs.Common.{rules, sym, ◌∙◌}
use Rattle.typing.specs.Term.{same_effect, change_effect}
use Rattle.alike.specs.Same.{effect_in, effects_in, test}
use Rattle.changed.specs.Put.{change_by}
use Rattle.changed.specs.Put.Effects.{count-changed}
use Rattle.changed.proofs.count_changed.Goals as goal

pub returns : goal.returns
returns c =
    let ch = change_by c.args.w.now c.args.by in
    let x = effect_in c.args.w.now c.args.b in
    c.count_where.ensures.counts (λ y. test (same_effect (change_effect ch y) x)) (λ i e r t k. search rules)
    ∙ sym (count-changed ch x (effects_in c.args.w.now c.args.a c.args.k))
