-- `alike::count_effect` meets its contract: the effects with the same words are counted. Assumes nothing.
use Rattle.std.proofs.Common.{rules, sym, ◌∙◌}
use Rattle.typing.specs.Term.{same_effect}
use Rattle.alike.specs.Same.{effect_in, test}
use Rattle.alike.specs.Same.Effects.{effects_compared}
use Rattle.alike.specs.Same.Each.{count-by}
use Rattle.alike.proofs.count_effect.Goals as goal

pub returns : goal.returns
returns c =
    c.count_where.ensures.counts (λ y. test (same_effect y (effect_in c.args.v.now c.args.b)))
    (λ i e r t k. effects_compared c.args.u.now c.args.v.now i e c.args.b c.args.f t.effect c.requires.1 r (search rules)) ∙ sym (count-by _ _)
