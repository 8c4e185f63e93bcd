-- `balance::level_all` meets its contract, by which list it is. Assumes nothing.
use Rattle.std.proofs.Common.{rules, ◌∙◌}
use Rattle.alike.specs.Same.{term_in}
use Rattle.balance.specs.Sum.{level_at, effect_by}
use Rattle.balance.specs.Sum.Laws.{list-one, list-many, every_one}
use Rattle.balance.proofs.level_all.Goals as goal

pub returns-in-One : goal.returns-in-One
returns-in-One c =
    rw (list-one _ _ _ _ _ c.in-One.is)
    (c.level.ensures
    ∙ every_one (level_at c.args.w.now c.args.r c.args.a c.args.b c.args.d) (effect_by c.in-One.c (term_in c.args.w.now c.in-One.t)))

pub returns-in-Many : goal.returns-in-Many
returns-in-Many c =
    rw (list-many _ _ _ _ _ c.in-Many.is)
    (c.every_effect.ensures (level_at c.args.w.now c.args.r c.args.a c.args.b c.args.d) (λ i e r t k. search rules))
