-- `changed::same_changed_bag` meets its contract: each effect of the first list stands equally often in both. Assumes
-- nothing.
use Rattle.std.proofs.Common.{rules, ne_eqb, ◌∙◌}
use Rattle.alike.specs.Same.{effects_in}
use Rattle.alike.specs.Same.Bags.{level}
use Rattle.changed.specs.Put.{change_by, changed_effects}
use Rattle.changed.specs.Put.Effects.{lists_compared, lengths-differ}
use Rattle.changed.proofs.same_changed_bag.Goals as goal

pub returns-then-k-m : goal.returns-then-k-m
unfolding level
returns-then-k-m c =
    let es = effects_in c.args.w.now c.args.a c.args.k in
    let fs = changed_effects (change_by c.args.w.now c.args.by) (effects_in c.args.w.now c.args.b c.args.m) in
    lists_compared _ _ _ _ _ _ _ _ c.requires.0 c.requires.1 c.if-k-m.true _
    (c.every_effect.ensures (level es fs) (λ i e r t k. search rules))

pub returns-else-k-m : goal.returns-else-k-m
returns-else-k-m c = ne_eqb _ _ c.if-k-m.false ∙ lengths-differ _ _ _ _ _ _ _ _ c.requires.0 c.requires.1 c.if-k-m.false
