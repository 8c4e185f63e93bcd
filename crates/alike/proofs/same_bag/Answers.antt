-- `alike::same_bag` meets its contract: each effect of the second list stands equally often in both. Assumes nothing.
use Rattle.std.proofs.Common.{rules, ne_eqb, ◌∙◌}
use Rattle.alike.specs.Same.{effects_in}
use Rattle.alike.specs.Same.Bags.{level, bags_compared, bags-lengths}
use Rattle.alike.proofs.same_bag.Goals as goal

pub returns-then-k-l : goal.returns-then-k-l
unfolding level
returns-then-k-l c =
    bags_compared _ _ _ _ _ _ _ _ c.requires.0 c.requires.1 c.if-k-l.true _
    (c.every_effect.ensures (level (effects_in c.args.u.now c.args.a c.args.k) (effects_in c.args.v.now c.args.b c.args.l))
    (λ i e r t k. search rules))

pub returns-else-k-l : goal.returns-else-k-l
returns-else-k-l c = ne_eqb _ _ c.if-k-l.false ∙ bags-lengths _ _ _ _ _ _ _ _ c.requires.0 c.requires.1 c.if-k-l.false
