-- `alike::effects_mention` meets its contract: not every effect lacks the name. Assumes nothing.
use Rattle.std.proofs.Common.{rules, ap, not, ◌∙◌}
use Rattle.alike.specs.Same.Mentions.{lacks, all-lack, effect-lacks}
use Rattle.alike.proofs.effects_mention.Goals as goal

pub returns : goal.returns
returns c =
    ap not (c.every_effect.ensures (lacks c.args.x) (λ i e r t k. effect-lacks c.args.w.now c.args.x i e t r (search rules))) ∙ all-lack c.args.x _
