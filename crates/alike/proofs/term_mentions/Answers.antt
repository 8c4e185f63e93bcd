-- `alike::term_mentions` meets its contract: a leaf that is the name. Assumes nothing.
use Rattle.std.proofs.Common.{rules, ◌∙◌}
use Rattle.alike.specs.Same.{is_name}
use Rattle.alike.specs.Same.Leaves.{leaf-occurs}
use Rattle.alike.proofs.term_mentions.Goals as goal

pub returns : goal.returns
unfolding is_name
returns c = c.some_leaf.ensures (is_name c.args.x) (λ k n r h. search rules) ∙ leaf-occurs c.args.x _
