-- `alike::term_closed` meets its contract: no leaf is a variable. Assumes nothing.
use Rattle.std.proofs.Common.{rules, ap, not, ◌∙◌}
use Rattle.alike.specs.Same.{is_bound}
use Rattle.alike.specs.Same.Leaves.{leaf-closed}
use Rattle.alike.proofs.term_closed.Goals as goal

pub returns : goal.returns
unfolding is_bound
returns c = ap not (c.some_leaf.ensures is_bound (λ k n r h. search rules)) ∙ leaf-closed _
