-- `running::fresh` meets its contract: a multiset has the names of its list. Assumes nothing.
use mathlib.Core.Bool.{not}
use mathlib.Core.Path.{sym, ◌∙◌, ap}
use Rattle.alike.specs.Same.Mentions.{mentions-bag}
use Rattle.running.proofs.fresh.Goals as goal

pub returns : goal.returns
returns c = ap not (c.effects_mention.ensures ∙ sym (mentions-bag _ _))
