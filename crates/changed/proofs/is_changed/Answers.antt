-- `changed::is_changed` meets its contract: the words are equal, and the terms. Assumes nothing.
use Rattle.std.proofs.Common.{ne_eqb, ◌∙◌}
use Rattle.changed.specs.Put.Effects.{is-other, is_one}
use Rattle.changed.proofs.is_changed.Goals as goal

pub returns-then-w-i : goal.returns-then-w-i
returns-then-w-i c = is_one _ _ _ _ _ _ c.requires.0 c.requires.1 c.if-w-i.true _ c.same_changed_term.ensures

pub returns-else-w-i : goal.returns-else-w-i
returns-else-w-i c = ne_eqb _ _ c.if-w-i.false ∙ is-other _ _ _ _ _ _ c.requires.0 c.requires.1 c.if-w-i.false
