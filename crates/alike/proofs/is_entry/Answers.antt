-- `alike::is_entry` meets its contract: an entry is its name and its type. Assumes nothing.
use Rattle.std.proofs.Common.{ne_eqb, ◌∙◌}
use Rattle.alike.specs.Same.Stands.{entry-name, entry-type}
use Rattle.alike.proofs.is_entry.Goals as goal

pub returns-then-w-i : goal.returns-then-w-i
returns-then-w-i c = search entry-type

pub returns-else-w-i : goal.returns-else-w-i
returns-else-w-i c = ne_eqb _ _ c.if-w-i.false ∙ entry-name _ _ _ _ c.if-w-i.false
