-- `shelf::put_translation` meets its contract: the line is left in front of the part that is lent. Assumes nothing.
use mathlib.Core.Path.{◌∙◌}
use lib.Seq.{take-append-le}
use Rattle.shelf.proofs.put_translation.Goals as goal

pub returns-clause-out_after : goal.returns-clause-out_after
returns-clause-out_after c = take-append-le _ _ _ c.translate.ensures.prefix_len.0 ∙ c.translate.ensures.line_after
