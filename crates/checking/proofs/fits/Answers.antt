-- `checking::fits` meets its contract: an earlier line, by its rule's kind. Assumes nothing.
use mathlib.Core.Path.{◌∙◌}
use borrow.Author.Tests.{le-ltb}
use Rattle.choosing.proofs.Found.{found_kind}
use Rattle.checking.specs.Lines.Laws.{fits_by, fits-late}
use Rattle.checking.proofs.fits.Goals as goal

pub returns-then-j-i : goal.returns-then-j-i
returns-then-j-i c =
    c.eq.ensures ∙ found_kind c.concluded.result c.args.kind
    ∙ fits_by _ _ _ _ _ _ c.line_place-j.ensures.0 c.if-j-i.true c.concluded.ensures

pub returns-else-j-i : goal.returns-else-j-i
returns-else-j-i c = le-ltb _ _ c.if-j-i.false ∙ fits-late _ _ _ _ _ c.line_place-j.ensures.0 c.if-j-i.false
