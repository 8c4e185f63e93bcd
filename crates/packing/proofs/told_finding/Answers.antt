-- `packing::told_finding` meets its contract: by the finding, whose number and values are told as they stand. Assumes
-- nothing.
use mathlib.Core.Path.{sym, ap}
use Rattle.examining.specs.Checked.{found_says}
use Rattle.packing.proofs.told_finding.Goals as goal

-- a bad line
pub returns-in-Bad : goal.returns-in-Bad
returns-in-Bad c = ap found_says (sym c.in-Bad.is)
