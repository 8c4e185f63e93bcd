-- `checking::all_fit` meets its contract: the premises before p fit, and the others are left. Assumes nothing.
use Rattle.std.proofs.Common.{◌≡◌, ◌+◌, drop}
use Rattle.choosing.specs.Named.{number_of}
use Rattle.choosing.specs.Kinds.{premises_of}
use Rattle.checking.specs.Lines.{fits_from, fits_all}
use Rattle.checking.proofs.all_fit.Given as goal

abbrev pub invariant-loop-p : goal.invariant-loop-p
invariant-loop-p l = fits_from l.w l.i (l.p + 1) (drop l.p (premises_of (number_of l.fn.rule))) ≡ fits_all l.w l.i (number_of l.fn.rule)
