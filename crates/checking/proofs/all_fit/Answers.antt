-- `checking::all_fit` meets its contract: premise by premise. Assumes nothing.
use native.Mathlib.Omega.{arith}
use Rattle.checking.specs.Lines.Laws.{premises_few, fits-begin, fits-stop, fits-next, fits-over}
use Rattle.checking.proofs.all_fit.Goals as goal

pub loop-p-init : goal.loop-p-init
loop-p-init c = fits-begin _ _ _

pub fits-requires : goal.fits-requires
fits-requires c = (c.requires, omega (arith, premises_few _ _ _ c.premises-kind-items.ensures))

pub returns-then-not-fits : goal.returns-then-not-fits
returns-then-not-fits c = fits-stop _ _ _ _ _ c.premises-kind-items.ensures _ c.loop-p.invariant c.loop-p-test.true _ _ c.fits.ensures c.if-not-fits.true

pub loop-p-preserved : goal.loop-p-preserved
loop-p-preserved c = fits-next _ _ _ _ _ c.premises-kind-items.ensures _ c.loop-p.invariant c.loop-p-test.true _ _ c.fits.ensures c.if-not-fits.false

pub returns : goal.returns
returns c = fits-over _ _ _ _ _ c.premises-kind-items.ensures _ c.loop-p.invariant c.loop-p-test.false
