-- `examining::check_in` meets its contract: the derivation's words are loaded, and behind them those of what is asked, and
-- there they are checked (`checked-loaded`). Assumes nothing.
use mathlib.Core.Path.{refl}
use native.Mathlib.Omega.{arith}
use Rattle.examining.specs.Checked.Laws.{checked-loaded}
use Rattle.examining.proofs.check_in.Goals as goal

pub returns : goal.returns
returns c = let a = c.args in
    checked-loaded a.asked.now a.derivation.now c.load-n.ensures c.requires (omega arith) refl
    c.load-m.ensures refl c.check.result c.check.ensures
