-- `examining::apart_in` meets its contract: all the words are loaded, and these are asked about (`apart-loaded`).
-- Assumes nothing.
use native.Mathlib.Omega.{arith}
use Rattle.examining.specs.Checked.Laws.{apart-loaded}
use Rattle.examining.proofs.apart_in.Goals as goal

pub returns : goal.returns
returns c = apart-loaded c.args.asked.now c.load-n.ensures (omega (arith, c.requires)) (omega arith)
    c.keeps_apart.ensures
