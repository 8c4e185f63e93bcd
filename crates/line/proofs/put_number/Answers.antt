-- `line::put_number` meets its contract: a number below 2^64 takes up to twenty digits, a word up to ten, and a space
-- stands behind them (`put-spaced`). Assumes nothing.
use native.Mathlib.Omega.{arith}
use Rattle.line.specs.Line.Laws.{word-digits, all_digits, put-spaced}
use Rattle.line.proofs.put_number.Goals as goal

-- the digits, and the space in the place behind them
pub returns : goal.returns
returns c = let said = c.decimal-n.ensures in
    let few = all_digits _ _ said.len (omega arith) in
    record {
      put = put-spaced _ _ said.len (omega arith) said.digits c.put_text-end.ensures (omega arith);
      low = omega arith;
      word = λ word. let fewer = word-digits _ _ said.len word in omega arith;
    }
