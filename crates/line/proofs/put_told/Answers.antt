-- `line::put_told` meets its contract: the word "refused", the number, and the values that the refusal tells, one
-- behind another. Assumes nothing.
use native.Mathlib.Omega.{arith}
use Rattle.line.specs.Line.Laws.{told-one, told-two}
use Rattle.line.proofs.put_told.Goals as goal

-- one value
pub returns-in-One : goal.returns-in-One
returns-in-One c = (
  told-one c.put_text-start.ensures c.put_number-first.ensures.put c.put_number.ensures.put c.in-One.is,
  omega arith,
)

-- two
pub returns-in-Two : goal.returns-in-Two
returns-in-Two c = (
  told-two c.put_text-start.ensures c.put_number-first-in-Two.ensures.put c.put_number-second.ensures.put
      c.put_number-in-Two.ensures.put c.in-Two.is,
  omega arith,
)
