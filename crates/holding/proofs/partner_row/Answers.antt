-- `holding::partner_row` meets its contract: the table names the partner's row, or the number of rows. Assumes nothing.
use native.Mathlib.Omega.{arith}
use Rattle.holding.specs.Partners.Laws.{looked-up}
use Rattle.holding.proofs.partner_row.Goals as goal

pub returns-then-other-rows : goal.returns-then-other-rows
returns-then-other-rows c = let (valid, table, inside) = c.requires in
    (omega arith, looked-up table inside c.wide.ensures.0)

pub returns-else-other-rows : goal.returns-else-other-rows
returns-else-other-rows c = let (valid, table, inside) = c.requires in
    let found = looked-up table inside c.wide.ensures.0 in
    omega arith
