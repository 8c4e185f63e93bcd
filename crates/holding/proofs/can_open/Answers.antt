-- `holding::can_open` meets its contract: by the partner's row, or where it is none by the key's part. Assumes nothing.
use mathlib.Core.List.{[]}
use mathlib.Core.Path.{refl}
use native.Mathlib.Omega.{arith}
use borrow.Author.Rules.{rules}
use Rattle.holding.specs.Partners.Laws.{opens_row, opens-part, key-half}
use Rattle.holding.proofs.can_open.Goals as goal

-- the partner is a row
pub returns-in-Some : goal.returns-in-Some
returns-in-Some c = let (valid, table, inside) = c.requires in
    let (row, found) = c.in-Some.ensures in
    opens_row _ _ valid inside found row c.buildable.ensures

-- it is no row
pub first_part-part-requires : goal.first_part-part-requires
first_part-part-requires c = let (valid, table, inside) = c.requires in
    let half = key-half _ [] valid inside refl c.in-None.ensures in
    (search rules, search rules, omega arith)

pub returns-in-None : goal.returns-in-None
returns-in-None c = let (valid, table, inside) = c.requires in
    opens-part _ _ valid inside refl c.in-None.ensures c.first_part-part.ensures.0
    c.buildable-in-None.ensures
