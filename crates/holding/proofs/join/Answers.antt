-- `holding::join` meets its contract: the half that was seen is the other half of the part, or none stands before.
-- Assumes nothing.
use native.Mathlib.Omega.{arith}
use Rattle.holding.proofs.Tables.{partners-join, partners-alone}
use Rattle.holding.proofs.join.Goals as goal

pub returns : goal.returns
returns c = let (valid, so_far, inside, half) = c.requires in
    let part = c.first_part-part.ensures.0 in
    let read = c.wide.ensures.0 in
    let own = c.wide-2.ensures.0 in
    let behind = c.wide-3.ensures.0 in
    elim c.if-other-rows.branch [
      | goal.then-other-rows w ↦
          partners-join valid so_far inside half part read own behind (omega arith) w.wide-then-other-rows.ensures.0 w.table-is
      | goal.else-other-rows w ↦ partners-alone valid so_far inside half part read own behind (omega arith) w.table-is
    ]
