-- `holding::partners` meets its contract: each row is entered in turn, a half by `join` and any other as its own
-- partner. Assumes nothing.
use Prim.Native.Nat.{◌≤◌, ◌<◌}
use native.Mathlib.Omega.{arith}
use Rattle.book.specs.Kinds.Laws.{a_half, no-half}
use Rattle.holding.proofs.Tables.{partners-start, partners-plain, partners-done}
use Rattle.holding.proofs.partners.Goals as goal

-- no row is passed yet
pub loop-row-init : goal.loop-row-init
loop-row-init c = partners-start c.requires c.rows-n.ensures

-- the row is a half
pub join-requires : goal.join-requires
join-requires c = let is = c.row_kind.ensures in
    let half : 3 ≤ c.row_kind.result = a_half _ c.is_half.ensures c.if-is_half.true in
    (c.requires, c.loop-row.invariant, omega arith, omega (arith, is, half))

-- one row more is entered
pub loop-row-preserved : goal.loop-row-preserved
loop-row-preserved c = let is = c.row_kind.ensures in
    elim c.if-is_half.branch [
      | goal.then-is_half w ↦ rw (w.table-is, w.seen-is) w.join.ensures
      | goal.else-is_half w ↦
          (let low : c.row_kind.result < 3 = no-half _ c.is_half.ensures w.if-is_half.false in
          rw (w.table-is, w.seen-is) (partners-plain c.requires c.loop-row.invariant (omega arith) (omega (arith, is, low))
          w.wide.ensures.0))
    ]

-- all are
pub returns : goal.returns
returns c = partners-done c.requires c.loop-row.invariant c.rows-n.ensures (omega arith)
