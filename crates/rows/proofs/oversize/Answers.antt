-- `rows::oversize` meets its contract: the sizes of the rows that the loop has passed stand in `sizes`, and none is
-- over 1,024. Assumes nothing.
use mathlib.Core.Path.{refl}
use native.Mathlib.Omega.{arith}
use borrow.Author.Rules.{rules}
use Rattle.header.specs.Scans.Laws.{passed-more, found_at, found_none}
use Rattle.rows.proofs.Sizes.{size_fits, size-over, size-within, filled_more}
use Rattle.rows.proofs.oversize.Goals as goal

-- a row that passed is of size at most 1,024
pub row_size-size-requires : goal.row_size-size-requires
row_size-size-requires c = let (passed, filled) = c.loop-row.invariant in
    (search rules, search rules, omega arith, filled.sizes, λ k h. size_fits _ k (passed k h))

pub returns-then-size-gt-SIZE : goal.returns-then-size-gt-SIZE
returns-then-size-gt-SIZE c = let (passed, filled) = c.loop-row.invariant in
    found_at _ _ _ passed (omega arith) _ refl (size-over _ _ _ c.row_size-size.ensures (omega arith))

-- the row asked about is not over 1,024 either, and its size goes into `sizes`
pub loop-row-preserved : goal.loop-row-preserved
loop-row-preserved c = let (passed, filled) = c.loop-row.invariant in
    let fits = size-within _ _ _ c.row_size-size.ensures c.if-size-gt-SIZE.false in (
      passed-more _ _ passed fits,
      filled_more _ _ _ _ _ filled c.wide.ensures.0 (omega arith) c.row_size-size.ensures,
    )

pub returns : goal.returns
returns c = found_none _ _ _ c.loop-row.invariant.0 (omega arith) (omega arith)
