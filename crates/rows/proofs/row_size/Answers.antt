-- `rows::row_size` meets its contract: the sizes of the parts are added, one after the other. Each part is an earlier
-- row, of size at most 1,024, and there are at most 9, so that no sum wraps. Assumes nothing.
use Prim.Native.Nat.{◌≤◌, ◌<◌}
use lib.ListN.{get_or}
use native.Mathlib.Omega.{arith}
use borrow.Author.Rules.{rules}
use Rattle.book.specs.Kinds.Laws.{size_small}
use Rattle.rows.specs.Parts.{Parts}
use Rattle.rows.specs.Parts.Laws.{parts-of}
use Rattle.rows.proofs.Sizes.{size-begins, size_step, size-ends, size-known}
use Rattle.rows.proofs.row_size.Goals as goal
use Rattle.rows.proofs.row_size.Goals.{After-pooled, After-row_count-j-end, After-wide}

-- the row's parts, as its first and its count say
module _ (c : After-row_count-j-end) where
  parts : Parts c.args.book.now c.args.row c.row_first-first.result c.row_count-j-end.result
  parts = search parts-of

-- the part that was read is an earlier row
earlier : (c : After-pooled) → c.pooled.result < c.args.row
earlier c =
    let parts : Parts c.args.book.now c.args.row c.row_first-first.result c.row_count-j-end.result = search parts-of in
    let e = parts.earlier _ c.loop-j-test.true in
    omega arith

-- so its size stands in `sizes`, and is at most 1,024
module _ (c : After-wide) where
  small : get_or c.args.sizes.now c.wide.result 0 ≤ 1024
  small =
      let (headed, keep, inside, sizes, fits) = c.requires in
      let parts : Parts c.args.book.now c.args.row c.row_first-first.result c.row_count-j-end.result = search parts-of in
      let e = parts.earlier _ c.loop-j-test.true in
      size-known _ c.args.sizes.now _ _ _ sizes fits c.wide.ensures.0 (omega arith)

-- before the first part, what the kind adds
pub loop-j-init : goal.loop-j-init
loop-j-init c = (size-begins _ _ _ _ _ _ c.row_kind.ensures c.of-kind.ensures.size, omega (arith, size_small c.of-kind.ensures))

pub pooled-requires : goal.pooled-requires
pooled-requires c = (search rules, omega (arith, parts (goal.at.pooled-requires c).After-row_count-j-end))

pub offset_bounds-sizes-wide : goal.offset_bounds-sizes-wide
offset_bounds-sizes-wide c = omega (arith, earlier (goal.at.offset_bounds-sizes-wide c).After-pooled)

pub bounds-sizes-wide : goal.bounds-sizes-wide
bounds-sizes-wide c = omega (arith, earlier (goal.at.bounds-sizes-wide c).After-pooled)

pub overflow_add-size : goal.overflow_add-size
overflow_add-size c = omega (arith, small (goal.at.overflow_add-size c).After-wide, parts (goal.at.overflow_add-size c).After-row_count-j-end)

-- one part more
pub loop-j-preserved : goal.loop-j-preserved
loop-j-preserved c = let (so_far, bounded) = c.loop-j.invariant in
    let s = small (goal.at.loop-j-preserved c).After-wide in (
      size_step _ _ _ _ _ _ _ _ so_far c.wide.ensures.0 c.pooled.ensures,
      omega arith,
    )

pub returns : goal.returns
returns c = search size-ends
