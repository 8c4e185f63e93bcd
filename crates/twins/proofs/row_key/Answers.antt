-- `twins::row_key` meets its contract: the parts are mixed in one after another (`mixing-on`). Assumes nothing.
use Rattle.std.proofs.Common.{arith, rules}
use Rattle.twins.specs.Keys.Laws.{mixing-starts, mixing-on, mixing-ends}
use Rattle.rows.specs.Parts.{Parts}
use Rattle.rows.specs.Parts.Laws.{parts-of}
use Rattle.twins.proofs.row_key.Goals as goal
use Rattle.twins.proofs.row_key.Goals.{After-row_count-j-end}

-- the row's parts, as its first and its count say
module _ (c : After-row_count-j-end) where
  parts : Parts c.args.book.now c.args.row c.row_first-first.result c.row_count-j-end.result
  parts = search parts-of

-- before the first part, kind and tag
pub loop-j-init : goal.loop-j-init
loop-j-init c = mixing-starts _ _ _ _ _ _ _ c.row_kind-kind.ensures c.row_tag-tag.ensures c.row_first-first.ensures.0
    c.row_count-j-end.ensures.0 c.mixed-key.ensures

pub pooled-requires : goal.pooled-requires
pooled-requires c = (search rules, omega (arith, parts (goal.at.pooled-requires c).After-row_count-j-end))

-- one part more
pub loop-j-preserved : goal.loop-j-preserved
loop-j-preserved c = mixing-on _ _ _ _ _ _ _ _ c.loop-j-test.true c.loop-j.invariant c.pooled.ensures c.mixed-key-in-loop-j.ensures

-- no part is left
pub returns : goal.returns
returns c = mixing-ends _ _ _ _ _ _ c.loop-j-test.false c.loop-j.invariant
