-- `twins::twin` meets its contract: no row passed agrees, since it is in another chain or differs in key, head or part;
-- the row that is returned is alike in all of them. Assumes nothing.
use Rattle.std.proofs.Common.{not}
use Rattle.std.proofs.Common.{◌%◌, refl, ap, ◌∙◌, arith, rules}
use Rattle.header.specs.Scans.Laws.{found_at, found_none}
use Rattle.twins.specs.Keys.{chains}
use Rattle.twins.specs.Keys.Laws.{key-differs}
use Rattle.rows.specs.Parts.Laws.{parts-of}
use Rattle.twins.proofs.Twins.{heads-differ, same-begins, same-goes, same_alike, part-differs, key-read, hunting-starts, hunting-goes, hunting-on}
use Rattle.twins.proofs.twin.Goals as goal

pub heads_differ-requires : goal.heads_differ-requires
heads_differ-requires c = (search rules, search rules, omega arith)

pub row_first-other-requires : goal.row_first-other-requires
row_first-other-requires c = (search rules, omega arith)

-- behind the two tests the rows are alike, but for their parts
pub parts-init : goal.parts-init
parts-init c = same-begins c.rows.invariant.0 _ _ c.heads_differ.ensures (ap not c.if-not-heads_differ.true) _
    c.row_first-other.ensures.0

-- both rows keep their rules, so that their parts lie in the pool
pub pooled-requires : goal.pooled-requires
pooled-requires c = let (headed, keep, chained, inside) = c.requires in
    let within = c.rows.invariant.1.scan.within in
    let heads = c.parts.invariant.heads in
    let other = parts-of _ keep _ (omega arith) _ _ heads.other-first heads.other-count in
    (headed, omega arith)

pub pooled-requires-in-parts : goal.pooled-requires-in-parts
pooled-requires-in-parts c = let (headed, keep, chained, inside) = c.requires in
    let heads = c.parts.invariant.heads in
    let own = parts-of _ keep _ inside _ _ heads.own_first heads.own-count in
    (headed, omega arith)

-- the parts that were read are equal too
pub parts-preserved : goal.parts-preserved
parts-preserved c = same-goes _ _ _ _ _ _ _ c.parts.invariant c.if-j-n.false _ _ c.pooled.ensures
    c.pooled-in-parts.ensures c.if-pooled.false

-- a chain rises
pub rows-smaller : goal.rows-smaller
rows-smaller c = let (headed, keep, chained, inside) = c.requires in
    let (own, hunt) = c.rows.invariant in
    let within = hunt.scan.within in
    let on = hunting-on chained inside hunt c.if-k-row.false c.wide-in-rows-2.ensures.0 in
    omega arith

-- no row before the row itself agrees
pub returns-then-k-row : goal.returns-then-k-row
returns-then-k-row c = let hunt = c.rows.invariant.1 in found_none _ _ _ hunt.scan.passed hunt.scan.within (omega arith)

-- the other row is alike in every part
pub returns-then-j-n : goal.returns-then-j-n
returns-then-j-n c = let hunt = c.rows.invariant.1 in
    let within = hunt.scan.within in
    found_at _ _ _ hunt.scan.passed (omega (arith, within, c.if-k-row.false)) _ refl
    (same_alike _ _ _ _ _ _ _ c.parts.invariant c.if-j-n.true)

-- what was read of the row, and the first row of its own chain
pub rows-init : goal.rows-init
rows-init c = let (headed, keep, chained, inside) = c.requires in
    let key = key-read chained inside c.wide.ensures.0 in (
      record {
        key = key;
        first = c.row_first-first.ensures.0;
        count = c.row_count-n.ensures.0;
      },
      hunting-starts chained inside (c.wide-2.ensures.0 ∙ ap (λ y. y % chains) key),
    )

-- the other row differs in a part, in its head or in its key; the hunt goes on along the chain
pub rows-preserved : goal.rows-preserved
rows-preserved c = let (headed, keep, chained, inside) = c.requires in
    let (own, hunt) = c.rows.invariant in
    let within = hunt.scan.within in
    let key = key-read chained (omega arith) c.wide-in-rows.ensures.0 in (
      own,
      hunting-goes chained inside hunt c.if-k-row.false
          (elim c.if-keys-wide.branch [
            | goal.then-keys-wide+then-not-heads_differ+else-j-n+then-pooled w ↦
                part-differs _ _ _ _ _ _ _ w.parts.invariant w.if-j-n.false _ _ w.pooled.ensures w.pooled-in-parts.ensures w.if-pooled.true
            | goal.else-keys-wide w ↦
                elim w.else-keys-wide.branch [
                  | goal.else-keys-wide-via-then-keys-wide+else-not-heads_differ v ↦ heads-differ _ _ _ _ v.heads_differ.ensures (ap not v.if-not-heads_differ.false)
                  | goal.else-keys-wide-via-else-keys-wide v ↦ key-differs _ _ _ _ _ own.key key v.if-keys-wide.false
                ]
          ]) c.wide-in-rows-2.ensures.0,
    )
