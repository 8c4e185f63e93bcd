-- `ruling::effects_behind` meets its contract: the first effect ends where its term does. Assumes nothing.
use Prim.Native.Nat.{◌<◌}
use lib.ListN.{length}
use native.Mathlib.Omega.{arith}
use Rattle.spans.specs.Behind.Laws.{ends_some, ends_at}
use Rattle.ruling.specs.Line.Laws.{behind-none, first-inside, term-reads, others, behind-others}
use Rattle.ruling.proofs.effects_behind.Goals as goal
use Rattle.ruling.proofs.effects_behind.Goals.{Else-k-eq0}

-- the first effect's word is inside
module _ (c : Else-k-eq0) where
  inside : c.args.a < length c.args.w.now
  inside = first-inside _ _ _ c.requires c.if-k-eq0.false

pub returns-then-k-eq0 : goal.returns-then-k-eq0
returns-then-k-eq0 c = search behind-none

pub overflow_add-a : goal.overflow_add-a
overflow_add-a c = omega (arith, inside (goal.at.overflow_add-a c).Else-k-eq0)

pub behind-e-requires : goal.behind-e-requires
behind-e-requires c = term-reads _ _ _ c.requires c.if-k-eq0.false

pub unwrap-requires : goal.unwrap-requires
unwrap-requires c = ends_some _ _ _ _ _ c.effects_end.ensures (others _ _ _ c.requires c.if-k-eq0.false _ c.behind-e.ensures).reads

pub returns : goal.returns
returns c = behind-others _ _ _ c.requires c.if-k-eq0.false _ c.behind-e.ensures _
    (ends_at _ _ _ _ _ c.effects_end.ensures c.unwrap.ensures)
