-- `parts::same_several` meets its contract: those that are passed were the same. Assumes nothing.
use Rattle.spans.specs.Behind.Laws.{ends_at}
use Rattle.parts.specs.Place.Several.{pairing-left, pairing-right, pairing-differ, pairing-again, pairing-done}
use Rattle.parts.proofs.same_several.Goals as goal

pub unwrap-own-requires : goal.unwrap-own-requires
unwrap-own-requires g c = pairing-left g.T.Same.read g.T.Same.value g.T.Same.same g.met.T.Same.reads _ _ _ _ _ _ _ _ _ _ c.loop.invariant c.loop-test.true _ (rw g.met.T.Same.skips at c.end.ensures)

pub unwrap-other-requires : goal.unwrap-other-requires
unwrap-other-requires g c = pairing-right g.T.Same.read g.T.Same.value g.T.Same.same g.met.T.Same.reads _ _ _ _ _ _ _ _ _ _ c.loop.invariant c.loop-test.true _ (rw g.met.T.Same.skips at c.end-in-loop.ensures)

pub returns-then-not-same : goal.returns-then-not-same
returns-then-not-same g c =
    pairing-differ g.T.Same.read g.T.Same.value g.T.Same.same g.met.T.Same.reads _ _ _ _ _ _ _ _ _ _ c.loop.invariant
    c.loop-test.true _ (ends_at _ _ _ _ _ (rw g.met.T.Same.skips at c.end.ensures) c.unwrap-own.ensures)
    _ (ends_at _ _ _ _ _ (rw g.met.T.Same.skips at c.end-in-loop.ensures) c.unwrap-other.ensures) c.if-not-same.ensures

pub loop-preserved : goal.loop-preserved
loop-preserved g c =
    pairing-again g.T.Same.read g.T.Same.value g.T.Same.same g.met.T.Same.reads _ _ _ _ _ _ _ _ _ _ c.loop.invariant
    c.loop-test.true _ (ends_at _ _ _ _ _ (rw g.met.T.Same.skips at c.end.ensures) c.unwrap-own.ensures)
    _ (ends_at _ _ _ _ _ (rw g.met.T.Same.skips at c.end-in-loop.ensures) c.unwrap-other.ensures) c.if-not-same.ensures

pub returns : goal.returns
returns g c = pairing-done g.T.Same.read g.T.Same.value g.T.Same.same g.met.T.Same.reads _ _ _ _ _ _ _ _ _ _ c.loop.invariant c.loop-test.false
