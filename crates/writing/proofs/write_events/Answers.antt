-- `writing::write_events` meets its contract: the bytes of the steps before the one at hand are written, and each turn adds those of one
-- step (`flushed-on`). Assumes nothing.
use Rattle.std.proofs.Common.{◌<◌, refl, sym, arith, rules, length-take-le}
use Rattle.book.specs.Layout.{steps}
use Rattle.walking.specs.Walk.Laws.{idle-step}
use Rattle.writing.proofs.Flushed.{flushed-start, flushed-skip, flushed-ready, flushed-few, flushed-on, flushed-end}
use Rattle.writing.proofs.write_events.Goals as goal
use Rattle.writing.proofs.write_events.Goals.{In-loop-i}

-- the loop runs while there are steps
more : (c : In-loop-i) → c.loop-i.i < steps c.args.book.now
more c = omega arith

-- before its first step the party holds what it knows
pub loop-i-init : goal.loop-i-init
loop-i-init c = flushed-start c.requires.valid (search rules) c.start-entries.ensures refl

-- in this step it has no part
pub loop-i-preserved-then-not-is_own : goal.loop-i-preserved-then-not-is_own
loop-i-preserved-then-not-is_own c =
    flushed-skip (idle-step (more (goal.at.loop-i-preserved-then-not-is_own c).In-loop-i) c.is_own.ensures c.if-not-is_own.true) c.loop-i.invariant

-- what was done so far leaves room for the step
pub act-acted-requires : goal.act-acted-requires
act-acted-requires c = flushed-ready (more (goal.at.act-acted-requires c).In-loop-i) c.loop-i.invariant c.requires.partners

-- the step's words have room in the buffer
pub slice_bounds-step-end : goal.slice_bounds-step-end
slice_bounds-step-end c = flushed-few (more (goal.at.slice_bounds-step-end c).In-loop-i) c.loop-i.invariant c.act-acted.ensures

pub slice_bounds-put_words-end : goal.slice_bounds-put_words-end
slice_bounds-put_words-end c =
    sym (length-take-le _ _ (flushed-few (more (goal.at.slice_bounds-put_words-end c).In-loop-i) c.loop-i.invariant c.act-acted.ensures))

-- the step's bytes are behind those of the steps before
pub loop-i-preserved : goal.loop-i-preserved
loop-i-preserved c = flushed-on (more (goal.at.loop-i-preserved c).In-loop-i) c.loop-i.invariant c.act-acted.ensures c.put_words-next.ensures

-- there is no step left
pub returns : goal.returns
returns c = flushed-end (omega arith) c.loop-i.invariant
