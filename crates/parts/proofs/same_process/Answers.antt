-- `parts::same_process` meets its contract: what is still to come is the same exactly if the processes are. Assumes
-- nothing.
use Rattle.parts.specs.Place.Processes.{pairing-begin, pairing-left-spelled, pairing-right-spelled, pairing-words, pairing-own, pairing-again, pairing-done}
use Rattle.parts.proofs.same_process.Goals as goal
use Rattle.parts.proofs.same_process.Goals.{then-u-i-via-then-u-i, then-u-i-via-else-u-i+then-not-same_own}

pub loop-due-init : goal.loop-due-init
loop-due-init c = search pairing-begin

pub parts_of-p-requires : goal.parts_of-p-requires
parts_of-p-requires c = search pairing-left-spelled

pub parts_of-q-requires : goal.parts_of-q-requires
parts_of-q-requires c = search pairing-right-spelled

pub returns-then-u-i : goal.returns-then-u-i
returns-then-u-i c = elim c.then-u-i.branch [
  | then-u-i-via-then-u-i w ↦
      pairing-words _ _ _ _ _ _ _ _ _ c.loop-due.invariant c.loop-due-test.true _ c.parts_of-p.ensures _ c.parts_of-q.ensures w.if-u-i.true
  | then-u-i-via-else-u-i+then-not-same_own w ↦
      pairing-own _ _ _ _ _ _ _ _ _ c.loop-due.invariant c.loop-due-test.true _ c.parts_of-p.ensures _ c.parts_of-q.ensures w.if-u-i.false
      w.if-not-same_own.ensures
]

pub loop-due-preserved : goal.loop-due-preserved
loop-due-preserved c =
    pairing-again _ _ _ _ _ _ _ _ _ c.loop-due.invariant c.loop-due-test.true _ c.parts_of-p.ensures _ c.parts_of-q.ensures c.if-u-i.false
    c.if-not-same_own.ensures _ c.process_parts.ensures.0 c.process_parts.ensures.1

pub returns : goal.returns
returns c = search pairing-done
