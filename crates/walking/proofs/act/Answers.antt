-- `walking::act` meets its contract: by who the party is in the step, its sender, its receiver or neither. Assumes
-- nothing.
use Prim.Native.Nat.{◌≤◌}
use native.Mathlib.Omega.{arith}
use Rattle.translation.specs.Long.{step_size}
use Rattle.receiving.specs.Receiving.{standing}
use Rattle.walking.proofs.Acting.{send-ready, few-made, step-ready, Took, took, acts-send, acts-receive, acts-idle}
use Rattle.walking.proofs.act.Goals as goal
use Rattle.walking.proofs.act.Goals.{After-receive_messages-there, After-send-sent}

few : (c : After-send-sent) → c.send-sent.result.made ≤ step_size
few c =
    few-made c.requires c.step_first-first.ensures.0 c.step_count-n.ensures.0
    c.send-sent.ensures

-- what the messages took, wherever they have been received
module _ (c : After-receive_messages-there) where
  taken : Took c.args.book.now c.step_first-first.result c.step_count-n.result
      (standing c.args.step c.args.entries.now c.args.next c.args.kept
      c.args.at)
      c.receive_messages-there.result.next c.receive_messages-there.result.kept
  taken =
      took c.requires c.step_first-first.ensures.0 c.step_count-n.ensures.0
      c.step_sender.ensures c.if-step_sender-party.false c.step_receiver.ensures
      c.if-step_receiver-party.true c.receive_messages-there.ensures

-- a step makes few atoms
pub send-sent-requires : goal.send-sent-requires
send-sent-requires c = send-ready c.requires c.step_first-first.ensures.0 c.step_count-n.ensures.0

pub overflow_add-result : goal.overflow_add-result
overflow_add-result c = omega (arith, few (goal.at.overflow_add-result c).After-send-sent)

pub returns-then-step_sender-party : goal.returns-then-step_sender-party
returns-then-step_sender-party c = acts-send c.requires c.step_first-first.ensures.0 c.step_count-n.ensures.0
    c.step_sender.ensures c.if-step_sender-party.true c.party_mark-mark.ensures
    c.send-sent.ensures

-- the party receives the step: its messages hand out what the step does, and that fits
pub receive_messages-there-requires : goal.receive_messages-there-requires
receive_messages-there-requires c = step-ready c.requires c.rows.ensures c.step_first-first.ensures.0
    c.step_count-n.ensures.0 c.step_sender.ensures c.if-step_sender-party.false
    c.step_receiver.ensures c.if-step_receiver-party.true

pub narrow-stored-requires : goal.narrow-stored-requires
narrow-stored-requires c = omega (arith, taken (goal.at.narrow-stored-requires c).After-receive_messages-there)

pub overflow_add-result-then-step_receiver-party : goal.overflow_add-result-then-step_receiver-party
overflow_add-result-then-step_receiver-party c = omega (arith, taken (goal.at.overflow_add-result-then-step_receiver-party c).After-receive_messages-there)

pub overflow_sub-result-then-step_receiver-party : goal.overflow_sub-result-then-step_receiver-party
overflow_sub-result-then-step_receiver-party c = omega (arith, taken (goal.at.overflow_sub-result-then-step_receiver-party c).After-receive_messages-there)

-- a stored term took three words of the log, and is no event
pub returns-then-step_receiver-party : goal.returns-then-step_receiver-party
returns-then-step_receiver-party c = acts-receive c.requires c.step_first-first.ensures.0 c.step_count-n.ensures.0
    c.step_sender.ensures c.if-step_sender-party.false c.step_receiver.ensures
    c.if-step_receiver-party.true c.narrow.ensures c.put_each-last.ensures
    c.receive_messages-there.ensures c.narrow-stored.ensures

pub returns : goal.returns
returns c = search acts-idle
