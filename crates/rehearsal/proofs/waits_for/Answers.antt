-- `rehearsal::waits_for` meets its contract: receiver, place and SEND are asked in turn. Assumes nothing.
use Rattle.std.proofs.Common.{sym, ◌∙◌, arith, eqb-true}
use Rattle.std.proofs.lemmas.Bool.{eqb-false}
use Rattle.book.specs.Headed.Laws.{few-parties}
use Rattle.rehearsal.proofs.Bounds.{party-sends}
use Rattle.rehearsal.proofs.Waiting.{other-receiver, other_place, by-send}
use Rattle.rehearsal.proofs.waits_for.Goals as goal
use Rattle.rehearsal.proofs.waits_for.Goals.{then-step_receiver-party, else-step_receiver-party}

-- the step's sender is one of at most sixteen parties
pub bounds-done-wide-then-receives-wide : goal.bounds-done-wide-then-receives-wide
bounds-done-wide-then-receives-wide c =
    let party = party-sends c.args.book.now c.args.step (search) (search) in
    omega (arith, few-parties)

-- the party receives the step next: the SEND decides
pub returns-then-receives-wide : goal.returns-then-receives-wide
returns-then-receives-wide c = elim c.if-step_receiver-party.branch [
  | then-step_receiver-party w ↦ by-send c.args.book.now c.args.sends.now c.args.receives.now c.args.done.now _ _ c.step_receiver.ensures
      w.if-step_receiver-party.true w.wide.ensures.0 w.wide-then-step_receiver-party.ensures.0 c.step_sender.ensures
      c.wide-then-receives-wide.ensures.0 c.wide-then-receives-wide-2.ensures.0 (eqb-true _ _ (sym w.value-is ∙ c.if-receives-wide.true))
  | else-step_receiver-party w ↦ absurd (w.if-step_receiver-party.false (eqb-true _ _ (sym w.value-is ∙ c.if-receives-wide.true)))
]

-- another party receives it, or something else comes next
pub returns-else-receives-wide : goal.returns-else-receives-wide
returns-else-receives-wide c = c.if-receives-wide.false ∙ elim c.if-step_receiver-party.branch [
  | then-step_receiver-party w ↦ other_place c.args.book.now c.args.sends.now c.args.receives.now c.args.done.now _ _ c.step_receiver.ensures
      w.if-step_receiver-party.true w.wide.ensures.0 w.wide-then-step_receiver-party.ensures.0
      (eqb-false _ _ (sym w.value-is ∙ c.if-receives-wide.false))
  | else-step_receiver-party w ↦ other-receiver c.args.book.now c.args.sends.now c.args.receives.now c.args.done.now _ _ c.step_receiver.ensures
      w.if-step_receiver-party.false
]
