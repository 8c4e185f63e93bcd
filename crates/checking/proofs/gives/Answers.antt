-- `checking::gives` meets its contract: what is asked, where it is spelled, against the line's own environment, process and effects.
-- Assumes nothing.
use mathlib.Core.List.{[]}
use mathlib.Core.Path.{◌≡◌, ◌∙◌}
use Rattle.std.proofs.Math.Option.{some}
use Rattle.typing.specs.Judgement.{Judgement}
use Rattle.typing.specs.Derivation.{Kind, line_word, asked}
use Rattle.alike.specs.Same.{environment_in}
use Rattle.parts.specs.Place.{process_in}
use Rattle.choosing.specs.Kinds.{kind_at}
use Rattle.choosing.proofs.Found.{is-found, other-found}
use Rattle.checking.specs.Finding.Laws.{no-environment, no-process, more-words, asked_is, given-other, line-environment, line-process}
use Rattle.checking.specs.Finding.Laws.{given-effects, given-environment, given-process}
use Rattle.checking.proofs.gives.Goals as goal
use Rattle.checking.proofs.gives.Goals.{Else-ne, then-end-asked-via-then-end-asked, then-end-asked-via-else-end-asked+then-ne}

-- the line's rule concludes processes
is-process : (c : Else-ne) → kind_at (line_word c.args.w.now c.args.i 0) 0 ≡ some Kind.of_process
is-process c = is-found _ _ c.concluded.ensures c.ne.ensures c.if-ne.false

-- what is asked is spelled
spelled : (c : Else-ne) → asked c.args.asked.now
    ≡ some (Judgement.process (environment_in c.args.asked.now 0) (process_in c.args.asked.now c.in-Some.p) [])
spelled c = asked_is _ _ c.in-Some.ensures _ c.in-Some-process_end.ensures c.if-end-asked.false

pub returns-in_default : goal.returns-in_default
returns-in_default c = no-environment _ _ c.in_default.ensures

pub returns-in_default-process_end : goal.returns-in_default-process_end
returns-in_default-process_end c = no-process _ _ c.in-Some.ensures _ c.in_default-process_end.ensures

pub returns-then-end-asked : goal.returns-then-end-asked
returns-then-end-asked c = elim c.then-end-asked.branch [
  | then-end-asked-via-then-end-asked w ↦ more-words _ _ c.in-Some.ensures _ c.in-Some-process_end.ensures _ w.if-end-asked.true
  | then-end-asked-via-else-end-asked+then-ne w ↦
      given-other _ _ c.requires.1 _ _ _ (asked_is _ _ c.in-Some.ensures _ c.in-Some-process_end.ensures w.if-end-asked.false)
      (other-found _ _ w.concluded.ensures w.ne.ensures w.if-ne.true)
]

pub returns-then-l-ne0 : goal.returns-then-l-ne0
returns-then-l-ne0 c = let e = (goal.at.returns-then-l-ne0 c).Else-ne in
    given-effects _ _ c.requires.1 (is-process e) _ c.line_at-l.ensures _ _ _ (spelled e) c.if-l-ne0.true

pub unwrap-e-requires : goal.unwrap-e-requires
unwrap-e-requires c = line-environment _ _ c.requires.1 (is-process (goal.at.unwrap-e-requires c).Else-ne) _ c.line_at-l.ensures _
    c.environment_end-2.ensures

pub unwrap-f-requires : goal.unwrap-f-requires
unwrap-f-requires c = line-process _ _ c.requires.1 (is-process (goal.at.unwrap-f-requires c).Else-ne) _ c.line_at-l.ensures _
    c.process_end-2.ensures

pub returns-then-same_environment : goal.returns-then-same_environment
returns-then-same_environment c = let e = (goal.at.returns-then-same_environment c).Else-ne in
    given-process _ _ c.requires.1 (is-process e) _ c.line_at-l.ensures _ _ _ (spelled e) c.if-l-ne0.false _
    c.same_environment.ensures c.if-same_environment.true _ c.same_process.ensures

pub returns-else-same_environment : goal.returns-else-same_environment
returns-else-same_environment c = let e = (goal.at.returns-else-same_environment c).Else-ne in
    c.if-same_environment.false
    ∙ given-environment _ _ c.requires.1 (is-process e) _ c.line_at-l.ensures _ _ _ (spelled e) _ c.same_environment.ensures
    c.if-same_environment.false
