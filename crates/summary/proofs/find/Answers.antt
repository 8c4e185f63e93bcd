-- `summary::find` meets its contract: refusal 20, then 21 by party, row and step, and else the place. Assumes nothing.
use Prim.Native.Nat.{◌+◌, ◌*◌}
use mathlib.Core.Path.{◌≡◌, sym, ◌∙◌}
use borrow.Author.Tests.{not-true, not-false, eqb-true, eqb-false}
use Rattle.summary.specs.Found.Laws.{found-misfit, found-party, found-row, found-step, found_at}
use Rattle.summary.proofs.find.Goals as goal
use Rattle.summary.proofs.find.Goals.{Else-unfit}

-- else the length is the one that is asked for
module _ (c : Else-unfit) where
  fits : c.args.n ≡ 3 + c.args.parties * c.args.rows
  fits =
      eqb-true _ _ (not-false _ (sym c.misfits-unfit.ensures ∙ c.if-unfit.false))

-- another length
pub returns-then-unfit : goal.returns-then-unfit
returns-then-unfit c = let a = c.args in
    found-misfit a.n a.parties a.rows a.steps a.party a.row a.step
    (eqb-false _ _ (not-true _ (sym c.misfits-unfit.ensures ∙ c.if-unfit.true)))

-- the party
pub returns-then-parties-party : goal.returns-then-parties-party
returns-then-parties-party c = let a = c.args in
    found-party a.n a.parties a.rows a.steps a.party a.row a.step (fits (goal.at.returns-then-parties-party c).Else-unfit)
    c.if-parties-party.true

-- the row
pub returns-then-rows-row : goal.returns-then-rows-row
returns-then-rows-row c = let a = c.args in
    found-row a.n a.parties a.rows a.steps a.party a.row a.step (fits (goal.at.returns-then-rows-row c).Else-unfit)
    c.if-parties-party.false c.if-rows-row.true

-- the step
pub returns-then-steps-step : goal.returns-then-steps-step
returns-then-steps-step c = let a = c.args in
    found-step a.n a.parties a.rows a.steps a.party a.row a.step (fits (goal.at.returns-then-steps-step c).Else-unfit)
    c.if-parties-party.false c.if-rows-row.false c.if-steps-step.true

-- none
pub returns : goal.returns
returns c = let a = c.args in
    found_at a.n a.parties a.rows a.steps a.party a.row a.step (fits (goal.at.returns c).Else-unfit)
    c.if-parties-party.false c.if-rows-row.false c.if-steps-step.false _ c.place.ensures
