-- `judge::judge_listing` meets its contract: the book's own refusal first, then 22, then the verdict. Assumes nothing.
use Rattle.std.proofs.Common.{◌≡◌, ap, sym, ◌∙◌}
use Rattle.std.proofs.lemmas.Result.{err_from_is_err_and}
use Rattle.book.specs.Said.{reading_says}
use Rattle.book.specs.Headed.Laws.{valid-headed}
use Rattle.translator.specs.Surveyed.Laws.{surveyed-plays}
use Rattle.renaming.proofs.Verdicts.Returned.{refused-judged, nobody-judged}
use Rattle.judge.proofs.judge_listing.Goals as goal
use Rattle.judge.proofs.judge_listing.Goals.{In_ok-all}

-- the survey accepts
accepted : (c : In_ok-all) → (reading_says c.survey-all.result.reading).number ≡ 0
accepted c = ap (λ x. (reading_says x).number) c.in_ok-all.was

-- the survey's refusal
pub returns-in_err-all : goal.returns-in_err-all
returns-in_err-all c =
    let p = err_from_is_err_and c.from_residual.result c.from_residual.ensures.1 in
    rw (p.1, p.2) (refused-judged c.args.book.now c.args.party _ _ (sym (ap reading_says c.in_err-all.was) ∙ c.survey-all.ensures.says))

pub parties-requires : goal.parties-requires
parties-requires c = valid-headed _ (c.survey-all.ensures.writable (accepted (goal.at.parties-requires c).In_ok-all)).valid

-- there is no such party
pub returns-then-parties-party : goal.returns-then-parties-party
returns-then-parties-party c =
    let plays = surveyed-plays c.survey-all.ensures (accepted (goal.at.returns-then-parties-party c).In_ok-all) in
    nobody-judged c.args.book.now _ _ plays (rw c.parties.ensures at c.if-parties-party.true)

pub judge_program-requires : goal.judge_program-requires
judge_program-requires c =
    let told = c.survey-all.ensures in
    let writable = told.writable (accepted (goal.at.judge_program-requires c).In_ok-all) in (
      surveyed-plays told (accepted (goal.at.judge_program-requires c).In_ok-all),
      record {
        valid = writable.valid;
        partners = writable.partners;
        party = rw c.parties.ensures at c.if-parties-party.false;
      },
    )
