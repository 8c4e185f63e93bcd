-- `summary::write_summary` meets its contract: the book's own refusal is given first, and an accepted book is as writing
-- asks. Assumes nothing.
use Rattle.std.proofs.Common.{sym, ap, ◌∙◌}
use Rattle.std.proofs.lemmas.Result.{err_from_is_err_and}
use Rattle.book.specs.Said.{reading_says}
use Rattle.translator.specs.Surveyed.Laws.{surveyed-plays}
use Rattle.summary.proofs.Summary.Written.{summary-refused-came}
use Rattle.summary.proofs.write_summary.Goals as goal

-- the survey's refusal
pub returns-in_err-all : goal.returns-in_err-all
returns-in_err-all c =
    let p = err_from_is_err_and c.from_residual.result c.from_residual.ensures.1 in
    rw (p.1, p.2) (summary-refused-came c.args.book.now c.args.out.now _ (sym (ap reading_says c.in_err-all.was) ∙ c.survey-all.ensures.says))

-- the survey accepts
pub summarize_accepted-requires : goal.summarize_accepted-requires
summarize_accepted-requires c =
    let accepted = ap (λ x. (reading_says x).number) c.in_ok-all.was in
    (surveyed-plays c.survey-all.ensures accepted, c.survey-all.ensures.writable accepted)
