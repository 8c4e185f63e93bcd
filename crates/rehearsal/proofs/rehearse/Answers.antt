-- `rehearsal::rehearse` meets its contract: the book's own refusal is given first, and an accepted book plays, its events
-- where the survey found them. Assumes nothing.
use Rattle.std.proofs.lemmas.Result.{err_from_is_err_and}
use Rattle.rehearsal.proofs.Came.{refused, accepted}
use Rattle.rehearsal.proofs.rehearse.Goals as goal

-- the survey accepts
pub rehearse_accepted-requires : goal.rehearse_accepted-requires
rehearse_accepted-requires c = accepted c.survey-all.ensures c.in_ok-all.was

pub returns-in_err-all : goal.returns-in_err-all
returns-in_err-all c =
    let p = err_from_is_err_and c.from_residual.result c.from_residual.ensures.1 in
    rw (p.1, p.2) (refused c.survey-all.ensures c.args.schedule.now c.args.out.now _ c.in_err-all.was)
