-- `summary::ask` meets its contract: what is found of the length and the first three words is found of the summary.
-- Assumes nothing.
use Rattle.std.proofs.Common.{refl, sym, length}
use Rattle.std.proofs.lemmas.Result.{err_from_is_err_and}
use Rattle.summary.specs.Found.{Begins}
use Rattle.summary.specs.Found.Laws.{replied-refused, replied-at}
use Rattle.summary.proofs.ask.Goals as goal
use Rattle.summary.proofs.ask.Goals.{After-find}

-- the three words are the summary's
begins : (c : After-find) → Begins c.args.summary.now (length c.args.summary.now) c.word.result c.word-2.result c.word-3.result
begins c = record { many = refl; parties = sym c.word.ensures; rows = sym c.word-2.ensures; steps = sym c.word-3.ensures }

pub returns-in_err-i : goal.returns-in_err-i
returns-in_err-i c =
    let begin = begins (goal.at.returns-in_err-i c).After-find in
    let p = err_from_is_err_and c.from_residual.result c.from_residual.ensures.1 in
    rw (p.1, p.2) (replied-refused c.args.summary.now c.args.party c.args.row c.args.step _ (c.in_err-i.ensures c.args.summary.now begin))

pub returns : goal.returns
returns c =
    let begin = begins (goal.at.returns c).After-find in
    replied-at c.args.summary.now c.args.party c.args.row c.args.step _ _ _ (c.in_ok-i.ensures c.args.summary.now begin) c.word-4.ensures
    c.decide.ensures
