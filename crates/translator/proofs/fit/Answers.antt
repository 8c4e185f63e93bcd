-- `translator::fit` meets its contract: the book's refusal, refusal 12, and then the length. Assumes nothing.
use Rattle.std.proofs.lemmas.Result.{err_from_is_err_and}
use Rattle.translator.specs.Surveyed.Laws.{fitted-refused, fitted_short, fitted-length}
use Rattle.translator.proofs.fit.Goals as goal

-- the book is refused
pub returns-in_err-reading : goal.returns-in_err-reading
returns-in_err-reading c =
    let p = err_from_is_err_and c.from_residual.result c.from_residual.ensures.1 in
    rw (p.1, p.2, c.in_err-reading.was) (fitted-refused _ _ _)

-- the output is longer than there is room
pub returns-then-room-end : goal.returns-then-room-end
returns-then-room-end c = rw c.in_ok-reading.was (fitted_short _ _ c.if-room-end.true)

-- it is not
pub returns : goal.returns
returns c = rw c.in_ok-reading.was (fitted-length _ _ c.if-room-end.false)
