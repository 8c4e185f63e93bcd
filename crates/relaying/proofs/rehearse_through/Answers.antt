-- `relaying::rehearse_through` meets its contract: the words of the rehearsal, where it is accepted, are written as
-- bytes. Assumes nothing.
use Rattle.std.proofs.Common.{ℕ, List, ◌≡◌, sym, length-take-le}
use Rattle.std.proofs.lemmas.Result.{err_from_is_err_and}
use Rattle.playing.specs.Rehearsal.{rehearsal_says, events_done, rehearsal}
use Rattle.translation.specs.Outcome.{Outcome, laid}
use Rattle.relaying.proofs.Through.{rehearsal-fits, between-rehearsal, through-few, through-refused, through-written}
use Rattle.relaying.proofs.rehearse_through.Goals as goal

-- what came of the rehearsal into the words between
as-laid : (b ms out : List ℕ) {o : Outcome} → o ≡ rehearsal b ms out
    → o ≡ laid (rehearsal_says b ms out) out (events_done b ms)
unfolding rehearsal
as-laid b ms out e = e

-- as many words as it has
pub slice_bounds-put_words-end : goal.slice_bounds-put_words-end
slice_bounds-put_words-end c =
    let book = c.args.book.now in
    let moves = c.args.schedule.now in
    let done = c.args.done.now in
    let out = c.args.out.now in
    through-few (rehearsal_says book moves done) (events_done book moves) done _ out (between-rehearsal book moves done out c.requires) _
    (as-laid book moves done c.in_ok-n.ensures) (rehearsal-fits book moves done)

pub slice_bounds-put_words-end-2 : goal.slice_bounds-put_words-end-2
slice_bounds-put_words-end-2 c =
    let book = c.args.book.now in
    let moves = c.args.schedule.now in
    let done = c.args.done.now in
    let out = c.args.out.now in
    sym (length-take-le _ _ (through-few (rehearsal_says book moves done) (events_done book moves) done _ out (between-rehearsal book moves done out c.requires) _
    (as-laid book moves done c.in_ok-n.ensures) (rehearsal-fits book moves done)))

-- the refusal
pub returns-in_err-n : goal.returns-in_err-n
returns-in_err-n c =
    let book = c.args.book.now in
    let moves = c.args.schedule.now in
    let done = c.args.done.now in
    let out = c.args.out.now in
    let p = err_from_is_err_and c.from_residual.result c.from_residual.ensures.1 in
    rw (p.1, p.2) (through-refused (rehearsal_says book moves done) (events_done book moves) done _ out (between-rehearsal book moves done out c.requires) _ (as-laid book moves done c.in_err-n.ensures))

-- and they are its words
pub returns : goal.returns
returns c =
    let book = c.args.book.now in
    let moves = c.args.schedule.now in
    let done = c.args.done.now in
    let out = c.args.out.now in
    through-written (rehearsal_says book moves done) (events_done book moves) done _ out (between-rehearsal book moves done out c.requires) _
    (as-laid book moves done c.in_ok-n.ensures) (rehearsal-fits book moves done) c.put_words.ensures
