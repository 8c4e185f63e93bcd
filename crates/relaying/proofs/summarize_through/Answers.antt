-- `relaying::summarize_through` meets its contract: the words of the summary, where the book is accepted, are written as
-- bytes. Assumes nothing.
use Rattle.std.proofs.Common.{ℕ, List, ◌≡◌, sym, length-take-le}
use Rattle.std.proofs.lemmas.Result.{err_from_is_err_and}
use Rattle.summary.specs.Summary.{summary, summary_says, summarized}
use Rattle.translation.specs.Outcome.{Outcome, laid}
use Rattle.relaying.proofs.Through.{summary-fits, between-summary, through-few, through-refused, through-written}
use Rattle.relaying.proofs.summarize_through.Goals as goal

-- what came of the summary into the words between
as-laid : (b out : List ℕ) {o : Outcome} → o ≡ summarized b out → o ≡ laid (summary_says b out) out (summary b)
unfolding summarized
as-laid b out e = e

-- as many words as it has
pub slice_bounds-put_words-end : goal.slice_bounds-put_words-end
slice_bounds-put_words-end c =
    let book = c.args.book.now in
    let told = c.args.told.now in
    let out = c.args.out.now in
    through-few (summary_says book told) (summary book) told _ out (between-summary book told out c.requires) _
    (as-laid book told c.in_ok-n.ensures) (summary-fits book told)

pub slice_bounds-put_words-end-2 : goal.slice_bounds-put_words-end-2
slice_bounds-put_words-end-2 c =
    let book = c.args.book.now in
    let told = c.args.told.now in
    let out = c.args.out.now in
    sym (length-take-le _ _ (through-few (summary_says book told) (summary book) told _ out (between-summary book told out c.requires) _
    (as-laid book told c.in_ok-n.ensures) (summary-fits book told)))

-- the refusal
pub returns-in_err-n : goal.returns-in_err-n
returns-in_err-n c =
    let book = c.args.book.now in
    let told = c.args.told.now in
    let out = c.args.out.now in
    let p = err_from_is_err_and c.from_residual.result c.from_residual.ensures.1 in
    rw (p.1, p.2) (through-refused (summary_says book told) (summary book) told _ out (between-summary book told out c.requires) _ (as-laid book told c.in_err-n.ensures))

-- and they are its words
pub returns : goal.returns
returns c =
    let book = c.args.book.now in
    let told = c.args.told.now in
    let out = c.args.out.now in
    through-written (summary_says book told) (summary book) told _ out (between-summary book told out c.requires) _
    (as-laid book told c.in_ok-n.ensures) (summary-fits book told) c.put_words.ensures
