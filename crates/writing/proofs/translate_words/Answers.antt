-- `writing::translate_words` meets its contract: what fits the survey's findings is said, and where it is a length, the
-- listing is written as bytes. Assumes nothing.
use Rattle.std.proofs.Common.{◌/◌, refl, length}
use Rattle.std.proofs.lemmas.Result.{err_from_is_err_and}
use Rattle.translator.specs.Surveyed.Laws.{written-accepted}
use Rattle.writing.proofs.Carried.{refused-came, written-came}
use Rattle.writing.proofs.translate_words.Goals as goal

-- a length is answered, so the book is accepted, and as writing asks
pub write_listing-requires : goal.write_listing-requires
write_listing-requires c =
    let found = c.survey-all.ensures in
    let accepted = written-accepted found (length c.args.out.now / 4) refl c.in_ok-n.ensures in
    (found.writable accepted, found.heads accepted)

-- the refusal
pub returns-in_err-n : goal.returns-in_err-n
returns-in_err-n c =
    let p = err_from_is_err_and c.from_residual.result c.from_residual.ensures.1 in
    rw (p.1, p.2) (refused-came c.survey-all.ensures c.args.out.now refl _ c.in_err-n.ensures)

-- the length, and the listing's bytes over what was lent
pub returns : goal.returns
returns c = written-came c.survey-all.ensures c.args.out.now refl _ c.in_ok-n.ensures c.write_listing.ensures
