-- `writing::write_listing` meets its contract: the bytes of the number of parties, of the heads and of the programs, one
-- after another (`listing-wrote`). Assumes nothing.
use Rattle.std.proofs.Common.{ℕ, arith, length-take}
use Rattle.translator.specs.Parts.Laws.{heads-there}
use Rattle.writing.proofs.Parts.{listing-wrote}
use Rattle.writing.proofs.write_listing.Goals as goal

pub slice_bounds-put_words-end-2 : goal.slice_bounds-put_words-end-2
slice_bounds-put_words-end-2 c = omega (arith, heads-there, length-take {A = ℕ})

pub returns : goal.returns
returns c = listing-wrote c.args.book.now c.args.heads.now c.parties-n.ensures c.wide.ensures.0 c.requires.1 c.put_words-first.ensures
    c.put_words-next.ensures c.write_bodies.ensures
