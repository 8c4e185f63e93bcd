-- `telling::judge_words` meets its contract: what is judged are all the words that the bytes of the listing make, against
-- all those of the book (`loaded-words`). Assumes nothing.
use Prim.Native.Nat.{◌≤◌}
use mathlib.Core.Path.{refl, sym, ◌∙◌}
use native.Mathlib.Omega.{arith}
use lib.Seq.{length-take-le}
use Rattle.octets.specs.Octets.Laws.{loaded-many}
use Rattle.telling.specs.Loaded.{loaded-words, judges-loaded}
use Rattle.telling.proofs.judge_words.Goals as goal
use Rattle.telling.proofs.judge_words.Goals.{After-load-m, After-load-n}

-- what was loaded has room: of the book,
book-few : (c : After-load-n) → c.load-n.result ≤ 16384
book-few c = loaded-many _ refl c.load-n.ensures

-- and of the listing
listing-few : (c : After-load-m) → c.load-m.result ≤ 16384
listing-few c = loaded-many _ refl c.load-m.ensures

pub slice_bounds-words-end : goal.slice_bounds-words-end
slice_bounds-words-end c = omega (arith, book-few (goal.at.slice_bounds-words-end c).After-load-n)

pub slice_bounds-judge-end : goal.slice_bounds-judge-end
slice_bounds-judge-end c = sym (length-take-le _ _ (omega (arith, book-few (goal.at.slice_bounds-judge-end c).After-load-n)))

pub slice_bounds-theirs-end : goal.slice_bounds-theirs-end
slice_bounds-theirs-end c = omega (arith, listing-few (goal.at.slice_bounds-theirs-end c).After-load-m)

pub slice_bounds-judge-end-2 : goal.slice_bounds-judge-end-2
slice_bounds-judge-end-2 c = sym (length-take-le _ _ (omega (arith, listing-few (goal.at.slice_bounds-judge-end-2 c).After-load-m)))

pub returns : goal.returns
returns c = let args = c.args in
    let a = loaded-words args.book.now refl c.load-n.ensures c.requires.0 in
    let b = loaded-words args.listing.now refl c.load-m.ensures c.requires.1 in
    c.judge.ensures ∙ judges-loaded args.party args.book.now args.listing.now a b
