-- `editor::judge` meets its contract: bytes that make whole words are judged, of the book those that were loaded, which
-- are enough
-- (`long-judged-book`). Assumes nothing.
use Prim.Native.Nat.{ℕ, ◌≤◌}
use mathlib.Core.List.{List}
use mathlib.Core.Path.{refl, sym, ap, ◌∙◌}
use native.Mathlib.Omega.{arith}
use lib.ListN.{length-take}
use Rattle.octets.specs.Octets.{words_in}
use Rattle.octets.specs.Octets.Laws.{loaded-many, loaded-front}
use Rattle.book.specs.Layout.{loaded}
use Rattle.renaming.specs.Verdict.{judged}
use Rattle.editor.specs.Bytes.Judged.{of-whole-judged, of-odd-judged, of-odd-listing, long-judged-book}
use Rattle.editor.proofs.judge.Goals as goal
use Rattle.editor.proofs.judge.Goals.{After-load-n}

-- what was loaded has room
few : (c : After-load-n) → c.load-n.result ≤ loaded
few c = loaded-many c.args.book.now refl c.load-n.ensures

-- the book's bytes are no multiple of four
pub returns-then-is_uneven : goal.returns-then-is_uneven
returns-then-is_uneven c = let a = c.args in
    sym (of-odd-judged a.book.now a.party a.listing.now (sym c.is_uneven.ensures ∙ c.if-is_uneven.true))

-- nor the listing's
pub returns-then-is_uneven-2 : goal.returns-then-is_uneven-2
returns-then-is_uneven-2 c = let a = c.args in
    sym (of-odd-listing a.book.now a.party a.listing.now
    (sym c.is_uneven.ensures ∙ c.if-is_uneven.false)
    (sym c.is_uneven-2.ensures ∙ c.if-is_uneven-2.true))

pub slice_bounds-words-end : goal.slice_bounds-words-end
slice_bounds-words-end c = omega (arith, few (goal.at.slice_bounds-words-end c).After-load-n)

pub slice_bounds-judge_listing-end : goal.slice_bounds-judge_listing-end
slice_bounds-judge_listing-end c = simp length-take (omega (arith, few (goal.at.slice_bounds-judge_listing-end c).After-load-n))

-- they are, and the words that were loaded are as good as all
pub returns : goal.returns
returns c = let a = c.args in
    let bytes = a.book.now in
    let listing = a.listing.now in
    c.judge_listing.ensures
    ∙ ap (λ (b : List ℕ). judged b a.party (words_in listing))
    (loaded-front bytes refl c.load-n.ensures (omega arith))
    ∙ long-judged-book (words_in bytes) a.party (words_in listing)
    ∙ sym (of-whole-judged bytes a.party listing (sym c.is_uneven.ensures ∙ c.if-is_uneven.false)
    (sym c.is_uneven-2.ensures ∙ c.if-is_uneven-2.false))
