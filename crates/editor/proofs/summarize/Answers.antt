-- `editor::summarize` meets its contract: bytes that make whole words are loaded, and so many of them are enough
-- (`long-summarized-book`). Assumes nothing.
use Prim.Native.Nat.{◌≤◌}
use mathlib.Core.Path.{refl, sym, ap, ◌∙◌}
use mathlib.Core.List.{List}
use Prim.Native.Nat.{ℕ}
use native.Mathlib.Omega.{arith}
use lib.ListN.{length-take}
use Rattle.octets.specs.Octets.{words_in}
use Rattle.octets.specs.Octets.Laws.{loaded-many, loaded-front}
use Rattle.book.specs.Layout.{loaded}
use Rattle.relaying.specs.Relayed.{summarized_on}
use Rattle.editor.specs.Bytes.Laws.{of-whole-summarized, of-odd-summarized, long-summarized-book}
use Rattle.editor.proofs.summarize.Goals as goal
use Rattle.editor.proofs.summarize.Goals.{After-load-n}

-- what was loaded has room
few : (c : After-load-n) → c.load-n.result ≤ loaded
few c = loaded-many c.args.book.now refl c.load-n.ensures

-- the bytes are no multiple of four
pub returns-then-is_uneven : goal.returns-then-is_uneven
returns-then-is_uneven c = sym (of-odd-summarized c.args.book.now c.args.out.now
    (sym c.is_uneven.ensures ∙ c.if-is_uneven.true))

pub slice_bounds-words-end : goal.slice_bounds-words-end
slice_bounds-words-end c = omega (arith, few (goal.at.slice_bounds-words-end c).After-load-n)

pub slice_bounds-summarize_words-end : goal.slice_bounds-summarize_words-end
slice_bounds-summarize_words-end c = simp length-take (omega (arith, few (goal.at.slice_bounds-summarize_words-end c).After-load-n))

-- they are, and the words that were loaded are as good as all
pub returns : goal.returns
returns c = let bytes = c.args.book.now in
    let out = c.args.out.now in
    c.summarize_words.ensures
    ∙ ap (λ (b : List ℕ). summarized_on b out) (loaded-front bytes refl c.load-n.ensures (omega arith))
    ∙ long-summarized-book (words_in bytes) (words_in bytes) out
    ∙ sym (of-whole-summarized bytes out (sym c.is_uneven.ensures ∙ c.if-is_uneven.false))
