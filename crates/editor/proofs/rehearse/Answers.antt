-- `editor::rehearse` meets its contract: bytes that make whole words are loaded, and so many of them are enough
-- (`long-played-book`, `long-schedule`). Assumes nothing.
use Prim.Native.Nat.{ℕ, ◌≤◌}
use mathlib.Core.List.{List}
use mathlib.Core.Path.{refl, sym, ap₂, ◌∙◌}
use native.Mathlib.Omega.{arith}
use lib.ListN.{length-take}
use Rattle.octets.specs.Octets.{words_in}
use Rattle.octets.specs.Octets.Laws.{loaded-many, loaded-front}
use Rattle.book.specs.Layout.{loaded}
use Rattle.relaying.specs.Relayed.{rehearsed}
use Rattle.editor.specs.Bytes.Laws.{of-wholes, of-odd-book, of-odd-schedule, long-played-book, long-schedule}
use Rattle.editor.proofs.rehearse.Goals as goal
use Rattle.editor.proofs.rehearse.Goals.{After-load-m, After-load-n}

-- what was loaded has room
few : (c : After-load-n) → c.load-n.result ≤ loaded
few c = loaded-many c.args.book.now refl c.load-n.ensures

few-moves : (c : After-load-m) → c.load-m.result ≤ 4097
few-moves c = loaded-many c.args.schedule.now refl c.load-m.ensures

-- the book's bytes are no multiple of four
pub returns-then-is_uneven : goal.returns-then-is_uneven
returns-then-is_uneven c = sym (of-odd-book c.args.book.now c.args.schedule.now c.args.out.now
    (sym c.is_uneven.ensures ∙ c.if-is_uneven.true))

-- they are, and the schedule's are not
pub returns-then-is_uneven-2 : goal.returns-then-is_uneven-2
returns-then-is_uneven-2 c = sym (of-odd-schedule c.args.book.now c.args.schedule.now c.args.out.now
    (sym c.is_uneven.ensures ∙ c.if-is_uneven.false) (sym c.is_uneven-2.ensures ∙ c.if-is_uneven-2.true))

pub slice_bounds-words-end : goal.slice_bounds-words-end
slice_bounds-words-end c = omega (arith, few (goal.at.slice_bounds-words-end c).After-load-n)

pub slice_bounds-rehearse_words-end : goal.slice_bounds-rehearse_words-end
slice_bounds-rehearse_words-end c = simp length-take (omega (arith, few (goal.at.slice_bounds-rehearse_words-end c).After-load-n))

pub slice_bounds-moves-end : goal.slice_bounds-moves-end
slice_bounds-moves-end c = omega (arith, few-moves (goal.at.slice_bounds-moves-end c).After-load-m)

pub slice_bounds-rehearse_words-end-2 : goal.slice_bounds-rehearse_words-end-2
slice_bounds-rehearse_words-end-2 c = simp length-take (omega (arith, few-moves (goal.at.slice_bounds-rehearse_words-end-2 c).After-load-m))

-- both are, and the words that were loaded are as good as all
pub returns : goal.returns
returns c = let bytes = c.args.book.now in
    let moves = c.args.schedule.now in
    let out = c.args.out.now in
    let book-front = loaded-front bytes refl c.load-n.ensures (omega arith) in
    let moves_front = loaded-front moves refl c.load-m.ensures (omega arith) in
    c.rehearse_words.ensures
    ∙ ap₂ (λ (b : List ℕ) (ms : List ℕ). rehearsed b ms out) book-front moves_front
    ∙ long-played-book (words_in bytes) _ out ∙ long-schedule (words_in bytes) (words_in moves) out
    ∙ sym (of-wholes bytes out (sym c.is_uneven.ensures ∙ c.if-is_uneven.false) moves
    (sym c.is_uneven-2.ensures ∙ c.if-is_uneven-2.false))
