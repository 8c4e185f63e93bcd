-- `shelf::seats_of` meets its contract: by what the book says in word 2; where it has no such word, it says 0.
-- Assumes nothing.
use mathlib.Core.Path.{◌≡◌}
use native.Mathlib.Omega.{arith}
use Rattle.book.specs.Layout.{parties}
use Rattle.shelf.specs.Turns.Laws.{no_word, seats-below, seats-above, seats-own}
use Rattle.shelf.proofs.seats_of.Goals as goal

-- a book of fewer than three words has no word 2
pub returns-then-book-lt3-clause-value : goal.returns-then-book-lt3-clause-value
returns-then-book-lt3-clause-value c =
    let none = no_word c.args.book.now 2 (omega arith) in
    seats-below _ (omega arith)

-- what was read and is 0 is word 2
pub returns-then-parties-eq0-clause-value : goal.returns-then-parties-eq0-clause-value
returns-then-parties-eq0-clause-value c =
    let none : parties c.args.book.now ≡ 0 = c.if-parties-eq0.true in
    seats-below _ (omega arith)

pub returns-then-parties-gt-PARTIES-clause-value : goal.returns-then-parties-gt-PARTIES-clause-value
returns-then-parties-gt-PARTIES-clause-value c = seats-above _ (omega arith) (omega arith)

pub returns-clause-value : goal.returns-clause-value
returns-clause-value c = seats-own _ (omega arith) (omega arith)
