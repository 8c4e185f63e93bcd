-- What the number of a function says: the numbers stand in docs/CALLS.md.
use Rattle.std.specs.Prelude.{ℕ, ◌*◌, ◌≤◌, Bool, true, false, eqb, ltb}
use Rattle.words.specs.Choice.{pick}
pub mod Laws
pub mod Table

-- the numbers that are some function's
abbrev pub Known : ℕ → Type 0
Known f = (1 ≤ f) × (f ≤ 16)

-- of books, and of derivations
abbrev pub OfBooks : ℕ → Type 0
OfBooks f = (1 ≤ f) × (f ≤ 12)

abbrev pub OfTypes : ℕ → Type 0
OfTypes f = (13 ≤ f) × (f ≤ 16)

-- the slices are of bytes: of 5, 6, 9, 10, 12, 14 and 16
unfoldable pub on_bytes : ℕ → Bool
on_bytes f =
    pick (ltb f 5) false
    (pick (ltb f 7) true (pick (eqb f 11) false (pick (eqb f 13) false (pick (eqb f 15) false (ltb 8 f)))))

-- a question is answered: by 8 and 10
unfoldable pub asks : ℕ → Bool
asks f = pick (eqb f 8) true (eqb f 10)

-- a listing is judged: by 11 and 12
unfoldable pub judges : ℕ → Bool
judges f = pick (eqb f 11) true (eqb f 12)

-- how many slices the function f has: a reading, a question and a test of bound names one, a rehearsal three, the others two
unfoldable pub slices_of : ℕ → ℕ
slices_of f = pick (ltb f 3) 1 (pick (asks f) 1 (pick (eqb f 4) 3 (pick (eqb f 6) 3 (pick (ltb 14 f) 1 2))))

-- how many numbers it has behind them: a question three, a judgement one
unfoldable pub numbers_of : ℕ → ℕ
numbers_of f = pick (asks f) 3 (pick (judges f) 1 0)

-- the bytes of a slice of the function f whose count is n: of bytes, or of words
unfoldable pub slice_size : ℕ → ℕ → ℕ
slice_size f n = pick (on_bytes f) n (4 * n)
