-- The schedules that every book is rehearsed under. Document 01, 'The rehearsal': "a schedule of party numbers". Assumes nothing.
use Rattle.std.specs.Prelude.{ℕ, ◌-◌, ◌/◌, ◌%◌, Bool, List}
use Rattle.words.specs.Choice.{pick}
use Rattle.book.specs.Layout.{parties}
use Rattle.book.specs.Rules.{count_breaks}
pub mod Laws

-- the party of move i, where each of q parties moves `times` times in a row, round and round, from the first on or from the last back
unfoldable pub turn : ℕ → ℕ → Bool → ℕ → ℕ
turn q times back i = let p = i / times % q in pick back (q - 1 - p) p

-- as many parties as the book says, where a book may have so many, else one
unfoldable pub seats : List ℕ → ℕ
seats b = pick (count_breaks b 1) 1 (parties b)
