-- A dictionary as code has it: an entry for each row. Read as a map on terms, it is the dictionary of document 01.
use Rattle.std.specs.Prelude.{ℕ, List, get_or, ltb}
use Rattle.words.specs.Choice.{pick}
use Rattle.terms.specs.Term.{Term}
use Rattle.terms.specs.Table.{number}
use Rattle.book.specs.Layout.{table, rows}
use Rattle.translation.specs.Dictionary.{free, Dictionary}
use Rattle.holding.specs.Entry.{held_of}
pub mod Laws

-- the row of a term in a book, or the number of rows where it is no row's
abbrev pub row_of : List ℕ → Term → ℕ
row_of b t = number (table b) (rows b) t

-- what the entries e hold: a term that is no row is not held
unfoldable pub view : List ℕ → List ℕ → Dictionary
view b e t = pick (ltb (row_of b t) (rows b)) (held_of (get_or e (row_of b t) 0)) free
