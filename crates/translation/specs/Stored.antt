-- How many of a table's rows a party holds. Nothing is ever taken out of a dictionary and each storing enters a row that was not held,
-- so this bounds what a party stores: Stored.Laws.
use Rattle.std.specs.Prelude.{ℕ}
use Rattle.words.specs.Choice.{pick}
use Rattle.words.specs.Sum.{sum}
use Rattle.terms.specs.Table.{Table, term}
use Rattle.translation.specs.Dictionary.{Dictionary, is_held}

-- of the first n rows
unfoldable pub rows_held : Table → ℕ → Dictionary → ℕ
rows_held tab n δ = sum (λ r. pick (is_held (δ (term tab r))) 1 0) n
