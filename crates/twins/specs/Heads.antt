-- What two rows are compared in before their parts.
use Rattle.std.specs.Prelude.{ℕ, Bool, List, [], ◌∷◌}
use Rattle.book.specs.Layout.{kind, tag, row_count}
use Rattle.book.specs.Rules.{one_of, differs}

-- row k differs from row r in kind, in tag or in how many parts it has
unfoldable pub heads_differ : List ℕ → ℕ → ℕ → Bool
heads_differ b r k = one_of (differs (kind b k) (kind b r) ∷ differs (tag b k) (tag b r) ∷ differs (row_count b k) (row_count b r) ∷ [])
