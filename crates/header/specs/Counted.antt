-- What the reader has established behind refusal 2.
use Rattle.std.specs.Prelude.{ℕ, ◌≤◌, ◌<◌, List}
use Rattle.book.specs.Layout.{sections, most, counted}

-- no section has more records than it may
abbrev pub Counted : List ℕ → Type 0
Counted b = (i : ℕ) → i < sections → counted b i ≤ most i
