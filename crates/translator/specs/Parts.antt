-- A listing's parts: the parties' programs, and the heads before them. Document 01: "Word 0 is Q; then for each party offset and count
-- of its listing; then the listings in party order."
use Rattle.std.specs.Prelude.{ℕ, ◌+◌, ◌*◌, List, ◌≡◌, take}
use Rattle.words.specs.Run.{values}
use Rattle.book.specs.Layout.{parties}
use Rattle.translation.specs.Listing.{heads, bodies, part_words}
pub mod Laws

-- the programs of the first q parties
abbrev pub programs_to : List ℕ → ℕ → List (List ℕ)
programs_to b q = values (part_words b) 0 q

-- offset and count of each party's program; the first begins behind them
abbrev pub heads_of : List ℕ → List ℕ
heads_of b = heads (1 + 2 * parties b) (programs_to b (parties b))

-- the list begins with them
abbrev pub HeadsIn : List ℕ → List ℕ → Type 0
HeadsIn b hs = take (2 * parties b) hs ≡ heads_of b

-- the programs, one behind another
abbrev pub bodies_of : List ℕ → List ℕ
bodies_of b = bodies (programs_to b (parties b))
