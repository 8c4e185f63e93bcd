-- What code leaves behind that does a party's doing: of a `Did`, where n was the next placeholder, and where k and a were the places
-- of what is stored next and of the next word.
use Rattle.std.specs.Prelude.{ℕ, ◌+◌, List, ◌≡◌, length}
use Rattle.words.specs.Overlay.{Wrote}
use Rattle.translation.specs.Receive.{Did}
use Rattle.translation.specs.Listing.{program_words, triple_words}
use Rattle.holding.specs.View.{row_of, view}
pub mod Laws

-- log became log_after and out became out_after; entries, next, kept and place are the entries, the next placeholder and the two
-- places afterwards
pub record Doing (b : List ℕ) (d : Did) (n k : ℕ) (log log_after : List ℕ) (a : ℕ)
    (out out_after entries : List ℕ) (next kept place : ℕ) : Type 0 where
  pub holds : view b entries ≡ d.dictionary
  pub goes : next ≡ n + length d.given
  pub wrote : Wrote (program_words (row_of b) d.events) out a out_after place
  pub keeps : Wrote (triple_words (row_of b) d.stored) log k log_after kept
