-- What is handed to the passes over a book's parties.
use Rattle.std.specs.Prelude.{ℕ, List}
use Rattle.book.specs.Layout.{parties}
use Rattle.book.specs.Valid.{Valid}
use Rattle.holding.specs.Partners.{Partners}
use Rattle.claims.specs.Claims.{Claims}
use Rattle.translator.specs.Among.{NobodyRefused}

-- a valid book, and the tables of its claims and of its partners
pub record Ready (b since ps : List ℕ) : Type 0 where
  pub valid : Valid b
  pub claims : Claims b since
  pub partners : Partners b ps

-- and no step is refused for anybody, so that there is an output to write
pub record Writable (b since ps : List ℕ) : Type 0 where
  pub valid : Valid b
  pub claims : Claims b since
  pub partners : Partners b ps
  pub nobody : NobodyRefused b (parties b)
