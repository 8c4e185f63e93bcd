-- The rehearsal, counted: how many events each party has done is all that there is to know. Document 01, 'The rehearsal': "each move
-- lets that party do its next event, or nothing if it is at END or waits for a step not yet sent." A party waits if its next event is
-- the RECEIVE of a step whose SEND is not done yet. No term is looked at: that no comparison and no opening fails is demand 3's, and so
-- these counts are the plain machine's (Laws).
use Rattle.std.specs.Prelude.{ℕ, suc, Bool, false, List, [], ◌∷◌, eqb, leb, ltb}
use Rattle.words.specs.Choice.{pick}
use Rattle.words.specs.First.{any}
use Rattle.book.specs.Layout.{steps, sender, receiver}
use Rattle.translation.specs.Places.{Places}
use Rattle.agreement.specs.Change.{change}
pub mod Behind
pub mod Reached
pub mod Laws

-- in the book b with the places P, where party q has done d q events
module _ (b : List ℕ) (P : Places) where
  -- party p's next event is the RECEIVE of step s, and the SEND is not done yet
  unfoldable pub waits_for : (ℕ → ℕ) → ℕ → ℕ → Bool
  waits_for d p s = pick (eqb (receiver b s) p) (pick (eqb (P.receives s) (d p)) (leb (d (sender b s)) (P.sends s)) false) false

  unfoldable pub waits : (ℕ → ℕ) → ℕ → Bool
  waits d p = any (waits_for d p) (steps b)

  -- party p moves
  unfoldable pub ticked : ℕ → (ℕ → ℕ) → ℕ → ℕ
  ticked p d = pick (ltb (d p) (P.ends p)) (pick (waits d p) d (change d p (suc (d p)))) d

  -- the parties of a schedule move one after another
  unfoldable pub ticked_all : List ℕ → (ℕ → ℕ) → ℕ → ℕ
  ticked_all [] d = d
  ticked_all (p ∷ ps) d = ticked_all ps (ticked p d)
