-- The atoms that a program makes, against those that refusals 10 and 13 look at. Document 01: "An atom is taken at a step if it is a party's
-- name, or occurs at any depth in any party's starting knowledge or in a message of an earlier step. Making a taken atom is
-- refusal 10."
use Rattle.std.specs.Prelude.{ℕ, suc, ◌<◌, List, [], ◌∷◌, ◌++◌, ◌≡◌, length}
use Rattle.translation.specs.Receive.{Event}
use Rattle.translation.specs.Narration.{Narration}
use Rattle.translation.specs.Taken.{step_of, made_at}
pub mod Laws

-- the atoms of the NEWs among the events, in their order
unfoldable pub news : List Event → List ℕ
news [] = []
news (Event.new r ∷ es) = r ∷ news es
news (Event.sends s is ∷ es) = news es
news (Event.receives s f n ∷ es) = news es
news (Event.checks x i ∷ es) = news es
news (Event.opens x f n i ∷ es) = news es
news (Event.ends ps ∷ es) = news es

-- from step s on, party p makes the atoms of the list: at each step that it sends, those that the step makes its sender make
pub data MadeFrom (N : Narration) (p : ℕ) : ℕ → List ℕ → Type 0 where
  nothing : {s : ℕ} → MadeFrom N p s []
  sends : {s : ℕ} {rs : List ℕ} → s < length N.says → (step_of N s).sender ≡ p → MadeFrom N p (suc s) rs → MadeFrom N p s (made_at N s ++ rs)
  idles : {s : ℕ} {rs : List ℕ} → MadeFrom N p (suc s) rs → MadeFrom N p s rs
