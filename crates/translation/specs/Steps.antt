-- A party's program, step by step: what one step adds for it, and what the first steps add together. The book's own numbers, so that
-- whoever goes through the steps meets the program here.
use Rattle.std.specs.Prelude.{ℕ, List, [], ◌∷◌, map}
use Rattle.words.specs.Run.{values}
use Rattle.terms.specs.Table.{term}
use Rattle.book.specs.Layout.{table, known}
use Rattle.translation.specs.Dictionary.{Dictionary}
use Rattle.translation.specs.Receive.{Did}
use Rattle.translation.specs.Program.{acts_of, walk, walked}
use Rattle.translation.specs.Narration.{step_at}

-- what step i adds for party p, where n is the next placeholder
unfoldable pub step_did : List ℕ → ℕ → ℕ → Dictionary → ℕ → Did
step_did b p i δ n = walk (acts_of p i (step_at b i ∷ [])) δ n

-- what the first i steps add
unfoldable pub before : List ℕ → ℕ → ℕ → Did
before b p i = walked (map (term (table b)) (known b p)) (acts_of p 0 (values (step_at b) 0 i))
