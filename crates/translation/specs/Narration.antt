-- The narration that a book holds: "a table of terms, the parties with what each knows at the start, and the steps" (document 01), and
-- which of the parties may make atoms (document 02, [5]). Here row numbers end and terms begin.
use Rattle.std.specs.Prelude.{ℕ, Bool, false, List, [], map, eqb, get_or}
use Rattle.words.specs.Run.{values}
use Rattle.terms.specs.Term.{Term}
use Rattle.terms.specs.Table.{term, terms}
use Rattle.book.specs.Layout.{table, parties, steps, name, known, mark, sender, receiver, messages}
use Rattle.translation.specs.Receive.{Event}
use Rattle.translation.specs.Program.{Step, acts_of, program}

pub record Narration : Type 0 where
  pub names : List Term
  pub knows : List (List Term)
  pub makes : List Bool
  pub says : List Step

unfoldable pub step_at : List ℕ → ℕ → Step
step_at b s = record { sender = sender b s; receiver = receiver b s; messages = terms (table b) (messages b s) }

unfoldable pub narration : List ℕ → Narration
narration b =
    record {
      names = values (λ p. term (table b) (name b p)) 0 (parties b);
      knows = values (λ p. map (term (table b)) (known b p)) 0 (parties b);
      makes = values (λ p. eqb (mark b p) 1) 0 (parties b);
      says = values (step_at b) 0 (steps b);
    }

-- what party p knows at the start
unfoldable pub known_to : Narration → ℕ → List Term
known_to N p = get_or N.knows p []

-- party p may make atoms: "1 may make, 0 may not"
unfoldable pub may_make : Narration → ℕ → Bool
may_make N p = get_or N.makes p false

-- the program of party p
unfoldable pub program_of : Narration → ℕ → List Event
program_of N p = program (known_to N p) (acts_of p 0 N.says)
