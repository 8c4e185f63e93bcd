-- The programs that a listing's words spell. So what is said of programs is said of the very words that demand 2 is about: document 01,
-- "demand 3 is stated over demand 2's listings".
-- Decided: a number that is no party's has nothing to do, END alone; and so has a party whose words spell no program. (The words of
-- an accepted book's listing spell one for each party: Spelled.Laws.)
use Rattle.std.specs.Prelude.{ℕ, ◌≤◌, ◌<◌, List, [], ◌∷◌, ◌≡◌, ltb}
use Rattle.std.proofs.Math.Option.{Option, none, some}
use Rattle.words.specs.Choice.{pick}
use Rattle.terms.specs.Table.{term}
use Rattle.book.specs.Layout.{table, parties}
use Rattle.translation.specs.Receive.{Event}
use Rattle.translation.specs.Narration.{Narration, program_of}
use Rattle.translation.specs.Spelling.{read_program, part_of}

abbrev pub end_alone : List Event
end_alone = Event.ends [] ∷ []

unfoldable pub or_end : Option (List Event) → List Event
or_end none = end_alone
or_end (some es) = es

-- of the book b and the words w of a listing: the program of party p
unfoldable pub spelled : List ℕ → List ℕ → ℕ → List Event
spelled b w p = pick (ltb p (parties b)) (or_end (read_program (term (table b)) (part_of w p))) end_alone

-- each of the first Q parties has its program, and any other number nothing to do
pub record Programs (N : Narration) (Q : ℕ) (programs : ℕ → List Event) : Type 0 where
  pub party : (p : ℕ) → p < Q → programs p ≡ program_of N p
  pub nobody : (p : ℕ) → Q ≤ p → programs p ≡ end_alone
