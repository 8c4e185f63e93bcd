-- Where a party's walk stops: at the first step at which an atom would have to be made that can't. Document 02, [5]: "the walk stops at the
-- first atom that can't be made, with 10 if it is taken and else 13".
use Rattle.std.specs.Prelude.{ℕ, ◌<◌, true, List, ◌≡◌, eqb, Option, None, Some}
use Rattle.words.specs.Choice.{pick}
use Rattle.terms.specs.Table.{terms}
use Rattle.book.specs.Layout.{table, mark, sender, messages}
use Rattle.book.specs.Stop.{stop}
use Rattle.book.specs.declared.Against.{Against}
use Rattle.book.specs.declared.Against.TheVariants as Against
use Rattle.book.specs.declared.Stop.{Stop}
use Rattle.translation.specs.Dictionary.{Dictionary}
use Rattle.translation.specs.Build.{build_all}
use Rattle.translation.specs.Narration.{narration}
use Rattle.translation.specs.Taken.{taken, stop_row}
use Rattle.sending.specs.Sending.{against_in, first_in}
use Rattle.walking.specs.Walk.{refused_for, Unrefused}
pub mod Laws

-- by the table l: where party p's part in step s stops, if it does, where it holds δ
unfoldable pub stops_in : List ℕ → List ℕ → ℕ → ℕ → Dictionary → Option Stop
stops_in b l p s δ =
    pick (eqb (sender b s) p) (first_in (against_in l (mark b p) s) s None (build_all s (terms (table b) (messages b s)) δ).made) None

-- what stands against the atom at which step s is refused, whose number is `stop_number`
abbrev pub against_of : List ℕ → ℕ → Against
against_of b s = pick (taken (narration b) s (stop_row (narration b) s)) Against.Taken Against.Maker

-- the stop at a step that is refused
abbrev pub stop_of : List ℕ → ℕ → Stop
stop_of b s = stop (against_of b s) s (stop_row (narration b) s)

-- of the first i steps, party p's walk stops at the first that is refused for it; where there is none, it does not stop before step i
pub data StopsBefore (b : List ℕ) (p i : ℕ) : Option Stop → Type 0 where
  none : Unrefused b p i → StopsBefore b p i None
  one : {s : ℕ} → s < i → refused_for b p s ≡ true → Unrefused b p s → StopsBefore b p i (Some (stop_of b s))
