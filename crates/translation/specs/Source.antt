-- Where what a party holds comes from. Document 02, [6]: "The auditors want the source of every value. Whatever tells the translator that a
-- row is held must now tell how: given at the start, made at step s, or stored at step s." A dictionary tells it; here is what that
-- means: the rows that the party knows, the steps that it sends, and its END.
use Rattle.std.specs.Prelude.{ℕ, ◌+◌, ◌<◌, ◌↔◌, ◌≡◌}
use mathlib.Core.List.{List, [], ◌∷◌, Memᴰ}
use Rattle.terms.specs.Table.{term}
use Rattle.book.specs.Layout.{table, steps, known, sender}
use Rattle.translation.specs.Dictionary.{Held}
use Rattle.translation.specs.Receive.{Event, Stored}
use Rattle.translation.specs.Narration.{narration, program_of}
use Rattle.translation.specs.Taken.{holds_before, made_at}
pub mod Trials

-- how party p holds row r after all steps
unfoldable pub source_of : List ℕ → ℕ → ℕ → Held
source_of b p r = holds_before (narration b) p (steps b) (term (table b) r)

-- ---- what it comes from
-- party p sends step s, and makes the atom of row r there
pub record MadeBy (b : List ℕ) (p r s : ℕ) : Type 0 where
  pub within : s < steps b
  pub sends : sender b s ≡ p
  pub made : Memᴰ r (made_at (narration b) s)

abbrev stored_in : Event → List Stored
stored_in (Event.new r) = []
stored_in (Event.sends s is) = []
stored_in (Event.receives s f n) = []
stored_in (Event.checks x i) = []
stored_in (Event.opens x f n i) = []
stored_in (Event.ends ps) = ps

-- the triples of a program's END, which is its last event
unfoldable pub end_of : List Event → List Stored
end_of [] = []
end_of (e ∷ []) = stored_in e
end_of (e ∷ f ∷ es) = end_of (f ∷ es)

-- each source exactly when
pub record SourceExact (b : List ℕ) (p r : ℕ) : Type 0 where
  pub given : (source_of b p r ≡ Held.given) ↔ Memᴰ r (known b p)
  pub made : (s : ℕ) → (source_of b p r ≡ Held.made s) ↔ MadeBy b p r s
  pub stored : (s x : ℕ) → (source_of b p r ≡ Held.stored s x) ↔ Memᴰ (term (table b) r, x, s) (end_of (program_of (narration b) p))

-- ---- since when
-- "0 if given at the start, s+1 if first in the dictionary after step s" ([4]), and n if never
unfoldable pub since_of : ℕ → Held → ℕ
since_of n Held.free = n
since_of n Held.given = 0
since_of n (Held.made s) = s + 1
since_of n (Held.stored s x) = s + 1
