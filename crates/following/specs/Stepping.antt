-- What comparing a party's steps with their words asks for, and what it leaves behind, as its code has it. ws are their words.
use Rattle.std.specs.Prelude.{ℕ, ◌+◌, ◌*◌, ◌≤◌, ◌<◌, true, false, Result, Ok, Err, List, [], map, ◌≡◌, length, get_or, take}
use Rattle.book.specs.Layout.{parties, steps}
use Rattle.book.specs.Valid.{Valid}
use Rattle.translation.specs.Receive.{Stored, Did}
use Rattle.translation.specs.Listing.{triple_words}
use Rattle.translation.specs.Steps.{before}
use Rattle.translation.specs.Long.{step_size, step_words}
use Rattle.renaming.specs.Slot.{program_slots}
use Rattle.renaming.specs.Renaming.{follow}
use Rattle.holding.specs.View.{row_of}
use Rattle.holding.specs.Partners.{Partners}
use Rattle.walking.specs.Walking.{Along}
use Rattle.scanning.specs.declared.Mode.TheVariants.{Event}
use Rattle.naming.specs.declared.Range.{Range}
use Rattle.following.specs.declared.Reached.{Reached}
use Rattle.naming.specs.Mirror.{mode_at, handed_by}
use Rattle.naming.specs.Called.{Ranged}
pub mod Laws
pub mod Step

-- a party of a valid book, and the table of its partners
pub record StepsReady (b ps : List ℕ) (p : ℕ) : Type 0 where
  pub valid : Valid b
  pub partners : Partners b ps
  pub party : p < parties b

-- the buffers: a step's words, what they call its placeholders, the log of triples, and what they call the stored placeholders
pub record Buffers (step table log called : List ℕ) : Type 0 where
  pub step-size : length step ≡ step_words
  pub table-size : length table ≡ step_size
  pub log-size : length log ≡ 3072
  pub called-size : length called ≡ 1024

-- the placeholders of what is stored
abbrev pub placeholders : List Stored → List ℕ
placeholders ps = map (λ s. s.1) ps

-- the doing d of some steps agrees with their words before the place: what they call our placeholders so far is what these words hand out,
-- m of them; the log has the triples of what is stored, in k words, and beside it stands what they call each
pub record Agreed (b : List ℕ) (d : Did) (ws : List ℕ) (at : ℕ) (range : Range) (m k : ℕ) (log called : List ℕ) : Type 0 where
  pub follows : follow ws (program_slots (row_of b) d.events) 0 [] ≡ record { at = at; names = handed_by ws at; whole = true }
  pub mode : mode_at ws at ≡ Event
  pub names : length (handed_by ws at) ≡ m
  pub given : m ≡ length d.given
  pub ranged : Ranged range.low range.high (handed_by ws at)
  pub kept : k ≡ 3 * length d.stored
  pub triples : take k log ≡ triple_words (row_of b) d.stored
  pub older : (j : ℕ) → j < length d.stored → get_or called j 0 ≡ get_or (handed_by ws at) (get_or (placeholders d.stored) j 0) 0

-- party p came through the first i steps, which agree with their words; it holds the entries e
pub record Stepped (b : List ℕ) (p i : ℕ) (ws step table log called e : List ℕ) (r : Reached) : Type 0 where
  pub valid : Valid b
  pub within : i ≤ steps b
  pub count : ℕ
  pub log-first : List ℕ
  pub along : Along b p i log-first log 0 [] [] e r.given r.kept count
  pub agreed : Agreed b (before b p i) ws r.at r.range r.given r.kept log called
  pub buffers : Buffers step table log called
  pub long : length e ≡ 1024

-- not all steps of party p agree, and k is the place of the first word that doesn't
pub record Broken (b : List ℕ) (p : ℕ) (ws : List ℕ) (k : ℕ) : Type 0 where
  pub at : (follow ws (program_slots (row_of b) (before b p (steps b)).events) 0 []).at ≡ k
  pub whole : (follow ws (program_slots (row_of b) (before b p (steps b)).events) 0 []).whole ≡ false

-- how far step i agrees
abbrev pub StepFollowed : List ℕ → ℕ → ℕ → List ℕ → List ℕ → List ℕ → List ℕ → List ℕ → List ℕ → Result Reached ℕ → Type 0
StepFollowed b p i ws step table log called e (Ok r) = Stepped b p (i + 1) ws step table log called e r
StepFollowed b p i ws step table log called e (Err k) = Broken b p ws k × Buffers step table log called

-- how far the steps agree
abbrev pub StepsFollowed : List ℕ → ℕ → List ℕ → List ℕ → List ℕ → Result Reached ℕ → Type 0
StepsFollowed b p ws log called (Ok r) = Agreed b (before b p (steps b)) ws r.at r.range r.given r.kept log called
StepsFollowed b p ws log called (Err k) = Broken b p ws k
