-- What a party's walk asks for, and what it leaves behind, as its code has it.
use Rattle.std.specs.Prelude.{ℕ, ◌+◌, ◌*◌, ◌≤◌, ◌<◌, List, map, ◌≡◌, length, Option, None}
use Rattle.words.specs.Overlay.{cap}
use Rattle.terms.specs.Table.{term}
use Rattle.book.specs.Layout.{table, parties, steps, known, sender, receiver}
use Rattle.book.specs.Valid.{Valid}
use Rattle.translation.specs.Dictionary.{start}
use Rattle.translation.specs.Receive.{Did}
use Rattle.translation.specs.Steps.{step_did, before}
use Rattle.translation.specs.Listing.{part_words}
use Rattle.translation.specs.Long.{step_size, step_words, most_part}
use Rattle.holding.specs.View.{view}
use Rattle.holding.specs.Partners.{Partners}
use Rattle.holding.specs.Doing.{Doing}
use Rattle.claims.specs.Claims.{Claims}
use Rattle.receiving.specs.declared.Received.{Received}
use Rattle.receiving.specs.Receiving.{Fits, Led}
use Rattle.walking.specs.declared.Passed.{Passed}
use Rattle.walking.specs.declared.Measured.{Measured}
use Rattle.book.specs.declared.Stop.{Stop}
use Rattle.walking.specs.Stops.{stops_in, StopsBefore}
use Rattle.walking.specs.Noted.{StepsNoted, PartyNoted}
pub mod Laws

-- ---- one step
-- what party p does in step s, from x on
abbrev pub act_did : List ℕ → ℕ → ℕ → Received → Did
act_did b p s x = step_did b p s (view b x.dictionary.entries) x.dictionary.next

-- party p can do its part in step s, from x on, by the table ps of partners; the places are so low that all of it is counted
pub record ActReady (b ps : List ℕ) (p s : ℕ) (x : Received) : Type 0 where
  pub valid : Valid b
  pub partners : Partners b ps
  pub step : s < steps b
  pub now : x.dictionary.step ≡ s
  pub size : length x.dictionary.entries ≡ 1024
  pub fits : Fits x (act_did b p s x)
  pub low : x.at + step_words ≤ cap
  pub room : x.dictionary.kept + 3 * step_size ≤ cap

-- party p's part in step s led from x to y by e events, h of them ahead of the step's SEND or RECEIVE, and stopped at t. The SEND is the
-- last event of its step, the RECEIVE the first.
pub record Acting (b l : List ℕ) (p s : ℕ) (x : Received) (log log_after out out_after : List ℕ) (y : Received) (h e : ℕ) (t : Option Stop) : Type 0 where
  pub doing : Led b (act_did b p s x) x log log_after out out_after y
  pub events : e ≡ length (act_did b p s x).events
  pub ahead : h ≤ e
  pub sends : sender b s ≡ p → e ≡ h + 1
  pub receives : receiver b s ≡ p → h ≡ 0
  pub stops : t ≡ stops_in b l p s (view b x.dictionary.entries)
  pub size : length y.dictionary.entries ≡ 1024

-- ---- the steps, one after another
-- party p can be taken through the steps before `upto`, by the tables of claims and of partners, from the place a on, behind which its
-- whole program would be counted
pub record WalkReady (b l ps : List ℕ) (p upto a : ℕ) : Type 0 where
  pub valid : Valid b
  pub claims : Claims b l
  pub partners : Partners b ps
  pub party : p < parties b
  pub within : upto ≤ steps b
  pub low : a + most_part ≤ cap

-- the entries are what party p holds at the start
pub record Started (b : List ℕ) (p : ℕ) (entries : List ℕ) : Type 0 where
  pub holds : view b entries ≡ start (map (term (table b)) (known b p))
  pub size : length entries ≡ 1024

-- the first i steps of party p, with the place a at the start; behind them the entries are e, n is the next placeholder, and k and z are
-- the places
abbrev pub Along : List ℕ → ℕ → ℕ → List ℕ → List ℕ → ℕ → List ℕ → List ℕ → List ℕ → ℕ → ℕ → ℕ → Type 0
Along b p i log log_after a out out_after e n k z = Doing b (before b p i) 0 0 log log_after a out out_after e n k z

-- party p's walk through the steps before `upto`: the steps that it came through, at most all of them, what it holds behind them, and where
-- it stopped. x and y are the lists of SENDs and RECEIVEs. Where it looked at all steps and did not stop, it came through all.
pub record Walking (b : List ℕ) (p upto : ℕ) (entries log log_after : List ℕ) (a : ℕ) (out out_after x x_after y y_after : List ℕ) (r : Passed) : Type 0 where
  pub far : ℕ
  pub within : far ≤ steps b
  pub next : ℕ
  pub along : Along b p far log log_after a out out_after entries next r.kept r.at
  pub size : length entries ≡ 1024
  pub events : r.events ≡ length (before b p far).events
  pub noted : StepsNoted b p far x x_after y y_after
  pub stops : StopsBefore b p upto r.stop
  pub whole : r.stop ≡ None → upto ≡ steps b → far ≡ steps b

-- and what is measured so: of a walk that looked at all steps and did not stop, the program's words and the places of its events
pub record Measures (b : List ℕ) (p upto : ℕ) (x x_after y y_after : List ℕ) (r : Measured) : Type 0 where
  pub words : r.stop ≡ None → upto ≡ steps b → r.words ≡ length (part_words b p)
  pub few : r.words ≤ most_part
  pub noted : r.stop ≡ None → upto ≡ steps b → PartyNoted b p x x_after y y_after r.events
  pub sends-size : length x_after ≡ length x
  pub receives-size : length y_after ≡ length y
  pub stops : StopsBefore b p upto r.stop

-- the entries are what party p holds after all steps
pub record Holding (b : List ℕ) (p : ℕ) (entries : List ℕ) : Type 0 where
  pub holds : view b entries ≡ (before b p (steps b)).dictionary
  pub size : length entries ≡ 1024
