-- What is known of any words before an output is written: refusals 1 to 10 and 13 and, where there is none, all that the parties'
-- walks leave.
use Rattle.std.specs.Prelude.{ℕ, List, [], ◌∷◌, ◌≡◌, ltb, eqb, length, Option, None}
use Rattle.words.specs.Choice.{pick}
use Rattle.words.specs.Overlay.{Wrote}
use Rattle.book.specs.Layout.{parties}
use Rattle.book.specs.Said.{Said, said, reading_says}
use Rattle.translation.specs.Listing.{listing}
use Rattle.translation.specs.Outcome.{acceptance}
use Rattle.walking.specs.Placed.{Placed}
use Rattle.book.specs.declared.Stop.{Stop}
use Rattle.translator.specs.Among.{StopsAmong}
use Rattle.translator.specs.Parts.{heads_of, HeadsIn}
use Rattle.translator.specs.Ready.{Writable}
use Rattle.translator.specs.declared.Findings.{Findings}
pub mod Laws

-- lists for the places of SENDs, of RECEIVEs and of ENDs have room for 64 steps and 16 parties
pub record Lists (x y z : List ℕ) : Type 0 where
  pub sends : length x ≡ 64
  pub receives : length y ≡ 64
  pub ends : length z ≡ 16

-- the heads were written into `old` from `at` on, which left `new` and the next place `next`; x, y and z have the places of the programs'
-- events; the last program ends at `end`; and the first of the walks to stop, if one does, does so at t
pub record WroteHeads (b old : List ℕ) (at : ℕ) (new : List ℕ) (next : ℕ) (x y z : List ℕ) (end : ℕ) (t : Option Stop) : Type 0 where
  pub wrote : t ≡ None → Wrote (heads_of b) old at new next
  pub ends : t ≡ None → end ≡ length (listing b)
  pub placed : t ≡ None → Placed b x y z
  pub stops : StopsAmong b (parties b) t

-- of the words b, whichever they are
pub record Surveyed (b : List ℕ) (r : Findings) : Type 0 where
  pub says : reading_says r.reading ≡ acceptance b
  pub writable : (reading_says r.reading).number ≡ 0 → Writable b r.since r.partners
  pub heads : (reading_says r.reading).number ≡ 0 → HeadsIn b r.heads
  pub ends : (reading_says r.reading).number ≡ 0 → r.end ≡ length (listing b)
  pub placed : (reading_says r.reading).number ≡ 0 → Placed b r.sends r.receives r.ends

-- what is said where there is room for so many words, and an accepted book's output has `end`: what the book says, if that refuses it;
-- else refusal 12, or the length
unfoldable pub fitted : Said → ℕ → ℕ → Said
fitted s end room = pick (eqb s.number 0) (pick (ltb room end) (said 12 (end ∷ [])) (said 0 (end ∷ []))) s
