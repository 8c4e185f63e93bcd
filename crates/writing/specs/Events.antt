-- What writing a party's program as bytes asks for, and what its events leave behind.
use Rattle.std.specs.Prelude.{ℕ, ◌<◌, List}
use Rattle.words.specs.Overlay.{Wrote}
use Rattle.octets.specs.Octets.{bytes_of_all}
use Rattle.book.specs.Layout.{parties, steps}
use Rattle.book.specs.Valid.{Valid}
use Rattle.translation.specs.Listing.{program_words, triple_words}
use Rattle.translation.specs.Steps.{before}
use Rattle.holding.specs.View.{row_of}
use Rattle.holding.specs.Partners.{Partners}

-- a party of a valid book, and the table of its partners. That its walk stops nowhere is not asked: its events are what they are in any case
pub record EventsReady (b ps : List ℕ) (p : ℕ) : Type 0 where
  pub valid : Valid b
  pub partners : Partners b ps
  pub party : p < parties b

-- the bytes of the events of all steps were written, and what was stored was kept
pub record WroteEvents (b : List ℕ) (p : ℕ) (log log_after out : List ℕ) (a : ℕ) (out_after : List ℕ) (next kept : ℕ) : Type 0 where
  pub wrote : Wrote (bytes_of_all (program_words (row_of b) (before b p (steps b)).events)) out a out_after next
  pub keeps : Wrote (triple_words (row_of b) (before b p (steps b)).stored) log 0 log_after kept
