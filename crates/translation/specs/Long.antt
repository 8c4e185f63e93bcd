-- How long a party's doing can get. Document 01: a book has at most 16 parties and 64 steps, a step at most 8 messages, and "No size
-- exceeds 1,024." So no number of a listing leaves 32 bits.
use Rattle.std.specs.Prelude.{ℕ, ◌+◌, ◌*◌, ◌≤◌, length}
use Rattle.terms.specs.Term.{Term}
use Rattle.translation.specs.Receive.{Did}
use Rattle.translation.specs.Listing.{program_words}

-- the sizes of a step's messages: 8 of at most 1,024
abbrev pub step_size : ℕ
step_size = 8192

-- the words of a step's events: 4 of the RECEIVE, and 2 for each of the sizes
abbrev pub step_words : ℕ
step_words = 16388

-- a party's placeholders: 64 steps
abbrev pub most_placeholders : ℕ
most_placeholders = 524288

-- the words of a party's events: 64 steps
abbrev pub most_events : ℕ
most_events = 1048832

-- the words of a party's program: its events, 2 of the END and 3 for each stored term, of which there are no more than rows
abbrev pub most_part : ℕ
most_part = 1051906

-- the words of a listing: 1, and for each of 16 parties 2 and its program
abbrev pub most_listing : ℕ
most_listing = 16830529

-- what receiving terms of the size z does, where c placeholders were given to the terms themselves
pub record Small (row : Term → ℕ) (c z : ℕ) (d : Did) : Type 0 where
  pub given : c + length d.given ≤ z
  pub stored : length d.stored ≤ z
  pub words : length (program_words row d.events) ≤ 2 * z

-- a doing that gives at most g placeholders, stores at most g terms, and whose events take at most w words
pub record Within (row : Term → ℕ) (g w : ℕ) (d : Did) : Type 0 where
  pub given : length d.given ≤ g
  pub stored : length d.stored ≤ g
  pub words : length (program_words row d.events) ≤ w
