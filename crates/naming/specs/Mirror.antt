-- What their own words tell of the numbers that they hand out. Their words ws are gone through as ours are: as far as they agree they have
-- the same codes and counts, so that what the next word is, is the same, and each run stands where ours has one.
use Rattle.std.specs.Prelude.{ℕ, zero, suc, ◌-◌, List, [], ◌++◌, get_or}
use Rattle.words.specs.Choice.{pick}
use Rattle.octets.specs.Octets.{words_in}
use Rattle.renaming.specs.Renaming.{numbers}
use Rattle.scanning.specs.Scan.{next_mode, is_length}
use Rattle.scanning.specs.declared.Mode.{Mode}
use Rattle.scanning.specs.declared.Mode.TheVariants.{Event}
pub mod Laws

-- their listing: words and, behind them, the words that bytes make
abbrev pub theirs : List ℕ → List ℕ → List ℕ
theirs ws bs = ws ++ words_in bs

-- what word a is
unfoldable pub mode_at : List ℕ → ℕ → Mode
mode_at ws zero = Event
mode_at ws (suc a) = next_mode (mode_at ws a) (get_or ws a 0)

-- the numbers that the first a words hand out; a run is told by its first number and by its length behind it
unfoldable pub handed_by : List ℕ → ℕ → List ℕ
handed_by ws zero = []
handed_by ws (suc a) = handed_by ws a ++ pick (is_length (mode_at ws a)) (numbers (get_or ws (a - 1) 0) (get_or ws a 0)) []

-- the names so far, where m is what word a is: those that the first a words hand out; and if it is the length of a run, which is w in
-- ours, those of the run before it
abbrev pub told : List ℕ → ℕ → Mode → ℕ → List ℕ
told ws a m w = handed_by ws a ++ pick (is_length m) (numbers (get_or ws (a - 1) 0) w) []
