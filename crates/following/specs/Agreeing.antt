-- What comparing their words with ours asks for, and what it leaves behind, as its code has it. ws are their words.
use Rattle.std.specs.Prelude.{ℕ, ◌+◌, ◌≤◌, ◌<◌, true, List, Result, Ok, Err, MatchResult, is_ok, ◌⊎◌, ◌≡◌, length, get_or, drop}
use Rattle.translation.specs.Long.{step_size}
use Rattle.renaming.specs.Slot.{InOrder, handed}
use Rattle.renaming.specs.Renaming.{follow}
use Rattle.scanning.specs.declared.Class.TheVariants as Class
use Rattle.scanning.specs.declared.Mode.{Mode}
use Rattle.scanning.specs.declared.Mode.TheVariants.{Event}
use Rattle.scanning.specs.Scan.{class_of, scan, after}
use Rattle.naming.specs.declared.Range.{Range}
use Rattle.following.specs.declared.Far.{Far}
use Rattle.naming.specs.Mirror.{mode_at, handed_by, told}
use Rattle.naming.specs.Called.{Ranged, Called, StoredIn}
pub mod Laws
pub mod Following

-- a word of ours, w, can be compared with the word at the place a, of t words
pub record AgreeReady (ws : List ℕ) (t a : ℕ) (m : Mode) (w begin : ℕ) (table log : List ℕ) (n : ℕ) (called : List ℕ) (range : Range)
    : Type 0 where
  pub total : t ≡ length ws
  pub mode : m ≡ mode_at ws a
  pub calls : Called (told ws a m w) begin table log n called
  pub ranged : Ranged range.low range.high (told ws a m w)
  -- a placeholder that is used was handed out in this step, or is stored
  pub known : class_of m ≡ Class.Use → ((begin ≤ w) × (w < length (told ws a m w))) ⊎ StoredIn log n w

-- our words, which begin with an event, can be compared with theirs from the place a on
pub record WordsReady (ws ours : List ℕ) (a begin : ℕ) (table log : List ℕ) (n : ℕ) (called : List ℕ) (range : Range) : Type 0 where
  pub mode : mode_at ws a ≡ Event
  pub calls : Called (handed_by ws a) begin table log n called
  pub ranged : Ranged range.low range.high (handed_by ws a)
  pub begins : begin ≡ length (handed_by ws a)
  pub order : InOrder (StoredIn log n) begin begin (scan Event ours)
  pub room : handed (scan Event ours) ≤ step_size

-- what is left where they agree: what the next word is, and the names and their range
pub record AllFollowed (ws ours : List ℕ) (a begin : ℕ) (table log : List ℕ) (n : ℕ) (called : List ℕ) (r : Far) : Type 0 where
  pub mode : mode_at ws r.at ≡ after Event ours
  pub names : (follow ws (scan Event ours) a (handed_by ws a)).names ≡ told ws r.at (after Event ours) 0
  pub count : length (told ws r.at (after Event ours) 0) ≡ begin + handed (scan Event ours)
  pub calls : Called (told ws r.at (after Event ours) 0) begin table log n called
  pub ranged : Ranged r.range.low r.range.high (told ws r.at (after Event ours) 0)

-- the place that an answer tells: behind all words, or of the first that doesn't agree
abbrev pub place_in : Result Far ℕ → ℕ
place_in (Ok r) = r.at
place_in (Err k) = k

-- how far they agree
pub record WordsFollowed (ws ours : List ℕ) (a begin : ℕ) (table log : List ℕ) (n : ℕ) (called : List ℕ) (r : Result Far ℕ) : Type 0 where
  pub at : (follow ws (scan Event ours) a (handed_by ws a)).at ≡ place_in r
  pub whole : (follow ws (scan Event ours) a (handed_by ws a)).whole ≡ is_ok r
  pub all : MatchResult r (λ f. AllFollowed ws ours a begin table log n called f) (λ k. Unit {0})
  pub size : length table ≡ step_size

-- ours are compared up to word k
pub record UpTo (ws ours : List ℕ) (a k at : ℕ) (m : Mode) (begin filled : ℕ) (table log : List ℕ) (n : ℕ) (called : List ℕ) (range : Range)
    : Type 0 where
  pub within : k ≤ length ours
  pub mode : m ≡ mode_at ws at
  pub rest : follow ws (scan Event ours) a (handed_by ws a) ≡ follow ws (scan m (drop k ours)) at (told ws at m (get_or ours k 0))
  pub calls : Called (told ws at m (get_or ours k 0)) begin table log n called
  pub ranged : Ranged range.low range.high (told ws at m (get_or ours k 0))
  pub count : begin + filled ≡ length (told ws at m (get_or ours k 0))
  pub order : InOrder (StoredIn log n) begin (length (told ws at m (get_or ours k 0))) (scan m (drop k ours))
  pub sum : filled + handed (scan m (drop k ours)) ≡ handed (scan Event ours)
  pub room : handed (scan Event ours) ≤ step_size
  pub ends : after m (drop k ours) ≡ after Event ours
