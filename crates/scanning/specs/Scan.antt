-- A program's words as slots, by going through them: what the next word is. With a number, so many images follow behind it.
use Rattle.std.specs.Prelude.{ℕ, zero, suc, ◌+◌, ◌<◌, Bool, true, false, List, [], ◌∷◌, ◌++◌, ◌≡◌, get_or, ltb}
use Rattle.words.specs.Choice.{pick}
use Rattle.words.specs.Overlay.{cap}
use Rattle.translation.specs.Receive.{Event as Translated}
use Rattle.renaming.specs.Slot.{Slot}
use Rattle.scanning.specs.declared.Class.{Class}
use Rattle.scanning.specs.declared.Class.TheVariants as Class
use Rattle.scanning.specs.declared.Mode.{Mode}
use Rattle.scanning.specs.declared.Mode.TheVariants.{Event, Image, Last, Tag, More, Step, First, Length, Use, Opened, Row, Stored, Since}
pub mod Laws
pub mod Program
pub mod Inside

-- more images to come; there are never so many that they are not counted
unfoldable pub more_pending : ℕ → ℕ → ℕ
more_pending l n = pick (ltb l cap) (l + n) l

abbrev pub resumed : ℕ → Mode
resumed zero = Event
resumed (suc l) = Image l

-- behind an event's code
abbrev pub in_event : ℕ → Mode
in_event zero = Since
in_event (suc zero) = Last 0
in_event (suc (suc zero)) = Tag 0
in_event (suc (suc (suc zero))) = Step
in_event (suc (suc (suc (suc zero)))) = Use 1
in_event (suc (suc (suc (suc (suc zero))))) = Opened
in_event (suc (suc (suc (suc (suc (suc w)))))) = Since

-- behind an image's code, with so many images behind the image
abbrev pub in_image : ℕ → ℕ → Mode
in_image zero l = Last l
in_image (suc zero) l = Use l
in_image (suc (suc zero)) l = Tag l
in_image (suc (suc (suc zero))) l = More (more_pending l 1)
in_image (suc (suc (suc (suc w)))) l = Image l

abbrev pub next_mode : Mode → ℕ → Mode
next_mode Event w = in_event w
next_mode (Image l) w = in_image w l
next_mode (Last l) w = resumed l
next_mode (Tag l) w = More l
next_mode (More l) w = resumed (more_pending l w)
next_mode Step w = First 0
next_mode (First l) w = Length l
next_mode (Length l) w = resumed l
next_mode (Use l) w = resumed l
next_mode Opened w = First 1
next_mode Row w = Stored
next_mode Stored w = Since
next_mode Since w = Row

-- how a word is compared; a run's length is plain, too
abbrev pub class_of : Mode → Class
class_of Event = Class.Plain
class_of (Image l) = Class.Plain
class_of (Last l) = Class.Plain
class_of (Tag l) = Class.Plain
class_of (More l) = Class.Plain
class_of Step = Class.Plain
class_of (First l) = Class.First
class_of (Length l) = Class.Length
class_of (Use l) = Class.Use
class_of Opened = Class.Use
class_of Row = Class.Plain
class_of Stored = Class.Use
class_of Since = Class.Plain

-- the slot of the word w, behind which v stands, by its class
abbrev pub slot_of : Class → ℕ → ℕ → Slot
slot_of Class.Plain w v = Slot.plain w
slot_of Class.Use w v = Slot.uses w
slot_of Class.First w v = Slot.runs w v
slot_of Class.Length w v = Slot.plain w

unfoldable pub scan : Mode → List ℕ → List Slot
scan m [] = []
scan m (w ∷ ws) = slot_of (class_of m) w (get_or ws 0 0) ∷ scan (next_mode m w) ws

-- a word of the class is a run's length
abbrev pub of_length : Class → Bool
of_length Class.Plain = false
of_length Class.Use = false
of_length Class.First = false
of_length Class.Length = true

abbrev pub is_length : Mode → Bool
is_length m = of_length (class_of m)

-- how many placeholders are handed out by a word of the class, behind which v stands
abbrev pub run_by : Class → ℕ → ℕ
run_by Class.Plain v = 0
run_by Class.Use v = 0
run_by Class.First v = v
run_by Class.Length v = 0

abbrev pub run_of : Mode → ℕ → ℕ
run_of m v = run_by (class_of m) v

-- what the word behind them is
unfoldable pub after : Mode → List ℕ → Mode
after m [] = m
after m (w ∷ ws) = after (next_mode m w) ws

-- from m on, the words ws are the slots ss, and what the word behind them is, is n
pub record Through (m : Mode) (ws : List ℕ) (ss : List Slot) (n : Mode) : Type 0 where
  pub slots : (rest : List ℕ) → scan m (ws ++ rest) ≡ ss ++ scan n rest
  pub mode : after m ws ≡ n

-- no END is among the events
abbrev pub Inner : List Translated → Type 0
Inner [] = Unit {0}
Inner (Translated.new r ∷ es) = Inner es
Inner (Translated.sends s is ∷ es) = Inner es
Inner (Translated.receives s f n ∷ es) = Inner es
Inner (Translated.checks x i ∷ es) = Inner es
Inner (Translated.opens x f n i ∷ es) = Inner es
Inner (Translated.ends ps ∷ es) = ⊥
