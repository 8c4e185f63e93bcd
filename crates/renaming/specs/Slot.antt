-- The words of a party's program, as a renaming of placeholders sees them. Document 02, [7]: "RECEIVE and OPEN rename their whole run of
-- n numbers, in order, judged at the first number with our n". So each word is plain, a use of one placeholder, or the first number of a
-- run with the run's n; and an event has a slot for each of its words (translation, Listing).
use Rattle.std.specs.Prelude.{ℕ, ◌+◌, ◌≤◌, ◌<◌, List, [], ◌∷◌, ◌++◌, ◌⊎◌, ◌≡◌, length}
use Rattle.terms.specs.Term.{Term}
use Rattle.terms.specs.Image.{Image, Images, count_images}
use Rattle.terms.specs.Table.{number}
use Rattle.book.specs.Layout.{table, rows}
use Rattle.translation.specs.Receive.{Event, Stored}
use Rattle.translation.specs.Narration.{narration, program_of}
pub mod Laws
pub mod Holds
pub mod Order
pub mod Trials

pub data Slot : Type 0 where
  -- this word
  plain : ℕ → Slot
  -- this placeholder, which was handed out before
  uses : ℕ → Slot
  -- this placeholder, the first of n that are handed out here
  runs : ℕ → ℕ → Slot

-- the word that stands there in our own listing
unfoldable pub spelt : Slot → ℕ
spelt (Slot.plain w) = w
spelt (Slot.uses x) = x
spelt (Slot.runs f n) = f

-- `row` gives the row of a term
module _ (row : Term → ℕ) where
  unfoldable mutual
    pub image_slots : Image → List Slot
    image_slots (Image.itself t) = Slot.plain 0 ∷ Slot.plain (row t) ∷ []
    image_slots (Image.placeholder x) = Slot.plain 1 ∷ Slot.uses x ∷ []
    image_slots (Image.operation g is) = Slot.plain 2 ∷ Slot.plain g ∷ Slot.plain (count_images is) ∷ images_slots is
    image_slots (Image.cipher k is) = Slot.plain 3 ∷ Slot.plain (count_images is) ∷ (image_slots k ++ images_slots is)
    image_slots (Image.public i) = Slot.plain 4 ∷ image_slots i
    image_slots (Image.private i) = Slot.plain 5 ∷ image_slots i

    pub images_slots : Images → List Slot
    images_slots Images.nil = []
    images_slots (Images.cons i is) = image_slots i ++ images_slots is

  unfoldable pub triple_slots : List Stored → List Slot
  triple_slots [] = []
  triple_slots (p ∷ ps) = Slot.plain (row p.0) ∷ Slot.uses p.1 ∷ Slot.plain p.2 ∷ triple_slots ps

  unfoldable pub event_slots : Event → List Slot
  event_slots (Event.new r) = Slot.plain 1 ∷ Slot.plain r ∷ []
  event_slots (Event.sends s is) = Slot.plain 2 ∷ Slot.plain s ∷ Slot.plain (count_images is) ∷ images_slots is
  event_slots (Event.receives s f n) = Slot.plain 3 ∷ Slot.plain s ∷ Slot.runs f n ∷ Slot.plain n ∷ []
  event_slots (Event.checks x i) = Slot.plain 4 ∷ Slot.uses x ∷ image_slots i
  event_slots (Event.opens x f n k) = Slot.plain 5 ∷ Slot.uses x ∷ Slot.runs f n ∷ Slot.plain n ∷ image_slots k
  event_slots (Event.ends ps) = Slot.plain 6 ∷ Slot.plain (length ps) ∷ triple_slots ps

  unfoldable pub program_slots : List Event → List Slot
  program_slots [] = []
  program_slots (e ∷ es) = event_slots e ++ program_slots es

-- the slots of party p's program in a book
unfoldable pub part_slots : List ℕ → ℕ → List Slot
part_slots b p = program_slots (number (table b) (rows b)) (program_of (narration b) p)

-- ---- what is said of our own slots
-- n is the next placeholder. What is used is an old one, or was handed out since `first`; a run hands out the next ones
pub data InOrder (old : ℕ → Type 0) (first : ℕ) : ℕ → List Slot → Type 0 where
  none : {n : ℕ} → InOrder old first n []
  plain : {n w : ℕ} {ss : List Slot} → InOrder old first n ss → InOrder old first n (Slot.plain w ∷ ss)
  kept : {n x : ℕ} {ss : List Slot} → old x → InOrder old first n ss → InOrder old first n (Slot.uses x ∷ ss)
  since : {n x : ℕ} {ss : List Slot} → first ≤ x → x < n → InOrder old first n ss → InOrder old first n (Slot.uses x ∷ ss)
  runs : {n k : ℕ} {ss : List Slot} → InOrder old first (n + k) ss → InOrder old first n (Slot.runs n k ∷ ss)

-- all that a program of ours uses, it has handed out before, and it hands out 0, 1, .. in order
abbrev pub Ordered : List Slot → Type 0
Ordered ss = InOrder (λ x. ⊥) 0 0 ss

-- how many placeholders they hand out
unfoldable pub handed : List Slot → ℕ
handed [] = 0
handed (Slot.plain w ∷ ss) = handed ss
handed (Slot.uses x ∷ ss) = handed ss
handed (Slot.runs f n ∷ ss) = n + handed ss

-- every placeholder that they use or hand out is below m
abbrev pub Below : ℕ → List Slot → Type 0
Below m [] = Unit {0}
Below m (Slot.plain w ∷ ss) = Below m ss
Below m (Slot.uses x ∷ ss) = (x < m) × Below m ss
Below m (Slot.runs f n ∷ ss) = (f + n ≤ m) × Below m ss

-- something is stored under the placeholder x
abbrev pub Kept : ℕ → List Stored → Type 0
Kept x [] = ⊥
Kept x (s ∷ ss) = (s.1 ≡ x) ⊎ Kept x ss
