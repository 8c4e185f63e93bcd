-- A program's words, gone through, are its slots: images, events, END. The images to come are never so many that they are not counted.
-- Assumes nothing.
use Rattle.std.specs.Prelude.{ℕ, suc, ◌+◌, ◌≤◌, ◌<◌, ◌≡◌, length}
use mathlib.Core.List.{List, [], ◌∷◌, ◌++◌, append_assoc, append-nil}
use Rattle.std.proofs.Math.Path.{refl, ap}
use Rattle.std.proofs.Common.{sym, ◌∙◌}
use native.Mathlib.Omega.{arith}
use Rattle.std.proofs.Math.ListN.{length-append}
use Rattle.words.specs.Overlay.{cap}
use Rattle.terms.specs.Term.{Term}
use Rattle.terms.specs.Image.{Image, Images, count_images, words, words_of}
use Rattle.translation.specs.Receive.{Event, Stored}
use Rattle.translation.specs.Listing.{triple_words, event_words, program_words}
use Rattle.renaming.specs.Slot.{Slot, image_slots, images_slots, triple_slots, event_slots, program_slots}
use Rattle.scanning.specs.declared.Mode.{Mode}
use Rattle.scanning.specs.declared.Mode.TheVariants
use Rattle.scanning.specs.Scan.{more_pending, resumed, next_mode, scan, after, Through, Inner}
use Rattle.scanning.specs.Scan.Laws.{pending-more}

-- ---- one behind the other
after-append : (m : Mode) (a b : List ℕ) → after m (a ++ b) ≡ after (after m a) b
unfolding after
after-append m [] b = refl
after-append m (w ∷ a) b = after-append (next_mode m w) a b

through-append : {m n k : Mode} {a b : List ℕ} {s t : List Slot} → Through m a s n → Through n b t k → Through m (a ++ b) (s ++ t) k
through-append {m} {n} {k} {a} {b} {s} {t} f g =
    record {
      slots = λ rest. ap (scan m) (append_assoc a b rest) ∙ f.slots (b ++ rest) ∙ ap (λ (l : List Slot). s ++ l) (g.slots rest)
          ∙ sym (append_assoc s t (scan k rest));
      mode = after-append m a b ∙ ap (λ (x : Mode). after x b) f.mode ∙ g.mode;
    }

through-none : {m : Mode} → Through m [] [] m
unfolding after
through-none = record { slots = λ rest. refl; mode = refl }

-- a mode by another name
through-from : {m n k : Mode} {a : List ℕ} {s : List Slot} → m ≡ n → Through n a s k → Through m a s k
through-from e f = rw e f

through-to : {m n k : Mode} {a : List ℕ} {s : List Slot} → n ≡ k → Through m a s n → Through m a s k
through-to e f = rw (← e) f

sum_one : (n l : ℕ) → n + (1 + l) ≡ suc (n + l)
sum_one n l = omega arith

sum-suc : (n l : ℕ) → suc n + l ≡ suc (n + l)
sum-suc n l = omega arith

inner-tail : (e : Event) (es : List Event) → Inner (e ∷ es) → Inner es
inner-tail (Event.new r) es z = z
inner-tail (Event.sends s is) es z = z
inner-tail (Event.receives s f n) es z = z
inner-tail (Event.checks x i) es z = z
inner-tail (Event.opens x f n i) es z = z
inner-tail (Event.ends ps) es z = absurd z

module _ (row : Term → ℕ) where
  -- ---- an image has a word, and so have several at least as many
  image-long : (i : Image) → 0 < length (words row i)
  unfolding words
  image-long (Image.itself t) = omega arith
  image-long (Image.placeholder x) = omega arith
  image-long (Image.operation g is) = omega arith
  image-long (Image.cipher k is) = omega arith
  image-long (Image.public i) = omega arith
  image-long (Image.private i) = omega arith

  images-long : (is : Images) → count_images is ≤ length (words_of row is)
  unfolding words_of count_images
  images-long Images.nil = omega arith
  images-long (Images.cons i is) =
      let h = image-long i in let l = images-long is in let e = length-append (words row i) (words_of row is) in omega arith

  -- ---- so many images more, which are counted
  pending : (l n : ℕ) → l + n < cap → more_pending l n ≡ n + l
  pending l n h = let e = pending-more l n n (omega arith) refl in omega arith

  -- ---- images, with l more behind them
  mutual
    unfolding words words_of image_slots images_slots count_images scan after

    through-image : (i : Image) (l : ℕ) → length (words row i) + l < cap
        → Through (TheVariants.Image l) (words row i) (image_slots row i) (resumed l)
    through-image (Image.itself t) l h = record { slots = λ rest. refl; mode = refl }
    through-image (Image.placeholder x) l h = record { slots = λ rest. refl; mode = refl }
    through-image (Image.operation g is) l h =
        let n = count_images is in
        let few = images-long is in
        let e = pending l n (omega arith) in
        through-append {a = 2 ∷ g ∷ n ∷ []} {s = Slot.plain 2 ∷ Slot.plain g ∷ Slot.plain n ∷ []}
        (through-to (ap resumed e) (record { slots = λ rest. refl; mode = refl })) (through-images is l (omega arith))
    through-image (Image.cipher k is) l h =
        let n = count_images is in
        let few = images-long is in
        let sum = length-append (words row k) (words_of row is) in
        let e : more_pending (more_pending l 1) n ≡ suc (n + l) =
        let one = pending l 1 (omega arith) in ap (λ z. more_pending z n) one ∙ pending (1 + l) n (omega arith) ∙ sum_one n l in
        through-append {a = 3 ∷ n ∷ []} {s = Slot.plain 3 ∷ Slot.plain n ∷ []}
        (through-to (ap resumed e) (record { slots = λ rest. refl; mode = refl }))
        (through-append (through-image k (n + l) (omega arith)) (through-images is l (omega arith)))
    through-image (Image.public i) l h =
        through-append {a = 4 ∷ []} {s = Slot.plain 4 ∷ []} (record { slots = λ rest. refl; mode = refl }) (through-image i l (omega arith))
    through-image (Image.private i) l h =
        through-append {a = 5 ∷ []} {s = Slot.plain 5 ∷ []} (record { slots = λ rest. refl; mode = refl }) (through-image i l (omega arith))

    through-images : (is : Images) (l : ℕ) → length (words_of row is) + l < cap
        → Through (resumed (count_images is + l)) (words_of row is) (images_slots row is) (resumed l)
    through-images Images.nil l h = let e : 0 + l ≡ l = omega arith in through-from (ap resumed e) through-none
    through-images (Images.cons i is) l h =
        let few = images-long is in
        let sum = length-append (words row i) (words_of row is) in
        through-from (ap resumed (sum-suc (count_images is) l))
        (through-append (through-image i (count_images is + l) (omega arith)) (through-images is l (omega arith)))

  -- ---- events
  through-event : (e : Event) (es : List Event) → Inner (e ∷ es) → length (event_words row e) < cap
      → Through TheVariants.Event (event_words row e) (event_slots row e) TheVariants.Event
  unfolding event_words event_slots scan after
  through-event (Event.new r) es z h = record { slots = λ rest. refl; mode = refl }
  through-event (Event.sends s is) es z h =
      let n = count_images is in
      let few = images-long is in
      let e = pending 0 n (omega arith) in
      through-append {a = 2 ∷ s ∷ n ∷ []} {s = Slot.plain 2 ∷ Slot.plain s ∷ Slot.plain n ∷ []}
      (through-to (ap resumed e) (record { slots = λ rest. refl; mode = refl })) (through-images is 0 (omega arith))
  through-event (Event.receives s f n) es z h = record { slots = λ rest. refl; mode = refl }
  through-event (Event.checks x i) es z h =
      through-append {a = 4 ∷ x ∷ []} {s = Slot.plain 4 ∷ Slot.uses x ∷ []} (record { slots = λ rest. refl; mode = refl })
      (through-image i 0 (omega arith))
  through-event (Event.opens x f n i) es z h =
      through-append {a = 5 ∷ x ∷ f ∷ n ∷ []} {s = Slot.plain 5 ∷ Slot.uses x ∷ Slot.runs f n ∷ Slot.plain n ∷ []}
      (record { slots = λ rest. refl; mode = refl }) (through-image i 0 (omega arith))
  through-event (Event.ends ps) es z h = absurd z

  pub through-program : (es : List Event) → Inner es → length (program_words row es) < cap
      → Through TheVariants.Event (program_words row es) (program_slots row es) TheVariants.Event
  unfolding program_words program_slots
  through-program [] z h = through-none
  through-program (e ∷ es) z h =
      let sum = length-append (event_words row e) (program_words row es) in
      through-append (through-event e es z (omega arith)) (through-program es (inner-tail e es z) (omega arith))

  -- ---- END
  scan-triples : (ps : List Stored) → scan TheVariants.Row (triple_words row ps) ≡ triple_slots row ps
  unfolding scan triple_words triple_slots
  scan-triples [] = refl
  scan-triples (p ∷ ps) = ap (λ (l : List Slot). Slot.plain (row p.0) ∷ Slot.uses p.1 ∷ Slot.plain p.2 ∷ l) (scan-triples ps)

  pub scan-end : (ps : List Stored) → scan TheVariants.Event (event_words row (Event.ends ps)) ≡ event_slots row (Event.ends ps)
  unfolding scan event_words event_slots
  scan-end ps = ap (λ (l : List Slot). Slot.plain 6 ∷ Slot.plain (length ps) ∷ l) (scan-triples ps)

-- all of them, with nothing behind
pub through-all : {m n : Mode} {a : List ℕ} {s : List Slot} → Through m a s n → scan m a ≡ s
unfolding scan
through-all {m} {n} {a} {s} f = ap (scan m) (sym (append-nil a)) ∙ f.slots [] ∙ append-nil s
