-- Laws of slots: they spell the words of the listing; and slots in order that go on in order are in order. Assumes nothing.
use Rattle.std.specs.Prelude.{ℕ, ◌+◌, ◌≤◌, ◌<◌, ◌⊎◌, ◌≡◌}
use Rattle.std.proofs.Common.{arith, inl, inr, ⊎_elim, sym, ap₂, ◌∙◌, subst}
use mathlib.Core.List.{List, [], ◌∷◌, ◌++◌, map, map-append, append_assoc, append-nil}
use Rattle.std.proofs.Math.Path.{refl, ap}
use Rattle.std.proofs.Math.ListN.{length}
use Rattle.std.proofs.lemmas.List.{length-map}
use Rattle.terms.specs.Term.{Term}
use Rattle.terms.specs.Image.{Image, Images, count_images, words, words_of}
use Rattle.terms.specs.Table.{number}
use Rattle.book.specs.Layout.{table, rows}
use Rattle.translation.specs.Receive.{Event, Stored}
use Rattle.translation.specs.Narration.{narration, program_of}
use Rattle.translation.specs.Listing.{triple_words, event_words, program_words, part_words}
use Rattle.renaming.specs.Slot.{Slot, spelt, image_slots, images_slots, triple_slots, event_slots, program_slots, part_slots, InOrder, handed, Below, Kept}

-- ---- spelt
spelt-both : (xs ys : List Slot) {a c : List ℕ} → map spelt xs ≡ a → map spelt ys ≡ c → map spelt (xs ++ ys) ≡ a ++ c
spelt-both xs ys h k = map-append spelt xs ys ∙ ap₂ ◌++◌ h k

module _ (row : Term → ℕ) where
  mutual
    unfolding image_slots words spelt

    pub spelt-image : (i : Image) → map spelt (image_slots row i) ≡ words row i
    spelt-image (Image.itself t) = refl
    spelt-image (Image.placeholder x) = refl
    spelt-image (Image.operation g is) = ap (λ l. 2 ∷ g ∷ count_images is ∷ l) (spelt-images is)
    spelt-image (Image.cipher k is) =
        ap (λ l. 3 ∷ count_images is ∷ l) (spelt-both (image_slots row k) (images_slots row is) (spelt-image k) (spelt-images is))
    spelt-image (Image.public i) = ap (λ l. 4 ∷ l) (spelt-image i)
    spelt-image (Image.private i) = ap (λ l. 5 ∷ l) (spelt-image i)

    pub spelt-images : (is : Images) → map spelt (images_slots row is) ≡ words_of row is
    spelt-images Images.nil = refl
    spelt-images (Images.cons i is) = spelt-both (image_slots row i) (images_slots row is) (spelt-image i) (spelt-images is)

  pub spelt-triples : (ps : List Stored) → map spelt (triple_slots row ps) ≡ triple_words row ps
  unfolding triple_slots triple_words spelt
  spelt-triples [] = refl
  spelt-triples (p ∷ ps) = ap (λ l. row p.0 ∷ p.1 ∷ p.2 ∷ l) (spelt-triples ps)

  pub spelt-event : (e : Event) → map spelt (event_slots row e) ≡ event_words row e
  unfolding event_slots event_words spelt
  spelt-event (Event.new r) = refl
  spelt-event (Event.sends s is) = ap (λ l. 2 ∷ s ∷ count_images is ∷ l) (spelt-images is)
  spelt-event (Event.receives s f n) = refl
  spelt-event (Event.checks x i) = ap (λ l. 4 ∷ x ∷ l) (spelt-image i)
  spelt-event (Event.opens x f n k) = ap (λ l. 5 ∷ x ∷ f ∷ n ∷ l) (spelt-image k)
  spelt-event (Event.ends ps) = ap (λ l. 6 ∷ length ps ∷ l) (spelt-triples ps)

  pub spelt-program : (es : List Event) → map spelt (program_slots row es) ≡ program_words row es
  unfolding program_slots program_words
  spelt-program [] = refl
  spelt-program (e ∷ es) = spelt-both (event_slots row e) (program_slots row es) (spelt-event e) (spelt-program es)

  -- as many as words
  pub event-many : (e : Event) → length (event_slots row e) ≡ length (event_words row e)
  event-many e = sym (length-map (event_slots row e) spelt) ∙ ap length (spelt-event e)

  pub program-many : (es : List Event) → length (program_slots row es) ≡ length (program_words row es)
  program-many es = sym (length-map (program_slots row es) spelt) ∙ ap length (spelt-program es)

pub spelt-part : (b : List ℕ) (p : ℕ) → map spelt (part_slots b p) ≡ part_words b p
unfolding part_slots part_words
spelt-part b p = spelt-program (number (table b) (rows b)) (program_of (narration b) p)

pub part-many : (b : List ℕ) (p : ℕ) → length (part_slots b p) ≡ length (part_words b p)
part-many b p = sym (length-map (part_slots b p) spelt) ∙ ap length (spelt-part b p)

-- ---- a program in two parts
pub slots-append : (row : Term → ℕ) (es fs : List Event) → program_slots row (es ++ fs) ≡ program_slots row es ++ program_slots row fs
unfolding program_slots
slots-append row [] fs = refl
slots-append row (e ∷ es) fs =
    ap (λ l. event_slots row e ++ l) (slots-append row es fs) ∙ sym (append_assoc (event_slots row e) (program_slots row es) (program_slots row fs))

pub slots-one : (row : Term → ℕ) (e : Event) → program_slots row (e ∷ []) ≡ event_slots row e
unfolding program_slots
slots-one row e = append-nil (event_slots row e)

-- ---- handed
pub handed-append : (xs ys : List Slot) → handed (xs ++ ys) ≡ handed xs + handed ys
unfolding handed
handed-append [] ys = omega arith
handed-append (Slot.plain w ∷ xs) ys = handed-append xs ys
handed-append (Slot.uses x ∷ xs) ys = handed-append xs ys
handed-append (Slot.runs f n ∷ xs) ys = let e = handed-append xs ys in omega arith

module _ (row : Term → ℕ) where
  -- an image hands out nothing
  mutual
    unfolding image_slots handed

    pub handed-image : (i : Image) → handed (image_slots row i) ≡ 0
    handed-image (Image.itself t) = refl
    handed-image (Image.placeholder x) = refl
    handed-image (Image.operation g is) = handed-images is
    handed-image (Image.cipher k is) =
        let e = handed-append (image_slots row k) (images_slots row is) in let h = handed-image k in let j = handed-images is in omega arith
    handed-image (Image.public i) = handed-image i
    handed-image (Image.private i) = handed-image i

    pub handed-images : (is : Images) → handed (images_slots row is) ≡ 0
    handed-images Images.nil = refl
    handed-images (Images.cons i is) =
        let e = handed-append (image_slots row i) (images_slots row is) in let h = handed-image i in let j = handed-images is in omega arith

  pub handed-triples : (ps : List Stored) → handed (triple_slots row ps) ≡ 0
  unfolding triple_slots handed
  handed-triples [] = refl
  handed-triples (p ∷ ps) = handed-triples ps

-- ---- Kept
pub kept-left : (x : ℕ) (ps qs : List Stored) → Kept x ps → Kept x (ps ++ qs)
kept-left x [] qs k = absurd k
kept-left x (p ∷ ps) qs (inl e) = inl e
kept-left x (p ∷ ps) qs (inr k) = inr (kept-left x ps qs k)

pub kept-right : (x : ℕ) (ps qs : List Stored) → Kept x qs → Kept x (ps ++ qs)
kept-right x [] qs k = k
kept-right x (p ∷ ps) qs k = inr (kept-right x ps qs k)

pub kept_either : (x : ℕ) (ps qs : List Stored) → Kept x (ps ++ qs) → Kept x ps ⊎ Kept x qs
kept_either x [] qs k = inr k
kept_either x (p ∷ ps) qs (inl e) = inl (inl e)
kept_either x (p ∷ ps) qs (inr k) = ⊎_elim (λ m. inl (inr m)) (λ m. inr m) (kept_either x ps qs k)

-- ---- InOrder
-- two parts: the second begins where the first ends
pub order-append : {old : ℕ → Type 0} {first n m : ℕ} {xs ys : List Slot} → InOrder old first n xs → m ≡ n + handed xs
    → InOrder old first m ys → InOrder old first n (xs ++ ys)
unfolding handed
order-append {old} {first} {ys = ys} InOrder.none e k = subst (λ i. InOrder old first i ys) (omega arith) k
order-append (InOrder.plain h) e k = InOrder.plain (order-append h e k)
order-append (InOrder.kept x h) e k = InOrder.kept x (order-append h e k)
order-append (InOrder.since l m h) e k = InOrder.since l m (order-append h e k)
order-append (InOrder.runs h) e k = InOrder.runs (order-append h (omega arith) k)

-- more are old
pub order-more : {old new : ℕ → Type 0} {first n : ℕ} {ss : List Slot} → ((x : ℕ) → old x → new x) → InOrder old first n ss
    → InOrder new first n ss
order-more f InOrder.none = InOrder.none
order-more f (InOrder.plain h) = InOrder.plain (order-more f h)
order-more f (InOrder.kept {x = x} o h) = InOrder.kept (f x o) (order-more f h)
order-more f (InOrder.since l m h) = InOrder.since l m (order-more f h)
order-more f (InOrder.runs h) = InOrder.runs (order-more f h)

-- a run begins at the next placeholder
pub order-run : {old : ℕ → Type 0} {first n f k : ℕ} {ss : List Slot} → InOrder old first n (Slot.runs f k ∷ ss) → f ≡ n
order-run (InOrder.runs h) = refl

-- all that is used or handed out is below what is handed out in the end
pub order_below : {old : ℕ → Type 0} {first n : ℕ} {ss : List Slot} → InOrder old first n ss → ((x : ℕ) → old x → x < n)
    → (m : ℕ) → n + handed ss ≤ m → Below m ss
unfolding handed
order_below InOrder.none f m l = tt
order_below (InOrder.plain h) f m l = order_below h f m l
order_below (InOrder.kept {x = x} o h) f m l = (let z = f x o in omega arith, order_below h f m l)
order_below (InOrder.since j k h) f m l = (omega arith, order_below h f m l)
order_below (InOrder.runs {n} {k} h) f m l = (omega arith, order_below h (λ x o. let z = f x o in omega arith) m (omega arith))
