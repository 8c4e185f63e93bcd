-- Laws of rows: buildable and the image's words, by the row's kind. Assumes nothing.
use Prim.Native.Nat.{ℕ, zero, suc, ◌+◌, ◌-◌, ◌/◌, ◌≤◌, ◌<◌}
use Rattle.std.specs.Prelude.{Bool, true, false, ◌≡◌, get_or, eqb}
use mathlib.Core.List.{List, [], ◌∷◌, ◌++◌, map, map-map, append-nil}
use Rattle.std.proofs.Common.{⊎_elim, ◌∙◌}
use Rattle.std.proofs.Math.Path.{refl, ap}
use native.Mathlib.Omega.{arith}
use Rattle.std.proofs.Math.Decide.{ℕ_discrete}
use Rattle.std.proofs.Math.ListN.{length}
use Rattle.std.proofs.lemmas.List.{length-map}
use borrow.Author.Tests.{eq-eqb, ne_eqb}
use Rattle.words.specs.Choice.{pick}
use Rattle.words.specs.Choice.Laws.{pick_true, pick-false}
use Rattle.words.specs.Run.Laws.{run_length}
use Rattle.terms.specs.Term.{Term, gathered}
use Rattle.terms.specs.Image.{Image, words, words_of, count_images}
use Rattle.terms.specs.Kind.{last_kind, Shape}
use Rattle.book.specs.declared.Kind.{Kind}
use Rattle.book.specs.Kinds.{OfKind}
use Rattle.terms.specs.Table.{form, term}
use Rattle.book.specs.Layout.{table, rows, begins, kind, tag, row_first, row_count, parts, list_at}
use Rattle.book.specs.Valid.{Valid}
use Rattle.book.specs.Valid.Laws.{row-form, row-shape}
use Rattle.translation.specs.Dictionary.{Held, Dictionary, is_held, buildable, all_buildable, image_or, image, images}
use Rattle.book.specs.Span.{entry}
use Rattle.book.specs.Span.Laws.{list-none, list-more}
use Rattle.holding.specs.Entry.{held_of}
use Rattle.holding.specs.Entry.Laws.{held_low, held_high}
use Rattle.holding.specs.View.{row_of, view}
use Rattle.holding.specs.View.Laws.{view-row, row-of}
use Rattle.holding.specs.AtRow.{can_at, all_true, image_at, concat, images_at, head_of, head_words, entry_words}

-- ---- buildable, of a form
all-buildable : (δ : Dictionary) (ts : List Term) → all_buildable δ (gathered ts) ≡ all_true (map (buildable δ) ts)
unfolding gathered buildable all_true
all-buildable δ [] = refl
all-buildable δ (t ∷ ts) = ap (λ x. pick (buildable δ t) x false) (all-buildable δ ts)

same-pick : (x : Bool) → x ≡ pick x true false
unfolding pick
same-pick true = refl
same-pick false = refl

can-form : (δ : Dictionary) (r k g : ℕ) (ts : List Term) → k ≤ 4 → Shape k (length ts)
    → buildable δ (form r k g (gathered ts)) ≡ pick (is_held (δ (form r k g (gathered ts)))) true (pick (eqb k 0) false (all_true (map (buildable δ) ts)))
unfolding form buildable all_true gathered pick
can-form δ r zero g ts l s = same-pick _
can-form δ r (suc zero) g ts l s = ap (pick (is_held (δ (Term.operation g (gathered ts)))) true) (all-buildable δ ts)
can-form δ r (suc (suc zero)) g [] l s = absurd (omega arith)
can-form δ r (suc (suc zero)) g (t ∷ ts) l s =
    ap (λ x. pick (is_held (δ (Term.cipher t (gathered ts)))) true (pick (buildable δ t) x false)) (all-buildable δ ts)
can-form δ r (suc (suc (suc zero))) g [] l s = absurd (omega arith)
can-form δ r (suc (suc (suc zero))) g (t ∷ []) l s = ap (pick (is_held (δ (Term.public t))) true) (same-pick _)
can-form δ r (suc (suc (suc zero))) g (t ∷ u ∷ ts) l s = absurd (omega arith)
can-form δ r (suc (suc (suc (suc zero)))) g [] l s = absurd (omega arith)
can-form δ r (suc (suc (suc (suc zero)))) g (t ∷ []) l s = ap (pick (is_held (δ (Term.private t))) true) (same-pick _)
can-form δ r (suc (suc (suc (suc zero)))) g (t ∷ u ∷ ts) l s = absurd (omega arith)
can-form δ r (suc (suc (suc (suc (suc k))))) g ts l s = absurd (omega arith)

-- ---- images, of a form
pub count-all : (δ : Dictionary) (ts : List Term) → count_images (images δ (gathered ts)) ≡ length ts
unfolding gathered image count_images
count-all δ [] = refl
count-all δ (t ∷ ts) = ap suc (count-all δ ts)

module _ (row : Term → ℕ) (δ : Dictionary) where
  abbrev shown : Held → ℕ → List ℕ → List ℕ
  shown h n ws = pick (is_held h) (entry_words n h) ws

  words-held : (h : Held) (t : Term) (i : Image) (ws : List ℕ) → words row i ≡ ws → words row (image_or h t i) ≡ shown h (row t) ws
  unfolding words image_or entry_words pick
  words-held Held.free t i ws e = e
  words-held Held.given t i ws e = refl
  words-held (Held.made s) t i ws e = refl
  words-held (Held.stored s x) t i ws e = refl

  pub words-all : (ts : List Term) → words_of row (images δ (gathered ts)) ≡ concat (map (λ t. words row (image δ t)) ts)
  unfolding gathered image words concat
  words-all [] = refl
  words-all (t ∷ ts) = ap (λ l. words row (image δ t) ++ l) (words-all ts)

  image-form : (r k g : ℕ) (ts : List Term) → k ≤ 4 → Shape k (length ts)
      → words row (image δ (form r k g (gathered ts)))
      ≡ shown (δ (form r k g (gathered ts))) (row (form r k g (gathered ts)))
      (head_of (row (form r k g (gathered ts))) k g (length ts) ++ concat (map (λ t. words row (image δ t)) ts))
  unfolding form image words head_of concat gathered
  image-form r zero g [] l s = words-held (δ (Term.atom r)) _ _ _ refl
  image-form r zero g (t ∷ ts) l s = absurd (omega arith)
  image-form r (suc zero) g ts l s = words-held (δ (Term.operation g (gathered ts))) _ _ _ (rw (count-all δ ts, words-all ts))
  image-form r (suc (suc zero)) g [] l s = absurd (omega arith)
  image-form r (suc (suc zero)) g (t ∷ ts) l s =
      let z : suc (length ts) - 1 ≡ length ts = omega arith in
      words-held (δ (Term.cipher t (gathered ts))) _ _ _ (rw (count-all δ ts, words-all ts, z))
  image-form r (suc (suc (suc zero))) g [] l s = absurd (omega arith)
  image-form r (suc (suc (suc zero))) g (t ∷ []) l s = words-held (δ (Term.public t)) _ _ _ (rw append-nil)
  image-form r (suc (suc (suc zero))) g (t ∷ u ∷ ts) l s = absurd (omega arith)
  image-form r (suc (suc (suc (suc zero)))) g [] l s = absurd (omega arith)
  image-form r (suc (suc (suc (suc zero)))) g (t ∷ []) l s = words-held (δ (Term.private t)) _ _ _ (rw append-nil)
  image-form r (suc (suc (suc (suc zero)))) g (t ∷ u ∷ ts) l s = absurd (omega arith)
  image-form r (suc (suc (suc (suc (suc k))))) g ts l s = absurd (omega arith)

-- ---- a row of a valid book
module _ (b e : List ℕ) (v : Valid b) (r : ℕ) (h : r < rows b) where
  can-row : can_at b e r ≡ pick (is_held (held_of (get_or e r 0))) true (pick (eqb (kind b r) 0) false (all_true (map (can_at b e) (parts b r))))
  can-row =
      ap (buildable (view b e)) (row-form b v r h) ∙ can-form (view b e) r _ _ _ (v.rows_keep r h).kinded (row-shape b v r h)
      ∙ rw (← row-form b v r h, view-row b v e r h, map-map (buildable (view b e)) (term (table b)) (parts b r))

  pub can-held : is_held (held_of (get_or e r 0)) ≡ true → can_at b e r ≡ true
  unfolding pick
  can-held n = rw (can-row, n)

  pub can-atom : is_held (held_of (get_or e r 0)) ≡ false → kind b r ≡ 0 → can_at b e r ≡ false
  unfolding pick
  can-atom n k = rw (can-row, n, eq-eqb (kind b r) 0 k)

  pub can-parts : is_held (held_of (get_or e r 0)) ≡ false → (kind b r ≡ 0 → ⊥) → can_at b e r ≡ all_true (map (can_at b e) (parts b r))
  unfolding pick
  can-parts n k = rw (can-row, n, ne_eqb (kind b r) 0 k)

  image-row : image_at b e r ≡ shown (row_of b) (view b e) (held_of (get_or e r 0)) r (head_words b r ++ concat (map (image_at b e) (parts b r)))
  image-row =
      ap (λ t. words (row_of b) (image (view b e) t)) (row-form b v r h)
      ∙ image-form (row_of b) (view b e) r _ _ _ (v.rows_keep r h).kinded (row-shape b v r h)
      ∙ rw (
        ← row-form b v r h,
        view-row b v e r h,
        row-of b v r (term (table b) r) h refl,
        length-map (parts b r) (term (table b)),
        run_length b (begins b 3 + row_first b r) (row_count b r),
        map-map (λ t. words (row_of b) (image (view b e) t)) (term (table b)) (parts b r),
      )

  pub image-held : is_held (held_of (get_or e r 0)) ≡ true → image_at b e r ≡ entry_words r (held_of (get_or e r 0))
  image-held n = image-row ∙ pick_true _ _ _ n

  pub image-free : is_held (held_of (get_or e r 0)) ≡ false → image_at b e r ≡ head_words b r ++ concat (map (image_at b e) (parts b r))
  image-free n = image-row ∙ pick-false _ _ _ n

-- ---- lists of rows, one after another
module _ (g : ℕ → Bool) (b : List ℕ) (f n : ℕ) where
  pub all-on : 0 < n → g (entry b f) ≡ true → all_true (map g (list_at b f n)) ≡ all_true (map g (list_at b (f + 1) (n - 1)))
  unfolding all_true pick
  all-on h e = rw (list-more b f n h, e)

  pub all-off : 0 < n → g (entry b f) ≡ false → all_true (map g (list_at b f n)) ≡ false
  unfolding all_true pick
  all-off h e = rw (list-more b f n h, e)

  pub all_done : n ≤ 0 → all_true (map g (list_at b f n)) ≡ true
  unfolding all_true
  all_done h = rw (list-none b f n h)

pub images-none : (b e : List ℕ) (f n : ℕ) → n ≡ 0 → images_at b e f n ≡ []
unfolding images_at concat
images-none b e f n z = rw (list-none b f n (omega arith))

pub images-more : (b e : List ℕ) (f n : ℕ) → 0 < n → images_at b e f n ≡ image_at b e (entry b f) ++ images_at b e (f + 1) (n - 1)
unfolding images_at concat
images-more b e f n h = rw (list-more b f n h)

-- ---- the words in the code's own terms
module _ (b : List ℕ) (r k : ℕ) (e : k ≡ kind b r) where
  module _ {a : Kind} (o : OfKind k a) where
    pub head-operation : {t n : ℕ} → k ≡ 1 → t ≡ tag b r → n ≡ row_count b r → head_words b r ≡ a.code ∷ t ∷ n ∷ []
    unfolding head_of
    head-operation z p q = rw (o.code, ← e, z, p, q)

    pub head-cipher : {n m : ℕ} → k ≡ 2 → n ≡ row_count b r → m ≡ n - 1 → head_words b r ≡ a.code ∷ m ∷ []
    unfolding head_of
    head-cipher z q w = rw (o.code, ← e, z, w, q)

    pub head-half : 3 ≤ k → k ≤ last_kind → head_words b r ≡ a.code ∷ []
    unfolding head_of
    head-half l h = elim (ℕ_discrete k 3) [ yes z ↦ rw (o.code, ← e, z) | no n ↦ (let z : k ≡ 4 = omega arith in rw (o.code, ← e, z)) ]

    pub head-atom : k ≡ 0 → head_words b r ≡ a.code ∷ r ∷ []
    unfolding head_of
    head-atom z = rw (o.code, ← e, z)

pub entry-itself : (r x : ℕ) → is_held (held_of x) ≡ true → x < 128 → entry_words r (held_of x) ≡ 0 ∷ r ∷ []
unfolding entry_words
entry-itself r x h l = ⊎_elim (λ e. rw e) (λ y. ap (entry_words r) y.1) (held_low x h l)

pub entry-placeholder : (r x : ℕ) → 128 ≤ x → entry_words r (held_of x) ≡ 1 ∷ ((x - 128) / 64) ∷ []
unfolding entry_words
entry-placeholder r x l = rw (held_high x l)
