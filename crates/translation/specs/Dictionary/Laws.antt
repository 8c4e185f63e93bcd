-- Laws of dictionaries: buildable ⇔ a derivation exists; an image's words are never more than its term's size. Assumes nothing.
use Rattle.std.specs.Prelude.{ℕ, ◌≤◌, Bool, true, false, ◌↔◌, ◌≡◌, refl, length}
use Rattle.std.proofs.Common.{true≢false, ⊎_elim, sym, ap, ◌∙◌, arith, length-append}
use mathlib.Core.List.Memᴰ
use mathlib.Core.List.{List, [], ◌∷◌, Memᴰ}
use Rattle.words.specs.Choice.{pick}
use Rattle.words.specs.Choice.Laws.{pick_true, pick-false, choose_yes, choose_no, choose-ind}
use Rattle.terms.specs.Term.{Term, Terms, same, size, sizes}
use Rattle.terms.specs.Term.Laws.{size-two}
use Rattle.terms.specs.Image.{Image, words, words_of}
use Rattle.translation.specs.Dictionary.{Held, Dictionary, is_held, enter, start, buildable, all_buildable, Derives, DerivesAll, nobody, Buildable, image_or, image, images}

-- ---- enter
pub enter-same : (δ : Dictionary) (t : Term) (h : Held) → enter δ t h t ≡ h
unfolding enter
enter-same δ t h = choose_yes (same t t) h (δ t) refl

pub enter-other : (δ : Dictionary) (t : Term) (h : Held) (u : Term) → (t ≡ u → ⊥) → enter δ t h u ≡ δ u
unfolding enter
enter-other δ t h u n = choose_no (same t u) h (δ u) n

-- what holds of the entry, and of what was there, holds afterwards
pub enter-ind : (P : Held → Type 0) (δ : Dictionary) (t : Term) (h : Held) (u : Term) → (t ≡ u → P h) → ((t ≡ u → ⊥) → P (δ u))
    → P (enter δ t h u)
unfolding enter
enter-ind P δ t h u f g = choose-ind P (same t u) h (δ u) f g

-- ---- pick as "or" and as "and"
or-either : {C : Type 0} (a b : Bool) → pick a true b ≡ true → (a ≡ true → C) → (b ≡ true → C) → C
or-either true b e f g = f refl
or-either false b e f g = g (sym (pick-false false true b refl) ∙ e)

or-first : (a b : Bool) → a ≡ true → pick a true b ≡ true
or-first a b e = pick_true a true b e

pub or-second : (a b : Bool) → b ≡ true → pick a true b ≡ true
or-second true b e = pick_true true true b refl
or-second false b e = pick-false false true b refl ∙ e

pub and_both : (a b : Bool) → pick a b false ≡ true → (a ≡ true) × (b ≡ true)
and_both true b e = (refl, sym (pick_true true b false refl) ∙ e)
and_both false b e = absurd (true≢false (sym e ∙ pick-false false b false refl))

pub both-and : (a b : Bool) → a ≡ true → b ≡ true → pick a b false ≡ true
both-and a b p q = pick_true a b false p ∙ q

-- ---- buildable ⇔ a derivation exists
module _ (δ : Dictionary) where
  mutual
    unfolding buildable

    buildable-derives : (t : Term) → buildable δ t ≡ true → Buildable δ t
    buildable-derives (Term.atom r) e = Derives.held e
    buildable-derives (Term.operation g ts) e =
        or-either (is_held (δ (Term.operation g ts))) (all_buildable δ ts) e (λ h. Derives.held h) (λ h. Derives.operation (all_buildable-derives ts h))
    buildable-derives (Term.cipher k ts) e =
        or-either (is_held (δ (Term.cipher k ts))) (pick (buildable δ k) (all_buildable δ ts) false) e (λ h. Derives.held h)
        (λ h. let z = and_both (buildable δ k) (all_buildable δ ts) h in Derives.cipher (buildable-derives k z.0) (all_buildable-derives ts z.1))
    buildable-derives (Term.public t) e =
        or-either (is_held (δ (Term.public t))) (buildable δ t) e (λ h. Derives.held h) (λ h. Derives.public (buildable-derives t h))
    buildable-derives (Term.private t) e =
        or-either (is_held (δ (Term.private t))) (buildable δ t) e (λ h. Derives.held h) (λ h. Derives.private (buildable-derives t h))

    all_buildable-derives : (ts : Terms) → all_buildable δ ts ≡ true → DerivesAll nobody δ ts
    all_buildable-derives Terms.nil e = DerivesAll.nil
    all_buildable-derives (Terms.cons t ts) e = let z =
        and_both (buildable δ t) (all_buildable δ ts) e in DerivesAll.cons (buildable-derives t z.0) (all_buildable-derives ts z.1)

  held-buildable : (t : Term) → is_held (δ t) ≡ true → buildable δ t ≡ true
  unfolding buildable
  held-buildable (Term.atom r) h = h
  held-buildable (Term.operation g ts) h = or-first _ _ h
  held-buildable (Term.cipher k ts) h = or-first _ _ h
  held-buildable (Term.public t) h = or-first _ _ h
  held-buildable (Term.private t) h = or-first _ _ h

  mutual
    unfolding buildable

    derives-buildable : {t : Term} → Buildable δ t → buildable δ t ≡ true
    derives-buildable {t} (Derives.held h) = held-buildable t h
    derives-buildable (Derives.make f) = absurd f
    derives-buildable (Derives.operation h) = or-second _ _ (derives-all_buildable h)
    derives-buildable (Derives.cipher k h) = or-second _ _ (both-and _ _ (derives-buildable k) (derives-all_buildable h))
    derives-buildable (Derives.public h) = or-second _ _ (derives-buildable h)
    derives-buildable (Derives.private h) = or-second _ _ (derives-buildable h)

    derives-all_buildable : {ts : Terms} → DerivesAll nobody δ ts → all_buildable δ ts ≡ true
    derives-all_buildable DerivesAll.nil = refl
    derives-all_buildable (DerivesAll.cons h k) = both-and _ _ (derives-buildable h) (derives-all_buildable k)

  pub buildable-exact : (t : Term) → (buildable δ t ≡ true) ↔ Buildable δ t
  buildable-exact t = (buildable-derives t, derives-buildable)

  pub all_buildable-exact : (ts : Terms) → (all_buildable δ ts ≡ true) ↔ DerivesAll nobody δ ts
  all_buildable-exact ts = (all_buildable-derives ts, derives-all_buildable)

-- ---- derivations grow with what is held
abbrev pub Grows : Dictionary → Dictionary → Type 0
Grows δ ε = (u : Term) → is_held (δ u) ≡ true → is_held (ε u) ≡ true

-- nothing is taken out
pub enter-grows : (δ : Dictionary) (t : Term) (h : Held) → is_held h ≡ true → Grows δ (enter δ t h)
enter-grows δ t h e u k = enter-ind (λ x. is_held x ≡ true) δ t h u (λ p. e) (λ p. k)

-- ---- start: what is held at the start is what is known
pub start-exact : (ts : List Term) (t : Term) → (is_held (start ts t) ≡ true) ↔ Memᴰ t ts
unfolding start
start-exact [] t = (λ e. absurd (true≢false (sym e)), λ m. absurd (Memᴰ.not-nil m))
start-exact (k ∷ ts) t =
    let rest = start-exact ts t in (
      enter-ind (λ h. is_held h ≡ true → Memᴰ t (k ∷ ts)) (start ts) k Held.given t (λ e h. Memᴰ.head (sym e))
          (λ n h. Memᴰ.tail (rest.0 h)),
      λ m. ⊎_elim (λ e. ap (λ u. is_held (enter (start ts) k Held.given u)) e ∙ ap is_held (enter-same (start ts) k Held.given))
          (λ n. enter-grows (start ts) k Held.given refl t (rest.1 n)) (Memᴰ.cases_cons m),
    )

module _ (free : ℕ → Type 0) {δ ε : Dictionary} (more : (u : Term) → is_held (δ u) ≡ true → Derives free ε u) where
  mutual
    -- a derivation from what can itself be derived
    pub derives-from : {t : Term} → Derives free δ t → Derives free ε t
    derives-from (Derives.held h) = more _ h
    derives-from (Derives.make f) = Derives.make f
    derives-from (Derives.operation h) = Derives.operation (derives_all-from h)
    derives-from (Derives.cipher k h) = Derives.cipher (derives-from k) (derives_all-from h)
    derives-from (Derives.public h) = Derives.public (derives-from h)
    derives-from (Derives.private h) = Derives.private (derives-from h)

    pub derives_all-from : {ts : Terms} → DerivesAll free δ ts → DerivesAll free ε ts
    derives_all-from DerivesAll.nil = DerivesAll.nil
    derives_all-from (DerivesAll.cons h k) = DerivesAll.cons (derives-from h) (derives_all-from k)

-- ---- image: "An image is never longer than its row's size."
module _ (row : Term → ℕ) (δ : Dictionary) where
  short-or : (h : Held) (t : Term) (i : Image) → length (words row i) ≤ size t → length (words row (image_or h t i)) ≤ size t
  unfolding words image_or
  short-or Held.free t i l = l
  short-or Held.given t i l = size-two t
  short-or (Held.made s) t i l = size-two t
  short-or (Held.stored s x) t i l = size-two t

  mutual
    unfolding image words size

    pub image-short : (t : Term) → length (words row (image δ t)) ≤ size t
    image-short (Term.atom r) = short-or (δ (Term.atom r)) (Term.atom r) _ (omega arith)
    image-short (Term.operation g ts) = short-or (δ (Term.operation g ts)) (Term.operation g ts) _ (let h = images-short ts in omega arith)
    image-short (Term.cipher k ts) =
        short-or (δ (Term.cipher k ts)) (Term.cipher k ts) _
        (let h = images-short ts in let g = image-short k in omega (arith, length-append (words row (image δ k)) (words_of row (images δ ts))))
    image-short (Term.public t) = short-or (δ (Term.public t)) (Term.public t) _ (let h = image-short t in omega arith)
    image-short (Term.private t) = short-or (δ (Term.private t)) (Term.private t) _ (let h = image-short t in omega arith)

    pub images-short : (ts : Terms) → length (words_of row (images δ ts)) ≤ sizes ts
    images-short Terms.nil = omega arith
    images-short (Terms.cons t ts) =
        let h = image-short t in let g = images-short ts in omega (arith, length-append (words row (image δ t)) (words_of row (images δ ts)))
