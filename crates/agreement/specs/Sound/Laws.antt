-- Laws of sound dictionaries: a buildable term's image, and an image that was built, stand for the term. Assumes nothing.
use Rattle.std.specs.Prelude.{ℕ, zero, suc, true, List, [], ◌∷◌, ◌++◌, ◌≡◌, length}
use Rattle.std.proofs.Common.{true≢false, sym, ap, ◌∙◌, subst}
use Rattle.std.proofs.Math.Option.{some, some-ne-none}
use Rattle.std.proofs.Math.Path.{refl}
use Rattle.std.proofs.Math.ListN.{get_elem?}
use Rattle.words.specs.Choice.{then}
use Rattle.words.specs.Choice.Laws.{pick_true, choose-ind, choose_yes}
use Rattle.terms.specs.Term.{Term, Terms, same}
use Rattle.terms.specs.Image.{Image}
use Rattle.translation.specs.Dictionary.{Held, Dictionary, is_held, enter, start, buildable, all_buildable, Derives, DerivesAll, nobody, Buildable, image_or, image, images}
use Rattle.translation.specs.Dictionary.Laws.{enter-ind, buildable-exact, all_buildable-exact}
use Rattle.translation.specs.Build.{Built, built_or, build, build_all}
use Rattle.translation.specs.Build.Laws.{built-or}
use Rattle.translation.specs.Along.Laws.{build_all-buildable, build_all-images}
use Rattle.agreement.specs.Sight.{holds, value, value_all}
use Rattle.agreement.specs.Sound.{sight_of, Right, Sound}

-- ---- lists of terms by their places
pub at-append : (l ns : List Term) (x : ℕ) {t : Term} → get_elem? ns x ≡ some t → get_elem? (ns ++ l) x ≡ some t
at-append l [] x {t} e = absurd (some-ne-none t (sym e))
at-append l (n ∷ ns) zero e = e
at-append l (n ∷ ns) (suc x) e = at-append l ns x e

pub at-seam : (ns : List Term) (t : Term) (l : List Term) → get_elem? (ns ++ t ∷ l) (length ns) ≡ some t
at-seam [] t l = refl
at-seam (n ∷ ns) t l = at-seam ns t l

-- ---- holds
holds-head : (t : Term) (hs : List Term) → holds (t ∷ hs) t ≡ true
unfolding holds
holds-head t hs = choose_yes (same t t) true (holds hs t) refl

holds_more : (u : Term) (hs : List Term) (t : Term) → holds hs t ≡ true → holds (u ∷ hs) t ≡ true
unfolding holds
holds_more u hs t h = choose-ind (λ x. x ≡ true) (same u t) true (holds hs t) (λ e. refl) (λ n. h)

-- ---- Right and Sound
right-append : (l : List Term) {hs ns : List Term} {t : Term} {h : Held} → Right hs ns t h → Right hs (ns ++ l) t h
right-append l Right.free = Right.free
right-append l (Right.given e) = Right.given e
right-append l (Right.made e) = Right.made e
right-append l {ns = ns} (Right.stored {x = x} e) = Right.stored (at-append l ns x e)

right-more : (u : Term) {hs ns : List Term} {t : Term} {h : Held} → Right hs ns t h → Right (u ∷ hs) ns t h
right-more u Right.free = Right.free
right-more u {hs} {t = t} (Right.given e) = Right.given (holds_more u hs t e)
right-more u {hs} {t = t} (Right.made e) = Right.made (holds_more u hs t e)
right-more u (Right.stored e) = Right.stored e

pub sound-append : (l : List Term) {δ : Dictionary} {hs ns : List Term} → Sound δ hs ns → Sound δ hs (ns ++ l)
sound-append l s t = right-append l (s t)

sound_more : (u : Term) {δ : Dictionary} {hs ns : List Term} → Sound δ hs ns → Sound δ (u ∷ hs) ns
sound_more u s t = right-more u (s t)

pub sound-enter : (δ : Dictionary) (t : Term) (h : Held) {hs ns : List Term} → Right hs ns t h → Sound δ hs ns → Sound (enter δ t h) hs ns
sound-enter δ t h {hs} {ns} r s u = enter-ind (Right hs ns u) δ t h u (λ e. subst (λ v. Right hs ns v h) e r) (λ n. s u)

pub start-sound : (known : List Term) → Sound (start known) known []
unfolding start
start-sound [] = λ t. Right.free
start-sound (t ∷ ts) = sound-enter (start ts) t Held.given (Right.given (holds-head t ts)) (sound_more t (start-sound ts))

-- ---- image
module _ (hs ns : List Term) where
  holds-value : (t : Term) → holds hs t ≡ true → value (sight_of hs ns) (Image.itself t) ≡ some t
  unfolding value sight_of
  holds-value t e = pick_true _ _ _ e

  or-value : {h : Held} {t : Term} (i : Image) → Right hs ns t h → (h ≡ Held.free → value (sight_of hs ns) i ≡ some t)
      → value (sight_of hs ns) (image_or h t i) ≡ some t
  unfolding image_or value sight_of
  or-value i Right.free f = f refl
  or-value {t = t} i (Right.given e) f = holds-value t e
  or-value {t = t} i (Right.made e) f = holds-value t e
  or-value i (Right.stored e) f = e

  module _ (δ : Dictionary) (s : Sound δ hs ns) where
    held-free : {h : Held} {C : Type 0} → is_held h ≡ true → h ≡ Held.free → C
    held-free {h} p q = absurd (true≢false (sym p ∙ ap is_held q))

    held-value : (t : Term) → is_held (δ t) ≡ true → value (sight_of hs ns) (image δ t) ≡ some t
    unfolding image
    held-value (Term.atom r) h = or-value _ (s _) (λ e. held-free h e)
    held-value (Term.operation g ts) h = or-value _ (s _) (λ e. held-free h e)
    held-value (Term.cipher k ts) h = or-value _ (s _) (λ e. held-free h e)
    held-value (Term.public t) h = or-value _ (s _) (λ e. held-free h e)
    held-value (Term.private t) h = or-value _ (s _) (λ e. held-free h e)

    mutual
      unfolding image value then

      derives-value : {t : Term} → Buildable δ t → value (sight_of hs ns) (image δ t) ≡ some t
      derives-value {t} (Derives.held h) = held-value t h
      derives-value (Derives.make f) = absurd f
      derives-value (Derives.operation d) = or-value _ (s _) (λ e. rw (derives_all-value d))
      derives-value (Derives.cipher k d) = or-value _ (s _) (λ e. rw (derives-value k, derives_all-value d))
      derives-value (Derives.public d) = or-value _ (s _) (λ e. rw (derives-value d))
      derives-value (Derives.private d) = or-value _ (s _) (λ e. rw (derives-value d))

      derives_all-value : {ts : Terms} → DerivesAll nobody δ ts → value_all (sight_of hs ns) (images δ ts) ≡ some ts
      derives_all-value DerivesAll.nil = refl
      derives_all-value (DerivesAll.cons d e) = rw (derives-value d, derives_all-value e)

    pub image-value : (t : Term) → buildable δ t ≡ true → value (sight_of hs ns) (image δ t) ≡ some t
    image-value t e = derives-value ((buildable-exact δ t).0 e)

    images-value : (ts : Terms) → all_buildable δ ts ≡ true → value_all (sight_of hs ns) (images δ ts) ≡ some ts
    images-value ts e = derives_all-value ((all_buildable-exact δ ts).0 e)

-- ---- build
-- the atoms made, added to what is held
unfoldable pub plus : List ℕ → List Term → List Term
plus [] hs = hs
plus (r ∷ rs) hs = plus rs (Term.atom r ∷ hs)

plus-append : (a b : List ℕ) (hs : List Term) → plus (a ++ b) hs ≡ plus b (plus a hs)
unfolding plus
plus-append [] b hs = refl
plus-append (r ∷ a) b hs = plus-append a b (Term.atom r ∷ hs)

module _ (ns : List Term) where
  -- whoever holds what the dictionary says afterwards finds the terms behind the images
  pub build_all-value : (i : ℕ) (ts : Terms) (δ : Dictionary) (hs : List Term) → Sound (build_all i ts δ).dictionary hs ns
      → value_all (sight_of hs ns) (build_all i ts δ).images ≡ some ts
  build_all-value i ts δ hs s = rw (build_all-images i ts δ) (images-value hs ns (build_all i ts δ).dictionary s ts (build_all-buildable i ts δ))

  -- and with the atoms made the party holds what the dictionary says afterwards
  abbrev BuiltSound : Dictionary → Built → Type 0
  BuiltSound δ b = (hs : List Term) → Sound δ hs ns → Sound b.dictionary (plus b.made hs) ns

  or_sound : (h : Held) (t : Term) (δ : Dictionary) (b : Built) → BuiltSound δ b → BuiltSound δ (built_or h t δ b)
  unfolding plus
  or_sound h t δ b f = built-or (BuiltSound δ) h t δ b (λ i k j hs s. s) (λ e. f)

  mutual
    unfolding build plus

    build-sound : (i : ℕ) (t : Term) (δ : Dictionary) → BuiltSound δ (build i t δ)
    build-sound i (Term.atom r) δ =
        or_sound _ _ δ _ (λ hs s. sound-enter δ (Term.atom r) (Held.made i) (Right.made (holds-head (Term.atom r) hs)) (sound_more (Term.atom r) s))
    build-sound i (Term.operation g ts) δ = or_sound _ _ δ _ (build_all-sound i ts δ)
    build-sound i (Term.cipher k ts) δ =
        or_sound _ _ δ _ (λ hs s. rw (plus-append (build i k δ).made (build_all i ts (build i k δ).dictionary).made hs)
        (build_all-sound i ts (build i k δ).dictionary _ (build-sound i k δ hs s)))
    build-sound i (Term.public t) δ = or_sound _ _ δ _ (build-sound i t δ)
    build-sound i (Term.private t) δ = or_sound _ _ δ _ (build-sound i t δ)

    pub build_all-sound : (i : ℕ) (ts : Terms) (δ : Dictionary) (hs : List Term) → Sound δ hs ns
        → Sound (build_all i ts δ).dictionary (plus (build_all i ts δ).made hs) ns
    build_all-sound i Terms.nil δ = λ hs s. s
    build_all-sound i (Terms.cons t ts) δ =
        λ hs s. rw (plus-append (build i t δ).made (build_all i ts (build i t δ).dictionary).made hs)
        (build_all-sound i ts (build i t δ).dictionary _ (build-sound i t δ hs s))
