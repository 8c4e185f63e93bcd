-- Images on the way are images in the dictionary afterwards, and as short. Assumes nothing.
use Rattle.std.specs.Prelude.{ℕ, ◌≤◌, Bool, true, false, ◌≡◌, refl, length}
use Rattle.std.proofs.Common.{true≢false, sym, ap, ap₂, ◌∙◌, subst}
use Rattle.words.specs.Choice.{pick}
use Rattle.words.specs.Choice.Laws.{pick_true, pick-false}
use Rattle.terms.specs.Term.{Term, Terms, size, sizes}
use Rattle.terms.specs.Image.{Image, Images, words, words_of}
use Rattle.translation.specs.Dictionary.{Held, Dictionary, is_held, enter, buildable, all_buildable, image_or, image, images}
use Rattle.translation.specs.Dictionary.Laws.{enter-same, enter-ind, or-second, and_both, both-and, image-short, images-short}
use Rattle.translation.specs.Build.{Built, built_or, build, build_all}
use Rattle.translation.specs.Build.Laws.{built-or}
use Rattle.translation.specs.Along.{NoAtom, Gains}

-- ---- Gains
gains-none : (δ : Dictionary) → Gains δ δ
gains-none δ = record { others = λ u p. refl; atoms = λ r h. refl }

gains-then : {δ ε ζ : Dictionary} → Gains δ ε → Gains ε ζ → Gains δ ζ
gains-then g h = record { others = λ u p. h.others u p ∙ g.others u p; atoms = λ r k. h.atoms r (ap is_held (g.atoms r k) ∙ k) ∙ g.atoms r k }

gains-one : (s : ℕ) (r : ℕ) (δ : Dictionary) → is_held (δ (Term.atom r)) ≡ false → Gains δ (enter δ (Term.atom r) (Held.made s))
gains-one s r δ e =
    record {
      others = λ u p. enter-ind (λ x. x ≡ δ u) δ (Term.atom r) (Held.made s) u (λ q. absurd (subst NoAtom (sym q) p)) (λ q. refl);
      atoms = λ q h. enter-ind (λ x. x ≡ δ (Term.atom q)) δ (Term.atom r) (Held.made s) (Term.atom q)
          (λ p. absurd (true≢false (sym h ∙ ap (λ t. is_held (δ t)) (sym p) ∙ e))) (λ p. refl);
    }

or-gains : (t : Term) (δ : Dictionary) (b : Built) → (δ t ≡ Held.free → Gains δ b.dictionary) → Gains δ (built_or (δ t) t δ b).dictionary
or-gains t δ b g = built-or (λ c. Gains δ c.dictionary) (δ t) t δ b (λ i h j. gains-none δ) g

mutual
  unfolding build

  pub build-gains : (s : ℕ) (t : Term) (δ : Dictionary) → Gains δ (build s t δ).dictionary
  build-gains s (Term.atom r) δ = or-gains (Term.atom r) δ _ (λ e. gains-one s r δ (ap is_held e))
  build-gains s (Term.operation g ts) δ = or-gains (Term.operation g ts) δ _ (λ e. build_all-gains s ts δ)
  build-gains s (Term.cipher k ts) δ = or-gains (Term.cipher k ts) δ _ (λ e. gains-then (build-gains s k δ) (build_all-gains s ts (build s k δ).dictionary))
  build-gains s (Term.public t) δ = or-gains (Term.public t) δ _ (λ e. build-gains s t δ)
  build-gains s (Term.private t) δ = or-gains (Term.private t) δ _ (λ e. build-gains s t δ)

  pub build_all-gains : (s : ℕ) (ts : Terms) (δ : Dictionary) → Gains δ (build_all s ts δ).dictionary
  build_all-gains s Terms.nil δ = gains-none δ
  build_all-gains s (Terms.cons t ts) δ = gains-then (build-gains s t δ) (build_all-gains s ts (build s t δ).dictionary)

-- ---- what is buildable stays so, and its image too
or-more : (a x y : Bool) → (x ≡ true → y ≡ true) → pick a true x ≡ true → pick a true y ≡ true
unfolding pick
or-more true x y f h = refl
or-more false x y f h = f h

or-rest : (a x : Bool) → a ≡ false → pick a true x ≡ true → x ≡ true
or-rest a x e h = sym (pick-false a true x e) ∙ h

image-or : (x : Held) (t : Term) (i j : Image) → (is_held x ≡ false → i ≡ j) → image_or x t i ≡ image_or x t j
unfolding image_or
image-or Held.free t i j f = f refl
image-or Held.given t i j f = refl
image-or (Held.made s) t i j f = refl
image-or (Held.stored s x) t i j f = refl

module _ (δ ε : Dictionary) (g : Gains δ ε) where
  -- a term that is no atom is held as before
  as_before : (t : Term) (x y : Bool) → NoAtom t → (x ≡ true → y ≡ true) → pick (is_held (δ t)) true x ≡ true
      → pick (is_held (ε t)) true y ≡ true
  as_before t x y p f h = ap (λ z. pick (is_held z) true y) (g.others t p) ∙ or-more (is_held (δ t)) x y f h

  as-held : (t : Term) (i j : Image) → NoAtom t → (is_held (δ t) ≡ false → i ≡ j) → image_or (ε t) t i ≡ image_or (δ t) t j
  as-held t i j p f = ap (λ z. image_or z t i) (g.others t p) ∙ image-or (δ t) t i j f

  mutual
    unfolding buildable

    buildable-gains : (t : Term) → buildable δ t ≡ true → buildable ε t ≡ true
    buildable-gains (Term.atom r) h = ap is_held (g.atoms r h) ∙ h
    buildable-gains (Term.operation f ts) h = as_before (Term.operation f ts) _ _ tt (λ x. all_buildable-gains ts x) h
    buildable-gains (Term.cipher k ts) h =
        as_before (Term.cipher k ts) _ _ tt (λ x. let z = and_both (buildable δ k) (all_buildable δ ts) x in
        both-and (buildable ε k) (all_buildable ε ts) (buildable-gains k z.0) (all_buildable-gains ts z.1)) h
    buildable-gains (Term.public t) h = as_before (Term.public t) _ _ tt (λ x. buildable-gains t x) h
    buildable-gains (Term.private t) h = as_before (Term.private t) _ _ tt (λ x. buildable-gains t x) h

    all_buildable-gains : (ts : Terms) → all_buildable δ ts ≡ true → all_buildable ε ts ≡ true
    all_buildable-gains Terms.nil h = refl
    all_buildable-gains (Terms.cons t ts) h = let z =
        and_both (buildable δ t) (all_buildable δ ts) h in both-and (buildable ε t) (all_buildable ε ts) (buildable-gains t z.0)
        (all_buildable-gains ts z.1)

  mutual
    unfolding buildable image

    pub image-gains : (t : Term) → buildable δ t ≡ true → image ε t ≡ image δ t
    image-gains (Term.atom r) h = ap (λ z. image_or z (Term.atom r) (Image.itself (Term.atom r))) (g.atoms r h)
    image-gains (Term.operation f ts) h =
        as-held (Term.operation f ts) _ _ tt (λ e. ap (Image.operation f) (images-gains ts (or-rest (is_held (δ (Term.operation f ts))) _ e h)))
    image-gains (Term.cipher k ts) h =
        as-held (Term.cipher k ts) _ _ tt
        (λ e. let z = and_both (buildable δ k) (all_buildable δ ts) (or-rest (is_held (δ (Term.cipher k ts))) _ e h) in
        ap₂ Image.cipher (image-gains k z.0) (images-gains ts z.1))
    image-gains (Term.public t) h = as-held (Term.public t) _ _ tt (λ e. ap Image.public (image-gains t (or-rest (is_held (δ (Term.public t))) _ e h)))
    image-gains (Term.private t) h = as-held (Term.private t) _ _ tt (λ e. ap Image.private (image-gains t (or-rest (is_held (δ (Term.private t))) _ e h)))

    pub images-gains : (ts : Terms) → all_buildable δ ts ≡ true → images ε ts ≡ images δ ts
    images-gains Terms.nil h = refl
    images-gains (Terms.cons t ts) h = let z =
        and_both (buildable δ t) (all_buildable δ ts) h in ap₂ Images.cons (image-gains t z.0) (images-gains ts z.1)

-- ---- what was built is buildable
abbrev Can : Term → Built → Type 0
Can t c = buildable c.dictionary t ≡ true

mutual
  unfolding build buildable

  build-buildable : (s : ℕ) (t : Term) (δ : Dictionary) → Can t (build s t δ)
  build-buildable s (Term.atom r) δ =
      built-or (Can (Term.atom r)) (δ (Term.atom r)) (Term.atom r) δ _ (λ i h j. h) (λ e. ap is_held (enter-same δ (Term.atom r) (Held.made s)))
  build-buildable s (Term.operation g ts) δ =
      built-or (Can (Term.operation g ts)) (δ (Term.operation g ts)) (Term.operation g ts) δ _ (λ i h j. pick_true _ _ _ h)
      (λ e. or-second _ _ (build_all-buildable s ts δ))
  build-buildable s (Term.cipher k ts) δ =
      built-or (Can (Term.cipher k ts)) (δ (Term.cipher k ts)) (Term.cipher k ts) δ _ (λ i h j. pick_true _ _ _ h)
      (λ e. or-second _ _ (both-and _ _ (buildable-gains _ _ (build_all-gains s ts (build s k δ).dictionary) k (build-buildable s k δ))
      (build_all-buildable s ts (build s k δ).dictionary)))
  build-buildable s (Term.public t) δ =
      built-or (Can (Term.public t)) (δ (Term.public t)) (Term.public t) δ _ (λ i h j. pick_true _ _ _ h) (λ e. or-second _ _ (build-buildable s t δ))
  build-buildable s (Term.private t) δ =
      built-or (Can (Term.private t)) (δ (Term.private t)) (Term.private t) δ _ (λ i h j. pick_true _ _ _ h) (λ e. or-second _ _ (build-buildable s t δ))

  pub build_all-buildable : (s : ℕ) (ts : Terms) (δ : Dictionary) → all_buildable (build_all s ts δ).dictionary ts ≡ true
  build_all-buildable s Terms.nil δ = refl
  build_all-buildable s (Terms.cons t ts) δ =
      both-and _ _ (buildable-gains _ _ (build_all-gains s ts (build s t δ).dictionary) t (build-buildable s t δ))
      (build_all-buildable s ts (build s t δ).dictionary)

-- ---- the image on the way is the image afterwards
free-image : (x : Held) (t : Term) (i j : Image) → x ≡ Held.free → j ≡ i → j ≡ image_or x t i
unfolding image_or
free-image x t i j e f = rw e f

made-image : (s : ℕ) (x : Held) (t : Term) (i : Image) → x ≡ Held.made s → Image.itself t ≡ image_or x t i
unfolding image_or
made-image s x t i e = rw e

abbrev Shows : Term → Built → Type 0
Shows t c = c.image ≡ image c.dictionary t

mutual
  unfolding build image

  pub build-image : (s : ℕ) (t : Term) (δ : Dictionary) → Shows t (build s t δ)
  build-image s (Term.atom r) δ =
      built-or (Shows (Term.atom r)) (δ (Term.atom r)) (Term.atom r) δ _ (λ i h j. sym (j _))
      (λ e. made-image s _ _ _ (enter-same δ (Term.atom r) (Held.made s)))
  build-image s (Term.operation g ts) δ =
      built-or (Shows (Term.operation g ts)) (δ (Term.operation g ts)) (Term.operation g ts) δ _ (λ i h j. sym (j _))
      (λ e. free-image _ _ _ _ ((build_all-gains s ts δ).others (Term.operation g ts) tt ∙ e) (ap (Image.operation g) (build_all-images s ts δ)))
  build-image s (Term.cipher k ts) δ =
      let ε = (build s k δ).dictionary in
      built-or (Shows (Term.cipher k ts)) (δ (Term.cipher k ts)) (Term.cipher k ts) δ _ (λ i h j. sym (j _))
      (λ e. free-image _ _ _ _ ((gains-then (build-gains s k δ) (build_all-gains s ts ε)).others (Term.cipher k ts) tt ∙ e)
      (ap₂ Image.cipher (build-image s k δ ∙ sym (image-gains ε _ (build_all-gains s ts ε) k (build-buildable s k δ))) (build_all-images s ts ε)))
  build-image s (Term.public t) δ =
      built-or (Shows (Term.public t)) (δ (Term.public t)) (Term.public t) δ _ (λ i h j. sym (j _))
      (λ e. free-image _ _ _ _ ((build-gains s t δ).others (Term.public t) tt ∙ e) (ap Image.public (build-image s t δ)))
  build-image s (Term.private t) δ =
      built-or (Shows (Term.private t)) (δ (Term.private t)) (Term.private t) δ _ (λ i h j. sym (j _))
      (λ e. free-image _ _ _ _ ((build-gains s t δ).others (Term.private t) tt ∙ e) (ap Image.private (build-image s t δ)))

  pub build_all-images : (s : ℕ) (ts : Terms) (δ : Dictionary) → (build_all s ts δ).images ≡ images (build_all s ts δ).dictionary ts
  build_all-images s Terms.nil δ = refl
  build_all-images s (Terms.cons t ts) δ =
      let ε = (build s t δ).dictionary in
      ap₂ Images.cons (build-image s t δ ∙ sym (image-gains ε _ (build_all-gains s ts ε) t (build-buildable s t δ))) (build_all-images s ts ε)

-- ---- so the image that building gives is never longer than its row's size
module _ (row : Term → ℕ) where
  pub build-short : (s : ℕ) (t : Term) (δ : Dictionary) → length (words row (build s t δ).image) ≤ size t
  build-short s t δ = rw (build-image s t δ) (image-short row (build s t δ).dictionary t)

  pub build_all-short : (s : ℕ) (ts : Terms) (δ : Dictionary) → length (words_of row (build_all s ts δ).images) ≤ sizes ts
  build_all-short s ts δ = rw (build_all-images s ts δ) (images-short row (build_all s ts δ).dictionary ts)
