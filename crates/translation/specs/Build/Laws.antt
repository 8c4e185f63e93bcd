-- Laws of building: what it makes, and that it makes only free atoms exactly where there is a derivation. Assumes nothing.
use Rattle.std.specs.Prelude.{ℕ, ◌*◌, ◌≤◌, true, false, ◌⊎◌, ◌≡◌, refl, length}
use Rattle.std.proofs.Common.{true≢false, inl, inr, ⊎_elim, sym, ap, ◌∙◌, subst, arith, length-append}
use mathlib.Core.List.Memᴰ
use mathlib.Core.List.{List, [], ◌∷◌, ◌++◌, Memᴰ}
use Rattle.words.specs.Run.{NoRepeat}
use Rattle.words.specs.Run.Laws.{no-repeat-append}
use Rattle.terms.specs.Term.{Term, Terms, size, sizes, Occurs, OccursIn}
use Rattle.terms.specs.Image.{Image}
use Rattle.translation.specs.Dictionary.{Held, Dictionary, is_held, enter, Derives, DerivesAll, image_or}
use Rattle.translation.specs.Dictionary.Laws.{enter-same, enter-ind, Grows, enter-grows, derives_all-from}
use Rattle.translation.specs.Build.{Built, built_or, build, build_all}

abbrev Holds : Dictionary → Term → Type 0
Holds δ t = is_held (δ t) ≡ true

-- ---- what building does, from the dictionary δ to ε: the atoms made are new, each made once, each in the term; and the
-- dictionary gains them and nothing else
pub record Building (δ ε : Dictionary) (made : List ℕ) (In : ℕ → Type 0) : Type 0 where
  pub grows : Grows δ ε
  pub fresh : (r : ℕ) → Memᴰ r made → Holds δ (Term.atom r) → ⊥
  pub gained : (r : ℕ) → Memᴰ r made → Holds ε (Term.atom r)
  pub once : NoRepeat made
  pub within : (r : ℕ) → Memᴰ r made → In r
  pub back : (u : Term) → Holds ε u → Holds δ u ⊎ ((r : ℕ) × (u ≡ Term.atom r) × Memᴰ r made)

making-none : (δ : Dictionary) (In : ℕ → Type 0) → Building δ δ [] In
making-none δ In =
    record {
      grows = λ u h. h;
      fresh = λ r m h. Memᴰ.not-nil m;
      gained = λ r m. absurd (Memᴰ.not-nil m);
      once = tt;
      within =
          λ r m. absurd (Memᴰ.not-nil m);
      back = λ u h. inl h;
    }

making-in : {δ ε : Dictionary} {made : List ℕ} {In Out : ℕ → Type 0} → ((r : ℕ) → In r → Out r) → Building δ ε made In
    → Building δ ε made Out
making-in f m = record { grows = m.grows; fresh = m.fresh; gained = m.gained; once = m.once; within = λ r h. f r (m.within r h); back = m.back }

making-then : {δ ε ζ : Dictionary} {a b : List ℕ} {In : ℕ → Type 0} → Building δ ε a In → Building ε ζ b In → Building δ ζ (a ++ b) In
making-then {a = a} {b = b} p q =
    record {
      grows = λ u h. q.grows u (p.grows u h);
      fresh = λ r m h. ⊎_elim (λ x. p.fresh r x h) (λ y. q.fresh r y (p.grows _ h)) (Memᴰ.append_cases a m);
      gained = λ r m. ⊎_elim (λ x. q.grows _ (p.gained r x)) (λ y. q.gained r y) (Memᴰ.append_cases a m);
      once = no-repeat-append a _ p.once q.once (λ r x y. q.fresh r y (p.gained r x));
      within = λ r m. ⊎_elim (p.within r) (q.within r) (Memᴰ.append_cases a m);
      back = λ u h. ⊎_elim (λ x. ⊎_elim (λ y. inl y) (λ y. inr (y.0, y.1, Memᴰ.append_left b y.2)) (p.back u x))
          (λ x. inr (x.0, x.1, Memᴰ.append_right a x.2)) (q.back u h);
    }

making-one : (s : ℕ) (r : ℕ) (δ : Dictionary) → is_held (δ (Term.atom r)) ≡ false
    → Building δ (enter δ (Term.atom r) (Held.made s)) (r ∷ []) (λ q. Occurs q (Term.atom r))
making-one s r δ e =
    record {
      grows = enter-grows δ (Term.atom r) (Held.made s) refl;
      fresh = λ q m h. true≢false (sym h ∙ ap (λ z. is_held (δ (Term.atom z))) (Memᴰ.eq_of_singleton m) ∙ e);
      gained = λ q m. subst (λ z. Holds (enter δ (Term.atom r) (Held.made s)) (Term.atom z)) (sym (Memᴰ.eq_of_singleton m))
          (ap is_held (enter-same δ (Term.atom r) (Held.made s)));
      once = (λ m. Memᴰ.not-nil m, tt);
      within = λ q m. subst (λ z. Occurs z (Term.atom r)) (sym (Memᴰ.eq_of_singleton m)) Occurs.atom;
      back = λ u. enter-ind (λ x. is_held x ≡ true → Holds δ u ⊎ ((q : ℕ) × (u ≡ Term.atom q) × Memᴰ q (r ∷ []))) δ
          (Term.atom r) (Held.made s) u (λ p h. inr (r, sym p, Memᴰ.head refl)) (λ p h. inl h);
    }

-- a term that is held makes nothing and gives its entry; of one that is not, what is said of the rest
pub built-or : (P : Built → Type 0) (h : Held) (t : Term) (δ : Dictionary) (b : Built)
    → ((i : Image) → is_held h ≡ true → ((j : Image) → image_or h t j ≡ i) → P (record { dictionary = δ; made = []; image = i }))
    → (h ≡ Held.free → P b)
    → P (built_or h t δ b)
unfolding built_or image_or
built-or P Held.free t δ b f g = g refl
built-or P Held.given t δ b f g = f _ refl (λ j. refl)
built-or P (Held.made s) t δ b f g = f _ refl (λ j. refl)
built-or P (Held.stored s x) t δ b f g = f _ refl (λ j. refl)

abbrev Makes : Term → Dictionary → Built → Type 0
Makes t δ b = Building δ b.dictionary b.made (λ r. Occurs r t)

or-makes : (t : Term) (δ : Dictionary) (b : Built) → (is_held (δ t) ≡ false → Makes t δ b) → Makes t δ (built_or (δ t) t δ b)
or-makes t δ b g =
    built-or (Makes t δ) (δ t) t δ b (λ i h j. making-none δ _) (λ e. g (ap is_held e))

mutual
  unfolding build

  pub build-makes : (s : ℕ) (t : Term) (δ : Dictionary) → Makes t δ (build s t δ)
  build-makes s (Term.atom r) δ = or-makes (Term.atom r) δ _ (λ e. making-one s r δ e)
  build-makes s (Term.operation g ts) δ = or-makes (Term.operation g ts) δ _ (λ e. making-in (λ r h. Occurs.operation h) (build_all-makes s ts δ))
  build-makes s (Term.cipher k ts) δ =
      or-makes (Term.cipher k ts) δ _ (λ e. making-then (making-in (λ r h. Occurs.key h) (build-makes s k δ))
      (making-in (λ r h. Occurs.contents h) (build_all-makes s ts _)))
  build-makes s (Term.public t) δ = or-makes (Term.public t) δ _ (λ e. making-in (λ r h. Occurs.public h) (build-makes s t δ))
  build-makes s (Term.private t) δ = or-makes (Term.private t) δ _ (λ e. making-in (λ r h. Occurs.private h) (build-makes s t δ))

  pub build_all-makes : (s : ℕ) (ts : Terms) (δ : Dictionary) → Building δ (build_all s ts δ).dictionary (build_all s ts δ).made (λ r. OccursIn r ts)
  build_all-makes s Terms.nil δ = making-none δ _
  build_all-makes s (Terms.cons t ts) δ =
      making-then (making-in (λ r h. OccursIn.here h) (build-makes s t δ)) (making-in (λ r h. OccursIn.later h) (build_all-makes s ts _))

-- ---- only free atoms are made ⇔ there is a derivation
module _ (free : ℕ → Type 0) where
  abbrev pub AllFree : List ℕ → Type 0
  AllFree l = (r : ℕ) → Memᴰ r l → free r

  free-append : (a b : List ℕ) → AllFree a → AllFree b → AllFree (a ++ b)
  free-append a b p q r m = ⊎_elim (p r) (q r) (Memᴰ.append_cases a m)

  free-left : (a b : List ℕ) → AllFree (a ++ b) → AllFree a
  free-left a b p r m = p r (Memᴰ.append_left b m)

  free-right : (a b : List ℕ) → AllFree (a ++ b) → AllFree b
  free-right a b p r m = p r (Memᴰ.append_right a m)

  or-free : (t : Term) (δ : Dictionary) (b : Built) → (is_held (δ t) ≡ false → AllFree b.made) → AllFree (built_or (δ t) t δ b).made
  or-free t δ b g = built-or (λ c. AllFree c.made) (δ t) t δ b (λ i h j r x. absurd (Memᴰ.not-nil x)) (λ e. g (ap is_held e))

  -- what the dictionary held before is still derivable afterwards
  kept : (s : ℕ) (t : Term) (δ : Dictionary) → (u : Term) → is_held (δ u) ≡ true → Derives free (build s t δ).dictionary u
  kept s t δ u h = Derives.held ((build-makes s t δ).grows u h)

  mutual
    unfolding build

    pub derives-free : (s : ℕ) (t : Term) (δ : Dictionary) → Derives free δ t → AllFree (build s t δ).made
    derives-free s (Term.atom r) δ (Derives.held h) = or-free (Term.atom r) δ _ (λ e. absurd (true≢false (sym h ∙ e)))
    derives-free s (Term.atom r) δ (Derives.make f) = or-free (Term.atom r) δ _ (λ e q m. subst free (sym (Memᴰ.eq_of_singleton m)) f)
    derives-free s (Term.operation g ts) δ (Derives.held h) = or-free (Term.operation g ts) δ _ (λ e. absurd (true≢false (sym h ∙ e)))
    derives-free s (Term.operation g ts) δ (Derives.operation h) = or-free (Term.operation g ts) δ _ (λ e. derives_all-free s ts δ h)
    derives-free s (Term.cipher k ts) δ (Derives.held h) = or-free (Term.cipher k ts) δ _ (λ e. absurd (true≢false (sym h ∙ e)))
    derives-free s (Term.cipher k ts) δ (Derives.cipher x h) =
        or-free (Term.cipher k ts) δ _ (λ e. free-append (build s k δ).made _ (derives-free s k δ x)
        (derives_all-free s ts (build s k δ).dictionary (derives_all-from free (kept s k δ) h)))
    derives-free s (Term.public t) δ (Derives.held h) = or-free (Term.public t) δ _ (λ e. absurd (true≢false (sym h ∙ e)))
    derives-free s (Term.public t) δ (Derives.public h) = or-free (Term.public t) δ _ (λ e. derives-free s t δ h)
    derives-free s (Term.private t) δ (Derives.held h) = or-free (Term.private t) δ _ (λ e. absurd (true≢false (sym h ∙ e)))
    derives-free s (Term.private t) δ (Derives.private h) = or-free (Term.private t) δ _ (λ e. derives-free s t δ h)

    pub derives_all-free : (s : ℕ) (ts : Terms) (δ : Dictionary) → DerivesAll free δ ts → AllFree (build_all s ts δ).made
    derives_all-free s Terms.nil δ h = λ r x. absurd (Memᴰ.not-nil x)
    derives_all-free s (Terms.cons t ts) δ (DerivesAll.cons x h) =
        free-append (build s t δ).made _ (derives-free s t δ x) (derives_all-free s ts (build s t δ).dictionary (derives_all-from free (kept s t δ) h))

  -- what the dictionary holds afterwards was derivable before
  gave : (s : ℕ) (t : Term) (δ : Dictionary) → AllFree (build s t δ).made → (u : Term) → is_held ((build s t δ).dictionary u) ≡ true → Derives free δ u
  gave s t δ a u h = ⊎_elim (λ x. Derives.held x) (λ x. subst (λ v. Derives free δ v) (sym x.1) (Derives.make (a x.0 x.2)))
      ((build-makes s t δ).back u h)

  or-derives : (t : Term) (δ : Dictionary) (b : Built) → (AllFree b.made → Derives free δ t) → AllFree (built_or (δ t) t δ b).made
      → Derives free δ t
  or-derives t δ b g = built-or (λ c. AllFree c.made → Derives free δ t) (δ t) t δ b (λ i h j a. Derives.held h) (λ e. g)

  mutual
    unfolding build

    pub free-derives : (s : ℕ) (t : Term) (δ : Dictionary) → AllFree (build s t δ).made → Derives free δ t
    free-derives s (Term.atom r) δ = or-derives (Term.atom r) δ _ (λ a. Derives.make (a r (Memᴰ.head refl)))
    free-derives s (Term.operation g ts) δ = or-derives (Term.operation g ts) δ _ (λ a. Derives.operation (free_all-derives s ts δ a))
    free-derives s (Term.cipher k ts) δ =
        or-derives (Term.cipher k ts) δ _
        (λ a.
        let x = free-left (build s k δ).made _ a in
        Derives.cipher (free-derives s k δ x) (derives_all-from free (gave s k δ x)
        (free_all-derives s ts (build s k δ).dictionary (free-right (build s k δ).made _ a))))
    free-derives s (Term.public t) δ = or-derives (Term.public t) δ _ (λ a. Derives.public (free-derives s t δ a))
    free-derives s (Term.private t) δ = or-derives (Term.private t) δ _ (λ a. Derives.private (free-derives s t δ a))

    pub free_all-derives : (s : ℕ) (ts : Terms) (δ : Dictionary) → AllFree (build_all s ts δ).made → DerivesAll free δ ts
    free_all-derives s Terms.nil δ a = DerivesAll.nil
    free_all-derives s (Terms.cons t ts) δ a =
        let x = free-left (build s t δ).made _ a in
        DerivesAll.cons (free-derives s t δ x) (derives_all-from free (gave s t δ x)
        (free_all-derives s ts (build s t δ).dictionary (free-right (build s t δ).made _ a)))

-- ---- every atom made is in the term, and an atom's size is 2
made-or : (h : Held) (t : Term) (δ : Dictionary) (b : Built) (z : ℕ) → 2 * length b.made ≤ z → 2 * length (built_or h t δ b).made ≤ z
made-or h t δ b z l = built-or (λ c. 2 * length c.made ≤ z) h t δ b (λ i k j. omega arith) (λ e. l)

mutual
  unfolding build size

  pub build-made : (s : ℕ) (t : Term) (δ : Dictionary) → 2 * length (build s t δ).made ≤ size t
  build-made s (Term.atom r) δ = made-or (δ (Term.atom r)) (Term.atom r) δ _ _ (omega arith)
  build-made s (Term.operation g ts) δ = made-or (δ (Term.operation g ts)) (Term.operation g ts) δ _ _ (let h = build_all-made s ts δ in omega arith)
  build-made s (Term.cipher k ts) δ =
      made-or (δ (Term.cipher k ts)) (Term.cipher k ts) δ _ _
      (let g = build-made s k δ in
      let h = build_all-made s ts (build s k δ).dictionary in
      omega (arith, length-append (build s k δ).made (build_all s ts (build s k δ).dictionary).made))
  build-made s (Term.public t) δ = made-or (δ (Term.public t)) (Term.public t) δ _ _ (let h = build-made s t δ in omega arith)
  build-made s (Term.private t) δ = made-or (δ (Term.private t)) (Term.private t) δ _ _ (let h = build-made s t δ in omega arith)

  pub build_all-made : (s : ℕ) (ts : Terms) (δ : Dictionary) → 2 * length (build_all s ts δ).made ≤ sizes ts
  build_all-made s Terms.nil δ = omega arith
  build_all-made s (Terms.cons t ts) δ =
      let g = build-made s t δ in
      let h = build_all-made s ts (build s t δ).dictionary in
      omega (arith, length-append (build s t δ).made (build_all s ts (build s t δ).dictionary).made)
