-- A term's own words and its parts. Assumes nothing.
use Rattle.std.specs.Prelude.{ℕ, zero, suc, ◌+◌, ◌-◌, ◌*◌, ◌≤◌, ◌<◌, List, [], ◌∷◌, ◌⊎◌, ◌≡◌, refl, length, drop, get_or}
use Rattle.std.proofs.Common.{inl, inr, ◌∙◌, ap, arith, add-one, length-drop, drop_of_length-le, drop-cons}
use Rattle.std.proofs.Math.Option.{Option, none, some}
use Rattle.words.specs.Choice.{then}
use Rattle.typing.specs.Reading.{terms}
use Rattle.spans.specs.Behind.{rest_of, At, nested, nested_one, skip_name, skip_term, term_turn, term_own, term_parts}
use Rattle.spans.specs.Behind.Laws.{rest-ahead, rest-after, terms-zero, rest-term}

plus-zero : (t : ℕ) → t ≡ t + 0
plus-zero t = omega arith

plus-two : (t : ℕ) → suc (suc t) ≡ t + 2
plus-two t = omega arith

-- ---- a term is its own words, and its parts behind them
terms-nested : (m f : ℕ) (u : List ℕ) → length u ≤ f → rest_of (terms u m) ≡ nested term_own term_parts m f u
unfolding nested terms term_own term_parts skip_name then rest_of
terms-nested zero f u l = terms-zero u
terms-nested (suc m) zero [] l = refl
terms-nested (suc m) zero (c ∷ u) l = absurd (omega arith)
terms-nested (suc m) (suc f) [] l = refl
terms-nested (suc m) (suc f) (zero ∷ u) l = refl
terms-nested (suc m) (suc f) (suc zero ∷ []) l = refl
terms-nested (suc m) (suc f) (suc zero ∷ n ∷ u) l =
    rest-ahead _ _ ∙ ap (λ (k : ℕ). rest_of (terms u k)) (plus-zero m) ∙ terms-nested (m + 0) f u (omega arith)
terms-nested (suc m) (suc f) (suc (suc zero) ∷ u) l =
    rest-after _ _ ∙ ap (λ (k : ℕ). rest_of (terms u k)) (plus-two m) ∙ terms-nested (m + 2) f u (omega arith)
terms-nested (suc m) (suc f) (suc (suc (suc zero)) ∷ u) l =
    rest-after _ _ ∙ ap (λ (k : ℕ). rest_of (terms u k)) (plus-two m) ∙ terms-nested (m + 2) f u (omega arith)
terms-nested (suc m) (suc f) (suc (suc (suc (suc zero))) ∷ []) l = refl
terms-nested (suc m) (suc f) (suc (suc (suc (suc zero))) ∷ n ∷ u) l =
    rest-ahead _ _ ∙ ap (λ (k : ℕ). rest_of (terms u k)) (plus-zero m) ∙ terms-nested (m + 0) f u (omega arith)
terms-nested (suc m) (suc f) (suc (suc (suc (suc (suc c)))) ∷ u) l = refl

pub term-nested : (u : List ℕ) → skip_term u ≡ nested_one term_own term_parts u
term-nested u = rest-term u ∙ terms-nested 1 (length u) u (omega arith)

-- ---- term_own, by the first word
own-leaf : (c n : ℕ) (u : List ℕ) → (c ≡ 1) ⊎ (c ≡ 4) → term_own (c ∷ n ∷ u) ≡ some u
unfolding term_own skip_name
own-leaf c n u (inl e) = rw e
own-leaf c n u (inr e) = rw e

own-cut : (c : ℕ) → (c ≡ 1) ⊎ (c ≡ 4) → term_own (c ∷ []) ≡ none
unfolding term_own skip_name
own-cut c (inl e) = rw e
own-cut c (inr e) = rw e

own-two : (c : ℕ) (u : List ℕ) → 2 ≤ c → c ≤ 3 → term_own (c ∷ u) ≡ some u
unfolding term_own
own-two zero u d e = absurd (omega arith)
own-two (suc zero) u d e = absurd (omega arith)
own-two (suc (suc zero)) u d e = refl
own-two (suc (suc (suc zero))) u d e = refl
own-two (suc (suc (suc (suc c)))) u d e = absurd (omega arith)

own-other : (c : ℕ) (u : List ℕ) → (1 ≤ c → 4 < c) → term_own (c ∷ u) ≡ none
unfolding term_own
own-other zero u d = refl
own-other (suc zero) u d = absurd (omega arith)
own-other (suc (suc zero)) u d = absurd (omega arith)
own-other (suc (suc (suc zero))) u d = absurd (omega arith)
own-other (suc (suc (suc (suc zero)))) u d = absurd (omega arith)
own-other (suc (suc (suc (suc (suc c))))) u d = refl

module _ (w : List ℕ) (i : ℕ) (l : i < length w) where
  pub term-leaf : (get_or w i 0 ≡ 1) ⊎ (get_or w i 0 ≡ 4) → 2 ≤ length w - i → At w (i + 1) (term_own (drop i w)) (i + 2)
  term-leaf d s =
      let two : i + 2 ≡ suc (suc i) = omega arith in
      record {
        some_word = omega arith;
        after = omega arith;
        inside = omega arith;
        rest = rw (drop-cons w i 0 l, drop-cons w (suc i) 0 (omega arith), two) (own-leaf _ _ _ d);
      }

  pub term-cut : (get_or w i 0 ≡ 1) ⊎ (get_or w i 0 ≡ 4) → length w - i < 2 → term_own (drop i w) ≡ none
  term-cut d s =
      let f : drop (suc i) w ≡ [] = drop_of_length-le w {i = suc i} (omega arith) in
      rw (drop-cons w i 0 l, f) (own-cut _ d)

  pub term-two : 2 ≤ get_or w i 0 → get_or w i 0 ≤ 3 → At w (i + 1) (term_own (drop i w)) (i + 1)
  term-two d e =
      record {
        some_word = omega arith;
        after = omega arith;
        inside = omega arith;
        rest = rw (drop-cons w i 0 l, add-one) (own-two _ _ d e);
      }

  pub term-none : (1 ≤ get_or w i 0 → 4 < get_or w i 0) → term_own (drop i w) ≡ none
  term-none d = rw (drop-cons w i 0 l) (own-other _ _ d)

-- ---- term_parts
pub parts-two : (c : ℕ) → 2 ≤ c → c ≤ 3 → 2 ≡ term_parts c
unfolding term_parts
parts-two zero d e = absurd (omega arith)
parts-two (suc zero) d e = absurd (omega arith)
parts-two (suc (suc zero)) d e = refl
parts-two (suc (suc (suc zero))) d e = refl
parts-two (suc (suc (suc (suc c)))) d e = absurd (omega arith)

pub parts-none : (c : ℕ) → (2 ≤ c → 3 < c) → 0 ≡ term_parts c
unfolding term_parts
parts-none zero d = refl
parts-none (suc zero) d = refl
parts-none (suc (suc zero)) d = absurd (omega arith)
parts-none (suc (suc (suc zero))) d = absurd (omega arith)
parts-none (suc (suc (suc (suc c)))) d = refl

-- ---- what a term's first word begins, by its own words and its parts
name-place : (w : List ℕ) (i r : ℕ) (u : List ℕ) → skip_name u ≡ some (drop r w) → length u + (i + 1) ≡ length w → r ≤ length w → r + 1 ≡ i + 3
unfolding skip_name
name-place w i r [] e d h = absurd (let z : ◌≡◌ {A = ℕ} 0 1 = cc in omega arith)
name-place w i r (x ∷ u) e d h =
    let s : u ≡ drop r w = cc in
    omega (arith, ap length s, length-drop r w)

first-place : (w : List ℕ) (i r : ℕ) (u : List ℕ) → ◌≡◌ {A = Option (List ℕ)} (some u) (some (drop r w)) → length u + (i + 1) ≡ length w
    → r ≤ length w → r + 2 ≡ i + 3
first-place w i r u e d h =
    let s : u ≡ drop r w = cc in
    omega (arith, ap length s, length-drop r w)

place : (w : List ℕ) (i r c : ℕ) (u : List ℕ) → term_own (c ∷ u) ≡ some (drop r w) → length u + (i + 1) ≡ length w → r ≤ length w
    → (0 < term_turn c) × (r + term_turn c ≡ i + 3)
unfolding term_own term_turn
place w i r zero u e d h = absurd (let z : ◌≡◌ {A = ℕ} 0 1 = cc in omega arith)
place w i r (suc zero) u e d h = (omega arith, name-place w i r u e d h)
place w i r (suc (suc zero)) u e d h = (omega arith, first-place w i r u e d h)
place w i r (suc (suc (suc zero))) u e d h = (omega arith, first-place w i r u e d h)
place w i r (suc (suc (suc (suc zero)))) u e d h = (omega arith, name-place w i r u e d h)
place w i r (suc (suc (suc (suc (suc c))))) u e d h = absurd (let z : ◌≡◌ {A = ℕ} 0 1 = cc in omega arith)

pub parts-turn : (c : ℕ) → 0 < term_turn c → term_parts c + 2 ≡ 2 * term_turn c
unfolding term_parts term_turn
parts-turn zero h = absurd (omega arith)
parts-turn (suc zero) h = refl
parts-turn (suc (suc zero)) h = refl
parts-turn (suc (suc (suc zero))) h = refl
parts-turn (suc (suc (suc (suc zero)))) h = refl
parts-turn (suc (suc (suc (suc (suc c))))) h = absurd (omega arith)

-- a term's own words from the place i on end at r, and it has n parts
pub record Turn (w : List ℕ) (i r n : ℕ) : Type 0 where
  pub begins : 0 < term_turn (get_or w i 0)
  pub place : r + term_turn (get_or w i 0) ≡ i + 3
  pub more : n + 2 ≡ 2 * term_turn (get_or w i 0)

pub own-turn : (w : List ℕ) (i : ℕ) → i < length w → (r : ℕ) → At w (i + 1) (term_own (drop i w)) r → (n : ℕ) → n ≡ term_parts (get_or w i 0)
    → Turn w i r n
own-turn w i l r b n e =
    let h : term_own (get_or w i 0 ∷ drop (suc i) w) ≡ some (drop r w) = rw (drop-cons w i 0 l) at b.rest in
    let (p, q) = place w i r (get_or w i 0) (drop (suc i) w) h (omega (arith, length-drop (suc i) w)) b.inside in
    record { begins = p; place = q; more = omega (arith, parts-turn (get_or w i 0) p) }

-- where a term begins, its own words end
kinds : (c : ℕ) → 0 < term_turn c → (((c ≡ 1) ⊎ (c ≡ 4)) × (term_turn c ≡ 1)) ⊎ ((2 ≤ c) × (c ≤ 3) × (term_turn c ≡ 2))
unfolding term_turn
kinds zero h = absurd (omega arith)
kinds (suc zero) h = inl (inl refl, refl)
kinds (suc (suc zero)) h = inr (omega arith, omega arith, refl)
kinds (suc (suc (suc zero))) h = inr (omega arith, omega arith, refl)
kinds (suc (suc (suc (suc zero)))) h = inl (inr refl, refl)
kinds (suc (suc (suc (suc (suc c))))) h = absurd (omega arith)

pub own_at : (w : List ℕ) (i : ℕ) → i < length w → 0 < term_turn (get_or w i 0) → (term_turn (get_or w i 0) ≡ 1 → i + 1 < length w)
    → At w (i + 1) (term_own (drop i w)) (i + 3 - term_turn (get_or w i 0))
own_at w i l h d = elim (kinds (get_or w i 0) h) [
  | inl k ↦
      let s : i + 3 - term_turn (get_or w i 0) ≡ i + 2 = omega arith in
      let m = d k.1 in
      rw s (term-leaf w i l k.0 (omega arith))
  | inr k ↦
      let s : i + 3 - term_turn (get_or w i 0) ≡ i + 1 = omega arith in
      rw s (term-two w i l k.0 k.1)
]
