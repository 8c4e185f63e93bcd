-- Laws of a function's number: as the code tests it; its slices, their sizes and its numbers. Assumes nothing.
use Rattle.std.specs.Prelude.{ℕ, ◌*◌, ◌≤◌, ◌<◌, Bool, true, false, ◌≡◌, eqb, ltb}
use Rattle.std.proofs.Common.{true≢false, ◌∙◌, arith, eq-eqb, ne_eqb, eqb-true, lt-ltb, le-ltb}
use Rattle.std.proofs.Math.Path.{sym, ap}
use Rattle.std.proofs.Math.Decide.{dec_lt}
use Rattle.words.specs.Choice.{pick}
use Rattle.words.specs.Choice.Laws.{pick_true, pick-false}
use Rattle.functions.specs.Functions.{on_bytes, asks, judges, slices_of, numbers_of, slice_size}

-- ---- on_bytes, asks and judges: as the code tests the number
module _ (f : ℕ) where
  pub bytes-before : f < 5 → false ≡ on_bytes f
  unfolding on_bytes
  bytes-before h = sym (pick_true _ _ _ (lt-ltb f 5 h))

  pub bytes-early : 5 ≤ f → f < 7 → true ≡ on_bytes f
  unfolding on_bytes
  bytes-early h l = sym (pick-false _ _ _ (le-ltb f 5 h) ∙ pick_true _ _ _ (lt-ltb f 7 l))

  pub bytes-judge : f ≡ 11 → false ≡ on_bytes f
  unfolding on_bytes pick
  bytes-judge e = ap on_bytes (sym e)

  pub bytes-check : f ≡ 13 → false ≡ on_bytes f
  unfolding on_bytes pick
  bytes-check e = ap on_bytes (sym e)

  pub bytes_apart : f ≡ 15 → false ≡ on_bytes f
  unfolding on_bytes pick
  bytes_apart e = ap on_bytes (sym e)

  pub bytes-late : 5 ≤ f → 7 ≤ f → (f ≡ 11 → ⊥) → (f ≡ 13 → ⊥) → (f ≡ 15 → ⊥) → ltb 8 f ≡ on_bytes f
  unfolding on_bytes
  bytes-late h l n m o =
      sym (pick-false _ _ _ (le-ltb f 5 h) ∙ pick-false _ _ _ (le-ltb f 7 l) ∙ pick-false _ _ _ (ne_eqb f 11 n)
      ∙ pick-false _ _ _ (ne_eqb f 13 m) ∙ pick-false _ _ _ (ne_eqb f 15 o))

  pub bytes-from : on_bytes f ≡ true → 5 ≤ f
  bytes-from e = elim (dec_lt f 5) [
    | yes p ↦ absurd (true≢false (sym e ∙ sym (bytes-before p)))
    | no p ↦ omega arith
  ]

  pub asks-words : f ≡ 8 → true ≡ asks f
  unfolding asks
  asks-words e = sym (pick_true _ _ _ (eq-eqb f 8 e))

  pub asks-other : (f ≡ 8 → ⊥) → eqb f 10 ≡ asks f
  unfolding asks
  asks-other n = sym (pick-false _ _ _ (ne_eqb f 8 n))

  -- a question that is not on words is on bytes
  pub asks-bytes : asks f ≡ true → (f ≡ 8 → ⊥) → f ≡ 10
  asks-bytes e n = eqb-true f 10 (asks-other n ∙ e)

  pub judges-words : f ≡ 11 → true ≡ judges f
  unfolding judges
  judges-words e = sym (pick_true _ _ _ (eq-eqb f 11 e))

  pub judges-other : (f ≡ 11 → ⊥) → eqb f 12 ≡ judges f
  unfolding judges
  judges-other n = sym (pick-false _ _ _ (ne_eqb f 11 n))

  -- what judges, and not on words, judges on bytes
  pub judges-bytes : judges f ≡ true → (f ≡ 11 → ⊥) → f ≡ 12
  judges-bytes e n = eqb-true f 12 (judges-other n ∙ e)

-- a number at which a test answers otherwise is another
pub apart : (test : ℕ → Bool) (f n : ℕ) → test n ≡ true → test f ≡ false → f ≡ n → ⊥
apart test f n t e q = true≢false (sym t ∙ ap test (sym q) ∙ e)

-- ---- slices_of and numbers_of
module _ (f : ℕ) where
  pub slices-read : f < 3 → 1 ≡ slices_of f
  unfolding slices_of
  slices-read h = sym (pick_true _ _ _ (lt-ltb f 3 h))

  -- of a rehearsal on words and on bytes
  pub slices-rehearse : f ≡ 4 → 3 ≡ slices_of f
  unfolding slices_of asks pick
  slices-rehearse e = ap slices_of (sym e)

  pub slices-rehearse-bytes : f ≡ 6 → 3 ≡ slices_of f
  unfolding slices_of asks pick
  slices-rehearse-bytes e = ap slices_of (sym e)

  -- by whether it asks
  module _ {t : Bool} (tested : t ≡ asks f) where
    pub slices-ask : 3 ≤ f → t ≡ true → 1 ≡ slices_of f
    unfolding slices_of
    slices-ask h e = sym (pick-false _ _ _ (le-ltb f 3 h) ∙ pick_true _ _ _ (sym tested ∙ e))

    module _ (h : 3 ≤ f) (e : t ≡ false) (n : f ≡ 4 → ⊥) (m : f ≡ 6 → ⊥) where
      slices-late : slices_of f ≡ pick (ltb 14 f) 1 2
      unfolding slices_of
      slices-late =
          pick-false _ _ _ (le-ltb f 3 h) ∙ pick-false _ _ _ (sym tested ∙ e) ∙ pick-false _ _ _ (ne_eqb f 4 n)
          ∙ pick-false _ _ _ (ne_eqb f 6 m)

      -- of a test of bound names, and of the others
      pub slices-apart : 14 < f → 1 ≡ slices_of f
      slices-apart l = sym (slices-late ∙ pick_true _ _ _ (lt-ltb 14 f l))

      pub slices-lent : f ≤ 14 → 2 ≡ slices_of f
      slices-lent l = sym (slices-late ∙ pick-false _ _ _ (le-ltb 14 f l))

    pub numbers-ask : t ≡ true → 3 ≡ numbers_of f
    unfolding numbers_of
    numbers-ask e = sym (pick_true _ _ _ (sym tested ∙ e))

    -- and where it does not, by whether it judges
    module _ {u : Bool} (no : t ≡ false) (judging : u ≡ judges f) where
      pub numbers-judge : u ≡ true → 1 ≡ numbers_of f
      unfolding numbers_of
      numbers-judge e = sym (pick-false _ _ _ (sym tested ∙ no) ∙ pick_true _ _ _ (sym judging ∙ e))

      pub numbers-none : u ≡ false → 0 ≡ numbers_of f
      unfolding numbers_of
      numbers-none e = sym (pick-false _ _ _ (sym tested ∙ no) ∙ pick-false _ _ _ (sym judging ∙ e))

-- ---- slice_size: of bytes, and of words
module _ (f : ℕ) {n m : ℕ} {t : Bool} (tested : t ≡ on_bytes f) where
  pub size-bytes : t ≡ true → m ≡ n → m ≡ slice_size f n
  unfolding slice_size
  size-bytes h e = e ∙ sym (pick_true _ _ _ (sym tested ∙ h))

  pub size-words : t ≡ false → m ≡ n → 4 * m ≡ slice_size f n
  unfolding slice_size
  size-words h e = ap (λ (k : ℕ). 4 * k) e ∙ sym (pick-false _ _ _ (sym tested ∙ h))
