-- Laws of the verdict on words: it is Same or Differs exactly when document 02, [7] says so, where our slots are in order; ours is accepted;
-- no two verdicts say the same. Assumes nothing.
use Rattle.std.specs.Prelude.{ℕ, ◌≤◌, Bool, true, false, List, [], ◌∷◌, map, ◌↔◌, ◌⊎◌, ◌≡◌, refl, Ok, Err}
use Rattle.std.proofs.Common.{inl, inr, sym, ap, ◌∙◌, arith}
use Rattle.words.specs.Choice.Laws.{pick_true, pick-false, pick_ind}
use Rattle.book.specs.Said.{Said, said}
use Rattle.book.specs.Said.Laws.{value_at, refusal-number, refusal-injective}
use Rattle.translation.specs.Low.{word_limit}
use Rattle.renaming.specs.Slot.{Slot, spelt, Ordered, handed}
use Rattle.renaming.specs.Slot.Laws.{order_below}
use Rattle.renaming.specs.Renaming.{all_agree, place_of, Same, Differs}
use Rattle.renaming.proofs.Renaming.Exact.{same-exact, differs-exact}
use Rattle.renaming.specs.Renaming.Ours.{ours_same}
use Rattle.renaming.specs.Verdict.{Judgement, verdict_of, verdict_says}
use Rattle.renaming.specs.declared.Verdict.TheVariants as verdicts

-- ---- the verdict on words, by whether all agree
module _ (ss : List Slot) (ws : List ℕ) where
  pub verdict-agree : all_agree ss ws ≡ true → verdict_of ss ws ≡ said 0 (1 ∷ [])
  unfolding verdict_of
  verdict-agree e = pick_true _ _ _ e

  pub verdict-differ : all_agree ss ws ≡ false → verdict_of ss ws ≡ said 0 (0 ∷ place_of ss ws ∷ [])
  unfolding verdict_of
  verdict-differ e = pick-false _ _ _ e

  -- it is no refusal
  pub verdict-number : (verdict_of ss ws).number ≡ 0
  unfolding verdict_of
  verdict-number = pick_ind (λ (s : Said). s.number ≡ 0) (all_agree ss ws) _ _ (λ e. refl) (λ e. refl)

  agree-verdict : verdict_of ss ws ≡ said 0 (1 ∷ []) → all_agree ss ws ≡ true
  agree-verdict e = go (all_agree ss ws) refl
    where
      go : (v : Bool) → all_agree ss ws ≡ v → all_agree ss ws ≡ true
      go true f = f
      go false f = let z : ◌≡◌ {A = ℕ} 0 1 = ap (λ (s : Said). value_at s 0) (sym (verdict-differ f) ∙ e) in absurd (omega arith)

  differ-verdict : (k : ℕ) → verdict_of ss ws ≡ said 0 (0 ∷ k ∷ []) → (all_agree ss ws ≡ false) × (place_of ss ws ≡ k)
  differ-verdict k e = go (all_agree ss ws) refl
    where
      go : (v : Bool) → all_agree ss ws ≡ v → (all_agree ss ws ≡ false) × (place_of ss ws ≡ k)
      go true f = let z : ◌≡◌ {A = ℕ} 1 0 = ap (λ (s : Said). value_at s 0) (sym (verdict-agree f) ∙ e) in absurd (omega arith)
      go false f = (f, ap (λ (s : Said). value_at s 1) (sym (verdict-differ f) ∙ e))

  -- where our slots are in order: "accepted exactly if a one-to-one renaming of its placeholders turns it into ours"
  pub verdict-same : Ordered ss → (verdict_of ss ws ≡ said 0 (1 ∷ [])) ↔ Same ss ws
  verdict-same o = (λ e. (same-exact ss ws o).0 (agree-verdict e), λ s. verdict-agree ((same-exact ss ws o).1 s))

  -- "Otherwise name the smallest word at which no renaming can agree, or the shorter length"
  pub verdict-differs : Ordered ss → (k : ℕ) → (verdict_of ss ws ≡ said 0 (0 ∷ k ∷ [])) ↔ Differs ss ws k
  verdict-differs o k = (
    λ e. (differs-exact ss ws o k).0 (differ-verdict k e),
    λ d. (let (e, p) = (differs-exact ss ws o k).1 d in verdict-differ e ∙ ap (λ n. said 0 (0 ∷ n ∷ [])) p),
  )

  -- one of the two always, and never both
  pub verdict-either : (verdict_of ss ws ≡ said 0 (1 ∷ [])) ⊎ (verdict_of ss ws ≡ said 0 (0 ∷ place_of ss ws ∷ []))
  verdict-either = go (all_agree ss ws) refl
    where
      go : (v : Bool) → all_agree ss ws ≡ v → (verdict_of ss ws ≡ said 0 (1 ∷ [])) ⊎ (verdict_of ss ws ≡ said 0 (0 ∷ place_of ss ws ∷ []))
      go true e = inl (verdict-agree e)
      go false e = inr (verdict-differ e)

  pub verdict-not-both : (k : ℕ) → verdict_of ss ws ≡ said 0 (1 ∷ []) → verdict_of ss ws ≡ said 0 (0 ∷ k ∷ []) → ⊥
  verdict-not-both k e f = let z : ◌≡◌ {A = ℕ} 1 0 = ap (λ (s : Said). value_at s 0) (sym e ∙ f) in omega arith

-- "Ours is always accepted"
pub verdict-ours : (ss : List Slot) → Ordered ss → handed ss ≤ word_limit → verdict_of ss (map spelt ss) ≡ said 0 (1 ∷ [])
verdict-ours ss o h = (verdict-same ss (map spelt ss) o).1 (ours_same ss (order_below o (λ x z. absurd z) word_limit (omega arith)))

-- ---- no two verdicts say the same
pub verdict-injective : (r s : Judgement) → verdict_says r ≡ verdict_says s → r ≡ s
verdict-injective (Ok verdicts.Same) (Ok verdicts.Same) e = refl
verdict-injective (Ok verdicts.Same) (Ok (verdicts.Differs k)) e = let z : ◌≡◌ {A = ℕ} 1 0 = ap (λ (x : Said). value_at x 0) e in absurd (omega arith)
verdict-injective (Ok verdicts.Same) (Err g) e = absurd (refusal-number g (sym (ap (λ (x : Said). x.number) e)))
verdict-injective (Ok (verdicts.Differs j)) (Ok verdicts.Same) e = let z : ◌≡◌ {A = ℕ} 0 1 = ap (λ (x : Said). value_at x 0) e in absurd (omega arith)
verdict-injective (Ok (verdicts.Differs j)) (Ok (verdicts.Differs k)) e = ap (λ (k : ℕ). Ok (verdicts.Differs k)) (ap (λ (x : Said). value_at x 1) e)
verdict-injective (Ok (verdicts.Differs j)) (Err g) e = absurd (refusal-number g (sym (ap (λ (x : Said). x.number) e)))
verdict-injective (Err f) (Ok verdicts.Same) e = absurd (refusal-number f (ap (λ (x : Said). x.number) e))
verdict-injective (Err f) (Ok (verdicts.Differs k)) e = absurd (refusal-number f (ap (λ (x : Said). x.number) e))
verdict-injective (Err f) (Err g) e = ap Err (refusal-injective f g e)
