-- What a judge returns: the verdict that keeps its promise is unique, and each verdict keeps it exactly when document 02, [7] says so.
-- Assumes nothing.
use Rattle.std.specs.Prelude.{ℕ, ◌≤◌, ◌<◌, true, false, List, [], ◌∷◌, ◌↔◌, ◌⊎◌, ◌≡◌, refl, Ok, Err}
use Rattle.std.proofs.Common.{inl, sym, ap, ◌∙◌}
use Rattle.book.specs.Layout.{parties}
use Rattle.book.specs.Said.{said, refusal_says, reading_says}
use Rattle.book.specs.declared.Refusal.{Refusal}
use Rattle.book.specs.declared.Refusal.TheVariants.{Nobody}
use Rattle.translation.specs.Outcome.{acceptance, Plays}
use Rattle.renaming.specs.Slot.{part_slots}
use Rattle.renaming.specs.Renaming.{all_agree, place_of, Same, Differs}
use Rattle.renaming.specs.Verdict.{Judgement, judged, verdict_says}
use Rattle.renaming.proofs.Verdicts.Laws.{verdict-agree, verdict-differ, verdict-injective}
use Rattle.renaming.proofs.Verdicts.Judged.{exactly-22, judged-says, exactly-refused, exactly-same, exactly-differs}
use Rattle.renaming.specs.declared.Verdict.TheVariants as verdicts

module _ (b : List ℕ) (p : ℕ) (ws : List ℕ) where
  -- ---- what keeps the promise: the book's refusal, 22, and the verdict by whether all agree
  pub refused-judged : (f : Refusal) → reading_says (Err f) ≡ acceptance b → verdict_says (Err f) ≡ judged b p ws
  refused-judged f e = sym ((exactly-refused b p ws f).1 (inl e))

  pub nobody-judged : Plays b → parties b ≤ p → verdict_says (Err (Nobody p)) ≡ judged b p ws
  nobody-judged q h = sym ((exactly-22 b p ws (p ∷ [])).1 (q, h, refl))

  pub same-judged : Plays b → p < parties b → all_agree (part_slots b p) ws ≡ true → verdict_says (Ok verdicts.Same) ≡ judged b p ws
  same-judged q h e = sym (judged-says b p ws q h ∙ verdict-agree (part_slots b p) ws e)

  pub differs-judged : Plays b → p < parties b → all_agree (part_slots b p) ws ≡ false → (k : ℕ) → k ≡ place_of (part_slots b p) ws
      → verdict_says (Ok (verdicts.Differs k)) ≡ judged b p ws
  differs-judged q h e k z = ap (λ n. said 0 (0 ∷ n ∷ [])) z ∙ sym (judged-says b p ws q h ∙ verdict-differ (part_slots b p) ws e)

  -- ---- of a verdict that keeps the promise of `judge`
  module _ (r : Judgement) (e : verdict_says r ≡ judged b p ws) where
    pub judge-same : (r ≡ Ok verdicts.Same) ↔ (Plays b × (p < parties b) × Same (part_slots b p) ws)
    judge-same = (λ q. (exactly-same b p ws).0 (sym e ∙ ap verdict_says q), λ u. verdict-injective r (Ok verdicts.Same) (e ∙ (exactly-same b p ws).1 u))

    pub judge-differs : (k : ℕ) → (r ≡ Ok (verdicts.Differs k)) ↔ (Plays b × (p < parties b) × Differs (part_slots b p) ws k)
    judge-differs k = (
      λ q. (exactly-differs b p ws k).0 (sym e ∙ ap verdict_says q),
      λ u. verdict-injective r (Ok (verdicts.Differs k)) (e ∙ (exactly-differs b p ws k).1 u),
    )

    -- "a book that is refused gives the book's refusal, then a party number out of range is 22"
    pub judge-refused : (f : Refusal) → (r ≡ Err f)
        ↔ ((refusal_says f ≡ acceptance b) ⊎ ((f ≡ Nobody p) × Plays b × (parties b ≤ p)))
    judge-refused f = (
      λ q. (exactly-refused b p ws f).0 (sym e ∙ ap verdict_says q),
      λ u. verdict-injective r (Err f) (e ∙ (exactly-refused b p ws f).1 u),
    )

-- ---- no two verdicts keep the promise of `judge`
pub judge-one : (b : List ℕ) (p : ℕ) (ws : List ℕ) (r s : Judgement) → verdict_says r ≡ judged b p ws → verdict_says s ≡ judged b p ws → r ≡ s
judge-one b p ws r s e f = verdict-injective r s (e ∙ sym f)
