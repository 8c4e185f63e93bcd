-- What is replied is unique: no two replies say the same, so no two keep the promise of `ask`; and what it is of a book's summary.
-- Assumes nothing.
use Rattle.std.specs.Prelude.{ℕ, ◌+◌, ◌<◌, true, false, Ok, Err, List, ◌↔◌, ◌≡◌, refl}
use Rattle.std.proofs.Common.{sym, ap, ◌∙◌, arith}
use Rattle.book.specs.Layout.{rows, parties, steps}
use Rattle.book.specs.Said.{Said}
use Rattle.book.specs.Said.Laws.{value_at, refusal-number, refusal-injective}
use Rattle.summary.specs.Summary.{holds, summary, asked}
use Rattle.summary.proofs.Summary.Laws.{summary-yes, summary-no}
use Rattle.summary.specs.Reply.{Reply, reply_says}

pub reply-injective : (r s : Reply) → reply_says r ≡ reply_says s → r ≡ s
reply-injective (Ok true) (Ok true) e = refl
reply-injective (Ok false) (Ok false) e = refl
reply-injective (Ok true) (Ok false) e = let z : ◌≡◌ {A = ℕ} 1 0 = ap (λ (x : Said). value_at x 0) e in absurd (omega arith)
reply-injective (Ok false) (Ok true) e = let z : ◌≡◌ {A = ℕ} 0 1 = ap (λ (x : Said). value_at x 0) e in absurd (omega arith)
reply-injective (Ok true) (Err g) e = absurd (refusal-number g (sym (ap (λ (x : Said). x.number) e)))
reply-injective (Ok false) (Err g) e = absurd (refusal-number g (sym (ap (λ (x : Said). x.number) e)))
reply-injective (Err f) (Ok true) e = absurd (refusal-number f (ap (λ (x : Said). x.number) e))
reply-injective (Err f) (Ok false) e = absurd (refusal-number f (ap (λ (x : Said). x.number) e))
reply-injective (Err f) (Err g) e = ap Err (refusal-injective f g e)

-- no two replies keep the promise of `ask`
pub ask-one : (s : List ℕ) (p r t : ℕ) (a c : Reply) → reply_says a ≡ asked s p r t → reply_says c ≡ asked s p r t → a ≡ c
ask-one s p r t a c e f = reply-injective a c (e ∙ sym f)

-- ---- what is replied of a book's summary: yes exactly if the party holds the row after the step, and no exactly if it doesn't
module _ (b : List ℕ) (p r t : ℕ) (h : p < parties b) (l : r < rows b) (m : t < steps b) (a : Reply)
    (e : reply_says a ≡ asked (summary b) p r t) where
  pub ask-yes : (a ≡ Ok true) ↔ (holds b p r (t + 1) ≡ true)
  ask-yes = (
    λ y. (summary-yes b p r h l t m).0 (sym e ∙ ap reply_says y),
    λ y. reply-injective a (Ok true) (e ∙ (summary-yes b p r h l t m).1 y),
  )

  pub ask-no : (a ≡ Ok false) ↔ (holds b p r (t + 1) ≡ false)
  ask-no = (
    λ y. (summary-no b p r h l t m).0 (sym e ∙ ap reply_says y),
    λ y. reply-injective a (Ok false) (e ∙ (summary-no b p r h l t m).1 y),
  )
