-- Laws of the line of what is found: by the finding. Assumes nothing.
use Rattle.std.specs.Prelude.{ℕ, List, [], ◌∷◌, ◌++◌, ◌≡◌, refl, take, Result, Ok, Err}
use Rattle.std.proofs.Common.{append-nil, append_assoc, ◌∙◌, ne_eqb}
use Rattle.std.proofs.Math.Path.{sym, ap}
use Rattle.words.specs.Choice.{pick}
use Rattle.words.specs.Choice.Laws.{pick-false}
use Rattle.words.specs.First.{first, first_from}
use Rattle.book.specs.declared.Refusal.{Refusal}
use Rattle.book.specs.declared.Refusal.TheVariants.{Large}
use Rattle.book.specs.Said.{said, refusal_says}
use Rattle.book.specs.Said.Laws.{refusal-number}
use Rattle.checking.specs.declared.Finding.{Finding}
use Rattle.checking.specs.declared.Finding.TheVariants as finding
use Rattle.examining.specs.Checked.{found_says, checked_says}
use Rattle.line.specs.Line.{places, decimal, spaced, spaced_all, ended, refused, refusal_line, Put}
use Rattle.telling.specs.Numbered.{numbered_line}
use Rattle.telling.specs.Found.{safe_line, another_line, bad, found_line}

-- ---- found_line
module _ {f : Finding} where
  -- the word "safe", put at the line's start, and the word "another"
  pub line-safe : {text old new : List ℕ} {r : ℕ} → Put text old 0 new r → text ≡ safe_line → f ≡ finding.Safe
      → take r new ≡ found_line (found_says f)
  unfolding found_line pick
  line-safe put e is = put.front ∙ e ∙ ap (λ x. found_line (found_says x)) (sym is)

  pub line-another : {text old new : List ℕ} {r : ℕ} → Put text old 0 new r → text ≡ another_line → f ≡ finding.Another
      → take r new ≡ found_line (found_says f)
  unfolding found_line pick
  line-another put e is = put.front ∙ e ∙ ap (λ x. found_line (found_says x)) (sym is)

  -- a bad line
  pub line-bad : (i : ℕ) {text : List ℕ} → text ≡ bad → f ≡ finding.Bad i → numbered_line text i ≡ found_line (found_says f)
  unfolding found_line pick
  line-bad i e is = ap (λ t. numbered_line t i) e ∙ ap (λ x. found_line (found_says x)) (sym is)

-- refusal 24, whose number is in the text
pub line-large : (n : ℕ) {text : List ℕ} {r : Refusal} → text ≡ refused ++ spaced 24 → r ≡ Large n
    → numbered_line text n ≡ found_line (refusal_says r)
unfolding found_line pick numbered_line refusal_line spaced_all
line-large n e is =
    ap (λ t. ended (t ++ spaced n)) e
    ∙ ap (λ t. ended t) (append_assoc refused (spaced 24) (spaced n) ∙ ap (λ t. refused ++ (spaced 24 ++ t)) (sym (append-nil (spaced n))))
    ∙ ap (λ x. found_line (refusal_says x)) (sym is)

-- what is found, or a refusal
module _ {c : Result Finding Refusal} where
  pub line-found : (f : Finding) → c ≡ Ok f → found_line (found_says f) ≡ found_line (checked_says c)
  line-found f is = ap (λ x. found_line (checked_says x)) (sym is)

  pub line-unchecked : (r : Refusal) → c ≡ Err r → refusal_line (refusal_says r) ≡ found_line (checked_says c)
  unfolding found_line
  line-unchecked r is = sym (pick-false _ _ _ (ne_eqb _ _ (refusal-number r))) ∙ ap (λ x. found_line (checked_says x)) (sym is)

-- two lines, computed: "bad 10" and "refused 24 65"
pub bad-shown : found_line (said 0 (0 ∷ 10 ∷ [])) ≡ bad ++ 49 ∷ 48 ∷ 10 ∷ []
unfolding found_line pick numbered_line ended spaced decimal places first first_from
bad-shown = refl

pub large-shown : found_line (said 24 (65 ∷ [])) ≡ refused ++ 50 ∷ 52 ∷ 32 ∷ 54 ∷ 53 ∷ 10 ∷ []
unfolding found_line pick refusal_line ended spaced_all spaced decimal places first first_from
large-shown = refl
