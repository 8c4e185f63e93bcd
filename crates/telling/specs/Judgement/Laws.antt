-- Laws of a verdict's line: by the verdict. Assumes nothing.
use Rattle.std.specs.Prelude.{ℕ, List, [], ◌∷◌, ◌++◌, ◌≡◌, refl, take, Ok, Err}
use Rattle.std.proofs.Math.Path.{sym, ap}
use Rattle.std.proofs.Common.{◌∙◌, ne_eqb}
use Rattle.words.specs.Choice.{pick}
use Rattle.words.specs.Choice.Laws.{pick-false}
use Rattle.words.specs.First.{first, first_from}
use Rattle.book.specs.declared.Refusal.{Refusal}
use Rattle.book.specs.Said.{said, refusal_says}
use Rattle.book.specs.Said.Laws.{refusal-number}
use Rattle.renaming.specs.declared.Verdict.TheVariants.{Same, Differs}
use Rattle.renaming.specs.Verdict.{Judgement, verdict_says}
use Rattle.line.specs.Line.{places, decimal, spaced, ended, refusal_line, Put}
use Rattle.telling.specs.Numbered.{numbered_line}
use Rattle.telling.specs.Judgement.{same_line, differs, judgement_line}

-- the word "same", put at the line's start
module _ {verdict : Judgement} where
  pub line_same : {text old new : List ℕ} {r : ℕ} → Put text old 0 new r → text ≡ same_line → verdict ≡ Ok Same
      → take r new ≡ judgement_line (verdict_says verdict)
  unfolding judgement_line pick
  line_same put e is = put.front ∙ e ∙ ap (λ v. judgement_line (verdict_says v)) (sym is)

  pub line-differs : (k : ℕ) {text : List ℕ} → text ≡ differs → verdict ≡ Ok (Differs k)
      → numbered_line text k ≡ judgement_line (verdict_says verdict)
  unfolding judgement_line pick
  line-differs k e is = ap (λ t. numbered_line t k) e ∙ ap (λ v. judgement_line (verdict_says v)) (sym is)

  pub line-unjudged : (f : Refusal) → verdict ≡ Err f → refusal_line (refusal_says f) ≡ judgement_line (verdict_says verdict)
  unfolding judgement_line
  line-unjudged f is = sym (pick-false _ _ _ (ne_eqb _ _ (refusal-number f))) ∙ ap (λ v. judgement_line (verdict_says v)) (sym is)

-- a line, computed: "differs 10"
pub differs-shown : judgement_line (said 0 (0 ∷ 10 ∷ [])) ≡ differs ++ 49 ∷ 48 ∷ 10 ∷ []
unfolding judgement_line pick numbered_line ended spaced decimal places first first_from
differs-shown = refl
