-- Laws of a reply's line: by the reply. Assumes nothing.
use Rattle.std.specs.Prelude.{ℕ, List, ◌≡◌, true, false, take, Ok, Err}
use Rattle.std.proofs.Common.{sym, ◌∙◌, ne_eqb}
use Rattle.std.proofs.Math.Path.{ap}
use Rattle.words.specs.Choice.{pick}
use Rattle.words.specs.Choice.Laws.{pick-false}
use Rattle.book.specs.declared.Refusal.{Refusal}
use Rattle.book.specs.Said.{refusal_says}
use Rattle.book.specs.Said.Laws.{refusal-number}
use Rattle.summary.specs.Reply.{Reply, reply_says}
use Rattle.line.specs.Line.{refusal_line, Put}
use Rattle.telling.specs.Reply.{yes_line, no_line, reply_line}

-- the word "yes", put at the line's start, and the word "no"
module _ {text old new : List ℕ} {r : ℕ} (put : Put text old 0 new r) {reply : Reply} where
  pub line-yes : text ≡ yes_line → reply ≡ Ok true → take r new ≡ reply_line (reply_says reply)
  unfolding reply_line pick
  line-yes e is = put.front ∙ e ∙ ap (λ a. reply_line (reply_says a)) (sym is)

  pub line-no : text ≡ no_line → reply ≡ Ok false → take r new ≡ reply_line (reply_says reply)
  unfolding reply_line pick
  line-no e is = put.front ∙ e ∙ ap (λ a. reply_line (reply_says a)) (sym is)

-- and a refusal's line
pub line-refusal : (f : Refusal) {reply : Reply} → reply ≡ Err f → refusal_line (refusal_says f) ≡ reply_line (reply_says reply)
unfolding reply_line
line-refusal f is = sym (pick-false _ _ _ (ne_eqb _ _ (refusal-number f))) ∙ ap (λ a. reply_line (reply_says a)) (sym is)
