-- The verdict, from how far the program agrees. Assumes nothing.
use Rattle.std.specs.Prelude.{ℕ, ◌<◌, Ok, Err, List, [], ◌∷◌, ◌++◌, ◌≡◌, refl, length}
use Rattle.std.proofs.Common.{append-nil, arith, ap, ◌∙◌}
use Rattle.std.proofs.Math.Path.{sym}
use borrow.Author.Tests.{eq-eqb, ne_eqb}
use Rattle.words.specs.Choice.Laws.{pick_true, pick-false}
use Rattle.octets.specs.Octets.{words_in}
use Rattle.octets.specs.Octets.Laws.{words-length}
use Rattle.book.specs.Layout.{parties}
use Rattle.translation.specs.Outcome.{Plays}
use Rattle.renaming.specs.Renaming.{all_agree, place_of}
use Rattle.renaming.specs.Verdict.{verdict_says, judged}
use Rattle.renaming.proofs.Verdicts.Returned.{same-judged, differs-judged}
use Rattle.renaming.specs.declared.Verdict.TheVariants as verdicts
use Rattle.following.specs.declared.Far.{Far}
use Rattle.naming.specs.Mirror.{theirs}
use Rattle.judge.specs.Program.{ProgramFollowed}

module _ {b : List ℕ} {p : ℕ} {ws : List ℕ} (q : Plays b) (h : p < parties b) where
  -- a word doesn't agree
  pub judged-broken : {k : ℕ} → ProgramFollowed b p ws (Err k) → verdict_says (Ok (verdicts.Differs k)) ≡ judged b p ws
  unfolding all_agree place_of
  judged-broken {k} g = differs-judged b p ws q h (pick-false _ _ _ g.whole) k (sym g.at)

  -- all words of ours agree, and theirs go on
  pub judged-longer : {r : Far} {n : ℕ} → ProgramFollowed b p ws (Ok r) → n ≡ length ws → (r.at ≡ n → ⊥)
      → verdict_says (Ok (verdicts.Differs r.at)) ≡ judged b p ws
  unfolding all_agree place_of
  judged-longer {r} g e z =
      differs-judged b p ws q h (pick_true _ _ _ g.whole ∙ ne_eqb _ _ (λ t. z (sym g.at ∙ t ∙ sym e))) r.at (sym g.at)

  -- all words agree
  pub judged-same : {r : Far} {n : ℕ} → ProgramFollowed b p ws (Ok r) → n ≡ length ws → r.at ≡ n
      → verdict_says (Ok verdicts.Same) ≡ judged b p ws
  unfolding all_agree
  judged-same g e z = same-judged b p ws q h (pick_true _ _ _ g.whole ∙ eq-eqb _ _ (g.at ∙ z ∙ e))

-- ---- words alone, or bytes alone
none-long : (l : List ℕ) → length l ≡ 0 → l ≡ []
none-long [] e = refl
none-long (x ∷ l) e = absurd (omega arith)

pub theirs-alone : (ws : List ℕ) → theirs ws [] ≡ ws
theirs-alone ws = ap (λ (l : List ℕ). ws ++ l) (none-long (words_in []) (words-length [])) ∙ append-nil ws
