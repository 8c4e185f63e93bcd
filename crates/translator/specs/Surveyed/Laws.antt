-- Laws of what a survey found: what a translation says follows from it. Assumes nothing.
use Rattle.std.specs.Prelude.{ℕ, ◌≤◌, ◌<◌, List, [], ◌∷◌, ◌≡◌, refl, length, Ok, Err}
use Rattle.std.proofs.Math.Decide.{ℕ_discrete, dec_lt}
use Rattle.std.proofs.Common.{arith, ap, ◌∙◌, lt-ltb, le-ltb, eq-eqb, ne_eqb}
use Rattle.std.proofs.Math.Path.{sym}
use Rattle.words.specs.Choice.Laws.{pick_true, pick-false}
use Rattle.book.specs.declared.Refusal.{Refusal}
use Rattle.book.specs.Said.{Said, said, accepted, refusal_says, Reading, reading_says}
use Rattle.book.specs.Said.Laws.{refusal-number}
use Rattle.translation.specs.Outcome.{translation_says, answer_says, Plays}
use Rattle.translation.specs.Outcome.Laws.{book-first, accepted-plays, exactly-12, written-says}
use Rattle.translator.specs.Surveyed.{Surveyed, fitted}
use Rattle.translator.specs.declared.Findings.{Findings}

accepted-reading : (x : Reading) → (reading_says x).number ≡ 0 → reading_says x ≡ accepted
accepted-reading (Ok u) z = refl
accepted-reading (Err f) z = absurd (refusal-number f z)

-- a book that is accepted plays
pub surveyed-plays : {b : List ℕ} {r : Findings} → Surveyed b r → (reading_says r.reading).number ≡ 0 → Plays b
surveyed-plays {b} {r} s z = (accepted-plays b).0 (sym s.says ∙ accepted-reading r.reading z)

pub fitted-says : {b : List ℕ} {r : Findings} → Surveyed b r → (out : List ℕ) {n : ℕ} → n ≡ length out
    → fitted (reading_says r.reading) r.end n ≡ translation_says b out
unfolding fitted translation_says
fitted-says {b} {r} s out {n} d = go (ℕ_discrete (reading_says r.reading).number 0) (dec_lt n r.end)
  where
    go : Dec ((reading_says r.reading).number ≡ 0) → Dec (n < r.end)
        → fitted (reading_says r.reading) r.end n ≡ translation_says b out
    go (no z) y = pick-false _ _ _ (ne_eqb _ 0 z) ∙ s.says ∙ sym (book-first b _ _ (λ e. z (ap (λ (x : Said). x.number) s.says ∙ e)))
    go (yes z) (yes y) =
        let m = s.ends z in
        pick_true _ _ _ (eq-eqb _ 0 z) ∙ pick_true _ _ _ (lt-ltb n r.end y)
        ∙ sym ((exactly-12 b out (r.end ∷ [])).1 (surveyed-plays s z, omega arith, ap (λ i. i ∷ []) m))
    go (yes z) (no y) =
        let m = s.ends z in
        pick_true _ _ _ (eq-eqb _ 0 z) ∙ pick-false _ _ _ (le-ltb n r.end (omega arith))
        ∙ ap (λ i. said 0 (i ∷ [])) m ∙ sym (written-says b out (surveyed-plays s z) (omega arith))

-- an output is written only of a book that is accepted
pub written-accepted : {b : List ℕ} {r : Findings} → Surveyed b r → (room : ℕ) {n i : ℕ} → n ≡ room
    → answer_says (Ok i) ≡ fitted (reading_says r.reading) r.end n → (reading_says r.reading).number ≡ 0
unfolding fitted
written-accepted {r = r} s room d e = go (ℕ_discrete (reading_says r.reading).number 0)
  where
    go : Dec ((reading_says r.reading).number ≡ 0) → (reading_says r.reading).number ≡ 0
    go (yes z) = z
    go (no z) = ap (λ (y : Said). y.number) (sym (pick-false _ _ _ (ne_eqb _ 0 z)) ∙ sym e)

-- ---- fitted, case by case
module _ (end room : ℕ) where
  pub fitted-refused : (f : Refusal) → refusal_says f ≡ fitted (refusal_says f) end room
  unfolding fitted
  fitted-refused f = sym (pick-false _ _ _ (ne_eqb _ 0 (refusal-number f)))

  pub fitted_short : room < end → said 12 (end ∷ []) ≡ fitted accepted end room
  unfolding fitted
  fitted_short h = sym (pick_true _ _ _ (eq-eqb 0 0 refl) ∙ pick_true _ _ _ (lt-ltb room end h))

  pub fitted-length : end ≤ room → said 0 (end ∷ []) ≡ fitted accepted end room
  unfolding fitted
  fitted-length h = sym (pick_true _ _ _ (eq-eqb 0 0 refl) ∙ pick-false _ _ _ (le-ltb room end h))
