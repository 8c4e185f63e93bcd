-- Laws of finding: refusal 20, then 21 by party, row and step, and else the place of the word. Assumes nothing.
use Rattle.std.specs.Prelude.{ℕ, ◌+◌, ◌*◌, ◌≤◌, ◌<◌, List, [], ◌∷◌, ◌≡◌, refl, get_or, leb, Bool, true, false, Ok, Err}
use Rattle.std.proofs.Math.Path.{sym, ap}
use Rattle.std.proofs.Common.{ap₂, ◌∙◌}
use native.Mathlib.Omega.{arith}
use Rattle.words.specs.Choice.{pick}
use Rattle.book.specs.Said.{said, refusal_says}
use Rattle.book.specs.declared.Refusal.{Refusal}
use Rattle.book.specs.declared.Refusal.TheVariants.{Summary, Question}
use Rattle.summary.specs.Summary.{front, answered, asked, Fits, OutOfRange}
use Rattle.summary.specs.Summary.Question.{exactly-20, exactly-21, asked-answers}
use Rattle.summary.specs.Found.{Begins, Decides, Finds}
use Rattle.summary.specs.Reply.{reply_says}

module _ (n q w l p r t : ℕ) where
  -- of words that begin so: they are as many as they have to be exactly if n is
  asks : (s : List ℕ) → Begins s n q w l → front + get_or s 0 0 * get_or s 1 0 ≡ front + q * w
  asks s b = ap₂ (λ x y. front + x * y) b.parties b.rows

  pub found-misfit : (n ≡ front + q * w → ⊥) → Finds n q w l p r t (Err (Summary n))
  found-misfit h s b =
      (exactly-20 s p r t (n ∷ [])).1 (λ f. h (sym b.many ∙ f ∙ asks s b), ap (λ k. k ∷ []) (sym b.many))

  module _ (fits : n ≡ front + q * w) where
    fit : (s : List ℕ) → Begins s n q w l → Fits s
    fit s b = b.many ∙ fits ∙ sym (asks s b)

    pub found-party : q ≤ p → Finds n q w l p r t (Err (Question p))
    found-party h s b = let e = b.parties in (exactly-21 s p r t (p ∷ [])).1 (fit s b, OutOfRange.party (omega arith) refl)

    pub found-row : p < q → w ≤ r → Finds n q w l p r t (Err (Question r))
    found-row g h s b =
        let e = b.parties in
        let f = b.rows in
        (exactly-21 s p r t (r ∷ [])).1 (fit s b, OutOfRange.row (omega arith) (omega arith) refl)

    pub found-step : p < q → r < w → l ≤ t → Finds n q w l p r t (Err (Question t))
    found-step g i h s b =
        let e = b.parties in
        let f = b.rows in
        let k = b.steps in
        (exactly-21 s p r t (t ∷ [])).1 (fit s b, OutOfRange.step (omega arith) (omega arith) (omega arith) refl)

    pub found_at : p < q → r < w → t < l → (i : ℕ) → i ≡ front + p * w + r → Finds n q w l p r t (Ok i)
    unfolding answered
    found_at g h j i e s b =
        let x = b.parties in
        let y = b.rows in
        let z = b.steps in
        asked-answers s p r t (fit s b) (omega arith, omega arith, omega arith)
        ∙ ap (λ k. said 0 (pick (leb (get_or s k 0) (t + 1)) 1 0 ∷ [])) (ap (λ k. front + p * k + r) y ∙ sym e)

-- ---- what is replied of it
module _ (s : List ℕ) (p r t : ℕ) where
  pub replied-refused : (g : Refusal) → Decides s p r t (Err g) → refusal_says g ≡ asked s p r t
  replied-refused g d = sym d

  pub replied-at : (i v : ℕ) (x : Bool) → Decides s p r t (Ok i) → v ≡ get_or s i 0 → x ≡ leb v (t + 1) → reply_says (Ok x) ≡ asked s p r t
  unfolding pick
  replied-at i v x d e h = says x ∙ ap (λ y. said 0 (pick y 1 0 ∷ [])) (h ∙ ap (λ k. leb k (t + 1)) e) ∙ sym d
    where
      says : (y : Bool) → reply_says (Ok y) ≡ said 0 (pick y 1 0 ∷ [])
      says true = refl
      says false = refl
