-- Laws of a party's walk. Assumes nothing.
use Rattle.std.specs.Prelude.{ℕ, zero, suc, ◌+◌, ◌-◌, ◌≤◌, ◌<◌, Bool, List, false, ◌≡◌, length, eqb}
use Rattle.std.proofs.Common.{true≢false, add-zero, add-suc, arith, sym, ap, ◌∙◌, eq-eqb, ne_eqb}
use Rattle.words.specs.Choice.Laws.{pick-false, or_left, or_right}
use Rattle.book.specs.Layout.{steps, sender, receiver}
use Rattle.translation.specs.Receive.{followed}
use Rattle.translation.specs.Steps.{before}
use Rattle.translation.proofs.Steps.Laws.{followed-nothing, step-idle, before_more}
use Rattle.walking.specs.Walk.{refused_for, own_step, IdleUntil}

-- ---- steps in which the party has no part
module _ (b : List ℕ) (p : ℕ) where
  before-idle : (i d : ℕ) → ((k : ℕ) → i ≤ k → k < i + d → (sender b k ≡ p → ⊥) × (receiver b k ≡ p → ⊥))
      → before b p (i + d) ≡ before b p i
  before-idle i zero h = ap (before b p) (add-zero i)
  before-idle i (suc d) h =
      let n = h (i + d) (omega arith) (omega arith) in
      let g = before b p (i + d) in
      ap (before b p) (add-suc i d) ∙ before_more b p (i + d)
      ∙ ap (followed g) (step-idle b p (i + d) g.dictionary (length g.given) n.0 n.1) ∙ followed-nothing g
      ∙ before-idle i d (λ k x y. h k x (omega arith))

  pub before-skip : {i r : ℕ} → IdleUntil b p i r → before b p r ≡ before b p i
  before-skip {i} {r} n =
      let l = n.from in
      let e : i + (r - i) ≡ r = omega arith in
      ap (before b p) (sym e) ∙ before-idle i (r - i) (λ k x y. n.idle k x (omega arith))

  pub refused-idle : (k : ℕ) → (sender b k ≡ p → ⊥) → refused_for b p k ≡ false
  unfolding refused_for
  refused-idle k n = pick-false _ _ _ (ne_eqb (sender b k) p n)

-- step s is not the party's, as code asked
pub idle-step : {b : List ℕ} {p s : ℕ} {x : Bool} → s < steps b → x ≡ own_step b p s → x ≡ false → IdleUntil b p s (s + 1)
idle-step {b} {p} {s} h d e =
    let n : own_step b p s ≡ false = sym d ∙ e in
    record {
      from = omega arith;
      within = omega arith;
      idle = λ k x m. let z : k ≡ s = omega arith in rw z (
        (λ q. true≢false (sym (or_left (eqb (sender b s) p) _ (eq-eqb (sender b s) p q)) ∙ n)),
        (λ q. true≢false (sym (or_right (eqb (sender b s) p) _ (eq-eqb (receiver b s) p q)) ∙ n)),
      );
    }
