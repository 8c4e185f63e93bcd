-- Laws of a value changed at one number. Assumes nothing.
use Rattle.std.specs.Prelude.{ℕ, ◌≡◌, refl, eqb}
use Rattle.std.proofs.Common.{ap, eqb-true, eq-eqb, ne_eqb}
use Rattle.std.proofs.Math.Path.{fun_ext}
use Rattle.std.proofs.lemmas.Bool.{eqb-false}
use Rattle.words.specs.Choice.Laws.{pick_ind, pick_true, pick-false, pick-ap}
use Rattle.agreement.specs.Change.{change}

module _ {A : Type 0} (f : ℕ → A) (p : ℕ) (a : A) where
  pub change-ind : (P : A → Type 0) (q : ℕ) → (p ≡ q → P a) → ((p ≡ q → ⊥) → P (f q)) → P (change f p a q)
  unfolding change
  change-ind P q g h = pick_ind P (eqb p q) a (f q) (λ e. g (eqb-true p q e)) (λ e. h (eqb-false p q e))

  pub change-same : change f p a p ≡ a
  unfolding change
  change-same = pick_true (eqb p p) a (f p) (eq-eqb p p refl)

  pub change-other : (q : ℕ) → (p ≡ q → ⊥) → change f p a q ≡ f q
  unfolding change
  change-other q n = pick-false (eqb p q) a (f q) (ne_eqb p q n)

-- a function goes inside
pub change-ap : {A B : Type 0} (g : A → B) (f : ℕ → A) (p : ℕ) (a : A) (q : ℕ) → g (change f p a q) ≡ change (λ x. g (f x)) p (g a) q
unfolding change
change-ap g f p a q = pick-ap g (eqb p q) a (f q)

-- what is there already changes nothing
pub change-none : {A : Type 0} (f : ℕ → A) (p : ℕ) → change f p (f p) ≡ f
change-none f p = fun_ext (λ q. change-ind f p (f p) (λ a. a ≡ f q) q (λ e. ap f e) (λ n. refl))
