-- Laws of a party's part in the steps. Assumes nothing.
use Rattle.std.specs.Prelude.{ℕ, suc, ◌≤◌, ◌<◌, ◌≡◌, refl, eqb}
use Rattle.std.proofs.Math.Decide.{ℕ_discrete}
use Rattle.std.proofs.Common.{le_trans, le_refl, arith, sym, ap₂, ◌∙◌}
use mathlib.Core.List.{List, [], ◌∷◌, ◌++◌, append_assoc, Memᴰ}
use Rattle.std.proofs.Math.Path.{ap, subst}
use Rattle.std.proofs.Math.ListN.{length, length-append}
use Rattle.std.proofs.Math.Seq.{get_or-append_seam}
use borrow.Author.Tests.{eqb-true, eqb-false}
use Rattle.words.specs.Choice.Laws.{pick_ind}
use Rattle.translation.specs.Program.{Step, Act, acts_of}
use Rattle.translation.specs.Narration.{Narration}
use Rattle.translation.specs.Taken.{step_of}
use Rattle.agreement.specs.Agree.{Narrated}
use Rattle.agreement.specs.Safe.Laws.{ActsNarrated}
use Rattle.agreement.specs.Acts.{ActsFrom}

module _ (N : Narration) where
  -- the step behind those of `before`
  pub step-seam : (before : List Step) (a : Step) (later : List Step) → N.says ≡ before ++ a ∷ later → step_of N (length before) ≡ a
  unfolding step_of
  step-seam before a later e = rw e (get_or-append_seam before a later _)

  narrated-seam : (before : List Step) (a : Step) (later : List Step) → N.says ≡ before ++ a ∷ later → Narrated N (length before) a.messages
  narrated-seam before a later e =
      let l = ap length e ∙ length-append before (a ∷ later) in
      record { within = omega arith; messages = ap (λ (b : Step). b.messages) (step-seam before a later e) }

  -- one step more stands before the rest
  pub split-on : (before : List Step) (a : Step) (later : List Step) → N.says ≡ before ++ a ∷ later → N.says ≡ (before ++ a ∷ []) ++ later
  split-on before a later e = e ∙ sym (append_assoc before (a ∷ []) later)

  pub length-on : (before : List Step) (a : Step) → length (before ++ a ∷ []) ≡ suc (length before)
  length-on before a = let l = length-append before (a ∷ []) in omega arith

  module _ (p : ℕ) where
    acts-low : {low high : ℕ} {acts : List Act} → low ≤ high → ActsFrom N p high acts → ActsFrom N p low acts
    acts-low l ActsFrom.nil = ActsFrom.nil
    acts-low l (ActsFrom.sends m w e r) = ActsFrom.sends (le_trans l m) w e r
    acts-low l (ActsFrom.receives m w e r) = ActsFrom.receives (le_trans l m) w e r

    own-acts-from : (before later : List Step) → N.says ≡ before ++ later → ActsFrom N p (length before) (acts_of p (length before) later)
    unfolding acts_of
    own-acts-from before [] e = ActsFrom.nil
    own-acts-from before (a ∷ later) e =
        let rest : ActsFrom N p (suc (length before)) (acts_of p (suc (length before)) later) =
        subst (λ n. ActsFrom N p n (acts_of p n later)) (length-on before a) (own-acts-from (before ++ a ∷ []) later (split-on before a later e)) in
        let w = narrated-seam before a later e in
        let z = step-seam before a later e in
        pick_ind (ActsFrom N p (length before)) (eqb a.sender p) _ _
        (λ c. ActsFrom.sends (le_refl _) w (ap (λ (b : Step). b.sender) z ∙ eqb-true _ _ c) rest)
        (λ c. pick_ind (ActsFrom N p (length before)) (eqb a.receiver p) _ _
        (λ d. ActsFrom.receives (le_refl _) w (ap (λ (b : Step). b.receiver) z ∙ eqb-true _ _ d) rest)
        (λ d. acts-low (omega arith) rest))

    pub own-acts : ActsFrom N p 0 (acts_of p 0 N.says)
    own-acts = own-acts-from [] N.says refl

    pub acts-narrated : {low : ℕ} {acts : List Act} → ActsFrom N p low acts → ActsNarrated N acts
    acts-narrated ActsFrom.nil = tt
    acts-narrated (ActsFrom.sends m w e r) = (w, acts-narrated r)
    acts-narrated (ActsFrom.receives m w e r) = (w, acts-narrated r)

    -- a step that the party sends is among its acts
    own-sends-from : (before later : List Step) (s : ℕ) → N.says ≡ before ++ later → length before ≤ s → s < length N.says
        → (step_of N s).sender ≡ p → Memᴰ (Act.sends s (step_of N s).messages) (acts_of p (length before) later)
    unfolding acts_of
    own-sends-from before [] s e l m c = let n = ap length e ∙ length-append before [] in absurd (omega arith)
    own-sends-from before (a ∷ later) s e l m c =
        go (ℕ_discrete (length before) s)
        (λ q. subst (λ n. Memᴰ (Act.sends s (step_of N s).messages) (acts_of p n later)) (length-on before a)
        (own-sends-from (before ++ a ∷ []) later s (split-on before a later e) (let n = length-on before a in omega arith) m c))
      where
        acts : List Act
        acts = acts_of p (suc (length before)) later

        go : Dec (length before ≡ s) → (suc (length before) ≤ s → Memᴰ (Act.sends s (step_of N s).messages) acts)
            → Memᴰ (Act.sends s (step_of N s).messages) (acts_of p (length before) (a ∷ later))
        go (yes q) r =
            let z : step_of N s ≡ a = ap (step_of N) (sym q) ∙ step-seam before a later e in
            unfold acts_of in
            pick_ind (Memᴰ (Act.sends s (step_of N s).messages)) (eqb a.sender p) _ _
            (λ d. Memᴰ.head (ap₂ Act.sends (sym q) (ap (λ (b : Step). b.messages) z)))
            (λ d. absurd (eqb-false _ _ d (sym (ap (λ (b : Step). b.sender) z) ∙ c)))
        go (no q) r =
            unfold acts_of in
            pick_ind (Memᴰ (Act.sends s (step_of N s).messages)) (eqb a.sender p) _ _ (λ d. Memᴰ.tail (r (omega arith)))
            (λ d. pick_ind (Memᴰ (Act.sends s (step_of N s).messages)) (eqb a.receiver p) _ _ (λ f. Memᴰ.tail (r (omega arith)))
            (λ f. r (omega arith)))

    pub own-sends-in : (s : ℕ) → s < length N.says → (step_of N s).sender ≡ p
        → Memᴰ (Act.sends s (step_of N s).messages) (acts_of p 0 N.says)
    own-sends-in s m c = own-sends-from [] N.says s refl (omega arith) m c
