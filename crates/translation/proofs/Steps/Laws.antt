-- Laws of a party's program step by step. Assumes nothing.
use Prim.Native.Nat.{ℕ, zero, suc, ◌+◌, ◌≤◌, ◌<◌}
use Rattle.std.proofs.Math.Nat.{zero-add}
use mathlib.Core.List.{List, [], ◌∷◌, ◌++◌, map, append-nil}
use Rattle.std.specs.Prelude.{◌≡◌}
use Rattle.std.proofs.Math.Path.{refl, ap, ap₂}
use Rattle.std.proofs.Common.{◌∙◌, eq-eqb, ne_eqb}
use native.Mathlib.Omega.{arith}
use Rattle.std.proofs.Math.Decide.{ℕ_discrete}
use Rattle.std.proofs.Math.ListN.{length}
use Rattle.words.specs.Run.{values}
use Rattle.words.specs.Run.Laws.{values-last, values_length, values-get_d, values-take}
use Rattle.terms.specs.Term.{count}
use Rattle.terms.specs.Table.{term, terms}
use Rattle.book.specs.Layout.{table, parties, steps, known, sender, receiver, messages}
use Rattle.translation.specs.Dictionary.{Dictionary, start}
use Rattle.translation.specs.Dictionary.Laws.{Grows}
use Rattle.translation.specs.Build.{build_all}
use Rattle.translation.specs.Receive.{Did, Event, nothing, followed, receive_all}
use Rattle.translation.specs.Program.{Act, acts_of, act, walk, walked, program, sent, arrived}
use Rattle.translation.proofs.Program.Laws.{acts-sends, acts-receives, acts-idle, acts-append, walk-append, walk-grows}
use Rattle.translation.specs.Narration.{step_at, narration, known_to, program_of}
use Rattle.translation.specs.Taken.{holds_before}
use Rattle.translation.specs.Steps.{step_did, before}

-- ---- a Did with nothing behind it
pub followed-nothing : (d : Did) → followed d (nothing d.dictionary) ≡ d
followed-nothing d =
    λ i. record { dictionary = d.dictionary; given = append-nil d.given i; events = append-nil d.events i; stored = append-nil d.stored i }

walk-one : (a : Act) (δ : Dictionary) (n : ℕ) → walk (a ∷ []) δ n ≡ act a δ n
unfolding walk
walk-one a δ n = followed-nothing (act a δ n)

-- ---- one step, by who the party is in it
module _ (b : List ℕ) (p i : ℕ) (δ : Dictionary) (n : ℕ) where
  pub step-sends : sender b i ≡ p → step_did b p i δ n ≡ sent i (build_all i (terms (table b) (messages b i)) δ)
  unfolding step_did step_at act terms acts_of
  step-sends e =
      ap (λ l. walk l δ n) (acts-sends p i (step_at b i) [] (eq-eqb (sender b i) p e))
      ∙ walk-one (Act.sends i (terms (table b) (messages b i))) δ n

  pub step-receives : (sender b i ≡ p → ⊥) → receiver b i ≡ p
      → step_did b p i δ n ≡ followed (arrived i (terms (table b) (messages b i)) δ n)
      (receive_all i (terms (table b) (messages b i)) n δ (n + count (terms (table b) (messages b i))))
  unfolding step_did step_at act terms acts_of
  step-receives e f =
      ap (λ l. walk l δ n) (acts-receives p i (step_at b i) [] (ne_eqb (sender b i) p e) (eq-eqb (receiver b i) p f))
      ∙ walk-one (Act.receives i (terms (table b) (messages b i))) δ n

  pub step-idle : (sender b i ≡ p → ⊥) → (receiver b i ≡ p → ⊥) → step_did b p i δ n ≡ nothing δ
  unfolding step_did step_at acts_of walk
  step-idle e f = ap (λ l. walk l δ n) (acts-idle p i (step_at b i) [] (ne_eqb (sender b i) p e) (ne_eqb (receiver b i) p f))

-- ---- the steps before a step
module _ (b : List ℕ) (p : ℕ) where
  pub before-none : before b p 0 ≡ nothing (start (map (term (table b)) (known b p)))
  unfolding before walked walk acts_of values
  before-none = refl

  pub before_more : (i : ℕ) → before b p (suc i) ≡ followed (before b p i) (step_did b p i (before b p i).dictionary (length (before b p i).given))
  unfolding before walked step_did
  before_more i =
      let δ = start (map (term (table b)) (known b p)) in
      let w = walk (acts_of p 0 (values (step_at b) 0 i)) δ 0 in
      let past = values (step_at b) 0 i in
      let z : 0 + length past ≡ i = zero-add (length past) ∙ values_length (step_at b) 0 i in
      ap (λ l. walk (acts_of p 0 l) δ 0) (values-last (step_at b) 0 i ∙ ap (λ k. past ++ step_at b k ∷ []) (zero-add i))
      ∙ ap (λ l. walk l δ 0) (acts-append p 0 past (step_at b i ∷ []) ∙ ap (λ k. acts_of p 0 past ++ acts_of p k (step_at b i ∷ [])) z)
      ∙ walk-append (acts_of p 0 past) (acts_of p i (step_at b i ∷ [])) δ 0
      ∙ ap (λ k. followed w (walk (acts_of p i (step_at b i ∷ [])) w.dictionary k)) (zero-add (length w.given))

  -- what is held before a step is held before each later one
  pub before-grows : (i m : ℕ) → i ≤ m → Grows (before b p i).dictionary (before b p m).dictionary
  unfolding step_did
  before-grows i zero l u h = let z : i ≡ 0 = omega arith in rw z at h
  before-grows i (suc m) l u h = elim (ℕ_discrete i (suc m)) [
    | yes e ↦ rw e at h
    | no n ↦
        rw (before_more m) (walk-grows _ (before b p m).dictionary (length (before b p m).given) u (before-grows i m (omega arith) u h))
  ]

  module _ (h : p < parties b) where
    knows : known_to (narration b) p ≡ map (term (table b)) (known b p)
    unfolding known_to narration
    knows = values-get_d (λ q. map (term (table b)) (known b q)) 0 (parties b) p [] h ∙ ap (λ q. map (term (table b)) (known b q)) (zero-add p)

    -- the whole program
    pub before-all : program_of (narration b) p ≡ (before b p (steps b)).events ++ Event.ends (before b p (steps b)).stored ∷ []
    unfolding program_of program before narration
    before-all = ap (λ k. program k (acts_of p 0 (values (step_at b) 0 (steps b)))) knows

    -- what refusals 10 and 13 look at
    pub before-holds : (i : ℕ) → i ≤ steps b → holds_before (narration b) p i ≡ (before b p i).dictionary
    unfolding holds_before before narration
    before-holds i l = ap₂ (λ k s. (walked k (acts_of p 0 s)).dictionary) knows (values-take (step_at b) 0 (steps b) i l)
