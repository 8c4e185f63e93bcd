-- The rules of terms (definition 13), as tests of their parts. Assumes nothing.
use Rattle.std.specs.Prelude.{ℕ, zero, suc, ◌≤◌, Bool, true, false, ◌&&◌, List, [], ◌∷◌, ◌≡◌, refl, eqb}
use Rattle.std.proofs.Common.{sym, ◌∙◌, ap, arith}
use Rattle.words.specs.Choice.{pick}
use Rattle.typing.specs.Term.{Term, same_term}
use Rattle.typing.specs.Types.{Ty, Environment, ◌⦂◌, same_type, same_environment}
use Rattle.typing.specs.Judgement.{Judgement}
use Rattle.typing.specs.Rule.{Rule, putting}
use Rattle.typing.specs.Check.{left, right, name_of, second, promised, parts_of, environment_of, term_of, type_of, effects_of, process_of, first, rest, printed, asks, stands, follows}
use Rattle.alike.specs.Same.{test}
use Rattle.alike.specs.Same.Laws.{test-no}
use Rattle.ruling.specs.Rules.{join, join_Un}
use Rattle.ruling.specs.Rules.Decide.{◌&◌, is, itself, same-tests, by-tests, never-follows}
use Rattle.ruling.specs.Line.Terms.{code_of, join-code}

-- ---- a term that is made of two
-- it is another if its word is
pub joined-other : (M A B : Term) (c : ℕ) (b : Bool) → 2 ≤ c → c ≤ 3 → (code_of M ≡ c → ⊥) → false ≡ (test (same_term M (join c A B)) && b)
joined-other M A B c b l h d = rw (test-no (same_term M (join c A B)) (λ e. d (ap code_of e ∙ join-code c A B l h)))

-- it is the same if both are
pub joined-parts : (M A B M1 M2 : Term) (c : ℕ) (E E1 E2 : Environment) → M ≡ join c A B
    → (test (same_term M (join c M1 M2)) && (test (same_environment E1 E) && test (same_environment E2 E)))
    ≡ ((test (same_environment E1 E) && test (same_term M1 A)) && (test (same_environment E2 E) && test (same_term M2 B)))
unfolding join pick
joined-parts M A B M1 M2 c E E1 E2 m =
    same-tests (is (same_term M (join c M1 M2)) & is (same_environment E1 E) & is (same_environment E2 E))
    ((is (same_environment E1 E) & is (same_term M1 A)) & (is (same_environment E2 E) & is (same_term M2 B)))
    (λ p.
    let e = parts (eqb c 2) (sym m ∙ p.0) in
    ((p.1.0, sym e.0), (p.1.1, sym e.1)))
    (λ p.
    let f = p.0.1 in
    let g = p.1.1 in
    (cc, (p.0.0, p.1.0)))
  where
    parts : (b : Bool) → pick b (Term.pair A B) (Term.cipher A B) ≡ pick b (Term.pair M1 M2) (Term.cipher M1 M2) → (A ≡ M1) × (B ≡ M2)
    parts true e = (cc, cc)
    parts false e = (cc, cc)

-- ---- the rules
-- E', x : T, E'' ⊢ ⋄  ⟹  E', x : T, E'' ⊢ x : T
pub name : (E E1 : Environment) (M0 : Term) (x : ℕ) (T : Ty) → M0 ≡ Term.name x
    → follows Rule.name (Judgement.environment E1 ∷ []) (Judgement.term E M0 T) ≡ (test (same_environment E1 E) && stands (x ⦂ T) E)
unfolding left right name_of second promised parts_of environment_of term_of type_of effects_of process_of first rest printed asks
name E E1 M0 x T m =
    rw (m) (by-tests (is (same_environment E1 E) & itself (stands (x ⦂ T) E))
    (λ p. record { premises = cc; conclusion = cc; asked = p.1 })
    (λ w.
    let p = w.premises in
    let q = w.conclusion in
    (cc, w.asked)))

-- E ⊢ M : T, E ⊢ N : U[M/x]  ⟹  E ⊢ (M, N) : (x : T, U)
pub pair : (E E1 E2 : Environment) (M0 M1 M2 : Term) (T0 T S T1 T2 : Ty) → T0 ≡ Ty.pair T S
    → follows Rule.pair (Judgement.term E1 M1 T1 ∷ Judgement.term E2 M2 T2 ∷ []) (Judgement.term E M0 T0)
    ≡ ((test (same_term M0 (Term.pair M1 M2)) && (test (same_environment E1 E) && test (same_environment E2 E)))
    && (test (same_type T T1) && test (same_type T2 (putting M1 S))))
unfolding left right name_of second promised parts_of environment_of term_of type_of effects_of process_of first rest printed asks
pair E E1 E2 M0 M1 M2 T0 T S T1 T2 n =
    rw (n) (by-tests ((is (same_term M0 (Term.pair M1 M2)) & is (same_environment E1 E) & is (same_environment E2 E))
    & is (same_type T T1) & is (same_type T2 (putting M1 S)))
    (λ p. rw p.0.0 (record { premises = cc; conclusion = cc; asked = refl }))
    (λ w.
    let p = w.premises in
    let q = w.conclusion in
    ((cc, (cc, cc)), (cc, cc))))

-- the same of a pair by its parts, with its own first part put in
pub pair-parts : (E E1 E2 : Environment) (M0 A B M1 M2 : Term) (T0 T S T1 T2 : Ty) → M0 ≡ Term.pair A B → T0 ≡ Ty.pair T S
    → follows Rule.pair (Judgement.term E1 M1 T1 ∷ Judgement.term E2 M2 T2 ∷ []) (Judgement.term E M0 T0)
    ≡ ((test (same_environment E1 E) && test (same_term M1 A)) && ((test (same_environment E2 E) && test (same_term M2 B))
    && (test (same_type T T1) && test (same_type T2 (putting A S)))))
unfolding left right name_of second promised parts_of environment_of term_of type_of effects_of process_of first rest printed asks
pair-parts E E1 E2 M0 A B M1 M2 T0 T S T1 T2 m n =
    rw (m, n) (by-tests ((is (same_environment E1 E) & is (same_term M1 A)) & (is (same_environment E2 E) & is (same_term M2 B))
    & is (same_type T T1) & is (same_type T2 (putting A S)))
    (λ p.
    let a = p.0.1 in
    record { premises = cc; conclusion = cc; asked = refl })
    (λ w.
    let p = w.premises in
    let q = w.conclusion in
    ((cc, cc), ((cc, cc), (cc, cc)))))

-- E ⊢ M : T, E ⊢ N : symkey(T)  ⟹  E ⊢ {M}N : Un
pub cipher : (E E1 E2 : Environment) (M0 M1 M2 : Term) (T T1 T2 : Ty)
    → follows Rule.cipher (Judgement.term E1 M1 T1 ∷ Judgement.term E2 M2 T2 ∷ []) (Judgement.term E M0 T)
    ≡ ((test (same_term M0 (Term.cipher M1 M2)) && (test (same_environment E1 E) && test (same_environment E2 E)))
    && (test (same_type T Ty.Un) && test (same_type T2 (Ty.symkey T1))))
unfolding left right name_of second promised parts_of environment_of term_of type_of effects_of process_of first rest printed asks
cipher E E1 E2 M0 M1 M2 T T1 T2 =
    by-tests ((is (same_term M0 (Term.cipher M1 M2)) & is (same_environment E1 E) & is (same_environment E2 E))
    & is (same_type T Ty.Un) & is (same_type T2 (Ty.symkey T1)))
    (λ p. rw p.0.0 (record { premises = cc; conclusion = cc; asked = refl }))
    (λ w.
    let p = w.premises in
    let q = w.conclusion in
    ((cc, (cc, cc)), (cc, cc)))

-- E ⊢ M : Un, E ⊢ N : Un  ⟹  E ⊢ {M}N : Un
cipher-Un : (E E1 E2 : Environment) (M0 M1 M2 : Term) (T T1 T2 : Ty)
    → follows Rule.cipher-Un (Judgement.term E1 M1 T1 ∷ Judgement.term E2 M2 T2 ∷ []) (Judgement.term E M0 T)
    ≡ ((test (same_term M0 (Term.cipher M1 M2)) && (test (same_environment E1 E) && test (same_environment E2 E)))
    && (test (same_type T Ty.Un) && (test (same_type T1 Ty.Un) && test (same_type T2 Ty.Un))))
unfolding left right name_of second promised parts_of environment_of term_of type_of effects_of process_of first rest printed asks
cipher-Un E E1 E2 M0 M1 M2 T T1 T2 =
    by-tests ((is (same_term M0 (Term.cipher M1 M2)) & is (same_environment E1 E) & is (same_environment E2 E))
    & is (same_type T Ty.Un) & is (same_type T1 Ty.Un) & is (same_type T2 Ty.Un))
    (λ p. rw p.0.0 (record { premises = cc; conclusion = cc; asked = refl }))
    (λ w.
    let p = w.premises in
    let q = w.conclusion in
    ((cc, (cc, cc)), (cc, (cc, cc))))

-- E ⊢ M : Un, E ⊢ N : Un  ⟹  E ⊢ (M, N) : Un
pair-Un : (E E1 E2 : Environment) (M0 M1 M2 : Term) (T T1 T2 : Ty)
    → follows Rule.pair-Un (Judgement.term E1 M1 T1 ∷ Judgement.term E2 M2 T2 ∷ []) (Judgement.term E M0 T)
    ≡ ((test (same_term M0 (Term.pair M1 M2)) && (test (same_environment E1 E) && test (same_environment E2 E)))
    && (test (same_type T Ty.Un) && (test (same_type T1 Ty.Un) && test (same_type T2 Ty.Un))))
unfolding left right name_of second promised parts_of environment_of term_of type_of effects_of process_of first rest printed asks
pair-Un E E1 E2 M0 M1 M2 T T1 T2 =
    by-tests ((is (same_term M0 (Term.pair M1 M2)) & is (same_environment E1 E) & is (same_environment E2 E))
    & is (same_type T Ty.Un) & is (same_type T1 Ty.Un) & is (same_type T2 Ty.Un))
    (λ p. rw p.0.0 (record { premises = cc; conclusion = cc; asked = refl }))
    (λ w.
    let p = w.premises in
    let q = w.conclusion in
    ((cc, (cc, cc)), (cc, (cc, cc))))

-- both, by the word
pub join-Un : (c : ℕ) → 2 ≤ c → c ≤ 3 → (E E1 E2 : Environment) (M0 M1 M2 : Term) (T T1 T2 : Ty)
    → follows (join_Un c) (Judgement.term E1 M1 T1 ∷ Judgement.term E2 M2 T2 ∷ []) (Judgement.term E M0 T)
    ≡ ((test (same_term M0 (join c M1 M2)) && (test (same_environment E1 E) && test (same_environment E2 E)))
    && (test (same_type T Ty.Un) && (test (same_type T1 Ty.Un) && test (same_type T2 Ty.Un))))
unfolding join join_Un pick
join-Un zero l h = absurd (omega arith)
join-Un (suc zero) l h = absurd (omega arith)
join-Un (suc (suc zero)) l h = pair-Un
join-Un (suc (suc (suc zero))) l h = cipher-Un
join-Un (suc (suc (suc (suc c)))) l h = absurd (omega arith)

-- ---- another term
pub name-other : (Js : List Judgement) (E : Environment) (M : Term) (T : Ty) → (code_of M ≡ 1 → ⊥)
    → false ≡ follows Rule.name Js (Judgement.term E M T)
unfolding left right name_of second promised parts_of environment_of term_of type_of effects_of process_of first rest printed asks
name-other Js E M T d = never-follows (λ w. d (ap code_of (subject w.conclusion)))
  where
    subject : {N : Term} {S : Ty} → Judgement.term E M T ≡ Judgement.term E N S → M ≡ N
    subject z = cc

pub pair-other : (Js : List Judgement) (E : Environment) (M : Term) (T : Ty) → (code_of M ≡ 2 → ⊥)
    → false ≡ follows Rule.pair Js (Judgement.term E M T)
unfolding left right name_of second promised parts_of environment_of term_of type_of effects_of process_of first rest printed asks
pair-other Js E M T d = never-follows (λ w. d (ap code_of (subject w.conclusion)))
  where
    subject : {N : Term} {S : Ty} → Judgement.term E M T ≡ Judgement.term E N S → M ≡ N
    subject z = cc

pub cipher-other : (Js : List Judgement) (E : Environment) (M : Term) (T : Ty) → (code_of M ≡ 3 → ⊥)
    → false ≡ follows Rule.cipher Js (Judgement.term E M T)
unfolding left right name_of second promised parts_of environment_of term_of type_of effects_of process_of first rest printed asks
cipher-other Js E M T d = never-follows (λ w. d (ap code_of (subject w.conclusion)))
  where
    subject : {N : Term} {S : Ty} → Judgement.term E M T ≡ Judgement.term E N S → M ≡ N
    subject z = cc

pub cipher-Un-other : (Js : List Judgement) (E : Environment) (M : Term) (T : Ty) → (code_of M ≡ 3 → ⊥)
    → false ≡ follows Rule.cipher-Un Js (Judgement.term E M T)
unfolding left right name_of second promised parts_of environment_of term_of type_of effects_of process_of first rest printed asks
cipher-Un-other Js E M T d = never-follows (λ w. d (ap code_of (subject w.conclusion)))
  where
    subject : {N : Term} {S : Ty} → Judgement.term E M T ≡ Judgement.term E N S → M ≡ N
    subject z = cc

pub pair-Un-other : (Js : List Judgement) (E : Environment) (M : Term) (T : Ty) → (code_of M ≡ 2 → ⊥)
    → false ≡ follows Rule.pair-Un Js (Judgement.term E M T)
unfolding left right name_of second promised parts_of environment_of term_of type_of effects_of process_of first rest printed asks
pair-Un-other Js E M T d = never-follows (λ w. d (ap code_of (subject w.conclusion)))
  where
    subject : {N : Term} {S : Ty} → Judgement.term E M T ≡ Judgement.term E N S → M ≡ N
    subject z = cc

-- a pair of another type
pub pair-type-other : (Js : List Judgement) (E : Environment) (M : Term) (T : Ty) → ((S R : Ty) → T ≡ Ty.pair S R → ⊥)
    → false ≡ follows Rule.pair Js (Judgement.term E M T)
unfolding left right name_of second promised parts_of environment_of term_of type_of effects_of process_of first rest printed asks
pair-type-other Js E M T d = never-follows (λ w. d _ _ (types w.conclusion))
  where
    types : {N : Term} {S : Ty} → Judgement.term E M T ≡ Judgement.term E N S → T ≡ S
    types z = cc
