-- The rules of environments, effects and types (definitions 9, 10 and 11), as tests of their parts. Assumes nothing.
use Rattle.std.specs.Prelude.{ℕ, ◌&&◌, List, [], ◌∷◌, ◌≡◌, refl}
use Rattle.typing.specs.Term.{Term, Effect}
use Rattle.typing.specs.Bag.{insert}
use Rattle.typing.specs.Types.{Ty, Environment, ◌⦂◌, same_type, same_effects, same_environment}
use Rattle.typing.specs.Judgement.{Judgement}
use Rattle.typing.specs.Rule.{Rule, binding}
use Rattle.typing.specs.Check.{entry_name, entry_type, newest, older, environment_of, term_of, type_of, effects_of, first, rest, printed, asks, follows}
use Rattle.alike.specs.Same.{test}
use Rattle.ruling.specs.Rules.Decide.{◌&◌, is, by-tests}

-- φ ⊢ ⋄
pub empty : (E : Environment) → follows Rule.empty [] (Judgement.environment E) ≡ test (same_environment E [])
unfolding printed asks
empty E =
    by-tests (is (same_environment E []))
    (λ p. record { premises = refl; conclusion = cc; asked = refl })
    (λ w. let q = w.conclusion in cc)

-- E ⊢ T  ⟹  E, x : T ⊢ ⋄, where x is the name that the environment's newest entry has
pub entry : (E E1 : Environment) (T : Ty) (x : ℕ) → ((y : ℕ) (U : Ty) (F : Environment) → E ≡ (y ⦂ U) ∷ F → x ≡ y)
    → follows Rule.entry (Judgement.type E1 T ∷ []) (Judgement.environment E) ≡ test (same_environment E ((x ⦂ T) ∷ E1))
unfolding printed asks environment_of type_of newest older entry_name entry_type
entry E E1 T x n =
    by-tests (is (same_environment E ((x ⦂ T) ∷ E1)))
    (λ p. rw p (record { premises = refl; conclusion = refl; asked = refl }))
    (λ w.
    let p = w.premises in
    let q = w.conclusion in
    let named = n (entry_name (newest E)) (entry_type (newest E)) (older E) (cc) in
    cc)

-- E ⊢ ⋄  ⟹  E ⊢ []
pub effect-none : (E E1 : Environment) (es : List Effect) → follows Rule.effect-none (Judgement.environment E1 ∷ []) (Judgement.effect E es)
    ≡ (test (same_environment E1 E) && test (same_effects es []))
unfolding printed asks environment_of
effect-none E E1 es =
    by-tests (is (same_environment E1 E) & is (same_effects es []))
    (λ p. record { premises = cc; conclusion = cc; asked = refl })
    (λ w.
    let p = w.premises in
    let q = w.conclusion in
    (cc, cc))

-- E ⊢ es, E ⊢ L : T  ⟹  E ⊢ es + [end L]
pub effect-end : (E E1 E2 : Environment) (es fs : List Effect) (L : Term) (T : Ty)
    → follows Rule.effect-end (Judgement.effect E1 fs ∷ Judgement.term E2 L T ∷ []) (Judgement.effect E es)
    ≡ (test (same_environment E1 E) && (test (same_environment E2 E) && test (same_effects es (insert (Effect.end L) fs))))
unfolding printed asks environment_of term_of type_of effects_of first rest
effect-end E E1 E2 es fs L T =
    by-tests (is (same_environment E1 E) & is (same_environment E2 E) & is (same_effects es (insert (Effect.end L) fs)))
    (λ p. record { premises = cc; conclusion = cc; asked = refl })
    (λ w.
    let p = w.premises in
    let q = w.conclusion in
    (cc, (cc, cc)))

-- E ⊢ es, E ⊢ N : Un  ⟹  E ⊢ es + [check N]
pub effect-check : (E E1 E2 : Environment) (es fs : List Effect) (L : Term) (T : Ty)
    → follows Rule.effect-check (Judgement.effect E1 fs ∷ Judgement.term E2 L T ∷ []) (Judgement.effect E es)
    ≡ ((test (same_environment E1 E) && (test (same_environment E2 E) && test (same_effects es (insert (Effect.check L) fs)))) && test (same_type T Ty.Un))
unfolding printed asks environment_of term_of type_of effects_of first rest
effect-check E E1 E2 es fs L T =
    by-tests ((is (same_environment E1 E) & is (same_environment E2 E) & is (same_effects es (insert (Effect.check L) fs))) & is (same_type T Ty.Un))
    (λ p. record { premises = cc; conclusion = cc; asked = refl })
    (λ w.
    let p = w.premises in
    let q = w.conclusion in
    ((cc, (cc, cc)), cc))

-- E ⊢ ⋄  ⟹  E ⊢ Un
pub type-Un : (E E1 : Environment) (T : Ty) → follows Rule.type-Un (Judgement.environment E1 ∷ []) (Judgement.type E T)
    ≡ (test (same_environment E1 E) && test (same_type T Ty.Un))
unfolding printed asks environment_of term_of type_of effects_of first rest
type-Un E E1 T =
    by-tests (is (same_environment E1 E) & is (same_type T Ty.Un))
    (λ p. record { premises = cc; conclusion = cc; asked = refl })
    (λ w.
    let p = w.premises in
    let q = w.conclusion in
    (cc, cc))

-- E ⊢ T  ⟹  E ⊢ ch(T)
pub type-channel : (E E1 : Environment) (T T1 : Ty) → follows Rule.type-channel (Judgement.type E1 T1 ∷ []) (Judgement.type E T)
    ≡ (test (same_environment E1 E) && test (same_type T (Ty.channel T1)))
unfolding printed asks environment_of term_of type_of effects_of first rest
type-channel E E1 T T1 =
    by-tests (is (same_environment E1 E) & is (same_type T (Ty.channel T1)))
    (λ p. record { premises = cc; conclusion = cc; asked = refl })
    (λ w.
    let p = w.premises in
    let q = w.conclusion in
    (cc, cc))

-- E ⊢ T  ⟹  E ⊢ symkey(T)
pub type-symkey : (E E1 : Environment) (T T1 : Ty) → follows Rule.type-symkey (Judgement.type E1 T1 ∷ []) (Judgement.type E T)
    ≡ (test (same_environment E1 E) && test (same_type T (Ty.symkey T1)))
unfolding printed asks environment_of term_of type_of effects_of first rest
type-symkey E E1 T T1 =
    by-tests (is (same_environment E1 E) & is (same_type T (Ty.symkey T1)))
    (λ p. record { premises = cc; conclusion = cc; asked = refl })
    (λ w.
    let p = w.premises in
    let q = w.conclusion in
    (cc, cc))

-- E ⊢ es  ⟹  E ⊢ nonce es
pub type-nonce : (E E1 : Environment) (T : Ty) (es : List Effect) → follows Rule.type-nonce (Judgement.effect E1 es ∷ []) (Judgement.type E T)
    ≡ (test (same_environment E1 E) && test (same_type T (Ty.nonce es)))
unfolding printed asks environment_of term_of type_of effects_of first rest
type-nonce E E1 T es =
    by-tests (is (same_environment E1 E) & is (same_type T (Ty.nonce es)))
    (λ p. record { premises = cc; conclusion = cc; asked = refl })
    (λ w.
    let p = w.premises in
    let q = w.conclusion in
    (cc, cc))

-- E ⊢ T, E, x : T ⊢ U  ⟹  E ⊢ (x : T, U), where x is the name that the second environment's newest entry has
pub type-pair : (E E1 E2 : Environment) (T T1 T2 : Ty) (x : ℕ) → ((y : ℕ) (U : Ty) (F : Environment) → E2 ≡ (y ⦂ U) ∷ F → x ≡ y)
    → follows Rule.type-pair (Judgement.type E1 T1 ∷ Judgement.type E2 T2 ∷ []) (Judgement.type E T)
    ≡ ((test (same_environment E1 E) && test (same_type T (Ty.pair T1 (binding x T2)))) && test (same_environment E2 ((x ⦂ T1) ∷ E)))
unfolding printed asks environment_of type_of newest entry_name first rest
type-pair E E1 E2 T T1 T2 x n =
    by-tests ((is (same_environment E1 E) & is (same_type T (Ty.pair T1 (binding x T2)))) & is (same_environment E2 ((x ⦂ T1) ∷ E)))
    (λ h.
    let p0 = h.0.0 in
    let p1 = h.1 in
    let p2 = h.0.1 in
    rw (p1, p2) (record { premises = cc; conclusion = refl; asked = refl }))
    (λ w.
    let p = w.premises in
    let q = w.conclusion in
    let e : E2 ≡ (entry_name (newest E2) ⦂ T1) ∷ E = cc in
    let named : x ≡ entry_name (newest E2) = n (entry_name (newest E2)) T1 E e in
    ((cc, rw named (types q)), rw named e))
  where
    types : {S : Ty} → Judgement.type E T ≡ Judgement.type E S → T ≡ S
    types z = cc
