-- The rules of processes (definition 15), as tests of their parts. Assumes nothing.
use Rattle.std.specs.Prelude.{ℕ, zero, suc, ◌≤◌, Bool, false, not, ◌&&◌, List, [], ◌∷◌, ◌≡◌, refl}
use Rattle.std.proofs.Common.{ap, arith, eq-eqb, ne_eqb}
use Rattle.words.specs.Choice.{pick}
use Rattle.words.specs.Choice.Laws.{pick_true, pick-false}
use Rattle.typing.specs.Term.{Term, Effect, same_term, closed, mentions}
use Rattle.typing.specs.Bag.{insert, plus, minus}
use Rattle.typing.specs.Types.{Ty, Environment, ◌⦂◌, generatable, same_type, same_effects, same_environment}
use Rattle.typing.specs.Process.{Process, same_process}
use Rattle.typing.specs.Judgement.{Judgement}
use Rattle.typing.specs.Rule.{Rule, binding, putting}
use Rattle.typing.specs.Check.{left, right, name_of, second, promised, parts_of, environment_of, term_of, type_of, effects_of, process_of, first, rest, printed, asks, follows}
use Rattle.typing.proofs.Check.Laws.{both, and_both}
use Rattle.alike.specs.Same.{test}
use Rattle.ruling.specs.Rules.Decide.{Tells, ◌&◌, is, itself, by-tests, never-follows}
use Rattle.running.specs.Rules.{code_of, rule_code, label_rule, label_process, labelled, open_rule, open_process}

-- a premise's term or process is the one that the process has, in the environment that the rule asks
abbrev pub given : Environment → Environment → Term → Term → Bool
given E1 E M1 M = test (same_environment E1 E) && test (same_term M1 M)

abbrev pub going : Environment → Environment → Process → Process → Bool
going E1 E P1 P = test (same_environment E1 E) && test (same_process P1 P)

is-given : (E1 E : Environment) (M1 M : Term) → Tells (given E1 E M1 M) ((E1 ≡ E) × (M1 ≡ M))
is-given E1 E M1 M = is (same_environment E1 E) & is (same_term M1 M)

is-going : (E1 E : Environment) (P1 P : Process) → Tells (going E1 E P1 P) ((E1 ≡ E) × (P1 ≡ P))
is-going E1 E P1 P = is (same_environment E1 E) & is (same_process P1 P)

subject : (E : Environment) (Q : Process) (es : List Effect) {F : Environment} {R : Process} {fs : List Effect}
    → Judgement.process E Q es ≡ Judgement.process F R fs → Q ≡ R
subject E Q es z = cc

-- E ⊢ ⋄  ⟹  E ⊢ STOP : []
pub stop : (E E1 : Environment) (P0 : Process) (es : List Effect) → P0 ≡ Process.stop
    → follows Rule.stop (Judgement.environment E1 ∷ []) (Judgement.process E P0 es)
    ≡ (test (same_environment E1 E) && test (same_effects es []))
unfolding left right name_of second promised parts_of environment_of term_of type_of effects_of process_of first rest printed asks
stop E E1 P0 es m =
    rw (m) (by-tests (is (same_environment E1 E) & is (same_effects es []))
    (λ p. record { premises = cc; conclusion = cc; asked = refl })
    (λ w.
    let p = w.premises in
    let q = w.conclusion in
    (cc, cc)))

-- E ⊢ P : es  ⟹  E ⊢ begin L; P : es − [end L]
pub begin : (E E1 : Environment) (P0 P P1 : Process) (M : Term) (es es1 : List Effect) → P0 ≡ Process.begin M P
    → follows Rule.begin (Judgement.process E1 P1 es1 ∷ []) (Judgement.process E P0 es)
    ≡ (going E1 E P1 P && (test (same_effects es (minus es1 (Effect.end M ∷ []))) && closed M))
unfolding left right name_of second promised parts_of environment_of term_of type_of effects_of process_of first rest printed asks
begin E E1 P0 P P1 M es es1 m =
    rw (m) (by-tests (is-going E1 E P1 P & (is (same_effects es (minus es1 (Effect.end M ∷ []))) & itself (closed M)))
    (λ p. record { premises = cc; conclusion = cc; asked = p.1.1 })
    (λ w.
    let p = w.premises in
    let q = w.conclusion in
    ((cc, cc), (cc, w.asked))))

-- E ⊢ P : es  ⟹  E ⊢ end L; P : es + [end L]
pub end : (E E1 : Environment) (P0 P P1 : Process) (M : Term) (es es1 : List Effect) → P0 ≡ Process.end M P
    → follows Rule.end (Judgement.process E1 P1 es1 ∷ []) (Judgement.process E P0 es)
    ≡ (going E1 E P1 P && (test (same_effects es (insert (Effect.end M) es1)) && closed M))
unfolding left right name_of second promised parts_of environment_of term_of type_of effects_of process_of first rest printed asks
end E E1 P0 P P1 M es es1 m =
    rw (m) (by-tests (is-going E1 E P1 P & (is (same_effects es (insert (Effect.end M) es1)) & itself (closed M)))
    (λ p. record { premises = cc; conclusion = cc; asked = p.1.1 })
    (λ w.
    let p = w.premises in
    let q = w.conclusion in
    ((cc, cc), (cc, w.asked))))

-- E ⊢ P : es_p, E ⊢ Q : es_q  ⟹  E ⊢ P | Q : es_p + es_q
pub parallel : (E E1 E2 : Environment) (P0 P Q P1 P2 : Process) (es es1 es2 : List Effect) → P0 ≡ Process.parallel P Q
    → follows Rule.parallel (Judgement.process E1 P1 es1 ∷ Judgement.process E2 P2 es2 ∷ []) (Judgement.process E P0 es)
    ≡ (going E1 E P1 P && (going E2 E P2 Q && test (same_effects es (plus es1 es2))))
unfolding left right name_of second promised parts_of environment_of term_of type_of effects_of process_of first rest printed asks
parallel E E1 E2 P0 P Q P1 P2 es es1 es2 m =
    rw (m) (by-tests (is-going E1 E P1 P & (is-going E2 E P2 Q & is (same_effects es (plus es1 es2))))
    (λ p. record { premises = cc; conclusion = cc; asked = refl })
    (λ w.
    let p = w.premises in
    let q = w.conclusion in
    ((cc, cc), ((cc, cc), cc))))

-- E, x : T ⊢ P : es  ⟹  E ⊢ new (x : T); P : es − [check x]
pub new : (E E1 : Environment) (P0 P P1 : Process) (x : ℕ) (T : Ty) (es es1 : List Effect) → P0 ≡ Process.new x T P
    → follows Rule.new (Judgement.process E1 P1 es1 ∷ []) (Judgement.process E P0 es)
    ≡ (going E1 ((x ⦂ T) ∷ E) P1 P && (test (same_effects es (minus es1 (Effect.check (Term.name x) ∷ []))) && (generatable T && not (mentions x es))))
unfolding left right name_of second promised parts_of environment_of term_of type_of effects_of process_of first rest printed asks
new E E1 P0 P P1 x T es es1 m =
    rw (m) (by-tests (is-going E1 ((x ⦂ T) ∷ E) P1 P & (is (same_effects es (minus es1 (Effect.check (Term.name x) ∷ []))) & (itself (generatable T) & itself (not (mentions x es)))))
    (λ p. record { premises = cc; conclusion = cc; asked = and_both (generatable T) (not (mentions x es)) p.1.1.0 p.1.1.1 })
    (λ w.
    let p = w.premises in
    let q = w.conclusion in
    ((cc, cc), (cc, ((both (generatable T) (not (mentions x es)) w.asked).0, (both (generatable T) (not (mentions x es)) w.asked).1)))))

-- E ⊢ M : ch(T), E ⊢ N : T, E ⊢ P : es  ⟹  E ⊢ out M N; P : es
pub out : (E E1 E2 E3 : Environment) (P0 P P3 : Process) (M N M1 M2 : Term) (T1 T2 : Ty) (es es3 : List Effect) → P0 ≡ Process.out M N P
    → follows Rule.out (Judgement.term E1 M1 T1 ∷ Judgement.term E2 M2 T2 ∷ Judgement.process E3 P3 es3 ∷ []) (Judgement.process E P0 es)
    ≡ ((given E1 E M1 M && (given E2 E M2 N && (going E3 E P3 P && test (same_effects es es3)))) && test (same_type T1 (Ty.channel T2)))
unfolding left right name_of second promised parts_of environment_of term_of type_of effects_of process_of first rest printed asks
out E E1 E2 E3 P0 P P3 M N M1 M2 T1 T2 es es3 m =
    rw (m) (by-tests ((is-given E1 E M1 M & (is-given E2 E M2 N & (is-going E3 E P3 P & is (same_effects es es3)))) & is (same_type T1 (Ty.channel T2)))
    (λ p. record { premises = cc; conclusion = cc; asked = refl })
    (λ w.
    let p = w.premises in
    let q = w.conclusion in
    (((cc, cc), ((cc, cc), ((cc, cc), cc))), cc)))

-- E ⊢ M : ch(T), E, x : T ⊢ P : es  ⟹  E ⊢ inp M x : T; P : es
pub inp : (E E1 E2 : Environment) (P0 P P2 : Process) (M M1 : Term) (x : ℕ) (T T1 : Ty) (es es2 : List Effect) → P0 ≡ Process.inp M x T P
    → follows Rule.inp (Judgement.term E1 M1 T1 ∷ Judgement.process E2 P2 es2 ∷ []) (Judgement.process E P0 es)
    ≡ ((given E1 E M1 M && (going E2 ((x ⦂ T) ∷ E) P2 P && (test (same_effects es es2) && not (mentions x es)))) && test (same_type T1 (Ty.channel T)))
unfolding left right name_of second promised parts_of environment_of term_of type_of effects_of process_of first rest printed asks
inp E E1 E2 P0 P P2 M M1 x T T1 es es2 m =
    rw (m) (by-tests ((is-given E1 E M1 M & (is-going E2 ((x ⦂ T) ∷ E) P2 P & (is (same_effects es es2) & itself (not (mentions x es))))) & is (same_type T1 (Ty.channel T)))
    (λ p. record { premises = cc; conclusion = cc; asked = p.0.1.1.1 })
    (λ w.
    let p = w.premises in
    let q = w.conclusion in
    (((cc, cc), ((cc, cc), (cc, w.asked))), cc)))

-- E ⊢ M : (x : T, S), E, x : T, y : S ⊢ P : es  ⟹  E ⊢ split M = (x : T, y : S); P : es
pub split : (E E1 E2 : Environment) (P0 P P2 : Process) (M M1 : Term) (x y : ℕ) (T S T1 : Ty) (es es2 : List Effect) → P0 ≡ Process.split M x T y S P
    → follows Rule.split (Judgement.term E1 M1 T1 ∷ Judgement.process E2 P2 es2 ∷ []) (Judgement.process E P0 es)
    ≡ ((given E1 E M1 M && (going E2 ((y ⦂ S) ∷ (x ⦂ T) ∷ E) P2 P && (test (same_effects es es2) && (not (mentions x es) && not (mentions y es))))) && test (same_type T1 (Ty.pair T (binding x S))))
unfolding left right name_of second promised parts_of environment_of term_of type_of effects_of process_of first rest printed asks
split E E1 E2 P0 P P2 M M1 x y T S T1 es es2 m =
    rw (m) (by-tests ((is-given E1 E M1 M & (is-going E2 ((y ⦂ S) ∷ (x ⦂ T) ∷ E) P2 P & (is (same_effects es es2) & (itself (not (mentions x es)) & itself (not (mentions y es)))))) & is (same_type T1 (Ty.pair T (binding x S))))
    (λ p. record { premises = cc; conclusion = cc; asked = and_both (not (mentions x es)) (not (mentions y es)) p.0.1.1.1.0 p.0.1.1.1.1 })
    (λ w.
    let p = w.premises in
    let q = w.conclusion in
    (((cc, cc), ((cc, cc), (cc, ((both (not (mentions x es)) (not (mentions y es)) w.asked).0, (both (not (mentions x es)) (not (mentions y es)) w.asked).1)))), cc)))

-- E ⊢ M : Un, E, x : nonce fs ⊢ P : es  ⟹  E ⊢ cast M is x : nonce fs; P : es + fs
pub cast : (E E1 E2 : Environment) (P0 P P2 : Process) (M M1 : Term) (x : ℕ) (T1 : Ty) (fs es es2 : List Effect) → P0 ≡ Process.cast M x fs P
    → follows Rule.cast (Judgement.term E1 M1 T1 ∷ Judgement.process E2 P2 es2 ∷ []) (Judgement.process E P0 es)
    ≡ (given E1 E M1 M && (going E2 ((x ⦂ Ty.nonce fs) ∷ E) P2 P && (test (same_type T1 Ty.Un) && (test (same_effects es (plus es2 fs)) && not (mentions x es)))))
unfolding left right name_of second promised parts_of environment_of term_of type_of effects_of process_of first rest printed asks
cast E E1 E2 P0 P P2 M M1 x T1 fs es es2 m =
    rw (m) (by-tests (is-given E1 E M1 M & (is-going E2 ((x ⦂ Ty.nonce fs) ∷ E) P2 P & (is (same_type T1 Ty.Un) & (is (same_effects es (plus es2 fs)) & itself (not (mentions x es))))))
    (λ p. record { premises = cc; conclusion = cc; asked = p.1.1.1.1 })
    (λ w.
    let p = w.premises in
    let q = w.conclusion in
    ((cc, cc), ((cc, cc), (cc, (cc, w.asked))))))

-- E ⊢ M : Un, E ⊢ N : symkey(T), E, x : T ⊢ P : es  ⟹  E ⊢ decrypt M (N) to x : T; P : es
pub decrypt : (E E1 E2 E3 : Environment) (P0 P P3 : Process) (M N M1 M2 : Term) (x : ℕ) (T T1 T2 : Ty) (es es3 : List Effect) → P0 ≡ Process.decrypt M N x T P
    → follows Rule.decrypt (Judgement.term E1 M1 T1 ∷ Judgement.term E2 M2 T2 ∷ Judgement.process E3 P3 es3 ∷ []) (Judgement.process E P0 es)
    ≡ ((given E1 E M1 M && (given E2 E M2 N && (going E3 ((x ⦂ T) ∷ E) P3 P && (test (same_effects es es3) && not (mentions x es))))) && (test (same_type T1 Ty.Un) && test (same_type T2 (Ty.symkey T))))
unfolding left right name_of second promised parts_of environment_of term_of type_of effects_of process_of first rest printed asks
decrypt E E1 E2 E3 P0 P P3 M N M1 M2 x T T1 T2 es es3 m =
    rw (m) (by-tests ((is-given E1 E M1 M & (is-given E2 E M2 N & (is-going E3 ((x ⦂ T) ∷ E) P3 P & (is (same_effects es es3) & itself (not (mentions x es)))))) & (is (same_type T1 Ty.Un) & is (same_type T2 (Ty.symkey T))))
    (λ p. record { premises = cc; conclusion = cc; asked = p.0.1.1.1.1 })
    (λ w.
    let p = w.premises in
    let q = w.conclusion in
    (((cc, cc), ((cc, cc), ((cc, cc), (cc, w.asked)))), (cc, cc))))

-- E ⊢ M : Un, E ⊢ N : Un, E ⊢ P : es  ⟹  E ⊢ out M N; P : es
pub out-Un : (E E1 E2 E3 : Environment) (P0 P P3 : Process) (M N M1 M2 : Term) (T1 T2 : Ty) (es es3 : List Effect) → P0 ≡ Process.out M N P
    → follows Rule.out-Un (Judgement.term E1 M1 T1 ∷ Judgement.term E2 M2 T2 ∷ Judgement.process E3 P3 es3 ∷ []) (Judgement.process E P0 es)
    ≡ ((given E1 E M1 M && (given E2 E M2 N && (going E3 E P3 P && test (same_effects es es3)))) && (test (same_type T1 Ty.Un) && test (same_type T2 Ty.Un)))
unfolding left right name_of second promised parts_of environment_of term_of type_of effects_of process_of first rest printed asks
out-Un E E1 E2 E3 P0 P P3 M N M1 M2 T1 T2 es es3 m =
    rw (m) (by-tests ((is-given E1 E M1 M & (is-given E2 E M2 N & (is-going E3 E P3 P & is (same_effects es es3)))) & (is (same_type T1 Ty.Un) & is (same_type T2 Ty.Un)))
    (λ p. record { premises = cc; conclusion = cc; asked = refl })
    (λ w.
    let p = w.premises in
    let q = w.conclusion in
    (((cc, cc), ((cc, cc), ((cc, cc), cc))), (cc, cc))))

-- E ⊢ M : Un, E, x : Un ⊢ P : es  ⟹  E ⊢ inp M x : Un; P : es
pub inp-Un : (E E1 E2 : Environment) (P0 P P2 : Process) (M M1 : Term) (x : ℕ) (T T1 : Ty) (es es2 : List Effect) → P0 ≡ Process.inp M x T P
    → follows Rule.inp-Un (Judgement.term E1 M1 T1 ∷ Judgement.process E2 P2 es2 ∷ []) (Judgement.process E P0 es)
    ≡ ((given E1 E M1 M && (going E2 ((x ⦂ T) ∷ E) P2 P && (test (same_effects es es2) && not (mentions x es)))) && (test (same_type T1 Ty.Un) && test (same_type T Ty.Un)))
unfolding left right name_of second promised parts_of environment_of term_of type_of effects_of process_of first rest printed asks
inp-Un E E1 E2 P0 P P2 M M1 x T T1 es es2 m =
    rw (m) (by-tests ((is-given E1 E M1 M & (is-going E2 ((x ⦂ T) ∷ E) P2 P & (is (same_effects es es2) & itself (not (mentions x es))))) & (is (same_type T1 Ty.Un) & is (same_type T Ty.Un)))
    (λ p. record { premises = cc; conclusion = cc; asked = p.0.1.1.1 })
    (λ w.
    let p = w.premises in
    let q = w.conclusion in
    (((cc, cc), ((cc, cc), (cc, w.asked))), (cc, cc))))

-- E ⊢ M : Un, E, x : Un, y : Un ⊢ P : es  ⟹  E ⊢ split M = (x : Un, y : Un); P : es
pub split-Un : (E E1 E2 : Environment) (P0 P P2 : Process) (M M1 : Term) (x y : ℕ) (T S T1 : Ty) (es es2 : List Effect) → P0 ≡ Process.split M x T y S P
    → follows Rule.split-Un (Judgement.term E1 M1 T1 ∷ Judgement.process E2 P2 es2 ∷ []) (Judgement.process E P0 es)
    ≡ ((given E1 E M1 M && (going E2 ((y ⦂ S) ∷ (x ⦂ T) ∷ E) P2 P && (test (same_effects es es2) && (not (mentions x es) && not (mentions y es))))) && (test (same_type T1 Ty.Un) && (test (same_type T Ty.Un) && test (same_type S Ty.Un))))
unfolding left right name_of second promised parts_of environment_of term_of type_of effects_of process_of first rest printed asks
split-Un E E1 E2 P0 P P2 M M1 x y T S T1 es es2 m =
    rw (m) (by-tests ((is-given E1 E M1 M & (is-going E2 ((y ⦂ S) ∷ (x ⦂ T) ∷ E) P2 P & (is (same_effects es es2) & (itself (not (mentions x es)) & itself (not (mentions y es)))))) & (is (same_type T1 Ty.Un) & (is (same_type T Ty.Un) & is (same_type S Ty.Un))))
    (λ p. record { premises = cc; conclusion = cc; asked = and_both (not (mentions x es)) (not (mentions y es)) p.0.1.1.1.0 p.0.1.1.1.1 })
    (λ w.
    let p = w.premises in
    let q = w.conclusion in
    (((cc, cc), ((cc, cc), (cc, ((both (not (mentions x es)) (not (mentions y es)) w.asked).0, (both (not (mentions x es)) (not (mentions y es)) w.asked).1)))), (cc, (cc, cc)))))

-- E ⊢ M : Un, E ⊢ N : Un, E, y : Un ⊢ P : es  ⟹  E ⊢ match M = (N, y : Un); P : es
pub match-Un : (E E1 E2 E3 : Environment) (P0 P P3 : Process) (M N M1 M2 : Term) (x : ℕ) (T T1 T2 : Ty) (es es3 : List Effect) → P0 ≡ Process.match M N x T P
    → follows Rule.match-Un (Judgement.term E1 M1 T1 ∷ Judgement.term E2 M2 T2 ∷ Judgement.process E3 P3 es3 ∷ []) (Judgement.process E P0 es)
    ≡ ((given E1 E M1 M && (given E2 E M2 N && (going E3 ((x ⦂ T) ∷ E) P3 P && (test (same_effects es es3) && not (mentions x es))))) && (test (same_type T1 Ty.Un) && (test (same_type T2 Ty.Un) && test (same_type T Ty.Un))))
unfolding left right name_of second promised parts_of environment_of term_of type_of effects_of process_of first rest printed asks
match-Un E E1 E2 E3 P0 P P3 M N M1 M2 x T T1 T2 es es3 m =
    rw (m) (by-tests ((is-given E1 E M1 M & (is-given E2 E M2 N & (is-going E3 ((x ⦂ T) ∷ E) P3 P & (is (same_effects es es3) & itself (not (mentions x es)))))) & (is (same_type T1 Ty.Un) & (is (same_type T2 Ty.Un) & is (same_type T Ty.Un))))
    (λ p. record { premises = cc; conclusion = cc; asked = p.0.1.1.1.1 })
    (λ w.
    let p = w.premises in
    let q = w.conclusion in
    (((cc, cc), ((cc, cc), ((cc, cc), (cc, w.asked)))), (cc, (cc, cc)))))

-- E ⊢ M : Un, E ⊢ N : Un, E, x : Un ⊢ P : es  ⟹  E ⊢ decrypt M (N) to x : Un; P : es
pub decrypt-Un : (E E1 E2 E3 : Environment) (P0 P P3 : Process) (M N M1 M2 : Term) (x : ℕ) (T T1 T2 : Ty) (es es3 : List Effect) → P0 ≡ Process.decrypt M N x T P
    → follows Rule.decrypt-Un (Judgement.term E1 M1 T1 ∷ Judgement.term E2 M2 T2 ∷ Judgement.process E3 P3 es3 ∷ []) (Judgement.process E P0 es)
    ≡ ((given E1 E M1 M && (given E2 E M2 N && (going E3 ((x ⦂ T) ∷ E) P3 P && (test (same_effects es es3) && not (mentions x es))))) && (test (same_type T1 Ty.Un) && (test (same_type T2 Ty.Un) && test (same_type T Ty.Un))))
unfolding left right name_of second promised parts_of environment_of term_of type_of effects_of process_of first rest printed asks
decrypt-Un E E1 E2 E3 P0 P P3 M N M1 M2 x T T1 T2 es es3 m =
    rw (m) (by-tests ((is-given E1 E M1 M & (is-given E2 E M2 N & (is-going E3 ((x ⦂ T) ∷ E) P3 P & (is (same_effects es es3) & itself (not (mentions x es)))))) & (is (same_type T1 Ty.Un) & (is (same_type T2 Ty.Un) & is (same_type T Ty.Un))))
    (λ p. record { premises = cc; conclusion = cc; asked = p.0.1.1.1.1 })
    (λ w.
    let p = w.premises in
    let q = w.conclusion in
    (((cc, cc), ((cc, cc), ((cc, cc), (cc, w.asked)))), (cc, (cc, cc)))))

-- E ⊢ M : (x : T, S), E ⊢ N : T, E, y : S[N/x] ⊢ P : es  ⟹  E ⊢ match M = (N, y : S[N/x]); P : es
pub match : (E E1 E2 E3 : Environment) (P0 P P3 : Process) (M N M1 M2 : Term) (y : ℕ) (R T S T1 T2 : Ty) (es es3 : List Effect) → P0 ≡ Process.match M N y R P → T1 ≡ Ty.pair T S
    → follows Rule.match (Judgement.term E1 M1 T1 ∷ Judgement.term E2 M2 T2 ∷ Judgement.process E3 P3 es3 ∷ []) (Judgement.process E P0 es)
    ≡ ((given E1 E M1 M && (given E2 E M2 N && (going E3 ((y ⦂ R) ∷ E) P3 P && (test (same_effects es es3) && not (mentions y es))))) && (test (same_type T T2) && test (same_type R (putting N S))))
unfolding left right name_of second promised parts_of environment_of term_of type_of effects_of process_of first rest printed asks
match E E1 E2 E3 P0 P P3 M N M1 M2 y R T S T1 T2 es es3 m n =
    rw (m, n) (by-tests ((is-given E1 E M1 M & (is-given E2 E M2 N & (is-going E3 ((y ⦂ R) ∷ E) P3 P & (is (same_effects es es3) & itself (not (mentions y es)))))) & (is (same_type T T2) & is (same_type R (putting N S))))
    (λ p. record { premises = cc; conclusion = cc; asked = p.0.1.1.1.1 })
    (λ w.
    let p = w.premises in
    let q = w.conclusion in
    (((cc, cc), ((cc, cc), ((cc, cc), (cc, w.asked)))), (cc, cc))))

-- E ⊢ M : Un, E ⊢ N : nonce fs, E ⊢ P : es  ⟹  E ⊢ check M = N; P : es − fs + [check M]
pub check : (E E1 E2 E3 : Environment) (P0 P P3 : Process) (M N M1 M2 : Term) (T1 T2 : Ty) (fs es es3 : List Effect) → P0 ≡ Process.check M N P → T2 ≡ Ty.nonce fs
    → follows Rule.check (Judgement.term E1 M1 T1 ∷ Judgement.term E2 M2 T2 ∷ Judgement.process E3 P3 es3 ∷ []) (Judgement.process E P0 es)
    ≡ (given E1 E M1 M && (given E2 E M2 N && (going E3 E P3 P && (test (same_type T1 Ty.Un) && test (same_effects es (insert (Effect.check M) (minus es3 fs)))))))
unfolding left right name_of second promised parts_of environment_of term_of type_of effects_of process_of first rest printed asks
check E E1 E2 E3 P0 P P3 M N M1 M2 T1 T2 fs es es3 m n =
    rw (m, n) (by-tests (is-given E1 E M1 M & (is-given E2 E M2 N & (is-going E3 E P3 P & (is (same_type T1 Ty.Un) & is (same_effects es (insert (Effect.check M) (minus es3 fs)))))))
    (λ p. record { premises = cc; conclusion = cc; asked = refl })
    (λ w.
    let p = w.premises in
    let q = w.conclusion in
    ((cc, cc), ((cc, cc), ((cc, cc), (cc, cc))))))

-- begin or end, by its word
pub label : (c : ℕ) → 9 ≤ c → c ≤ 10 → (E E1 : Environment) (P0 P P1 : Process) (M : Term) (es es1 : List Effect) → P0 ≡ label_process c M P
    → follows (label_rule c) (Judgement.process E1 P1 es1 ∷ []) (Judgement.process E P0 es)
    ≡ (going E1 E P1 P && (test (same_effects es (labelled c M es1)) && closed M))
unfolding label_rule label_process labelled pick
label zero l h = absurd (omega arith)
label (suc zero) l h = absurd (omega arith)
label (suc (suc zero)) l h = absurd (omega arith)
label (suc (suc (suc zero))) l h = absurd (omega arith)
label (suc (suc (suc (suc zero)))) l h = absurd (omega arith)
label (suc (suc (suc (suc (suc zero))))) l h = absurd (omega arith)
label (suc (suc (suc (suc (suc (suc zero)))))) l h = absurd (omega arith)
label (suc (suc (suc (suc (suc (suc (suc zero))))))) l h = absurd (omega arith)
label (suc (suc (suc (suc (suc (suc (suc (suc zero)))))))) l h = absurd (omega arith)
label (suc (suc (suc (suc (suc (suc (suc (suc (suc zero))))))))) l h = begin
label (suc (suc (suc (suc (suc (suc (suc (suc (suc (suc zero)))))))))) l h = end
label (suc (suc (suc (suc (suc (suc (suc (suc (suc (suc (suc c))))))))))) l h = absurd (omega arith)

pub label-code : (c : ℕ) → 9 ≤ c → c ≤ 10 → rule_code (label_rule c) ≡ c
unfolding rule_code label_rule pick
label-code zero l h = absurd (omega arith)
label-code (suc zero) l h = absurd (omega arith)
label-code (suc (suc zero)) l h = absurd (omega arith)
label-code (suc (suc (suc zero))) l h = absurd (omega arith)
label-code (suc (suc (suc (suc zero)))) l h = absurd (omega arith)
label-code (suc (suc (suc (suc (suc zero))))) l h = absurd (omega arith)
label-code (suc (suc (suc (suc (suc (suc zero)))))) l h = absurd (omega arith)
label-code (suc (suc (suc (suc (suc (suc (suc zero))))))) l h = absurd (omega arith)
label-code (suc (suc (suc (suc (suc (suc (suc (suc zero)))))))) l h = absurd (omega arith)
label-code (suc (suc (suc (suc (suc (suc (suc (suc (suc zero))))))))) l h = refl
label-code (suc (suc (suc (suc (suc (suc (suc (suc (suc (suc zero)))))))))) l h = refl
label-code (suc (suc (suc (suc (suc (suc (suc (suc (suc (suc (suc c))))))))))) l h = absurd (omega arith)

pub labelled-less : (c : ℕ) (M : Term) (es : List Effect) → c ≡ 9 → labelled c M es ≡ minus es (Effect.end M ∷ [])
unfolding labelled
labelled-less c M es e = pick_true _ _ _ (eq-eqb c 9 e)

pub labelled-more : (c : ℕ) (M : Term) (es : List Effect) → (c ≡ 9 → ⊥) → labelled c M es ≡ insert (Effect.end M) es
unfolding labelled
labelled-more c M es d = pick-false _ _ _ (ne_eqb c 9 d)

-- a match or a decryption with all types Un, by its word
pub open-Un : (c : ℕ) → 7 ≤ c → c ≤ 8 → (E E1 E2 E3 : Environment) (P0 P P3 : Process) (M N M1 M2 : Term) (x : ℕ) (T T1 T2 : Ty) (es es3 : List Effect)
    → P0 ≡ open_process c M N x T P
    → follows (open_rule c) (Judgement.term E1 M1 T1 ∷ Judgement.term E2 M2 T2 ∷ Judgement.process E3 P3 es3 ∷ []) (Judgement.process E P0 es)
    ≡ ((given E1 E M1 M && (given E2 E M2 N && (going E3 ((x ⦂ T) ∷ E) P3 P && (test (same_effects es es3) && not (mentions x es)))))
    && (test (same_type T1 Ty.Un) && (test (same_type T2 Ty.Un) && test (same_type T Ty.Un))))
unfolding open_rule open_process pick
open-Un zero l h = absurd (omega arith)
open-Un (suc zero) l h = absurd (omega arith)
open-Un (suc (suc zero)) l h = absurd (omega arith)
open-Un (suc (suc (suc zero))) l h = absurd (omega arith)
open-Un (suc (suc (suc (suc zero)))) l h = absurd (omega arith)
open-Un (suc (suc (suc (suc (suc zero))))) l h = absurd (omega arith)
open-Un (suc (suc (suc (suc (suc (suc zero)))))) l h = absurd (omega arith)
open-Un (suc (suc (suc (suc (suc (suc (suc zero))))))) l h = match-Un
open-Un (suc (suc (suc (suc (suc (suc (suc (suc zero)))))))) l h = decrypt-Un
open-Un (suc (suc (suc (suc (suc (suc (suc (suc (suc c))))))))) l h = absurd (omega arith)

pub open-code : (c : ℕ) → 7 ≤ c → c ≤ 8 → rule_code (open_rule c) ≡ c
unfolding rule_code open_rule pick
open-code zero l h = absurd (omega arith)
open-code (suc zero) l h = absurd (omega arith)
open-code (suc (suc zero)) l h = absurd (omega arith)
open-code (suc (suc (suc zero))) l h = absurd (omega arith)
open-code (suc (suc (suc (suc zero)))) l h = absurd (omega arith)
open-code (suc (suc (suc (suc (suc zero))))) l h = absurd (omega arith)
open-code (suc (suc (suc (suc (suc (suc zero)))))) l h = absurd (omega arith)
open-code (suc (suc (suc (suc (suc (suc (suc zero))))))) l h = refl
open-code (suc (suc (suc (suc (suc (suc (suc (suc zero)))))))) l h = refl
open-code (suc (suc (suc (suc (suc (suc (suc (suc (suc c))))))))) l h = absurd (omega arith)

-- ---- another process, by its word
pub other : (r : Rule) (Js : List Judgement) (E : Environment) (Q : Process) (es : List Effect) → (code_of Q ≡ rule_code r → ⊥)
    → false ≡ follows r Js (Judgement.process E Q es)
unfolding rule_code left right name_of second promised parts_of environment_of term_of type_of effects_of process_of first rest printed asks
other Rule.stop Js E Q es d = never-follows (λ w. d (ap code_of (subject E Q es w.conclusion)))
other Rule.begin Js E Q es d = never-follows (λ w. d (ap code_of (subject E Q es w.conclusion)))
other Rule.end Js E Q es d = never-follows (λ w. d (ap code_of (subject E Q es w.conclusion)))
other Rule.parallel Js E Q es d = never-follows (λ w. d (ap code_of (subject E Q es w.conclusion)))
other Rule.new Js E Q es d = never-follows (λ w. d (ap code_of (subject E Q es w.conclusion)))
other Rule.out Js E Q es d = never-follows (λ w. d (ap code_of (subject E Q es w.conclusion)))
other Rule.inp Js E Q es d = never-follows (λ w. d (ap code_of (subject E Q es w.conclusion)))
other Rule.split Js E Q es d = never-follows (λ w. d (ap code_of (subject E Q es w.conclusion)))
other Rule.match Js E Q es d = never-follows (λ w. d (ap code_of (subject E Q es w.conclusion)))
other Rule.cast Js E Q es d = never-follows (λ w. d (ap code_of (subject E Q es w.conclusion)))
other Rule.check Js E Q es d = never-follows (λ w. d (ap code_of (subject E Q es w.conclusion)))
other Rule.decrypt Js E Q es d = never-follows (λ w. d (ap code_of (subject E Q es w.conclusion)))
other Rule.out-Un Js E Q es d = never-follows (λ w. d (ap code_of (subject E Q es w.conclusion)))
other Rule.inp-Un Js E Q es d = never-follows (λ w. d (ap code_of (subject E Q es w.conclusion)))
other Rule.split-Un Js E Q es d = never-follows (λ w. d (ap code_of (subject E Q es w.conclusion)))
other Rule.match-Un Js E Q es d = never-follows (λ w. d (ap code_of (subject E Q es w.conclusion)))
other Rule.decrypt-Un Js E Q es d = never-follows (λ w. d (ap code_of (subject E Q es w.conclusion)))
other Rule.empty Js E Q es d = never-follows (λ w. let q = w.conclusion in cc)
other Rule.entry Js E Q es d = never-follows (λ w. let q = w.conclusion in cc)
other Rule.effect-none Js E Q es d = never-follows (λ w. let q = w.conclusion in cc)
other Rule.effect-end Js E Q es d = never-follows (λ w. let q = w.conclusion in cc)
other Rule.effect-check Js E Q es d = never-follows (λ w. let q = w.conclusion in cc)
other Rule.type-Un Js E Q es d = never-follows (λ w. let q = w.conclusion in cc)
other Rule.type-pair Js E Q es d = never-follows (λ w. let q = w.conclusion in cc)
other Rule.type-channel Js E Q es d = never-follows (λ w. let q = w.conclusion in cc)
other Rule.type-symkey Js E Q es d = never-follows (λ w. let q = w.conclusion in cc)
other Rule.type-nonce Js E Q es d = never-follows (λ w. let q = w.conclusion in cc)
other Rule.name Js E Q es d = never-follows (λ w. let q = w.conclusion in cc)
other Rule.pair Js E Q es d = never-follows (λ w. let q = w.conclusion in cc)
other Rule.cipher Js E Q es d = never-follows (λ w. let q = w.conclusion in cc)
other Rule.cipher-Un Js E Q es d = never-follows (λ w. let q = w.conclusion in cc)
other Rule.pair-Un Js E Q es d = never-follows (λ w. let q = w.conclusion in cc)

-- ---- another type
pub match-type-other : (E1 : Environment) (M1 : Term) (T1 : Ty) (Js : List Judgement) (J : Judgement) → ((S R : Ty) → T1 ≡ Ty.pair S R → ⊥)
    → false ≡ follows Rule.match (Judgement.term E1 M1 T1 ∷ Js) J
unfolding left right name_of second promised parts_of environment_of term_of type_of effects_of process_of first rest printed asks
match-type-other E1 M1 T1 Js J d = never-follows (λ w. d _ _ (types w.premises))
  where
    types : {F : Environment} {N : Term} {S : Ty} {Ks : List Judgement} → Judgement.term E1 M1 T1 ∷ Js ≡ Judgement.term F N S ∷ Ks → T1 ≡ S
    types z = cc

pub check-type-other : (K : Judgement) (E2 : Environment) (M2 : Term) (T2 : Ty) (Js : List Judgement) (J : Judgement)
    → ((gs : List Effect) → T2 ≡ Ty.nonce gs → ⊥)
    → false ≡ follows Rule.check (K ∷ Judgement.term E2 M2 T2 ∷ Js) J
unfolding left right name_of second promised parts_of environment_of term_of type_of effects_of process_of first rest printed asks
check-type-other K E2 M2 T2 Js J d = never-follows (λ w. d _ (types w.premises))
  where
    types : {L : Judgement} {F : Environment} {N : Term} {S : Ty} {Ks : List Judgement}
        → K ∷ Judgement.term E2 M2 T2 ∷ Js ≡ L ∷ Judgement.term F N S ∷ Ks → T2 ≡ S
    types z = cc
