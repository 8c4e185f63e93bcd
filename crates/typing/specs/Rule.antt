-- The rules of source 001, definitions 9, 10, 11, 13 and 15, for the shared-key part: one constructor of `Instance` a kept rule, under the
-- rule as printed. Definition 12 is used by none of them.
--
-- Left out: all that speaks of (), sig, mistake, sums, private and public keys, challenges, `repeat` and `case`; of the decryption under
-- a shared key, "M : (Un or sig or mistake)" leaves M : Un.
--
-- How the print is read:
-- - Definition 13's name rule has E', x : T, E'' above the line and E, x : T, E'' below: both are one environment. "un", in definition
--   15's second rule for `out`, is Un.
-- - "x, y ∉ fn(es)", which definition 15 asks of all its rules, is asked at each binder of the effect that is concluded: at `new`
--   es − [check x], at `cast` es + es', elsewhere es. Asked of P's own effect, `new` could never take anything away, and a cast to a name
--   that its own promise mentions would pass.
-- - No freshness of x in E is asked where none is printed. Environments are ordered, a name may stand in one twice, and the name rule
--   sees every entry.
-- - `begin` and `end` have no premise on L. L is a term of definition 1: no pair type's own variable stands in it.
-- - `check M = N`: M is Un and N is the nonce (section 3.2's example has them the other way round; definition 15 decides); first es' is
--   taken away, then check M is added.
-- - (x : T, U) binds x in U: where a rule names x beside it, as definition 11's rule for pairs and `split` do, the type is U with x bound.
-- - Types are equal up to the names that they bind and the order of effects; processes are equal if they have equal parts.
use Rattle.std.specs.Prelude.{ℕ, true, false, ◌≡◌}
use mathlib.Core.List.{List, [], ◌∷◌, Memᴰ}
use Rattle.typing.specs.Term.{Term, Effect, closed, mentions, Change}
use Rattle.typing.specs.Bag.{insert, plus, minus}
use Rattle.typing.specs.Types.{Ty, Environment, ◌⦂◌, change_type, generatable}
use Rattle.typing.specs.Process.{Process}
use Rattle.typing.specs.Judgement.{Judgement}

-- the rules' names. Those that end in -Un are the forms for Un of definition 13 and of definition 15's last part
pub data Rule : Type 0 where
  -- definition 9
  empty : Rule
  entry : Rule
  -- definition 10
  effect-none : Rule
  effect-end : Rule
  effect-check : Rule
  -- definition 11
  type-Un : Rule
  type-pair : Rule
  type-channel : Rule
  type-symkey : Rule
  type-nonce : Rule
  -- definition 13
  name : Rule
  pair : Rule
  cipher : Rule
  cipher-Un : Rule
  pair-Un : Rule
  -- definition 15
  stop : Rule
  begin : Rule
  end : Rule
  parallel : Rule
  new : Rule
  out : Rule
  inp : Rule
  split : Rule
  match : Rule
  cast : Rule
  check : Rule
  decrypt : Rule
  out-Un : Rule
  inp-Un : Rule
  split-Un : Rule
  match-Un : Rule
  decrypt-Un : Rule

-- U with x bound in it; U[M/x]
abbrev pub binding : ℕ → Ty → Ty
binding x U = change_type (Change.bind x) U

abbrev pub putting : Term → Ty → Ty
putting M U = change_type (Change.put M) U

-- the conclusion follows by the rule from the premises, which are in the printed order
pub data Instance : Rule → List Judgement → Judgement → Type 0 where
  -- φ ⊢ ⋄
  empty : Instance Rule.empty [] (Judgement.environment [])
  -- E ⊢ T  ⟹  E, x : T ⊢ ⋄
  entry : {E : Environment} {x : ℕ} {T : Ty} → Instance Rule.entry (Judgement.type E T ∷ []) (Judgement.environment (x ⦂ T ∷ E))
  -- E ⊢ ⋄  ⟹  E ⊢ []
  effect-none : {E : Environment} → Instance Rule.effect-none (Judgement.environment E ∷ []) (Judgement.effect E [])
  -- E ⊢ es, E ⊢ L : T  ⟹  E ⊢ es + [end L]
  effect-end : {E : Environment} {es : List Effect} {L : Term} {T : Ty}
      → Instance Rule.effect-end (Judgement.effect E es ∷ Judgement.term E L T ∷ []) (Judgement.effect E (insert (Effect.end L) es))
  -- E ⊢ es, E ⊢ N : Un  ⟹  E ⊢ es + [check N]
  effect-check : {E : Environment} {es : List Effect} {N : Term}
      → Instance Rule.effect-check (Judgement.effect E es ∷ Judgement.term E N Ty.Un ∷ []) (Judgement.effect E (insert (Effect.check N) es))
  -- E ⊢ ⋄  ⟹  E ⊢ Un
  type-Un : {E : Environment} → Instance Rule.type-Un (Judgement.environment E ∷ []) (Judgement.type E Ty.Un)
  -- E ⊢ T, E, x : T ⊢ U  ⟹  E ⊢ (x : T, U)
  type-pair : {E : Environment} {x : ℕ} {T U : Ty}
      → Instance Rule.type-pair (Judgement.type E T ∷ Judgement.type (x ⦂ T ∷ E) U ∷ []) (Judgement.type E (Ty.pair T (binding x U)))
  -- E ⊢ T  ⟹  E ⊢ ch(T)
  type-channel : {E : Environment} {T : Ty} → Instance Rule.type-channel (Judgement.type E T ∷ []) (Judgement.type E (Ty.channel T))
  -- E ⊢ T  ⟹  E ⊢ symkey(T)
  type-symkey : {E : Environment} {T : Ty} → Instance Rule.type-symkey (Judgement.type E T ∷ []) (Judgement.type E (Ty.symkey T))
  -- E ⊢ es  ⟹  E ⊢ nonce es
  type-nonce : {E : Environment} {es : List Effect}
      → Instance Rule.type-nonce (Judgement.effect E es ∷ []) (Judgement.type E (Ty.nonce es))
  -- E', x : T, E'' ⊢ ⋄  ⟹  E', x : T, E'' ⊢ x : T
  name : {E : Environment} {x : ℕ} {T : Ty} → Memᴰ (x ⦂ T) E
      → Instance Rule.name (Judgement.environment E ∷ []) (Judgement.term E (Term.name x) T)
  -- E ⊢ M : T, E ⊢ N : U[M/x]  ⟹  E ⊢ (M, N) : (x : T, U)
  pair : {E : Environment} {M N : Term} {T U : Ty}
      → Instance Rule.pair (Judgement.term E M T ∷ Judgement.term E N (putting M U) ∷ []) (Judgement.term E (Term.pair M N) (Ty.pair T U))
  -- E ⊢ M : T, E ⊢ N : symkey(T)  ⟹  E ⊢ {M}N : Un
  cipher : {E : Environment} {M N : Term} {T : Ty}
      → Instance Rule.cipher (Judgement.term E M T ∷ Judgement.term E N (Ty.symkey T) ∷ []) (Judgement.term E (Term.cipher M N) Ty.Un)
  -- E ⊢ M : Un, E ⊢ N : Un  ⟹  E ⊢ {M}N : Un
  cipher-Un : {E : Environment} {M N : Term}
      → Instance Rule.cipher-Un (Judgement.term E M Ty.Un ∷ Judgement.term E N Ty.Un ∷ []) (Judgement.term E (Term.cipher M N) Ty.Un)
  -- E ⊢ M : Un, E ⊢ N : Un  ⟹  E ⊢ (M, N) : Un
  pair-Un : {E : Environment} {M N : Term}
      → Instance Rule.pair-Un (Judgement.term E M Ty.Un ∷ Judgement.term E N Ty.Un ∷ []) (Judgement.term E (Term.pair M N) Ty.Un)
  -- E ⊢ ⋄  ⟹  E ⊢ STOP : []
  stop : {E : Environment} → Instance Rule.stop (Judgement.environment E ∷ []) (Judgement.process E Process.stop [])
  -- E ⊢ P : es  ⟹  E ⊢ begin L; P : es − [end L]
  begin : {E : Environment} {L : Term} {P : Process} {es : List Effect} → closed L ≡ true
      → Instance Rule.begin (Judgement.process E P es ∷ []) (Judgement.process E (Process.begin L P) (minus es (Effect.end L ∷ [])))
  -- E ⊢ P : es  ⟹  E ⊢ end L; P : es + [end L]
  end : {E : Environment} {L : Term} {P : Process} {es : List Effect} → closed L ≡ true
      → Instance Rule.end (Judgement.process E P es ∷ []) (Judgement.process E (Process.end L P) (insert (Effect.end L) es))
  -- E ⊢ P : es_p, E ⊢ Q : es_q  ⟹  E ⊢ P | Q : es_p + es_q
  parallel : {E : Environment} {P Q : Process} {es fs : List Effect}
      → Instance Rule.parallel (Judgement.process E P es ∷ Judgement.process E Q fs ∷ [])
      (Judgement.process E (Process.parallel P Q) (plus es fs))
  -- E, x : T ⊢ P : es, T generatable and no challenge  ⟹  E ⊢ new (x : T); P : es − [check x]
  new : {E : Environment} {x : ℕ} {T : Ty} {P : Process} {es : List Effect} → generatable T ≡ true
      → mentions x (minus es (Effect.check (Term.name x) ∷ [])) ≡ false
      → Instance Rule.new (Judgement.process (x ⦂ T ∷ E) P es ∷ [])
      (Judgement.process E (Process.new x T P) (minus es (Effect.check (Term.name x) ∷ [])))
  -- E ⊢ M1 : ch(T), E ⊢ M2 : T, E ⊢ P : es  ⟹  E ⊢ out M1 M2; P : es
  out : {E : Environment} {M N : Term} {T : Ty} {P : Process} {es : List Effect}
      → Instance Rule.out (Judgement.term E M (Ty.channel T) ∷ Judgement.term E N T ∷ Judgement.process E P es ∷ [])
      (Judgement.process E (Process.out M N P) es)
  -- E ⊢ M : ch(T), E, x : T ⊢ P : es  ⟹  E ⊢ inp M x : T; P : es
  inp : {E : Environment} {M : Term} {x : ℕ} {T : Ty} {P : Process} {es : List Effect} → mentions x es ≡ false
      → Instance Rule.inp (Judgement.term E M (Ty.channel T) ∷ Judgement.process (x ⦂ T ∷ E) P es ∷ [])
      (Judgement.process E (Process.inp M x T P) es)
  -- E ⊢ M : (x : T, U), E, x : T, y : U ⊢ P : es  ⟹  E ⊢ split M = (x : T, y : U); P : es
  split : {E : Environment} {M : Term} {x y : ℕ} {T U : Ty} {P : Process} {es : List Effect} → mentions x es ≡ false → mentions y es ≡ false
      → Instance Rule.split (Judgement.term E M (Ty.pair T (binding x U)) ∷ Judgement.process (y ⦂ U ∷ x ⦂ T ∷ E) P es ∷ [])
      (Judgement.process E (Process.split M x T y U P) es)
  -- E ⊢ M : (x : T, U), E ⊢ N : T, E, y : U[N/x] ⊢ P : es  ⟹  E ⊢ match M = (N, y : U[N/x]); P : es
  match : {E : Environment} {M N : Term} {y : ℕ} {T U : Ty} {P : Process} {es : List Effect} → mentions y es ≡ false
      → Instance Rule.match
      (Judgement.term E M (Ty.pair T U) ∷ Judgement.term E N T ∷ Judgement.process (y ⦂ putting N U ∷ E) P es ∷ [])
      (Judgement.process E (Process.match M N y (putting N U) P) es)
  -- E ⊢ M : Un, E, x : nonce es' ⊢ P : es  ⟹  E ⊢ cast M is x : nonce es'; P : es + es'
  cast : {E : Environment} {M : Term} {x : ℕ} {fs : List Effect} {P : Process} {es : List Effect} → mentions x (plus es fs) ≡ false
      → Instance Rule.cast (Judgement.term E M Ty.Un ∷ Judgement.process (x ⦂ Ty.nonce fs ∷ E) P es ∷ [])
      (Judgement.process E (Process.cast M x fs P) (plus es fs))
  -- E ⊢ M : Un, E ⊢ N : nonce es', E ⊢ P : es  ⟹  E ⊢ check M = N; P : es − es' + [check M]
  check : {E : Environment} {M N : Term} {fs : List Effect} {P : Process} {es : List Effect}
      → Instance Rule.check (Judgement.term E M Ty.Un ∷ Judgement.term E N (Ty.nonce fs) ∷ Judgement.process E P es ∷ [])
      (Judgement.process E (Process.check M N P) (insert (Effect.check M) (minus es fs)))
  -- E ⊢ M : Un, E ⊢ N : symkey(T), E, x : T ⊢ P : es  ⟹  E ⊢ decrypt M (N) to x : T; P : es
  decrypt : {E : Environment} {M N : Term} {x : ℕ} {T : Ty} {P : Process} {es : List Effect} → mentions x es ≡ false
      → Instance Rule.decrypt (Judgement.term E M Ty.Un ∷ Judgement.term E N (Ty.symkey T) ∷ Judgement.process (x ⦂ T ∷ E) P es ∷ [])
      (Judgement.process E (Process.decrypt M N x T P) es)
  -- E ⊢ M1 : Un, E ⊢ M2 : Un, E ⊢ P : es  ⟹  E ⊢ out M1 M2; P : es
  out-Un : {E : Environment} {M N : Term} {P : Process} {es : List Effect}
      → Instance Rule.out-Un (Judgement.term E M Ty.Un ∷ Judgement.term E N Ty.Un ∷ Judgement.process E P es ∷ [])
      (Judgement.process E (Process.out M N P) es)
  -- E ⊢ M : Un, E, x : Un ⊢ P : es  ⟹  E ⊢ inp M x : Un; P : es
  inp-Un : {E : Environment} {M : Term} {x : ℕ} {P : Process} {es : List Effect} → mentions x es ≡ false
      → Instance Rule.inp-Un (Judgement.term E M Ty.Un ∷ Judgement.process (x ⦂ Ty.Un ∷ E) P es ∷ [])
      (Judgement.process E (Process.inp M x Ty.Un P) es)
  -- E ⊢ M : Un, E, x : Un, y : Un ⊢ P : es  ⟹  E ⊢ split M = (x : Un, y : Un); P : es
  split-Un : {E : Environment} {M : Term} {x y : ℕ} {P : Process} {es : List Effect} → mentions x es ≡ false → mentions y es ≡ false
      → Instance Rule.split-Un (Judgement.term E M Ty.Un ∷ Judgement.process (y ⦂ Ty.Un ∷ x ⦂ Ty.Un ∷ E) P es ∷ [])
      (Judgement.process E (Process.split M x Ty.Un y Ty.Un P) es)
  -- E ⊢ M : Un, E ⊢ N : Un, E, y : Un ⊢ P : es  ⟹  E ⊢ match M = (N, y : Un); P : es
  match-Un : {E : Environment} {M N : Term} {y : ℕ} {P : Process} {es : List Effect} → mentions y es ≡ false
      → Instance Rule.match-Un (Judgement.term E M Ty.Un ∷ Judgement.term E N Ty.Un ∷ Judgement.process (y ⦂ Ty.Un ∷ E) P es ∷ [])
      (Judgement.process E (Process.match M N y Ty.Un P) es)
  -- E ⊢ M : Un, E ⊢ N : Un, E, x : Un ⊢ P : es  ⟹  E ⊢ decrypt M (N) to x : Un; P : es
  decrypt-Un : {E : Environment} {M N : Term} {x : ℕ} {P : Process} {es : List Effect} → mentions x es ≡ false
      → Instance Rule.decrypt-Un (Judgement.term E M Ty.Un ∷ Judgement.term E N Ty.Un ∷ Judgement.process (x ⦂ Ty.Un ∷ E) P es ∷ [])
      (Judgement.process E (Process.decrypt M N x Ty.Un P) es)

-- ---- what the rules derive
mutual
  pub data Holds : Judgement → Type 0 where
    by : {r : Rule} {Js : List Judgement} {J : Judgement} → Instance r Js J → AllHold Js → Holds J

  pub data AllHold : List Judgement → Type 0 where
    none : AllHold []
    more : {J : Judgement} {Js : List Judgement} → Holds J → AllHold Js → AllHold (J ∷ Js)
