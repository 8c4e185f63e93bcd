-- Whether a conclusion follows by a rule from premises, as a test that computes: from the parts of what is given the rule is written out
-- as it is printed, and compared with what is given. Check.Laws has that the test holds exactly of the rule's instances (`exact`).
use Rattle.std.specs.Prelude.{ℕ, Bool, true, false, not, ◌&&◌, List, [], ◌∷◌}
use Rattle.words.specs.Choice.{choose}
use Rattle.typing.specs.Term.{Term, Effect, closed, mentions}
use Rattle.typing.specs.Bag.{insert, plus, minus}
use Rattle.typing.specs.Types.{Ty, Entry, Environment, ◌⦂◌, generatable, same_entry}
use Rattle.typing.specs.Process.{Process}
use Rattle.typing.specs.Judgement.{Judgement, same_judgement, same_judgements}
use Rattle.typing.specs.Rule.{Rule, binding, putting}

-- ---- parts. Where there is no such part, what is given here is no matter: what is written out from it differs from what is given
unfoldable pub left : Term → Term
left (Term.name n) = Term.name n
left (Term.bound k) = Term.bound k
left (Term.pair M N) = M
left (Term.cipher M N) = M

unfoldable pub right : Term → Term
right (Term.name n) = Term.name n
right (Term.bound k) = Term.bound k
right (Term.pair M N) = N
right (Term.cipher M N) = N

unfoldable pub name_of : Term → ℕ
name_of (Term.name n) = n
name_of (Term.bound k) = 0
name_of (Term.pair M N) = 0
name_of (Term.cipher M N) = 0

-- U of (x : T, U); es of nonce es
unfoldable pub second : Ty → Ty
second Ty.Un = Ty.Un
second (Ty.pair T U) = U
second (Ty.channel T) = Ty.Un
second (Ty.symkey T) = Ty.Un
second (Ty.nonce es) = Ty.Un

unfoldable pub promised : Ty → List Effect
promised Ty.Un = []
promised (Ty.pair T U) = []
promised (Ty.channel T) = []
promised (Ty.symkey T) = []
promised (Ty.nonce es) = es

unfoldable pub entry_name : Entry → ℕ
entry_name (x ⦂ T) = x

unfoldable pub entry_type : Entry → Ty
entry_type (x ⦂ T) = T

unfoldable pub newest : Environment → Entry
newest [] = 0 ⦂ Ty.Un
newest (a ∷ E) = a

unfoldable pub older : Environment → Environment
older [] = []
older (a ∷ E) = E

-- a process's own terms, names and types, and the processes in it
pub record Parts : Type 0 where
  pub M : Term
  pub N : Term
  pub x : ℕ
  pub T : Ty
  pub y : ℕ
  pub U : Ty
  pub fs : List Effect
  pub P : Process
  pub Q : Process

abbrev parts : Term → Term → ℕ → Ty → ℕ → Ty → List Effect → Process → Process → Parts
parts M N x T y U fs P Q = record { M = M; N = N; x = x; T = T; y = y; U = U; fs = fs; P = P; Q = Q }

abbrev no_term : Term
no_term = Term.bound 0

unfoldable pub parts_of : Process → Parts
parts_of (Process.new x T P) = parts no_term no_term x T 0 Ty.Un [] P Process.stop
parts_of (Process.out M N P) = parts M N 0 Ty.Un 0 Ty.Un [] P Process.stop
parts_of (Process.inp M x T P) = parts M no_term x T 0 Ty.Un [] P Process.stop
parts_of (Process.parallel P Q) = parts no_term no_term 0 Ty.Un 0 Ty.Un [] P Q
parts_of Process.stop = parts no_term no_term 0 Ty.Un 0 Ty.Un [] Process.stop Process.stop
parts_of (Process.split M x T y U P) = parts M no_term x T y U [] P Process.stop
parts_of (Process.match M N y U P) = parts M N 0 Ty.Un y U [] P Process.stop
parts_of (Process.decrypt M N x T P) = parts M N x T 0 Ty.Un [] P Process.stop
parts_of (Process.begin M P) = parts M no_term 0 Ty.Un 0 Ty.Un [] P Process.stop
parts_of (Process.end M P) = parts M no_term 0 Ty.Un 0 Ty.Un [] P Process.stop
parts_of (Process.cast M x fs P) = parts M no_term x Ty.Un 0 Ty.Un fs P Process.stop
parts_of (Process.check M N P) = parts M N 0 Ty.Un 0 Ty.Un [] P Process.stop

-- a judgement's environment, term, type, effects and process
unfoldable pub environment_of : Judgement → Environment
environment_of (Judgement.environment E) = E
environment_of (Judgement.type E T) = E
environment_of (Judgement.effect E es) = E
environment_of (Judgement.term E M T) = E
environment_of (Judgement.process E P es) = E

unfoldable pub term_of : Judgement → Term
term_of (Judgement.environment E) = no_term
term_of (Judgement.type E T) = no_term
term_of (Judgement.effect E es) = no_term
term_of (Judgement.term E M T) = M
term_of (Judgement.process E P es) = no_term

unfoldable pub type_of : Judgement → Ty
type_of (Judgement.environment E) = Ty.Un
type_of (Judgement.type E T) = T
type_of (Judgement.effect E es) = Ty.Un
type_of (Judgement.term E M T) = T
type_of (Judgement.process E P es) = Ty.Un

unfoldable pub effects_of : Judgement → List Effect
effects_of (Judgement.environment E) = []
effects_of (Judgement.type E T) = []
effects_of (Judgement.effect E es) = es
effects_of (Judgement.term E M T) = []
effects_of (Judgement.process E P es) = es

unfoldable pub process_of : Judgement → Process
process_of (Judgement.environment E) = Process.stop
process_of (Judgement.type E T) = Process.stop
process_of (Judgement.effect E es) = Process.stop
process_of (Judgement.term E M T) = Process.stop
process_of (Judgement.process E P es) = P

-- the first premise, the second and the third
unfoldable pub first : List Judgement → Judgement
first [] = Judgement.environment []
first (J ∷ Js) = J

unfoldable pub rest : List Judgement → List Judgement
rest [] = []
rest (J ∷ Js) = Js

-- ---- the rule written out
-- the parts that a rule is written from: the conclusion's, and what stands in the premises only
module _ (Js : List Judgement) (J : Judgement) where
  abbrev E : Environment
  E = environment_of J

  abbrev M : Term
  M = (parts_of (process_of J)).M

  abbrev N : Term
  N = (parts_of (process_of J)).N

  abbrev x : ℕ
  x = (parts_of (process_of J)).x

  abbrev T : Ty
  T = (parts_of (process_of J)).T

  abbrev y : ℕ
  y = (parts_of (process_of J)).y

  abbrev U : Ty
  U = (parts_of (process_of J)).U

  abbrev fs : List Effect
  fs = (parts_of (process_of J)).fs

  abbrev P : Process
  P = (parts_of (process_of J)).P

  abbrev Q : Process
  Q = (parts_of (process_of J)).Q

  -- the first premise's type and effects, and so on
  abbrev T₁ : Ty
  T₁ = type_of (first Js)

  abbrev es₁ : List Effect
  es₁ = effects_of (first Js)

  abbrev T₂ : Ty
  T₂ = type_of (first (rest Js))

  abbrev es₂ : List Effect
  es₂ = effects_of (first (rest Js))

  abbrev es₃ : List Effect
  es₃ = effects_of (first (rest (rest Js)))

  abbrev x₂ : ℕ
  x₂ = entry_name (newest (environment_of (first (rest Js))))

  abbrev E₀ : Environment
  E₀ = older E

  abbrev T₀ : Ty
  T₀ = entry_type (newest E)

  -- the premises and the conclusion
  unfoldable pub printed : Rule → List Judgement × Judgement
  printed Rule.empty = ([], Judgement.environment [])
  printed Rule.entry =
      (Judgement.type E₀ T₀ ∷ [], Judgement.environment (entry_name (newest E) ⦂ T₀ ∷ E₀))
  printed Rule.effect-none = (Judgement.environment E ∷ [], Judgement.effect E [])
  printed Rule.effect-end =
      let L = term_of (first (rest Js)) in
      (Judgement.effect E es₁ ∷ Judgement.term E L T₂ ∷ [], Judgement.effect E (insert (Effect.end L) es₁))
  printed Rule.effect-check =
      let L = term_of (first (rest Js)) in
      (Judgement.effect E es₁ ∷ Judgement.term E L Ty.Un ∷ [], Judgement.effect E (insert (Effect.check L) es₁))
  printed Rule.type-Un = (Judgement.environment E ∷ [], Judgement.type E Ty.Un)
  printed Rule.type-pair = (
    Judgement.type E T₁ ∷ Judgement.type (x₂ ⦂ T₁ ∷ E) T₂ ∷ [],
    Judgement.type E (Ty.pair T₁ (binding x₂ T₂)),
  )
  printed Rule.type-channel = (Judgement.type E T₁ ∷ [], Judgement.type E (Ty.channel T₁))
  printed Rule.type-symkey = (Judgement.type E T₁ ∷ [], Judgement.type E (Ty.symkey T₁))
  printed Rule.type-nonce = (Judgement.effect E es₁ ∷ [], Judgement.type E (Ty.nonce es₁))
  printed Rule.name = (Judgement.environment E ∷ [], Judgement.term E (Term.name (name_of (term_of J))) (type_of J))
  printed Rule.pair =
      let A = left (term_of J) in
      let B = right (term_of J) in (
        Judgement.term E A T₁ ∷ Judgement.term E B (putting A (second (type_of J))) ∷ [],
        Judgement.term E (Term.pair A B) (Ty.pair T₁ (second (type_of J))),
      )
  printed Rule.cipher =
      let A = left (term_of J) in
      let B = right (term_of J) in
      (Judgement.term E A T₁ ∷ Judgement.term E B (Ty.symkey T₁) ∷ [], Judgement.term E (Term.cipher A B) Ty.Un)
  printed Rule.cipher-Un =
      let A = left (term_of J) in
      let B = right (term_of J) in
      (Judgement.term E A Ty.Un ∷ Judgement.term E B Ty.Un ∷ [], Judgement.term E (Term.cipher A B) Ty.Un)
  printed Rule.pair-Un =
      let A = left (term_of J) in
      let B = right (term_of J) in
      (Judgement.term E A Ty.Un ∷ Judgement.term E B Ty.Un ∷ [], Judgement.term E (Term.pair A B) Ty.Un)
  printed Rule.stop = (Judgement.environment E ∷ [], Judgement.process E Process.stop [])
  printed Rule.begin = (
    Judgement.process E P es₁ ∷ [],
    Judgement.process E (Process.begin M P) (minus es₁ (Effect.end M ∷ [])),
  )
  printed Rule.end = (
    Judgement.process E P es₁ ∷ [],
    Judgement.process E (Process.end M P) (insert (Effect.end M) es₁),
  )
  printed Rule.parallel = (
    Judgement.process E P es₁ ∷ Judgement.process E Q es₂ ∷ [],
    Judgement.process E (Process.parallel P Q) (plus es₁ es₂),
  )
  printed Rule.new = (
    Judgement.process (x ⦂ T ∷ E) P es₁ ∷ [],
    Judgement.process E (Process.new x T P) (minus es₁ (Effect.check (Term.name x) ∷ [])),
  )
  printed Rule.out = (
    Judgement.term E M (Ty.channel T₂) ∷ Judgement.term E N T₂
        ∷ Judgement.process E P es₃ ∷ [],
    Judgement.process E (Process.out M N P) es₃,
  )
  printed Rule.inp = (
    Judgement.term E M (Ty.channel T) ∷ Judgement.process (x ⦂ T ∷ E) P es₂ ∷ [],
    Judgement.process E (Process.inp M x T P) es₂,
  )
  printed Rule.split = (
    Judgement.term E M (Ty.pair T (binding x U))
        ∷ Judgement.process (y ⦂ U ∷ x ⦂ T ∷ E) P es₂ ∷ [],
    Judgement.process E (Process.split M x T y U P) es₂,
  )
  printed Rule.match =
      let S = second T₁ in (
        Judgement.term E M (Ty.pair T₂ S) ∷ Judgement.term E N T₂
            ∷ Judgement.process (y ⦂ putting N S ∷ E) P es₃ ∷ [],
        Judgement.process E (Process.match M N y (putting N S) P) es₃,
      )
  printed Rule.cast = (
    Judgement.term E M Ty.Un ∷ Judgement.process (x ⦂ Ty.nonce fs ∷ E) P es₂ ∷ [],
    Judgement.process E (Process.cast M x fs P) (plus es₂ fs),
  )
  printed Rule.check =
      let gs = promised T₂ in (
        Judgement.term E M Ty.Un ∷ Judgement.term E N (Ty.nonce gs)
            ∷ Judgement.process E P es₃ ∷ [],
        Judgement.process E (Process.check M N P) (insert (Effect.check M) (minus es₃ gs)),
      )
  printed Rule.decrypt = (
    Judgement.term E M Ty.Un ∷ Judgement.term E N (Ty.symkey T)
        ∷ Judgement.process (x ⦂ T ∷ E) P es₃ ∷ [],
    Judgement.process E (Process.decrypt M N x T P) es₃,
  )
  printed Rule.out-Un = (
    Judgement.term E M Ty.Un ∷ Judgement.term E N Ty.Un ∷ Judgement.process E P es₃ ∷ [],
    Judgement.process E (Process.out M N P) es₃,
  )
  printed Rule.inp-Un = (
    Judgement.term E M Ty.Un ∷ Judgement.process (x ⦂ Ty.Un ∷ E) P es₂ ∷ [],
    Judgement.process E (Process.inp M x Ty.Un P) es₂,
  )
  printed Rule.split-Un = (
    Judgement.term E M Ty.Un ∷ Judgement.process (y ⦂ Ty.Un ∷ x ⦂ Ty.Un ∷ E) P es₂ ∷ [],
    Judgement.process E (Process.split M x Ty.Un y Ty.Un P) es₂,
  )
  printed Rule.match-Un = (
    Judgement.term E M Ty.Un ∷ Judgement.term E N Ty.Un
        ∷ Judgement.process (y ⦂ Ty.Un ∷ E) P es₃ ∷ [],
    Judgement.process E (Process.match M N y Ty.Un P) es₃,
  )
  printed Rule.decrypt-Un = (
    Judgement.term E M Ty.Un ∷ Judgement.term E N Ty.Un
        ∷ Judgement.process (x ⦂ Ty.Un ∷ E) P es₃ ∷ [],
    Judgement.process E (Process.decrypt M N x Ty.Un P) es₃,
  )

-- the entry stands in the environment
unfoldable pub stands : Entry → Environment → Bool
stands a [] = false
stands a (b ∷ E) = choose (same_entry a b) true (stands a E)

-- what a rule asks beside its premises
unfoldable pub asks : Rule → Judgement → Bool
asks Rule.empty J = true
asks Rule.entry J = true
asks Rule.effect-none J = true
asks Rule.effect-end J = true
asks Rule.effect-check J = true
asks Rule.type-Un J = true
asks Rule.type-pair J = true
asks Rule.type-channel J = true
asks Rule.type-symkey J = true
asks Rule.type-nonce J = true
asks Rule.name J = stands (name_of (term_of J) ⦂ type_of J) (environment_of J)
asks Rule.pair J = true
asks Rule.cipher J = true
asks Rule.cipher-Un J = true
asks Rule.pair-Un J = true
asks Rule.stop J = true
asks Rule.begin J = closed (parts_of (process_of J)).M
asks Rule.end J = closed (parts_of (process_of J)).M
asks Rule.parallel J = true
asks Rule.new J = generatable (parts_of (process_of J)).T && not (mentions (parts_of (process_of J)).x (effects_of J))
asks Rule.out J = true
asks Rule.inp J = not (mentions (parts_of (process_of J)).x (effects_of J))
asks Rule.split J = not (mentions (parts_of (process_of J)).x (effects_of J)) && not (mentions (parts_of (process_of J)).y (effects_of J))
asks Rule.match J = not (mentions (parts_of (process_of J)).y (effects_of J))
asks Rule.cast J = not (mentions (parts_of (process_of J)).x (effects_of J))
asks Rule.check J = true
asks Rule.decrypt J = not (mentions (parts_of (process_of J)).x (effects_of J))
asks Rule.out-Un J = true
asks Rule.inp-Un J = not (mentions (parts_of (process_of J)).x (effects_of J))
asks Rule.split-Un J = not (mentions (parts_of (process_of J)).x (effects_of J)) && not (mentions (parts_of (process_of J)).y (effects_of J))
asks Rule.match-Un J = not (mentions (parts_of (process_of J)).y (effects_of J))
asks Rule.decrypt-Un J = not (mentions (parts_of (process_of J)).x (effects_of J))

-- the conclusion follows by the rule from the premises
unfoldable pub follows : Rule → List Judgement → Judgement → Bool
follows r Js J = choose (same_judgements Js (printed Js J r).0) (choose (same_judgement J (printed Js J r).1) (asks r J) false) false
