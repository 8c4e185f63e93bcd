-- Trials of the rules: one statement over one table, computed from the definitions. Each rule has an instance and a near miss.
use Rattle.std.specs.Prelude.{ℕ, Bool, true, false, List, [], ◌∷◌, ◌≡◌, refl}
use Rattle.std.proofs.Math.Decide.{ℕ_discrete}
use Rattle.words.specs.Choice.{pick, choose}
use Rattle.typing.specs.Term.{Term, Effect, same_term, same_effect, closed, occurs, about, mentions, at_name, at_bound, change_term, change_effect, term_words, effect_words}
use Rattle.typing.specs.Bag.{up_to, insert, plus, bag, remove, minus}
use Rattle.typing.specs.Types.{Ty, Environment, ◌⦂◌, same_list, same_effects, same_type, change_type, generatable, same_entry, same_environment}
use Rattle.typing.specs.Process.{Process, same_process}
use Rattle.typing.specs.Judgement.{Judgement, same_judgement, same_judgements}
use Rattle.typing.specs.Rule.{Rule}
use Rattle.typing.specs.Check.{left, right, name_of, second, promised, entry_name, entry_type, newest, older, parts_of, environment_of, term_of, type_of, effects_of, process_of, first, rest, printed, stands, asks, follows}

-- names: a label, a second one, a key, a channel, a pair; two binders
abbrev a : ℕ
a = 0

abbrev b : ℕ
b = 1

abbrev k : ℕ
k = 2

abbrev c : ℕ
c = 3

abbrev p : ℕ
p = 4

abbrev x : ℕ
x = 5

abbrev y : ℕ
y = 6

abbrev E : Environment
E = a ⦂ Ty.Un ∷ []

abbrev K : Ty
K = Ty.symkey (Ty.nonce (Effect.end (Term.name a) ∷ []))

-- a rule, premises, a conclusion, and whether it follows
pub record Ruled : Type 0 where
  pub rule : Rule
  pub premises : List Judgement
  pub conclusion : Judgement
  pub wanted : Bool

abbrev pub ruled : Rule → List Judgement → Judgement → Bool → Ruled
ruled r Js J t = record { rule = r; premises = Js; conclusion = J; wanted = t }

unfoldable pub rulings : List Ruled
rulings =
    -- φ is good
    ruled Rule.empty [] (Judgement.environment []) true
    ∷  -- and another is not, from nothing
    ruled Rule.empty [] (Judgement.environment E) false
    ∷  -- one entry more
    ruled Rule.entry (Judgement.type [] Ty.Un ∷ [])
    (Judgement.environment (a ⦂ Ty.Un ∷ [])) true
    ∷  -- of another type
    ruled Rule.entry (Judgement.type [] Ty.Un ∷ [])
    (Judgement.environment (a ⦂ Ty.channel Ty.Un ∷ [])) false
    ∷  -- no effects
    ruled Rule.effect-none (Judgement.environment E ∷ [])
    (Judgement.effect E []) true
    ∷  -- an effect from nowhere
    ruled Rule.effect-none (Judgement.environment E ∷ [])
    (Judgement.effect E (Effect.end (Term.name a) ∷ [])) false
    ∷  -- end a
    ruled Rule.effect-end (Judgement.effect E (Effect.check (Term.name a) ∷ []) ∷ Judgement.term E (Term.name a) Ty.Un ∷ [])
    (Judgement.effect E (Effect.end (Term.name a) ∷ Effect.check (Term.name a) ∷ [])) true
    ∷  -- end b, where a has a type
    ruled Rule.effect-end (Judgement.effect E [] ∷ Judgement.term E (Term.name a) Ty.Un ∷ [])
    (Judgement.effect E (Effect.end (Term.name b) ∷ [])) false
    ∷  -- check a
    ruled Rule.effect-check (Judgement.effect E [] ∷ Judgement.term E (Term.name a) Ty.Un ∷ [])
    (Judgement.effect E (Effect.check (Term.name a) ∷ [])) true
    ∷  -- a is no Un: ch for Un
    ruled Rule.effect-check (Judgement.effect E [] ∷ Judgement.term E (Term.name a) (Ty.channel Ty.Un) ∷ [])
    (Judgement.effect E (Effect.check (Term.name a) ∷ [])) false
    ∷  -- Un
    ruled Rule.type-Un (Judgement.environment E ∷ [])
    (Judgement.type E Ty.Un) true
    ∷  -- in another environment
    ruled Rule.type-Un (Judgement.environment [] ∷ [])
    (Judgement.type E Ty.Un) false
    ∷  -- x is bound in the second part
    ruled Rule.type-pair (Judgement.type E Ty.Un ∷ Judgement.type (x ⦂ Ty.Un ∷ E) (Ty.nonce (Effect.end (Term.name x) ∷ [])) ∷ [])
    (Judgement.type E (Ty.pair Ty.Un (Ty.nonce (Effect.end (Term.bound 0) ∷ [])))) true
    ∷  -- x is left free
    ruled Rule.type-pair (Judgement.type E Ty.Un ∷ Judgement.type (x ⦂ Ty.Un ∷ E) (Ty.nonce (Effect.end (Term.name x) ∷ [])) ∷ [])
    (Judgement.type E (Ty.pair Ty.Un (Ty.nonce (Effect.end (Term.name x) ∷ [])))) false
    ∷  -- ch
    ruled Rule.type-channel (Judgement.type E Ty.Un ∷ [])
    (Judgement.type E (Ty.channel Ty.Un)) true
    ∷  -- symkey for ch
    ruled Rule.type-channel (Judgement.type E Ty.Un ∷ [])
    (Judgement.type E (Ty.symkey Ty.Un)) false
    ∷  -- symkey
    ruled Rule.type-symkey (Judgement.type E Ty.Un ∷ [])
    (Judgement.type E (Ty.symkey Ty.Un)) true
    ∷  -- of another type
    ruled Rule.type-symkey (Judgement.type E Ty.Un ∷ [])
    (Judgement.type E (Ty.symkey (Ty.channel Ty.Un))) false
    ∷  -- nonce
    ruled Rule.type-nonce (Judgement.effect E (Effect.end (Term.name a) ∷ []) ∷ [])
    (Judgement.type E (Ty.nonce (Effect.end (Term.name a) ∷ []))) true
    ∷  -- with one effect less
    ruled Rule.type-nonce (Judgement.effect E (Effect.end (Term.name a) ∷ []) ∷ [])
    (Judgement.type E (Ty.nonce [])) false
    ∷  -- an entry
    ruled Rule.name (Judgement.environment E ∷ [])
    (Judgement.term E (Term.name a) Ty.Un) true
    ∷  -- no entry
    ruled Rule.name (Judgement.environment E ∷ [])
    (Judgement.term E (Term.name b) Ty.Un) false
    ∷  -- a name that stands twice: the newer entry
    ruled Rule.name (Judgement.environment (a ⦂ K ∷ E) ∷ [])
    (Judgement.term (a ⦂ K ∷ E) (Term.name a) K) true
    ∷  -- and the older one
    ruled Rule.name (Judgement.environment (a ⦂ K ∷ E) ∷ [])
    (Judgement.term (a ⦂ K ∷ E) (Term.name a) Ty.Un) true
    ∷  -- a pair whose second part speaks of the first
    ruled Rule.pair (Judgement.term E (Term.name a) Ty.Un ∷ Judgement.term E (Term.name b) (Ty.nonce (Effect.end (Term.name a) ∷ [])) ∷ [])
    (Judgement.term E (Term.pair (Term.name a) (Term.name b)) (Ty.pair Ty.Un (Ty.nonce (Effect.end (Term.bound 0) ∷ [])))) true
    ∷  -- of another name
    ruled Rule.pair (Judgement.term E (Term.name a) Ty.Un ∷ Judgement.term E (Term.name b) (Ty.nonce (Effect.end (Term.name b) ∷ [])) ∷ [])
    (Judgement.term E (Term.pair (Term.name a) (Term.name b)) (Ty.pair Ty.Un (Ty.nonce (Effect.end (Term.bound 0) ∷ [])))) false
    ∷  -- a cipher under a shared key
    ruled Rule.cipher (Judgement.term E (Term.name a) Ty.Un ∷ Judgement.term E (Term.name k) (Ty.symkey Ty.Un) ∷ [])
    (Judgement.term E (Term.cipher (Term.name a) (Term.name k)) Ty.Un) true
    ∷  -- of what the key is not for
    ruled Rule.cipher (Judgement.term E (Term.name a) (Ty.channel Ty.Un) ∷ Judgement.term E (Term.name k) (Ty.symkey Ty.Un) ∷ [])
    (Judgement.term E (Term.cipher (Term.name a) (Term.name k)) Ty.Un) false
    ∷  -- a cipher of Un
    ruled Rule.cipher-Un (Judgement.term E (Term.name a) Ty.Un ∷ Judgement.term E (Term.name k) Ty.Un ∷ [])
    (Judgement.term E (Term.cipher (Term.name a) (Term.name k)) Ty.Un) true
    ∷  -- under a key that is no Un
    ruled Rule.cipher-Un (Judgement.term E (Term.name a) Ty.Un ∷ Judgement.term E (Term.name k) (Ty.symkey Ty.Un) ∷ [])
    (Judgement.term E (Term.cipher (Term.name a) (Term.name k)) Ty.Un) false
    ∷  -- a pair of Un
    ruled Rule.pair-Un (Judgement.term E (Term.name a) Ty.Un ∷ Judgement.term E (Term.name b) Ty.Un ∷ [])
    (Judgement.term E (Term.pair (Term.name a) (Term.name b)) Ty.Un) true
    ∷  -- the other way round
    ruled Rule.pair-Un (Judgement.term E (Term.name a) Ty.Un ∷ Judgement.term E (Term.name b) Ty.Un ∷ [])
    (Judgement.term E (Term.pair (Term.name b) (Term.name a)) Ty.Un) false
    ∷  -- STOP
    ruled Rule.stop (Judgement.environment E ∷ [])
    (Judgement.process E Process.stop []) true
    ∷  -- with an effect
    ruled Rule.stop (Judgement.environment E ∷ [])
    (Judgement.process E Process.stop (Effect.end (Term.name a) ∷ [])) false
    ∷  -- begin takes away one
    ruled Rule.begin (Judgement.process E Process.stop (Effect.end (Term.name a) ∷ Effect.end (Term.name a) ∷ []) ∷ [])
    (Judgement.process E (Process.begin (Term.name a) Process.stop) (Effect.end (Term.name a) ∷ [])) true
    ∷  -- and no more
    ruled Rule.begin (Judgement.process E Process.stop (Effect.end (Term.name a) ∷ Effect.end (Term.name a) ∷ []) ∷ [])
    (Judgement.process E (Process.begin (Term.name a) Process.stop) []) false
    ∷  -- what is not there takes nothing away
    ruled Rule.begin (Judgement.process E Process.stop (Effect.check (Term.name a) ∷ []) ∷ [])
    (Judgement.process E (Process.begin (Term.name a) Process.stop) (Effect.check (Term.name a) ∷ [])) true
    ∷  -- a label that is no term of definition 1
    ruled Rule.begin (Judgement.process E Process.stop [] ∷ [])
    (Judgement.process E (Process.begin (Term.bound 0) Process.stop) []) false
    ∷  -- end adds one
    ruled Rule.end (Judgement.process E Process.stop (Effect.end (Term.name a) ∷ []) ∷ [])
    (Judgement.process E (Process.end (Term.name a) Process.stop) (Effect.end (Term.name a) ∷ Effect.end (Term.name a) ∷ [])) true
    ∷  -- and not none
    ruled Rule.end (Judgement.process E Process.stop (Effect.end (Term.name a) ∷ []) ∷ [])
    (Judgement.process E (Process.end (Term.name a) Process.stop) (Effect.end (Term.name a) ∷ [])) false
    ∷  -- P | Q
    ruled Rule.parallel (Judgement.process E Process.stop (Effect.end (Term.name a) ∷ [])
    ∷ Judgement.process E (Process.begin (Term.name b) Process.stop) (Effect.end (Term.name a) ∷ []) ∷ [])
    (Judgement.process E (Process.parallel Process.stop
    (Process.begin (Term.name b) Process.stop)) (Effect.end (Term.name a) ∷ Effect.end (Term.name a) ∷ [])) true
    ∷  -- lengths only
    ruled Rule.parallel (Judgement.process E Process.stop (Effect.end (Term.name a) ∷ [])
    ∷ Judgement.process E Process.stop (Effect.end (Term.name a) ∷ []) ∷ [])
    (Judgement.process E (Process.parallel Process.stop Process.stop) (Effect.end (Term.name a) ∷ Effect.check (Term.name a) ∷ [])) false
    ∷  -- new takes check x away
    ruled Rule.new (Judgement.process (x ⦂ Ty.Un ∷ E) Process.stop (Effect.end (Term.name a) ∷ Effect.check (Term.name x) ∷ []) ∷ [])
    (Judgement.process E (Process.new x Ty.Un Process.stop) (Effect.end (Term.name a) ∷ [])) true
    ∷  -- a nonce is not generated
    ruled Rule.new (Judgement.process (x ⦂ Ty.nonce [] ∷ E) Process.stop [] ∷ [])
    (Judgement.process E (Process.new x (Ty.nonce []) Process.stop) []) false
    ∷  -- x is left in the effect
    ruled Rule.new (Judgement.process (x ⦂ Ty.Un ∷ E) Process.stop (Effect.check (Term.name x) ∷ Effect.check (Term.name x) ∷ []) ∷ [])
    (Judgement.process E (Process.new x Ty.Un Process.stop) (Effect.check (Term.name x) ∷ [])) false
    ∷  -- out on a channel
    ruled Rule.out (Judgement.term E (Term.name c) (Ty.channel K) ∷ Judgement.term E (Term.name k) K ∷ Judgement.process E Process.stop [] ∷ [])
    (Judgement.process E (Process.out (Term.name c) (Term.name k) Process.stop) []) true
    ∷  -- of what it is not for
    ruled Rule.out (Judgement.term E (Term.name c) (Ty.channel K) ∷ Judgement.term E (Term.name k) Ty.Un
    ∷ Judgement.process E Process.stop [] ∷ [])
    (Judgement.process E (Process.out (Term.name c) (Term.name k) Process.stop) []) false
    ∷  -- inp on a channel
    ruled Rule.inp (Judgement.term E (Term.name c) (Ty.channel K)
    ∷ Judgement.process (x ⦂ K ∷ E) Process.stop (Effect.end (Term.name a) ∷ []) ∷ [])
    (Judgement.process E (Process.inp (Term.name c) x K Process.stop) (Effect.end (Term.name a) ∷ [])) true
    ∷  -- x in the effect
    ruled Rule.inp (Judgement.term E (Term.name c) (Ty.channel K)
    ∷ Judgement.process (x ⦂ K ∷ E) Process.stop (Effect.end (Term.name x) ∷ []) ∷ [])
    (Judgement.process E (Process.inp (Term.name c) x K Process.stop) (Effect.end (Term.name x) ∷ [])) false
    ∷  -- split: the second type speaks of x
    ruled Rule.split (Judgement.term E (Term.name p) (Ty.pair Ty.Un (Ty.nonce (Effect.end (Term.bound 0) ∷ [])))
    ∷ Judgement.process (y ⦂ Ty.nonce (Effect.end (Term.name x) ∷ []) ∷ x ⦂ Ty.Un ∷ E) Process.stop [] ∷ [])
    (Judgement.process E (Process.split (Term.name p) x Ty.Un y (Ty.nonce (Effect.end (Term.name x) ∷ [])) Process.stop) []) true
    ∷  -- and of no other name
    ruled Rule.split (Judgement.term E (Term.name p) (Ty.pair Ty.Un (Ty.nonce (Effect.end (Term.bound 0) ∷ [])))
    ∷ Judgement.process (y ⦂ Ty.nonce (Effect.end (Term.name a) ∷ []) ∷ x ⦂ Ty.Un ∷ E) Process.stop [] ∷ [])
    (Judgement.process E (Process.split (Term.name p) x Ty.Un y (Ty.nonce (Effect.end (Term.name a) ∷ [])) Process.stop) []) false
    ∷  -- match: the second type speaks of N
    ruled Rule.match (Judgement.term E (Term.name p) (Ty.pair Ty.Un (Ty.nonce (Effect.end (Term.bound 0) ∷ [])))
    ∷ Judgement.term E (Term.name a) Ty.Un ∷ Judgement.process (y ⦂ Ty.nonce (Effect.end (Term.name a) ∷ []) ∷ E) Process.stop [] ∷ [])
    (Judgement.process E (Process.match (Term.name p) (Term.name a) y (Ty.nonce (Effect.end (Term.name a) ∷ [])) Process.stop) []) true
    ∷  -- y in the effect
    ruled Rule.match (Judgement.term E (Term.name p) (Ty.pair Ty.Un (Ty.nonce (Effect.end (Term.bound 0) ∷ [])))
    ∷ Judgement.term E (Term.name a) Ty.Un
    ∷ Judgement.process (y ⦂ Ty.nonce (Effect.end (Term.name a) ∷ []) ∷ E) Process.stop (Effect.end (Term.name y) ∷ []) ∷ [])
    (Judgement.process E
    (Process.match (Term.name p) (Term.name a) y (Ty.nonce (Effect.end (Term.name a) ∷ [])) Process.stop) (Effect.end (Term.name y) ∷ [])) false
    ∷  -- cast adds what it promises
    ruled Rule.cast (Judgement.term E (Term.name a) Ty.Un
    ∷ Judgement.process (x ⦂ Ty.nonce (Effect.end (Term.name a) ∷ []) ∷ E) Process.stop [] ∷ [])
    (Judgement.process E (Process.cast (Term.name a) x (Effect.end (Term.name a) ∷ []) Process.stop) (Effect.end (Term.name a) ∷ [])) true
    ∷  -- a promise that speaks of x
    ruled Rule.cast (Judgement.term E (Term.name a) Ty.Un
    ∷ Judgement.process (x ⦂ Ty.nonce (Effect.end (Term.name x) ∷ []) ∷ E) Process.stop [] ∷ [])
    (Judgement.process E (Process.cast (Term.name a) x (Effect.end (Term.name x) ∷ []) Process.stop) (Effect.end (Term.name x) ∷ [])) false
    ∷  -- check takes away, then adds
    ruled Rule.check (Judgement.term E (Term.name a) Ty.Un ∷ Judgement.term E (Term.name b) (Ty.nonce (Effect.check (Term.name a) ∷ []))
    ∷ Judgement.process E Process.stop [] ∷ [])
    (Judgement.process E (Process.check (Term.name a) (Term.name b) Process.stop) (Effect.check (Term.name a) ∷ [])) true
    ∷  -- and not the other way round
    ruled Rule.check (Judgement.term E (Term.name a) Ty.Un ∷ Judgement.term E (Term.name b) (Ty.nonce (Effect.check (Term.name a) ∷ []))
    ∷ Judgement.process E Process.stop [] ∷ [])
    (Judgement.process E (Process.check (Term.name a) (Term.name b) Process.stop) []) false
    ∷  -- decrypt under a shared key
    ruled Rule.decrypt (Judgement.term E (Term.name a) Ty.Un ∷ Judgement.term E (Term.name k) (Ty.symkey K)
    ∷ Judgement.process (x ⦂ K ∷ E) Process.stop [] ∷ [])
    (Judgement.process E (Process.decrypt (Term.name a) (Term.name k) x K Process.stop) []) true
    ∷  -- to another type
    ruled Rule.decrypt (Judgement.term E (Term.name a) Ty.Un ∷ Judgement.term E (Term.name k) (Ty.symkey K)
    ∷ Judgement.process (x ⦂ Ty.Un ∷ E) Process.stop [] ∷ [])
    (Judgement.process E (Process.decrypt (Term.name a) (Term.name k) x Ty.Un Process.stop) []) false
    ∷  -- out of Un
    ruled Rule.out-Un (Judgement.term E (Term.name a) Ty.Un ∷ Judgement.term E (Term.name b) Ty.Un ∷ Judgement.process E Process.stop [] ∷ [])
    (Judgement.process E (Process.out (Term.name a) (Term.name b) Process.stop) []) true
    ∷  -- ch for Un
    ruled Rule.out-Un (Judgement.term E (Term.name a) (Ty.channel Ty.Un) ∷ Judgement.term E (Term.name b) Ty.Un
    ∷ Judgement.process E Process.stop [] ∷ [])
    (Judgement.process E (Process.out (Term.name a) (Term.name b) Process.stop) []) false
    ∷  -- inp of Un
    ruled Rule.inp-Un (Judgement.term E (Term.name a) Ty.Un ∷ Judgement.process (x ⦂ Ty.Un ∷ E) Process.stop [] ∷ [])
    (Judgement.process E (Process.inp (Term.name a) x Ty.Un Process.stop) []) true
    ∷  -- of another type
    ruled Rule.inp-Un (Judgement.term E (Term.name a) Ty.Un ∷ Judgement.process (x ⦂ K ∷ E) Process.stop [] ∷ [])
    (Judgement.process E (Process.inp (Term.name a) x K Process.stop) []) false
    ∷  -- split of Un
    ruled Rule.split-Un (Judgement.term E (Term.name a) Ty.Un ∷ Judgement.process (y ⦂ Ty.Un ∷ x ⦂ Ty.Un ∷ E) Process.stop [] ∷ [])
    (Judgement.process E (Process.split (Term.name a) x Ty.Un y Ty.Un Process.stop) []) true
    ∷  -- y and x exchanged in the environment
    ruled Rule.split-Un (Judgement.term E (Term.name a) Ty.Un ∷ Judgement.process (x ⦂ Ty.Un ∷ y ⦂ Ty.Un ∷ E) Process.stop [] ∷ [])
    (Judgement.process E (Process.split (Term.name a) x Ty.Un y Ty.Un Process.stop) []) false
    ∷  -- match of Un
    ruled Rule.match-Un (Judgement.term E (Term.name a) Ty.Un ∷ Judgement.term E (Term.name b) Ty.Un
    ∷ Judgement.process (y ⦂ Ty.Un ∷ E) Process.stop [] ∷ [])
    (Judgement.process E (Process.match (Term.name a) (Term.name b) y Ty.Un Process.stop) []) true
    ∷  -- with another term
    ruled Rule.match-Un (Judgement.term E (Term.name a) Ty.Un ∷ Judgement.term E (Term.name a) Ty.Un
    ∷ Judgement.process (y ⦂ Ty.Un ∷ E) Process.stop [] ∷ [])
    (Judgement.process E (Process.match (Term.name a) (Term.name b) y Ty.Un Process.stop) []) false
    ∷  -- decrypt of Un
    ruled Rule.decrypt-Un (Judgement.term E (Term.name a) Ty.Un ∷ Judgement.term E (Term.name k) Ty.Un
    ∷ Judgement.process (x ⦂ Ty.Un ∷ E) Process.stop [] ∷ [])
    (Judgement.process E (Process.decrypt (Term.name a) (Term.name k) x Ty.Un Process.stop) []) true
    ∷  -- under a key that is no Un
    ruled Rule.decrypt-Un (Judgement.term E (Term.name a) Ty.Un ∷ Judgement.term E (Term.name k) (Ty.symkey Ty.Un)
    ∷ Judgement.process (x ⦂ Ty.Un ∷ E) Process.stop [] ∷ [])
    (Judgement.process E (Process.decrypt (Term.name a) (Term.name k) x Ty.Un Process.stop) []) false
    ∷ []

-- what the definitions say of each
unfoldable pub computed : List Ruled → List Bool
unfolding ℕ_discrete pick choose same_term same_effect closed occurs about mentions at_name at_bound change_term change_effect term_words effect_words up_to insert plus bag remove minus same_list same_effects same_type change_type generatable same_entry same_environment same_process same_judgement same_judgements left right name_of second promised entry_name entry_type newest older parts_of environment_of term_of type_of effects_of process_of first rest printed stands asks follows
computed [] = []
computed (t ∷ ts) = follows t.rule t.premises t.conclusion ∷ computed ts

unfoldable pub expected : List Ruled → List Bool
expected [] = []
expected (t ∷ ts) = t.wanted ∷ expected ts

pub rulings-hold : computed rulings ≡ expected rulings
unfolding computed expected rulings
rulings-hold = refl
