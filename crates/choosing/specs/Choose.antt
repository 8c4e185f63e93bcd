-- What lines say by their kinds, and whether one follows from others by the rule of a number.
use Rattle.std.specs.Prelude.{ℕ, zero, suc, Bool, true, false, ◌&&◌, List, [], ◌∷◌, drop}
use Rattle.std.proofs.Math.Option.{Option, none, some}
use Rattle.typing.specs.Judgement.{Judgement}
use Rattle.typing.specs.Check.{follows}
use Rattle.typing.specs.Derivation.{Kind, Numbered}
use Rattle.typing.specs.Reading.{Read, term, effects, type_at, environment_at, process_at}
use Rattle.ruling.specs.Line.{says_environment, says_type, says_effect, says_term, says_process}
use Rattle.ruling.specs.Line.{EnvironmentThere, TypeThere, EffectThere, TermThere, ProcessThere}
use Rattle.ruling.specs.declared.Line.{Line}
use Rattle.choosing.specs.Kinds.{premise_kinds}
pub mod Laws
pub mod Tests

-- ---- a line of a kind: what it says, and that what it names is there
unfoldable pub says : Kind → List ℕ → Line → Judgement
says Kind.of_environment w l = says_environment w l
says Kind.of_type w l = says_type w l
says Kind.of_effect w l = says_effect w l
says Kind.of_term w l = says_term w l
says Kind.of_process w l = says_process w l

abbrev pub There : Kind → List ℕ → Line → Type 0
There Kind.of_environment w l = EnvironmentThere w l
There Kind.of_type w l = TypeThere w l
There Kind.of_effect w l = EffectThere w l
There Kind.of_term w l = TermThere w l
There Kind.of_process w l = ProcessThere w l

-- the same as a test
unfoldable pub reads : {A : Type 0} → (List ℕ → Read A) → List ℕ → ℕ → Bool
reads r w a = elim (r (drop a w)) [ none ↦ false | some p ↦ true ]

unfoldable pub is_there : Kind → List ℕ → Line → Bool
is_there Kind.of_environment w l = reads environment_at w l.e
is_there Kind.of_type w l = reads environment_at w l.e && reads type_at w l.t
is_there Kind.of_effect w l = reads environment_at w l.e && reads (effects l.k) w l.f
is_there Kind.of_term w l = reads environment_at w l.e && (reads term w l.s && reads type_at w l.t)
is_there Kind.of_process w l = reads environment_at w l.e && (reads process_at w l.s && reads (effects l.k) w l.f)

-- of a kind by its number, and of no other number
unfoldable pub number_there : ℕ → List ℕ → Line → Bool
number_there zero w l = false
number_there (suc zero) w l = is_there Kind.of_environment w l
number_there (suc (suc zero)) w l = is_there Kind.of_type w l
number_there (suc (suc (suc zero))) w l = is_there Kind.of_effect w l
number_there (suc (suc (suc (suc zero)))) w l = is_there Kind.of_term w l
number_there (suc (suc (suc (suc (suc zero))))) w l = is_there Kind.of_process w l
number_there (suc (suc (suc (suc (suc (suc k)))))) w l = false

-- ---- lines of some kinds; what stands behind them is not looked at
unfoldable pub says_all : List Kind → List ℕ → List Line → List Judgement
says_all [] w ls = []
says_all (k ∷ ks) w [] = []
says_all (k ∷ ks) w (l ∷ ls) = says k w l ∷ says_all ks w ls

abbrev pub AllThere : List Kind → List ℕ → List Line → Type 0
AllThere [] w ls = Unit {0}
AllThere (k ∷ ks) w [] = Unit {0}
AllThere (k ∷ ks) w (l ∷ ls) = There k w l × AllThere ks w ls

-- ---- a rule's line, and the lines of its premises
-- what they name is there
abbrev pub Ready : Option Numbered → List ℕ → Line → List Line → Type 0
Ready none w i ls = ⊥
Ready (some r) w i ls = There r.kind w i × AllThere (premise_kinds r.rule) w ls

-- it follows from them
unfoldable pub follows_by : Option Numbered → List ℕ → Line → List Line → Bool
follows_by none w i ls = false
follows_by (some r) w i ls = follows r.rule (says_all (premise_kinds r.rule) w ls) (says r.kind w i)
