-- Derivations as words, and their verdict. Document 02, [14]: "The caller lends a derivation as numbered lines (layout in docs/), each
-- naming its rule and earlier lines .. A line passes exactly if it is an instance of its rule as printed. The verdict is "safe" exactly
-- if all lines pass and the last gives the asked process, in the asked environment, the empty effect; else the smallest bad line; if
-- none is bad, that the last doesn't give that. At most 1,024 lines and 64 effects a line; beyond that refusal 24, before all lines,
-- place the too large count, the lines' first, then the smallest line's."
--
-- The layout (docs/DERIVATIONS.md): word 0 is the number of lines; line i has nine words, from word 1 + 9 i on: its rule, three earlier
-- lines, the places of its environment, its subject, its type and its effects, and how many effects. A word past the end is 0. Words that
-- a rule has no use for are not looked at, but for the count of effects, which is a line's own in any case. Lines count from 0. What is
-- asked is lent beside the derivation: an environment, and a process behind it, and nothing more.
use Rattle.std.specs.Prelude.{ℕ, zero, suc, ◌+◌, ◌*◌, ◌-◌, ◌≤◌, ◌<◌, Bool, true, false, not, List, [], ◌∷◌, ◌⊎◌, ◌≡◌, get_or, drop, ltb, eqb}
use Rattle.std.proofs.Math.Option.{Option, none, some}
use Rattle.words.specs.Choice.{pick, choose, then}
use Rattle.words.specs.First.{first, any}
use Rattle.typing.specs.Bag.{bag}
use Rattle.typing.specs.Types.{Environment}
use Rattle.typing.specs.Process.{Process}
use Rattle.typing.specs.Judgement.{Judgement, same_judgement}
use Rattle.typing.specs.Rule.{Rule, Instance}
use Rattle.typing.specs.Check.{follows}
use Rattle.typing.specs.Reading.{Read, term, effects, type_at, environment_at, process_at}

-- ---- the rules, by number from 1 on: what each concludes, and from how many premises
pub data Kind : Type 0 where
  of_environment : Kind
  of_type : Kind
  of_effect : Kind
  of_term : Kind
  of_process : Kind

pub record Numbered : Type 0 where
  pub rule : Rule
  pub kind : Kind
  pub premises : ℕ

abbrev numbered : Rule → Kind → ℕ → Numbered
numbered r k n = record { rule = r; kind = k; premises = n }

unfoldable pub rules : List Numbered
rules =
    numbered Rule.empty Kind.of_environment 0
    ∷ numbered Rule.entry Kind.of_environment 1
    ∷ numbered Rule.effect-none Kind.of_effect 1
    ∷ numbered Rule.effect-end Kind.of_effect 2
    ∷ numbered Rule.effect-check Kind.of_effect 2
    ∷ numbered Rule.type-Un Kind.of_type 1
    ∷ numbered Rule.type-pair Kind.of_type 2
    ∷ numbered Rule.type-channel Kind.of_type 1
    ∷ numbered Rule.type-symkey Kind.of_type 1
    ∷ numbered Rule.type-nonce Kind.of_type 1
    ∷ numbered Rule.name Kind.of_term 1
    ∷ numbered Rule.pair Kind.of_term 2
    ∷ numbered Rule.cipher Kind.of_term 2
    ∷ numbered Rule.cipher-Un Kind.of_term 2
    ∷ numbered Rule.pair-Un Kind.of_term 2
    ∷ numbered Rule.stop Kind.of_process 1
    ∷ numbered Rule.begin Kind.of_process 1
    ∷ numbered Rule.end Kind.of_process 1
    ∷ numbered Rule.parallel Kind.of_process 2
    ∷ numbered Rule.new Kind.of_process 1
    ∷ numbered Rule.out Kind.of_process 3
    ∷ numbered Rule.inp Kind.of_process 2
    ∷ numbered Rule.split Kind.of_process 2
    ∷ numbered Rule.match Kind.of_process 3
    ∷ numbered Rule.cast Kind.of_process 2
    ∷ numbered Rule.check Kind.of_process 3
    ∷ numbered Rule.decrypt Kind.of_process 3
    ∷ numbered Rule.out-Un Kind.of_process 3
    ∷ numbered Rule.inp-Un Kind.of_process 2
    ∷ numbered Rule.split-Un Kind.of_process 2
    ∷ numbered Rule.match-Un Kind.of_process 3
    ∷ numbered Rule.decrypt-Un Kind.of_process 3
    ∷ []

unfoldable pub nth : {A : Type 0} → List A → ℕ → Option A
nth [] n = none
nth (a ∷ l) zero = some a
nth (a ∷ l) (suc n) = nth l n

unfoldable pub rule_of : ℕ → Option Numbered
rule_of zero = none
rule_of (suc n) = nth rules n

-- ---- the words of a line
unfoldable pub lines : List ℕ → ℕ
lines w = get_or w 0 0

unfoldable pub line_word : List ℕ → ℕ → ℕ → ℕ
line_word w i k = get_or w (1 + 9 * i + k) 0

unfoldable pub effect_count : List ℕ → ℕ → ℕ
effect_count w i = line_word w i 8

-- what is read at the place that a line's word names
unfoldable pub read : {A : Type 0} → (List ℕ → Read A) → List ℕ → ℕ → Option A
read f w a = then (f (drop a w)) (λ p. some p.0)

-- the judgement that a line of a kind gives
unfoldable pub judgement : Kind → List ℕ → ℕ → Option Judgement
judgement Kind.of_environment w i = then (read environment_at w (line_word w i 4)) (λ E. some (Judgement.environment E))
judgement Kind.of_type w i =
    then (read environment_at w (line_word w i 4)) (λ E. then (read type_at w (line_word w i 6)) (λ T. some (Judgement.type E T)))
judgement Kind.of_effect w i =
    then (read environment_at w (line_word w i 4))
    (λ E. then (read (effects (effect_count w i)) w (line_word w i 7)) (λ es. some (Judgement.effect E (bag es))))
judgement Kind.of_term w i =
    then (read environment_at w (line_word w i 4))
    (λ E. then (read term w (line_word w i 5)) (λ M. then (read type_at w (line_word w i 6)) (λ T. some (Judgement.term E M T))))
judgement Kind.of_process w i =
    then (read environment_at w (line_word w i 4))
    (λ E. then (read process_at w (line_word w i 5))
    (λ P. then (read (effects (effect_count w i)) w (line_word w i 7)) (λ es. some (Judgement.process E P (bag es)))))

-- the judgement that line i gives
unfoldable pub given : List ℕ → ℕ → Option Judgement
given w i = then (rule_of (line_word w i 0)) (λ r. judgement r.kind w i)

-- the judgement of a line before line i
unfoldable pub earlier : List ℕ → ℕ → ℕ → Option Judgement
earlier w i j = pick (ltb j i) (given w j) none

-- the first n of the earlier lines that line i names, from its k-th word on
unfoldable pub premises_from : List ℕ → ℕ → ℕ → ℕ → Option (List Judgement)
premises_from w i k zero = some []
premises_from w i k (suc n) = then (earlier w i (line_word w i k)) (λ J. then (premises_from w i (suc k) n) (λ Js. some (J ∷ Js)))

-- ---- a line
-- Line i is an instance of the rule that it names, from the earlier lines that it names.
pub record IsInstance (w : List ℕ) (i : ℕ) : Type 0 where
  pub numbered : Numbered
  pub named : rule_of (line_word w i 0) ≡ some numbered
  pub premises : List Judgement
  pub found : premises_from w i 1 numbered.premises ≡ some premises
  pub conclusion : Judgement
  pub gives : judgement numbered.kind w i ≡ some conclusion
  pub instance : Instance numbered.rule premises conclusion

unfoldable pub by_rule : List ℕ → ℕ → Numbered → Option Bool
by_rule w i r = then (premises_from w i 1 r.premises) (λ Js. then (judgement r.kind w i) (λ J. some (follows r.rule Js J)))

unfoldable pub holds : Option Bool → Bool
holds none = false
holds (some b) = b

unfoldable pub passes : List ℕ → ℕ → Bool
passes w i = holds (then (rule_of (line_word w i 0)) (by_rule w i))

-- ---- what is asked
unfoldable pub whole : {A : Type 0} → Read A → Option A
whole r = then r (λ p. elim p.1 [ [] ↦ some p.0 | x ∷ l ↦ none ])

-- E ⊢ P : [] of the environment and the process that are spelled
unfoldable pub asked : List ℕ → Option Judgement
asked a = then (environment_at a) (λ p. then (whole (process_at p.1)) (λ P. some (Judgement.process p.0 P [])))

-- the words spell the environment E and behind it, to their end, the process P
pub record Spells (a : List ℕ) (E : Environment) (P : Process) : Type 0 where
  pub behind : List ℕ
  pub environment : environment_at a ≡ some (E, behind)
  pub process : process_at behind ≡ some (P, [])

-- both are judgements, and the same
unfoldable pub agree : Option Judgement → Option Judgement → Bool
agree none k = false
agree (some J) none = false
agree (some J) (some K) = choose (same_judgement J K) true false

-- the last line gives what is asked
unfoldable pub answers : List ℕ → List ℕ → Bool
answers a w = pick (eqb (lines w) 0) false (agree (given w (lines w - 1)) (asked a))

-- ---- the verdict
pub data Verdict : Type 0 where
  safe : Verdict
  -- the smallest line that doesn't pass
  bad : ℕ → Verdict
  -- all lines pass, and the last does not give what is asked
  another : Verdict
  -- refusal 24, with the too large count
  refused : ℕ → Verdict

abbrev pub most_lines : ℕ
most_lines = 1024

abbrev pub most_effects : ℕ
most_effects = 64

unfoldable pub crowded : List ℕ → ℕ → Bool
crowded w i = ltb most_effects (effect_count w i)

unfoldable pub fails : List ℕ → ℕ → Bool
fails w i = not (passes w i)

unfoldable pub verdict : List ℕ → List ℕ → Verdict
verdict a w =
    pick (ltb most_lines (lines w)) (Verdict.refused (lines w))
    (pick (any (crowded w) (lines w)) (Verdict.refused (effect_count w (first (crowded w) (lines w))))
    (pick (any (fails w) (lines w)) (Verdict.bad (first (fails w) (lines w))) (pick (answers a w) Verdict.safe Verdict.another)))

-- ---- when each is given, in words of one's own
-- no count is too large
pub record Within (w : List ℕ) : Type 0 where
  pub few : lines w ≤ most_lines
  pub small : (i : ℕ) → i < lines w → effect_count w i ≤ most_effects

-- there is a last line, and it gives what is asked
pub record Answers (a w : List ℕ) : Type 0 where
  pub some-line : 0 < lines w
  pub judgement : Judgement
  pub last : given w (lines w - 1) ≡ some judgement
  pub asks : asked a ≡ some judgement

pub record IsSafe (a w : List ℕ) : Type 0 where
  pub within : Within w
  pub all : (i : ℕ) → i < lines w → IsInstance w i
  pub answers : Answers a w

pub record IsBad (w : List ℕ) (i : ℕ) : Type 0 where
  pub within : Within w
  pub line : i < lines w
  pub no-instance : IsInstance w i → ⊥
  pub before : (k : ℕ) → k < i → IsInstance w k

pub record IsAnother (a w : List ℕ) : Type 0 where
  pub within : Within w
  pub all : (i : ℕ) → i < lines w → IsInstance w i
  pub answers-not : Answers a w → ⊥

-- the number of lines is too large, or else the count of the smallest line whose count is
pub record ManyLines (w : List ℕ) (n : ℕ) : Type 0 where
  pub many : most_lines < lines w
  pub count : n ≡ lines w

pub record ManyEffects (w : List ℕ) (n : ℕ) : Type 0 where
  pub few : lines w ≤ most_lines
  pub line : ℕ
  pub inside : line < lines w
  pub many : most_effects < effect_count w line
  pub count : n ≡ effect_count w line
  pub before : (k : ℕ) → k < line → effect_count w k ≤ most_effects

-- the verdict is right
abbrev pub Right : List ℕ → List ℕ → Verdict → Type 0
Right a w Verdict.safe = IsSafe a w
Right a w (Verdict.bad i) = IsBad w i
Right a w Verdict.another = IsAnother a w
Right a w (Verdict.refused n) = ManyLines w n ⊎ ManyEffects w n
