-- Where what was read ends, as a place in the words.
use Rattle.std.specs.Prelude.{ℕ, zero, suc, ◌+◌, ◌≤◌, ◌<◌, List, [], ◌∷◌, ◌≡◌, length, drop, eqb, Option as Answer, None, Some}
use Rattle.std.proofs.Math.Option.{Option, none, some}
use Rattle.words.specs.Choice.{pick, then}
use Rattle.typing.specs.Reading.{Read, term, effect_of, effects, type_at, environment_at, process_at}
pub mod Laws
pub mod Nested
pub mod Terms
pub mod Effects
pub mod Types
pub mod Environments
pub mod Times
pub mod Processes

-- the words behind it
unfoldable pub rest_of : {A : Type 0} → Read A → Option (List ℕ)
rest_of none = none
rest_of (some p) = some p.1

-- what was read from the place a on ends at the place r in w
pub record At (w : List ℕ) (a : ℕ) (o : Option (List ℕ)) (r : ℕ) : Type 0 where
  pub some_word : 0 < r
  pub after : a ≤ r
  pub inside : r ≤ length w
  pub rest : o ≡ some (drop r w)

-- the answer is the place in w behind what was read, and none where nothing was
abbrev pub Ends : List ℕ → ℕ → Option (List ℕ) → Answer ℕ → Type 0
Ends w a o None = o ≡ none
Ends w a o (Some r) = At w a o r

-- ---- things that have words of their own, and their parts behind them
-- m of them, one behind another; fuel bounds the turns, each of which takes at least one word
unfoldable pub nested : (List ℕ → Option (List ℕ)) → (ℕ → ℕ) → ℕ → ℕ → List ℕ → Option (List ℕ)
nested own parts zero f u = some u
nested own parts (suc m) zero u = none
nested own parts (suc m) (suc f) [] = none
nested own parts (suc m) (suc f) (c ∷ u) = then (own (c ∷ u)) (nested own parts (m + parts c) f)

-- one of them
abbrev pub nested_one : (List ℕ → Option (List ℕ)) → (ℕ → ℕ) → List ℕ → Option (List ℕ)
nested_one own parts u = nested own parts 1 (length u) u

-- what a term's first word begins: 0 nothing, 1 a name or a variable, which have one word more, 2 a term of two parts
unfoldable pub term_turn : ℕ → ℕ
term_turn zero = 0
term_turn (suc zero) = 1
term_turn (suc (suc zero)) = 2
term_turn (suc (suc (suc zero))) = 2
term_turn (suc (suc (suc (suc zero)))) = 1
term_turn (suc (suc (suc (suc (suc c))))) = 0

-- a name's one word
unfoldable pub skip_name : List ℕ → Option (List ℕ)
skip_name [] = none
skip_name (x ∷ u) = some u

-- a term's own words, its first and a name's or a variable's number, and what is behind them
unfoldable pub term_own : List ℕ → Option (List ℕ)
term_own [] = none
term_own (zero ∷ u) = none
term_own (suc zero ∷ u) = skip_name u
term_own (suc (suc zero) ∷ u) = some u
term_own (suc (suc (suc zero)) ∷ u) = some u
term_own (suc (suc (suc (suc zero))) ∷ u) = skip_name u
term_own (suc (suc (suc (suc (suc c)))) ∷ u) = none

-- how many terms a term has as its parts
unfoldable pub term_parts : ℕ → ℕ
term_parts zero = 0
term_parts (suc zero) = 0
term_parts (suc (suc zero)) = 2
term_parts (suc (suc (suc zero))) = 2
term_parts (suc (suc (suc (suc c)))) = 0

-- a type's own words, its first and a nonce's effects, and what is behind them
unfoldable pub type_own : List ℕ → Option (List ℕ)
type_own [] = none
type_own (zero ∷ u) = none
type_own (suc zero ∷ u) = some u
type_own (suc (suc zero) ∷ u) = some u
type_own (suc (suc (suc zero)) ∷ u) = some u
type_own (suc (suc (suc (suc zero))) ∷ u) = some u
type_own (suc (suc (suc (suc (suc zero)))) ∷ []) = none
type_own (suc (suc (suc (suc (suc zero)))) ∷ n ∷ u) = rest_of (effects n u)
type_own (suc (suc (suc (suc (suc (suc c))))) ∷ u) = none

-- how many types a type has as its parts
unfoldable pub type_parts : ℕ → ℕ
type_parts zero = 0
type_parts (suc zero) = 0
type_parts (suc (suc zero)) = 2
type_parts (suc (suc (suc zero))) = 1
type_parts (suc (suc (suc (suc zero)))) = 1
type_parts (suc (suc (suc (suc (suc c))))) = 0

-- ---- passing over things of one sort
abbrev pub skip_term : List ℕ → Option (List ℕ)
skip_term u = rest_of (term u)

abbrev pub skip_type : List ℕ → Option (List ℕ)
skip_type u = rest_of (type_at u)

abbrev pub skip_effect : List ℕ → Option (List ℕ)
skip_effect u = rest_of (effect_of u)

abbrev pub skip_environment : List ℕ → Option (List ℕ)
skip_environment u = rest_of (environment_at u)

abbrev pub skip_process : List ℕ → Option (List ℕ)
skip_process u = rest_of (process_at u)

unfoldable pub skip_effects : List ℕ → Option (List ℕ)
skip_effects [] = none
skip_effects (n ∷ u) = rest_of (effects n u)

-- k times, one behind another
unfoldable pub times : (List ℕ → Option (List ℕ)) → ℕ → List ℕ → Option (List ℕ)
times s zero u = some u
times s (suc k) u = then (s u) (times s k)

-- n names, m terms and t types
unfoldable pub skips : ℕ → ℕ → ℕ → List ℕ → Option (List ℕ)
skips n m t u = then (times skip_name n u) (λ v. then (times skip_term m v) (times skip_type t))

-- a process's own words, all but the processes in it, and what is behind them
unfoldable pub process_own : List ℕ → Option (List ℕ)
process_own [] = none
process_own (zero ∷ u) = none
process_own (suc zero ∷ u) = skips 1 0 1 u
process_own (suc (suc zero) ∷ u) = skips 0 2 0 u
process_own (suc (suc (suc zero)) ∷ u) = skips 1 1 1 u
process_own (suc (suc (suc (suc zero))) ∷ u) = skips 0 0 0 u
process_own (suc (suc (suc (suc (suc zero)))) ∷ u) = skips 0 0 0 u
process_own (suc (suc (suc (suc (suc (suc zero))))) ∷ u) = skips 2 1 2 u
process_own (suc (suc (suc (suc (suc (suc (suc zero)))))) ∷ u) = skips 1 2 1 u
process_own (suc (suc (suc (suc (suc (suc (suc (suc zero))))))) ∷ u) = skips 1 2 1 u
process_own (suc (suc (suc (suc (suc (suc (suc (suc (suc zero)))))))) ∷ u) = skips 0 1 0 u
process_own (suc (suc (suc (suc (suc (suc (suc (suc (suc (suc zero))))))))) ∷ u) = skips 0 1 0 u
process_own (suc (suc (suc (suc (suc (suc (suc (suc (suc (suc (suc zero)))))))))) ∷ u) = then (skips 1 1 0 u) skip_effects
process_own (suc (suc (suc (suc (suc (suc (suc (suc (suc (suc (suc (suc zero))))))))))) ∷ u) = skips 0 2 0 u
process_own (suc (suc (suc (suc (suc (suc (suc (suc (suc (suc (suc (suc (suc c)))))))))))) ∷ u) = none

-- how many processes a process has as its parts
unfoldable pub process_parts : ℕ → ℕ
process_parts c = pick (eqb c 4) 2 (pick (eqb c 5) 0 1)
