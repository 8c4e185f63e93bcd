-- What a change makes of words.
use Rattle.std.specs.Prelude.{ℕ, ◌≤◌, ◌<◌, List, [], ◌∷◌, ◌++◌, map, ◌≡◌, eqb, length, drop, Option, None, Some}
use Rattle.words.specs.Choice.{pick}
use Rattle.typing.specs.Term.{Term, Effect, Change, change_term, change_effect, term_words}
use Rattle.typing.specs.Bag.{bag}
use Rattle.typing.specs.Reading.{term}
use Rattle.spans.specs.Behind.{At, rest_of, term_turn}
use Rattle.alike.specs.Same.{term_in, all_term_words}
use Rattle.changed.specs.declared.By.{By}
use Rattle.changed.specs.declared.By.TheVariants.{Bind, Put}
pub mod Laws
pub mod Effects
pub mod Types

-- the change that is meant
unfoldable pub change_by : List ℕ → By → Change
change_by w (Bind x) = Change.bind x
change_by w (Put m end) = Change.put (term_in w m)

-- the term that is put is there
abbrev pub There : List ℕ → By → Type 0
There w (Bind x) = Unit {0}
There w (Put m end) = At w m (rest_of (term (drop m w))) end

-- the words ws stand from the place i on, and r is the place behind them
pub record Found (w : List ℕ) (i : ℕ) (ws : List ℕ) (r : ℕ) : Type 0 where
  pub inside : r ≤ length w
  pub words : drop i w ≡ ws ++ drop r w

-- the answer is the place behind the words ws from the place i on, and none where they don't stand there
abbrev pub Stood : List ℕ → ℕ → List ℕ → Option ℕ → Type 0
Stood w i ws None = (v : List ℕ) → drop i w ≡ ws ++ v → ⊥
Stood w i ws (Some r) = Found w i ws r

-- a name or a variable by its word and its number
unfoldable pub leaf_term : ℕ → ℕ → Term
leaf_term c n = pick (eqb c 1) (Term.name n) (Term.bound n)

-- what a term's word becomes, with its number if it has one
unfoldable pub step_words : Change → ℕ → ℕ → List ℕ
step_words ch c n = pick (eqb (term_turn c) 2) (c ∷ []) (term_words (change_term ch (leaf_term c n)))

-- the words of several terms that are changed
unfoldable pub changed_words : Change → List Term → List ℕ
changed_words ch Ms = all_term_words (map (change_term ch) Ms)

-- effects that are changed
unfoldable pub changed_effects : Change → List Effect → List Effect
changed_effects ch es = map (change_effect ch) es
