-- Sums and differences of effects, as the rules of processes have them. Assumes nothing.
use Rattle.std.specs.Prelude.{ℕ, List, [], ◌∷◌, ◌≡◌, refl}
use Rattle.words.specs.Choice.{pick}
use Rattle.typing.specs.Term.{Effect}
use Rattle.typing.specs.Bag.{insert, plus, minus, bag}
use Rattle.typing.specs.Reading.{effects}
use Rattle.alike.specs.Same.{value_or, term_in, effects_in}
use Rattle.balance.specs.Sum.{effect_by, list_of}
use Rattle.balance.specs.declared.Effects.TheVariants.{One, Many}

pub less-end : (w : List ℕ) (es : List Effect) (a e : ℕ) → plus (bag (list_of w (Many 0 0 0))) (minus es (bag (list_of w (One 1 a e))))
    ≡ minus es (Effect.end (term_in w a) ∷ [])
unfolding list_of effect_by pick bag plus insert minus effects_in effects value_or
less-end w es a e = refl

pub sum-two : (w : List ℕ) (es fs : List Effect) → plus fs (minus es (bag (list_of w (Many 0 0 0)))) ≡ plus fs es
unfolding list_of bag plus minus effects_in effects value_or
sum-two w es fs = refl
