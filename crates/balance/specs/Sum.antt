-- Effects in the words, and whether a multiset is a difference and a sum of others.
use Rattle.std.specs.Prelude.{ℕ, ◌+◌, ◌-◌, ◌≤◌, ◌<◌, Bool, List, [], ◌∷◌, ◌≡◌, eqb, drop}
use Rattle.std.proofs.Math.Option.{some}
use Rattle.words.specs.Choice.{pick}
use Rattle.typing.specs.Term.{Term, Effect}
use Rattle.typing.specs.Bag.{count}
use Rattle.typing.specs.Reading.{term, effects}
use Rattle.spans.specs.Behind.{At, rest_of}
use Rattle.alike.specs.Same.{term_in, effects_in}
use Rattle.balance.specs.declared.Effects.{Effects}
use Rattle.balance.specs.declared.Effects.TheVariants.{One, Many}
pub mod Laws

-- the effect that begins with a word: 1 is end, 2 is check
unfoldable pub effect_by : ℕ → Term → Effect
effect_by c M = pick (eqb c 1) (Effect.end M) (Effect.check M)

-- the effects that are meant
unfoldable pub list_of : List ℕ → Effects → List Effect
list_of w (One c a e) = effect_by c (term_in w a) ∷ []
list_of w (Many a k e) = effects_in w a k

-- they are there
abbrev pub There : List ℕ → Effects → Type 0
There w (One c a e) = (0 < c) × (c ≤ 2) × At w a (rest_of (term (drop a w))) e
There w (Many a k e) = rest_of (effects k (drop a w)) ≡ some (drop e w)

-- the effect x stands in r as often as in a, less as often as in b, and as in d
unfoldable pub level_at : List ℕ → Effects → Effects → Effects → Effects → Effect → Bool
level_at w r a b d x = eqb (count x (list_of w r)) (count x (list_of w a) - count x (list_of w b) + count x (list_of w d))
