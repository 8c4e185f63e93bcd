-- `balance::count_in` meets its contract, by which list it is. Assumes nothing.
use Rattle.std.proofs.Common.{rules, sym, ◌∙◌}
use native.Mathlib.Omega.{arith}
use Rattle.typing.specs.Term.{same_effect}
use Rattle.alike.specs.Same.{term_in, effects_in, test}
use Rattle.alike.specs.Same.Each.{count-by}
use Rattle.balance.specs.Sum.{effect_by}
use Rattle.alike.specs.Same.Spelled.{spelled}
use Rattle.balance.specs.Sum.Laws.{effect-by, few-count, list-one, list-many, count_one, one_small}
use Rattle.balance.proofs.count_in.Goals as goal

pub count_where-requires-clause-asked : goal.count_where-requires-clause-asked
count_where-requires-clause-asked c = λ i e t. let s = spelled t in search rules

pub returns-in-One : goal.returns-in-One
returns-in-One c = let (there, low, high, other) = c.requires in (
  rw (c.from.ensures, list-one _ _ _ _ _ c.in-One.is) (count_one _ _ _ c.is_effect.ensures),
  omega (arith, other.some_word, other.inside, one_small c.is_effect.result, c.from.ensures),
)

pub returns-in-Many : goal.returns-in-Many
returns-in-Many c = let (there, low, high, other) = c.requires in
    let x = effect_by c.args.c (term_in c.args.w.now c.args.b) in (
      rw (list-many _ _ _ _ _ c.in-Many.is)
          (c.count_where.ensures.counts (λ y. test (same_effect y x)) (λ i e r t k. rw (effect-by t) (search rules))
          ∙ sym (count-by x (effects_in c.args.w.now c.in-Many.a c.in-Many.k))),
      few-count c.args.w.now _ _ _ _ _ c.in-Many.is there c.count_where.ensures.few,
    )
