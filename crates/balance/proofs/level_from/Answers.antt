-- `balance::level_from` meets its contract: the effect is the one with its word and its term. Assumes nothing.
use Rattle.std.proofs.Common.{rules, arith}
use Rattle.alike.specs.Same.Spelled.{spelled}
use Rattle.balance.specs.Sum.Laws.{effect-by}
use Rattle.balance.proofs.level_from.Goals as goal

pub offset_bounds-w-i : goal.offset_bounds-w-i
offset_bounds-w-i c = let l = (spelled c.requires.4).inside in search rules

pub bounds-w-i : goal.bounds-w-i
bounds-w-i c = let l = (spelled c.requires.4).inside in omega arith

pub overflow_add-i : goal.overflow_add-i
overflow_add-i c = let l = (spelled c.requires.4).inside in omega arith

pub level-requires : goal.level-requires
level-requires c =
    let (r, a, b, d, there) = c.requires in
    let s = spelled there in
    (r, a, b, d, s.some_word, s.small, s.own)

pub returns : goal.returns
returns c = rw (effect-by c.requires.4) c.level.ensures
