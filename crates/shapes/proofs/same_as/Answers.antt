-- `shapes::same_as` meets its contract, by how the type is made. Assumes nothing.
use Rattle.std.proofs.Common.{rules, arith}
use Rattle.shapes.specs.Shape.Laws.{type-inside, made-Un, made-same, made-channel, made-symkey, made-nonce, made_pair}
use Rattle.shapes.proofs.same_as.Goals as goal

pub offset_bounds-w-a : goal.offset_bounds-w-a
offset_bounds-w-a c = let l = type-inside _ _ c.requires.0 in search rules

pub bounds-w-a : goal.bounds-w-a
bounds-w-a c = omega (arith, type-inside _ _ c.requires.0)

pub returns-in-Un : goal.returns-in-Un
returns-in-Un c = made-Un _ _ _ c.in-Un.is c.requires.0

pub returns-in-Same : goal.returns-in-Same
returns-in-Same c = made-same _ _ _ _ c.in-Same.is _ c.same_at.ensures

pub returns-in-Channel : goal.returns-in-Channel
returns-in-Channel c = made-channel _ _ _ _ c.in-Channel.is _ c.wraps.ensures

pub returns-in-Symkey : goal.returns-in-Symkey
returns-in-Symkey c = made-symkey _ _ _ _ c.in-Symkey.is _ c.wraps-in-Symkey.ensures

pub returns-in-Nonce : goal.returns-in-Nonce
returns-in-Nonce c = made-nonce _ _ _ _ _ _ c.in-Nonce.is _ c.is_nonce.ensures

pub returns-in-Pair : goal.returns-in-Pair
returns-in-Pair c = made_pair _ _ _ _ _ _ c.in-Pair.is _ c.is_pair.ensures
