-- `shelf::size_of` meets its contract: four times the word of the four bytes. Assumes nothing.
use Prim.Native.Nat.{◌*◌}
use mathlib.Core.Path.{◌∙◌, ap}
use native.Mathlib.Omega.{arith}
use Rattle.octets.specs.Octets.{word_at}
use Rattle.shelf.proofs.size_of.Goals as goal

pub returns : goal.returns
unfolding word_at
returns c = let (count, few) = c.wide.ensures in
    (ap (λ n. 4 * n) (count ∙ c.word.ensures), omega arith)
