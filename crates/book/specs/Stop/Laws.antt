-- Laws of where a walk stops. Assumes nothing.
use Rattle.std.specs.Prelude.{◌≡◌, refl, Option, None, Some}
use Rattle.std.proofs.Common.{arith}
use Rattle.book.specs.declared.Against.TheVariants.{Taken, Maker}
use Rattle.book.specs.declared.Stop.{Stop}
use Rattle.book.specs.Stop.{number_of, stop_says}

-- only where there is no stop the number is acceptance's
pub stop_none : (x : Option Stop) → (stop_says x).number ≡ 0 → x ≡ None
stop_none None z = refl
stop_none (Some x) z = absurd (against-number x.against z)
  where
    against-number : (a : _) → number_of a ≡ 0 → ⊥
    against-number Taken z = omega arith
    against-number Maker z = omega arith
