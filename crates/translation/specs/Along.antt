-- Figure 3 builds a message and its image in one; the code makes the atoms first and writes the images then, in the dictionary that
-- this left. Both give the same (Laws), since building adds nothing to a dictionary but atoms.
use Rattle.std.specs.Prelude.{ℕ, true, ◌≡◌}
use Rattle.terms.specs.Term.{Term}
use Rattle.translation.specs.Dictionary.{Dictionary, is_held}
pub mod Laws

abbrev pub NoAtom : Term → Type 0
NoAtom (Term.atom r) = ⊥
NoAtom (Term.operation g ts) = Unit {0}
NoAtom (Term.cipher k ts) = Unit {0}
NoAtom (Term.public t) = Unit {0}
NoAtom (Term.private t) = Unit {0}

-- ε holds what δ holds, in the same way, and beyond it atoms alone
pub record Gains (δ ε : Dictionary) : Type 0 where
  pub others : (t : Term) → NoAtom t → ε t ≡ δ t
  pub atoms : (r : ℕ) → is_held (δ (Term.atom r)) ≡ true → ε (Term.atom r) ≡ δ (Term.atom r)
