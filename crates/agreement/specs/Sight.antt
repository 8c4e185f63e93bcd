-- What a party of the plain machine sees, and the term that an image stands for. Document 01: "Images in prefix words: 0, row (held as
-- itself); 1, placeholder; .."; "An atom not in the dictionary is made, and is from then on known as itself."
-- Decided: an image that is held as itself has a value only if the party knew the term at the start or made it, and a placeholder only
-- if it was bound. So a program can't use what its party does not have.
use Rattle.std.specs.Prelude.{ℕ, suc, Bool, true, false, List, [], ◌∷◌}
use Rattle.std.proofs.Math.Option.{Option, none, some}
use Rattle.words.specs.Choice.{pick, choose, then}
use Rattle.terms.specs.Term.{Term, Terms, same}
use Rattle.terms.specs.Image.{Image, Images}
use Rattle.agreement.specs.Change.{change}

pub record Sight : Type 0 where
  -- the terms that it holds as themselves: known at the start, or made
  pub itself : List Term
  -- its bound placeholders, by the number that the listing names
  pub placeholders : ℕ → Option Term

unfoldable pub holds : List Term → Term → Bool
holds [] t = false
holds (u ∷ us) t = choose (same u t) true (holds us t)

-- ---- the term that an image stands for
unfoldable mutual
  pub value : Sight → Image → Option Term
  value v (Image.itself t) = pick (holds v.itself t) (some t) none
  value v (Image.placeholder x) = v.placeholders x
  value v (Image.operation g is) = then (value_all v is) (λ ts. some (Term.operation g ts))
  value v (Image.cipher k is) = then (value v k) (λ t. then (value_all v is) (λ ts. some (Term.cipher t ts)))
  value v (Image.public i) = then (value v i) (λ t. some (Term.public t))
  value v (Image.private i) = then (value v i) (λ t. some (Term.private t))

  pub value_all : Sight → Images → Option Terms
  value_all v Images.nil = some Terms.nil
  value_all v (Images.cons i is) = then (value v i) (λ t. then (value_all v is) (λ ts. some (Terms.cons t ts)))

-- ---- bound placeholders and atoms made
-- the placeholders from x on stand for the terms
unfoldable pub bind : ℕ → Terms → (ℕ → Option Term) → ℕ → Option Term
bind x Terms.nil f = f
bind x (Terms.cons t ts) f = bind (suc x) ts (change f x (some t))

abbrev pub binds : ℕ → Terms → Sight → Sight
binds x ts v = record { itself = v.itself; placeholders = bind x ts v.placeholders }

abbrev pub gains : ℕ → Sight → Sight
gains r v = record { itself = Term.atom r ∷ v.itself; placeholders = v.placeholders }
