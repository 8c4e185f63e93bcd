-- Types and environments of the shared-key part. Source 001, definition 5: "T ::= Un | (x : T1, T2) | .. | ch(T) | symkey(T) | .. |
-- nonce es | ..", of which these five are kept; definition 7: "E ::= φ | E, x : τ". Definition 14: "Un, ch(T), symkey(T), challenge es"
-- are the types that `new` may generate, of which the first three are kept.
use Rattle.std.specs.Prelude.{ℕ, Bool, true, false, List, [], ◌∷◌, map, ◌≡◌, refl}
use Rattle.std.proofs.Math.Decide.{ℕ_discrete}
use Rattle.std.proofs.Common.{arith}
use Rattle.typing.specs.Term.{Effect, Change, same_effect, change_effect}
use Rattle.typing.specs.Bag.{bag}

pub data Ty : Type 0 where
  Un : Ty
  -- (x : T, U): x is `bound` in U
  pair : Ty → Ty → Ty
  channel : Ty → Ty
  symkey : Ty → Ty
  nonce : List Effect → Ty
  deriving Discrete as Ty-discrete

-- equality of lists is decided where that of their elements is
unfoldable pub same_list : {A : Type 0} → ((x y : A) → Dec (x ≡ y)) → (xs ys : List A) → Dec (xs ≡ ys)
same_list d [] [] = yes refl
same_list d [] (y ∷ ys) = no (λ e. let z : ◌≡◌ {A = ℕ} 0 1 = cc in omega arith)
same_list d (x ∷ xs) [] = no (λ e. let z : ◌≡◌ {A = ℕ} 0 1 = cc in omega arith)
same_list d (x ∷ xs) (y ∷ ys) = both (d x y) (same_list d xs ys)
  where
    both : Dec (x ≡ y) → Dec (xs ≡ ys) → Dec (x ∷ xs ≡ y ∷ ys)
    both (yes p) (yes q) = yes cc
    both (yes p) (no q) = no (λ e. q cc)
    both (no p) (yes q) = no (λ e. p cc)
    both (no p) (no q) = no (λ e. p cc)

unfoldable pub same_effects : (es fs : List Effect) → Dec (es ≡ fs)
unfolding same_effect same_list
same_effects es fs = same_list same_effect es fs

unfoldable pub same_type : (T U : Ty) → Dec (T ≡ U)
unfolding same_effects
same_type T U = Ty-discrete same_effects T U

-- U[M/x], and the type that is bound, by what happens to names and bound variables
unfoldable pub change_type : Change → Ty → Ty
change_type c Ty.Un = Ty.Un
change_type c (Ty.pair T U) = Ty.pair (change_type c T) (change_type c U)
change_type c (Ty.channel T) = Ty.channel (change_type c T)
change_type c (Ty.symkey T) = Ty.symkey (change_type c T)
change_type c (Ty.nonce es) = Ty.nonce (bag (map (change_effect c) es))

-- definition 14
unfoldable pub generatable : Ty → Bool
generatable Ty.Un = true
generatable (Ty.pair T U) = false
generatable (Ty.channel T) = true
generatable (Ty.symkey T) = true
generatable (Ty.nonce es) = false

-- ---- environments: the entry that was added last stands first. A name may stand twice
infix 70 ◌⦂◌
pub data Entry : Type 0 where
  ◌⦂◌ : ℕ → Ty → Entry
  deriving Discrete as Entry-discrete

abbrev pub Environment : Type 0
Environment = List Entry

unfoldable pub same_entry : (a b : Entry) → Dec (a ≡ b)
unfolding ℕ_discrete same_type
same_entry a b = Entry-discrete ℕ_discrete same_type a b

unfoldable pub same_environment : (E F : Environment) → Dec (E ≡ F)
unfolding same_entry same_list
same_environment E F = same_list same_entry E F
