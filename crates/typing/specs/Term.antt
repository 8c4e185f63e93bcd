-- Terms and atomic effects of the shared-key part. Source 001, definition 1: "M ::= n | (M1, M2) | () | {M1}M2 | Inl(M) | Inr(M)", of
-- which n, (M1, M2) and {M1}M2 are kept; definition 6: "end M, check M, checkend M", of which the first two are kept. A name is a number.
-- `bound` is no term of definition 1: it stands in types only, for a pair type's own variable, counted from the outermost pair type
-- that it stands in, so that types which differ in bound names alone are one type.
use Rattle.std.specs.Prelude.{ℕ, zero, suc, Bool, true, false, ◌||◌, ◌&&◌, List, [], ◌∷◌, ◌++◌, ◌≡◌, eqb}
use Rattle.std.proofs.Math.Decide.{ℕ_discrete}

pub data Term : Type 0 where
  name : ℕ → Term
  bound : ℕ → Term
  pair : Term → Term → Term
  -- {M}N: contents, key
  cipher : Term → Term → Term
  deriving Discrete as Term-discrete

pub data Effect : Type 0 where
  end : Term → Effect
  check : Term → Effect
  deriving Discrete as Effect-discrete

unfoldable pub same_term : (M N : Term) → Dec (M ≡ N)
unfolding ℕ_discrete
same_term M N = Term-discrete ℕ_discrete M N

unfoldable pub same_effect : (e f : Effect) → Dec (e ≡ f)
unfolding same_term
same_effect e f = Effect-discrete same_term e f

-- a term of definition 1: no `bound` in it
unfoldable pub closed : Term → Bool
closed (Term.name n) = true
closed (Term.bound k) = false
closed (Term.pair M N) = closed M && closed N
closed (Term.cipher M N) = closed M && closed N

-- x is one of fn(M)
unfoldable pub occurs : ℕ → Term → Bool
occurs x (Term.name n) = eqb n x
occurs x (Term.bound k) = false
occurs x (Term.pair M N) = occurs x M || occurs x N
occurs x (Term.cipher M N) = occurs x M || occurs x N

-- the term that an effect is about
unfoldable pub about : Effect → Term
about (Effect.end M) = M
about (Effect.check M) = M

-- x is one of fn(es)
unfoldable pub mentions : ℕ → List Effect → Bool
mentions x [] = false
mentions x (e ∷ es) = occurs x (about e) || mentions x es

-- ---- putting a term for a variable
-- What happens to the names and bound variables of a type: `bind x` makes the name x the own variable of a pair type around it, and
-- `put M` puts M for the own variable of a pair type that was taken away. All other bound variables are counted from one further out,
-- or in. What M has in it is never bound by it: nothing is captured.
pub data Change : Type 0 where
  bind : ℕ → Change
  put : Term → Change

unfoldable pub at_name : Change → ℕ → Term
at_name (Change.bind x) n = elim (eqb n x) [ true ↦ Term.bound 0 | false ↦ Term.name n ]
at_name (Change.put M) n = Term.name n

unfoldable pub at_bound : Change → ℕ → Term
at_bound (Change.bind x) k = Term.bound (suc k)
at_bound (Change.put M) zero = M
at_bound (Change.put M) (suc k) = Term.bound k

unfoldable pub change_term : Change → Term → Term
change_term c (Term.name n) = at_name c n
change_term c (Term.bound k) = at_bound c k
change_term c (Term.pair M N) = Term.pair (change_term c M) (change_term c N)
change_term c (Term.cipher M N) = Term.cipher (change_term c M) (change_term c N)

unfoldable pub change_effect : Change → Effect → Effect
change_effect c (Effect.end M) = Effect.end (change_term c M)
change_effect c (Effect.check M) = Effect.check (change_term c M)

-- ---- the words of a term and of an effect, in prefix order (docs/DERIVATIONS.md)
unfoldable pub term_words : Term → List ℕ
term_words (Term.name n) = 1 ∷ n ∷ []
term_words (Term.pair M N) = 2 ∷ (term_words M ++ term_words N)
term_words (Term.cipher M N) = 3 ∷ (term_words M ++ term_words N)
term_words (Term.bound k) = 4 ∷ k ∷ []

unfoldable pub effect_words : Effect → List ℕ
effect_words (Effect.end M) = 1 ∷ term_words M
effect_words (Effect.check M) = 2 ∷ term_words M
