-- What words spell: terms, effects, types, environments and processes in prefix words (docs/DERIVATIONS.md has a table for each). Any
-- words are read: 0 begins nothing, no number that is in no table begins anything, and what is cut off before its end is not there.
-- A reader counts what is still to come: behind the word of a pair stand its two parts, so with m terms to come before it there are
-- m + 1 behind it. Effects in a type and in a cast are a multiset. Where parts are read by another reader, fuel bounds the turns; each
-- turn takes at least one word, so there is as much fuel as there are words.
use Rattle.std.specs.Prelude.{ℕ, zero, suc, List, [], ◌∷◌, length}
use Rattle.std.proofs.Math.Option.{Option, none, some}
use Rattle.words.specs.Choice.{then}
use Rattle.typing.specs.Term.{Term, Effect}
use Rattle.typing.specs.Bag.{bag}
use Rattle.typing.specs.Types.{Ty, Environment, ◌⦂◌}
use Rattle.typing.specs.Process.{Process}
pub mod Laws

-- what was read, and the words behind it
abbrev pub Read : Type 0 → Type 0
Read A = Option (A × List ℕ)

-- the first of a list that was read, where it has one
unfoldable pub ahead : {A : Type 0} → A → Read (List A) → Read (List A)
ahead a r = then r (λ p. some (a ∷ p.0, p.1))

-- the first two become one; the first becomes another
unfoldable pub joined : {A : Type 0} → (A → A → A) → List A → List A
joined f [] = []
joined f (a ∷ []) = []
joined f (a ∷ b ∷ l) = f a b ∷ l

unfoldable pub altered : {A : Type 0} → (A → A) → List A → List A
altered f [] = []
altered f (a ∷ l) = f a ∷ l

unfoldable pub after : {A B : Type 0} → (A → B) → Read A → Read B
after f r = then r (λ p. some (f p.0, p.1))

-- m terms, one behind another: 1, n is a name; 2 a pair; 3 a cipher, contents and key; 4, k a pair type's own variable
unfoldable pub terms : List ℕ → ℕ → Read (List Term)
terms [] zero = some ([], [])
terms [] (suc m) = none
terms (c ∷ w) zero = some ([], c ∷ w)
terms (zero ∷ w) (suc m) = none
terms (suc zero ∷ []) (suc m) = none
terms (suc zero ∷ n ∷ w) (suc m) = ahead (Term.name n) (terms w m)
terms (suc (suc zero) ∷ w) (suc m) = after (joined Term.pair) (terms w (suc (suc m)))
terms (suc (suc (suc zero)) ∷ w) (suc m) = after (joined Term.cipher) (terms w (suc (suc m)))
terms (suc (suc (suc (suc zero))) ∷ []) (suc m) = none
terms (suc (suc (suc (suc zero))) ∷ k ∷ w) (suc m) = ahead (Term.bound k) (terms w m)
terms (suc (suc (suc (suc (suc c)))) ∷ w) (suc m) = none

-- the one that was read
unfoldable pub only : {A : Type 0} → Read (List A) → Read A
only r = then r (λ p. elim p.0 [ [] ↦ none | a ∷ l ↦ some (a, p.1) ])

unfoldable pub term : List ℕ → Read Term
term w = only (terms w 1)

-- an effect: 1 is end, 2 is check, and then the term
unfoldable pub effect_of : List ℕ → Read Effect
effect_of [] = none
effect_of (zero ∷ w) = none
effect_of (suc zero ∷ w) = after Effect.end (term w)
effect_of (suc (suc zero) ∷ w) = after Effect.check (term w)
effect_of (suc (suc (suc c)) ∷ w) = none

-- n effects, one behind another
unfoldable pub effects : ℕ → List ℕ → Read (List Effect)
effects zero w = some ([], w)
effects (suc n) w = then (effect_of w) (λ p. ahead p.0 (effects n p.1))

-- a count, and then so many effects, a multiset
unfoldable pub with_effects : {A : Type 0} → List ℕ → (List Effect → List ℕ → Read A) → Read A
with_effects [] k = none
with_effects (n ∷ w) k = then (effects n w) (λ p. k (bag p.0) p.1)

-- t types, one behind another: 1 Un; 2 a pair type; 3 ch; 4 symkey; 5, n nonce with n effects
unfoldable pub types : ℕ → ℕ → List ℕ → Read (List Ty)
types zero zero w = some ([], w)
types (suc f) zero w = some ([], w)
types zero (suc t) w = none
types (suc f) (suc t) [] = none
types (suc f) (suc t) (zero ∷ w) = none
types (suc f) (suc t) (suc zero ∷ w) = ahead Ty.Un (types f t w)
types (suc f) (suc t) (suc (suc zero) ∷ w) = after (joined Ty.pair) (types f (suc (suc t)) w)
types (suc f) (suc t) (suc (suc (suc zero)) ∷ w) = after (altered Ty.channel) (types f (suc t) w)
types (suc f) (suc t) (suc (suc (suc (suc zero))) ∷ w) = after (altered Ty.symkey) (types f (suc t) w)
types (suc f) (suc t) (suc (suc (suc (suc (suc zero)))) ∷ w) = with_effects w (λ es v. ahead (Ty.nonce es) (types f t v))
types (suc f) (suc t) (suc (suc (suc (suc (suc (suc c))))) ∷ w) = none

unfoldable pub type_at : List ℕ → Read Ty
type_at w = only (types (length w) 1 w)

-- n of what one reader reads, one behind another
unfoldable pub several : {A : Type 0} → (List ℕ → Read A) → ℕ → List ℕ → Read (List A)
several r zero w = some ([], w)
several r (suc n) w = then (r w) (λ p. ahead p.0 (several r n p.1))

-- an environment, the entry that was added last first: 1 is φ; 2, x, T and the older entries
unfoldable pub entries : ℕ → List ℕ → Read Environment
entries zero w = none
entries (suc f) [] = none
entries (suc f) (zero ∷ w) = none
entries (suc f) (suc zero ∷ w) = some ([], w)
entries (suc f) (suc (suc zero) ∷ []) = none
entries (suc f) (suc (suc zero) ∷ x ∷ w) = then (type_at w) (λ p. after (λ E. (x ⦂ p.0) ∷ E) (entries f p.1))
entries (suc f) (suc (suc (suc c)) ∷ w) = none

unfoldable pub environment_at : List ℕ → Read Environment
environment_at w = entries (length w) w

-- the words of a process's own parts, behind its names: one term, two terms, a type, and so on
unfoldable pub with_term : {A : Type 0} → List ℕ → (Term → List ℕ → Read A) → Read A
with_term w k = then (term w) (λ p. k p.0 p.1)

unfoldable pub with_type : {A : Type 0} → List ℕ → (Ty → List ℕ → Read A) → Read A
with_type w k = then (type_at w) (λ p. k p.0 p.1)

-- p processes, one behind another: 1, x, T, P new; 2, M, N, P out; 3, x, M, T, P inp; 4, P, Q parallel; 5 STOP; 6, x, y, M, T, U, P split;
-- 7, y, M, N, U, P match; 8, x, M, N, T, P decrypt; 9, L, P begin; 10, L, P end; 11, x, M, n, n effects, P cast; 12, M, N, P check
unfoldable pub processes : ℕ → ℕ → List ℕ → Read (List Process)
processes zero zero w = some ([], w)
processes (suc f) zero w = some ([], w)
processes zero (suc p) w = none
processes (suc f) (suc p) [] = none
processes (suc f) (suc p) (zero ∷ w) = none
processes (suc f) (suc p) (suc zero ∷ []) = none
processes (suc f) (suc p) (suc zero ∷ x ∷ w) =
    with_type w (λ T v. after (altered (Process.new x T)) (processes f (suc p) v))
processes (suc f) (suc p) (suc (suc zero) ∷ w) =
    with_term w (λ M v. with_term v (λ N u. after (altered (Process.out M N)) (processes f (suc p) u)))
processes (suc f) (suc p) (suc (suc (suc zero)) ∷ []) = none
processes (suc f) (suc p) (suc (suc (suc zero)) ∷ x ∷ w) =
    with_term w (λ M v. with_type v (λ T u. after (altered (Process.inp M x T)) (processes f (suc p) u)))
processes (suc f) (suc p) (suc (suc (suc (suc zero))) ∷ w) =
    after (joined Process.parallel) (processes f (suc (suc p)) w)
processes (suc f) (suc p) (suc (suc (suc (suc (suc zero)))) ∷ w) =
    ahead Process.stop (processes f p w)
processes (suc f) (suc p) (suc (suc (suc (suc (suc (suc zero))))) ∷ []) = none
processes (suc f) (suc p) (suc (suc (suc (suc (suc (suc zero))))) ∷ x ∷ []) = none
processes (suc f) (suc p) (suc (suc (suc (suc (suc (suc zero))))) ∷ x ∷ y ∷ w) =
    with_term w (λ M v. with_type v (λ T u. with_type u (λ U s. after (altered (Process.split M x T y U)) (processes f (suc p) s))))
processes (suc f) (suc p) (suc (suc (suc (suc (suc (suc (suc zero)))))) ∷ []) = none
processes (suc f) (suc p) (suc (suc (suc (suc (suc (suc (suc zero)))))) ∷ y ∷ w) =
    with_term w (λ M v. with_term v (λ N u. with_type u (λ U s. after (altered (Process.match M N y U)) (processes f (suc p) s))))
processes (suc f) (suc p) (suc (suc (suc (suc (suc (suc (suc (suc zero))))))) ∷ []) = none
processes (suc f) (suc p) (suc (suc (suc (suc (suc (suc (suc (suc zero))))))) ∷ x ∷ w) =
    with_term w (λ M v. with_term v (λ N u. with_type u (λ T s. after (altered (Process.decrypt M N x T)) (processes f (suc p) s))))
processes (suc f) (suc p) (suc (suc (suc (suc (suc (suc (suc (suc (suc zero)))))))) ∷ w) =
    with_term w (λ M v. after (altered (Process.begin M)) (processes f (suc p) v))
processes (suc f) (suc p) (suc (suc (suc (suc (suc (suc (suc (suc (suc (suc zero))))))))) ∷ w) =
    with_term w (λ M v. after (altered (Process.end M)) (processes f (suc p) v))
processes (suc f) (suc p) (suc (suc (suc (suc (suc (suc (suc (suc (suc (suc (suc zero)))))))))) ∷ []) = none
processes (suc f) (suc p) (suc (suc (suc (suc (suc (suc (suc (suc (suc (suc (suc zero)))))))))) ∷ x ∷ w) =
    with_term w (λ M v. with_effects v (λ es u. after (altered (Process.cast M x es)) (processes f (suc p) u)))
processes (suc f) (suc p) (suc (suc (suc (suc (suc (suc (suc (suc (suc (suc (suc (suc zero))))))))))) ∷ w) =
    with_term w (λ M v. with_term v (λ N u. after (altered (Process.check M N)) (processes f (suc p) u)))
processes (suc f) (suc p) (suc (suc (suc (suc (suc (suc (suc (suc (suc (suc (suc (suc (suc c)))))))))))) ∷ w) = none

unfoldable pub process_at : List ℕ → Read Process
process_at w = only (processes (length w) 1 w)
