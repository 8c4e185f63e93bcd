-- What is read, by its first word: as much fuel as there are words is enough, so that types and environments are read part by part
-- (`types-several`, `type-pair`, `environment-entry` and their kin). Assumes nothing.
use Rattle.std.specs.Prelude.{ℕ, zero, suc, ◌≤◌, List, [], ◌∷◌, ◌≡◌, length}
use Rattle.std.proofs.Math.Option.{none, some}
use Rattle.std.proofs.Math.Path.{refl}
use Rattle.std.proofs.Common.{sym, ◌∙◌, ap, arith}
use Rattle.words.specs.Choice.{then}
use Rattle.typing.specs.Term.{Term, Effect}
use Rattle.typing.specs.Bag.{bag}
use Rattle.typing.specs.Types.{Ty, Environment, ◌⦂◌}
use Rattle.typing.specs.Reading.{Read, ahead, joined, altered, after, terms, only, term, effect_of, effects, with_effects, types, type_at, several, entries, environment_at}

-- ---- what is behind what was read is no longer than n
abbrev pub Shorter : {A : Type 0} → ℕ → Read A → Type 0
Shorter {A} n r = (a : A) (v : List ℕ) → r ≡ some (a, v) → length v ≤ n

behind : {A : Type 0} (a b : A) (u v : List ℕ) → ◌≡◌ {A = Read A} (some (a, u)) (some (b, v)) → v ≡ u
behind {A} a b u v e =
    let q : ◌≡◌ {A = A × List ℕ} (a, u) (b, v) = cc in
    sym (ap (λ (z : A × List ℕ). z.1) q)

pub shorter-none : {A : Type 0} (n : ℕ) → Shorter {A = A} n none
shorter-none n a v e = absurd (let z : ◌≡◌ {A = ℕ} 0 1 = cc in omega arith)

pub shorter-some : {A : Type 0} (n : ℕ) (a : A) (u : List ℕ) → length u ≤ n → Shorter n (some (a, u))
shorter-some n a u l b v e = rw (behind a b u v e) l

pub shorter-then : {A B : Type 0} (m n : ℕ) (r : Read A) (f : A × List ℕ → Read B) → Shorter m r
    → ((a : A) (v : List ℕ) → length v ≤ m → Shorter n (f (a, v)))
    → Shorter n (then r f)
unfolding then
shorter-then m n none f h g = shorter-none n
shorter-then m n (some p) f h g = g p.0 p.1 (h p.0 p.1 refl)

pub shorter-after : {A B : Type 0} (n : ℕ) (f : A → B) (r : Read A) → Shorter n r → Shorter n (after f r)
unfolding after
shorter-after n f r h = shorter-then n n r _ h (λ a v l. shorter-some n (f a) v l)

pub shorter-ahead : {A : Type 0} (n : ℕ) (a : A) (r : Read (List A)) → Shorter n r → Shorter n (ahead a r)
unfolding ahead
shorter-ahead n a r h = shorter-then n n r _ h (λ l v k. shorter-some n (a ∷ l) v k)

pub shorter-only : {A : Type 0} (n : ℕ) (r : Read (List A)) → Shorter n r → Shorter n (only r)
unfolding only
shorter-only {A} n r h = shorter-then n n r _ h go
  where
    go : (l : List A) (v : List ℕ) → length v ≤ n → Shorter {A = A} n (elim l as (λ _. Read A) [ [] ↦ none | a ∷ k ↦ some (a, v) ])
    go [] v k = shorter-none n
    go (a ∷ l) v k = shorter-some n a v k

pub shorter-more : {A : Type 0} (m n : ℕ) (r : Read A) → m ≤ n → Shorter m r → Shorter n r
shorter-more m n r l h a v e = omega (arith, h a v e)

terms-shorter : (u : List ℕ) (m : ℕ) → Shorter (length u) (terms u m)
unfolding terms
terms-shorter [] zero = shorter-some 0 [] [] (omega arith)
terms-shorter [] (suc m) = shorter-none 0
terms-shorter (c ∷ u) zero = shorter-some (length (c ∷ u)) [] (c ∷ u) (omega arith)
terms-shorter (zero ∷ u) (suc m) = shorter-none _
terms-shorter (suc zero ∷ []) (suc m) = shorter-none _
terms-shorter (suc zero ∷ n ∷ u) (suc m) =
    shorter-more (length u) _ _ (omega arith) (shorter-ahead (length u) (Term.name n) (terms u m) (terms-shorter u m))
terms-shorter (suc (suc zero) ∷ u) (suc m) =
    shorter-more (length u) _ _ (omega arith) (shorter-after (length u) (joined Term.pair) (terms u (suc (suc m))) (terms-shorter u (suc (suc m))))
terms-shorter (suc (suc (suc zero)) ∷ u) (suc m) =
    shorter-more (length u) _ _ (omega arith) (shorter-after (length u) (joined Term.cipher) (terms u (suc (suc m))) (terms-shorter u (suc (suc m))))
terms-shorter (suc (suc (suc (suc zero))) ∷ []) (suc m) = shorter-none _
terms-shorter (suc (suc (suc (suc zero))) ∷ k ∷ u) (suc m) =
    shorter-more (length u) _ _ (omega arith) (shorter-ahead (length u) (Term.bound k) (terms u m) (terms-shorter u m))
terms-shorter (suc (suc (suc (suc (suc c)))) ∷ u) (suc m) = shorter-none _

pub term-shorter : (u : List ℕ) → Shorter (length u) (term u)
unfolding term
term-shorter u = shorter-only (length u) (terms u 1) (terms-shorter u 1)

effect-shorter : (u : List ℕ) → Shorter (length u) (effect_of u)
unfolding effect_of
effect-shorter [] = shorter-none _
effect-shorter (zero ∷ u) = shorter-none _
effect-shorter (suc zero ∷ u) = shorter-more (length u) _ _ (omega arith) (shorter-after (length u) Effect.end (term u) (term-shorter u))
effect-shorter (suc (suc zero) ∷ u) = shorter-more (length u) _ _ (omega arith) (shorter-after (length u) Effect.check (term u) (term-shorter u))
effect-shorter (suc (suc (suc c)) ∷ u) = shorter-none _

pub effects-shorter : (n : ℕ) (u : List ℕ) → Shorter (length u) (effects n u)
unfolding effects
effects-shorter zero u = shorter-some (length u) [] u (omega arith)
effects-shorter (suc n) u =
    shorter-then (length u) (length u) (effect_of u) _ (effect-shorter u)
    (λ e v l. shorter-ahead (length u) e (effects n v) (shorter-more (length v) (length u) (effects n v) l (effects-shorter n v)))

types-shorter : (f t : ℕ) (u : List ℕ) → Shorter (length u) (types f t u)
unfolding types with_effects
types-shorter zero zero u = shorter-some (length u) [] u (omega arith)
types-shorter (suc f) zero u = shorter-some (length u) [] u (omega arith)
types-shorter zero (suc t) u = shorter-none _
types-shorter (suc f) (suc t) [] = shorter-none _
types-shorter (suc f) (suc t) (zero ∷ u) = shorter-none _
types-shorter (suc f) (suc t) (suc zero ∷ u) =
    shorter-more (length u) _ _ (omega arith) (shorter-ahead (length u) Ty.Un (types f t u) (types-shorter f t u))
types-shorter (suc f) (suc t) (suc (suc zero) ∷ u) =
    shorter-more (length u) _ _ (omega arith) (shorter-after (length u) (joined Ty.pair) (types f (suc (suc t)) u) (types-shorter f (suc (suc t)) u))
types-shorter (suc f) (suc t) (suc (suc (suc zero)) ∷ u) =
    shorter-more (length u) _ _ (omega arith) (shorter-after (length u) (altered Ty.channel) (types f (suc t) u) (types-shorter f (suc t) u))
types-shorter (suc f) (suc t) (suc (suc (suc (suc zero))) ∷ u) =
    shorter-more (length u) _ _ (omega arith) (shorter-after (length u) (altered Ty.symkey) (types f (suc t) u) (types-shorter f (suc t) u))
types-shorter (suc f) (suc t) (suc (suc (suc (suc (suc zero)))) ∷ []) = shorter-none _
types-shorter (suc f) (suc t) (suc (suc (suc (suc (suc zero)))) ∷ n ∷ u) =
    shorter-more (length u) _ _ (omega arith) (shorter-then (length u) (length u) (effects n u) _ (effects-shorter n u)
    (λ es v l. shorter-ahead (length u) (Ty.nonce (bag es)) (types f t v) (shorter-more (length v) (length u) (types f t v) l (types-shorter f t v))))
types-shorter (suc f) (suc t) (suc (suc (suc (suc (suc (suc c))))) ∷ u) = shorter-none _

pub type-shorter : (u : List ℕ) → Shorter (length u) (type_at u)
unfolding type_at
type-shorter u = shorter-only (length u) (types (length u) 1 u) (types-shorter (length u) 1 u)

-- ---- several, of which the first is altered or the first two are joined
module _ {A : Type 0} (r : List ℕ → Read A) where
  -- one, altered; two, joined
  abbrev pub two_of : (A → A → A) → List ℕ → Read A
  two_of f u = then (r u) (λ p. then (r p.1) (λ q. some (f p.0 q.0, q.1)))

  pub one-altered : (f : A → A) (u : List ℕ) → only (after (altered f) (several r 1 u)) ≡ after f (r u)
  unfolding only after altered several then ahead
  one-altered f u = go (r u)
    where
      go : (o : Read A) → only (after (altered f) (then o (λ p. ahead p.0 (several r 0 p.1)))) ≡ after f o
      go none = refl
      go (some p) = refl

  pub two-joined : (f : A → A → A) (u : List ℕ) → only (after (joined f) (several r 2 u)) ≡ two_of f u
  unfolding only after joined several then ahead
  two-joined f u = go (r u)
    where
      second : (a : A) (o : Read A) → only (after (joined f) (ahead a (then o (λ q. ahead q.0 (several r 0 q.1)))))
          ≡ then o (λ q. some (f a q.0, q.1))
      second a none = refl
      second a (some q) = refl

      go : (o : Read A) → only (after (joined f) (then o (λ p. ahead p.0 (several r 1 p.1))))
          ≡ then o (λ p. then (r p.1) (λ q. some (f p.0 q.0, q.1)))
      go none = refl
      go (some p) = second p.0 (r p.1)

  pub some-altered : (f : A → A) (t : ℕ) (u : List ℕ)
      → after (altered f) (several r (suc t) u) ≡ then (after f (r u)) (λ p. ahead p.0 (several r t p.1))
  unfolding after altered several then ahead
  some-altered f t u = go (r u)
    where
      rest : (a : A) (o : Read (List A)) → after (altered f) (ahead a o) ≡ ahead (f a) o
      rest a none = refl
      rest a (some q) = refl

      go : (o : Read A) → after (altered f) (then o (λ p. ahead p.0 (several r t p.1)))
          ≡ then (after f o) (λ p. ahead p.0 (several r t p.1))
      go none = refl
      go (some p) = rest p.0 (several r t p.1)

  pub some-joined : (f : A → A → A) (t : ℕ) (u : List ℕ)
      → after (joined f) (several r (suc (suc t)) u) ≡ then (two_of f u) (λ p. ahead p.0 (several r t p.1))
  unfolding after joined several then ahead
  some-joined f t u = go (r u)
    where
      rest : (a b : A) (o : Read (List A)) → after (joined f) (ahead a (ahead b o)) ≡ ahead (f a b) o
      rest a b none = refl
      rest a b (some q) = refl

      second : (a : A) (o : Read A) → after (joined f) (ahead a (then o (λ q. ahead q.0 (several r t q.1))))
          ≡ then {A = A × List ℕ} (then o (λ q. some (f a q.0, q.1))) (λ p. ahead p.0 (several r t p.1))
      second a none = refl
      second a (some q) = rest a q.0 (several r t q.1)

      go : (o : Read A) → after (joined f) (then o (λ p. ahead p.0 (several r (suc t) p.1)))
          ≡ then {A = A × List ℕ} (then o (λ p. then (r p.1) (λ q. some (f p.0 q.0, q.1)))) (λ p. ahead p.0 (several r t p.1))
      go none = refl
      go (some p) = second p.0 (r p.1)

-- ---- types
types-none : (f : ℕ) (u : List ℕ) → types f 0 u ≡ some ([], u)
unfolding types
types-none zero u = refl
types-none (suc f) u = refl

-- fuel up to n, where it is enough, is no matter
abbrev Enough : ℕ → Type 0
Enough n = (f t : ℕ) (u : List ℕ) → f ≤ n → length u ≤ f → types f t u ≡ several type_at t u

-- Un
pub type-Un : (u : List ℕ) → type_at (1 ∷ u) ≡ some (Ty.Un, u)
unfolding type_at types only ahead then
type-Un u = rw (types-none (length u) u)

nonce-go : (f : ℕ) (o : Read (List Effect)) → only (then o (λ p. ahead (Ty.nonce (bag p.0)) (types f 0 p.1))) ≡ after (λ es. Ty.nonce (bag es)) o
unfolding only then after ahead
nonce-go f none = refl
nonce-go f (some p) = rw (types-none f p.1)

pub type-nonce : (n : ℕ) (u : List ℕ) → type_at (5 ∷ n ∷ u) ≡ after (λ es. Ty.nonce (bag es)) (effects n u)
unfolding type_at types with_effects
type-nonce n u = nonce-go (suc (length u)) (effects n u)

channel-from : (u : List ℕ) → types (length u) 1 u ≡ several type_at 1 u → type_at (3 ∷ u) ≡ after Ty.channel (type_at u)
unfolding type_at types
channel-from u e = ap (λ (r : Read (List Ty)). only (after (altered Ty.channel) r)) e ∙ one-altered type_at Ty.channel u

symkey-from : (u : List ℕ) → types (length u) 1 u ≡ several type_at 1 u → type_at (4 ∷ u) ≡ after Ty.symkey (type_at u)
unfolding type_at types
symkey-from u e = ap (λ (r : Read (List Ty)). only (after (altered Ty.symkey) r)) e ∙ one-altered type_at Ty.symkey u

pair-from : (u : List ℕ) → types (length u) 2 u ≡ several type_at 2 u → type_at (2 ∷ u) ≡ two_of type_at Ty.pair u
unfolding type_at types
pair-from u e = ap (λ (r : Read (List Ty)). only (after (joined Ty.pair) r)) e ∙ two-joined type_at Ty.pair u

more : {A : Type 0} → (List ℕ → Read A) → ℕ → A × List ℕ → Read (List A)
more r t p = ahead p.0 (several r t p.1)

-- with no fuel, or nothing to come
start : (f t : ℕ) (u : List ℕ) → f ≤ 0 → length u ≤ f → types f t u ≡ several type_at t u
unfolding types type_at several only then
start zero zero u k l = refl
start (suc f) t u k l = absurd (omega arith)
start zero (suc t) [] k l = refl
start zero (suc t) (c ∷ u) k l = absurd (omega arith)

step : (n : ℕ) → Enough n → Enough (suc n)
unfolding types type_at several only then ahead after with_effects more
step n ih zero t u k l = start zero t u (omega arith) l
step n ih (suc f) zero u k l = refl
step n ih (suc f) (suc t) [] k l = refl
step n ih (suc f) (suc t) (zero ∷ u) k l = refl
step n ih (suc f) (suc t) (suc zero ∷ u) k l =
    ap (ahead Ty.Un) (ih f t u (omega arith) (omega arith)) ∙ ap (λ (o : Read Ty). then o (more type_at t)) (sym (type-Un u))
step n ih (suc f) (suc t) (suc (suc zero) ∷ u) k l =
    ap (after (joined Ty.pair)) (ih f (suc (suc t)) u (omega arith) (omega arith)) ∙ some-joined type_at Ty.pair t u
    ∙ ap (λ (o : Read Ty). then o (more type_at t)) (sym (pair-from u (ih (length u) 2 u (omega arith) (omega arith))))
step n ih (suc f) (suc t) (suc (suc (suc zero)) ∷ u) k l =
    ap (after (altered Ty.channel)) (ih f (suc t) u (omega arith) (omega arith)) ∙ some-altered type_at Ty.channel t u
    ∙ ap (λ (o : Read Ty). then o (more type_at t)) (sym (channel-from u (ih (length u) 1 u (omega arith) (omega arith))))
step n ih (suc f) (suc t) (suc (suc (suc (suc zero))) ∷ u) k l =
    ap (after (altered Ty.symkey)) (ih f (suc t) u (omega arith) (omega arith)) ∙ some-altered type_at Ty.symkey t u
    ∙ ap (λ (o : Read Ty). then o (more type_at t)) (sym (symkey-from u (ih (length u) 1 u (omega arith) (omega arith))))
step n ih (suc f) (suc t) (suc (suc (suc (suc (suc zero)))) ∷ []) k l = refl
step n ih (suc f) (suc t) (suc (suc (suc (suc (suc zero)))) ∷ m ∷ u) k l =
    go (λ v j. ih f t v (omega arith) (omega arith)) (effects m u) (effects-shorter m u)
    ∙ ap (λ (o : Read Ty). then o (more type_at t)) (sym (type-nonce m u))
  where
    go : ((v : List ℕ) → length v ≤ length u → types f t v ≡ several type_at t v) → (o : Read (List Effect)) → Shorter (length u) o
        → then o (λ p. ahead (Ty.nonce (bag p.0)) (types f t p.1)) ≡ then (after (λ es. Ty.nonce (bag es)) o) (more type_at t)
    go g none h = refl
    go g (some p) h = ap (ahead (Ty.nonce (bag p.0))) (g p.1 (h p.0 p.1 refl))
step n ih (suc f) (suc t) (suc (suc (suc (suc (suc (suc c))))) ∷ u) k l = refl

enough : (n : ℕ) → Enough n
enough zero = start
enough (suc n) = step n (enough n)

pub types-several : (f t : ℕ) (u : List ℕ) → length u ≤ f → types f t u ≡ several type_at t u
types-several f t u l = enough f f t u (omega arith) l

pub type-channel : (u : List ℕ) → type_at (3 ∷ u) ≡ after Ty.channel (type_at u)
type-channel u = channel-from u (types-several (length u) 1 u (omega arith))

pub type-symkey : (u : List ℕ) → type_at (4 ∷ u) ≡ after Ty.symkey (type_at u)
type-symkey u = symkey-from u (types-several (length u) 1 u (omega arith))

pub type-pair : (u : List ℕ) → type_at (2 ∷ u) ≡ then (type_at u) (λ p. then (type_at p.1) (λ q. some (Ty.pair p.0 q.0, q.1)))
type-pair u = pair-from u (types-several (length u) 2 u (omega arith))

-- ---- environments
abbrev EntriesEnough : ℕ → Type 0
EntriesEnough n = (f : ℕ) (u : List ℕ) → f ≤ n → length u ≤ f → entries f u ≡ environment_at u

entries-start : EntriesEnough 0
unfolding entries environment_at
entries-start zero [] k l = refl
entries-start zero (c ∷ u) k l = absurd (omega arith)
entries-start (suc f) u k l = absurd (omega arith)

entries-step : (n : ℕ) → EntriesEnough n → EntriesEnough (suc n)
unfolding entries environment_at then
entries-step n ih zero u k l = entries-start zero u (omega arith) l
entries-step n ih (suc f) [] k l = refl
entries-step n ih (suc f) (zero ∷ u) k l = refl
entries-step n ih (suc f) (suc zero ∷ u) k l = refl
entries-step n ih (suc f) (suc (suc zero) ∷ []) k l = refl
entries-step n ih (suc f) (suc (suc zero) ∷ x ∷ u) k l =
    go (λ v j. ih f v (omega arith) (omega arith) ∙ sym (ih (suc (length u)) v (omega arith) (omega arith))) (type_at u)
    (type-shorter u)
  where
    go : ((v : List ℕ) → length v ≤ length u → entries f v ≡ entries (suc (length u)) v) → (o : Read Ty) → Shorter (length u) o
        → then o (λ p. after (λ (E : Environment). (x ⦂ p.0) ∷ E) (entries f p.1))
        ≡ then o (λ p. after (λ (E : Environment). (x ⦂ p.0) ∷ E) (entries (suc (length u)) p.1))
    go g none h = refl
    go g (some p) h = ap (after (λ (E : Environment). (x ⦂ p.0) ∷ E)) (g p.1 (h p.0 p.1 refl))
entries-step n ih (suc f) (suc (suc (suc c)) ∷ u) k l = refl

entries-enough : (n : ℕ) → EntriesEnough n
entries-enough zero = entries-start
entries-enough (suc n) = entries-step n (entries-enough n)

pub environment-none : (u : List ℕ) → environment_at (1 ∷ u) ≡ some ([], u)
unfolding entries environment_at
environment-none u = refl

pub environment-entry : (x : ℕ) (u : List ℕ)
    → environment_at (2 ∷ x ∷ u) ≡ then (type_at u) (λ p. after (λ (E : Environment). (x ⦂ p.0) ∷ E) (environment_at p.1))
unfolding entries environment_at then
environment-entry x u = go (type_at u) (type-shorter u)
  where
    go : (o : Read Ty) → Shorter (length u) o
        → then o (λ p. after (λ (E : Environment). (x ⦂ p.0) ∷ E) (entries (suc (length u)) p.1))
        ≡ then o (λ p. after (λ (E : Environment). (x ⦂ p.0) ∷ E) (environment_at p.1))
    go none h = refl
    go (some p) h =
        ap (after (λ (E : Environment). (x ⦂ p.0) ∷ E))
        (entries-enough (suc (length u)) (suc (length u)) p.1 (omega arith) (omega (arith, h p.0 p.1 refl)))
