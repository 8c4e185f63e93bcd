-- Laws of the names that processes bind. Assumes nothing.
use Rattle.std.specs.Prelude.{ℕ, zero, suc, ◌+◌, List, [], ◌∷◌, ◌++◌, ◌≡◌, refl, length, take}
use Rattle.std.proofs.Common.{append_assoc, sym, ◌∙◌, ap, subst, arith}
use Rattle.std.proofs.Math.Option.{Option, none, some}
use Rattle.words.specs.Choice.{pick, then}
use Rattle.typing.specs.Term.{Term, Effect}
use Rattle.typing.specs.Bag.{bag}
use Rattle.typing.specs.Types.{Ty}
use Rattle.typing.specs.Process.{Process}
use Rattle.typing.specs.Apart.{binders}
use Rattle.typing.specs.Reading.{Read, ahead, joined, altered, after, term, effects, type_at, with_effects, with_term, with_type, processes}
use Rattle.typing.proofs.Derivation.Laws.{then-came}
use Rattle.spans.specs.Behind.{rest_of, skip_name, skip_term, skip_type, skip_effects, times, skips, process_own, process_parts}
use Rattle.spans.specs.Behind.Laws.{Counted}
use Rattle.spans.specs.Behind.Processes.{processes-counted}
use Rattle.apart.specs.Bound.{all_binders, bound_in, process_names}

-- ---- a process with its own names in front
bound-altered : (g : Process → Process) (xs : List ℕ) (m : ℕ) (r : Read (List Process)) → Counted (suc m) r → (z : List ℕ) → rest_of r ≡ some z
    → ((P : Process) → binders (g P) ≡ xs ++ binders P) → bound_in (after (altered g) r) ≡ xs ++ bound_in r
unfolding bound_in after altered then rest_of all_binders
bound-altered g xs m none c z e h = absurd (let y : ◌≡◌ {A = ℕ} 0 1 = cc in omega arith)
bound-altered g xs m (some p) c z e h = go p.0 (c p.0 p.1 refl)
  where
    go : (l : List Process) → length l ≡ suc m → all_binders (altered g l) ≡ xs ++ all_binders l
    go [] d = absurd (omega arith)
    go (P ∷ l) d = rw (h P) (append_assoc xs (binders P) (all_binders l))

bound-joined : (m : ℕ) (r : Read (List Process)) → Counted (suc (suc m)) r → (z : List ℕ) → rest_of r ≡ some z
    → bound_in (after (joined Process.parallel) r) ≡ bound_in r
unfolding bound_in after joined then rest_of all_binders binders
bound-joined m none c z e = absurd (let y : ◌≡◌ {A = ℕ} 0 1 = cc in omega arith)
bound-joined m (some p) c z e = go p.0 (c p.0 p.1 refl)
  where
    go : (l : List Process) → length l ≡ suc (suc m) → all_binders (joined Process.parallel l) ≡ all_binders l
    go [] d = absurd (omega arith)
    go (P ∷ []) d = absurd (omega arith)
    go (P ∷ Q ∷ l) d = append_assoc (binders P) (binders Q) (all_binders l)

bound-ahead : (r : Read (List Process)) (z : List ℕ) → rest_of r ≡ some z → bound_in (ahead Process.stop r) ≡ bound_in r
unfolding bound_in ahead then rest_of all_binders binders
bound-ahead none z e = absurd (let y : ◌≡◌ {A = ℕ} 0 1 = cc in omega arith)
bound-ahead (some p) z e = refl

-- ---- reading on from what was read
bound-then : {A : Type 0} (r : Read A) (k : A → List ℕ → Read (List Process)) (v : List ℕ) (o : List ℕ) → rest_of r ≡ some v
    → ((a : A) → bound_in (k a v) ≡ o) → bound_in (then r (λ p. k p.0 p.1)) ≡ o
unfolding rest_of then
bound-then none k v o e h = absurd (let y : ◌≡◌ {A = ℕ} 0 1 = cc in omega arith)
bound-then (some p) k v o e h =
    let s : v ≡ p.1 = cc in
    subst (λ (u : List ℕ). bound_in (k p.0 u) ≡ o) s (h p.0)

bound-term : (u : List ℕ) (k : Term → List ℕ → Read (List Process)) (v o : List ℕ) → skip_term u ≡ some v
    → ((M : Term) → bound_in (k M v) ≡ o)
    → bound_in (with_term u k) ≡ o
unfolding with_term
bound-term u k v o e h = bound-then (term u) k v o e h

bound-type : (u : List ℕ) (k : Ty → List ℕ → Read (List Process)) (v o : List ℕ) → skip_type u ≡ some v → ((T : Ty) → bound_in (k T v) ≡ o)
    → bound_in (with_type u k) ≡ o
unfolding with_type
bound-type u k v o e h = bound-then (type_at u) k v o e h

bound-effects : (u : List ℕ) (k : List Effect → List ℕ → Read (List Process)) (v o : List ℕ) → skip_effects u ≡ some v
    → ((es : List Effect) → bound_in (k es v) ≡ o) → bound_in (with_effects u k) ≡ o
unfolding with_effects skip_effects
bound-effects [] k v o e h = absurd (let y : ◌≡◌ {A = ℕ} 0 1 = cc in omega arith)
bound-effects (n ∷ u) k v o e h = bound-then (effects n u) (λ es y. k (bag es) y) v o e (λ es. h (bag es))

-- ---- what was passed over
none_of : (s : List ℕ → Option (List ℕ)) (u v : List ℕ) → times s 0 u ≡ some v → v ≡ u
unfolding times
none_of s u v e = cc

one_of : (s : List ℕ → Option (List ℕ)) (u v : List ℕ) → times s 1 u ≡ some v → s u ≡ some v
unfolding times
one_of s u v e =
    let (a, p, d) = then-came (s u) (times s 0) v e in
    p ∙ d

two-of : (s : List ℕ → Option (List ℕ)) (u v : List ℕ) → times s 2 u ≡ some v → (a : List ℕ) × (s u ≡ some a) × (s a ≡ some v)
unfolding times
two-of s u v e =
    let (a, p, d) = then-came (s u) (times s 1) v e in
    (a, p, one_of s a v d)

names-one : (x : ℕ) (u a : List ℕ) → times skip_name 1 (x ∷ u) ≡ some a → a ≡ u
unfolding times skip_name then
names-one x u a e = cc

names-two : (x y : ℕ) (u a : List ℕ) → times skip_name 2 (x ∷ y ∷ u) ≡ some a → a ≡ u
unfolding times skip_name then
names-two x y u a e = cc

skips-came : (n m t : ℕ) (u v : List ℕ) → skips n m t u ≡ some v
    → (a : List ℕ) × (b : List ℕ) × (times skip_name n u ≡ some a) × (times skip_term m a ≡ some b) × (times skip_type t b ≡ some v)
unfolding skips
skips-came n m t u v e =
    let (a, p, d) = then-came (times skip_name n u) _ v e in
    let (b, q, c) = then-came (times skip_term m a) (times skip_type t) v d in
    (a, b, p, q, c)

-- ---- one process: its names, and those of what is behind its own words
pub processes-bound : (f p q c : ℕ) (u v z : List ℕ) → q ≡ p + process_parts c → process_own (c ∷ u) ≡ some v
    → rest_of (processes f q v) ≡ some z
    → bound_in (processes (suc f) (suc p) (c ∷ u)) ≡ take (process_names c) u ++ bound_in (processes f q v)
unfolding processes process_own process_parts process_names pick then skips times skip_name binders
processes-bound f p q zero u v z e o s = absurd (let y : ◌≡◌ {A = ℕ} 0 1 = cc in omega arith)
processes-bound f p q (suc zero) [] v z e o s = absurd (let y : ◌≡◌ {A = ℕ} 0 1 = cc in omega arith)
processes-bound f p q (suc zero) (x ∷ u) v z e o s =
    let one : q ≡ suc p = omega arith in
    let r = rw one at s in
    let (a, b, n0, m0, t0) = skips-came 1 0 1 (x ∷ u) v o in
    let na : a ≡ u = names-one x u a n0 in
    let mb : b ≡ u = none_of skip_term a b m0 ∙ na in
    let h2 : skip_type u ≡ some v = subst (λ (y : List ℕ). skip_type y ≡ some v) mb (one_of skip_type b v t0) in
    rw one (bound-type u _ v _ h2 (λ _. bound-altered _ (x ∷ []) p (processes f (suc p) v) (processes-counted f (suc p) v) z r (λ P. refl)))
processes-bound f p q (suc (suc zero)) u v z e o s =
    let one : q ≡ suc p = omega arith in
    let r = rw one at s in
    let (a, b, n0, m0, t0) = skips-came 0 2 0 u v o in
    let na : a ≡ u = none_of skip_name u a n0 in
    let (c, c1, c2) = two-of skip_term a b m0 in
    let h1 : skip_term u ≡ some c = subst (λ (y : List ℕ). skip_term y ≡ some c) na c1 in
    let te : v ≡ b = none_of skip_type b v t0 in
    let h3 : skip_term c ≡ some v = c2 ∙ ap {B = Option (List ℕ)} some (sym te) in
    rw one (bound-term u _ c _ h1 (λ _. bound-term c _ v _ h3 (λ _. bound-altered _ [] p (processes f (suc p) v) (processes-counted f (suc p) v) z r (λ P.
    refl))))
processes-bound f p q (suc (suc (suc zero))) [] v z e o s = absurd (let y : ◌≡◌ {A = ℕ} 0 1 = cc in omega arith)
processes-bound f p q (suc (suc (suc zero))) (x ∷ u) v z e o s =
    let one : q ≡ suc p = omega arith in
    let r = rw one at s in
    let (a, b, n0, m0, t0) = skips-came 1 1 1 (x ∷ u) v o in
    let na : a ≡ u = names-one x u a n0 in
    let h1 : skip_term u ≡ some b = subst (λ (y : List ℕ). skip_term y ≡ some b) na (one_of skip_term a b m0) in
    let h2 : skip_type b ≡ some v = one_of skip_type b v t0 in
    rw one (bound-term u _ b _ h1 (λ _. bound-type b _ v _ h2 (λ _. bound-altered _ (x ∷ []) p (processes f (suc p) v) (processes-counted f (suc p) v) z r
    (λ P. refl))))
processes-bound f p q (suc (suc (suc (suc zero)))) u v z e o s =
    let two : q ≡ suc (suc p) = omega arith in
    let r = rw two at s in
    let same : u ≡ v = cc in
    rw (two, ← same) (bound-joined p (processes f (suc (suc p)) u) (processes-counted f (suc (suc p)) u) z (rw (← same) at r))
processes-bound f p q (suc (suc (suc (suc (suc zero))))) u v z e o s =
    let none_more : q ≡ p = omega arith in
    let r = rw none_more at s in
    let same : u ≡ v = cc in
    rw (none_more, ← same) (bound-ahead (processes f p u) z (rw (← same) at r))
processes-bound f p q (suc (suc (suc (suc (suc (suc zero)))))) [] v z e o s = absurd (let y : ◌≡◌ {A = ℕ} 0 1 = cc in omega arith)
processes-bound f p q (suc (suc (suc (suc (suc (suc zero)))))) (x ∷ []) v z e o s = absurd (let y : ◌≡◌ {A = ℕ} 0 1 = cc in omega arith)
processes-bound f p q (suc (suc (suc (suc (suc (suc zero)))))) (x ∷ y ∷ u) v z e o s =
    let one : q ≡ suc p = omega arith in
    let r = rw one at s in
    let (a, b, n0, m0, t0) = skips-came 2 1 2 (x ∷ y ∷ u) v o in
    let na : a ≡ u = names-two x y u a n0 in
    let h1 : skip_term u ≡ some b = subst (λ (y : List ℕ). skip_term y ≡ some b) na (one_of skip_term a b m0) in
    let (d, d1, d2) = two-of skip_type b v t0 in
    rw one (bound-term u _ b _ h1 (λ _. bound-type b _ d _ d1 (λ _. bound-type d _ v _ d2 (λ _. bound-altered _ (x ∷ y ∷ []) p (processes f (suc p) v)
    (processes-counted f (suc p) v) z r (λ P. refl)))))
processes-bound f p q (suc (suc (suc (suc (suc (suc (suc zero))))))) [] v z e o s = absurd (let y : ◌≡◌ {A = ℕ} 0 1 = cc in omega arith)
processes-bound f p q (suc (suc (suc (suc (suc (suc (suc zero))))))) (x ∷ u) v z e o s =
    let one : q ≡ suc p = omega arith in
    let r = rw one at s in
    let (a, b, n0, m0, t0) = skips-came 1 2 1 (x ∷ u) v o in
    let na : a ≡ u = names-one x u a n0 in
    let (c, c1, c2) = two-of skip_term a b m0 in
    let h1 : skip_term u ≡ some c = subst (λ (y : List ℕ). skip_term y ≡ some c) na c1 in
    let h2 : skip_type b ≡ some v = one_of skip_type b v t0 in
    rw one (bound-term u _ c _ h1 (λ _. bound-term c _ b _ c2 (λ _. bound-type b _ v _ h2 (λ _. bound-altered _ (x ∷ []) p (processes f (suc p) v)
    (processes-counted f (suc p) v) z r (λ P. refl)))))
processes-bound f p q (suc (suc (suc (suc (suc (suc (suc (suc zero)))))))) [] v z e o s = absurd (let y : ◌≡◌ {A = ℕ} 0 1 = cc in omega arith)
processes-bound f p q (suc (suc (suc (suc (suc (suc (suc (suc zero)))))))) (x ∷ u) v z e o s =
    let one : q ≡ suc p = omega arith in
    let r = rw one at s in
    let (a, b, n0, m0, t0) = skips-came 1 2 1 (x ∷ u) v o in
    let na : a ≡ u = names-one x u a n0 in
    let (c, c1, c2) = two-of skip_term a b m0 in
    let h1 : skip_term u ≡ some c = subst (λ (y : List ℕ). skip_term y ≡ some c) na c1 in
    let h2 : skip_type b ≡ some v = one_of skip_type b v t0 in
    rw one (bound-term u _ c _ h1 (λ _. bound-term c _ b _ c2 (λ _. bound-type b _ v _ h2 (λ _. bound-altered _ (x ∷ []) p (processes f (suc p) v)
    (processes-counted f (suc p) v) z r (λ P. refl)))))
processes-bound f p q (suc (suc (suc (suc (suc (suc (suc (suc (suc zero))))))))) u v z e o s =
    let one : q ≡ suc p = omega arith in
    let r = rw one at s in
    let (a, b, n0, m0, t0) = skips-came 0 1 0 u v o in
    let na : a ≡ u = none_of skip_name u a n0 in
    let h1 : skip_term u ≡ some b = subst (λ (y : List ℕ). skip_term y ≡ some b) na (one_of skip_term a b m0) in
    let te : v ≡ b = none_of skip_type b v t0 in
    let h3 : skip_term u ≡ some v = h1 ∙ ap {B = Option (List ℕ)} some (sym te) in
    rw one (bound-term u _ v _ h3 (λ _. bound-altered _ [] p (processes f (suc p) v) (processes-counted f (suc p) v) z r (λ P. refl)))
processes-bound f p q (suc (suc (suc (suc (suc (suc (suc (suc (suc (suc zero)))))))))) u v z e o s =
    let one : q ≡ suc p = omega arith in
    let r = rw one at s in
    let (a, b, n0, m0, t0) = skips-came 0 1 0 u v o in
    let na : a ≡ u = none_of skip_name u a n0 in
    let h1 : skip_term u ≡ some b = subst (λ (y : List ℕ). skip_term y ≡ some b) na (one_of skip_term a b m0) in
    let te : v ≡ b = none_of skip_type b v t0 in
    let h3 : skip_term u ≡ some v = h1 ∙ ap {B = Option (List ℕ)} some (sym te) in
    rw one (bound-term u _ v _ h3 (λ _. bound-altered _ [] p (processes f (suc p) v) (processes-counted f (suc p) v) z r (λ P. refl)))
processes-bound f p q (suc (suc (suc (suc (suc (suc (suc (suc (suc (suc (suc zero))))))))))) [] v z e o s = absurd
    (let y : ◌≡◌ {A = ℕ} 0 1 = cc in omega arith)
processes-bound f p q (suc (suc (suc (suc (suc (suc (suc (suc (suc (suc (suc zero))))))))))) (x ∷ u) v z e o s =
    let one : q ≡ suc p = omega arith in
    let r = rw one at s in
    let (end, own, last) = then-came (skips 1 1 0 (x ∷ u)) skip_effects v o in
    let (a, b, n0, m0, t0) = skips-came 1 1 0 (x ∷ u) end own in
    let na : a ≡ u = names-one x u a n0 in
    let h1 : skip_term u ≡ some b = subst (λ (y : List ℕ). skip_term y ≡ some b) na (one_of skip_term a b m0) in
    let te : end ≡ b = none_of skip_type b end t0 in
    let h3 : skip_term u ≡ some end = h1 ∙ ap {B = Option (List ℕ)} some (sym te) in
    rw one (bound-term u _ end _ h3 (λ _. bound-effects end _ v _ last (λ _. bound-altered _ (x ∷ []) p (processes f (suc p) v) (processes-counted f (suc p)
    v) z r (λ P. refl))))
processes-bound f p q (suc (suc (suc (suc (suc (suc (suc (suc (suc (suc (suc (suc zero)))))))))))) u v z e o s =
    let one : q ≡ suc p = omega arith in
    let r = rw one at s in
    let (a, b, n0, m0, t0) = skips-came 0 2 0 u v o in
    let na : a ≡ u = none_of skip_name u a n0 in
    let (c, c1, c2) = two-of skip_term a b m0 in
    let h1 : skip_term u ≡ some c = subst (λ (y : List ℕ). skip_term y ≡ some c) na c1 in
    let te : v ≡ b = none_of skip_type b v t0 in
    let h3 : skip_term c ≡ some v = c2 ∙ ap {B = Option (List ℕ)} some (sym te) in
    rw one (bound-term u _ c _ h1 (λ _. bound-term c _ v _ h3 (λ _. bound-altered _ [] p (processes f (suc p) v) (processes-counted f (suc p) v) z r (λ P.
    refl))))
processes-bound f p q (suc (suc (suc (suc (suc (suc (suc (suc (suc (suc (suc (suc (suc c))))))))))))) u v z e o s = absurd
    (let y : ◌≡◌ {A = ℕ} 0 1 = cc in omega arith)
