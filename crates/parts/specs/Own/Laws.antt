-- A process is its own words, and the processes in it behind them. Assumes nothing.
use Prim.Native.Nat.{ℕ, zero, suc, ◌+◌, ◌≤◌, ◌<◌}
use Rattle.std.specs.Prelude.{Bool, List, [], ◌∷◌, ◌≡◌, refl, eqb, length}
use Rattle.std.proofs.Math.Bool.{true, false}
use Rattle.std.proofs.Math.Option.{none, some}
use Rattle.std.proofs.Common.{sym, ◌∙◌, ne_eqb}
use Rattle.std.proofs.Math.Path.{ap}
use native.Mathlib.Omega.{arith}
use Rattle.std.proofs.Math.Decide.{dec_lt}
use Rattle.words.specs.Choice.{pick, then}
use Rattle.words.specs.Choice.Laws.{pick-false, pick_ind}
use Rattle.typing.specs.Term.{Effect}
use Rattle.typing.specs.Bag.{bag}
use Rattle.typing.specs.Process.{Process}
use Rattle.typing.specs.Reading.{Read, ahead, joined, altered, after, only, term, effects, with_effects, with_term, with_type, type_at, several, processes, process_at}
use Rattle.typing.specs.Reading.Laws.{Shorter, shorter-none, shorter-some, shorter-then, shorter-ahead, shorter-more, term-shorter, effects-shorter, type-shorter, one-altered, two-joined, some-altered, some-joined}
use Rattle.spans.specs.Behind.{process_parts}
use Rattle.spans.specs.Behind.Processes.{then-assoc}
use Rattle.parts.specs.Own.{Own, Counted, names_of, terms_of, types_of, name, cast_effects, own_behind, own_of, fore, next, around_by, around, formed}

-- ---- the table
counted-at : (c k : ℕ) → c ≡ k → names_of k ≤ 2 → terms_of k ≤ 2 → types_of k ≤ 2 → Counted c (names_of k) (terms_of k) (types_of k)
counted-at c k e x y z =
    record {
      names = ap names_of (sym e);
      terms = ap terms_of (sym e);
      types = ap types_of (sym e);
      few-names = x;
      few-terms = y;
      few-types = z;
    }

pub counted-new : (c : ℕ) → c ≡ 1 → Counted c 1 0 1
unfolding names_of terms_of types_of pick
counted-new c e = counted-at c 1 e (omega arith) (omega arith) (omega arith)

pub counted-out : (c : ℕ) → c ≡ 2 → Counted c 0 2 0
unfolding names_of terms_of types_of pick
counted-out c e = counted-at c 2 e (omega arith) (omega arith) (omega arith)

pub counted-inp : (c : ℕ) → c ≡ 3 → Counted c 1 1 1
unfolding names_of terms_of types_of pick
counted-inp c e = counted-at c 3 e (omega arith) (omega arith) (omega arith)

pub counted-split : (c : ℕ) → c ≡ 6 → Counted c 2 1 2
unfolding names_of terms_of types_of pick
counted-split c e = counted-at c 6 e (omega arith) (omega arith) (omega arith)

pub counted-match : (c : ℕ) → 7 ≤ c → c ≤ 8 → Counted c 1 2 1
unfolding names_of terms_of types_of pick
counted-match c l m = elim (dec_lt c 8) [
  | yes h ↦ counted-at c 7 (omega arith) (omega arith) (omega arith) (omega arith)
  | no h ↦ counted-at c 8 (omega arith) (omega arith) (omega arith) (omega arith)
]

pub counted-begin : (c : ℕ) → 9 ≤ c → c ≤ 10 → Counted c 0 1 0
unfolding names_of terms_of types_of pick
counted-begin c l m = elim (dec_lt c 10) [
  | yes h ↦ counted-at c 9 (omega arith) (omega arith) (omega arith) (omega arith)
  | no h ↦ counted-at c 10 (omega arith) (omega arith) (omega arith) (omega arith)
]

pub counted-cast : (c : ℕ) → c ≡ 11 → Counted c 1 1 0
unfolding names_of terms_of types_of pick
counted-cast c e = counted-at c 11 e (omega arith) (omega arith) (omega arith)

pub counted-check : (c : ℕ) → c ≡ 12 → Counted c 0 2 0
unfolding names_of terms_of types_of pick
counted-check c e = counted-at c 12 e (omega arith) (omega arith) (omega arith)

-- any other word
pub counted_none : (c : ℕ) → (1 ≤ c → c ≤ 3 → ⊥) → (6 ≤ c → c ≤ 12 → ⊥) → Counted c 0 0 0
unfolding names_of terms_of types_of
counted_none c small large =
    let d1 : c ≡ 1 → ⊥ = λ e. small (omega arith) (omega arith) in
    let d2 : c ≡ 2 → ⊥ = λ e. small (omega arith) (omega arith) in
    let d3 : c ≡ 3 → ⊥ = λ e. small (omega arith) (omega arith) in
    let d6 : c ≡ 6 → ⊥ = λ e. large (omega arith) (omega arith) in
    let d7 : c ≡ 7 → ⊥ = λ e. large (omega arith) (omega arith) in
    let d8 : c ≡ 8 → ⊥ = λ e. large (omega arith) (omega arith) in
    let d9 : c ≡ 9 → ⊥ = λ e. large (omega arith) (omega arith) in
    let d10 : c ≡ 10 → ⊥ = λ e. large (omega arith) (omega arith) in
    let d11 : c ≡ 11 → ⊥ = λ e. large (omega arith) (omega arith) in
    let d12 : c ≡ 12 → ⊥ = λ e. large (omega arith) (omega arith) in
    record {
      names = sym (pick-false (eqb c 6) _ _ (ne_eqb c 6 d6) ∙ pick-false (eqb c 1) _ _ (ne_eqb c 1 d1) ∙ pick-false (eqb c 3) _ _ (ne_eqb c 3 d3)
          ∙ pick-false (eqb c 7) _ _ (ne_eqb c 7 d7) ∙ pick-false (eqb c 8) _ _ (ne_eqb c 8 d8) ∙ pick-false (eqb c 11) _ _ (ne_eqb c 11 d11));
      terms = sym (pick-false (eqb c 2) _ _ (ne_eqb c 2 d2) ∙ pick-false (eqb c 7) _ _ (ne_eqb c 7 d7) ∙ pick-false (eqb c 8) _ _ (ne_eqb c 8 d8)
          ∙ pick-false (eqb c 12) _ _ (ne_eqb c 12 d12) ∙ pick-false (eqb c 3) _ _ (ne_eqb c 3 d3) ∙ pick-false (eqb c 6) _ _ (ne_eqb c 6 d6)
          ∙ pick-false (eqb c 9) _ _ (ne_eqb c 9 d9) ∙ pick-false (eqb c 10) _ _ (ne_eqb c 10 d10) ∙ pick-false (eqb c 11) _ _ (ne_eqb c 11 d11));
      types = sym (pick-false (eqb c 6) _ _ (ne_eqb c 6 d6) ∙ pick-false (eqb c 1) _ _ (ne_eqb c 1 d1) ∙ pick-false (eqb c 3) _ _ (ne_eqb c 3 d3)
          ∙ pick-false (eqb c 7) _ _ (ne_eqb c 7 d7) ∙ pick-false (eqb c 8) _ _ (ne_eqb c 8 d8));
      few-names = omega arith;
      few-terms = omega arith;
      few-types = omega arith;
    }

stop-formed : (r : Read (List Process)) → ahead Process.stop r ≡ after (λ (l : List Process). Process.stop ∷ l) r
unfolding ahead after
stop-formed r = refl

with-then : {A B : Type 0} (u : List ℕ) (k : List Effect → List ℕ → Read A) (g : A × List ℕ → Read B)
    → then (with_effects u k) g ≡ with_effects u (λ es v. then (k es v) g)
unfolding with_effects then
with-then [] k g = refl
with-then (n ∷ u) k g = simp then-assoc

pub processes-own : (f p q c : ℕ) (u : List ℕ) → q ≡ p + process_parts c
    → processes (suc f) (suc p) (c ∷ u) ≡ then (own_of (c ∷ u)) (λ z. after (formed z.0) (processes f q z.1))
unfolding processes own_of own_behind names_of terms_of types_of process_parts pick then several name ahead cast_effects with_term with_type with_effects formed around
    around_by fore next
processes-own f p q zero u e = refl
processes-own f p q (suc zero) [] e = refl
processes-own f p q (suc zero) (x ∷ u) e =
    let one : q ≡ suc p = omega arith in
    rw one (simp then-assoc)
processes-own f p q (suc (suc zero)) u e =
    let one : q ≡ suc p = omega arith in
    rw one (simp then-assoc)
processes-own f p q (suc (suc (suc zero))) [] e = refl
processes-own f p q (suc (suc (suc zero))) (x ∷ u) e =
    let one : q ≡ suc p = omega arith in
    rw one (simp then-assoc)
processes-own f p q (suc (suc (suc (suc zero)))) u e =
    let two : q ≡ suc (suc p) = omega arith in
    rw two
processes-own f p q (suc (suc (suc (suc (suc zero))))) u e =
    let none_more : q ≡ p = omega arith in
    rw none_more (stop-formed (processes f p u))
processes-own f p q (suc (suc (suc (suc (suc (suc zero)))))) [] e = refl
processes-own f p q (suc (suc (suc (suc (suc (suc zero)))))) (x ∷ []) e = refl
processes-own f p q (suc (suc (suc (suc (suc (suc zero)))))) (x ∷ y ∷ u) e =
    let one : q ≡ suc p = omega arith in
    rw one (simp then-assoc)
processes-own f p q (suc (suc (suc (suc (suc (suc (suc zero))))))) [] e = refl
processes-own f p q (suc (suc (suc (suc (suc (suc (suc zero))))))) (x ∷ u) e =
    let one : q ≡ suc p = omega arith in
    rw one (simp then-assoc)
processes-own f p q (suc (suc (suc (suc (suc (suc (suc (suc zero)))))))) [] e = refl
processes-own f p q (suc (suc (suc (suc (suc (suc (suc (suc zero)))))))) (x ∷ u) e =
    let one : q ≡ suc p = omega arith in
    rw one (simp then-assoc)
processes-own f p q (suc (suc (suc (suc (suc (suc (suc (suc (suc zero))))))))) u e =
    let one : q ≡ suc p = omega arith in
    rw one (simp then-assoc)
processes-own f p q (suc (suc (suc (suc (suc (suc (suc (suc (suc (suc zero)))))))))) u e =
    let one : q ≡ suc p = omega arith in
    rw one (simp then-assoc)
processes-own f p q (suc (suc (suc (suc (suc (suc (suc (suc (suc (suc (suc zero))))))))))) [] e = refl
processes-own f p q (suc (suc (suc (suc (suc (suc (suc (suc (suc (suc (suc zero))))))))))) (x ∷ u) e =
    let one : q ≡ suc p = omega arith in
    rw one (simp (then-assoc, with-then))
processes-own f p q (suc (suc (suc (suc (suc (suc (suc (suc (suc (suc (suc (suc zero)))))))))))) u e =
    let one : q ≡ suc p = omega arith in
    rw one (simp then-assoc)
processes-own f p q (suc (suc (suc (suc (suc (suc (suc (suc (suc (suc (suc (suc (suc c))))))))))))) u e = refl

-- ---- what is behind a process's own words is no longer than they
several-shorter : {A : Type 0} (r : List ℕ → Read A) → ((u : List ℕ) → Shorter (length u) (r u)) → (n : ℕ) (u : List ℕ)
    → Shorter (length u) (several r n u)
unfolding several
several-shorter r h zero u = shorter-some (length u) [] u (omega arith)
several-shorter r h (suc n) u =
    shorter-then (length u) (length u) (r u) _ (h u)
    (λ a v l. shorter-ahead (length u) a (several r n v) (shorter-more (length v) (length u) (several r n v) l (several-shorter r h n v)))

name-shorter : (u : List ℕ) → Shorter (length u) (name u)
unfolding name
name-shorter [] = shorter-none _
name-shorter (x ∷ u) = shorter-some _ x u (omega arith)

list-shorter : (u : List ℕ) → Shorter (length u) (with_effects u (λ es v. some (es, v)))
unfolding with_effects
list-shorter [] = shorter-none _
list-shorter (n ∷ u) =
    shorter-more (length u) _ _ (omega arith)
    (shorter-then (length u) (length u) (effects n u) _ (effects-shorter n u) (λ es v l. shorter-some (length u) (bag es) v l))

cast-shorter : (c : ℕ) (u : List ℕ) → Shorter (length u) (cast_effects c u)
unfolding cast_effects
cast-shorter c u =
    pick_ind (Shorter (length u)) (eqb c 11) (with_effects u (λ es v. some (es, v))) (some ([], u)) (λ _. list-shorter u)
    (λ _. shorter-some (length u) [] u (omega arith))

behind-shorter : (c : ℕ) (u : List ℕ) → Shorter (length u) (own_behind c u)
unfolding own_behind
behind-shorter c u =
    shorter-then (length u) (length u) (several name (names_of c) u) _ (several-shorter name name-shorter (names_of c) u) (λ a v l.
    shorter-then (length v) (length u) (several term (terms_of c) v) _ (several-shorter term term-shorter (terms_of c) v) (λ b x m.
    shorter-then (length x) (length u) (several type_at (types_of c) x) _ (several-shorter type_at type-shorter (types_of c) x) (λ d y n.
    shorter-then (length y) (length u) (cast_effects c y) _ (cast-shorter c y) (λ e z k. shorter-some (length u) _ z (omega arith)))))

-- a first word that begins a process: 1 to 12
pub own_behind_lem : (c : ℕ) (u : List ℕ) → 0 < c → c ≤ 12 → own_of (c ∷ u) ≡ own_behind c u
unfolding own_of
own_behind_lem zero u h k = absurd (omega arith)
own_behind_lem (suc zero) u h k = refl
own_behind_lem (suc (suc zero)) u h k = refl
own_behind_lem (suc (suc (suc zero))) u h k = refl
own_behind_lem (suc (suc (suc (suc zero)))) u h k = refl
own_behind_lem (suc (suc (suc (suc (suc zero))))) u h k = refl
own_behind_lem (suc (suc (suc (suc (suc (suc zero)))))) u h k = refl
own_behind_lem (suc (suc (suc (suc (suc (suc (suc zero))))))) u h k = refl
own_behind_lem (suc (suc (suc (suc (suc (suc (suc (suc zero)))))))) u h k = refl
own_behind_lem (suc (suc (suc (suc (suc (suc (suc (suc (suc zero))))))))) u h k = refl
own_behind_lem (suc (suc (suc (suc (suc (suc (suc (suc (suc (suc zero)))))))))) u h k = refl
own_behind_lem (suc (suc (suc (suc (suc (suc (suc (suc (suc (suc (suc zero))))))))))) u h k = refl
own_behind_lem (suc (suc (suc (suc (suc (suc (suc (suc (suc (suc (suc (suc zero)))))))))))) u h k = refl
own_behind_lem (suc (suc (suc (suc (suc (suc (suc (suc (suc (suc (suc (suc (suc c))))))))))))) u h k = absurd (omega arith)

pub own-nothing : (c : ℕ) (u : List ℕ) → (0 < c → c ≤ 12 → ⊥) → own_of (c ∷ u) ≡ none
unfolding own_of
own-nothing zero u h = refl
own-nothing (suc zero) u h = absurd (h (omega arith) (omega arith))
own-nothing (suc (suc zero)) u h = absurd (h (omega arith) (omega arith))
own-nothing (suc (suc (suc zero))) u h = absurd (h (omega arith) (omega arith))
own-nothing (suc (suc (suc (suc zero)))) u h = absurd (h (omega arith) (omega arith))
own-nothing (suc (suc (suc (suc (suc zero))))) u h = absurd (h (omega arith) (omega arith))
own-nothing (suc (suc (suc (suc (suc (suc zero)))))) u h = absurd (h (omega arith) (omega arith))
own-nothing (suc (suc (suc (suc (suc (suc (suc zero))))))) u h = absurd (h (omega arith) (omega arith))
own-nothing (suc (suc (suc (suc (suc (suc (suc (suc zero)))))))) u h = absurd (h (omega arith) (omega arith))
own-nothing (suc (suc (suc (suc (suc (suc (suc (suc (suc zero))))))))) u h = absurd (h (omega arith) (omega arith))
own-nothing (suc (suc (suc (suc (suc (suc (suc (suc (suc (suc zero)))))))))) u h = absurd (h (omega arith) (omega arith))
own-nothing (suc (suc (suc (suc (suc (suc (suc (suc (suc (suc (suc zero))))))))))) u h = absurd (h (omega arith) (omega arith))
own-nothing (suc (suc (suc (suc (suc (suc (suc (suc (suc (suc (suc (suc zero)))))))))))) u h = absurd (h (omega arith) (omega arith))
own-nothing (suc (suc (suc (suc (suc (suc (suc (suc (suc (suc (suc (suc (suc c))))))))))))) u h = refl

own-shorter : (c : ℕ) (u : List ℕ) → Shorter (length u) (own_of (c ∷ u))
own-shorter c u = elim (dec_lt 0 c) [
  | yes l ↦ elim (dec_lt c 13) [
    | yes m ↦ rw (own_behind_lem c u l (omega arith)) (behind-shorter c u)
    | no m ↦ rw (own-nothing c u (λ h k. omega arith)) (shorter-none (length u))
  ]
  | no l ↦ rw (own-nothing c u (λ h k. omega arith)) (shorter-none (length u))
]

-- ---- what is read has the first word as its code
abbrev Coded : ℕ → Read Own → Type 0
Coded c r = (o : Own) (v : List ℕ) → r ≡ some (o, v) → o.code ≡ c

coded-then : {A : Type 0} (c : ℕ) (r : Read A) (f : A × List ℕ → Read Own) → ((p : A × List ℕ) → Coded c (f p)) → Coded c (then r f)
unfolding then
coded-then c none f h o v e = cc
coded-then c (some p) f h o v e = h p o v e

coded-some : (c : ℕ) (o : Own) (v : List ℕ) → o.code ≡ c → Coded c (some (o, v))
coded-some c o v h p u e =
    let q : ◌≡◌ {A = Own × List ℕ} (o, v) (p, u) = cc in
    sym (ap (λ (z : Own × List ℕ). z.0.code) q) ∙ h

behind-coded : (c : ℕ) (u : List ℕ) → Coded c (own_behind c u)
unfolding own_behind
behind-coded c u =
    coded-then c (several name (names_of c) u) _ (λ a. coded-then c (several term (terms_of c) a.1) _
    (λ b. coded-then c (several type_at (types_of c) b.1) _ (λ d. coded-then c (cast_effects c d.1) _ (λ e. coded-some c _ e.1 refl))))

pub own_code : (c : ℕ) (u : List ℕ) (o : Own) (v : List ℕ) → own_of (c ∷ u) ≡ some (o, v) → o.code ≡ c
own_code c u o v e = elim (dec_lt 0 c) [
  | yes l ↦ elim (dec_lt c 13) [
    | yes m ↦ behind-coded c u o v (sym (own_behind_lem c u l (omega arith)) ∙ e)
    | no m ↦ absurd (not_there (λ h k. omega arith))
  ]
  | no l ↦ absurd (not_there (λ h k. omega arith))
]
  where
    not_there : (0 < c → c ≤ 12 → ⊥) → ⊥
    not_there h =
        let d : ◌≡◌ {A = Read Own} none (some (o, v)) = sym (own-nothing c u h) ∙ e in
        cc

-- ---- several processes, of which the first is formed
more : {A : Type 0} → (List ℕ → Read A) → ℕ → A × List ℕ → Read (List A)
more r t p = ahead p.0 (several r t p.1)

module _ (o : Own) (r : List ℕ → Read Process) (t : ℕ) (v : List ℕ) where
  abbrev Formed : (List Process → List Process) → ℕ → Type 0
  Formed g n = after g (several r (t + n) v) ≡ then (only (after g (several r n v))) (more r t)

  formed-stop : Formed (λ l. Process.stop ∷ l) 0
  unfolding after only then several more ahead
  formed-stop = let none_more : t + 0 ≡ t = omega arith in rw none_more

  formed-one : Formed (altered (around o)) 1
  unfolding more
  formed-one =
      let one : t + 1 ≡ suc t = omega arith in
      rw one (some-altered r (around o) t v ∙ ap (λ (z : Read Process). then z (more r t)) (sym (one-altered r (around o) v)))

  formed-two : Formed (joined Process.parallel) 2
  unfolding more
  formed-two =
      let two : t + 2 ≡ suc (suc t) = omega arith in
      rw two (some-joined r Process.parallel t v ∙ ap (λ (z : Read Process). then z (more r t)) (sym (two-joined r Process.parallel v)))

  formed-several : (n : ℕ) → n ≡ process_parts o.code → Formed (formed o) n
  unfolding formed process_parts pick
  formed-several n e = rw e (go (eqb o.code 4) (eqb o.code 5))
    where
      go : (a b : Bool) → Formed (λ l. pick a (joined Process.parallel l) (pick b (Process.stop ∷ l) (altered (around o) l))) (pick a 2 (pick b 0 1))
      go true b = formed-two
      go false true = formed-stop
      go false false = formed-one

abbrev Enough : ℕ → Type 0
Enough n = (f t : ℕ) (u : List ℕ) → f ≤ n → length u ≤ f → processes f t u ≡ several process_at t u

start : Enough 0
unfolding processes process_at several only then
start zero zero u k l = refl
start (suc f) t u k l = absurd (omega arith)
start zero (suc t) [] k l = refl
start zero (suc t) (c ∷ u) k l = absurd (omega arith)

step : (n : ℕ) → Enough n → Enough (suc n)
unfolding processes process_at several only then more
step n ih zero t u k l = start zero t u (omega arith) l
step n ih (suc f) zero u k l = refl
step n ih (suc f) (suc t) [] k l = refl
step n ih (suc f) (suc t) (c ∷ u) k l =
    processes-own f t (t + process_parts c) c u refl ∙ go (own_of (c ∷ u)) refl
    ∙ ap (λ (z : Read (List Process)). then (only z) (more process_at t)) (sym (processes-own (length u) 0 (process_parts c) c u (omega arith)))
  where
    go : (o : Read Own) → own_of (c ∷ u) ≡ o → then o (λ z. after (formed z.0) (processes f (t + process_parts c) z.1))
        ≡ then (only (then o (λ z. after (formed z.0) (processes (length u) (process_parts c) z.1)))) (more process_at t)
    go none e = refl
    go (some z) e =
        let s = own-shorter c u z.0 z.1 e in
        let d = own_code c u z.0 z.1 e in
        ap (after (formed z.0)) (ih f (t + process_parts c) z.1 (omega arith) (omega arith))
        ∙ formed-several z.0 process_at t z.1 (process_parts c) (ap process_parts (sym d))
        ∙ ap (λ (y : Read (List Process)). then (only (after (formed z.0) y)) (more process_at t))
        (sym (ih (length u) (process_parts c) z.1 (omega arith) (omega arith)))

enough : (n : ℕ) → Enough n
enough zero = start
enough (suc n) = step n (enough n)

-- as much fuel as there are words is enough
pub processes-several : (f t : ℕ) (u : List ℕ) → length u ≤ f → processes f t u ≡ several process_at t u
processes-several f t u l = enough f f t u (omega arith) l

-- several processes are the first one's own words, and then those in it and the others
pub several-own : (t q c : ℕ) (u : List ℕ) → q ≡ t + process_parts c
    → several process_at (suc t) (c ∷ u) ≡ then (own_of (c ∷ u)) (λ z. after (formed z.0) (several process_at q z.1))
unfolding then
several-own t q c u e =
    sym (processes-several (suc (length u)) (suc t) (c ∷ u) (omega arith)) ∙ processes-own (length u) t q c u e ∙ go (own_of (c ∷ u)) refl
  where
    go : (o : Read Own) → own_of (c ∷ u) ≡ o → then o (λ z. after (formed z.0) (processes (length u) q z.1))
        ≡ then o (λ z. after (formed z.0) (several process_at q z.1))
    go none d = refl
    go (some z) d =
        ap (after (formed z.0)) (processes-several (length u) q z.1 (own-shorter c u z.0 z.1 d))
