-- A process's own words: all but the processes in it.
use Rattle.std.specs.Prelude.{ℕ, zero, suc, ◌≤◌, List, [], ◌∷◌, ◌≡◌, eqb}
use Rattle.std.proofs.Math.Option.{none, some}
use Rattle.words.specs.Choice.{pick, then}
use Rattle.typing.specs.Term.{Term, Effect}
use Rattle.typing.specs.Types.{Ty}
use Rattle.typing.specs.Process.{Process}
use Rattle.typing.specs.Reading.{Read, joined, altered, term, with_effects, type_at, several}
pub mod Laws
pub mod Same

-- how many names, terms and types a process with this first word has of its own
unfoldable pub names_of : ℕ → ℕ
names_of c = pick (eqb c 6) 2 (pick (eqb c 1) 1 (pick (eqb c 3) 1 (pick (eqb c 7) 1 (pick (eqb c 8) 1 (pick (eqb c 11) 1 0)))))

unfoldable pub terms_of : ℕ → ℕ
terms_of c =
    pick (eqb c 2) 2 (pick (eqb c 7) 2 (pick (eqb c 8) 2 (pick (eqb c 12) 2
    (pick (eqb c 3) 1 (pick (eqb c 6) 1 (pick (eqb c 9) 1 (pick (eqb c 10) 1 (pick (eqb c 11) 1 0))))))))

unfoldable pub types_of : ℕ → ℕ
types_of c = pick (eqb c 6) 2 (pick (eqb c 1) 1 (pick (eqb c 3) 1 (pick (eqb c 7) 1 (pick (eqb c 8) 1 0))))

-- these are the numbers
pub record Counted (c n m t : ℕ) : Type 0 where
  pub names : n ≡ names_of c
  pub terms : m ≡ terms_of c
  pub types : t ≡ types_of c
  pub few-names : n ≤ 2
  pub few-terms : m ≤ 2
  pub few-types : t ≤ 2

-- a process's first word, its names, terms, types and, of a cast, effects
pub record Own : Type 0 where
  pub code : ℕ
  pub names : List ℕ
  pub terms : List Term
  pub types : List Ty
  pub effects : List Effect

abbrev pub own : ℕ → List ℕ → List Term → List Ty → List Effect → Own
own c xs Ms Ts es = record { code = c; names = xs; terms = Ms; types = Ts; effects = es }

unfoldable pub name : List ℕ → Read ℕ
name [] = none
name (x ∷ u) = some (x, u)

unfoldable pub cast_effects : ℕ → List ℕ → Read (List Effect)
cast_effects c u = pick (eqb c 11) (with_effects u (λ es v. some (es, v))) (some ([], u))

-- what stands behind the first word
unfoldable pub own_behind : ℕ → List ℕ → Read Own
own_behind c u =
    then (several name (names_of c) u) (λ a. then (several term (terms_of c) a.1)
    (λ b. then (several type_at (types_of c) b.1) (λ d. then (cast_effects c d.1) (λ e. some (own c a.0 b.0 d.0 e.0, e.1)))))

unfoldable pub own_of : List ℕ → Read Own
own_of [] = none
own_of (zero ∷ u) = none
own_of (suc zero ∷ u) = own_behind 1 u
own_of (suc (suc zero) ∷ u) = own_behind 2 u
own_of (suc (suc (suc zero)) ∷ u) = own_behind 3 u
own_of (suc (suc (suc (suc zero))) ∷ u) = own_behind 4 u
own_of (suc (suc (suc (suc (suc zero)))) ∷ u) = own_behind 5 u
own_of (suc (suc (suc (suc (suc (suc zero))))) ∷ u) = own_behind 6 u
own_of (suc (suc (suc (suc (suc (suc (suc zero)))))) ∷ u) = own_behind 7 u
own_of (suc (suc (suc (suc (suc (suc (suc (suc zero))))))) ∷ u) = own_behind 8 u
own_of (suc (suc (suc (suc (suc (suc (suc (suc (suc zero)))))))) ∷ u) = own_behind 9 u
own_of (suc (suc (suc (suc (suc (suc (suc (suc (suc (suc zero))))))))) ∷ u) = own_behind 10 u
own_of (suc (suc (suc (suc (suc (suc (suc (suc (suc (suc (suc zero)))))))))) ∷ u) = own_behind 11 u
own_of (suc (suc (suc (suc (suc (suc (suc (suc (suc (suc (suc (suc zero))))))))))) ∷ u) = own_behind 12 u
own_of (suc (suc (suc (suc (suc (suc (suc (suc (suc (suc (suc (suc (suc c)))))))))))) ∷ u) = none

-- the first and the second of a list
unfoldable pub fore : {A : Type 0} → A → List A → A
fore d [] = d
fore d (a ∷ l) = a

unfoldable pub next : {A : Type 0} → A → List A → A
next d [] = d
next d (a ∷ []) = d
next d (a ∷ b ∷ l) = b

-- a process that has one in it, which is P
module _ (o : Own) (P : Process) where
  abbrev x : ℕ
  x = fore 0 o.names

  abbrev y : ℕ
  y = next 0 o.names

  abbrev M : Term
  M = fore (Term.bound 0) o.terms

  abbrev N : Term
  N = next (Term.bound 0) o.terms

  abbrev T : Ty
  T = fore Ty.Un o.types

  abbrev U : Ty
  U = next Ty.Un o.types

  unfoldable pub around_by : ℕ → Process
  around_by zero = P
  around_by (suc zero) = Process.new x T P
  around_by (suc (suc zero)) = Process.out M N P
  around_by (suc (suc (suc zero))) = Process.inp M x T P
  around_by (suc (suc (suc (suc zero)))) = P
  around_by (suc (suc (suc (suc (suc zero))))) = P
  around_by (suc (suc (suc (suc (suc (suc zero)))))) = Process.split M x T y U P
  around_by (suc (suc (suc (suc (suc (suc (suc zero))))))) = Process.match M N x T P
  around_by (suc (suc (suc (suc (suc (suc (suc (suc zero)))))))) = Process.decrypt M N x T P
  around_by (suc (suc (suc (suc (suc (suc (suc (suc (suc zero))))))))) = Process.begin M P
  around_by (suc (suc (suc (suc (suc (suc (suc (suc (suc (suc zero)))))))))) = Process.end M P
  around_by (suc (suc (suc (suc (suc (suc (suc (suc (suc (suc (suc zero))))))))))) = Process.cast M x o.effects P
  around_by (suc (suc (suc (suc (suc (suc (suc (suc (suc (suc (suc (suc zero)))))))))))) = Process.check M N P
  around_by (suc (suc (suc (suc (suc (suc (suc (suc (suc (suc (suc (suc (suc c))))))))))))) = P

unfoldable pub around : Own → Process → Process
around o P = around_by o P o.code

-- processes with one in front, or with the first, or the first two, put together, as the own words say
unfoldable pub formed : Own → List Process → List Process
formed o l = pick (eqb o.code 4) (joined Process.parallel l) (pick (eqb o.code 5) (Process.stop ∷ l) (altered (around o) l))
