-- Which processes are the same, by their own words and the processes in them. Assumes nothing.
use Prim.Native.Nat.{ℕ, zero, suc, ◌≤◌, ◌<◌}
use mathlib.Core.List.{List, [], ◌∷◌}
use Rattle.std.specs.Prelude.{◌≡◌, length}
use Rattle.std.proofs.Math.Path.{refl}
use Rattle.std.proofs.Common.{ap, subst, arith}
use Rattle.words.specs.Choice.{pick}
use Rattle.typing.specs.Term.{Term, Effect}
use Rattle.typing.specs.Types.{Ty}
use Rattle.typing.specs.Process.{Process}
use Rattle.typing.specs.Reading.{joined, altered}
use Rattle.spans.specs.Behind.{process_parts}
use Rattle.parts.specs.Own.{Own, own, names_of, terms_of, types_of, fore, next, around_by, around, formed}

-- ---- lists of one length
empty : {A : Type 0} (l : List A) → length l ≡ 0 → l ≡ []
empty [] h = refl
empty (a ∷ l) h = absurd (omega arith)

one : {A : Type 0} (d : A) (l : List A) → length l ≡ 1 → l ≡ fore d l ∷ []
unfolding fore
one d [] h = absurd (omega arith)
one d (a ∷ []) h = refl
one d (a ∷ b ∷ l) h = absurd (omega arith)

two : {A : Type 0} (d : A) (l : List A) → length l ≡ 2 → l ≡ fore d l ∷ next d l ∷ []
unfolding fore next
two d [] h = absurd (omega arith)
two d (a ∷ []) h = absurd (omega arith)
two d (a ∷ b ∷ []) h = refl
two d (a ∷ b ∷ c ∷ l) h = absurd (omega arith)

-- ---- the first word that a process is spelled with
code_of : Process → ℕ
code_of (Process.new x T P) = 1
code_of (Process.out M N P) = 2
code_of (Process.inp M x T P) = 3
code_of (Process.parallel P Q) = 4
code_of Process.stop = 5
code_of (Process.split M x T y U P) = 6
code_of (Process.match M N y U P) = 7
code_of (Process.decrypt M N x T P) = 8
code_of (Process.begin M P) = 9
code_of (Process.end M P) = 10
code_of (Process.cast M x es P) = 11
code_of (Process.check M N P) = 12

head_code : List Process → ℕ
head_code [] = 0
head_code (P ∷ l) = code_of P

-- own words that are all there, and none more
pub record Exact (o : Own) : Type 0 where
  pub low : 0 < o.code
  pub high : o.code ≤ 12
  pub names : length o.names ≡ names_of o.code
  pub terms : length o.terms ≡ terms_of o.code
  pub types : length o.types ≡ types_of o.code
  pub effects : (o.code ≡ 11 → ⊥) → o.effects ≡ []

module _ (xs : List ℕ) (Ms : List Term) (Ts : List Ty) (es : List Effect) where
  code_by : (c : ℕ) (l : List Process) → 0 < c → c ≤ 12 → process_parts c ≤ length l → head_code (formed (own c xs Ms Ts es) l) ≡ c
  unfolding formed process_parts pick joined altered around around_by head_code code_of
  code_by zero l h k n = absurd (omega arith)
  code_by (suc zero) [] h k n = absurd (omega arith)
  code_by (suc zero) (P ∷ l) h k n = refl
  code_by (suc (suc zero)) [] h k n = absurd (omega arith)
  code_by (suc (suc zero)) (P ∷ l) h k n = refl
  code_by (suc (suc (suc zero))) [] h k n = absurd (omega arith)
  code_by (suc (suc (suc zero))) (P ∷ l) h k n = refl
  code_by (suc (suc (suc (suc zero)))) [] h k n = absurd (omega arith)
  code_by (suc (suc (suc (suc zero)))) (P ∷ []) h k n = absurd (omega arith)
  code_by (suc (suc (suc (suc zero)))) (P ∷ Q ∷ l) h k n = refl
  code_by (suc (suc (suc (suc (suc zero))))) l h k n = refl
  code_by (suc (suc (suc (suc (suc (suc zero)))))) [] h k n = absurd (omega arith)
  code_by (suc (suc (suc (suc (suc (suc zero)))))) (P ∷ l) h k n = refl
  code_by (suc (suc (suc (suc (suc (suc (suc zero))))))) [] h k n = absurd (omega arith)
  code_by (suc (suc (suc (suc (suc (suc (suc zero))))))) (P ∷ l) h k n = refl
  code_by (suc (suc (suc (suc (suc (suc (suc (suc zero)))))))) [] h k n = absurd (omega arith)
  code_by (suc (suc (suc (suc (suc (suc (suc (suc zero)))))))) (P ∷ l) h k n = refl
  code_by (suc (suc (suc (suc (suc (suc (suc (suc (suc zero))))))))) [] h k n = absurd (omega arith)
  code_by (suc (suc (suc (suc (suc (suc (suc (suc (suc zero))))))))) (P ∷ l) h k n = refl
  code_by (suc (suc (suc (suc (suc (suc (suc (suc (suc (suc zero)))))))))) [] h k n = absurd (omega arith)
  code_by (suc (suc (suc (suc (suc (suc (suc (suc (suc (suc zero)))))))))) (P ∷ l) h k n = refl
  code_by (suc (suc (suc (suc (suc (suc (suc (suc (suc (suc (suc zero))))))))))) [] h k n = absurd (omega arith)
  code_by (suc (suc (suc (suc (suc (suc (suc (suc (suc (suc (suc zero))))))))))) (P ∷ l) h k n = refl
  code_by (suc (suc (suc (suc (suc (suc (suc (suc (suc (suc (suc (suc zero)))))))))))) [] h k n = absurd (omega arith)
  code_by (suc (suc (suc (suc (suc (suc (suc (suc (suc (suc (suc (suc zero)))))))))))) (P ∷ l) h k n = refl
  code_by (suc (suc (suc (suc (suc (suc (suc (suc (suc (suc (suc (suc (suc c))))))))))))) l h k n = absurd (omega arith)

formed-code : (o : Own) (l : List Process) → Exact o → process_parts o.code ≤ length l → head_code (formed o l) ≡ o.code
formed-code o l h n = code_by o.names o.terms o.types o.effects o.code l h.low h.high n

pub codes_same : (o p : Own) (l m : List Process) → Exact o → Exact p → process_parts o.code ≤ length l → process_parts p.code ≤ length m
    → formed o l ≡ formed p m → o.code ≡ p.code
codes_same o p l m g h j k e = cc (formed-code o l g j, formed-code p m h k)

-- ---- the same processes have the same own words, and the same in them
abbrev pub Parted : Own → Own → List Process → List Process → Type 0
Parted o p l m =
    (o.names ≡ p.names) × (o.terms ≡ p.terms) × (o.types ≡ p.types) × (o.effects ≡ p.effects) × (l ≡ m)

module _ (xs ys : List ℕ) (Ms Ns : List Term) (Ts Us : List Ty) (es fs : List Effect) where
  parted-by : (c : ℕ) (l m : List Process) → Exact (own c xs Ms Ts es) → Exact (own c ys Ns Us fs) → process_parts c ≤ length l
      → process_parts c ≤ length m
      → formed (own c xs Ms Ts es) l ≡ formed (own c ys Ns Us fs) m → Parted (own c xs Ms Ts es) (own c ys Ns Us fs) l m
  unfolding formed process_parts pick joined altered around around_by names_of terms_of types_of
  parted-by zero l m g h j k e = absurd (omega (arith, g.low))
  parted-by (suc zero) [] m g h j k e = absurd (omega arith)
  parted-by (suc zero) (P ∷ l) [] g h j k e = absurd (omega arith)
  parted-by (suc zero) (P ∷ l) (Q ∷ m) g h j k e =
      let a = one 0 xs g.names in
      let b = one 0 ys h.names in
      let p = empty Ms g.terms in
      let q = empty Ns h.terms in
      let r = one Ty.Un Ts g.types in
      let s = one Ty.Un Us h.types in
      let u = g.effects (λ z. omega arith) in
      let v = h.effects (λ z. omega arith) in
      (cc, cc, cc, cc, cc)
  parted-by (suc (suc zero)) [] m g h j k e = absurd (omega arith)
  parted-by (suc (suc zero)) (P ∷ l) [] g h j k e = absurd (omega arith)
  parted-by (suc (suc zero)) (P ∷ l) (Q ∷ m) g h j k e =
      let a = empty xs g.names in
      let b = empty ys h.names in
      let p = two (Term.bound 0) Ms g.terms in
      let q = two (Term.bound 0) Ns h.terms in
      let r = empty Ts g.types in
      let s = empty Us h.types in
      let u = g.effects (λ z. omega arith) in
      let v = h.effects (λ z. omega arith) in
      (cc, cc, cc, cc, cc)
  parted-by (suc (suc (suc zero))) [] m g h j k e = absurd (omega arith)
  parted-by (suc (suc (suc zero))) (P ∷ l) [] g h j k e = absurd (omega arith)
  parted-by (suc (suc (suc zero))) (P ∷ l) (Q ∷ m) g h j k e =
      let a = one 0 xs g.names in
      let b = one 0 ys h.names in
      let p = one (Term.bound 0) Ms g.terms in
      let q = one (Term.bound 0) Ns h.terms in
      let r = one Ty.Un Ts g.types in
      let s = one Ty.Un Us h.types in
      let u = g.effects (λ z. omega arith) in
      let v = h.effects (λ z. omega arith) in
      (cc, cc, cc, cc, cc)
  parted-by (suc (suc (suc (suc zero)))) [] m g h j k e = absurd (omega arith)
  parted-by (suc (suc (suc (suc zero)))) (P ∷ []) m g h j k e = absurd (omega arith)
  parted-by (suc (suc (suc (suc zero)))) (P ∷ Q ∷ l) [] g h j k e = absurd (omega arith)
  parted-by (suc (suc (suc (suc zero)))) (P ∷ Q ∷ l) (R ∷ []) g h j k e = absurd (omega arith)
  parted-by (suc (suc (suc (suc zero)))) (P ∷ Q ∷ l) (R ∷ S ∷ m) g h j k e =
      let a = empty xs g.names in
      let b = empty ys h.names in
      let p = empty Ms g.terms in
      let q = empty Ns h.terms in
      let r = empty Ts g.types in
      let s = empty Us h.types in
      let u = g.effects (λ z. omega arith) in
      let v = h.effects (λ z. omega arith) in
      (cc, cc, cc, cc, cc)
  parted-by (suc (suc (suc (suc (suc zero))))) l m g h j k e =
      let a = empty xs g.names in
      let b = empty ys h.names in
      let p = empty Ms g.terms in
      let q = empty Ns h.terms in
      let r = empty Ts g.types in
      let s = empty Us h.types in
      let u = g.effects (λ z. omega arith) in
      let v = h.effects (λ z. omega arith) in
      (cc, cc, cc, cc, cc)
  parted-by (suc (suc (suc (suc (suc (suc zero)))))) [] m g h j k e = absurd (omega arith)
  parted-by (suc (suc (suc (suc (suc (suc zero)))))) (P ∷ l) [] g h j k e = absurd (omega arith)
  parted-by (suc (suc (suc (suc (suc (suc zero)))))) (P ∷ l) (Q ∷ m) g h j k e =
      let a = two 0 xs g.names in
      let b = two 0 ys h.names in
      let p = one (Term.bound 0) Ms g.terms in
      let q = one (Term.bound 0) Ns h.terms in
      let r = two Ty.Un Ts g.types in
      let s = two Ty.Un Us h.types in
      let u = g.effects (λ z. omega arith) in
      let v = h.effects (λ z. omega arith) in
      (cc, cc, cc, cc, cc)
  parted-by (suc (suc (suc (suc (suc (suc (suc zero))))))) [] m g h j k e = absurd (omega arith)
  parted-by (suc (suc (suc (suc (suc (suc (suc zero))))))) (P ∷ l) [] g h j k e = absurd (omega arith)
  parted-by (suc (suc (suc (suc (suc (suc (suc zero))))))) (P ∷ l) (Q ∷ m) g h j k e =
      let a = one 0 xs g.names in
      let b = one 0 ys h.names in
      let p = two (Term.bound 0) Ms g.terms in
      let q = two (Term.bound 0) Ns h.terms in
      let r = one Ty.Un Ts g.types in
      let s = one Ty.Un Us h.types in
      let u = g.effects (λ z. omega arith) in
      let v = h.effects (λ z. omega arith) in
      (cc, cc, cc, cc, cc)
  parted-by (suc (suc (suc (suc (suc (suc (suc (suc zero)))))))) [] m g h j k e = absurd (omega arith)
  parted-by (suc (suc (suc (suc (suc (suc (suc (suc zero)))))))) (P ∷ l) [] g h j k e = absurd (omega arith)
  parted-by (suc (suc (suc (suc (suc (suc (suc (suc zero)))))))) (P ∷ l) (Q ∷ m) g h j k e =
      let a = one 0 xs g.names in
      let b = one 0 ys h.names in
      let p = two (Term.bound 0) Ms g.terms in
      let q = two (Term.bound 0) Ns h.terms in
      let r = one Ty.Un Ts g.types in
      let s = one Ty.Un Us h.types in
      let u = g.effects (λ z. omega arith) in
      let v = h.effects (λ z. omega arith) in
      (cc, cc, cc, cc, cc)
  parted-by (suc (suc (suc (suc (suc (suc (suc (suc (suc zero))))))))) [] m g h j k e = absurd (omega arith)
  parted-by (suc (suc (suc (suc (suc (suc (suc (suc (suc zero))))))))) (P ∷ l) [] g h j k e = absurd (omega arith)
  parted-by (suc (suc (suc (suc (suc (suc (suc (suc (suc zero))))))))) (P ∷ l) (Q ∷ m) g h j k e =
      let a = empty xs g.names in
      let b = empty ys h.names in
      let p = one (Term.bound 0) Ms g.terms in
      let q = one (Term.bound 0) Ns h.terms in
      let r = empty Ts g.types in
      let s = empty Us h.types in
      let u = g.effects (λ z. omega arith) in
      let v = h.effects (λ z. omega arith) in
      (cc, cc, cc, cc, cc)
  parted-by (suc (suc (suc (suc (suc (suc (suc (suc (suc (suc zero)))))))))) [] m g h j k e = absurd (omega arith)
  parted-by (suc (suc (suc (suc (suc (suc (suc (suc (suc (suc zero)))))))))) (P ∷ l) [] g h j k e = absurd (omega arith)
  parted-by (suc (suc (suc (suc (suc (suc (suc (suc (suc (suc zero)))))))))) (P ∷ l) (Q ∷ m) g h j k e =
      let a = empty xs g.names in
      let b = empty ys h.names in
      let p = one (Term.bound 0) Ms g.terms in
      let q = one (Term.bound 0) Ns h.terms in
      let r = empty Ts g.types in
      let s = empty Us h.types in
      let u = g.effects (λ z. omega arith) in
      let v = h.effects (λ z. omega arith) in
      (cc, cc, cc, cc, cc)
  parted-by (suc (suc (suc (suc (suc (suc (suc (suc (suc (suc (suc zero))))))))))) [] m g h j k e = absurd (omega arith)
  parted-by (suc (suc (suc (suc (suc (suc (suc (suc (suc (suc (suc zero))))))))))) (P ∷ l) [] g h j k e = absurd (omega arith)
  parted-by (suc (suc (suc (suc (suc (suc (suc (suc (suc (suc (suc zero))))))))))) (P ∷ l) (Q ∷ m) g h j k e =
      let a = one 0 xs g.names in
      let b = one 0 ys h.names in
      let p = one (Term.bound 0) Ms g.terms in
      let q = one (Term.bound 0) Ns h.terms in
      let r = empty Ts g.types in
      let s = empty Us h.types in
      (cc, cc, cc, cc, cc)
  parted-by (suc (suc (suc (suc (suc (suc (suc (suc (suc (suc (suc (suc zero)))))))))))) [] m g h j k e = absurd (omega arith)
  parted-by (suc (suc (suc (suc (suc (suc (suc (suc (suc (suc (suc (suc zero)))))))))))) (P ∷ l) [] g h j k e = absurd (omega arith)
  parted-by (suc (suc (suc (suc (suc (suc (suc (suc (suc (suc (suc (suc zero)))))))))))) (P ∷ l) (Q ∷ m) g h j k e =
      let a = empty xs g.names in
      let b = empty ys h.names in
      let p = two (Term.bound 0) Ms g.terms in
      let q = two (Term.bound 0) Ns h.terms in
      let r = empty Ts g.types in
      let s = empty Us h.types in
      let u = g.effects (λ z. omega arith) in
      let v = h.effects (λ z. omega arith) in
      (cc, cc, cc, cc, cc)
  parted-by (suc (suc (suc (suc (suc (suc (suc (suc (suc (suc (suc (suc (suc c))))))))))))) l m g h j k e = absurd (omega (arith, g.high))

-- with one first word
pub parts_same : (o p : Own) (l m : List Process) → o.code ≡ p.code → Exact o → Exact p → process_parts o.code ≤ length l
    → process_parts p.code ≤ length m
    → formed o l ≡ formed p m → Parted o p l m
parts_same o p l m d g h j k e =
    subst (λ (c : ℕ). Exact (own c p.names p.terms p.types p.effects) → process_parts c ≤ length m
    → formed o l ≡ formed (own c p.names p.terms p.types p.effects) m → Parted o p l m) d
    (λ x y z. parted-by o.names p.names o.terms p.terms o.types p.types o.effects p.effects o.code l m g x j y z) h k e

pub same-formed : (o p : Own) (l m : List Process) → o.code ≡ p.code → Parted o p l m → formed o l ≡ formed p m
same-formed o p l m d (a, b, c, e, f) = joined-up o.code p.code o.names p.names o.terms p.terms o.types p.types o.effects
    p.effects d a b c e
  where
    joined-up : (c d : ℕ) (xs ys : List ℕ) (Ms Ns : List Term) (Ts Us : List Ty) (es fs : List Effect) → c ≡ d → xs ≡ ys → Ms ≡ Ns → Ts ≡ Us
        → es ≡ fs
        → formed (own c xs Ms Ts es) l ≡ formed (own d ys Ns Us fs) m
    joined-up c d xs ys Ms Ns Ts Us es fs g h i j k = rw (g, h, i, j, k) (ap (formed (own d ys Ns Us fs)) f)
