-- Laws of the kinds' numbers. Assumes nothing.
use Rattle.std.specs.Prelude.{ℕ, zero, suc, ◌≤◌, ◌<◌, Bool, true, false, ◌≡◌, refl}
use Rattle.std.proofs.Common.{sym, ◌∙◌, arith, leb-true, leb-false, ne_eqb}
use Rattle.std.proofs.Math.Decide.{ℕ_discrete}
use Rattle.words.specs.Choice.{pick}
use Rattle.terms.specs.Kind.{of_kind, is_half, other_half}
use Rattle.book.specs.declared.Kind.{Kind}
use Rattle.book.specs.Kinds.{OfKind}

-- the five numbers, one by one
pub line : {k : ℕ} {r : Kind} → r.size ≡ (of_kind k).size → r.fewest ≡ (of_kind k).fewest → r.most ≡ (of_kind k).most
    → r.tag ≡ (of_kind k).tag → r.code ≡ (of_kind k).code → OfKind k r
line z l m g c = record { size = z; fewest = l; most = m; tag = g; code = c }

-- of a kind that is named
pub kind-named : (k n : ℕ) {r : Kind} → OfKind n r → k ≡ n → OfKind k r
kind-named k n o e = rw e o

-- of any other than the first four
pub kind-last : (k : ℕ) {r : Kind} → OfKind 4 r → (k ≡ 0 → ⊥) → (k ≡ 1 → ⊥) → (k ≡ 2 → ⊥) → (k ≡ 3 → ⊥) → OfKind k r
kind-last zero o a b c d = absurd (a refl)
kind-last (suc zero) o a b c d = absurd (b refl)
kind-last (suc (suc zero)) o a b c d = absurd (c refl)
kind-last (suc (suc (suc zero))) o a b c d = absurd (d refl)
kind-last (suc (suc (suc (suc zero)))) o a b c d = o
kind-last (suc (suc (suc (suc (suc k))))) o a b c d = record { size = o.size; fewest = o.fewest; most = o.most; tag = o.tag; code = o.code }

-- a row has at most nine parts
pub most-few : (k : ℕ) → (of_kind k).most ≤ 9
most-few zero = omega arith
most-few (suc zero) = omega arith
most-few (suc (suc zero)) = omega arith
most-few (suc (suc (suc zero))) = omega arith
most-few (suc (suc (suc (suc zero)))) = omega arith
most-few (suc (suc (suc (suc (suc k))))) = omega arith

-- a kind adds at most 3 to its parts' sizes
own-small : (k : ℕ) → (of_kind k).size ≤ 3
own-small zero = omega arith
own-small (suc zero) = omega arith
own-small (suc (suc zero)) = omega arith
own-small (suc (suc (suc zero))) = omega arith
own-small (suc (suc (suc (suc zero)))) = omega arith
own-small (suc (suc (suc (suc (suc k))))) = omega arith

pub size_small : {k : ℕ} {r : Kind} → OfKind k r → r.size ≤ 3
size_small {k} o = let e = o.size in let s = own-small k in omega arith

-- a cipher has a key, a half its part
pub some-parts : (k : ℕ) → 2 ≤ k → 1 ≤ (of_kind k).fewest
some-parts zero h = absurd (omega arith)
some-parts (suc zero) h = absurd (omega arith)
some-parts (suc (suc zero)) h = omega arith
some-parts (suc (suc (suc zero))) h = omega arith
some-parts (suc (suc (suc (suc zero)))) h = omega arith
some-parts (suc (suc (suc (suc (suc k))))) h = omega arith

-- ---- the halves
pub a_half : (k : ℕ) {x : Bool} → x ≡ is_half k → x ≡ true → 3 ≤ k
a_half k e t = leb-true 3 k (sym e ∙ t)

pub no-half : (k : ℕ) {x : Bool} → x ≡ is_half k → x ≡ false → k < 3
no-half k e t = leb-false 3 k (sym e ∙ t)

pub other-private : (k : ℕ) → k ≡ 3 → 4 ≡ other_half k
unfolding other_half pick
other-private k e = rw e

pub other-public : (k : ℕ) → (k ≡ 3 → ⊥) → 3 ≡ other_half k
unfolding other_half pick
other-public k n = rw (ne_eqb k 3 n)

-- which is a half
pub other-low : (k : ℕ) → 3 ≤ other_half k
unfolding other_half pick
other-low k = elim (ℕ_discrete k 3) [ yes e ↦ rw e (omega arith) | no n ↦ rw (ne_eqb k 3 n) (omega arith) ]

pub other-high : (k : ℕ) → other_half k ≤ 4
unfolding other_half pick
other-high k = elim (ℕ_discrete k 3) [ yes e ↦ rw e (omega arith) | no n ↦ rw (ne_eqb k 3 n) (omega arith) ]
