-- Whether a row is buildable: it is held, or no atom, and all its parts are; what is left of the parts decides. Assumes nothing.
use Prim.Native.Nat.{ℕ, ◌+◌, ◌-◌, ◌≤◌, ◌<◌}
use mathlib.Core.Bool.{Bool, true, false}
use mathlib.Core.List.{List, map}
use mathlib.Core.Path.{◌≡◌, sym, ap, ◌∙◌}
use native.Mathlib.Omega.{arith}
use lib.ListN.{get_or}
use Rattle.book.specs.Layout.{rows, kind, row_first, row_count, list_at}
use Rattle.book.specs.Valid.{Valid}
use Rattle.book.specs.Span.{entry, Span}
use Rattle.book.specs.Span.Laws.{span-row, span_tail}
use Rattle.translation.specs.Dictionary.{is_held}
use Rattle.holding.specs.Entry.{held_of}
use Rattle.holding.specs.Entry.Laws.{held_at}
use Rattle.holding.specs.AtRow.{can_at, all_true}
use Rattle.holding.specs.AtRow.Laws.{can-held, can-atom, can-parts, all-on, all-off, all_done}

-- ---- the row's entry, which the code reads at w, and of which x tells whether it is held
pub is-held : (b e : List ℕ) (r w : ℕ) {x : Bool} → Valid b → r < rows b → w ≡ r → x ≡ is_held (held_of (get_or e w 0)) → x ≡ true
    → true ≡ can_at b e r
is-held b e r w v h d t n = sym (can-held b e v r h (held_at e r w d t n))

pub lone-atom : (b e : List ℕ) (r w k : ℕ) {x : Bool} → Valid b → r < rows b → w ≡ r → x ≡ is_held (held_of (get_or e w 0)) → x ≡ false
    → k ≡ kind b r → k ≡ 0 → false ≡ can_at b e r
lone-atom b e r w k v h d t n c q = sym (can-atom b e v r h (held_at e r w d t n) (sym c ∙ q))

-- ---- the loop over the n parts from f on: j of them are passed
pub record Going (b e : List ℕ) (r f n j : ℕ) : Type 0 where
  pub span : Span b r (f + j) (n - j)
  pub rest : can_at b e r ≡ all_true (map (can_at b e) (list_at b (f + j) (n - j)))

pub going_start : {b e : List ℕ} {r w k f n : ℕ} {x : Bool} → Valid b → r < rows b → w ≡ r → x ≡ is_held (held_of (get_or e w 0)) → x ≡ false
    → k ≡ kind b r → (k ≡ 0 → ⊥) → f ≡ row_first b r → n ≡ row_count b r → Going b e r f n 0
going_start {b} {e} {r} {w} {k} {f} {n} v h d t z c nz p q =
    let first : f + 0 ≡ row_first b r = omega arith in
    let all : n - 0 ≡ row_count b r = omega arith in
    record { span = span-row b v (f + 0) (n - 0) r h first all; rest = can-parts b e v r h (held_at e r w d t z) (λ o. nz (c ∙ o)) ∙ rw (first, all) }

-- the next part is buildable: the rest decides
pub going_on : {b e : List ℕ} {r f n j x : ℕ} {y : Bool} → Going b e r f n j → j < n → x ≡ entry b (f + j) → y ≡ can_at b e x → y ≡ true
    → Going b e r f n (j + 1)
going_on {b} {e} {r} {f} {n} {j} g l d p q =
    let h : 0 < n - j = omega arith in
    let z : f + (j + 1) ≡ f + j + 1 = omega arith in
    let y : n - (j + 1) ≡ n - j - 1 = omega arith in
    record {
      span = rw (z, y) (span_tail b r (f + j) (n - j) g.span h);
      rest = g.rest ∙ all-on (can_at b e) b (f + j) (n - j) h (ap (can_at b e) (sym d) ∙ sym p ∙ q) ∙ rw (z, y);
    }

-- it is not: no more is the row
pub going-off : {b e : List ℕ} {r f n j x : ℕ} {y : Bool} → Going b e r f n j → j < n → x ≡ entry b (f + j) → y ≡ can_at b e x → y ≡ false
    → false ≡ can_at b e r
going-off {b} {e} {f = f} {n = n} {j = j} g l d p q =
    sym (g.rest ∙ all-off (can_at b e) b (f + j) (n - j) (omega arith) (ap (can_at b e) (sym d) ∙ sym p ∙ q))

pub going_done : {b e : List ℕ} {r f n j : ℕ} → Going b e r f n j → n ≤ j → true ≡ can_at b e r
going_done {b} {e} {f = f} {n = n} {j = j} g h = sym (g.rest ∙ all_done (can_at b e) b (f + j) (n - j) (omega arith))
