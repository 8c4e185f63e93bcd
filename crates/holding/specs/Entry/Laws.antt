-- Laws of entries: how each is held, by its word. Assumes nothing.
use Rattle.std.specs.Prelude.{ℕ, zero, suc, ◌+◌, ◌-◌, ◌*◌, ◌/◌, ◌%◌, ◌≤◌, ◌<◌, Bool, true, not, List, ◌⊎◌, ◌≡◌, refl, eqb, get_or}
use Rattle.std.proofs.Common.{true≢false, inl, inr, sym, ap, ap₂, ◌∙◌, arith, ne_eqb}
use Rattle.std.proofs.Math.Decide.{dec_lt}
use Rattle.translation.specs.Dictionary.{Held, is_held}
use Rattle.translation.specs.Source.{since_of}
use Rattle.holding.specs.Entry.{held_by, held_of, step_limit}

-- ---- by its word
pub held-zero : (x : ℕ) → x ≡ 0 → held_of x ≡ Held.free
unfolding held_of
held-zero x z = rw z

-- a word that is not 0, by its 64s and its remainder
by_parts : (x q s : ℕ) → (x ≡ 0 → ⊥) → x / 64 ≡ q → x % 64 ≡ s → held_of x ≡ held_by q s
unfolding held_of
by_parts zero q s n d e = absurd (n refl)
by_parts (suc x) q s n d e = ap₂ held_by d e

pub held-given : (x : ℕ) → (x ≡ 0 → ⊥) → x < 64 → held_of x ≡ Held.given
unfolding held_by
held-given x n l = by_parts x 0 (x % 64) n (omega arith) refl

pub held-made : (x s : ℕ) → s < step_limit → x ≡ 64 + s → held_of x ≡ Held.made s
unfolding held_by
held-made x s l d = by_parts x 1 s (λ z. omega arith) (omega arith) (omega arith)

pub held-stored : (x s p : ℕ) → s < step_limit → x ≡ 128 + 64 * p + s → held_of x ≡ Held.stored s p
unfolding held_by
held-stored x s p l d =
    let q : x / 64 ≡ suc (suc p) = omega arith in
    let r : x % 64 ≡ s = omega arith in
    by_parts x (suc (suc p)) s (λ z. omega arith) q r

-- ---- is_held
by-held : (q s : ℕ) → is_held (held_by q s) ≡ true
unfolding held_by
by-held zero s = refl
by-held (suc zero) s = refl
by-held (suc (suc x)) s = refl

pub held_test : (x : ℕ) → not (eqb x 0) ≡ is_held (held_of x)
unfolding held_of
held_test zero = refl
held_test (suc x) = ap not (ne_eqb (suc x) 0 (omega arith)) ∙ sym (by-held (suc x / 64) (suc x % 64))

pub held_word : (x : ℕ) → is_held (held_of x) ≡ true → x ≡ 0 → ⊥
held_word x h z = true≢false (sym h ∙ ap is_held (held-zero x z))

-- ---- what is held: given or made below 128, stored from there on
pub held_low : (x : ℕ) → is_held (held_of x) ≡ true → x < 128 → (held_of x ≡ Held.given) ⊎ ((s : ℕ) × (held_of x ≡ Held.made s))
held_low x h l = elim (dec_lt x 64) [
  | yes m ↦ inl (held-given x (held_word x h) m)
  | no m ↦ inr (x - 64, held-made x (x - 64) (omega arith) (omega arith))
]

pub held_high : (x : ℕ) → 128 ≤ x → held_of x ≡ Held.stored (x % 64) ((x - 128) / 64)
held_high x l = held-stored x (x % 64) ((x - 128) / 64) (omega arith) (omega arith)

-- ---- since when
pub since-zero : (x n : ℕ) → x ≡ 0 → n ≡ since_of n (held_of x)
unfolding since_of
since-zero x n z = rw (held-zero x z)

pub since-given : (x n : ℕ) → (x ≡ 0 → ⊥) → x < 64 → 0 ≡ since_of n (held_of x)
unfolding since_of
since-given x n k l = rw (held-given x k l)

pub since-step : (x n : ℕ) → 64 ≤ x → x % 64 + 1 ≡ since_of n (held_of x)
unfolding since_of
since-step x n l = elim (dec_lt x 128) [
  | yes m ↦
      (let z : x - 64 ≡ x % 64 = omega arith in
      sym (ap (since_of n) (held-made x (x - 64) (omega arith) (omega arith)) ∙ ap (λ s. s + 1) z))
  | no m ↦ sym (ap (since_of n) (held_high x (omega arith)))
]

-- ---- of row r, whose entry is read at w, where x tells whether that is held
pub held_at : (e : List ℕ) (r w : ℕ) {x y : Bool} → w ≡ r → x ≡ is_held (held_of (get_or e w 0)) → x ≡ y → is_held (held_of (get_or e r 0)) ≡ y
held_at e r w d t z = ap (λ i. is_held (held_of (get_or e i 0))) (sym d) ∙ sym t ∙ z
