-- Laws of an answer in one number: an answer that fits is read back from it; what a caller in another language gets. Assumes nothing.
use Rattle.std.specs.Prelude.{ℕ, suc, ◌+◌, ◌*◌, ◌/◌, ◌%◌, ◌<◌, min, true, false, List, [], ◌∷◌, map, ◌⊎◌, ◌≡◌, length, get_or, eqb}
use Rattle.std.proofs.Common.{⊎_elim, ap, ap₂, ◌∙◌, arith, eq-eqb, ne_eqb}
use Rattle.words.specs.Choice.Laws.{pick_true, pick-false, or_left, or_right}
use Rattle.book.specs.Said.{Said, said}
use Rattle.translation.specs.Outcome.{Answer, Outcome, answer_says, came}
use Rattle.packing.specs.Packed.{pack, two_values, unpack, unpack_verdict, capped, Small, Packs, returned, packed, packed_capped}

-- ---- read back
pub unpack-pack : (s : Said) → Small s → unpack (pack s) ≡ s
unfolding pack unpack
unpack-pack _ (Small.one {n} {v} ln other another lv) =
    let p = n + 256 * v + 1099511627776 * 0 in
    let number : p % 256 ≡ n = omega arith in
    let rest : p / 256 ≡ v = omega arith in
    let low : v % 4294967296 ≡ v = omega arith in
    let value : p / 256 % 4294967296 ≡ v = ap (λ x. x % 4294967296) rest ∙ low in
    let single : two_values (p % 256) ≡ false =
    rw (ne_eqb (p % 256) 10 (λ z. other (omega arith)), ne_eqb (p % 256) 13 (λ z. another (omega arith))) in
    ap₂ said number (ap₂ ◌∷◌ value (pick-false _ _ _ single))
unpack-pack _ (Small.two {n} {v} {w} stops lv lw) =
    let p = n + 256 * v + 1099511627776 * w in
    let low-number : n < 256 = ⊎_elim (λ e. omega arith) (λ e. omega arith) stops in
    let number : p % 256 ≡ n = omega arith in
    let rest : p / 256 ≡ v + 4294967296 * w = omega arith in
    let low : (v + 4294967296 * w) % 4294967296 ≡ v = omega arith in
    let value : p / 256 % 4294967296 ≡ v = ap (λ x. x % 4294967296) rest ∙ low in
    let second : p / 1099511627776 ≡ w = omega arith in
    let two : two_values (p % 256) ≡ true =
    ⊎_elim (λ e. or_left (eqb (p % 256) 10) _ (eq-eqb (p % 256) 10 (number ∙ e)))
    (λ e. or_right (eqb (p % 256) 10) _ (eq-eqb (p % 256) 13 (number ∙ e)))
    stops in
    ap₂ said number (ap₂ ◌∷◌ value (pick_true _ _ _ two ∙ ap (λ x. x ∷ []) second))

-- an answer that fits can be packed
pub small-packs : {s : Said} → Small s → Packs s
small-packs (Small.one ln other another lv) = Packs.one ln lv
small-packs (Small.two {n} stops lv lw) = Packs.two {n = n} (⊎_elim (λ e. omega arith) (λ e. omega arith) stops) lv lw

-- ---- a verdict is read back: one that tells a refusal or a value, and one that tells a place
pub verdict-told : (s : Said) → Small s → (0 < s.number) ⊎ (0 < get_or s.values 0 0) → unpack_verdict (pack s) ≡ s
unfolding unpack_verdict pack
verdict-told s (Small.one {n} {v} ln other another lv) h =
    let some : 0 < n + 256 * v = ⊎_elim (λ e. omega arith) (λ e. omega arith) h in
    pick-false _ _ _ (ne_eqb ((n + 256 * v + 1099511627776 * 0) % 1099511627776) 0 (λ e. omega arith))
    ∙ unpack-pack s (Small.one {n = n} {v = v} ln other another lv)
verdict-told s (Small.two {n} {v} {w} stops lv lw) h =
    let low-number : (0 < n) × (n < 256) = ⊎_elim (λ e. (omega arith, omega arith)) (λ e. (omega arith, omega arith)) stops in
    let (some, few) = low-number in
    pick-false _ _ _ (ne_eqb ((n + 256 * v + 1099511627776 * w) % 1099511627776) 0 (λ e. omega arith))
    ∙ unpack-pack s (Small.two {n = n} {v = v} {w = w} stops lv lw)

pub verdict-placed : (k : ℕ) → unpack_verdict (pack (said 0 (0 ∷ k ∷ []))) ≡ said 0 (0 ∷ k ∷ [])
unfolding unpack_verdict pack
verdict-placed k =
    let p = 0 + 256 * 0 + 1099511627776 * k in
    let low : p % 1099511627776 ≡ 0 = omega arith in
    let place : p / 1099511627776 ≡ k = omega arith in
    pick_true _ _ _ (eq-eqb (p % 1099511627776) 0 low) ∙ ap (λ x. said 0 (0 ∷ x ∷ [])) place

-- ---- a value below the cap was told as it is
pub capped-back : (s : Said) (n v : ℕ) → v < 4294967295 → capped s ≡ said n (v ∷ []) → s ≡ said n (v ∷ [])
capped-back s n v l e = go s.number s.values e
  where
    go : (k : ℕ) (vs : List ℕ) → capped (said k vs) ≡ said n (v ∷ []) → said k vs ≡ said n (v ∷ [])
    go k [] f = let z : 0 ≡ length (v ∷ []) = ap (λ (x : Said). length x.values) f in absurd (omega arith)
    go k (w ∷ []) f =
        let number : k ≡ n = ap (λ (x : Said). x.number) f in
        let value : min 4294967295 w ≡ v = ap (λ (x : Said). get_or x.values 0 0) f in
        let same : w ≡ v = omega arith in
        ap₂ (λ x y. said x (y ∷ [])) number same
    go k (w ∷ x ∷ vs) f =
        let z : suc (suc (length (map (min 4294967295) vs))) ≡ length (v ∷ []) = ap (λ (y : Said). length y.values) f in
        absurd (omega arith)

-- ---- what a caller in another language gets
pub packed-came : {o : Outcome} {new : List ℕ} {n : ℕ} (r : Answer) → came r new ≡ o → n ≡ pack (answer_says r) → returned n new ≡ packed o
packed-came {new = new} r e f = ap (λ k. returned k new) f ∙ ap packed e

-- the same, capped
pub packed-checked : {o : Outcome} {s : Said} {new : List ℕ} {n : ℕ} → record { says = s; lent = new } ≡ o → n ≡ pack (capped s)
    → returned n new ≡ packed_capped o
packed-checked {new = new} e f = ap (λ k. returned k new) f ∙ ap packed_capped e
