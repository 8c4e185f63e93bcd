-- Laws of `fresh`: of names one behind another, of names in a range, and of a run's numbers. Assumes nothing.
use Rattle.std.specs.Prelude.{ℕ, zero, suc, ◌+◌, ◌≤◌, ◌<◌, Bool, true, false, List, [], ◌∷◌, ◌++◌, ◌≡◌, refl, leb}
use Rattle.std.proofs.Common.{sym, ◌∙◌, arith, lt-ltb, le-ltb, le-leb, leb-true, leb-false}
use Rattle.std.proofs.lemmas.Bool.{lt-leb}
use Rattle.words.specs.Choice.{pick}
use Rattle.words.specs.Choice.Laws.{pick_true, pick-false}
use Rattle.words.specs.Run.{All, values}
use Rattle.renaming.specs.Renaming.{outside, fresh, numbers}

-- ---- one number
pub outside-before : (y n m : ℕ) → m < y → outside y n m ≡ true
unfolding outside
outside-before y n m h = pick_true _ _ _ (lt-ltb m y h)

pub outside_behind : (y n m : ℕ) → y + n ≤ m → outside y n m ≡ true
unfolding outside
outside_behind y n m h = pick-false _ _ _ (le-ltb m y (omega arith)) ∙ le-leb (y + n) m h

pub outside-among : (y n m : ℕ) → y ≤ m → m < y + n → outside y n m ≡ false
unfolding outside
outside-among y n m h l = pick-false _ _ _ (le-ltb m y h) ∙ lt-leb (y + n) m l

-- ---- names one behind another
pub fresh-append : (a b : List ℕ) (y n : ℕ) → fresh (a ++ b) y n ≡ pick (fresh a y n) (fresh b y n) false
unfolding fresh pick
fresh-append [] b y n = refl
fresh-append (m ∷ a) b y n = go (outside y n m) refl (fresh-append a b y n)
  where
    go : (v : Bool) → outside y n m ≡ v → fresh (a ++ b) y n ≡ pick (fresh a y n) (fresh b y n) false
        → pick (outside y n m) (fresh (a ++ b) y n) false ≡ pick (pick (outside y n m) (fresh a y n) false) (fresh b y n) false
    go true e h = rw (e, pick) h
    go false e h = rw (e, pick)

-- ---- names that are all before, or all behind
pub fresh-behind : (names : List ℕ) (low high y n : ℕ) → All (λ m. (low ≤ m) × (m < high)) names → high ≤ y → fresh names y n ≡ true
unfolding fresh
fresh-behind [] low high y n a h = refl
fresh-behind (m ∷ names) low high y n a h =
    let b = a.0.1 in
    pick_true _ _ _ (outside-before y n m (omega arith)) ∙ fresh-behind names low high y n a.1 h

pub fresh-before : (names : List ℕ) (low high y n : ℕ) → All (λ m. (low ≤ m) × (m < high)) names → y + n ≤ low → fresh names y n ≡ true
unfolding fresh
fresh-before [] low high y n a h = refl
fresh-before (m ∷ names) low high y n a h =
    let b = a.0.0 in
    pick_true _ _ _ (outside_behind y n m (omega arith)) ∙ fresh-before names low high y n a.1 h

-- ---- a run's numbers
pub numbers-ranged : (x m : ℕ) → All (λ k. (x ≤ k) × (k < x + m)) (numbers x m)
unfolding values
numbers-ranged x m = go x m x (x + m) (omega arith) (omega arith)
  where
    go : (y k low high : ℕ) → low ≤ y → y + k ≤ high → All (λ m. (low ≤ m) × (m < high)) (numbers y k)
    go y zero low high h l = tt
    go y (suc k) low high h l = ((h, omega arith), go (suc y) k low high (omega arith) (omega arith))

pub fresh-run-none : (x m y n : ℕ) → m ≡ 0 → fresh (numbers x m) y n ≡ true
unfolding fresh values
fresh-run-none x m y n e = rw e

pub fresh-run-behind : (x m y n : ℕ) → x + m ≤ y → fresh (numbers x m) y n ≡ true
fresh-run-behind x m y n h = fresh-behind (numbers x m) x (x + m) y n (numbers-ranged x m) h

pub fresh-run-before : (x m y n : ℕ) → y + n ≤ x → fresh (numbers x m) y n ≡ true
fresh-run-before x m y n h = fresh-before (numbers x m) x (x + m) y n (numbers-ranged x m) h

pub fresh-run-clash : (x m y n : ℕ) → 0 < n → y < x + m → x < y + n → 0 < m → fresh (numbers x m) y n ≡ false
unfolding fresh values
fresh-run-clash x zero y n l h g k = absurd (omega arith)
fresh-run-clash x (suc m) y n l h g k = go (leb y x) refl (fresh-run-clash (suc x) m y n l)
  where
    go : (v : Bool) → leb y x ≡ v → (y < suc x + m → suc x < y + n → 0 < m → fresh (numbers (suc x) m) y n ≡ false)
        → fresh (numbers x (suc m)) y n ≡ false
    go true e r = pick-false _ _ _ (outside-among y n x (leb-true y x e) g)
    go false e r =
        let b = leb-false y x e in
        pick_true _ _ _ (outside-before y n x b) ∙ r (omega arith) (omega arith) (omega arith)

pub fresh-run-last : (x m y n : ℕ) → 0 < n → (m ≡ 0 → ⊥) → y < x + m → leb (y + n) x ≡ fresh (numbers x m) y n
fresh-run-last x m y n l z h = go (leb (y + n) x) refl
  where
    go : (v : Bool) → leb (y + n) x ≡ v → v ≡ fresh (numbers x m) y n
    go true e = sym (fresh-run-before x m y n (leb-true (y + n) x e))
    go false e = sym (fresh-run-clash x m y n l h (leb-false (y + n) x e) (omega arith))
