-- Laws of what they call our placeholders. Assumes nothing.
use Rattle.std.specs.Prelude.{ℕ, zero, suc, ◌+◌, ◌-◌, ◌≤◌, ◌<◌, Bool, true, false, List, [], ◌∷◌, ◌++◌, ◌≡◌, refl, length, eqb, ltb, Option, None, Some, MatchOption}
use Rattle.std.proofs.Common.{sym, ap₂, ◌∙◌, arith, add-one, length-append, get_or-append-add}
use Rattle.std.proofs.Math.Path.{ap}
use Rattle.std.proofs.Math.ListN.{get_or, get_or-append}
use Rattle.std.proofs.lemmas.List.Edits.{sets}
use borrow.Author.Tests.{le-leb, lt-leb, eqb-true, eq-eqb, ltb-true, ltb-false}
use Rattle.std.specs.Option.{unwrap_or}
use Rattle.words.specs.Choice.Laws.{pick_true, pick-false}
use Rattle.words.specs.First.{first}
use Rattle.words.specs.First.Laws.{first_holds, any_at, any-first}
use Rattle.words.specs.Run.{All, values}
use Rattle.words.specs.Run.Laws.{values_length, values-get_d, values-last}
use Rattle.words.specs.Overlay.{Wrote}
use Rattle.words.specs.Overlay.Laws.{sets-before, sets-there, wrote_none, wrote_then, wrote_as, wrote-length}
use Rattle.translation.specs.Long.{step_size}
use Rattle.translation.specs.Low.{word_limit}
use Rattle.renaming.specs.Slot.{Slot}
use Rattle.renaming.specs.Renaming.{numbers, fresh, agrees}
use Rattle.renaming.specs.Renaming.Fresh.{numbers-ranged, fresh-behind, fresh-before}
use Rattle.naming.specs.Called.{Ranged, Wider, placeholder_at, is_placeholder, name_of, Called, StoredIn}

-- ---- the range
all_append : (P : ℕ → Type 0) (a b : List ℕ) → All P a → All P b → All P (a ++ b)
all_append P [] b h k = k
all_append P (x ∷ a) b h k = (h.0, all_append P a b h.1 k)

all-wider : (l h l' h' : ℕ) → l' ≤ l → h ≤ h' → (names : List ℕ) → All (λ m. (l ≤ m) × (m < h)) names
    → All (λ m. (l' ≤ m) × (m < h')) names
all-wider l h l' h' p q [] a = tt
all-wider l h l' h' p q (m ∷ names) a = let b = a.0 in ((omega arith, omega arith), all-wider l h l' h' p q names a.1)

pub ranged-none : {low high : ℕ} → Ranged low high []
ranged-none = record { all = tt }

-- a run more
ranged-numbers : (low high y n : ℕ) → (0 < n → (low ≤ y) × (y + n ≤ high)) → All (λ m. (low ≤ m) × (m < high)) (numbers y n)
unfolding values
ranged-numbers low high y zero f = tt
ranged-numbers low high y (suc n) f =
    let g = f (omega arith) in
    all-wider y (y + suc n) low high (omega arith) (omega arith) (numbers y (suc n)) (numbers-ranged y (suc n))

pub ranged-run : {low high low' high' y n : ℕ} {names : List ℕ} → Ranged low high names → Wider low high y n low' high'
    → Ranged low' high' (names ++ numbers y n)
ranged-run {low} {high} {low'} {high'} {y} {n} {names} r w =
    record {
      all = all_append _ names (numbers y n) (all-wider low high low' high' w.lower w.higher names r.all)
          (ranged-numbers low' high' y n (λ h. (w.begins h, w.ends h)));
    }

-- ---- the name of a placeholder
module _ {names : List ℕ} {begin : ℕ} {table log : List ℕ} {n : ℕ} {called : List ℕ} (c : Called names begin table log n called) where
  pub called-recent : {x : ℕ} → begin ≤ x → x < length names → name_of x begin table log n called ≡ get_or names x 0
  unfolding name_of
  called-recent {x} h l = pick_true _ _ _ (le-leb begin x h) ∙ c.recent x h l

  pub called-older : {x : ℕ} → StoredIn log n x → name_of x begin table log n called ≡ get_or names x 0
  unfolding name_of
  called-older {x} s =
      let t = is_placeholder log x in
      let b = c.below s.index s.within in
      let e = s.there in
      let k = any-first t n (any_at t n s.index s.within (eq-eqb _ _ s.there)) in
      let q = eqb-true _ _ (first_holds t n k) in
      pick-false _ _ _ (lt-leb begin x (omega arith)) ∙ c.older (first t n) k ∙ ap (λ z. get_or names z 0) q

-- ---- the hunt for a stored placeholder: where it is, or n
pub found-or : (o : Option ℕ) (n k : ℕ) → MatchOption o (n ≡ k) (λ j. j ≡ k) → unwrap_or o n ≡ k
found-or None n k e = e
found-or (Some j) n k e = e

-- ---- a run's first number, by whether it is free
pub run_none : (names : List ℕ) (f n y : ℕ) → n ≡ 0 → eqb y f ≡ agrees names (Slot.runs f n) y
unfolding agrees
run_none names f n y e = rw e

pub run-hunted : (names : List ℕ) (f n y : ℕ) {r : Bool} → (n ≡ 0 → ⊥) → y + n ≤ word_limit → r ≡ fresh names y n
    → r ≡ agrees names (Slot.runs f n) y
unfolding agrees
run-hunted names f zero y z h e = absurd (z refl)
run-hunted names f (suc n) y z h e = e ∙ sym (pick_true _ _ _ (le-leb (y + suc n) word_limit h))

pub run_past : (names : List ℕ) (f n y : ℕ) → (n ≡ 0 → ⊥) → word_limit < y + n → false ≡ agrees names (Slot.runs f n) y
unfolding agrees
run_past names f zero y z h = absurd (z refl)
run_past names f (suc n) y z h = sym (pick-false _ _ _ (lt-leb (y + suc n) word_limit h))

-- above all numbers so far, or below them
pub run-above : {low high : ℕ} {names : List ℕ} (f n y : ℕ) → Ranged low high names → (n ≡ 0 → ⊥) → y + n ≤ word_limit → high ≤ y
    → true ≡ agrees names (Slot.runs f n) y
run-above {low} {high} {names} f n y r z h l = run-hunted names f n y z h (sym (fresh-behind names low high y n r.all l))

pub run-below : {low high : ℕ} {names : List ℕ} (f n y : ℕ) → Ranged low high names → (n ≡ 0 → ⊥) → y + n ≤ word_limit → y + n ≤ low
    → true ≡ agrees names (Slot.runs f n) y
run-below {low} {high} {names} f n y r z h l = run-hunted names f n y z h (sym (fresh-before names low high y n r.all l))

-- ---- the name, as it is looked up
pub name-recent : (x begin : ℕ) (table log : List ℕ) (n : ℕ) (called : List ℕ) {r : ℕ} → begin ≤ x → r ≡ get_or table (x - begin) 0
    → r ≡ name_of x begin table log n called
unfolding name_of
name-recent x begin table log n called h e = e ∙ sym (pick_true _ _ _ (le-leb begin x h))

pub name-stored : (x begin : ℕ) (table log : List ℕ) (n : ℕ) (called : List ℕ) {k r : ℕ} → x < begin → k ≡ first (is_placeholder log x) n
    → r ≡ get_or called k 0 → r ≡ name_of x begin table log n called
unfolding name_of
name-stored x begin table log n called h e f = f ∙ ap (λ k. get_or called k 0) e ∙ sym (pick-false _ _ _ (lt-leb begin x h))

-- ---- a run's numbers, written one by one
numbers_more : (y j : ℕ) → numbers y (j + 1) ≡ numbers y j ++ ((y + j) ∷ [])
numbers_more y j = rw add-one (values-last (λ k. k) y j)

pub filled_none : (y : ℕ) {o : List ℕ} {a : ℕ} → Wrote (numbers y 0) o a o a
unfolding values
filled_none y = wrote_none

pub filled_more : (y j : ℕ) {o m n : List ℕ} {a p r : ℕ} → Wrote (numbers y j) o a m p → Wrote ((y + j) ∷ []) m p n r
    → Wrote (numbers y (j + 1)) o a n r
filled_more y j f g = wrote_as (wrote_then f g) (numbers_more y j)

-- ---- a run more of names
module _ {names : List ℕ} {begin : ℕ} {table log : List ℕ} {n : ℕ} {called : List ℕ} (c : Called names begin table log n called)
    (filled y k : ℕ) (at : begin + filled ≡ length names) (room : filled + k ≤ step_size) {table' : List ℕ} {r : ℕ}
    (w : Wrote (numbers y k) table filled table' r) where
  count : length (numbers y k) ≡ k
  count = values_length (λ z. z) y k

  all : length (names ++ numbers y k) ≡ length names + k
  all = let a = length-append names (numbers y k) in let b = count in omega arith

  fits : filled + length (numbers y k) ≤ length table
  fits = let b = count in let s = c.size in omega arith

  recent-on : (x : ℕ) → begin ≤ x → x < length (names ++ numbers y k) → get_or table' (x - begin) 0 ≡ get_or (names ++ numbers y k) x 0
  recent-on x h l = go (ltb x (length names)) refl
    where
      go : (v : Bool) → ltb x (length names) ≡ v → get_or table' (x - begin) 0 ≡ get_or (names ++ numbers y k) x 0
      go true e =
          let b = ltb-true x (length names) e in
          ap (λ (t : List ℕ). get_or t (x - begin) 0) w.list ∙ sets-before (numbers y k) table filled (x - begin) (omega arith) ∙ c.recent x h b
          ∙ sym (get_or-append names (numbers y k) 0 x b)
      go false e =
          let b = ltb-false x (length names) e in
          let s = all in
          let z = count in
          let i = x - length names in
          let p : x - begin ≡ filled + i = omega arith in
          let q : length names + i ≡ x = omega arith in
          ap₂ (λ (t : List ℕ) (j : ℕ). get_or t j 0) w.list p ∙ sets-there (numbers y k) table filled i (omega arith) fits
          ∙ sym (get_or-append-add names (numbers y k) i 0) ∙ ap (λ j. get_or (names ++ numbers y k) j 0) q

  pub called-run : Called (names ++ numbers y k) begin table' log n called
  called-run =
      record {
        recent = recent-on;
        older = λ j h. let b = c.below j h in let g = c.begun in
            c.older j h ∙ sym (get_or-append names (numbers y k) 0 (placeholder_at log j) (omega arith));
        below = c.below;
        begun = let s = all in let g = c.begun in omega arith;
        size = wrote-length w ∙ c.size;
        few = c.few;
      }

  pub filled_on : begin + r ≡ length (names ++ numbers y k)
  filled_on = let s = all in let z = count in let e = w.next in omega arith

-- ---- the names of what a step stored, written one by one
pub kept-none : (f : ℕ → ℕ) (k : ℕ) {o : List ℕ} {a : ℕ} → Wrote (values f k (k - k)) o a o a
unfolding values
kept-none f k = let z : k - k ≡ 0 = omega arith in rw z wrote_none

pub kept_more : (f : ℕ → ℕ) (k j : ℕ) {o m n : List ℕ} {a p r : ℕ} → k ≤ j → Wrote (values f k (j - k)) o a m p → Wrote (f j ∷ []) m p n r
    → Wrote (values f k (j + 1 - k)) o a n r
kept_more f k j h g w =
    let z : j + 1 - k ≡ suc (j - k) = omega arith in
    let e : k + (j - k) ≡ j = omega arith in
    wrote_as (wrote_then g w) (ap (values f k) z ∙ values-last f k (j - k) ∙ ap (λ i. values f k (j - k) ++ (f i ∷ [])) e)

-- ---- and read
module _ (f : ℕ → ℕ) (k n : ℕ) {l l' : List ℕ} {r : ℕ} (w : Wrote (values f k n) l k l' r) where
  pub wrote-before : (j : ℕ) → j < k → get_or l' j 0 ≡ get_or l j 0
  wrote-before j h = ap (λ (x : List ℕ). get_or x j 0) w.list ∙ sets-before (values f k n) l k j h

  pub wrote-there : (j : ℕ) → k ≤ j → j < k + n → k + n ≤ length l → get_or l' j 0 ≡ f j
  wrote-there j h g s =
      let z = j - k in
      let e : k + z ≡ j = omega arith in
      let c = values_length f k n in
      ap (λ (x : List ℕ). get_or x j 0) w.list ∙ ap (λ t. get_or (sets l k (values f k n)) t 0) (sym e)
      ∙ sets-there (values f k n) l k z (omega arith) (omega arith) ∙ values-get_d f k n z 0 (omega arith) ∙ ap f e
