-- Laws of following their words: when no name lies in a run; which names there are behind a word; how far a list of slots is followed,
-- and one behind another. Assumes nothing.
use Prim.Native.Nat.{ℕ, zero, suc, ◌+◌, ◌-◌, ◌≤◌, ◌<◌}
use Rattle.std.specs.Prelude.{Bool, ◌↔◌, ◌⊎◌, ◌≡◌, get_or}
use Rattle.std.proofs.Math.Bool.{true, false}
use Rattle.std.proofs.Common.{true≢false, inl, inr, ⊎_elim, sym, ap, ◌∙◌, length-append, get_or-append-add}
use mathlib.Core.List.{List, [], ◌∷◌, ◌++◌}
use Rattle.std.proofs.Math.Path.{refl}
use native.Mathlib.Omega.{arith}
use Rattle.std.proofs.Math.Decide.{dec_lt}
use Rattle.std.proofs.Math.ListN.{length, get_or-append}
use borrow.Author.Tests.{ltb-true, lt-ltb}
use Rattle.words.specs.Choice.{pick}
use Rattle.words.specs.Choice.Laws.{pick_true, pick-false, pick_ind}
use Rattle.words.specs.Run.Laws.{values_length, values-get_d}
use Rattle.words.specs.First.Laws.{clash}
use Rattle.translation.specs.Dictionary.Laws.{and_both, both-and}
use Rattle.renaming.specs.Slot.{Slot, handed}
use Rattle.renaming.specs.Renaming.{outside, fresh, agrees, numbers, named, Followed, stands, follow}
use Rattle.renaming.specs.Renaming.Fresh.{outside-before, outside_behind, outside-among, fresh-run-behind, fresh-run-before, fresh-run-clash}

-- ---- outside
pub outside-exact : (y n m : ℕ) → (outside y n m ≡ true) ↔ (y ≤ m → m < y + n → ⊥)
outside-exact y n m = (
  λ e l h. clash e (outside-among y n m l h),
  λ c. elim (dec_lt m y) [
    | yes h ↦ outside-before y n m h
    | no h ↦ elim (dec_lt m (y + n)) [ yes l ↦ absurd (c (omega arith) l) | no l ↦ outside_behind y n m (omega arith) ]
  ],
)

-- ---- fresh: no name m has y ≤ m and m < y + n
abbrev pub NoName : List ℕ → ℕ → ℕ → Type 0
NoName names y n = (x : ℕ) → x < length names → y ≤ get_or names x 0 → get_or names x 0 < y + n → ⊥

fresh-none : (names : List ℕ) (y n : ℕ) → fresh names y n ≡ true → NoName names y n
unfolding fresh
fresh-none [] y n e x h = absurd (omega arith)
fresh-none (m ∷ names) y n e zero h = (outside-exact y n m).0 (and_both _ _ e).0
fresh-none (m ∷ names) y n e (suc x) h = fresh-none names y n (and_both _ _ e).1 x (omega arith)

none-fresh : (names : List ℕ) (y n : ℕ) → NoName names y n → fresh names y n ≡ true
unfolding fresh
none-fresh [] y n c = refl
none-fresh (m ∷ names) y n c =
    both-and _ _ ((outside-exact y n m).1 (c 0 (omega arith))) (none-fresh names y n (λ x h. c (suc x) (omega arith)))

pub fresh-exact : (names : List ℕ) (y n : ℕ) → (fresh names y n ≡ true) ↔ NoName names y n
fresh-exact names y n = (fresh-none names y n, none-fresh names y n)

-- ---- numbers
pub numbers-length : (y n : ℕ) → length (numbers y n) ≡ n
numbers-length y n = values_length (λ k. k) y n

pub numbers-get_d : (y n j : ℕ) → j < n → get_or (numbers y n) j 0 ≡ y + j
numbers-get_d y n j h = values-get_d (λ k. k) y n j 0 h

-- the names of an earlier run: the two runs lie apart
pub fresh-numbers : (z k y n : ℕ) → 0 < k → 0 < n → (fresh (numbers z k) y n ≡ true) ↔ ((z + k ≤ y) ⊎ (y + n ≤ z))
fresh-numbers z k y n p q = (
  λ e. elim (dec_lt y (z + k)) [
    | no h ↦ inl (omega arith)
    | yes h ↦ elim (dec_lt z (y + n)) [ no l ↦ inr (omega arith) | yes l ↦ absurd (clash e (fresh-run-clash z k y n q h l p)) ]
  ],
  λ d. ⊎_elim (λ h. fresh-run-behind z k y n h) (λ h. fresh-run-before z k y n h) d,
)

-- ---- named: the names so far stay, and behind them come the run's
pub named_new : (names : List ℕ) (y n j : ℕ) → j < n → get_or (names ++ numbers y n) (length names + j) 0 ≡ y + j
named_new names y n j h = get_or-append-add names (numbers y n) j 0 ∙ numbers-get_d y n j h

-- so a name behind a run is an older one or the run's
pub data NameAt (names : List ℕ) (y n x m : ℕ) : Type 0 where
  older : x < length names → m ≡ get_or names x 0 → NameAt names y n x m
  newer : (j : ℕ) → j < n → x ≡ length names + j → m ≡ y + j → NameAt names y n x m

pub name-at : (names : List ℕ) (y n x : ℕ) → x < length (names ++ numbers y n) → NameAt names y n x (get_or (names ++ numbers y n) x 0)
name-at names y n x h =
    let l = length-append names (numbers y n) in
    let m = numbers-length y n in
    elim (dec_lt x (length names)) [
      | yes k ↦ NameAt.older k (get_or-append names (numbers y n) 0 x k)
      | no k ↦
          let e : x ≡ length names + (x - length names) = omega arith in
          NameAt.newer (x - length names) (omega arith) e
          (ap (λ i. get_or (names ++ numbers y n) i 0) e ∙ named_new names y n (x - length names) (omega arith))
    ]

pub named-old : (names : List ℕ) (s : Slot) (y x : ℕ) → x < length names → get_or (named names s y) x 0 ≡ get_or names x 0
unfolding named
named-old names (Slot.plain w) y x h = refl
named-old names (Slot.uses z) y x h = refl
named-old names (Slot.runs f n) y x h = get_or-append names (numbers y n) 0 x h

pub named-length : (names : List ℕ) (s : Slot) (y : ℕ) → length (named names s y) ≡ length names + handed (s ∷ [])
unfolding named handed
named-length names (Slot.plain w) y = omega arith
named-length names (Slot.uses x) y = omega arith
named-length names (Slot.runs f n) y = let l = length-append names (numbers y n) in let m = numbers-length y n in omega arith

-- ---- follow
module _ (ws : List ℕ) where
  -- a word that agrees, and one that doesn't
  pub follow-on : (s : Slot) (ss : List Slot) (a : ℕ) (names : List ℕ) → stands ws a names s ≡ true
      → follow ws (s ∷ ss) a names ≡ follow ws ss (suc a) (named names s (get_or ws a 0))
  unfolding follow
  follow-on s ss a names e = pick_true _ _ _ e

  pub follow-stops : (s : Slot) (ss : List Slot) (a : ℕ) (names : List ℕ) → stands ws a names s ≡ false
      → follow ws (s ∷ ss) a names ≡ record { at = a; names = names; whole = false }
  unfolding follow
  follow-stops s ss a names e = pick-false _ _ _ e

  -- slots behind others: they are followed where those were whole, from there on
  pub follow-append : (ss ts : List Slot) (a : ℕ) (names : List ℕ)
      → follow ws (ss ++ ts) a names
      ≡ (let f = follow ws ss a names in pick f.whole (follow ws ts f.at f.names) f)
  unfolding follow pick
  follow-append [] ts a names = refl
  follow-append (s ∷ ss) ts a names = go (stands ws a names s) (follow-append ss ts (suc a) (named names s (get_or ws a 0)))
    where
      rest : List Slot → Followed
      rest us = follow ws us (suc a) (named names s (get_or ws a 0))

      stop : Followed
      stop = record { at = a; names = names; whole = false }

      go : (v : Bool) → rest (ss ++ ts) ≡ pick (rest ss).whole (follow ws ts (rest ss).at (rest ss).names) (rest ss)
          → pick v (rest (ss ++ ts)) stop
          ≡ pick (pick v (rest ss) stop).whole (follow ws ts (pick v (rest ss) stop).at (pick v (rest ss) stop).names) (pick v (rest ss) stop)
      go true e = e
      go false e = refl

  pub follow-append-whole : (ss ts : List Slot) (a : ℕ) (names : List ℕ) → (follow ws ss a names).whole ≡ true
      → follow ws (ss ++ ts) a names ≡ follow ws ts (follow ws ss a names).at (follow ws ss a names).names
  follow-append-whole ss ts a names e = follow-append ss ts a names ∙ pick_true _ _ _ e

  pub follow-append-part : (ss ts : List Slot) (a : ℕ) (names : List ℕ) → (follow ws ss a names).whole ≡ false
      → follow ws (ss ++ ts) a names ≡ follow ws ss a names
  follow-append-part ss ts a names e = follow-append ss ts a names ∙ pick-false _ _ _ e

  -- how far it comes
  pub follow-least : (ss : List Slot) (a : ℕ) (names : List ℕ) → a ≤ (follow ws ss a names).at
  unfolding follow
  follow-least [] a names = omega arith
  follow-least (s ∷ ss) a names =
      pick_ind (λ (f : Followed). a ≤ f.at) (stands ws a names s) _ _
      (λ e. let h = follow-least ss (suc a) (named names s (get_or ws a 0)) in omega arith) (λ e. omega arith)

  pub follow-most : (ss : List Slot) (a : ℕ) (names : List ℕ) → (follow ws ss a names).at ≤ a + length ss
  unfolding follow
  follow-most [] a names = omega arith
  follow-most (s ∷ ss) a names =
      pick_ind (λ (f : Followed). f.at ≤ a + suc (length ss)) (stands ws a names s) _ _
      (λ e. let h = follow-most ss (suc a) (named names s (get_or ws a 0)) in omega arith) (λ e. omega arith)

  pub follow-whole : (ss : List Slot) (a : ℕ) (names : List ℕ) → (follow ws ss a names).whole ≡ true
      → (follow ws ss a names).at ≡ a + length ss
  unfolding follow
  follow-whole [] a names w = omega arith
  follow-whole (s ∷ ss) a names w =
      pick_ind (λ (f : Followed). f.whole ≡ true → f.at ≡ a + suc (length ss)) (stands ws a names s) _ _
      (λ e v. let h = follow-whole ss (suc a) (named names s (get_or ws a 0)) v in omega arith) (λ e v. absurd (true≢false (sym v))) w

  pub follow-part : (ss : List Slot) (a : ℕ) (names : List ℕ) → (follow ws ss a names).whole ≡ false
      → (follow ws ss a names).at < a + length ss
  unfolding follow
  follow-part [] a names w = absurd (true≢false w)
  follow-part (s ∷ ss) a names w =
      pick_ind (λ (f : Followed). f.whole ≡ false → f.at < a + suc (length ss)) (stands ws a names s) _ _
      (λ e v. let h = follow-part ss (suc a) (named names s (get_or ws a 0)) v in omega arith) (λ e v. omega arith) w

  -- a word that agrees is one of theirs
  pub stands-within : (a : ℕ) (names : List ℕ) (s : Slot) → stands ws a names s ≡ true → a < length ws
  unfolding stands
  stands-within a names s e = ltb-true a (length ws) (and_both _ _ e).0

  pub stands-agrees : (a : ℕ) (names : List ℕ) (s : Slot) → stands ws a names s ≡ true → agrees names s (get_or ws a 0) ≡ true
  unfolding stands
  stands-agrees a names s e = (and_both _ _ e).1

  pub agrees-stands : (a : ℕ) (names : List ℕ) (s : Slot) → a < length ws → agrees names s (get_or ws a 0) ≡ true → stands ws a names s ≡ true
  unfolding stands
  agrees-stands a names s h e = both-and _ _ (lt-ltb a (length ws) h) e

  pub follow-within : (ss : List Slot) (a : ℕ) (names : List ℕ) → a ≤ length ws → (follow ws ss a names).at ≤ length ws
  unfolding follow
  follow-within [] a names h = h
  follow-within (s ∷ ss) a names h =
      pick_ind (λ (f : Followed). f.at ≤ length ws) (stands ws a names s) _ _
      (λ e. follow-within ss (suc a) (named names s (get_or ws a 0)) (stands-within a names s e)) (λ e. h)
