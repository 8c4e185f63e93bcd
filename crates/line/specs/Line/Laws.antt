-- Laws of the line: texts put one behind another, the digits that a number takes, numbers behind a text, the newline, and the line of
-- what came of a call. Assumes nothing.
use Rattle.std.specs.Prelude.{ℕ, suc, ◌+◌, ◌-◌, ◌^◌, ◌≤◌, ◌<◌, ◌≡◌, refl, length, take, set, get_or, Ok, Err}
use Rattle.std.proofs.Math.Path.{sym, ap}
use Rattle.std.proofs.Common.{◌∙◌, ap₂, arith, add-one, length-append, length-set, take-suc, take-suc-set, take-take, length-take-le}
use mathlib.Core.List.{List, [], ◌∷◌, ◌++◌, append_assoc, append-nil}
use Rattle.std.proofs.Math.Decide.{dec_lt}
use Rattle.std.proofs.Math.Nat.{pow-le-pow_right}
use Rattle.std.proofs.Math.Seq.{take-length, take-append_seam, take-append-add, paste}
use Rattle.std.proofs.lemmas.List.{take-append-le}
use Rattle.std.proofs.lemmas.List.Edits.{take-paste}
use Rattle.std.proofs.Math.Dec.{ltb}
use borrow.Author.Tests.{lt-ltb, le-ltb, eq-eqb, ne_eqb}
use Rattle.io.specs.Counts.{IsPrefixLen}
use Rattle.io.specs.Digits.{last_digits, IsDigitCount}
use Rattle.words.specs.Choice.Laws.{pick_true, pick-false}
use Rattle.words.specs.First.{first, first_from}
use Rattle.words.specs.First.Laws.{first-is}
use Rattle.book.specs.declared.Refusal.{Refusal}
use Rattle.book.specs.Said.{Said, said, accepted, refusal_says, told_says}
use Rattle.book.specs.Said.Laws.{refusal-number}
use Rattle.translation.specs.Listing.{listing}
use Rattle.translation.specs.Outcome.{Answer, Outcome, outcome, came, Plays}
use Rattle.translation.specs.Outcome.Laws.{exactly-written, written-says, written-past}
use Rattle.playing.specs.Rehearsal.{rehearsal}
use Rattle.playing.specs.Rehearsal.Laws.{exactly-played, played-says}
use Rattle.book.specs.declared.Told.{Told}
use Rattle.book.specs.declared.Told.TheVariants.{One, Two}
use Rattle.line.specs.Line.{places, decimal, spaced, spaced_all, ended, listing_line, refused, refusal_text, refusal_line, accepted_line, reading_line, line_of, Inside, Put}

-- ---- Put
-- a text that was copied to its end
pub put-paste : {o text n : List ℕ} {at i : ℕ} → n ≡ paste o at text i → i ≡ length text → at + length text ≤ length o
    → Put text o at n (at + length text)
put-paste {o} {text} {n} {at} p e h =
    let q : n ≡ paste o at text (length text) = rw e at p in
    record {
      front = ap (take (at + length text)) q ∙ take-paste o at text (length text) (omega arith) (omega arith)
          ∙ ap (λ (l : List ℕ). take at o ++ l) (take-length text);
      next = refl;
    }

-- a text that was left in front of a part, from place `at` on
pub put-part : (old part rest : List ℕ) (at n : ℕ) {text : List ℕ} → at ≤ length old → IsPrefixLen n part → take n part ≡ text
    → Put text old at (take at old ++ (part ++ rest)) (at + n)
put-part old part rest at n h (few, all) e =
    let front : take (at + n) (take at old ++ (part ++ rest)) ≡ take at old ++ take n (part ++ rest) =
    rw (length-take-le at old h) at (take-append-add (take at old) (part ++ rest) n)
    in
    record {
      front = front ∙ ap (λ (l : List ℕ). take at old ++ l) (take-append-le n part rest few ∙ e);
      next = ap (λ (m : ℕ). at + m) (all ∙ ap length e);
    }

put_one : (l : List ℕ) (at x : ℕ) → at < length l → Put (x ∷ []) l at (set l at x) (at + 1)
put_one l at x h = record { front = rw add-one (take-suc-set l at x h); next = refl }

-- one text behind another
pub put_then : {t u o m n : List ℕ} {a p r : ℕ} → Put t o a m p → Put u m p n r → Put (t ++ u) o a n r
put_then {t} {u} {o} {a = a} x y =
    record {
      front = y.front ∙ ap (λ (l : List ℕ). l ++ u) x.front ∙ append_assoc (take a o) t u;
      next = omega (arith, x.next, y.next, length-append t u);
    }

-- the same text, written another way
put_as : {t u o n : List ℕ} {a r : ℕ} → Put t o a n r → t ≡ u → Put u o a n r
put_as x e = rw e at x

-- ---- places, decimal and spaced: the fewest digits that hold a number
module _ (x k : ℕ) (f : IsDigitCount 10 1 x k) where
  -- are no more than hold a larger one
  fewest-most : (n : ℕ) → 1 ≤ n → x < 10 ^ n → k ≤ n
  fewest-most n s h = elim (dec_lt n k) [
    | no p ↦ omega arith
    | yes p ↦
        let q : 10 ^ n ≤ 10 ^ (k - 1) = pow-le-pow_right {n = 10} (omega arith) {i = n} {j = k - 1} (omega arith) in
        let r : 10 ^ (k - 1) ≤ x = f.2 (omega arith) in
        absurd (omega arith)
  ]

  -- ten for a word, twenty for any number that is printed
  pub word-digits : x < 2 ^ 32 → k ≤ 10
  word-digits h = fewest-most 10 (omega arith) (omega arith)

  pub all_digits : x < 2 ^ 64 → k ≤ 20
  all_digits h = fewest-most 20 (omega arith) (omega arith)

  -- fewer digits don't hold it
  power_below : (j : ℕ) → j < k - 1 → 10 ^ (j + 1) ≤ x
  power_below j l =
      let p : 10 ^ (k - 1) ≤ x = f.2 (omega arith) in
      let q : 10 ^ (j + 1) ≤ 10 ^ (k - 1) = pow-le-pow_right {n = 10} (omega arith) {i = j + 1} {j = k - 1} (omega arith) in
      omega arith

  power-above : x < 10 ^ (k - 1 + 1)
  power-above =
      let e : k ≡ k - 1 + 1 = omega (arith, f.0) in
      rw e at f.1

  -- and are as many as it takes
  places-fewest : k ≤ 20 → k ≡ places x
  unfolding places
  places-fewest most =
      let e : k - 1 ≡ first (λ j. ltb x (10 ^ (j + 1))) 19 =
      first-is (λ j. ltb x (10 ^ (j + 1))) 19 (k - 1) (omega arith) (λ j l. le-ltb _ _ (power_below j l)) (λ l. lt-ltb _ _ power-above)
      in omega (arith, f.0)

  decimal-fewest : k ≤ 20 → last_digits 10 k x ≡ decimal x
  unfolding decimal
  decimal-fewest most = ap (λ (n : ℕ). last_digits 10 n x) (places-fewest most)

  -- its digits and a space, put one behind the other
  pub put-spaced : {t o m : List ℕ} {a p : ℕ} → x < 2 ^ 64 → t ≡ last_digits 10 k x → Put t o a m p → p < length m
      → Put (spaced x) o a (set m p 32) (p + 1)
  unfolding spaced
  put-spaced {m = m} {p = p} fits e put h =
      put_as (put_then put (put_one m p 32 h)) (ap (λ (l : List ℕ). l ++ 32 ∷ []) (e ∙ decimal-fewest (all_digits fits)))

-- ---- spaced_all
-- one number more, at the end
spaced-last : (xs : List ℕ) (x : ℕ) → spaced_all (xs ++ x ∷ []) ≡ spaced_all xs ++ spaced x
unfolding spaced_all
spaced-last [] x = append-nil _
spaced-last (y ∷ xs) x =
    ap (λ (l : List ℕ). spaced y ++ l) (spaced-last xs x) ∙ sym (append_assoc (spaced y) (spaced_all xs) (spaced x))

-- and in a list that is walked
pub spelled-next : (xs : List ℕ) (i : ℕ) → i < length xs → spaced_all (take i xs) ++ spaced (get_or xs i 0) ≡ spaced_all (take (i + 1) xs)
spelled-next xs i h =
    let e : take (i + 1) xs ≡ take i xs ++ get_or xs i 0 ∷ [] = rw add-one (take-suc xs i 0 h) in
    sym (ap spaced_all e ∙ spaced-last (take i xs) (get_or xs i 0))

-- two numbers and three behind a text
spaced-two : (t : List ℕ) (x y : ℕ) → (t ++ spaced x) ++ spaced y ≡ t ++ spaced_all (x ∷ y ∷ [])
unfolding spaced_all
spaced-two t x y = simp (append_assoc, append-nil)

spaced-three : (t : List ℕ) (x y z : ℕ) → ((t ++ spaced x) ++ spaced y) ++ spaced z ≡ t ++ spaced_all (x ∷ y ∷ z ∷ [])
unfolding spaced_all
spaced-three t x y z = simp (append_assoc, append-nil)

-- ---- refusal_text: a refusal's number and one value behind the word "refused", or two
module _ {told : Told} {number place : ℕ} {o l m new : List ℕ} {a b r : ℕ} (word : Put refused o 0 l a) (first : Put (spaced number) l a m b)
    (second : Put (spaced place) m b new r) where
  pub told-one : told ≡ One number place → take r new ≡ refusal_text (told_says told)
  told-one e = (put_then (put_then word first) second).front ∙ spaced-two refused number place ∙ ap (λ s. refusal_text (told_says s)) (sym e)

  pub told-two : {row q : ℕ} {last : List ℕ} → Put (spaced row) new r last q → told ≡ Two number place row
      → take q last ≡ refusal_text (told_says told)
  told-two {row} third e =
      (put_then (put_then (put_then word first) second) third).front ∙ spaced-three refused number place row
      ∙ ap (λ s. refusal_text (told_says s)) (sym e)

-- ---- ended
pub counts-within : (n : ℕ) (l : List ℕ) → n ≤ length l → IsPrefixLen n l
counts-within n l h = (h, sym (length-take-le n l h))

-- a byte that is written leaves as many to count
pub counts-set : (n : ℕ) (l : List ℕ) (at x : ℕ) → n ≤ length l → IsPrefixLen n (set l at x)
counts-set n l at x h = counts-within n (set l at x) (simp length-set h)

-- the newline, behind a text and in an empty line
pub ended_some : (l : List ℕ) (end : ℕ) → 0 < end → end ≤ length l → take end (set l (end - 1) 10) ≡ ended (take end l)
unfolding ended
ended_some l end h k =
    let e : suc (end - 1) ≡ end = omega arith in
    let p : take end (set l (end - 1) 10) ≡ take (end - 1) l ++ 10 ∷ [] = rw e at (take-suc-set l (end - 1) 10 (omega arith)) in
    p ∙ sym (rw (length-take-le end l k, take-take (end - 1) end l (omega arith)))

pub ended-none : (l : List ℕ) (end : ℕ) → end ≡ 0 → 0 < length l → take 1 (set l 0 10) ≡ ended (take end l)
unfolding ended
ended-none l end e h = rw e (take-suc-set l 0 10 h)

-- ---- listing_line and refusal_line: two lines, computed, "10 0" and "refused 10 1 3"
pub listing-shown : listing_line (10 ∷ 0 ∷ []) ≡ 49 ∷ 48 ∷ 32 ∷ 48 ∷ 10 ∷ []
unfolding listing_line ended spaced_all spaced decimal places first first_from
listing-shown = refl

pub refusal-shown : refusal_line (said 10 (1 ∷ 3 ∷ [])) ≡ refused ++ 49 ∷ 48 ∷ 32 ∷ 49 ∷ 32 ∷ 51 ∷ 10 ∷ []
unfolding refusal_line ended spaced_all spaced decimal places first first_from
refusal-shown = refl

-- ---- line_of
-- the line of what came of a call: of the words ws, so many of the lent ones, or of the refusal
module _ (a : Answer) (new : List ℕ) {line : List ℕ} where
  pub line-written : (n : ℕ) (ws : List ℕ) → a ≡ Ok n → line ≡ listing_line ws → ws ≡ take n new → line ≡ line_of (came a new)
  unfolding line_of
  line-written n ws e of all =
      of ∙ ap listing_line all ∙ sym (pick_true _ _ _ (eq-eqb 0 0 refl)) ∙ ap (λ (r : Answer). line_of (came r new)) (sym e)

  pub line_refused : (f : Refusal) → a ≡ Err f → line ≡ refusal_line (refusal_says f) → line ≡ line_of (came a new)
  unfolding line_of
  line_refused f e of =
      of ∙ sym (pick-false _ _ _ (ne_eqb _ _ (refusal-number f))) ∙ ap (λ (r : Answer). line_of (came r new)) (sym e)

-- what is written lies in the lent words: as the code has it
pub inside-written : {a : Answer} {n room : ℕ} → a ≡ Ok n → Inside a room → n ≤ room
inside-written e h = rw e at h

-- of a translation
pub inside-outcome : (a : Answer) (b lent new : List ℕ) {room : ℕ} → came a new ≡ outcome b lent → length lent ≤ room → Inside a room
unfolding outcome
inside-outcome (Ok n) b lent new e h =
    let says = ap (λ (o : Outcome). o.says) e in
    let fits = (exactly-written b lent).0 (sym (ap (λ (s : Said). s.number) says)) in
    let long = ap (λ (s : Said). get_or s.values 0 0) (says ∙ written-says b lent fits.0 fits.1) in
    omega (arith, fits.1)
inside-outcome (Err f) b lent new e h = tt

-- of a rehearsal
pub inside-rehearsal : (a : Answer) (b ms lent new : List ℕ) {room : ℕ} → came a new ≡ rehearsal b ms lent → length lent ≤ room → Inside a room
unfolding rehearsal
inside-rehearsal (Ok n) b ms lent new e h =
    let says = ap (λ (o : Outcome). o.says) e in
    let (plays, moves, named, fits) = (exactly-played b ms lent).0 (sym (ap (λ (s : Said). s.number) says)) in
    let long = ap (λ (s : Said). get_or s.values 0 0) (says ∙ played-says b ms lent plays moves named fits) in
    omega arith
inside-rehearsal (Err f) b ms lent new e h = tt

-- where there is room for the listing of a book that plays, the line is the listing's
pub line-listing : (b lent : List ℕ) → Plays b → length (listing b) ≤ length lent → line_of (outcome b lent) ≡ listing_line (listing b)
unfolding line_of outcome
line-listing b lent plays room =
    let says = written-says b lent plays room in
    let accepted = ap (λ (s : Said). s.number) says in
    let long = ap (λ (s : Said). get_or s.values 0 0) says in
    pick_true _ _ _ (eq-eqb _ _ accepted)
    ∙ ap₂ (λ (n : ℕ) (ws : List ℕ). listing_line (take n ws)) long (written-past b lent accepted)
    ∙ ap listing_line (take-append_seam (listing b) _)

-- ---- reading_line
-- the word "accepted", put at the line's start
pub line-accepted : {text old new : List ℕ} {r : ℕ} → Put text old 0 new r → text ≡ accepted_line → take r new ≡ reading_line accepted
unfolding reading_line
line-accepted put e = put.front ∙ e ∙ sym (pick_true _ _ _ (eq-eqb 0 0 refl))

pub reading-refused : (f : Refusal) → refusal_line (refusal_says f) ≡ reading_line (refusal_says f)
unfolding reading_line
reading-refused f = sym (pick-false _ _ _ (ne_eqb _ _ (refusal-number f)))
