-- Laws of derivations on bytes: the outcome by its cases; the room after both are loaded into it; and the bytes of words are checked as the
-- words are. Assumes nothing.
use Rattle.std.specs.Prelude.{ℕ, ◌+◌, ◌-◌, ◌/◌, ◌≤◌, ◌<◌, Bool, true, false, ◌||◌, ◌≡◌, refl, ltb, length, get_or, take, drop, Option, None, Some, Result, Ok, Err}
use mathlib.Core.List.{List, [], ◌∷◌, ◌++◌, append-nil, append_assoc}
use Rattle.std.proofs.Common.{sym, ◌∙◌, arith, length-drop, length-append, drop_of_length-le, take_all, drop-drop, lt-ltb, le-ltb}
use Rattle.std.proofs.Math.Path.{ap, ap₂}
use Rattle.std.proofs.Math.Decide.{dec_lt}
use Rattle.std.proofs.Math.Option.{Option as Maybe, some}
use Rattle.std.proofs.lemmas.List.Edits.{sets, sets-eq}
use Rattle.std.proofs.Math.Seq.{length-sets, take-append_seam, drop-append_seam}
use Rattle.words.specs.Choice.{pick}
use Rattle.words.specs.Choice.Laws.{pick_true, pick-false}
use Rattle.words.specs.Run.{All}
use Rattle.words.specs.Overlay.{cap, Wrote}
use Rattle.words.specs.Overlay.Laws.{sets-append, wrote-length}
use Rattle.octets.specs.Octets.{words_in, uneven, bytes_of_all}
use Rattle.octets.specs.Octets.Laws.{words-length, bytes-even, bytes_back, loaded-front, loaded-all}
use Rattle.typing.specs.Apart.{keeps_apart}
use Rattle.typing.specs.Derivation.{Verdict, verdict}
use Rattle.checking.specs.declared.Finding.{Finding}
use Rattle.checking.specs.Finding.{finding_says}
use Rattle.checking.specs.Large.{too_large}
use Rattle.checking.specs.Large.Laws.{large-refused, large-front}
use Rattle.book.specs.declared.Refusal.{Refusal}
use Rattle.book.specs.declared.Refusal.TheVariants.{Large}
use Rattle.book.specs.Said.{Said, said}
use Rattle.translation.specs.Outcome.{Outcome}
use Rattle.examining.specs.Checked.{verdict_said, checked_says, checked, apart_said, odd, short, many, unless_many, needed, checked_in, checked_bytes, checked_said}
use Rattle.examining.specs.Checked.{apart_found, replied, apart_in, apart_bytes, apart_asked}

-- ---- what is found, where a verdict is
some_is : {A : Type 0} {a b : A} → ◌≡◌ {A = Maybe A} (some a) (some b) → a ≡ b
some_is e = cc

pub finding-said : (c : Result Finding Refusal) (v : Verdict) → finding_says c ≡ some v → checked_says c ≡ verdict_said v
finding-said (Ok f) v e = ap verdict_said (some_is e)
finding-said (Err (Large n)) v e = ap verdict_said (some_is e)
finding-said (Err r) v e = absurd (let z : ◌≡◌ {A = ℕ} 0 1 = cc in omega arith)

-- ---- checked_bytes, by its cases
module _ (xs ds room : List ℕ) where
  pub checked-odd-asked : uneven xs ≡ true → checked_bytes xs ds room ≡ odd room
  unfolding checked_bytes
  checked-odd-asked e = pick_true _ _ _ (rw e)

  pub checked-odd-derivation : uneven xs ≡ false → uneven ds ≡ true → checked_bytes xs ds room ≡ odd room
  unfolding checked_bytes
  checked-odd-derivation e f = pick_true _ _ _ (rw (e, f))

  module _ (e : uneven xs ≡ false) (f : uneven ds ≡ false) where
    pub checked-many : (n : ℕ) → too_large (words_in ds) ≡ Some n → checked_bytes xs ds room ≡ many n room
    unfolding checked_bytes
    checked-many n h =
        pick-false _ _ _ (rw (e, f))
        ∙ ap (λ (o : Option ℕ). unless_many o room (pick (ltb (length room) (needed xs ds)) (short (needed xs ds) room) (checked_in xs ds room))) h

    module _ (z : too_large (words_in ds) ≡ None) where
      past-many : checked_bytes xs ds room ≡ pick (ltb (length room) (needed xs ds)) (short (needed xs ds) room) (checked_in xs ds room)
      unfolding checked_bytes
      past-many =
          pick-false _ _ _ (rw (e, f))
          ∙ ap (λ (o : Option ℕ). unless_many o room (pick (ltb (length room) (needed xs ds)) (short (needed xs ds) room) (checked_in xs ds room))) z

      pub checked-short : length room < needed xs ds → checked_bytes xs ds room ≡ short (needed xs ds) room
      checked-short h = past-many ∙ pick_true _ _ _ (lt-ltb (length room) (needed xs ds) h)

      pub checked-enough : needed xs ds ≤ length room → checked_bytes xs ds room ≡ checked_in xs ds room
      checked-enough h = past-many ∙ pick-false _ _ _ (le-ltb (length room) (needed xs ds) h)

    -- 24 is the verdict's own
    pub many-said : (n : ℕ) → too_large (words_in ds) ≡ Some n → (many n room).says ≡ verdict_said (verdict (words_in xs) (words_in ds))
    many-said n h = ap verdict_said (sym (large-refused (words_in xs) (words_in ds) n h))

-- ---- what holds of all that can be said of a derivation
module _ (xs ds room : List ℕ) (P : Said → Type 0) (p₁ : P (said 1 (0 ∷ []))) (p₂₄ : (n : ℕ) → P (said 24 (n ∷ [])))
    (p₁₂ : (n : ℕ) → P (said 12 (n ∷ []))) (p : P (verdict_said (verdict (words_in xs) (words_in ds)))) where
  pub checked-by : P (checked_bytes xs ds room).says
  checked-by = go (uneven xs) refl (uneven ds) refl
    where
      from : (o : Outcome) → checked_bytes xs ds room ≡ o → P o.says → P (checked_bytes xs ds room).says
      from o e q = rw e q

      both : uneven xs ≡ false → uneven ds ≡ false → (o : Option ℕ) → too_large (words_in ds) ≡ o → P (checked_bytes xs ds room).says
      both e f (Some n) d = from (many n room) (checked-many xs ds room e f n d) (p₂₄ n)
      both e f None z = elim (dec_lt (length room) (needed xs ds)) [
        | yes h ↦ from (short (needed xs ds) room) (checked-short xs ds room e f z h) (p₁₂ (needed xs ds))
        | no h ↦ from (checked_in xs ds room) (checked-enough xs ds room e f z (omega arith)) p
      ]

      go : (v : Bool) → uneven xs ≡ v → (w : Bool) → uneven ds ≡ w → P (checked_bytes xs ds room).says
      go true e w f = from (odd room) (checked-odd-asked xs ds room e) p₁
      go false e true f = from (odd room) (checked-odd-derivation xs ds room e f) p₁
      go false e false f = both e f (too_large (words_in ds)) refl

-- ---- apart_bytes, by its cases
module _ (xs room : List ℕ) where
  pub apart-odd : uneven xs ≡ true → apart_bytes xs room ≡ odd room
  unfolding apart_bytes
  apart-odd e = pick_true _ _ _ e

  module _ (e : uneven xs ≡ false) where
    pub apart-short : length room < length xs / 4 → apart_bytes xs room ≡ short (length xs / 4) room
    unfolding apart_bytes
    apart-short h = pick-false _ _ _ e ∙ pick_true _ _ _ (lt-ltb (length room) (length xs / 4) h)

    pub apart-enough : length xs / 4 ≤ length room → apart_bytes xs room ≡ apart_in xs room
    unfolding apart_bytes
    apart-enough h = pick-false _ _ _ e ∙ pick-false _ _ _ (le-ltb (length room) (length xs / 4) h)

pub replied_apart : (t : Bool) (room : List ℕ) → replied (Ok t) room ≡ apart_found t room
unfolding pick
replied_apart true room = refl
replied_apart false room = refl

-- ---- an outcome by what is tested
pub ruleset outcomes = (
  checked-odd-asked,
  checked-odd-derivation,
  checked-many,
  checked-short,
  checked-enough,
  apart-odd,
  apart-short,
  apart-enough,
)

-- ---- where there is room for both, room is no matter
said-odd : (v : Bool) → v ≡ true → (s : Said) → pick v (said 1 (0 ∷ [])) s ≡ said 1 (0 ∷ [])
said-odd v e s = pick_true _ _ _ e

said-even : (v : Bool) → v ≡ false → (s : Said) → pick v (said 1 (0 ∷ [])) s ≡ s
said-even v e s = pick-false _ _ _ e

pub checked-roomy : (xs ds room : List ℕ) → needed xs ds ≤ length room → (checked_bytes xs ds room).says ≡ checked_said xs ds
unfolding checked_said
checked-roomy xs ds room h = go (uneven xs) refl (uneven ds) refl
  where
    both : uneven xs ≡ false → uneven ds ≡ false → (o : Option ℕ) → too_large (words_in ds) ≡ o → (checked_bytes xs ds room).says ≡ checked_said xs ds
    both e f None z = ap (λ (o : Outcome). o.says) (checked-enough xs ds room e f z h) ∙ sym (said-even (uneven xs || uneven ds) (rw (e, f)) _)
    both e f (Some n) d =
        ap (λ (o : Outcome). o.says) (checked-many xs ds room e f n d) ∙ many-said xs ds room e f n d
        ∙ sym (said-even (uneven xs || uneven ds) (rw (e, f)) _)

    go : (v : Bool) → uneven xs ≡ v → (w : Bool) → uneven ds ≡ w → (checked_bytes xs ds room).says ≡ checked_said xs ds
    go true e w f = ap (λ (o : Outcome). o.says) (checked-odd-asked xs ds room e) ∙ sym (said-odd (uneven xs || uneven ds) (rw e) _)
    go false e true f =
        ap (λ (o : Outcome). o.says) (checked-odd-derivation xs ds room e f) ∙ sym (said-odd (uneven xs || uneven ds) (rw (e, f)) _)
    go false e false f = both e f (too_large (words_in ds)) refl

pub apart-roomy : (xs room : List ℕ) → length xs / 4 ≤ length room → (apart_bytes xs room).says ≡ apart_asked xs
unfolding apart_asked
apart-roomy xs room h = go (uneven xs) refl
  where
    go : (v : Bool) → uneven xs ≡ v → (apart_bytes xs room).says ≡ apart_asked xs
    go true e = ap (λ (o : Outcome). o.says) (apart-odd xs room e) ∙ sym (said-odd (uneven xs) e _)
    go false e = ap (λ (o : Outcome). o.says) (apart-enough xs room e h) ∙ sym (said-even (uneven xs) e _)

-- ---- what was loaded, where there is room for all: these words, and so many
module _ (bs : List ℕ) {old new : List ℕ} {r : ℕ} (w : Wrote (take (length old) (words_in bs)) old 0 new r)
    (few : length bs / 4 ≤ length old) (low : length old ≤ cap) where
  all : take (length old) (words_in bs) ≡ words_in bs
  all = let l = words-length bs in take_all (length old) (words_in bs) (omega arith)

  pub laid-list : new ≡ sets old 0 (words_in bs)
  laid-list = w.list ∙ ap (sets old 0) all

  pub laid-many : r ≡ length (words_in bs)
  laid-many =
      let n = w.next in
      let m = ap length all in
      let l = words-length bs in
      omega arith

-- as much of a derivation was loaded as its lines have words
pub large-loaded : (ds : List ℕ) {old new : List ℕ} {r : ℕ} {c : Option ℕ} → length old ≡ 9217 → Wrote (take (length old) (words_in ds)) old 0 new r
    → c ≡ too_large (take r new) → c ≡ too_large (words_in ds)
large-loaded ds size w e = e ∙ ap too_large (loaded-front ds size w (omega arith)) ∙ large-front (words_in ds) 9217 (omega arith)

-- what is asked was loaded, and its words were asked about
pub apart-loaded : (xs : List ℕ) {old new : List ℕ} {r : ℕ} → Wrote (take (length old) (words_in xs)) old 0 new r
    → length xs / 4 ≤ length old → length old ≤ cap → {b : Bool} → b ≡ keeps_apart (take r new) → apart_found b new ≡ apart_in xs old
apart-loaded xs {old} {new} {r} w few low {b} e =
    let l = words-length xs in
    let read : take r new ≡ words_in xs = loaded-all xs refl w low few in
    ap₂ (λ (x : Bool) (y : List ℕ). apart_found x y) (e ∙ ap keeps_apart read) (laid-list xs w few low)

-- ---- the room: the words D were laid over its front, and the words A over what is behind them
module _ (room D A : List ℕ) (fits : length D + length A ≤ length room) {mid part new final : List ℕ} {n : ℕ}
    (front : mid ≡ sets room 0 D) (many : n ≡ length D) (behind : part ≡ drop n mid) (laid : new ≡ sets part 0 A)
    (whole : final ≡ take n mid ++ new) where
  mid-length : length mid ≡ length room
  mid-length = ap length front ∙ length-sets room 0 D

  part_length : length part ≡ length room - n
  part_length = ap length behind ∙ length-drop n mid ∙ ap (λ l. l - n) mid-length

  new_is : new ≡ A ++ drop (n + length A) mid
  new_is =
      let l = part_length in
      let e : 0 + length A ≡ length A = omega arith in
      laid ∙ sets-eq A part 0 (omega arith) ∙ ap (λ (k : ℕ). A ++ drop k part) e
      ∙ ap (λ (l : List ℕ). A ++ drop (length A) l) behind
      ∙ ap (λ (l : List ℕ). A ++ l) (drop-drop (length A) n mid)

  -- one behind another
  pub room-laid : final ≡ sets room 0 (D ++ A)
  room-laid =
      let l = mid-length in
      let at : n ≡ 0 + length D = omega arith in
      whole ∙ ap (λ (x : List ℕ). take n mid ++ x) new_is ∙ sym (append_assoc (take n mid) A (drop (n + length A) mid))
      ∙ sym (sets-eq A mid n (omega arith))
      ∙ ap₂ (λ (x : List ℕ) (k : ℕ). sets x k A) front at ∙ sym (sets-append D A room 0)

  final-is : final ≡ D ++ (A ++ drop (0 + length (D ++ A)) room)
  final-is =
      let l = length-append D A in
      room-laid ∙ sets-eq (D ++ A) room 0 (omega arith) ∙ append_assoc D A (drop (0 + length (D ++ A)) room)

  -- so they are read there
  pub room-front : take n final ≡ D
  room-front = ap₂ take many final-is ∙ take-append_seam D _

  pub room-behind : (m : ℕ) → m ≡ length A → take m (drop n final) ≡ A
  room-behind m e = ap₂ take e (ap₂ drop many final-is ∙ drop-append_seam D _) ∙ take-append_seam A _

-- both were loaded, what is asked into the part behind the derivation, which came back; and there they were checked
module _ (xs ds : List ℕ) {room mid part new final : List ℕ} {n m : ℕ} (first : Wrote (take (length room) (words_in ds)) room 0 mid n)
    (fits : needed xs ds ≤ length room) (low : length room ≤ cap) (behind : part ≡ take (length mid - n) (drop n mid))
    (second : Wrote (take (length part) (words_in xs)) part 0 new m)
    (whole : final ≡ take n mid ++ (new ++ drop (length mid - n) (drop n mid))) where
  mid-many : length mid ≡ length room
  mid-many = wrote-length first

  n-is : n ≡ length (words_in ds)
  n-is = laid-many ds first (omega arith) low

  part-is : part ≡ drop n mid
  part-is = let l = length-drop n mid in behind ∙ take_all (length mid - n) (drop n mid) (omega arith)

  part-many : length part ≡ length room - n
  part-many = ap length part-is ∙ length-drop n mid ∙ ap (λ l. l - n) mid-many

  enough : length xs / 4 ≤ length part
  enough =
      let p = part-many in
      let e = n-is in
      let w = words-length ds in
      omega arith

  part_low : length part ≤ cap
  part_low = let p = part-many in omega arith

  whole_is : final ≡ take n mid ++ new
  whole_is =
      let l = length-drop n mid in
      let none : drop (length mid - n) (drop n mid) ≡ [] = drop_of_length-le (drop n mid) {i = length mid - n} (omega arith) in
      whole ∙ ap (λ (x : List ℕ). take n mid ++ (new ++ x)) none ∙ ap (λ (x : List ℕ). take n mid ++ x) (append-nil new)

  m-is : m ≡ length (words_in xs)
  m-is = laid-many xs second enough part_low

  both : length (words_in ds) + length (words_in xs) ≤ length room
  both =
      let w = words-length ds in
      let u = words-length xs in
      omega arith

  -- the derivation lies inside
  pub front-inside : n ≤ length final
  front-inside =
      let one = laid-list ds first (omega arith) low in
      let two = laid-list xs second enough part_low in
      let lay = room-laid room (words_in ds) (words_in xs) both one n-is part-is two whole_is in
      let l = ap length lay ∙ length-sets room 0 (words_in ds ++ words_in xs) in
      let e = n-is in
      let w = words-length ds in
      omega arith

  pub checked-loaded : (c : Result Finding Refusal) → finding_says c ≡ some (verdict (take (n + m - n) (drop n final)) (take n final))
      → checked c final ≡ checked_in xs ds room
  checked-loaded c e =
      let D = words_in ds in
      let A = words_in xs in
      let one = laid-list ds first (omega arith) low in
      let two = laid-list xs second enough part_low in
      let lay = room-laid room D A both one n-is part-is two whole_is in
      let front = room-front room D A both one n-is part-is two whole_is in
      let rest = room-behind room D A both one n-is part-is two whole_is (n + m - n) (let k = m-is in omega arith) in
      ap₂ (λ (s : Said) (y : List ℕ). record { says = s; lent = y }) (finding-said c _ e ∙ ap verdict_said (ap₂ verdict rest front)) lay

-- ---- what is said of bound names, as the code tests it
module _ {t b : Bool} (tested : t ≡ b) where
  pub said-apart : t ≡ true → said 0 (1 ∷ []) ≡ apart_said b
  said-apart e = ap (λ n. said 0 (n ∷ [])) (sym (pick_true _ _ _ (sym tested ∙ e)))

  pub said-not-apart : t ≡ false → said 0 (0 ∷ []) ≡ apart_said b
  said-not-apart e = ap (λ n. said 0 (n ∷ [])) (sym (pick-false _ _ _ (sym tested ∙ e)))

-- ---- no two findings say the same
pub said-injective : (u v : Verdict) → verdict_said u ≡ verdict_said v → u ≡ v
said-injective u v e = go u v (ap (λ (s : Said). s.number) e) (ap (λ (s : Said). get_or s.values 0 0) e) (ap (λ (s : Said). get_or s.values 1 0) e)
  where
    go : (u v : Verdict) → (verdict_said u).number ≡ (verdict_said v).number
        → get_or (verdict_said u).values 0 0 ≡ get_or (verdict_said v).values 0 0
        → get_or (verdict_said u).values 1 0 ≡ get_or (verdict_said v).values 1 0 → u ≡ v
    go Verdict.safe Verdict.safe n f s = refl
    go Verdict.safe (Verdict.bad i) n f s = absurd (omega arith)
    go Verdict.safe Verdict.another n f s = absurd (omega arith)
    go Verdict.safe (Verdict.refused k) n f s = absurd (omega arith)
    go (Verdict.bad i) Verdict.safe n f s = absurd (omega arith)
    go (Verdict.bad i) (Verdict.bad j) n f s = ap Verdict.bad s
    go (Verdict.bad i) Verdict.another n f s = absurd (omega arith)
    go (Verdict.bad i) (Verdict.refused k) n f s = absurd (omega arith)
    go Verdict.another Verdict.safe n f s = absurd (omega arith)
    go Verdict.another (Verdict.bad i) n f s = absurd (omega arith)
    go Verdict.another Verdict.another n f s = refl
    go Verdict.another (Verdict.refused k) n f s = absurd (omega arith)
    go (Verdict.refused k) Verdict.safe n f s = absurd (omega arith)
    go (Verdict.refused k) (Verdict.bad i) n f s = absurd (omega arith)
    go (Verdict.refused k) Verdict.another n f s = absurd (omega arith)
    go (Verdict.refused k) (Verdict.refused l) n f s = ap Verdict.refused f

-- ---- the bytes of words are checked as the words are
module _ (a w : List ℕ) (low_asked : All (λ x. x < 4294967296) a) (low : All (λ x. x < 4294967296) w) where
  pub checked-of-words : checked_said (bytes_of_all a) (bytes_of_all w) ≡ verdict_said (verdict a w)
  unfolding checked_said
  checked-of-words =
      pick-false _ _ _ (rw (bytes-even a, bytes-even w)) ∙ ap₂ (λ (x y : List ℕ). verdict_said (verdict x y)) (bytes_back a low_asked) (bytes_back w low)

  pub apart-of-words : apart_asked (bytes_of_all a) ≡ apart_said (keeps_apart a)
  unfolding apart_asked
  apart-of-words = pick-false _ _ _ (bytes-even a) ∙ ap (λ (x : List ℕ). apart_said (keeps_apart x)) (bytes_back a low_asked)
