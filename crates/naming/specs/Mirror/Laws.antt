-- Laws of their words gone through as ours are. Assumes nothing.
use Rattle.std.specs.Prelude.{ℕ, zero, suc, ◌+◌, ◌-◌, ◌/◌, Bool, ◌≡◌, length, get_or}
use Rattle.std.proofs.Math.Bool.{true, false}
use mathlib.Core.List.{List, [], ◌++◌, append-nil}
use Rattle.std.proofs.Math.Path.{refl, ap₂}
use Rattle.std.proofs.Common.{sym, ap, ◌∙◌, arith, add-one, length-append, eqb-true}
use Rattle.words.specs.Choice.{pick}
use Rattle.words.specs.Run.{values}
use Rattle.words.specs.First.Laws.{clash}
use Rattle.octets.specs.Octets.{words_in}
use Rattle.octets.specs.Octets.Laws.{words-length}
use Rattle.renaming.specs.Renaming.{numbers, fresh, agrees, named}
use Rattle.renaming.specs.Renaming.Fresh.{fresh-append}
use Rattle.scanning.specs.declared.Class.{Class}
use Rattle.scanning.specs.declared.Mode.{Mode}
use Rattle.scanning.specs.declared.Mode.TheVariants.{Event, Image, Last, Tag, More, Step, First, Length, Use, Opened, Row, Stored, Since}
use Rattle.scanning.specs.Scan.{more_pending, resumed, in_event, in_image, next_mode, class_of, slot_of, of_length, is_length, run_by}
use Rattle.naming.specs.Mirror.{theirs, mode_at, handed_by, told}

-- ---- words and bytes
pub theirs-length : (ws bs : List ℕ) → length (theirs ws bs) ≡ length ws + length bs / 4
theirs-length ws bs = let a = length-append ws (words_in bs) in let b = words-length bs in omega arith

-- ---- what the next word is, does not depend on a placeholder
pub next-same : (m : Mode) (w y : ℕ) → (class_of m ≡ Class.Plain → y ≡ w) → (class_of m ≡ Class.Length → y ≡ w) → next_mode m y ≡ next_mode m w
next-same Event w y f g = ap in_event (f refl)
next-same (Image l) w y f g = ap (λ z. in_image z l) (f refl)
next-same (Last l) w y f g = refl
next-same (Tag l) w y f g = refl
next-same (More l) w y f g = ap (next_mode (More l)) (f refl)
next-same Step w y f g = refl
next-same (First l) w y f g = refl
next-same (Length l) w y f g = refl
next-same (Use l) w y f g = refl
next-same Opened w y f g = refl
next-same Row w y f g = refl
next-same Stored w y f g = refl
next-same Since w y f g = refl

-- ---- a run's length stands behind its first number, and nowhere else
resumed-length : (l : ℕ) → is_length (resumed l) ≡ false
resumed-length zero = refl
resumed-length (suc l) = refl

event-length : (w : ℕ) → is_length (in_event w) ≡ false
event-length zero = refl
event-length (suc zero) = refl
event-length (suc (suc zero)) = refl
event-length (suc (suc (suc zero))) = refl
event-length (suc (suc (suc (suc zero)))) = refl
event-length (suc (suc (suc (suc (suc zero))))) = refl
event-length (suc (suc (suc (suc (suc (suc w)))))) = refl

image-length : (w l : ℕ) → is_length (in_image w l) ≡ false
image-length zero l = refl
image-length (suc zero) l = refl
image-length (suc (suc zero)) l = refl
image-length (suc (suc (suc zero))) l = refl
image-length (suc (suc (suc (suc w)))) l = refl

next-run : (m : Mode) (w y v : ℕ) → pick (is_length (next_mode m w)) (numbers y v) [] ≡ numbers y (run_by (class_of m) v)
unfolding pick values
next-run Event w y v = rw (event-length w)
next-run (Image l) w y v = rw (image-length w l)
next-run (Last l) w y v = rw (resumed-length l)
next-run (Tag l) w y v = refl
next-run (More l) w y v = rw (resumed-length (more_pending l w))
next-run Step w y v = refl
next-run (First l) w y v = refl
next-run (Length l) w y v = rw (resumed-length l)
next-run (Use l) w y v = rw (resumed-length l)
next-run Opened w y v = refl
next-run Row w y v = refl
next-run Stored w y v = refl
next-run Since w y v = refl

-- ---- a word more of theirs
pub mode_at-on : (ws : List ℕ) (a : ℕ) → next_mode (mode_at ws a) (get_or ws a 0) ≡ mode_at ws (a + 1)
unfolding mode_at
mode_at-on ws a = rw add-one

handed_by-on : (ws : List ℕ) (a : ℕ)
    → handed_by ws (a + 1) ≡ handed_by ws a ++ pick (is_length (mode_at ws a)) (numbers (get_or ws (a - 1) 0) (get_or ws a 0)) []
unfolding handed_by
handed_by-on ws a = rw add-one

-- the word that agrees is ours where it is plain
plain-agrees : (names : List ℕ) (c : Class) (w v y : ℕ) → c ≡ Class.Plain → agrees names (slot_of c w v) y ≡ true → y ≡ w
unfolding agrees
plain-agrees names c w v y e h = eqb-true y w (rw e at h)

length-agrees : (names : List ℕ) (c : Class) (w v y : ℕ) → c ≡ Class.Length → agrees names (slot_of c w v) y ≡ true → y ≡ w
unfolding agrees
length-agrees names c w v y e h = eqb-true y w (rw e at h)

-- the names behind it
told-class : (c : Class) (h : List ℕ) (prev w v y : ℕ) → (c ≡ Class.Length → y ≡ w)
    → (h ++ pick (of_length c) (numbers prev y) []) ++ numbers y (run_by c v) ≡ named (h ++ pick (of_length c) (numbers prev w) []) (slot_of c w v) y
unfolding pick named values
told-class Class.Plain h prev w v y f = append-nil (h ++ [])
told-class Class.Use h prev w v y f = append-nil (h ++ [])
told-class Class.First h prev w v y f = refl
told-class Class.Length h prev w v y f = append-nil _ ∙ ap (λ z. h ++ numbers prev z) (f refl)

module _ (ws : List ℕ) (a : ℕ) (m : Mode) (w v : ℕ) (e : m ≡ mode_at ws a)
    (h : agrees (told ws a m w) (slot_of (class_of m) w v) (get_or ws a 0) ≡ true) where
  pub mode-on : next_mode m w ≡ mode_at ws (a + 1)
  mode-on =
      sym (next-same m w (get_or ws a 0) (λ z. plain-agrees _ (class_of m) w v _ z h) (λ z. length-agrees _ (class_of m) w v _ z h))
      ∙ ap (λ (k : Mode). next_mode k (get_or ws a 0)) e ∙ mode_at-on ws a

  pub told-on : told ws (a + 1) (next_mode m w) v ≡ named (told ws a m w) (slot_of (class_of m) w v) (get_or ws a 0)
  told-on =
      let y = get_or ws a 0 in
      let one : a + 1 - 1 ≡ a = omega arith in
      let front = handed_by-on ws a ∙ ap (λ (k : Mode). handed_by ws a ++ pick (is_length k) (numbers (get_or ws (a - 1) 0) y) []) (sym e) in
      let last : pick (is_length (next_mode m w)) (numbers (get_or ws (a + 1 - 1) 0) v) [] ≡ numbers y (run_by (class_of m) v) =
      rw one (next-run m w y v) in
      ap₂ ◌++◌ front last ∙ told-class (class_of m) (handed_by ws a) (get_or ws (a - 1) 0) w v y (λ z. length-agrees _ (class_of m) w v y z h)

-- ---- the hunt through their words: how far it got
pub record Hunted (ws : List ℕ) (y n i : ℕ) (m : Mode) (last : ℕ) (free : Bool) : Type 0 where
  pub mode : m ≡ mode_at ws i
  pub prior : is_length m ≡ true → last ≡ get_or ws (i - 1) 0
  pub free-so-far : free ≡ fresh (handed_by ws i) y n

pub hunted-start : {ws : List ℕ} {y n last : ℕ} → Hunted ws y n 0 Event last true
unfolding mode_at handed_by fresh
hunted-start = record { mode = refl; prior = λ e. absurd (clash e refl); free-so-far = refl }

module _ {ws : List ℕ} {y n i : ℕ} {m : Mode} {last : ℕ} {free : Bool} (g : Hunted ws y n i m last free) where
  -- what word i tells, by what was read
  pub hunted-word : {w : ℕ} {c : Class} → w ≡ get_or ws i 0 → c ≡ class_of m
      → pick (of_length c) (numbers last w) [] ≡ pick (is_length (mode_at ws i)) (numbers (get_or ws (i - 1) 0) (get_or ws i 0)) []
  unfolding pick
  hunted-word {w} {c} e q = rw (q, g.mode) (go (is_length (mode_at ws i)) refl)
    where
      go : (v : Bool) → is_length (mode_at ws i) ≡ v → pick v (numbers last w) [] ≡ pick v (numbers (get_or ws (i - 1) 0) (get_or ws i 0)) []
      go true z = ap₂ numbers (g.prior (ap is_length g.mode ∙ z)) e
      go false z = refl

  pub hunted-on : {k : Mode} {w : ℕ} {c : Class} {more : Bool} → w ≡ get_or ws i 0 → c ≡ class_of m
      → more ≡ pick free (fresh (pick (of_length c) (numbers last w) []) y n) false → k ≡ next_mode m w → Hunted ws y n (i + 1) k w more
  hunted-on {k} {w} {c} {more} e q f t =
      let one : i + 1 - 1 ≡ i = omega arith in
      let word = hunted-word e q in
      let added = pick (is_length (mode_at ws i)) (numbers (get_or ws (i - 1) 0) (get_or ws i 0)) [] in
      record {
        mode = t ∙ ap (next_mode m) e ∙ ap (λ (x : Mode). next_mode x (get_or ws i 0)) g.mode ∙ mode_at-on ws i;
        prior = λ z. e ∙ ap (λ j. get_or ws j 0) (sym one);
        free-so-far =
            f ∙ ap (λ (x : List ℕ). pick free (fresh x y n) false) word ∙ ap (λ (x : Bool). pick x (fresh added y n) false) g.free-so-far
            ∙ sym (fresh-append (handed_by ws i) added y n) ∙ ap (λ (x : List ℕ). fresh x y n) (sym (handed_by-on ws i));
      }

-- ---- a word that is no run's length
pub still-other : (free : Bool) (c : Class) (y n : ℕ) (xs : List ℕ) → (c ≡ Class.Length → ⊥)
    → free ≡ pick free (fresh (pick (of_length c) xs []) y n) false
unfolding pick fresh
still-other false c y n xs h = refl
still-other true Class.Plain y n xs h = refl
still-other true Class.Use y n xs h = refl
still-other true Class.First y n xs h = refl
still-other true Class.Length y n xs h = absurd (h refl)
