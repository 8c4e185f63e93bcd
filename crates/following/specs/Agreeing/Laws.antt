-- Laws of comparing their words with ours. Assumes nothing.
use Rattle.std.specs.Prelude.{ℕ, ◌≤◌, ◌<◌, Bool, false, List, ◌⊎◌, ◌≡◌, refl, length, get_or, eqb}
use Rattle.std.proofs.Common.{append-nil, inl, inr, sym, ap, ap₂, ◌∙◌, arith, lt-ltb, le-ltb}
use Rattle.words.specs.Choice.{pick}
use Rattle.words.specs.Choice.Laws.{pick_true, pick-false}
use Rattle.renaming.specs.Slot.{Slot}
use Rattle.renaming.specs.Renaming.{agrees, stands}
use Rattle.scanning.specs.declared.Class.{Class}
use Rattle.scanning.specs.declared.Mode.{Mode}
use Rattle.scanning.specs.Scan.{class_of, slot_of}
use Rattle.naming.specs.declared.Range.{Range}
use Rattle.naming.specs.Mirror.{handed_by, told}
use Rattle.naming.specs.Called.{Ranged, name_of, StoredIn}
use Rattle.naming.specs.Called.Laws.{called-recent, called-older}
use Rattle.following.specs.Agreeing.{AgreeReady}

-- ---- a slot by its class
slot-plain : (c : Class) (w v : ℕ) → (c ≡ Class.Use → ⊥) → (c ≡ Class.First → ⊥) → slot_of c w v ≡ Slot.plain w
slot-plain Class.Plain w v p q = refl
slot-plain Class.Use w v p q = absurd (p refl)
slot-plain Class.First w v p q = absurd (q refl)
slot-plain Class.Length w v p q = refl

-- ---- a word stands there, or none
stands-past : (ws : List ℕ) (a : ℕ) (names : List ℕ) (s : Slot) → length ws ≤ a → false ≡ stands ws a names s
unfolding stands
stands-past ws a names s h = sym (pick-false _ _ _ (le-ltb a (length ws) h))

stands-there : (ws : List ℕ) (a : ℕ) (names : List ℕ) (s : Slot) {r : Bool} → a < length ws → r ≡ agrees names s (get_or ws a 0)
    → r ≡ stands ws a names s
unfolding stands
stands-there ws a names s h e = e ∙ sym (pick_true _ _ _ (lt-ltb a (length ws) h))

uses-agree : (names : List ℕ) (x y : ℕ) → x < length names → eqb y (get_or names x 0) ≡ agrees names (Slot.uses x) y
unfolding agrees
uses-agree names x y h = sym (pick_true _ _ _ (lt-ltb x (length names) h))

plain-agree : (names : List ℕ) (w y : ℕ) → eqb y w ≡ agrees names (Slot.plain w) y
unfolding agrees
plain-agree names w y = refl

-- ---- at the first of a run, the names are those that their words hand out
pub told-first : (ws : List ℕ) (a : ℕ) (m : Mode) (w : ℕ) → Class.First ≡ class_of m → told ws a m w ≡ handed_by ws a
unfolding pick
told-first ws a m w e = rw (← e) (append-nil (handed_by ws a))

-- ---- what is compared
module _ {ws : List ℕ} {k a : ℕ} {m : Mode} {w begin : ℕ} {table log : List ℕ} {n : ℕ} {called : List ℕ} {range : Range}
    (g : AgreeReady ws k a m w begin table log n called range) (v : ℕ) where
  abbrev names : List ℕ
  names = told ws a m w

  pub agree-past : k ≤ a → false ≡ stands ws a names (slot_of (class_of m) w v)
  agree-past h = let e = g.total in stands-past ws a names _ (omega arith)

  there : a < k → a < length ws
  there h = let e = g.total in omega arith

  below : (((begin ≤ w) × (w < length names)) ⊎ StoredIn log n w) → w < length names
  below (inl h) = h.1
  below (inr s) =
      let e = s.there in let b = g.calls.below s.index s.within in let l = g.calls.begun in omega arith

  name : (((begin ≤ w) × (w < length names)) ⊎ StoredIn log n w) → name_of w begin table log n called ≡ get_or names w 0
  name (inl h) = called-recent g.calls h.0 h.1
  name (inr s) = called-older g.calls s

  pub agree-use : {y r : ℕ} → a < k → y ≡ get_or ws a 0 → Class.Use ≡ class_of m → r ≡ name_of w begin table log n called
      → eqb y r ≡ stands ws a names (slot_of (class_of m) w v)
  agree-use {y} {r} h e q f =
      let known = g.known (sym q) in
      ap₂ eqb e (f ∙ name known) ∙ stands-there ws a names _ (there h) (uses-agree names w (get_or ws a 0) (below known))
      ∙ ap (λ (c : Class). stands ws a names (slot_of c w v)) q

  pub agree-first : {y : ℕ} {r : Bool} → a < k → y ≡ get_or ws a 0 → Class.First ≡ class_of m
      → r ≡ agrees (handed_by ws a) (Slot.runs w v) y → r ≡ stands ws a names (slot_of (class_of m) w v)
  agree-first {y} {r} h e q f =
      stands-there ws a names (Slot.runs w v) (there h)
      (f ∙ ap₂ (λ (x : List ℕ) (z : ℕ). agrees x (Slot.runs w v) z) (sym (told-first ws a m w q)) e)
      ∙ ap (λ (c : Class). stands ws a names (slot_of c w v)) q

  pub agree-ranged : Class.First ≡ class_of m → Ranged range.low range.high (handed_by ws a)
  agree-ranged q = rw (told-first ws a m w q) at g.ranged

  pub agree-plain : {y : ℕ} {c : Class} → a < k → y ≡ get_or ws a 0 → c ≡ class_of m → (c ≡ Class.Use → ⊥) → (c ≡ Class.First → ⊥)
      → eqb y w ≡ stands ws a names (slot_of (class_of m) w v)
  agree-plain {y} {c} h e q u t =
      ap (λ z. eqb z w) e ∙ stands-there ws a names (Slot.plain w) (there h) (plain-agree names w (get_or ws a 0))
      ∙ ap (stands ws a names) (sym (slot-plain (class_of m) w v (λ z. u (q ∙ z)) (λ z. t (q ∙ z))))
