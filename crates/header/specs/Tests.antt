-- The small tests of `book`'s rules, where code compared numbers that calls gave. Assumes nothing.
use Rattle.std.specs.Prelude.{ℕ, ◌≤◌, ◌<◌, Bool, true, false, List, [], ◌∷◌, ◌≡◌, ltb, leb, eqb}
use Rattle.std.proofs.Common.{sym, ◌∙◌, arith, lt-ltb, le-ltb, le-leb, eq-eqb, ne_eqb}
use Rattle.std.proofs.lemmas.Bool.{lt-leb}
use Rattle.words.specs.Choice.{pick}
use Rattle.words.specs.Choice.Laws.{pick_true, pick-false}
use Rattle.book.specs.Rules.{one_of, outside}

-- ---- leb and eqb: r and s are what calls gave for a and b
pub leb_yes : (a b r s : ℕ) → r ≡ a → s ≡ b → r ≤ s → leb a b ≡ true
leb_yes a b r s d e h = le-leb a b (omega arith)

pub leb_no : (a b r s : ℕ) → r ≡ a → s ≡ b → s < r → leb a b ≡ false
leb_no a b r s d e h = lt-leb a b (omega arith)

pub eqb_yes : (a b r s : ℕ) → r ≡ a → s ≡ b → r ≡ s → eqb a b ≡ true
eqb_yes a b r s d e h = eq-eqb a b (omega arith)

pub eqb_no : (a b r s : ℕ) → r ≡ a → s ≡ b → (r ≡ s → ⊥) → eqb a b ≡ false
eqb_no a b r s d e h = ne_eqb a b (λ z. h (d ∙ z ∙ sym e))

-- ---- outside
pub outside_below : (lo hi x : ℕ) → x < lo → true ≡ outside lo hi x
unfolding outside
outside_below lo hi x h = rw (lt-ltb x lo h)

pub outside_above : (lo hi x : ℕ) → lo ≤ x → ltb hi x ≡ outside lo hi x
unfolding outside
outside_above lo hi x h = rw (le-ltb x lo h)

-- ---- one_of: the first test holds; it fails, and the others decide; it is the last
pub one-here : (t : Bool) (ts : List Bool) → t ≡ true → true ≡ one_of (t ∷ ts)
unfolding one_of
one-here t ts e = sym (pick_true t true (one_of ts) e)

pub one_on : (v t : Bool) (ts : List Bool) → t ≡ false → v ≡ one_of ts → v ≡ one_of (t ∷ ts)
unfolding one_of
one_on v t ts e h = h ∙ sym (pick-false t true (one_of ts) e)

pub one_last : (v t : Bool) → v ≡ t → v ≡ one_of (t ∷ [])
unfolding one_of pick
one_last true t e = sym (pick_true t true false (sym e))
one_last false t e = sym (pick-false t true false (sym e))
