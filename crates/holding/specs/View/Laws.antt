-- Laws of the view. Assumes nothing.
use Rattle.std.specs.Prelude.{ℕ, ◌<◌, true, false, List, ◌≡◌, length, get_or, set, ltb}
use Rattle.std.proofs.Common.{true≢false, sym, ◌∙◌, arith, get_or-set_same, get_or-set_other, lt-ltb, le-ltb}
use Rattle.std.proofs.Math.Path.{refl, ap, fun_ext}
use Rattle.std.proofs.Math.Decide.{dec_lt}
use Rattle.words.specs.Choice.{pick, choose}
use Rattle.words.specs.Choice.Laws.{pick_true, pick-false}
use Rattle.words.specs.First.Laws.{first_holds}
use Rattle.terms.specs.Term.{Term, same}
use Rattle.terms.specs.Table.{term, number}
use Rattle.terms.specs.Table.Laws.{number-row}
use Rattle.book.specs.Layout.{table, rows}
use Rattle.book.specs.Valid.{Valid}
use Rattle.book.specs.Valid.Laws.{formed}
use Rattle.translation.specs.Dictionary.{free, enter}
use Rattle.translation.specs.Dictionary.Laws.{enter-same, enter-other}
use Rattle.holding.specs.Entry.{held_of}
use Rattle.holding.specs.View.{row_of, view}

chosen : {P : Type 0} (d : Dec P) → choose d true false ≡ true → P
unfolding choose
chosen (yes p) e = p
chosen (no q) e = absurd (true≢false (sym e))

-- ---- row_of
pub row-stands : (b : List ℕ) (t : Term) → row_of b t < rows b → term (table b) (row_of b t) ≡ t
unfolding number
row-stands b t l = chosen (same (term (table b) (row_of b t)) t) (first_holds (λ r. choose (same (term (table b) r) t) true false) (rows b) l)

module _ (b : List ℕ) (v : Valid b) where
  pub row-of : (r : ℕ) (t : Term) → r < rows b → term (table b) r ≡ t → row_of b t ≡ r
  row-of r t l e = ap (row_of b) (sym e) ∙ number-row (rows b) (table b) (formed b v) r l

  -- ---- view
  pub view-row : (e : List ℕ) (r : ℕ) → r < rows b → view b e (term (table b) r) ≡ held_of (get_or e r 0)
  unfolding view
  view-row e r l =
      let n = row-of r (term (table b) r) l refl in
      pick_true _ _ _ (lt-ltb (row_of b (term (table b) r)) (rows b) (omega arith)) ∙ ap (λ k. held_of (get_or e k 0)) n

  pub view-none : (e : List ℕ) (t : Term) → ((r : ℕ) → r < rows b → term (table b) r ≡ t → ⊥) → view b e t ≡ free
  unfolding view
  view-none e t n =
      elim (dec_lt (row_of b t) (rows b)) [
        | yes l ↦ absurd (n (row_of b t) l (row-stands b t l))
        | no l ↦ pick-false _ _ _ (le-ltb (row_of b t) (rows b) (omega arith))
      ]

  -- a store in the array is an entry in the dictionary
  pub view-set : (e : List ℕ) (r x : ℕ) → r < rows b → r < length e → view b (set e r x) ≡ enter (view b e) (term (table b) r) (held_of x)
  unfolding view
  view-set e r x h l = fun_ext (λ t. go t (same (term (table b) r) t))
    where
      here : (t : Term) → term (table b) r ≡ t → pick (ltb (row_of b t) (rows b)) (held_of (get_or (set e r x) (row_of b t) 0)) free ≡ held_of x
      here t p =
          let n = row-of r t h p in
          pick_true _ _ _ (lt-ltb (row_of b t) (rows b) (omega arith)) ∙ ap (λ k. held_of (get_or (set e r x) k 0)) n ∙ ap held_of (get_or-set_same e r x 0 l)

      other : (t : Term) → (term (table b) r ≡ t → ⊥) → Dec (row_of b t < rows b)
          → pick (ltb (row_of b t) (rows b)) (held_of (get_or (set e r x) (row_of b t) 0)) free
          ≡ pick (ltb (row_of b t) (rows b)) (held_of (get_or e (row_of b t) 0)) free
      other t q (yes k) =
          ap (λ y. pick (ltb (row_of b t) (rows b)) (held_of y) free)
          (get_or-set_other e r (row_of b t) x 0 (λ z. q (ap (term (table b)) (sym z) ∙ row-stands b t k)))
      other t q (no k) = let m = le-ltb (row_of b t) (rows b) (omega arith) in pick-false _ _ _ m ∙ sym (pick-false _ _ _ m)

      go : (t : Term) → Dec (term (table b) r ≡ t)
          → pick (ltb (row_of b t) (rows b)) (held_of (get_or (set e r x) (row_of b t) 0)) free ≡ enter (view b e) (term (table b) r) (held_of x) t
      go t (yes p) = here t p ∙ sym (ap (enter (view b e) (term (table b) r) (held_of x)) (sym p) ∙ enter-same (view b e) (term (table b) r) (held_of x))
      go t (no q) = other t q (dec_lt (row_of b t) (rows b)) ∙ sym (enter-other (view b e) (term (table b) r) (held_of x) t q)
