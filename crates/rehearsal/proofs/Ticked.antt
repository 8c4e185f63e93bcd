-- Laws of a move: party p is at END, waits, or does its next event. Assumes nothing.
use Prim.Native.Nat.{ℕ, ◌+◌, ◌≤◌, ◌<◌}
use native.Mathlib.Numerals.{add-one}
use mathlib.Core.Bool.{Bool, true, false}
use mathlib.Core.List.{List, []}
use mathlib.Core.Path.{◌≡◌, sym, ap, ◌∙◌, fun_ext}
use lib.Dec.{ltb}
use lib.ListN.{length, get_or, set}
use lib.Seq.{get_or-set_same, get_or-set_other}
use borrow.Author.Tests.{lt-ltb, le-ltb}
use Rattle.words.specs.Choice.Laws.{pick_true, pick-false}
use Rattle.agreement.specs.Change.Laws.{change-ind}
use Rattle.agreement.specs.Change.{change}
use Rattle.playing.specs.Counting.{waits, ticked}
use Rattle.rehearsal.specs.Kept.{places, counts}
use Rattle.rehearsal.proofs.Waiting.{ends-apart}

-- a count that is written is a count that is changed
counts-set : (d : List ℕ) (p x : ℕ) → p < length d → counts (set d p x) ≡ change (counts d) p x
counts-set d p x l =
    let here : (q : ℕ) → p ≡ q → counts (set d p x) q ≡ x = λ q e. ap (λ i. get_or (set d p x) i 0) (sym e) ∙ get_or-set_same d p x 0 l in
    let there : (q : ℕ) → (p ≡ q → ⊥) → counts (set d p x) q ≡ counts d q = λ q n. get_or-set_other d p q x 0 (λ z. n (sym z)) in
    fun_ext (λ q. change-ind (counts d) p x (λ a. counts (set d p x) q ≡ a) q (here q) (there q))

module _ (b x y z d : List ℕ) (p : ℕ) where
  -- the counts when the party has moved
  abbrev after : ℕ → ℕ
  after = ticked b (places x y z) p (counts d)

  -- v and w are p as the code's indices, where it reads how many events the party has done and which its END is
  module _ {v w : ℕ} (e : v ≡ p) (f : w ≡ p) where
    pub at-end : get_or z w 0 ≤ get_or d v 0 → counts d ≡ after
    unfolding ticked
    at-end h = sym (pick-false _ _ _ (le-ltb (get_or d p 0) (get_or z p 0) (rw (e, f) at h)))

    module _ (h : get_or d v 0 < get_or z w 0) {t : Bool} (k : t ≡ waits b (places x y []) (counts d) p) where
      before-end : ltb (get_or d p 0) (get_or z p 0) ≡ true
      before-end = lt-ltb (get_or d p 0) (get_or z p 0) (rw (e, f) at h)

      pub still-waits : t ≡ true → counts d ≡ after
      unfolding ticked
      still-waits j = sym (pick_true _ _ _ before-end ∙ pick_true _ _ _ (sym (ends-apart b x y d p z) ∙ sym k ∙ j))

      -- and u, where it writes
      pub does-next : {u : ℕ} → u ≡ p → p < length d → t ≡ false → counts (set d u (get_or d v 0 + 1)) ≡ after
      unfolding ticked
      does-next g l j =
          rw (e, g)
          (counts-set d p (get_or d p 0 + 1) l ∙ ap (change (counts d) p) (add-one (get_or d p 0))
          ∙ sym (pick_true _ _ _ before-end ∙ pick-false _ _ _ (sym (ends-apart b x y d p z) ∙ sym k ∙ j)))
