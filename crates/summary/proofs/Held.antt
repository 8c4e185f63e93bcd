-- Writing a summary: what a party holds in the end tells its words, and the parties' words follow one another. Assumes nothing.
use Prim.Native.Nat.{ℕ, zero, suc, ◌+◌, ◌*◌, ◌≤◌, ◌<◌}
use native.Mathlib.Nat.{add-zero}
use native.Mathlib.Numerals.{add-one}
use native.Mathlib.Omega.{arith}
use mathlib.Core.List.{List, [], ◌∷◌, ◌++◌, append-nil, append_assoc}
use mathlib.Core.Path.{◌≡◌, refl, sym, ap, ap₂, ◌∙◌}
use Rattle.std.proofs.Common.{length, get_or, take, length-take-le, get_or-take, Ok, Err}
use Rattle.words.specs.Overlay.{Wrote}
use Rattle.words.specs.Overlay.Laws.{wrote_none, wrote_then, wrote_as}
use Rattle.words.specs.Run.{values}
use Rattle.words.specs.Run.Laws.{values-last}
use Rattle.book.specs.Layout.{table, rows, parties, steps}
use Rattle.terms.specs.Table.{term}
use Rattle.book.specs.Valid.{Valid}
use Rattle.translation.specs.Taken.{joined}
use Rattle.translation.specs.Source.{source_of, since_of}
use Rattle.translation.proofs.Steps.Laws.{before-holds}
use Rattle.holding.specs.Entry.{held_of}
use Rattle.holding.specs.View.Laws.{view-row}
use Rattle.walking.specs.Walking.{Holding}
use Rattle.book.specs.declared.Refusal.TheVariants.{Room}
use Rattle.translation.specs.Outcome.{came, Plays}
use Rattle.summary.specs.Summary.{held_from, held_words, held_to, summary_words, summary, summarized}
use Rattle.summary.proofs.Summary.Written.{summary-room-came, summary-written-came}
use Rattle.summary.proofs.Summary.Laws.{held_from-source}
use Rattle.summary.specs.Writing.{since_words}

-- ---- one party
pub dated-none : (e : List ℕ) (z : ℕ) {old : List ℕ} {at : ℕ} → Wrote (since_words e z 0) old at old at
unfolding values
dated-none e z = wrote_none

-- a row more, by its entry
pub dated-on : (e : List ℕ) (z i : ℕ) {old new later : List ℕ} {at next r x : ℕ} → Wrote (since_words e z i) old at new next
    → x ≡ since_of z (held_of (get_or e i 0)) → Wrote (x ∷ []) new next later r → Wrote (since_words e z (i + 1)) old at later r
dated-on e z i g dx put =
    let f : ℕ → ℕ = λ r. since_of z (held_of (get_or e r 0)) in
    wrote_as (wrote_then g put)
    (ap (values f 0) (add-one i) ∙ values-last f 0 i
    ∙ ap (λ y. since_words e z i ++ y ∷ []) (sym (dx ∙ (let k : i ≡ 0 + i = omega arith in ap f k))))

-- what the party holds in the end tells its words
same-values : (f g : ℕ → ℕ) (i n : ℕ) → ((r : ℕ) → r < n → f (i + r) ≡ g (i + r)) → values f i n ≡ values g i n
unfolding values
same-values f g i zero h = refl
same-values f g i (suc n) h =
    let here : i + 0 ≡ i = add-zero i in
    ap₂ ◌∷◌ (rw here at (h 0 (omega arith)))
    (same-values f g (suc i) n (λ r l. (let z : i + suc r ≡ suc i + r = omega arith in rw z at (h (suc r) (omega arith)))))

pub held-wrote : {b e out out_after : List ℕ} {p n z at next : ℕ} → Valid b → p < parties b → Holding b p e → n ≡ rows b → z ≡ steps b + 1
    → n ≤ length e → Wrote (since_words (take n e) z (length (take n e))) out at out_after next → Wrote (held_words b p) out at out_after next
unfolding source_of
held-wrote {b} {e} {p = p} {n = n} {z = z} v h g dn dz few w =
    wrote_as w (sym (ap (since_words (take n e) z) (length-take-le n e few) ∙ front ∙ rw (dn, dz) same))
  where
    front : since_words (take n e) z n ≡ since_words e z n
    front = same-values _ _ 0 n (λ r l. let k : r ≡ 0 + r = omega arith in
        rw (← k) (ap (λ x. since_of z (held_of x)) (get_or-take n e r 0 l)))

    each : (r : ℕ) → r < rows b → since_of (steps b + 1) (held_of (get_or e (0 + r) 0)) ≡ held_from b p (0 + r)
    each r l =
        let k : r ≡ 0 + r = omega arith in
        let same = g.holds ∙ sym (before-holds b p h (steps b) (omega arith)) in
        rw (← k) (ap (since_of (steps b + 1)) (sym (view-row b v e r l) ∙ ap (λ δ. δ (term (table b) r)) same) ∙ sym (held_from-source b p r h))

    same : since_words e (steps b + 1) (rows b) ≡ held_words b p
    same = same-values _ (held_from b p) 0 (rows b) each

-- ---- all parties
joined-append : (ls : List (List ℕ)) (l : List ℕ) → joined (ls ++ l ∷ []) ≡ joined ls ++ l
unfolding joined
joined-append [] l = append-nil l
joined-append (k ∷ ls) l = ap (λ m. k ++ m) (joined-append ls l) ∙ sym (append_assoc k (joined ls) l)

held_more : (b : List ℕ) (q : ℕ) → held_to b (q + 1) ≡ held_to b q ++ held_words b q
held_more b q =
    ap (held_to b) (add-one q) ∙ ap joined (values-last (held_words b) 0 q)
    ∙ joined-append (values (held_words b) 0 q) (held_words b (0 + q)) ∙ (let z : 0 + q ≡ q = omega arith in ap (λ k. held_to b q ++ held_words b k) z)

pub told-none : (b : List ℕ) {old : List ℕ} {at : ℕ} → Wrote (held_to b 0) old at old at
unfolding joined values
told-none b = wrote_none

pub told-on : (b : List ℕ) (q : ℕ) {old new later : List ℕ} {at next r : ℕ} → Wrote (held_to b q) old at new next
    → Wrote (held_words b q) new next later r → Wrote (held_to b (q + 1)) old at later r
told-on b q h w = wrote_as (wrote_then h w) (held_more b q)

-- ---- the whole
pub summary-wrote : (b : List ℕ) {old middle new : List ℕ} {q t l p r : ℕ} → q ≡ parties b → t ≡ rows b → l ≡ steps b
    → Wrote (q ∷ t ∷ l ∷ []) old 0 middle p → Wrote (held_to b (parties b)) middle p new r → Wrote (summary b) old 0 new r
unfolding summary
summary-wrote b dq dt dl x y = wrote_as (wrote_then x y) (rw (dq, dt, dl))

-- ---- what comes of it: n is 3 + Q T, by the counts that code has read
module _ {b : List ℕ} (out : List ℕ) {q t n : ℕ} (plays : Plays b) (dq : q ≡ parties b) (dt : t ≡ rows b) (dn : n ≡ 3 + q * t) where
  as_many : n ≡ summary_words b
  as_many = dn ∙ ap₂ (λ i j. 3 + i * j) dq dt

  pub short-came : length out < n → came (Err (Room n)) out ≡ summarized b out
  short-came h = let m = as_many in ap (λ k. came (Err (Room k)) out) m ∙ summary-room-came b out plays (omega arith)

  pub told-came : {new : List ℕ} {r : ℕ} → n ≤ length out → Wrote (summary b) out 0 new r → came (Ok n) new ≡ summarized b out
  told-came {new} h w = let m = as_many in ap (λ k. came (Ok k) new) m ∙ summary-written-came b out plays (omega arith) new w.list
