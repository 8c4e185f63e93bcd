-- Marking an atom, a row, a list of rows: what is marked afterwards, and the rows gone through. Assumes nothing.
use Prim.Native.Nat.{ℕ, zero, suc, ◌+◌, ◌-◌, ◌<◌}
use mathlib.Core.Bool.{Bool, true, false}
use mathlib.Core.List.{List, [], ◌∷◌, map}
use mathlib.Core.Path.{◌≡◌, refl, sym, ap, ◌∙◌}
use native.Mathlib.Omega.{arith}
use lib.ListN.{length, get_or, set, replicate, length-set, length-replicate}
use Rattle.words.specs.Run.Laws.{zeros}
use Rattle.terms.specs.Term.{Term}
use Rattle.terms.specs.Table.{term}
use Rattle.book.specs.Layout.{rows, kind, table, row_first, row_count, list_at}
use Rattle.book.specs.Valid.{Valid}
use Rattle.book.specs.Headed.Laws.{few-rows}
use Rattle.book.specs.Span.{entry}
use Rattle.claims.specs.Marked.{Marked, Ready}
use Rattle.claims.specs.Marked.Laws.{marked-new, marked-old, marked-atom, marked_row, marked-end, marked_more, seen_none, seen-marked, seen_more, marked-seen}

-- ---- an atom: the code reads the entry at w and writes that at i
pub new-marked : {l : List ℕ} {r w i x : ℕ} → length l ≡ 1024 → r < 1024 → w ≡ r → get_or l w 0 ≡ 0 → i ≡ r
    → Marked (Term.atom r ∷ []) x l (set l i x)
new-marked {l} {r} {x = x} h k d z e = rw e (marked-new r x l h k (ap (λ j. get_or l j 0) (sym d) ∙ z))

pub old-marked : {l : List ℕ} {r w x : ℕ} → length l ≡ 1024 → w ≡ r → (get_or l w 0 ≡ 0 → ⊥) → Marked (Term.atom r ∷ []) x l l
old-marked {l} {r} {x = x} h d n = marked-old r x l h (λ z. n (ap (λ j. get_or l j 0) d ∙ z))

-- ---- the two tables
pub all-zero : (q : ℕ) → get_or (replicate {A = ℕ} 1024 0) q 0 ≡ 0
all-zero = zeros 1024

none-true : (n i : ℕ) → get_or (replicate {A = Bool} n false) i false ≡ false
none-true zero i = refl
none-true (suc n) zero = refl
none-true (suc n) (suc i) = none-true n i

-- no row is gone through at first
pub ready-start : (b : List ℕ) → Ready b (replicate 1024 0) (replicate 1024 false)
ready-start b =
    record {
      sized = length-replicate {A = ℕ} 1024 0;
      room = length-replicate {A = Bool} 1024 false;
      seen = seen_none b (replicate 1024 false) (replicate 1024 0) (none-true 1024);
    }

-- marking takes no entry away
pub ready_marked : (b : List ℕ) (k : List Bool) {ts : List Term} {x : ℕ} {l m : List ℕ} → Ready b l k → Marked ts x l m → Ready b m k
ready_marked b k r d = record { sized = d.sized; room = r.room; seen = seen-marked b k r.seen d }

-- ---- a row, of which the code read the kind k
module _ {b : List ℕ} {r k : ℕ} (v : Valid b) (h : r < rows b) (d : k ≡ kind b r) where
  -- an atom is marked as itself
  pub atom-marked : {x : ℕ} {l m : List ℕ} → k ≡ 0 → Marked (Term.atom r ∷ []) x l m → Marked (term (table b) r ∷ []) x l m
  atom-marked z e = marked-atom b v r h (sym d ∙ z) e

  -- any other row by its parts, and it is noted at w that it was gone through
  pub row_done : {f n w x : ℕ} {l m : List ℕ} {g : List Bool} → (k ≡ 0 → ⊥) → f ≡ row_first b r → n ≡ row_count b r → w ≡ r → 0 < x
      → Marked (map (term (table b)) (list_at b f n)) x l m → Ready b m g
      → Marked (term (table b) r ∷ []) x l m × Ready b m (set g w true)
  row_done {x = x} {l} {m} {g} z p q e y u c =
      let few = few-rows b v in
      let room = c.room in
      let marked : Marked (term (table b) r ∷ []) x l m = marked_row b v r h (λ o. z (d ∙ o)) (rw (p, q) at u) in (
        marked,
        rw e (record { sized = c.sized; room = length-set g r true ∙ room; seen = seen_more b g r y (omega arith) marked c.seen }),
      )

-- a row that was gone through, as its entry at w says, need not be marked again
pub seen_done : {b l : List ℕ} {g : List Bool} {r w x : ℕ} → w ≡ r → Ready b l g → get_or g w false ≡ true
    → Marked (term (table b) r ∷ []) x l l × Ready b l g
seen_done {b} {l} {g} {r} {x = x} e c n =
    (marked-seen b g r x l c.sized c.seen (sym (ap (λ i. get_or g i false) e) ∙ n), c)

-- ---- a list of rows: none is left, or one and the rest
pub none_done : {b : List ℕ} (f : ℕ) {n x : ℕ} {l : List ℕ} {g : List Bool} → n ≡ 0 → Ready b l g
    → Marked (map (term (table b)) (list_at b f n)) x l l × Ready b l g
none_done {b} f {n} {x} {l} z c = (marked-end b f n x l z c.sized, c)

pub more-marked : (b : List ℕ) (f n r x : ℕ) {l m k : List ℕ} → (n ≡ 0 → ⊥) → r ≡ entry b f
    → Marked (term (table b) r ∷ []) x l m → Marked (map (term (table b)) (list_at b (f + 1) (n - 1))) x m k
    → Marked (map (term (table b)) (list_at b f n)) x l k
more-marked b f n r x h p d e = marked_more b f n x (omega arith) (rw (← p) d) e
