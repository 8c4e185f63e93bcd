-- What a party holds at the start: its known rows are entered one after another. Assumes nothing.
use Prim.Native.Nat.{ℕ, ◌+◌, ◌<◌}
use mathlib.Core.List.{List, [], ◌∷◌, ◌++◌, map}
use mathlib.Core.Path.{◌≡◌, refl, sym, ap, ◌∙◌, fun_ext}
use native.Mathlib.Omega.{arith}
use native.Mathlib.Decide.{dec_lt}
use lib.ListN.{length, get_or, set, replicate, length-set, length-replicate, get_or-replicate}
use lib.Dec.{ltb}
use borrow.Author.Tests.{lt-ltb, le-ltb}
use Rattle.std.proofs.lemmas.List.{map-append}
use Rattle.words.specs.Choice.{pick, choose}
use Rattle.words.specs.Choice.Laws.{pick_true, pick-false}
use Rattle.words.specs.Run.{run}
use Rattle.words.specs.Run.Laws.{run-append}
use Rattle.terms.specs.Term.{Term, same}
use Rattle.terms.specs.Table.{term}
use Rattle.book.specs.Layout.{table, rows, parties, begins, party_first, party_count, pooled, list_at}
use Rattle.book.specs.Valid.{Valid}
use Rattle.book.specs.Headed.Laws.{few-rows}
use Rattle.translation.specs.Dictionary.{Held, free, given, Dictionary, enter, start}
use Rattle.holding.specs.Entry.{held_of}
use Rattle.holding.specs.View.{row_of, view}
use Rattle.holding.specs.View.Laws.{view-set}

-- ---- terms entered alike may be entered in any order, so that `start` may end with the last as well as begin with it
choose-turned : {P Q A : Type 0} (d : Dec P) (e : Dec Q) (x y : A) → choose d x (choose e x y) ≡ choose e x (choose d x y)
unfolding choose
choose-turned (yes p) (yes q) x y = refl
choose-turned (yes p) (no q) x y = refl
choose-turned (no p) (yes q) x y = refl
choose-turned (no p) (no q) x y = refl

enter-turned : (δ : Dictionary) (t u : Term) (h : Held) → enter (enter δ t h) u h ≡ enter (enter δ u h) t h
unfolding enter
enter-turned δ t u h = fun_ext (λ x. choose-turned (same u x) (same t x) h (δ x))

start-more : (ts : List Term) (t : Term) → start (ts ++ (t ∷ [])) ≡ enter (start ts) t given
unfolding start
start-more [] t = refl
start-more (u ∷ ts) t = ap (λ δ. enter δ u given) (start-more ts t) ∙ enter-turned (start ts) t u given

list_at-more : (b : List ℕ) (f j : ℕ) → list_at b f (j + 1) ≡ list_at b f j ++ (pooled b f j ∷ [])
unfolding run
list_at-more b f j = run-append b (begins b 3 + f) j 1

-- ---- the first j of the rows that stand at f are entered
pub record Starting (b e : List ℕ) (f j : ℕ) : Type 0 where
  pub long : length e ≡ 1024
  pub holds : view b e ≡ start (map (term (table b)) (list_at b f j))

none-held : (b : List ℕ) → Valid b → (x : ℕ) → held_of x ≡ free → view b (replicate 1024 x) ≡ start []
unfolding view start
none-held b v x d = fun_ext (λ t. go t (dec_lt (row_of b t) (rows b)))
  where
    go : (t : Term) → Dec (row_of b t < rows b) → pick (ltb (row_of b t) (rows b)) (held_of (get_or (replicate 1024 x) (row_of b t) 0)) free ≡ free
    go t (yes l) =
        let few = few-rows b v in
        pick_true _ _ _ (lt-ltb (row_of b t) (rows b) l) ∙ ap held_of (get_or-replicate {A = ℕ} 1024 (row_of b t) x 0 (omega arith)) ∙ d
    go t (no l) = pick-false _ _ _ (le-ltb (row_of b t) (rows b) (omega arith))

-- x holds nothing
pub starting-start : (b : List ℕ) (f x : ℕ) → Valid b → held_of x ≡ free → Starting b (replicate 1024 x) f 0
unfolding run
starting-start b f x v c = record { long = length-replicate {A = ℕ} 1024 x; holds = none-held b v x c }

-- what a party knows lies in the pool, and is a row
pub known-row : {b : List ℕ} {p f n j r : ℕ} → Valid b → p < parties b → f ≡ party_first b p → n ≡ party_count b p → j < n
    → r ≡ pooled b f j → r < rows b
known-row {b} {p} {f} {j = j} v h d dn l q =
    let known : pooled b f j < rows b = rw d ((v.parties_keep p h).listed.each j (omega arith)) in
    omega arith

-- the next row is entered as given, by the word x at w
pub starting-on : {b e : List ℕ} {f j w r : ℕ} (x : ℕ) → Valid b → r < rows b → Starting b e f j → r ≡ pooled b f j → held_of x ≡ given
    → w ≡ r → Starting b (set e w x) f (j + 1)
starting-on {b} {e} {f} {j} {w} {r} x v l g d dx dw =
    let m = few-rows b v in
    let o = g.long in
    record {
      long = length-set e w x ∙ o;
      holds =
          ap (λ i. view b (set e i x)) dw ∙ view-set b v e r x l (omega arith) ∙ ap (enter (view b e) (term (table b) r)) dx
          ∙ ap (λ δ. enter δ (term (table b) r) given) g.holds
          ∙ ap (λ i. enter (start (map (term (table b)) (list_at b f j))) (term (table b) i) given) d
          ∙ sym (start-more (map (term (table b)) (list_at b f j)) (term (table b) (pooled b f j)))
          ∙ ap start (sym (map-append (term (table b)) (list_at b f j) (pooled b f j ∷ [])))
          ∙ ap (λ l. start (map (term (table b)) l)) (sym (list_at-more b f j));
    }
