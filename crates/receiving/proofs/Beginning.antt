-- Laws of a row that is begun: its contents are a list whose placeholders are handed out, and what they leave is what the row leaves.
-- Assumes nothing.
use Prim.Native.Nat.{ℕ, ◌+◌, ◌-◌, ◌≤◌}
use native.Mathlib.Omega.{arith}
use mathlib.Core.Bool.{Bool, true}
use mathlib.Core.List.{List, []}
use mathlib.Core.Path.{◌≡◌, refl, sym, ◌∙◌}
use Rattle.words.specs.Overlay.{Wrote}
use Rattle.words.specs.Overlay.Laws.{wrote-length}
use Rattle.terms.specs.Table.{term}
use Rattle.book.specs.Layout.{table, kind, row_first, row_count}
use Rattle.translation.specs.Receive.{can_open}
use Rattle.translation.specs.Listing.{program_words}
use Rattle.holding.specs.View.{row_of, view}
use Rattle.receiving.specs.declared.Received.{Received}
use Rattle.receiving.specs.Turn.{unlocked}
use Rattle.receiving.specs.Receiving.{standing, row_did, rest_did, list_did, RowReady, RestReady, Brought, Going}
use Rattle.receiving.proofs.Settling.{opened-cipher, opened-key, opened-ready, opened-led}
use Rattle.receiving.proofs.Going.{going_start, going-ready, going-within, going-none}

module _ {b ps : List ℕ} {r p t : ℕ} {e : List ℕ} {n k a : ℕ} (ready : RowReady b ps r p (standing t e n k a)) {u : Bool}
    (du : u ≡ can_open (view b e) (term (table b) r)) where
  -- ---- it opens: f and c are where its parts begin and how many they are, q the number of contents, and j the place behind the OPEN
  module _ (y : u ≡ true) where
    can : can_open (view b e) (term (table b) r) ≡ true
    can = sym du ∙ y

    pub begun-cipher : kind b r ≡ 2
    begun-cipher = opened-cipher ready can

    pub begun-key : {c : ℕ} → c ≡ row_count b r → 1 ≤ c
    begun-key d = opened-key ready can d

    module _ {f c q : ℕ} (df : f ≡ row_first b r) (dc : c ≡ row_count b r) (dq : q ≡ c - 1) where
      given : (j : ℕ) (l o : List ℕ) → Going b r (list_did b (f + 1) (c - 1) (standing t e n k j)) (standing t e n k j) l o (f + 1) (c - 1) n
          (standing t e (n + q) k j) l o
      given j l o = going_start (opened-ready ready can df dc j) dq refl

      pub begun-ready : (j : ℕ) → RestReady b ps r (f + 1) (c - 1) n (standing t e (n + q) k j)
      begun-ready j = going-ready (given j [] []) ready.timely ready.valid ready.partners (let h = ready.row in omega arith)

      pub begun_opened : {j : ℕ} {l o s : List ℕ} {i m z : ℕ} {x : Received} {l' s' : List ℕ}
          → Wrote (program_words (row_of b) (unlocked (term (table b) r) p (view b e) n).events) o a s j
          → Going b r (rest_did b (f + 1) (c - 1) n (standing t e (n + q) k j)) (standing t e (n + q) k j) l s i m z x l' s'
          → Going b r (row_did b r p (standing t e n k a)) (standing t e n k a) l o i m z x l' s'
      begun_opened {j} {l} {o} {s} w g =
          going-within g refl refl (wrote-length w) (λ m u y v. opened-led ready can df dc y w ((given j l s).rest m u y v))

  -- ---- it doesn't, and is settled: nothing is left
  pub begun-settled : {y : Received} {l m o s : List ℕ} → Brought b (row_did b r p (standing t e n k a)) (standing t e n k a) l m o s y
      → n ≤ y.dictionary.next → Going b r (row_did b r p (standing t e n k a)) (standing t e n k a) l o 0 0 n y m s
  begun-settled w h = let f = ready.fits in going-none w (omega arith) h
