-- Laws of receiving one row: settled where it can't be opened; and where it can, that its contents, received in turn, complete it.
-- Assumes nothing.
use Prim.Native.Nat.{ℕ, ◌+◌, ◌-◌, ◌≤◌}
use native.Mathlib.Omega.{arith}
use mathlib.Core.Bool.{Bool, true, false}
use mathlib.Core.List.{List, [], ◌∷◌}
use mathlib.Core.Path.{◌≡◌, refl, sym, ap, ◌∙◌}
use lib.ListN.{length, length-append, length-set, set}
use Rattle.words.specs.Overlay.{Wrote}
use Rattle.words.specs.Overlay.Laws.{wrote_as, wrote_none}
use Rattle.terms.specs.Table.{term}
use Rattle.book.specs.Layout.{table, kind, row_first, row_count}
use Rattle.book.specs.Span.Laws.{span-row, span_tail}
use Rattle.book.specs.Headed.Laws.{few-rows}
use Rattle.translation.specs.Dictionary.{Held, buildable, enter}
use Rattle.translation.specs.Receive.{Did, followed, can_open, compared}
use Rattle.translation.specs.Listing.{triple_words, program_words}
use Rattle.holding.specs.Entry.{held_of}
use Rattle.holding.specs.View.{row_of, view}
use Rattle.holding.specs.View.Laws.{row-of, view-set}
use Rattle.holding.specs.Doing.Laws.{doing-as, doing-then}
use Rattle.receiving.specs.declared.Received.{Received}
use Rattle.receiving.specs.Turn.{in_turn, unlocked, contents_of}
use Rattle.receiving.specs.Turn.Laws.{receive-opened, receive-compared, receive-kept, opens-cipher, cipher-row, unlocked-rest}
use Rattle.receiving.specs.Receiving.{standing, row_did, list_did, SettleReady, RowReady, ListReady, Led, Brought}
use Rattle.receiving.proofs.Bounds.{some_key}

-- ---- a row that can't be opened; t is the code's test, of building
module _ {b e : List ℕ} {i r p n k a : ℕ} (ready : SettleReady b r p (standing i e n k a)) {t : Bool}
    (dt : t ≡ buildable (view b e) (term (table b) r)) where
  pub settle-compare : {l o s : List ℕ} {j : ℕ} → t ≡ true
      → Wrote (program_words (row_of b) (compared (term (table b) r) p (view b e)).events) o a s j
      → Brought b (row_did b r p (standing i e n k a)) (standing i e n k a) l l o s (standing i e n k j)
  unfolding triple_words
  settle-compare q x =
      record {
        led = doing-as (record { holds = refl; goes = omega arith; wrote = x; keeps = wrote_none })
            (receive-compared i (term (table b) r) p (view b e) n ready.shut (sym dt ∙ q));
        size = ready.size;
        same = refl;
      }

  -- the word x is entered at w
  pub settle-store : {w : ℕ} (x : ℕ) {l m o : List ℕ} {j : ℕ} → t ≡ false → w ≡ r → held_of x ≡ Held.stored i p
      → Wrote (r ∷ p ∷ i ∷ []) l k m j
      → Brought b (row_did b r p (standing i e n k a)) (standing i e n k a) l m o o (standing i (set e w x) n j a)
  unfolding triple_words program_words
  settle-store {w} x q dw dx put =
      let few = few-rows b ready.valid in
      let h = ready.row in
      let z = ready.size in
      record {
        led = doing-as (record {
          holds = rw dw (view-set b ready.valid e r x h (omega arith) ∙ ap (enter (view b e) (term (table b) r)) dx);
          goes = omega arith;
          wrote = wrote_none;
          keeps = wrote_as put (ap (λ (y : ℕ). y ∷ p ∷ i ∷ []) (row-of b ready.valid r (term (table b) r) h refl));
        }) (receive-kept i (term (table b) r) p (view b e) n ready.shut (sym dt ∙ q));
        size = length-set e w x ∙ z;
        same = refl;
      }

-- ---- a row that is opened: f and c are where its parts begin and how many they are, and j the place behind the OPEN
module _ {b ps : List ℕ} {r p i : ℕ} {e : List ℕ} {n k a : ℕ} (ready : RowReady b ps r p (standing i e n k a))
    (can : can_open (view b e) (term (table b) r) ≡ true) where
  pub opened-cipher : kind b r ≡ 2
  opened-cipher = opens-cipher b ready.valid r ready.row (view b e) can

  pub opened-key : {c : ℕ} → c ≡ row_count b r → 1 ≤ c
  opened-key d = some_key b ready.valid r _ ready.row opened-cipher d

  -- what opening says, and then the contents
  abbrev itself : Did
  itself = unlocked (term (table b) r) p (view b e) n

  module _ {f c : ℕ} (df : f ≡ row_first b r) (dc : c ≡ row_count b r) where
    is-turn : (j : ℕ) → row_did b r p (standing i e n k a) ≡ followed itself (list_did b (f + 1) (c - 1) (standing i e n k j))
    unfolding contents_of
    is-turn j =
        receive-opened i (term (table b) r) p (view b e) n can
        ∙ ap (λ ts. followed itself (in_turn i ts (view b e) n)) (ap contents_of (cipher-row b ready.valid r ready.row opened-cipher) ∙ rw (df, dc))

    -- the contents can be received in turn
    pub opened-ready : (j : ℕ) → ListReady b ps r (f + 1) (c - 1) (standing i e n k j)
    opened-ready j =
        let fits = ready.fits in
        let g = ap (λ (d : Did). length d.given) (is-turn j) in
        let z = length-append itself.given (list_did b (f + 1) (c - 1) (standing i e n k j)).given in
        let key = opened-key dc in
        let row = ready.row in
        record {
          valid = ready.valid;
          partners = ready.partners;
          bounded = omega arith;
          span = span_tail b r f c (span-row b ready.valid f c r ready.row df dc) (omega arith);
          timely = ready.timely;
          size = ready.size;
          fits = omega arith;
        }

    -- and complete it
    pub opened-led : (y : Received) {j : ℕ} {l m o s t : List ℕ} → Wrote (program_words (row_of b) itself.events) o a s j
        → Led b (list_did b (f + 1) (c - 1) (standing i e n k j)) (standing i e n k j) l m s t y
        → Led b (row_did b r p (standing i e n k a)) (standing i e n k a) l m o t y
    unfolding triple_words
    opened-led y {j} w u =
        let q = unlocked-rest (term (table b) r) p (view b e) n in
        doing-as (doing-then b itself (list_did b (f + 1) (c - 1) (standing i e n k j)) (record {
          holds = sym q.0;
          goes = let g = ap length q.1 in omega arith;
          wrote = w;
          keeps = wrote_as wrote_none (ap (triple_words (row_of b)) q.2);
        }) u) (is-turn j)
