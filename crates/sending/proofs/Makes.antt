-- Making the atoms of a row, of a list of rows, and sending a step's messages: what the code leaves behind. Assumes nothing.
use Prim.Native.Nat.{ℕ, ◌+◌, ◌-◌, ◌*◌, ◌/◌, ◌≤◌, ◌<◌}
use mathlib.Core.Bool.{Bool, true, false}
use Rattle.std.specs.Prelude.{Option, None}
use mathlib.Core.List.{List, [], ◌∷◌}
use mathlib.Core.Path.{◌≡◌, refl, sym, ap, ◌∙◌}
use native.Mathlib.Omega.{arith}
use lib.ListN.{length, get_or, set, length-set}
use Rattle.words.specs.Overlay.{Wrote}
use Rattle.words.specs.Overlay.Laws.{wrote_then, wrote_as, wrote_none}
use Rattle.terms.specs.Table.{term, terms}
use Rattle.book.specs.Layout.{rows, kind, row_first, row_count, table, list_at}
use Rattle.book.specs.Valid.{Valid}
use Rattle.book.specs.Headed.Laws.{few-rows}
use Rattle.book.specs.Span.{entry}
use Rattle.book.specs.declared.Stop.{Stop}
use Rattle.translation.specs.Dictionary.{Held, is_held, Dictionary}
use Rattle.translation.specs.Build.{build, build_all}
use Rattle.translation.specs.Listing.{event_words, program_words}
use Rattle.translation.specs.Long.{step_size}
use Rattle.translation.proofs.Long.Laws.{news-words}
use Rattle.holding.specs.Entry.{held_of}
use Rattle.holding.specs.Entry.Laws.{held_at}
use Rattle.holding.specs.View.{row_of, view}
use Rattle.holding.specs.AtRow.{images_at}
use Rattle.sending.specs.declared.Made.{Made}
use Rattle.sending.specs.Sending.{Making, making, all_making, against_in, or_stop, first_in, SendReady, Makes, Sends}
use Rattle.sending.specs.Sending.Laws.{nothing, both, making-held, making-atom, making-parts, one_set, making-none, making-more, first-append, news-append, sent-words}

-- ---- one row, of which the code reads the entry at w, where t tells whether it is held
makes-as : {b l : List ℕ} {k s : ℕ} {g h : Making} {m : Made} {e o p : List ℕ} {r : Made} → Makes b l k s g m e o p r → h ≡ g
    → Makes b l k s h m e o p r
makes-as x e = rw e x

-- what is held is not made
makes-nothing : {b l : List ℕ} {k s : ℕ} {m : Made} {e o : List ℕ} → length e ≡ 1024 → Makes b l k s (nothing (view b e)) m e o o m
unfolding program_words first_in
makes-nothing j = record { holds = refl; wrote = wrote_none; stops = refl; size = j }

module _ {b l : List ℕ} (e : List ℕ) {k s r : ℕ} (v : Valid b) (h : r < rows b) {m : Made} (j : length e ≡ 1024) where
  pub held-makes : {w : ℕ} {t : Bool} {o : List ℕ} → w ≡ r → t ≡ is_held (held_of (get_or e w 0)) → t ≡ true
      → Makes b l k s (making (build s (term (table b) r) (view b e))) m e o o m
  held-makes d c z = makes-as (makes-nothing j) (making-held s b e v r h (held_at e r _ d c z))

  -- the word a is entered at u
  pub atom-makes : {w u g : ℕ} (a : ℕ) {t : Bool} {o p : List ℕ} {i : ℕ} {y : Option Stop} → w ≡ r → t ≡ is_held (held_of (get_or e w 0)) → t ≡ false
      → g ≡ kind b r → g ≡ 0 → held_of a ≡ Held.made s → u ≡ r → Wrote (1 ∷ r ∷ []) o m.at p i
      → y ≡ or_stop m.stop (against_in l k s r) s r
      → Makes b l k s (making (build s (term (table b) r) (view b e))) m (set e u a) o p (record { at = i; stop = y })
  unfolding program_words event_words first_in
  atom-makes {u = u} a d i z f q y c x t =
      let n = few-rows b v in
      makes-as
      (record {
        holds = ap (λ i. view b (set e i a)) c ∙ one_set s b e v r h a y (sym f ∙ q) (omega arith);
        wrote = x;
        stops = t;
        size = length-set e u a ∙ j;
      })
      (making-atom s b e v r h (held_at e r _ d i z) (sym f ∙ q))

  pub parts-makes : {w g f n : ℕ} {t : Bool} {after o p : List ℕ} {y : Made} → w ≡ r → t ≡ is_held (held_of (get_or e w 0)) → t ≡ false
      → g ≡ kind b r → (g ≡ 0 → ⊥) → f ≡ row_first b r → n ≡ row_count b r
      → Makes b l k s (all_making (build_all s (terms (table b) (list_at b f n)) (view b e))) m after o p y
      → Makes b l k s (making (build s (term (table b) r) (view b e))) m after o p y
  parts-makes d i z c q t u x = makes-as (rw (t, u) at x) (making-parts s b e v r h (held_at e r _ d i z) (λ y. q (c ∙ y)))

-- ---- a list of rows
pub none-makes : {b l : List ℕ} {k s : ℕ} (f : ℕ) {n : ℕ} {m : Made} {e o : List ℕ} → length e ≡ 1024 → n ≡ 0
    → Makes b l k s (all_making (build_all s (terms (table b) (list_at b f n)) (view b e))) m e o o m
none-makes {b} {s = s} f {n} {e = e} j z = makes-as (makes-nothing j) (making-none s b f n (view b e) z)

makes-then : (b l : List ℕ) (k s : ℕ) (g : Making) (f : Dictionary → Making) {e after o p q : List ℕ} {m y z : Made} → Makes b l k s g m e o p y
    → Makes b l k s (f (view b e)) y after p q z → Makes b l k s (both g (f g.dictionary)) m after o q z
makes-then b l k s g f x y =
    let w = makes-as y (ap f (sym x.holds)) in
    record {
      holds = w.holds;
      wrote = wrote_as (wrote_then x.wrote w.wrote) (news-append (row_of b) g.made (f g.dictionary).made);
      stops = w.stops ∙ rw x.stops (sym (first-append (against_in l k s) s _ g.made (f g.dictionary).made));
      size = w.size;
    }

pub more-makes : (b l e : List ℕ) (k s f n x : ℕ) → (n ≡ 0 → ⊥) → x ≡ entry b f → {mid after o p q : List ℕ} {m y z : Made}
    → Makes b l k s (making (build s (term (table b) x) (view b e))) m mid o p y
    → Makes b l k s (all_making (build_all s (terms (table b) (list_at b (f + 1) (n - 1))) (view b mid))) y after p q z
    → Makes b l k s (all_making (build_all s (terms (table b) (list_at b f n)) (view b e))) m after o q z
more-makes b l e k s f n x h d u w =
    makes-as
    (makes-then b l k s (making (build s (term (table b) (entry b f)) (view b e)))
    (λ δ. all_making (build_all s (terms (table b) (list_at b (f + 1) (n - 1))) δ)) (rw d at u) w)
    (making-more s b f n (view b e) (omega arith))

-- ---- a step
-- each NEW took two words
pub record News (b e : List ℕ) (s f n a : ℕ) (m : Made) : Type 0 where
  pub words : m.at ≡ a + 2 * length (build_all s (terms (table b) (list_at b f n)) (view b e)).made
  pub few : length (build_all s (terms (table b) (list_at b f n)) (view b e)).made ≤ step_size

pub news : {b l e : List ℕ} {k s f n a : ℕ} {after o p : List ℕ} {m : Made} → SendReady b s f n e a
    → Makes b l k s (all_making (build_all s (terms (table b) (list_at b f n)) (view b e))) (record { at = a; stop = None }) after o p m
    → News b e s f n a m
news {b} {e = e} {s = s} {f = f} {n = n} ready x =
    let few = ready.few in
    let low = ready.low in
    let next = x.wrote.next in
    let words = news-words (row_of b) (build_all s (terms (table b) (list_at b f n)) (view b e)).made in
    record { words = omega arith; few = few }

-- the SEND stands at w, which is the place behind the NEWs
pub sends : {b l e : List ℕ} {k s f n c a w j : ℕ} {after o p q t : List ℕ} {m : Made} {i z : ℕ} → SendReady b s f n e a → c ≡ n
    → Makes b l k s (all_making (build_all s (terms (table b) (list_at b f n)) (view b e))) (record { at = a; stop = None }) after o p m
    → Wrote (2 ∷ s ∷ c ∷ []) p w q i → w ≡ m.at → Wrote (images_at b after f n) q i t z → j ≡ (m.at - a) / 2
    → Sends b l k s (build_all s (terms (table b) (list_at b f n)) (view b e)) a after o t (record { at = z; made = j; stop = m.stop })
sends {b} {e = e} {s = s} {f = f} {n = n} {after = after} ready d x y g z dk =
    record {
      holds = x.holds;
      wrote = wrote_as (wrote_then x.wrote (wrote_then (rw g at y) z)) (sent-words b after s f n (view b e) x.holds ∙ rw d);
      made = let many = (news ready x).words in omega arith;
      stops = x.stops;
      size = x.size;
    }
