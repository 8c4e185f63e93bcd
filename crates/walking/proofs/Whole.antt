-- The whole program: a walk through all steps that finds nothing has its events, and END has what was stored. Assumes nothing.
use Prim.Native.Nat.{ℕ, ◌+◌, ◌/◌, ◌≤◌, ◌<◌}
use native.Mathlib.Omega.{arith}
use mathlib.Core.List.{List, [], ◌∷◌}
use mathlib.Core.Path.{◌≡◌, sym, ap, ◌∙◌}
use lib.ListN.{length, take}
use Rattle.std.specs.Prelude.{None}
use Rattle.words.specs.Overlay.{Wrote}
use Rattle.words.specs.Overlay.Laws.{wrote_then, wrote_as, wrote-take}
use Rattle.book.specs.Layout.{parties, steps}
use Rattle.book.specs.Valid.{Valid}
use Rattle.translation.specs.Listing.{triple_words, part_words}
use Rattle.translation.specs.Steps.{before}
use Rattle.translation.proofs.Long.Laws.{triples-length, part_length}
use Rattle.holding.specs.View.{row_of}
use Rattle.walking.specs.declared.Passed.{Passed}
use Rattle.walking.specs.Walk.{Unrefused}
use Rattle.walking.specs.Stops.Laws.{stops-unrefused}
use Rattle.walking.specs.Walking.{Along, Walking, Measures, Holding}
use Rattle.walking.specs.Placed.Laws.{end-place}
use Rattle.walking.specs.Walking.Laws.{part-words}
use Rattle.walking.proofs.Lengths.{ends_at, ends-kept, few-places, few-triples}

module _ {b : List ℕ} (v : Valid b) {p : ℕ} (h : p < parties b) where
  -- ---- measured: the words of the events, two of END, and three for each triple
  measured-words : {upto : ℕ} {held log log_after out out_after x x_after y y_after : List ℕ} {r : Passed}
      → Walking b p upto held log log_after 0 out out_after x x_after y y_after r
      → r.stop ≡ None → upto ≡ steps b → r.at + 2 + r.kept ≡ length (part_words b p)
  measured-words {held = held} {log = log} {log_after = log_after} {out = out} {out_after = out_after} {r = r} g z e =
      let w : Along b p (steps b) log log_after 0 out out_after held g.next r.kept r.at = rw (g.whole z e) at g.along in
      let a = ends_at v p (omega arith) (omega arith) w in
      let k = ends-kept v p (omega arith) w in
      let l = part_length b p h in
      omega arith

  pub measured : {upto : ℕ} {held log log_after out out_after x x_after y y_after : List ℕ} {r : Passed}
      → Walking b p upto held log log_after 0 out out_after x x_after y y_after r
      → Measures b p upto x x_after y y_after (record { words = r.at + 2 + r.kept; events = r.events; stop = r.stop })
  measured {upto} {x = x} {x_after = x_after} {y = y} {y_after = y_after} {r = r} g =
      let few = few-places v g in
      let words = few.words in
      let kept = few.kept in
      record {
        words = measured-words g;
        few = omega arith;
        noted = λ z e. record {
          noted = rw (g.whole z e) at g.noted;
          ends = g.events ∙ ap (λ k. length (before b p k).events) (g.whole z e) ∙ sym (end-place b v p h);
        };
        sends-size = g.noted.sends.size;
        receives-size = g.noted.receives.size;
        stops = g.stops;
      }

  -- ---- written: the events, END's first words, and the triples behind them
  logged : {log log_after out out_after : List ℕ} {e : List ℕ} {a n k z : ℕ} → length log ≡ 3072 → k ≤ 3072
      → Along b p (steps b) log log_after a out out_after e n k z → take k log_after ≡ triple_words (row_of b) (before b p (steps b)).stored
  logged {log_after = log_after} l f g =
      let n = triples-length (row_of b) (before b p (steps b)).stored in
      let k = ends-kept v p (omega arith) g in
      ap (λ i. take i log_after) (k ∙ sym n) ∙ wrote-take g.keeps (omega arith)

  pub programmed : {upto : ℕ} {held log log_after out middle between out_after x x_after y y_after : List ℕ} {a i m j : ℕ} {r : Passed}
      → length log ≡ 3072 → upto ≡ steps b → Unrefused b p (steps b) → Walking b p upto held log log_after a out middle x x_after y y_after r
      → m ≡ r.kept / 3 → Wrote (6 ∷ m ∷ []) middle r.at between i
      → Wrote (take r.kept log_after) between i out_after j → Wrote (part_words b p) out a out_after j
  programmed {held = held} {log = log} {log_after = log_after} {out = out} {middle = middle} {a = a} {r = r} l q u g d w f =
      let t : Along b p (steps b) log log_after a out middle held g.next r.kept r.at =
      rw (g.whole (stops-unrefused u (rw q at g.stops)) q) at g.along in
      let k = ends-kept v p (omega arith) t in
      let triples : r.kept / 3 ≡ length (before b p (steps b)).stored = omega arith in
      let parts = wrote_then t.wrote (wrote_then (rw (d ∙ triples) at w) (wrote_as f (sym (logged l (few-triples v g) t)))) in
      wrote_as parts (part-words b p h)

-- ---- held: after all steps
pub held_whole : {b : List ℕ} {p upto a : ℕ} {held log log_after out out_after x x_after y y_after : List ℕ} {r : Passed}
    → upto ≡ steps b → Unrefused b p (steps b) → Walking b p upto held log log_after a out out_after x x_after y y_after r
    → Holding b p held
held_whole {b} {p} q u g =
    let all = g.whole (stops-unrefused u (rw q at g.stops)) q in
    record { holds = g.along.holds ∙ ap (λ i. (before b p i).dictionary) all; size = g.size }
