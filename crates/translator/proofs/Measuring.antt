-- What `write_heads` knows in its loop over the parties: the heads so far, where the last program ends, the places of the events, and
-- where the first of the walks stops. Assumes nothing.
use Prim.Native.Nat.{ℕ, ◌+◌, ◌*◌, ◌≤◌, ◌<◌}
use mathlib.Core.List.{List, [], ◌∷◌, ◌++◌}
use mathlib.Core.Path.{◌≡◌, refl, sym, ap, ap₂, ◌∙◌}
use native.Mathlib.Omega.{arith}
use lib.ListN.{length}
use Rattle.words.specs.Overlay.{Wrote}
use Rattle.words.specs.Overlay.Laws.{wrote_then, wrote_none, wrote_as, wrote-length}
use Rattle.words.specs.Run.{values}
use Rattle.book.specs.Layout.{parties, steps}
use Rattle.std.specs.Prelude.{Option, None, Some}
use Rattle.std.specs.Option.{MatchOption, option_or}
use Rattle.std.proofs.lemmas.Option.{none-some}
use Rattle.book.specs.declared.Stop.{Stop}
use Rattle.translation.specs.Listing.{heads, bodies, part_words}
use Rattle.translation.specs.Long.{most_part}
use Rattle.translation.proofs.Long.Laws.{listing-length}
use Rattle.book.specs.Valid.{Valid}
use Rattle.walking.specs.declared.Measured.{Measured}
use Rattle.walking.specs.Walking.{Measures}
use Rattle.walking.specs.Stops.{StopsBefore}
use Rattle.translator.specs.Among.{StopsAmong, reach}
use Rattle.translator.specs.Among.Laws.{among_none, among-stays, among-sooner}
use Rattle.translator.specs.Parts.{programs_to}
use Rattle.translator.specs.Surveyed.{Lists, WroteHeads}
use Rattle.translator.specs.Parts.Laws.{length_more, heads-more}
use Rattle.translator.proofs.Placing.{PartiesNoted, parties-start, parties-on, parties-end}

-- of the first q of n parties: while no walk stops, the heads, the length and the places are those of the programs; the numbers fit in
-- any case
pub record Measuring (b : List ℕ) (n q : ℕ) (old : List ℕ) (at : ℕ) (new : List ℕ) (next : ℕ) (x y z : List ℕ) (end : ℕ) (t : Option Stop) : Type 0
  where
    pub valid : Valid b
    pub few : q ≤ n
    pub same : length new ≡ length old
    pub low : end ≤ 1 + 2 * parties b + most_part * q
    pub lists : Lists x y z
    pub wrote : t ≡ None → Wrote (heads (1 + 2 * parties b) (programs_to b q)) old at new next
    pub ends : t ≡ None → end ≡ 1 + 2 * parties b + length (bodies (programs_to b q))
    pub placed : t ≡ None → PartiesNoted b q x y z
    pub stops : StopsAmong b q t

-- the number of steps asked about, as code finds it
pub reached : {all n u : ℕ} (t : Option Stop) {P : Stop → Type 0} → MatchOption t (u ≡ n) P → ((x : Stop) → P x → u ≡ x.step) → n ≡ all
    → u ≡ reach all t
reached None m f e = m ∙ e
reached (Some x) m f e = f x m

module _ {b : List ℕ} {n : ℕ} (e : n ≡ parties b) where
  -- nothing is written, and nobody was asked: every step is still free
  pub heads-start : {old x y z : List ℕ} {at end : ℕ} → Valid b → Lists x y z → end ≡ 1 + 2 * n
      → Measuring b n 0 old at old at x y z end None
  unfolding values heads bodies
  heads-start v lists h =
      record {
        valid = v;
        few = omega arith;
        same = refl;
        low = omega arith;
        lists = lists;
        wrote = λ u. wrote_none;
        ends = λ u. omega arith;
        placed = λ u. parties-start;
        stops = among_none;
      }

  -- party q was measured, and its head and the place of its END were written
  module _ {q : ℕ} {old new later x y z x_after y_after z_after : List ℕ} {at next end f g i r o : ℕ} {t : Option Stop} {v : ℕ} {w : Measured} (l : q < n)
      (h : Measuring b n q old at new next x y z end t) (dv : v ≡ reach (steps b) t) (m : Measures b q v x x_after y y_after w)
      (di : i ≡ q) (c : Wrote (w.events ∷ []) z i z_after o) (df : f ≡ end) (dg : g ≡ w.words)
      (p : Wrote (f ∷ g ∷ []) new next later r) where
    lists-on : Lists x_after y_after z_after
    lists-on =
        record {
          sends = m.sends-size ∙ h.lists.sends;
          receives = m.receives-size ∙ h.lists.receives;
          ends = wrote-length c ∙ h.lists.ends;
        }

    stops-so-far : StopsBefore b q (reach (steps b) t) w.stop
    stops-so-far = rw (← dv) m.stops

    -- its walk stops nowhere
    heads-on : {u : Option Stop} → w.stop ≡ None → u ≡ t → Measuring b n (q + 1) old at later r x_after y_after z_after (end + w.words) u
    heads-on {u} z0 same_stop =
        let lengths = wrote-length p in
        let same-so-far = h.same in
        let low-so-far = h.low in
        let few = m.few in
        let begins = 1 + 2 * parties b in
        let all : u ≡ None → v ≡ steps b = λ k. dv ∙ ap (reach (steps b)) (sym same_stop ∙ k) in
        let words : u ≡ None → w.words ≡ length (part_words b q) = λ k. m.words z0 (all k) in
        let head : u ≡ None → heads begins (programs_to b (q + 1)) ≡ heads begins (programs_to b q) ++ f ∷ g ∷ [] =
        λ k. heads-more b q begins
        ∙ ap₂ (λ i j. heads begins (programs_to b q) ++ i ∷ j ∷ []) (sym (df ∙ h.ends (sym same_stop ∙ k))) (sym (dg ∙ words k)) in
        let more = length_more b q in
        record {
          valid = h.valid;
          few = omega arith;
          same = omega arith;
          low = omega arith;
          lists = lists-on;
          wrote = λ k. wrote_as (wrote_then (h.wrote (sym same_stop ∙ k)) p) (head k);
          ends = λ k. let so_far = h.ends (sym same_stop ∙ k) in let here = words k in omega arith;
          placed = λ k. parties-on h.valid (omega arith) h.lists (h.placed (sym same_stop ∙ k)) (m.noted z0 (all k)) di c;
          stops = rw same_stop (among-stays h.stops stops-so-far z0);
        }

    -- it stops, and there is no output
    heads-off : {u : Option Stop} → (w.stop ≡ None → ⊥) → u ≡ w.stop
        → Measuring b n (q + 1) old at later r x_after y_after z_after (end + w.words) u
    heads-off {u} some same_stop =
        let lengths = wrote-length p in
        let same-so-far = h.same in
        let low-so-far = h.low in
        let few = m.few in
        record {
          valid = h.valid;
          few = omega arith;
          same = omega arith;
          low = omega arith;
          lists = lists-on;
          wrote = λ k. absurd (some (sym same_stop ∙ k));
          ends = λ k. absurd (some (sym same_stop ∙ k));
          placed = λ k. absurd (some (sym same_stop ∙ k));
          stops = rw same_stop (among-sooner h.stops stops-so-far some);
        }

    -- where it stops, or else where one did before
    pub heads-next : {u : Option Stop} → u ≡ option_or w.stop t → Measuring b n (q + 1) old at later r x_after y_after z_after (end + w.words) u
    heads-next {u} d = go w.stop refl
      where
        go : (y : Option Stop) → w.stop ≡ y → Measuring b n (q + 1) old at later r x_after y_after z_after (end + w.words) u
        go None e = heads-on e (d ∙ ap (λ k. option_or k t) e)
        go (Some k) e = heads-off (λ z. none-some k (sym z ∙ e)) (d ∙ ap (λ k. option_or k t) e ∙ sym e)

  -- over all parties
  pub heads-end : {q : ℕ} {old new x y z : List ℕ} {at next end : ℕ} {t : Option Stop} → n ≤ q → Measuring b n q old at new next x y z end t
      → WroteHeads b old at new next x y z end t × Lists x y z
  heads-end {q} l h =
      let f = h.few in
      let all : q ≡ parties b = omega arith in
      let length-all = ap (λ k. 1 + 2 * parties b + length (bodies (programs_to b k))) all ∙ sym (listing-length b) in (
        record {
          wrote = λ u. rw all at (h.wrote u);
          ends = λ u. h.ends u ∙ length-all;
          placed = λ u. parties-end h.valid (rw all at (h.placed u));
          stops = rw all at h.stops;
        },
        h.lists,
      )
