-- Laws of the places of a book's events: how many events a party has had before. Assumes nothing.
use Rattle.std.specs.Prelude.{ℕ, zero, suc, ◌+◌, ◌-◌, ◌≤◌, ◌<◌, Bool, true, false, ◌≡◌}
use Rattle.std.proofs.Math.Decide.{ℕ_discrete}
use Rattle.std.proofs.Math.Nat.{add-zero}
use Rattle.std.proofs.Common.{add-one, ◌∙◌}
use native.Mathlib.Omega.{arith}
use mathlib.Core.List.{List, [], ◌∷◌, ◌++◌, map, append_assoc}
use Rattle.std.proofs.Math.Path.{refl, ap}
use Rattle.std.proofs.Math.ListN.{length, length-append}
use borrow.Author.Tests.{eq-eqb, ne_eqb}
use Rattle.terms.specs.Image.{Image, Images}
use Rattle.terms.specs.Term.{Term, count}
use Rattle.terms.specs.Table.{terms}
use Rattle.book.specs.Layout.{table, parties, steps, sender, receiver, messages}
use Rattle.book.specs.Valid.{Valid}
use Rattle.translation.specs.Dictionary.{Dictionary}
use Rattle.translation.specs.Build.{build_all}
use Rattle.translation.specs.Receive.{Did, Event, followed, receive_all}
use Rattle.translation.specs.Program.{sent, arrived}
use Rattle.translation.specs.Narration.{narration, program_of}
use Rattle.translation.specs.Listing.{event_words, program_words}
use Rattle.translation.specs.Standing.{standing_at, if_sends, if_waits, if_ended}
use Rattle.translation.specs.Places.{place_of, is_send, is_receive, is_end, places_of}
use Rattle.translation.proofs.Places.Laws.{None, none-append, none-news, none-receive_all, place-first}
use Rattle.translation.proofs.Steps.Laws.{step-sends, step-receives, step-idle, before-none, before_more, before-all}
use Rattle.translation.specs.Steps.{step_did, before}
use Rattle.translation.specs.Long.{most_events}
use Rattle.translation.proofs.Long.Laws.{all-within}

-- ---- the events of the steps before pass no test that looks for a later step
pub record Quiet (t : Event → Bool) : Type 0 where
  pub news : (r : ℕ) → t (Event.new r) ≡ false
  pub checks : (x : ℕ) (i : Image) → t (Event.checks x i) ≡ false
  pub opens : (x f n : ℕ) (i : Image) → t (Event.opens x f n i) ≡ false

module _ (t : Event → Bool) (q : Quiet t) (b : List ℕ) (p : ℕ) where
  -- t passes neither the SEND nor the RECEIVE of step i
  abbrev QuietAt : ℕ → Type 0
  QuietAt i = ((is : Images) → t (Event.sends i is) ≡ false) × ((f c : ℕ) → t (Event.receives i f c) ≡ false)

  quiet_step : (i : ℕ) (δ : Dictionary) (n : ℕ) → QuietAt i → None t (step_did b p i δ n).events
  quiet_step i δ n h = go (ℕ_discrete (sender b i) p) (ℕ_discrete (receiver b i) p)
    where
      go : Dec (sender b i ≡ p) → Dec (receiver b i ≡ p) → None t (step_did b p i δ n).events
      go (yes e) r =
          let g = build_all i (terms (table b) (messages b i)) δ in
          rw (step-sends b p i δ n e)
          (none-append t (map Event.new g.made) (Event.sends i g.images ∷ []) (none-news t q.news g.made) (h.0 g.images, tt))
      go (no e) (yes r) =
          let ts = terms (table b) (messages b i) in
          rw (step-receives b p i δ n e r) (h.1 n (count ts), none-receive_all t q.checks q.opens i ts n δ (n + count ts))
      go (no e) (no r) = rw (step-idle b p i δ n e r) tt

  quiet-before : (i : ℕ) → ((j : ℕ) → j < i → QuietAt j) → None t (before b p i).events
  quiet-before zero h = rw (before-none b p) tt
  quiet-before (suc i) h =
      rw (before_more b p i) (none-append t (before b p i).events _ (quiet-before i (λ j l. h j (omega arith)))
      (quiet_step i (before b p i).dictionary (length (before b p i).given) (h i (omega arith))))

  -- ---- what stands in the events of some steps stands there, whatever comes later
  stays : (i m : ℕ) → ((fs : List Event) → place_of t ((before b p i).events ++ fs) ≡ m)
      → (k : ℕ) (fs : List Event) → place_of t ((before b p (i + k)).events ++ fs) ≡ m
  stays i m h zero fs = rw add-zero (h fs)
  stays i m h (suc k) fs =
      let d = step_did b p (i + k) (before b p (i + k)).dictionary (length (before b p (i + k)).given) in
      let e : before b p (i + suc k) ≡ followed (before b p (i + k)) d = ap (before b p) (omega arith) ∙ before_more b p (i + k) in
      ap (λ (x : Did). place_of t (x.events ++ fs)) e ∙ ap (place_of t) (append_assoc (before b p (i + k)).events d.events fs)
      ∙ stays i m h k (d.events ++ fs)

  stands : (i m : ℕ) → i ≤ steps b → p < parties b → ((fs : List Event) → place_of t ((before b p i).events ++ fs) ≡ m)
      → place_of t (program_of (narration b) p) ≡ m
  stands i m l g h =
      let z : i + (steps b - i) ≡ steps b = omega arith in
      ap (place_of t) (before-all b p g) ∙ (rw z at (stays i m h (steps b - i) (Event.ends (before b p (steps b)).stored ∷ [])))

-- an event that passes, behind others that do not
place_in : (t : Event → Bool) (xs ys zs fs : List Event) (e : Event) → None t xs → None t ys → t e ≡ true
    → place_of t ((xs ++ (ys ++ e ∷ zs)) ++ fs) ≡ length xs + length ys
place_in t xs ys zs fs e n m h =
    let g : (xs ++ (ys ++ e ∷ zs)) ++ fs ≡ (xs ++ ys) ++ e ∷ (zs ++ fs) = simp append_assoc in
    ap (place_of t) g ∙ place-first t (xs ++ ys) (zs ++ fs) e (none-append t xs ys n m) h ∙ length-append xs ys

-- ---- the three places
module _ (b : List ℕ) (v : Valid b) where
  quiet-send : (s : ℕ) → Quiet (is_send s)
  unfolding is_send standing_at if_sends
  quiet-send s = record { news = λ r. refl; checks = λ x i. refl; opens = λ x f n i. refl }

  quiet-receive : (s : ℕ) → Quiet (is_receive s)
  unfolding is_receive standing_at if_waits
  quiet-receive s = record { news = λ r. refl; checks = λ x i. refl; opens = λ x f n i. refl }

  quiet-end : Quiet is_end
  unfolding is_end standing_at if_ended
  quiet-end = record { news = λ r. refl; checks = λ x i. refl; opens = λ x f n i. refl }

  module _ (s : ℕ) (h : s < steps b) where
    -- the SEND is the last event of its step
    pub send-place : length (before b (sender b s) (s + 1)).events ≡ (places_of b).sends s + 1
    unfolding places_of is_send standing_at if_sends
    send-place =
        let p = sender b s in
        let d = before b p s in
        let g = build_all s (terms (table b) (messages b s)) d.dictionary in
        let news = map Event.new g.made in
        let send = Event.sends s g.images in
        let e : before b p (s + 1) ≡ followed d (sent s g) =
        ap (before b p) (add-one s) ∙ before_more b p s ∙ ap (followed d) (step-sends b p s d.dictionary (length d.given) refl) in
        let n : None (is_send s) d.events =
        quiet-before (is_send s) (quiet-send s) b p s (λ j l. (λ is. ne_eqb j s (λ z. absurd (omega arith)), λ f c. refl)) in
        let m : (places_of b).sends s ≡ length d.events + length news =
        stands (is_send s) (quiet-send s) b p (s + 1) (length d.events + length news) (omega arith) (v.steps_keep s h).sends
        (λ fs. ap (λ (x : Did). place_of (is_send s) (x.events ++ fs)) e
        ∙ place_in (is_send s) d.events news [] fs send n (none-news (is_send s) (λ r. refl) g.made) (eq-eqb s s refl)) in
        let c : length (before b p (s + 1)).events ≡ length d.events + (length news + 1) =
        ap (λ (x : Did). length x.events) e ∙ length-append d.events (news ++ send ∷ [])
        ∙ ap (λ k. length d.events + k) (length-append news (send ∷ [])) in
        omega arith

    -- the RECEIVE is the first
    pub receive-place : (places_of b).receives s ≡ length (before b (receiver b s) s).events
    unfolding places_of is_receive standing_at if_waits
    receive-place =
        let p = receiver b s in
        let d = before b p s in
        let ts = terms (table b) (messages b s) in
        let n = length d.given in
        let r = receive_all s ts n d.dictionary (n + count ts) in
        let e : before b p (s + 1) ≡ followed d (followed (arrived s ts d.dictionary n) r) =
        ap (before b p) (add-one s) ∙ before_more b p s ∙ ap (followed d) (step-receives b p s d.dictionary n (v.steps_keep s h).two refl) in
        let q : None (is_receive s) d.events =
        quiet-before (is_receive s) (quiet-receive s) b p s (λ j l. (λ is. refl, λ f c. ne_eqb j s (λ z. absurd (omega arith)))) in
        stands (is_receive s) (quiet-receive s) b p (s + 1) (length d.events) (omega arith) (v.steps_keep s h).receives
        (λ fs. ap (λ (x : Did). place_of (is_receive s) (x.events ++ fs)) e
        ∙ place_in (is_receive s) d.events [] r.events fs (Event.receives s n (count ts)) q tt (eq-eqb s s refl) ∙ add-zero _)

  -- END comes last
  pub end-place : (p : ℕ) → p < parties b → (places_of b).ends p ≡ length (before b p (steps b)).events
  unfolding places_of is_end standing_at if_ended
  end-place p h =
      ap (place_of is_end) (before-all b p h)
      ∙ place-first is_end (before b p (steps b)).events [] (Event.ends (before b p (steps b)).stored)
      (quiet-before is_end quiet-end b p (steps b) (λ j l. (λ is. refl, λ f c. refl))) refl

-- ---- how many events a party has at most
event-some : (row : Term → ℕ) (e : Event) → 1 ≤ length (event_words row e)
unfolding event_words
event-some row (Event.new r) = omega arith
event-some row (Event.sends s is) = omega arith
event-some row (Event.receives s f n) = omega arith
event-some row (Event.checks x i) = omega arith
event-some row (Event.opens x f n i) = omega arith
event-some row (Event.ends ps) = omega arith

events-words : (row : Term → ℕ) (es : List Event) → length es ≤ length (program_words row es)
unfolding program_words
events-words row [] = omega arith
events-words row (e ∷ es) =
    let h = event-some row e in
    let k = events-words row es in
    let l = length-append (event_words row e) (program_words row es) in
    omega arith

pub few-events : (b : List ℕ) → Valid b → (p i : ℕ) → i ≤ steps b → length (before b p i).events ≤ most_events
few-events b v p i h = let k = (all-within b v (λ t. 0) p i h).words in let l = events-words (λ t. 0) (before b p i).events in omega arith
