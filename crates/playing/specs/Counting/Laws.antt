-- Laws: the counts are the plain machine's, for every playable book and every schedule of its parties. Assumes nothing.
use Prim.Native.Nat.{ℕ, suc, ◌+◌, ◌≤◌, ◌<◌}
use native.Mathlib.Omega.{arith}
use Rattle.std.specs.Prelude.{true, false, ◌⊎◌, ◌≡◌, length, eqb, ltb}
use Rattle.std.proofs.Common.{true≢false, inl, inr, ◌∙◌}
use mathlib.Core.List.{List, [], ◌∷◌}
use Rattle.std.proofs.Math.Option.{Option, none, some}
use Rattle.std.proofs.Math.Path.{refl, sym, ap, subst, fun_ext}
use borrow.Author.Tests.{eqb-true, eq-eqb, le-leb, lt-leb, lt-ltb, le-ltb}
use Rattle.words.specs.Choice.{pick}
use Rattle.words.specs.Choice.Laws.{pick_ind, pick_true, pick-false}
use Rattle.words.specs.First.Laws.{any_at, any_none}
use Rattle.words.specs.Run.{All, values}
use Rattle.terms.specs.Term.{Terms}
use Rattle.book.specs.Layout.{parties, steps, sender, receiver}
use Rattle.translation.specs.Receive.{Event}
use Rattle.translation.specs.Program.{Step}
use Rattle.translation.specs.Narration.{Narration, step_at, narration, known_to, program_of}
use Rattle.translation.specs.Taken.{step_of}
use Rattle.translation.specs.Taken.Laws.{steps-length, step_is}
use Rattle.translation.specs.Listing.{listing}
use Rattle.translation.specs.Standing.{standing_at, standing, if_waits, if_ended}
use Rattle.translation.specs.Places.{Places, places_of, place_of, is_send, is_receive, is_end}
use Rattle.translation.specs.Spelled.{spelled}
use Rattle.translation.proofs.Spelled.Laws.{plays-programs}
use Rattle.translation.specs.Outcome.{Plays}
use Rattle.agreement.specs.Change.{change}
use Rattle.agreement.specs.Change.Laws.{change-ap, change-none}
use Rattle.agreement.specs.Machine.{Party, stays, takes, next, effect, turn, delivered, System, Move, move, begin, started, Reach}
use Rattle.agreement.specs.Agree.{receiver_of, AtEnd}
use Rattle.agreement.specs.Order.{ToSend, Of, Among}
use Rattle.agreement.specs.Order.Laws.{program-rising, to_send-among}
use Rattle.agreement.specs.Going.{Going}
use Rattle.agreement.specs.Flow.{Posted, Flow}
use Rattle.agreement.specs.Progress.{Own, Stands, rising-stands, turn-own, delivered-takes}
use Rattle.agreement.specs.Start.{reached-going, reached-flow, plays-playable}
use Rattle.agreement.specs.Finish.{to_do}
use Rattle.agreement.specs.Finish.Counts.{end-to_do, reach-adds}
use Rattle.playing.specs.Rehearsal.{move_of, played, events_done}
use Rattle.playing.specs.Counting.{waits_for, waits, ticked, ticked_all}
use Rattle.playing.specs.Counting.Behind.{Behind, place-upto, place-passes, rising-place, send-of, receive-of}
use Rattle.playing.specs.Counting.Reached.{reach-behind, reach-sent}

-- ---- waits and ticked, from the counts
module _ (b : List ℕ) (P : Places) (d : ℕ → ℕ) (p : ℕ) where
  waits_one : (s : ℕ) → s < steps b → receiver b s ≡ p → P.receives s ≡ d p → d (sender b s) ≤ P.sends s → waits b P d p ≡ true
  unfolding waits waits_for
  waits_one s l e z h = any_at (waits_for b P d p) (steps b) s l (pick_true _ _ _ (eq-eqb _ _ e) ∙ pick_true _ _ _ (eq-eqb _ _ z) ∙ le-leb _ _ h)

  waits-none : ((s : ℕ) → s < steps b → receiver b s ≡ p → P.receives s ≡ d p → P.sends s < d (sender b s)) → waits b P d p ≡ false
  unfolding waits waits_for
  waits-none h =
      any_none (waits_for b P d p) (steps b)
      (λ s l. pick_ind (λ v. v ≡ false) (eqb (receiver b s) p) _ _
      (λ e. pick_ind (λ v. v ≡ false) (eqb (P.receives s) (d p)) _ _ (λ z. lt-leb _ _ (h s l (eqb-true _ _ e) (eqb-true _ _ z))) (λ z. refl))
      (λ e. refl))

  ticked-ended : P.ends p ≤ d p → ticked b P p d ≡ d
  unfolding ticked
  ticked-ended h = pick-false _ _ _ (le-ltb _ _ h)

  ticked-waits : waits b P d p ≡ true → ticked b P p d ≡ d
  unfolding ticked
  ticked-waits h = pick_ind (λ (f : ℕ → ℕ). f ≡ d) (ltb (d p) (P.ends p)) _ _ (λ e. pick_true _ _ _ h) (λ e. refl)

  ticked-goes : d p < P.ends p → waits b P d p ≡ false → ticked b P p d ≡ change d p (suc (d p))
  unfolding ticked
  ticked-goes l h = pick_true _ _ _ (lt-ltb _ _ l) ∙ pick-false _ _ _ h

-- ---- the events done, where one party is changed
abbrev done_by : (ℕ → Party) → ℕ → ℕ
done_by f q = (f q).done

changed-done : (f : ℕ → Party) (p : ℕ) (R : Party) → done_by (change f p R) ≡ change (done_by f) p R.done
changed-done f p R = fun_ext (change-ap (λ (P : Party). P.done) f p R)

-- ---- one move
-- an event of a party's own: the party moves by itself, it is no RECEIVE, and it is one to do
own-next : {e : Event} → Own e → (p s : ℕ) (es : List Event)
    → (move_of p (e ∷ es) ≡ Move.own p) × (is_receive s e ≡ false) × (to_do (e ∷ es) ≡ suc (to_do es))
unfolding move_of standing standing_at if_waits is_receive to_do place_of is_end if_ended pick
own-next Own.new p s es = (refl, refl, refl)
own-next Own.sends p s es = (refl, refl, refl)
own-next Own.checks p s es = (refl, refl, refl)
own-next Own.opens p s es = (refl, refl, refl)

module _ (b : List ℕ) (plays : Plays b) {S : System} (r : Reach (receiver_of (narration b)) (started b (listing b)) S) where
  abbrev N : Narration
  N = narration b

  abbrev d : ℕ → ℕ
  d = done_by S.party

  again : Reach (receiver_of N) (begin (known_to N) (spelled b (listing b))) S
  unfolding started
  again = r

  going : Going N S
  going = reached-going N (parties b) (spelled b (listing b)) (plays-playable b plays) (plays-programs b plays) again

  flow : Flow N (parties b) S
  flow = reached-flow N (parties b) (spelled b (listing b)) (plays-playable b plays) (plays-programs b plays) again

  -- ---- the parties, with their programs
  behind : (p : ℕ) → p < parties b → Behind (d p) (program_of N p) (S.party p).left
  behind p l = subst (λ es. Behind (d p) es (S.party p).left) ((plays-programs b plays).party p l) (reach-behind (known_to N) (spelled b (listing b)) again p)

  adds : (p : ℕ) → p < parties b → to_do (S.party p).left + d p ≡ (places_of b).ends p
  unfolding places_of to_do begin
  adds p l =
      reach-adds again p ∙ (let z : to_do (spelled b (listing b) p) + 0 ≡ to_do (spelled b (listing b) p) = omega arith in z)
      ∙ ap to_do ((plays-programs b plays).party p l)

  -- ---- a step's SEND is done exactly if the step was sent
  module _ (s : ℕ) (l : s < steps b) where
    sender-is : (step_of N s).sender ≡ sender b s
    unfolding step_at
    sender-is = ap (λ (a : Step). a.sender) (step_is b s l)

    receiver-is : receiver_of N s ≡ receiver b s
    unfolding receiver_of step_at
    receiver-is = ap (λ (a : Step). a.receiver) (step_is b s l)

    sender-within : sender b s < parties b
    sender-within = (plays.valid.steps_keep s l).sends

    within : s < length N.says
    within = let e = steps-length b in omega arith

    sent-done : Posted (S.sent s) → (places_of b).sends s < d (sender b s)
    unfolding places_of
    sent-done h =
        subst (λ es. place_of (is_send s) es < d (sender b s)) ((plays-programs b plays).party (sender b s) sender-within)
        (subst (λ q. place_of (is_send s) (spelled b (listing b) q) < d q) sender-is
        (reach-sent N (parties b) (spelled b (listing b)) (plays-playable b plays) (plays-programs b plays) again s h))

    unsent-left : ToSend s (S.party (sender b s)).left → d (sender b s) ≤ (places_of b).sends s
    unfolding places_of
    unsent-left h = rising-place (is_send s) (send-of s) (program-rising N (sender b s)) (behind (sender b s) sender-within) (to_send-among h)

  -- ---- party p's move, by what its next event is
  module _ (p : ℕ) (l : p < parties b) where
    abbrev Ticks : Move → Type 0
    Ticks m = done_by (move (receiver_of N) m S).party ≡ ticked b (places_of b) p d

    -- a RECEIVE stands at the count exactly if it is the next event
    next-receives : {e : Event} {es : List Event} → (S.party p).left ≡ e ∷ es → (s : ℕ) → receiver b s ≡ p → (places_of b).receives s ≡ d p
        → is_receive s e ≡ true
    unfolding places_of
    next-receives {e} {es} z s c h =
        place-passes (is_receive s) (subst (Behind (d p) (program_of N p)) z (behind p l)) (subst (λ q. place_of (is_receive s) (program_of N q) ≡ d p) c h)

    receives-next : {s f n : ℕ} {es : List Event} → (S.party p).left ≡ Event.receives s f n ∷ es → receiver b s ≡ p
        → (places_of b).receives s ≡ d p
    unfolding places_of is_receive standing_at if_waits
    receives-next {s} {f} {n} {es} z c =
        let k = subst (Behind (d p) (program_of N p)) z (behind p l) in
        let u = place-upto (is_receive s) k (eq-eqb s s refl) in
        let v = rising-place (is_receive s) (receive-of s) (program-rising N p) k (Among.here Of.receives) in
        let w : place_of (is_receive s) (program_of N p) ≡ d p = omega arith in
        subst (λ q. place_of (is_receive s) (program_of N q) ≡ d p) (sym c) w

    move-ended : {es : List Event} → (S.party p).left ≡ es → AtEnd es → Ticks (move_of p es)
    unfolding move_of standing standing_at if_waits move turn next takes effect
    move-ended z AtEnd.end =
        let t : turn (S.party p) ≡ stays (S.party p) =
        pick-false (S.party p).halted _ _ (going.parties p).unhalted ∙ ap (λ es. next es (S.party p)) z in
        let a = adds p l in
        let k : to_do (S.party p).left ≡ 0 = ap to_do z ∙ end-to_do AtEnd.end in
        rw t (ap done_by (change-none S.party p) ∙ sym (ticked-ended b (places_of b) d p (omega arith)))

    goes_on : (R : Party) → R.done ≡ suc (d p) → d p < (places_of b).ends p → waits b (places_of b) d p ≡ false
        → done_by (change S.party p R) ≡ ticked b (places_of b) p d
    goes_on R e h w = changed-done S.party p R ∙ ap (change d p) e ∙ sym (ticked-goes b (places_of b) d p h w)

    move-acts : {e : Event} {es : List Event} → (S.party p).left ≡ e ∷ es → Own e → Ticks (move_of p (e ∷ es))
    unfolding move
    move-acts {e} {es} z o =
        let a = adds p l in
        let k : to_do (S.party p).left ≡ suc (to_do es) = ap to_do z ∙ (own-next o p 0 es).2 in
        rw (own-next o p 0 es).0 (goes_on (turn (S.party p)).party (turn-own N p (S.party p) (going.parties p) e es z o).1 (omega arith)
        (waits-none b (places_of b) d p (λ s i c h. absurd (true≢false (sym (next-receives z s c h) ∙ (own-next o p s es).1)))))

    module _ (s f n : ℕ) (es : List Event) (z : (S.party p).left ≡ Event.receives s f n ∷ es) (i : s < steps b) (c : receiver b s ≡ p) where
      move-takes : (ts : Terms) → S.sent s ≡ some ts → Ticks (Move.delivery s)
      unfolding move to_do place_of is_end is_receive standing_at if_waits if_ended pick
      move-takes ts m =
          let a = adds p l in
          let k : to_do (S.party p).left ≡ suc (to_do es) = ap to_do z in
          let x : receiver_of N s ≡ p = receiver-is s i ∙ c in
          let D = delivered-takes N p (S.party p) (going.parties p) s f n es ts z (going.messages s ts m) in
          rw (x, m) (goes_on (delivered s (some ts) (S.party p)) (ap (λ (R : Party). R.done) D) (omega arith)
          (waits-none b (places_of b) d p
          (λ q j e h. let y : s ≡ q = eqb-true s q (next-receives z q e h) in subst (λ q. (places_of b).sends q < d (sender b q)) y
          (sent-done s i (subst Posted (sym m) Posted.posted)))))

      move-waits : S.sent s ≡ none → Ticks (Move.delivery s)
      unfolding move delivered
      move-waits m = go (flow.sends s (within s i))
        where
          unsent : Posted (S.sent s) → ⊥
          unsent h = elim (subst Posted m h) [ ]

          go : ToSend s (S.party (step_of N s).sender).left ⊎ Posted (S.sent s) → Ticks (Move.delivery s)
          go (inl h) =
              rw m (ap done_by (change-none S.party (receiver_of N s))
              ∙ sym (ticked-waits b (places_of b) d p
              (waits_one b (places_of b) d p s i c (receives-next z c) (unsent-left s i (subst (λ q. ToSend s (S.party q).left) (sender-is s i) h)))))
          go (inr h) = absurd (unsent h)

      move-receives : (o : Option Terms) → S.sent s ≡ o → Ticks (Move.delivery s)
      move-receives none m = move-waits m
      move-receives (some ts) m = move-takes ts m

    move-next : {es : List Event} → (S.party p).left ≡ es → Stands N p es → Ticks (move_of p es)
    unfolding move_of standing standing_at if_waits
    move-next z (Stands.ended h) = move-ended z h
    move-next z (Stands.waits {s = s} {f = f} {n = n} {es = es} w c h) =
        let i : s < steps b = (let e = steps-length b in omega arith) in
        move-receives s f n es z i (sym (receiver-is s i) ∙ c) (S.sent s) refl
    move-next z (Stands.acts o) = move-acts z o

    pub move-ticks : Ticks (move_of p (S.party p).left)
    move-ticks = move-next refl (rising-stands N (flow.rising p))

-- ---- a schedule
module _ (b : List ℕ) (plays : Plays b) where
  played-counted : (ms : List ℕ) → All (λ q. q < parties b) ms → {S : System} → Reach (receiver_of (narration b)) (started b (listing b)) S
      → done_by (played (receiver_of (narration b)) ms S).party ≡ ticked_all b (places_of b) ms (done_by S.party)
  unfolding played ticked_all
  played-counted [] a r = refl
  played-counted (p ∷ ms) a r = played-counted ms a.1 (Reach.after _ r) ∙ ap (ticked_all b (places_of b) ms) (move-ticks b plays r p a.0)

  -- the events done, as a function of the party
  pub counts_same : (ms : List ℕ) → All (λ q. q < parties b) ms
      → done_by (played (receiver_of (narration b)) ms (started b (listing b))).party ≡ ticked_all b (places_of b) ms (λ q. 0)
  counts_same ms a = played-counted ms a Reach.start ∙ ap (ticked_all b (places_of b) ms) begins
    where
      begins : done_by (started b (listing b)).party ≡ (λ q. 0)
      begins = unfold started begin in refl

pub counts-agree : (b : List ℕ) → Plays b → (ms : List ℕ) → All (λ q. q < parties b) ms → (p : ℕ) → p < parties b
    → ((played (receiver_of (narration b)) ms (started b (listing b))).party p).done ≡ ticked_all b (places_of b) ms (λ q. 0) p
counts-agree b plays ms a p l = ap (λ (f : ℕ → ℕ). f p) (counts_same b plays ms a)

pub done-counted : (b : List ℕ) → Plays b → (ms : List ℕ) → All (λ q. q < parties b) ms
    → events_done b ms ≡ values (ticked_all b (places_of b) ms (λ q. 0)) 0 (parties b)
unfolding events_done
done-counted b plays ms a = ap (λ (f : ℕ → ℕ). values f 0 (parties b)) (counts_same b plays ms a)
