-- Laws: clause (d). While a party is unfinished some party can move: the one whose next event is its own, or waits for a step that
-- was sent; for one that waits for a step not yet sent, look at that step's sender, which is in an earlier step. Assumes nothing.
use Prim.Native.Nat.{ℕ, zero, suc, ◌<◌}
use Rattle.std.specs.Prelude.{List, ◌∷◌, ◌⊎◌, ◌≡◌, refl, length, eqb}
use Rattle.std.proofs.Common.{inl, inr, ◌∙◌, arith, eq-eqb}
use Rattle.std.proofs.Math.Option.{Option, some}
use Rattle.std.proofs.Math.Path.{ap, subst}
use Rattle.words.specs.Choice.Laws.{pick_true, pick-false}
use Rattle.terms.specs.Term.{Terms, count}
use Rattle.terms.specs.Image.{Image, Images}
use Rattle.translation.specs.Receive.{Event}
use Rattle.translation.specs.Standing.{standing_at, if_waits}
use Rattle.translation.specs.Narration.{Narration}
use Rattle.translation.specs.Taken.{step_of}
use Rattle.agreement.specs.Change.Laws.{change-same}
use Rattle.agreement.specs.Sight.{Sight, binds}
use Rattle.agreement.specs.Machine.{Shown, Effect, effect, Party, goes_on, takes, next, turn, handed, delivered, System, Move, move}
use Rattle.agreement.specs.Machine.Laws.{send_effect-ind, check_effect-ind, open_effect-ind}
use Rattle.agreement.specs.Agree.{meant, receiver_of, Narrated, AtEnd, Does, CanMove, SomeCanMove, Moves}
use Rattle.agreement.specs.Safe.{Safe}
use Rattle.agreement.specs.Going.{Goes, Going}
use Rattle.agreement.specs.Going.Laws.{narrated-one, EffectWell, goes-effect}
use Rattle.agreement.specs.Order.{Rising, ToSend}
use Rattle.agreement.specs.Order.Laws.{to_send-none, rising-to_send, to_send-took}
use Rattle.agreement.specs.Flow.{Posted, Flow}

-- ---- events of a party's own
pub data Own : Event → Type 0 where
  new : {r : ℕ} → Own (Event.new r)
  sends : {s : ℕ} {is : Images} → Own (Event.sends s is)
  checks : {x : ℕ} {i : Image} → Own (Event.checks x i)
  opens : {x f n : ℕ} {i : Image} → Own (Event.opens x f n i)

-- they fail or are done
own-effect : (C : Effect → Type 0) {e : Event} → Own e → (v : Sight) → C Effect.fails → ((o : Shown) (w : Sight) → C (Effect.does o w))
    → C (effect e v)
unfolding effect
own-effect C Own.new v f g = g _ _
own-effect C (Own.sends {s = s}) v f g = send_effect-ind C s _ v f (λ ts. g _ _)
own-effect C Own.checks v f g = check_effect-ind C _ _ v f (g _ _)
own-effect C (Own.opens {f = x}) v f g = open_effect-ind C x _ v f (λ w. g _ w)

module _ (N : Narration) where
  -- ---- what a party's next event is: it is at END, waits, or has an event of its own
  pub data Stands (p : ℕ) : List Event → Type 0 where
    ended : {es : List Event} → AtEnd es → Stands p es
    waits : {s f n : ℕ} {es : List Event} → s < length N.says → receiver_of N s ≡ p → Rising N p (suc s) es
        → Stands p (Event.receives s f n ∷ es)
    acts : {e : Event} {es : List Event} → Own e → Stands p (e ∷ es)

  pub rising-stands : {p low : ℕ} {es : List Event} → Rising N p low es → Stands p es
  rising-stands Rising.end = Stands.ended AtEnd.end
  rising-stands (Rising.new h) = Stands.acts Own.new
  rising-stands (Rising.sends l e h) = Stands.acts Own.sends
  rising-stands (Rising.receives l w e h) = Stands.waits w e h
  rising-stands (Rising.checks h) = Stands.acts Own.checks
  rising-stands (Rising.opens h) = Stands.acts Own.opens

  -- ---- an event of a party's own gets done
  module _ (p : ℕ) (P : Party) (g : Goes N p P) where
    pub turn-own : (e : Event) (es : List Event) → P.left ≡ e ∷ es → Own e → ((turn P).party.left ≡ es) × ((turn P).party.done ≡ suc P.done)
    unfolding turn next takes
    turn-own e es l o =
        let z : turn P ≡ takes (effect e P.sight) P es = pick-false P.halted _ _ g.unhalted ∙ ap (λ fs. next fs P) l in
        let w : ((takes (effect e P.sight) P es).party.left ≡ es) × ((takes (effect e P.sight) P es).party.done ≡ suc P.done) =
        own-effect (λ f. EffectWell N p es f → ((takes f P es).party.left ≡ es) × ((takes f P es).party.done ≡ suc P.done)) o P.sight
        (λ k. absurd k) (λ a v k. (refl, refl)) (goes-effect N p P e es g l) in
        rw z w

    -- ---- a copy of the step that a party waits for is taken
    pub delivered-takes : (s f n : ℕ) (es : List Event) (ts : Terms) → P.left ≡ Event.receives s f n ∷ es → Narrated N s ts
        → delivered s (some ts) P ≡ goes_on P es (binds f ts P.sight)
    unfolding delivered handed standing_at if_waits
    delivered-takes s f n es ts l w =
        let k : Safe N (meant N p) (Event.receives s f n ∷ es) g.holding g.bound =
        subst (λ fs. Safe N (meant N p) fs g.holding g.bound) l g.safe in
        pick-false P.halted _ _ g.unhalted ∙ ap (λ fs. handed fs s ts P) l ∙ pick_true (eqb s s) _ _ (eq-eqb s s refl)
        ∙ pick_true (eqb n (count ts)) _ _ (eq-eqb n (count ts) (k.3 ∙ ap count (narrated-one N k.1 w)))

  module _ (Q : ℕ) (senders : (s : ℕ) → s < length N.says → (step_of N s).sender < Q) (S : System) (going : Going N S) (flow : Flow N Q S) where
    does-own : (p : ℕ) (e : Event) (es : List Event) → (S.party p).left ≡ e ∷ es → Own e → Does N S (Move.own p) p
    unfolding move
    does-own p e es l o =
        let t = turn-own p (S.party p) (going.parties p) e es l o in
        let c = change-same S.party p (turn (S.party p)).party in
        record { event = e; rest = es; before = l; after = ap (λ (R : Party). R.left) c ∙ t.0; one_more = ap (λ (R : Party). R.done) c ∙ t.1 }

    does-take : (p s f n : ℕ) (es : List Event) (ts : Terms) → (S.party p).left ≡ Event.receives s f n ∷ es → receiver_of N s ≡ p
        → S.sent s ≡ some ts → Does N S (Move.delivery s) p
    unfolding move
    does-take p s f n es ts l e m =
        let z : (move (receiver_of N) (Move.delivery s) S).party p ≡ goes_on (S.party p) es (binds f ts (S.party p).sight) =
        rw (e, m) (change-same S.party p _ ∙ delivered-takes p (S.party p) (going.parties p) s f n es ts l (going.messages s ts m)) in
        record { event = _; rest = es; before = l; after = ap (λ (R : Party). R.left) z; one_more = ap (λ (R : Party). R.done) z }

    abbrev Waiting : ℕ → List Event → Type 0
    Waiting p es =
        (s f n : ℕ) (fs : List Event) → es ≡ Event.receives s f n ∷ fs → s < length N.says → receiver_of N s ≡ p → Rising N p (suc s) fs
        → SomeCanMove N Q S

    -- an unfinished party can move, or waits
    ask : (p : ℕ) {es : List Event} → p < Q → (S.party p).left ≡ es → Stands p es → (AtEnd es → ⊥) → Waiting p es → SomeCanMove N Q S
    ask p u l (Stands.ended h) n w = absurd (n h)
    ask p u l (Stands.waits a e h) n w = w _ _ _ _ refl a e h
    ask p u l (Stands.acts {e = e} {es = es} o) n w = record { who = p; within = u; can = CanMove.by_own (does-own p e es l o) }

    still-to_send : {s : ℕ} {es : List Event} → ToSend s es → AtEnd es → ⊥
    still-to_send ToSend.here x = elim x [ ]
    still-to_send (ToSend.later h) AtEnd.end = to_send-none h

    -- the sender of step s waits for an earlier one
    abbrev Earlier : ℕ → Type 0
    Earlier s =
        (t f n : ℕ) (fs : List Event) → t < s → (S.party (step_of N s).sender).left ≡ Event.receives t f n ∷ fs → t < length N.says
        → receiver_of N t ≡ (step_of N s).sender → SomeCanMove N Q S

    -- for step s, by how much can be looked through before it
    waiting : (k p s f n : ℕ) (es : List Event) → s < k → p < Q → (S.party p).left ≡ Event.receives s f n ∷ es → s < length N.says
        → receiver_of N s ≡ p → SomeCanMove N Q S
    waiting zero p s f n es b u l a e = absurd (omega arith)
    waiting (suc k) p s f n es b u l a e = go (flow.sends s a) (λ t g m fs d z y r. waiting k (step_of N s).sender t g m fs (omega arith) (senders s a) z y r)
      where
        go : ToSend s (S.party (step_of N s).sender).left ⊎ Posted (S.sent s) → Earlier s → SomeCanMove N Q S
        go (inl h) again =
            ask (step_of N s).sender (senders s a) refl (rising-stands (flow.rising (step_of N s).sender)) (still-to_send h)
            (λ t g m fs z y r v. again t g m fs (rising-to_send v (to_send-took (subst (ToSend s) z h))) z y r)
        go (inr h) again = taken h refl
          where
            taken : {o : Option Terms} → Posted o → S.sent s ≡ o → SomeCanMove N Q S
            taken (Posted.posted {ts = ts}) m = record { who = p; within = u; can = CanMove.by_delivery s (does-take p s f n es ts l e m) }

    pub progress : Moves N Q S
    progress p u n = ask p u refl (rising-stands (flow.rising p)) n (λ s f m fs z y r v. waiting (suc s) p s f m fs (omega arith) u z y r)
