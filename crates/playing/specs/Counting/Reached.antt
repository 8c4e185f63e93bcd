-- Laws: in every state that is reached, what a party has left is its program behind the events that it has done, and a step that was
-- sent is one whose SEND is done. Assumes nothing.
use Prim.Native.Nat.{ℕ, suc, ◌≤◌, ◌<◌}
use Rattle.std.proofs.Common.{arith, sym, ap, ◌∙◌, eq-eqb}
use Rattle.std.specs.Prelude.{List, ◌∷◌, ◌⊎◌, ◌≡◌, refl}
use Rattle.std.proofs.Math.Logic.{inl, inr, ⊎_elim}
use Rattle.std.proofs.Math.Option.{Option, none, some}
use Rattle.std.proofs.Math.Path.{subst}
use Rattle.terms.specs.Term.{Term, Terms}
use Rattle.translation.specs.Receive.{Event}
use Rattle.translation.specs.Narration.{Narration, known_to}
use Rattle.translation.specs.Taken.{step_of}
use Rattle.translation.specs.Standing.{standing_at, if_sends}
use Rattle.translation.specs.Places.{place_of, is_send}
use Rattle.translation.specs.Spelled.{Programs}
use Rattle.agreement.specs.Change.{change}
use Rattle.agreement.specs.Change.Laws.{change-ind, change-same}
use Rattle.agreement.specs.Machine.{Party, Turn, turn, System, sent_after, Move, move, begin, Reach}
use Rattle.agreement.specs.Machine.Laws.{Showing, Turned, turn-cases, Delivered, move-parties}
use Rattle.agreement.specs.Agree.{receiver_of}
use Rattle.agreement.specs.Order.{Rising}
use Rattle.agreement.specs.Order.Laws.{rising-sender}
use Rattle.agreement.specs.Flow.{Posted}
use Rattle.agreement.specs.Start.{PlayableAmong, reached-flow}
use Rattle.playing.specs.Counting.Behind.{Behind, behind-next, place-upto}

-- ---- a party stays where it was, or its next event is done
data Onward (P R : Party) : Type 0 where
  still : R.left ≡ P.left → R.done ≡ P.done → Onward P R
  next : (e : Event) → P.left ≡ e ∷ R.left → R.done ≡ suc P.done → Onward P R

turned-onward : {P : Party} {t : Turn} → Turned P t → Onward P t.party
turned-onward Turned.stayed = Onward.still refl refl
turned-onward (Turned.halted l c) = Onward.still refl refl
turned-onward (Turned.did {e = e} l w) = Onward.next e l refl

delivered-onward : {s : ℕ} {o : Option Terms} {P R : Party} → Delivered s o P R → Onward P R
delivered-onward Delivered.dropped = Onward.still refl refl
delivered-onward (Delivered.halted l e c) = Onward.still refl refl
delivered-onward (Delivered.took l e) = Onward.next _ l refl

move-onward : (receiver : ℕ → ℕ) (m : Move) (S : System) (q : ℕ) → Onward (S.party q) ((move receiver m S).party q)
move-onward = move-parties Onward (λ P. Onward.still refl refl) (λ P t h. turned-onward h) (λ s o P R h. delivered-onward h)

onward-done : {P R : Party} → Onward P R → P.done ≤ R.done
onward-done (Onward.still l d) = omega arith
onward-done (Onward.next e l d) = omega arith

onward-behind : {P R : Party} (es : List Event) → Onward P R → Behind P.done es P.left → Behind R.done es R.left
onward-behind {P} {R} es (Onward.still l d) h = subst (λ n. Behind n es R.left) (sym d) (subst (Behind P.done es) (sym l) h)
onward-behind {P} {R} es (Onward.next e l d) h = subst (λ n. Behind n es R.left) (sym d) (behind-next (subst (Behind P.done es) l h))

pub reach-behind : {receiver : ℕ → ℕ} (known : ℕ → List Term) (programs : ℕ → List Event) {S : System} → Reach receiver (begin known programs) S
    → (p : ℕ) → Behind (S.party p).done (programs p) (S.party p).left
unfolding begin
reach-behind known programs Reach.start p = Behind.all
reach-behind {receiver} known programs (Reach.after {S = S} m r) p = onward-behind (programs p) (move-onward receiver m S p) (reach-behind known programs r p)

-- ---- what is sent after a party's own move was sent before, or its SEND is done now
module _ (N : Narration) (p : ℕ) (es : List Event) where
  turned-sent : {P : Party} {t : Turn} → Rising N p 0 P.left → Behind P.done es P.left → Turned P t → (f : ℕ → Option Terms) (s : ℕ)
      → Posted (sent_after t.shown f s) → Posted (f s) ⊎ (((step_of N s).sender ≡ p) × (place_of (is_send s) es < t.party.done))
  unfolding sent_after is_send standing_at if_sends
  turned-sent h b Turned.stayed f s k = inl k
  turned-sent h b (Turned.halted l c) f s k = inl k
  turned-sent h b (Turned.did l Showing.new) f s k = inl k
  turned-sent {P} h b (Turned.did l (Showing.sends {s = a} {ts = ts})) f s k =
      change-ind f a (some ts) (λ o. Posted o → Posted (f s) ⊎ (((step_of N s).sender ≡ p) × (place_of (is_send s) es < suc P.done))) s
      (λ e x. let u = place-upto (is_send s) (subst (Behind P.done es) l b) (eq-eqb a s e) in
      inr (ap (λ i. (step_of N i).sender) (sym e) ∙ rising-sender (subst (Rising N p 0) l h), omega arith))
      (λ n x. inl x) k
  turned-sent h b (Turned.did l Showing.checks) f s k = inl k
  turned-sent h b (Turned.did l Showing.opens) f s k = inl k

module _ (N : Narration) (Q : ℕ) (programs : ℕ → List Event) (v : PlayableAmong N Q) (w : Programs N Q programs) where
  abbrev SentDone : System → ℕ → Type 0
  SentDone S s = Posted (S.sent s) → place_of (is_send s) (programs (step_of N s).sender) < (S.party (step_of N s).sender).done

  none-posted : Posted none → ⊥
  none-posted h = elim h [ ]

  module _ {S : System} (r : Reach (receiver_of N) (begin (known_to N) programs) S) (s : ℕ) (before : SentDone S s) where
    sent-still : (m : Move) → Posted (S.sent s)
        → place_of (is_send s) (programs (step_of N s).sender) < ((move (receiver_of N) m S).party (step_of N s).sender).done
    sent-still m h = let a = before h in let c = onward-done (move-onward (receiver_of N) m S (step_of N s).sender) in omega arith

    move-sent : (m : Move) → SentDone (move (receiver_of N) m S) s
    unfolding move
    move-sent (Move.own p) h =
        ⊎_elim (sent-still (Move.own p))
        (λ x. subst (λ i. place_of (is_send s) (programs i) < (change S.party p (turn (S.party p)).party i).done) (sym x.0)
        (subst (λ (R : Party). place_of (is_send s) (programs p) < R.done) (sym (change-same S.party p _)) x.1))
        (turned-sent N p (programs p) ((reached-flow N Q programs v w r).rising p) (reach-behind (known_to N) programs r p) (turn-cases (S.party p))
        S.sent s h)
    move-sent (Move.delivery a) h = sent-still (Move.delivery a) h

  pub reach-sent : {S : System} → Reach (receiver_of N) (begin (known_to N) programs) S → (s : ℕ) → SentDone S s
  unfolding begin
  reach-sent Reach.start s h = absurd (none-posted h)
  reach-sent (Reach.after m r) s h = move-sent r s (λ k. reach-sent r s k) m h
