-- What is left to do goes on as it should, by every move. Assumes nothing.
use Rattle.std.specs.Prelude.{ℕ, suc, List, ◌∷◌, ◌⊎◌, ◌≡◌, refl}
use Rattle.std.proofs.Common.{arith, sym, subst}
use Rattle.std.proofs.Math.Logic.{inl, inr, ⊎_elim}
use Rattle.std.proofs.Math.Option.{Option, some}
use Rattle.terms.specs.Term.{Terms}
use Rattle.translation.specs.Receive.{Event}
use Rattle.translation.specs.Narration.{Narration}
use Rattle.translation.specs.Taken.{step_of}
use Rattle.agreement.specs.Change.{change}
use Rattle.agreement.specs.Change.Laws.{change-ind}
use Rattle.agreement.specs.Machine.{Shown, Party, Turn, turn, delivered, System, sent_after, Move, move, Reach}
use Rattle.agreement.specs.Machine.Laws.{Showing, Turned, turn-cases, Delivered, delivered-cases}
use Rattle.agreement.specs.Agree.{receiver_of, AtEnd, Does}
use Rattle.agreement.specs.Order.{Rising, ToSend}
use Rattle.agreement.specs.Order.Laws.{rising-did, rising-took, to_send-did, to_send-took}
use Rattle.agreement.specs.Flow.{Posted, Flow}

-- ---- a party at END does nothing and takes nothing
end-did : {e : Event} {es : List Event} {o : Shown} → AtEnd (e ∷ es) → Showing e o → ⊥
end-did AtEnd.end w = elim w [ ]

end-took : {s f n : ℕ} {es : List Event} → AtEnd (Event.receives s f n ∷ es) → ⊥
end-took h = elim h [ ]

turned-end : {P : Party} {t : Turn} → Turned P t → AtEnd P.left → AtEnd t.party.left
turned-end Turned.stayed h = h
turned-end (Turned.halted l c) h = h
turned-end (Turned.did l w) h = absurd (end-did (subst AtEnd l h) w)

delivered-end : {s : ℕ} {o : Option Terms} {P R : Party} → Delivered s o P R → AtEnd P.left → AtEnd R.left
delivered-end Delivered.dropped h = h
delivered-end (Delivered.halted l e c) h = h
delivered-end (Delivered.took l e) h = absurd (end-took (subst AtEnd l h))

-- ---- what is left still rises
module _ (N : Narration) (p : ℕ) where
  turned-rising : {P : Party} {t : Turn} → Turned P t → Rising N p 0 P.left → Rising N p 0 t.party.left
  turned-rising Turned.stayed h = h
  turned-rising (Turned.halted l c) h = h
  turned-rising (Turned.did l w) h = rising-did N p (subst (Rising N p 0) l h) w

  delivered-rising : {s : ℕ} {o : Option Terms} {P R : Party} → Delivered s o P R → Rising N p 0 P.left → Rising N p 0 R.left
  delivered-rising Delivered.dropped h = h
  delivered-rising (Delivered.halted l e c) h = h
  delivered-rising (Delivered.took l e) h = rising-took N p (subst (Rising N p 0) l h)

-- ---- what was to be sent is sent or still to be sent
turned-to_send : {s : ℕ} {P : Party} {t : Turn} → Turned P t → ToSend s P.left
    → ToSend s t.party.left ⊎ ((ts : Terms) × (t.shown ≡ Shown.sent s ts))
turned-to_send Turned.stayed h = inl h
turned-to_send (Turned.halted l c) h = inl h
turned-to_send {s} (Turned.did l w) h = to_send-did (subst (ToSend s) l h) w

delivered-to_send : {a s : ℕ} {o : Option Terms} {P R : Party} → Delivered s o P R → ToSend a P.left → ToSend a R.left
delivered-to_send Delivered.dropped h = h
delivered-to_send (Delivered.halted l e c) h = h
delivered-to_send {a} (Delivered.took l e) h = to_send-took (subst (ToSend a) l h)

posted-still : (o : Shown) (f : ℕ → Option Terms) (s : ℕ) → Posted (f s) → Posted (sent_after o f s)
unfolding sent_after
posted-still Shown.nothing f s h = h
posted-still (Shown.sent a ts) f s h = change-ind f a (some ts) Posted s (λ e. Posted.posted) (λ n. h)
posted-still (Shown.made r) f s h = h

posted-now : (o : Shown) (f : ℕ → Option Terms) (s : ℕ) (ts : Terms) → o ≡ Shown.sent s ts → Posted (sent_after o f s)
unfolding sent_after
posted-now o f s ts e = rw e (change-ind f s (some ts) Posted s (λ d. Posted.posted) (λ n. absurd (n refl)))

-- ---- a handing over that gets something done is of a step that was sent, and that the party waits for
pub record Taking (S : System) (s p : ℕ) : Type 0 where
  pub first : ℕ
  pub many : ℕ
  pub rest : List Event
  pub messages : Terms
  pub waits : (S.party p).left ≡ Event.receives s first many ∷ rest
  pub sent : S.sent s ≡ some messages

pub does-handed : (N : Narration) (S : System) (s p : ℕ) → Does N S (Move.delivery s) p → Taking S s p
unfolding move
does-handed N S s p d =
    let q = receiver_of N s in
    change-ind S.party q (delivered s (S.sent s) (S.party q)) (λ R. R.done ≡ suc (S.party p).done → Taking S s p) p
    (λ e. subst (λ r. (delivered s (S.sent s) (S.party q)).done ≡ suc (S.party r).done → Taking S s r) e
    (taken q (delivered-cases s (S.sent s) (S.party q))))
    (λ n c. absurd (omega arith)) d.one_more
  where
    taken : (r : ℕ) {R : Party} → Delivered s (S.sent s) (S.party r) R → R.done ≡ suc (S.party r).done → Taking S s r
    taken r Delivered.dropped c = absurd (omega arith)
    taken r (Delivered.halted l e n) c = absurd (omega arith)
    taken r (Delivered.took {f = f} {n = n} {es = es} {ts = ts} l e) c = record { first = f; many = n; rest = es; messages = ts; waits = l; sent = e }

-- ---- every move
module _ (N : Narration) (Q : ℕ) where
  -- a party's property, kept by the party that is changed
  kept_at : (A : Party → Type 0) (f : ℕ → Party) (p : ℕ) (R : Party) (q : ℕ) → (A (f p) → A R) → A (f q) → A (change f p R q)
  kept_at A f p R q k h = change-ind f p R A q (λ e. k (subst (λ r. A (f r)) (sym e) h)) (λ n. h)

  move-flow : (receiver : ℕ → ℕ) (m : Move) (S : System) → Flow N Q S → Flow N Q (move receiver m S)
  unfolding move
  move-flow receiver (Move.own p) S g =
      let c = turn-cases (S.party p) in
      let o = (turn (S.party p)).shown in
      record {
        rising = λ q. kept_at (λ P. Rising N q 0 P.left) S.party p _ q (turned-rising N q c) (g.rising q);
        sends = λ s l. ⊎_elim
            (λ h. kept_at (λ P. ToSend s P.left ⊎ Posted (sent_after o S.sent s)) S.party p _ (step_of N s).sender
            (⊎_elim (λ k. ⊎_elim (λ x. inl x) (λ x. inr (posted-now o S.sent s x.0 x.1)) (turned-to_send c k)) (λ k. inr k)) (inl h))
            (λ h. inr (posted-still o S.sent s h)) (g.sends s l);
        nobody = λ q l. kept_at (λ P. AtEnd P.left) S.party p _ q (turned-end c) (g.nobody q l);
      }
  move-flow receiver (Move.delivery a) S g =
      let r = receiver a in
      let c = delivered-cases a (S.sent a) (S.party r) in
      record {
        rising = λ q. kept_at (λ P. Rising N q 0 P.left) S.party r _ q (delivered-rising N q c) (g.rising q);
        sends =
            λ s l. ⊎_elim (λ h. inl (kept_at (λ P. ToSend s P.left) S.party r _ (step_of N s).sender (delivered-to_send c) h)) (λ h. inr h)
            (g.sends s l);
        nobody = λ q l. kept_at (λ P. AtEnd P.left) S.party r _ q (delivered-end c) (g.nobody q l);
      }

  pub reach-flow : {receiver : ℕ → ℕ} {B S : System} → Reach receiver B S → Flow N Q B → Flow N Q S
  reach-flow Reach.start g = g
  reach-flow {receiver} (Reach.after {S = S} m r) g = move-flow receiver m S (reach-flow r g)
