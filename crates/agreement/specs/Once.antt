-- Laws: clause (e). A copy is taken only at the RECEIVE of its step; behind that, what is left is of later steps, and what is left only
-- gets shorter, so that no further copy is taken. Assumes nothing.
use Rattle.std.specs.Prelude.{ℕ, false, List, ◌∷◌, ◌⊎◌, ◌≡◌}
use Rattle.std.proofs.Common.{true≢false, inl, inr, sym, ap, ◌∙◌, subst}
use Rattle.std.proofs.Math.Option.{Option}
use Rattle.std.proofs.Math.Path.{refl}
use Rattle.terms.specs.Term.{Terms}
use Rattle.translation.specs.Receive.{Event}
use Rattle.translation.specs.Standing.{standing_at, standing}
use Rattle.translation.specs.Narration.{Narration}
use Rattle.agreement.specs.Change.{change}
use Rattle.agreement.specs.Change.Laws.{change-same, change-none}
use Rattle.agreement.specs.Machine.{Party, Turn, delivered, System, Move, move, Reach}
use Rattle.agreement.specs.Machine.Laws.{Turned, Delivered, delivered-cases, move-parties}
use Rattle.agreement.specs.Agree.{receiver_of, Dropped, TakesCopy}
use Rattle.agreement.specs.Order.{Rising, Of, Among}
use Rattle.agreement.specs.Order.Laws.{rising-once}

-- ---- no move adds an event of step s to those left
module _ (s : ℕ) where
  -- of a party before and after
  abbrev NoneNew : Party → Party → Type 0
  NoneNew P R = Among s R.left → Among s P.left

  turned-among : (P : Party) (t : Turn) → Turned P t → NoneNew P t.party
  turned-among P t Turned.stayed h = h
  turned-among P t (Turned.halted l c) h = h
  turned-among P t (Turned.did l w) h = subst (Among s) (sym l) (Among.later h)

  delivered-among : (a : ℕ) (o : Option Terms) (P R : Party) → Delivered a o P R → NoneNew P R
  delivered-among a o P R Delivered.dropped h = h
  delivered-among a o P R (Delivered.halted l e c) h = h
  delivered-among a o P R (Delivered.took l e) h = subst (Among s) (sym l) (Among.later h)

  reach-among : {receiver : ℕ → ℕ} {B S : System} → Reach receiver B S → (q : ℕ) → Among s (S.party q).left → Among s (B.party q).left
  reach-among Reach.start q h = h
  reach-among {receiver} (Reach.after {S = S} m r) q h =
      reach-among r q (move-parties NoneNew (λ P k. k) turned-among delivered-among receiver m S q h)

-- ---- a copy of step s, whose receiver is p
module _ (N : Narration) (s : ℕ) where
  abbrev p : ℕ
  p = receiver_of N s

  stays-dropped : (S : System) → delivered s (S.sent s) (S.party p) ≡ S.party p → Dropped N s S
  unfolding move
  stays-dropped S e =
      (λ i. record { party = change S.party p (e i); sent = S.sent; made = S.made })
      ∙ (λ i. record { party = change-none S.party p i; sent = S.sent; made = S.made })

  -- for any programs: where the receiver doesn't wait for the step, the copy is dropped
  pub unless-waits : (S : System) → ((f n : ℕ) (es : List Event) → (S.party p).left ≡ Event.receives s f n ∷ es → ⊥) → Dropped N s S
  unless-waits S w = stays-dropped S (same (delivered-cases s (S.sent s) (S.party p)))
    where
      same : {R : Party} → Delivered s (S.sent s) (S.party p) R → R ≡ S.party p
      same Delivered.dropped = refl
      same (Delivered.halted l e c) = absurd (w _ _ _ l)
      same (Delivered.took l e) = absurd (w _ _ _ l)

  none_dropped : (S : System) → (Among s (S.party p).left → ⊥) → Dropped N s S
  none_dropped S n = unless-waits S (λ f m es l. n (subst (Among s) (sym l) (Among.here Of.receives)))

  -- where what is left to the receiver rises, and the copy doesn't halt it
  pub copy-once : (S : System) → Rising N p 0 (S.party p).left → ((move (receiver_of N) (Move.delivery s) S).party p).halted ≡ false
      → Dropped N s S ⊎ TakesCopy N s S
  unfolding move standing standing_at
  copy-once S rising unhalted = go refl (delivered-cases s (S.sent s) (S.party p))
    where
      after : (move (receiver_of N) (Move.delivery s) S).party p ≡ delivered s (S.sent s) (S.party p)
      after = change-same S.party p _

      go : {R : Party} → delivered s (S.sent s) (S.party p) ≡ R → Delivered s (S.sent s) (S.party p) R → Dropped N s S ⊎ TakesCopy N s S
      go d Delivered.dropped = inl (stays-dropped S d)
      go d (Delivered.halted l e c) = absurd (true≢false (sym (ap (λ (P : Party). P.halted) (after ∙ d)) ∙ unhalted))
      go d (Delivered.took {f = f} {n = n} {es = es} l e) =
          let left : ((move (receiver_of N) (Move.delivery s) S).party p).left ≡ es = ap (λ (P : Party). P.left) (after ∙ d) in
          inr (record {
            first = f;
            many = n;
            waits = ap standing l;
            does = record {
              event = Event.receives s f n;
              rest = es;
              before = l;
              after = left;
              one_more = ap (λ (P : Party). P.done) (after ∙ d);
            };
            none_later = λ {T} r. none_dropped T
                (λ k. rising-once (subst (Rising N p 0) l rising) (subst (Among s) left (reach-among s r p k)) Of.receives);
          })
