-- Laws of the counts: what is done and what is left to do add up; and each move changes nothing, or lowers what is left by one.
-- Assumes nothing.
use Rattle.std.specs.Prelude.{ℕ, zero, suc, ◌+◌, ◌<◌, List, ◌∷◌, ◌⊎◌, ◌≡◌, refl}
use Rattle.std.proofs.Math.Decide.{ℕ_discrete, dec_lt}
use Rattle.std.proofs.Common.{arith, sym, ◌∙◌}
use Rattle.std.proofs.Math.Logic.{inl, inr}
use Rattle.std.proofs.Math.Option.{Option}
use Rattle.std.proofs.Math.Path.{ap, subst}
use Rattle.words.specs.Choice.{pick}
use Rattle.words.specs.Sum.{sum}
use Rattle.words.specs.Sum.Laws.{sum_same}
use Rattle.terms.specs.Term.{Terms, count}
use Rattle.translation.specs.Receive.{Event}
use Rattle.translation.specs.Standing.{standing_at, if_ended}
use Rattle.translation.specs.Places.{place_of, is_end}
use Rattle.translation.specs.Narration.{Narration}
use Rattle.agreement.specs.Change.{change}
use Rattle.agreement.specs.Change.Laws.{change-same, change-other, change-none}
use Rattle.agreement.specs.Machine.{Shown, Party, Turn, System, sent_after, made_after, Move, move, Reach}
use Rattle.agreement.specs.Machine.Laws.{Showing, Turned, turn-cases, Delivered, delivered-cases, move-parties}
use Rattle.agreement.specs.Agree.{meant, receiver_of, AtEnd, Does}
use Rattle.agreement.specs.Safe.{Safe}
use Rattle.agreement.specs.Going.{Going}
use Rattle.agreement.specs.Going.Laws.{narrated-one, EffectWell, goes-effect}
use Rattle.agreement.specs.Order.{Rising}
use Rattle.agreement.specs.Flow.{Flow}
use Rattle.agreement.specs.Finish.{to_do, to_do_all, Lowers, AllAtEnd}

-- ---- sum
-- one summand is lower by one
sum-lower : (f g : ℕ → ℕ) (p n : ℕ) → p < n → suc (g p) ≡ f p → ((q : ℕ) → (p ≡ q → ⊥) → g q ≡ f q) → suc (sum g n) ≡ sum f n
unfolding sum
sum-lower f g p zero l e h = absurd (omega arith)
sum-lower f g p (suc n) l e h = go (ℕ_discrete p n) (λ k. sum-lower f g p n k e h)
  where
    go : Dec (p ≡ n) → (p < n → suc (sum g n) ≡ sum f n) → suc (sum g n + g n) ≡ sum f n + f n
    go (yes z) r =
        let s = sum_same g f n (λ q k. h q (λ y. absurd (omega arith))) in
        let d : suc (g n) ≡ f n = subst (λ q. suc (g q) ≡ f q) z e in
        omega arith
    go (no z) r = let s = r (omega arith) in let d = h n z in omega arith

-- a sum that is 0 has no other summand; of one that is not, some summand is not
sum-zero : (f : ℕ → ℕ) (n : ℕ) → sum f n ≡ 0 → (p : ℕ) → p < n → f p ≡ 0
unfolding sum
sum-zero f zero e p l = absurd (omega arith)
sum-zero f (suc n) e p l = go (ℕ_discrete p n) (λ k. sum-zero f n (omega arith) p k)
  where
    go : Dec (p ≡ n) → (p < n → f p ≡ 0) → f p ≡ 0
    go (yes z) r = ap f z ∙ last
      where
        last : f n ≡ 0
        last = omega arith
    go (no z) r = r (omega arith)

pub sum-some : (f : ℕ → ℕ) (n : ℕ) → 0 < sum f n → (p : ℕ) × (p < n) × (0 < f p)
unfolding sum
sum-some f zero h = absurd (omega arith)
sum-some f (suc n) h = go (dec_lt 0 (f n)) (λ k. sum-some f n k)
  where
    go : Dec (0 < f n) → (0 < sum f n → (p : ℕ) × (p < n) × (0 < f p)) → (p : ℕ) × (p < suc n) × (0 < f p)
    go (yes k) r = (n, omega arith, k)
    go (no k) r = let z = r (omega arith) in let l = z.1 in (z.0, omega arith, z.2)

-- ---- to_do
pub end-to_do : {es : List Event} → AtEnd es → to_do es ≡ 0
unfolding to_do place_of is_end standing_at if_ended pick
end-to_do AtEnd.end = refl

showing-to_do : {e : Event} {o : Shown} (es : List Event) → Showing e o → to_do (e ∷ es) ≡ suc (to_do es)
unfolding to_do place_of is_end standing_at if_ended pick
showing-to_do es Showing.new = refl
showing-to_do es Showing.sends = refl
showing-to_do es Showing.checks = refl
showing-to_do es Showing.opens = refl

-- events that rise end in END
rising-to_do : {N : Narration} {p low : ℕ} {es : List Event} → Rising N p low es → AtEnd es ⊎ (0 < to_do es)
unfolding to_do place_of is_end standing_at if_ended pick
rising-to_do Rising.end = inl AtEnd.end
rising-to_do (Rising.new h) = inr (omega arith)
rising-to_do (Rising.sends l e h) = inr (omega arith)
rising-to_do (Rising.receives l w e h) = inr (omega arith)
rising-to_do (Rising.checks h) = inr (omega arith)
rising-to_do (Rising.opens h) = inr (omega arith)

-- ---- what is done and what is left to do add up to the program, whatever moves are made
abbrev Adds : Party → Party → Type 0
Adds P R = to_do R.left + R.done ≡ to_do P.left + P.done

turned-adds : {P : Party} {t : Turn} → Turned P t → Adds P t.party
turned-adds Turned.stayed = refl
turned-adds (Turned.halted l c) = refl
turned-adds (Turned.did {es = es} l w) = let a = ap to_do l ∙ showing-to_do es w in omega arith

delivered-adds : {s : ℕ} {o : Option Terms} {P R : Party} → Delivered s o P R → Adds P R
unfolding to_do place_of is_end standing_at if_ended pick
delivered-adds Delivered.dropped = refl
delivered-adds (Delivered.halted l e c) = refl
delivered-adds (Delivered.took l e) = let a = ap to_do l in omega arith

move-adds : (receiver : ℕ → ℕ) (m : Move) (S : System) (q : ℕ) → Adds (S.party q) ((move receiver m S).party q)
move-adds = move-parties Adds (λ P. refl) (λ P t h. turned-adds h) (λ s o P R h. delivered-adds h)

pub reach-adds : {receiver : ℕ → ℕ} {B S : System} → Reach receiver B S → (p : ℕ) → Adds (B.party p) (S.party p)
reach-adds Reach.start p = refl
reach-adds {receiver} (Reach.after {S = S} m r) p = move-adds receiver m S p ∙ reach-adds r p

-- ---- each move
module _ (N : Narration) (Q : ℕ) (S : System) (going : Going N S) (flow : Flow N Q S) where
  -- a party that has something to do is one of the first Q
  within : (p : ℕ) → 0 < to_do (S.party p).left → p < Q
  within p h = elim (dec_lt p Q) [ yes l ↦ l | no l ↦ (let e = end-to_do (flow.nobody p (omega arith)) in absurd (omega arith)) ]

  lowered : (p : ℕ) (R : Party) → suc (to_do R.left) ≡ to_do (S.party p).left
      → suc (sum (λ q. to_do (change S.party p R q).left) Q) ≡ sum (λ q. to_do (S.party q).left) Q
  lowered p R e =
      sum-lower (λ q. to_do (S.party q).left) (λ q. to_do (change S.party p R q).left) p Q (within p (omega arith))
      (ap (λ (P : Party). suc (to_do P.left)) (change-same S.party p R) ∙ e)
      (λ q n. ap (λ (P : Party). to_do P.left) (change-other S.party p R q n))

  abbrev after_turn : ℕ → Turn → System
  after_turn p t = record { party = change S.party p t.party; sent = sent_after t.shown S.sent; made = made_after t.shown S.made }

  turned-lowers : (p : ℕ) {t : Turn} → Turned (S.party p) t → (after_turn p t ≡ S) ⊎ (suc (to_do_all Q (after_turn p t)) ≡ to_do_all Q S)
  unfolding to_do_all sent_after made_after
  turned-lowers p Turned.stayed = inl (λ i. record { party = change-none S.party p i; sent = S.sent; made = S.made })
  turned-lowers p (Turned.halted {e = e} {es = es} l c) = absurd (subst (EffectWell N p es) c (goes-effect N p (S.party p) e es (going.parties p) l))
  turned-lowers p (Turned.did {es = es} l w) = inr (lowered p _ (sym (ap to_do l ∙ showing-to_do es w)))

  abbrev after_delivery : ℕ → Party → System
  after_delivery p R = record { party = change S.party p R; sent = S.sent; made = S.made }

  delivered-lowers : (p s : ℕ) {R : Party} → Delivered s (S.sent s) (S.party p) R
      → (after_delivery p R ≡ S) ⊎ (suc (to_do_all Q (after_delivery p R)) ≡ to_do_all Q S)
  unfolding to_do_all to_do place_of is_end standing_at if_ended pick
  delivered-lowers p s Delivered.dropped = inl (λ i. record { party = change-none S.party p i; sent = S.sent; made = S.made })
  delivered-lowers p s (Delivered.halted {f = f} {n = n} {es = es} {ts = ts} l e c) =
      let g = going.parties p in
      let k : Safe N (meant N p) (Event.receives s f n ∷ es) g.holding g.bound =
      subst (λ fs. Safe N (meant N p) fs g.holding g.bound) l g.safe in
      absurd (c (k.3 ∙ ap count (narrated-one N k.1 (going.messages s ts e))))
  delivered-lowers p s (Delivered.took l e) = inr (lowered p _ (sym (ap to_do l)))

  pub move-lowers : (m : Move) → Lowers N Q S m
  unfolding move
  move-lowers (Move.own p) = turned-lowers p (turn-cases (S.party p))
  move-lowers (Move.delivery s) = delivered-lowers (receiver_of N s) s (delivered-cases s (S.sent s) (S.party (receiver_of N s)))

  -- a move that gets something done changes something
  pub does-changes : {m : Move} {p : ℕ} → Does N S m p → move (receiver_of N) m S ≡ S → ⊥
  does-changes {m} {p} d e = let z = sym d.one_more ∙ ap (λ (T : System). (T.party p).done) e in omega arith

  -- when nothing is left to do all are at END
  pub none_left : to_do_all Q S ≡ 0 → AllAtEnd Q S
  unfolding to_do_all
  none_left e p l = go (rising-to_do (flow.rising p))
    where
      go : AtEnd (S.party p).left ⊎ (0 < to_do (S.party p).left) → AtEnd (S.party p).left
      go (inl h) = h
      go (inr h) = let z = sum-zero (λ q. to_do (S.party q).left) Q e p l in absurd (omega arith)
