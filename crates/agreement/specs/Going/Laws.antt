-- What goes well goes on so, by every move. Clauses (a) and (b) follow. Assumes nothing.
use Rattle.std.specs.Prelude.{ℕ, zero, suc, ◌≡◌, length, eqb}
use mathlib.Core.List.{List, [], ◌∷◌, ◌++◌, append-nil, append_assoc}
use Rattle.std.proofs.Math.Option.{Option, none, some, some-injective}
use Rattle.std.proofs.Math.Path.{refl, ap, ap₂, subst, fun_ext}
use Rattle.std.proofs.Common.{sym, ◌∙◌, arith, length-append, eqb-true, eq-eqb}
use Rattle.std.proofs.Math.ListN.{get_elem?}
use Rattle.std.proofs.lemmas.Bool.{eqb-false}
use Rattle.words.specs.Choice.{then}
use Rattle.words.specs.Choice.Laws.{pick_ind, pick_true, choose_yes}
use Rattle.terms.specs.Term.{Term, Terms, same, count, listed, partner}
use Rattle.terms.specs.Term.Laws.{partner-partner}
use Rattle.translation.specs.Receive.{Event}
use Rattle.translation.specs.Standing.Laws.{waits-ind}
use Rattle.translation.specs.Narration.{Narration}
use Rattle.agreement.specs.Change.{change}
use Rattle.agreement.specs.Change.Laws.{change-ind}
use Rattle.agreement.specs.Sight.{Sight, bind, binds}
use Rattle.agreement.specs.Machine.{Shown, Effect, send_effect, check_effect, opens_to, open_effect, effect, Party, Turn, stays, takes, next, turn, handed, delivered, System, sent_after, Move, move, Reach}
use Rattle.agreement.specs.Agree.{meant, Narrated, Bound, Faithful, EndsBound}
use Rattle.agreement.specs.Sound.{sight_of}
use Rattle.agreement.specs.Sound.Laws.{at-append, at-seam}
use Rattle.agreement.specs.Safe.{Safe}
use Rattle.agreement.specs.Safe.Laws.{stored_at, safe-begins}
use Rattle.agreement.specs.Going.{Goes, Going}

-- ---- binding what comes next adds to the list
at_other : (ns : List Term) (t : Term) (q : ℕ) → (length ns ≡ q → ⊥) → get_elem? ns q ≡ get_elem? (ns ++ t ∷ []) q
at_other [] t zero n = absurd (n refl)
at_other [] t (suc q) n = refl
at_other (u ∷ ns) t zero n = refl
at_other (u ∷ ns) t (suc q) n = at_other ns t q (λ e. n (ap suc e))

bind-one : (ns : List Term) (t : Term) (q : ℕ) → change (get_elem? ns) (length ns) (some t) q ≡ get_elem? (ns ++ t ∷ []) q
bind-one ns t q =
    change-ind (get_elem? ns) (length ns) (some t) (λ o. o ≡ get_elem? (ns ++ t ∷ []) q) q
    (λ e. sym (at-seam ns t []) ∙ ap (get_elem? (ns ++ t ∷ [])) e) (λ n. at_other ns t q n)

bind-next : (ts : Terms) (ns : List Term) → bind (length ns) ts (get_elem? ns) ≡ get_elem? (ns ++ listed ts)
unfolding bind listed
bind-next Terms.nil ns = ap get_elem? (sym (append-nil ns))
bind-next (Terms.cons t ts) ns =
    let n = length-append ns (t ∷ []) in
    let y : suc (length ns) ≡ length (ns ++ t ∷ []) = omega arith in
    ap₂ (λ x (f : ℕ → Option Term). bind x ts f) y (fun_ext (bind-one ns t)) ∙ bind-next ts (ns ++ t ∷ [])
    ∙ ap get_elem? (append_assoc ns (t ∷ []) (listed ts))

binds-sight_of : (ts : Terms) (hs ns : List Term) → binds (length ns) ts (sight_of hs ns) ≡ sight_of hs (ns ++ listed ts)
unfolding sight_of
binds-sight_of ts hs ns = λ i. record { itself = hs; placeholders = bind-next ts ns i }

-- ---- opening with the partner's term
opens_to-partner : (k : Term) (ts : Terms) (n : ℕ) → n ≡ count ts → opens_to (Term.cipher k ts) n (partner k) ≡ some ts
unfolding opens_to
opens_to-partner k ts n e = pick_true (eqb n (count ts)) _ _ (eq-eqb n (count ts) e) ∙ choose_yes (same k (partner (partner k))) _ _ (sym (partner-partner k))

module _ (N : Narration) where
  pub narrated-one : {s : ℕ} {ts us : Terms} → Narrated N s ts → Narrated N s us → ts ≡ us
  narrated-one a b = sym a.messages ∙ b.messages

  -- ---- a party's own move
  abbrev ShownWell : Shown → Type 0
  ShownWell Shown.nothing = Unit {0}
  ShownWell (Shown.sent s ts) = Narrated N s ts
  ShownWell (Shown.made r) = Unit {0}

  -- the effect of a safe event is never a failure
  abbrev pub EffectWell : ℕ → List Event → Effect → Type 0
  EffectWell p es Effect.fails = ⊥
  EffectWell p es Effect.idles = Unit {0}
  EffectWell p es (Effect.does o v) = ShownWell o × ((hs : List Term) × (ns : List Term) × (v ≡ sight_of hs ns) × Safe N (meant N p) es hs ns)

  effect-well : (p : ℕ) (e : Event) (es : List Event) (hs ns : List Term) → Safe N (meant N p) (e ∷ es) hs ns
      → EffectWell p es (effect e (sight_of hs ns))
  unfolding effect send_effect check_effect open_effect then sight_of
  effect-well p (Event.new r) es hs ns k = (tt, (Term.atom r ∷ hs, ns, refl, k))
  effect-well p (Event.sends s is) es hs ns k = rw k.2 (k.1, (hs, ns, refl, k.3))
  effect-well p (Event.receives s f n) es hs ns k = tt
  effect-well p (Event.checks x i) es hs ns k =
      rw (k.1, k.2, choose_yes (same k.0 k.0) (Effect.does Shown.nothing (sight_of hs ns)) Effect.fails refl) (tt, (hs, ns, refl, k.3))
  effect-well p (Event.opens x f n i) es hs ns k =
      rw (k.2, k.5, opens_to-partner k.0 k.1 n k.4, k.3) (tt, (hs, ns ++ listed k.1, binds-sight_of k.1 hs ns, k.6))
  effect-well p (Event.ends ps) es hs ns k = tt

  pub goes-effect : (p : ℕ) (P : Party) (e : Event) (es : List Event) → Goes N p P → P.left ≡ e ∷ es → EffectWell p es (effect e P.sight)
  goes-effect p P e es g l =
      subst (λ v. EffectWell p es (effect e v)) (sym g.sees)
      (effect-well p e es g.holding g.bound (subst (λ fs. Safe N (meant N p) fs g.holding g.bound) l g.safe))

  abbrev TurnWell : ℕ → Turn → Type 0
  TurnWell p t = Goes N p t.party × ShownWell t.shown

  takes-well : (p : ℕ) (f : Effect) (P : Party) (es : List Event) → Goes N p P → EffectWell p es f → TurnWell p (takes f P es)
  unfolding takes
  takes-well p Effect.fails P es g k = absurd k
  takes-well p Effect.idles P es g k = (g, tt)
  takes-well p (Effect.does o v) P es g k = (record { unhalted = g.unhalted; holding = k.1.0; bound = k.1.1; sees = k.1.2; safe = k.1.3 }, k.0)

  next-well : (p : ℕ) (es : List Event) (P : Party) → Goes N p P → P.left ≡ es → TurnWell p (next es P)
  unfolding next
  next-well p [] P g l = (g, tt)
  next-well p (e ∷ es) P g l = takes-well p (effect e P.sight) P es g (goes-effect p P e es g l)

  turn-well : (p : ℕ) (P : Party) → Goes N p P → TurnWell p (turn P)
  unfolding turn
  turn-well p P g = pick_ind (TurnWell p) P.halted (stays P) (next P.left P) (λ e. (g, tt)) (λ e. next-well p P.left P g refl)

  -- ---- a handing over
  handed-well : (p : ℕ) (es : List Event) (s : ℕ) (ts : Terms) (P : Party) → Goes N p P → P.left ≡ es → Narrated N s ts
      → Goes N p (handed es s ts P)
  unfolding handed
  handed-well p [] s ts P g l w = g
  handed-well p (e ∷ es) s ts P g l w =
      waits-ind (Goes N p) e _ _
      (λ a f n q.
      let k : Safe N (meant N p) (Event.receives a f n ∷ es) g.holding g.bound =
      subst (λ fs. Safe N (meant N p) fs g.holding g.bound) (l ∙ ap (λ d. d ∷ es) q) g.safe in
      pick_ind (Goes N p) (eqb a s) _ _
      (λ c.
      let z : k.0 ≡ ts = narrated-one (subst (λ b. Narrated N b k.0) (eqb-true a s c) k.1) w in
      pick_ind (Goes N p) (eqb n (count ts)) _ _
      (λ d. record {
        unhalted = g.unhalted;
        holding = g.holding;
        bound = g.bound ++ listed ts;
        sees = ap₂ (λ x (v : Sight). binds x ts v) k.2 g.sees ∙ binds-sight_of ts g.holding g.bound;
        safe = subst (λ us. Safe N (meant N p) es g.holding (g.bound ++ listed us)) z k.4;
      })
      (λ d. absurd (eqb-false n (count ts) d (k.3 ∙ ap count z))))
      (λ c. g))
      g

  delivered-well : (p s : ℕ) (o : Option Terms) (P : Party) → Goes N p P → ((ts : Terms) → o ≡ some ts → Narrated N s ts)
      → Goes N p (delivered s o P)
  unfolding delivered
  delivered-well p s none P g w = g
  delivered-well p s (some ts) P g w =
      pick_ind (Goes N p) P.halted P (handed P.left s ts P) (λ e. g) (λ e. handed-well p P.left s ts P g refl (w ts refl))

  -- ---- every move
  changed-well : (f : ℕ → Party) (p : ℕ) (P : Party) → Goes N p P → ((q : ℕ) → Goes N q (f q)) → (q : ℕ) → Goes N q (change f p P q)
  changed-well f p P g h q = change-ind f p P (Goes N q) q (λ e. subst (λ r. Goes N r P) e g) (λ n. h q)

  sent-well : (o : Shown) (f : ℕ → Option Terms) → ShownWell o → ((s : ℕ) (ts : Terms) → f s ≡ some ts → Narrated N s ts)
      → (s : ℕ) (ts : Terms) → sent_after o f s ≡ some ts → Narrated N s ts
  unfolding sent_after
  sent-well Shown.nothing f w h s ts = h s ts
  sent-well (Shown.sent a us) f w h s ts =
      change-ind f a (some us) (λ x. x ≡ some ts → Narrated N s ts) s
      (λ e d. subst (λ r. Narrated N r ts) e (subst (Narrated N a) (some-injective us ts d) w)) (λ n. h s ts)
  sent-well (Shown.made r) f w h s ts = h s ts

  move-well : (receiver : ℕ → ℕ) (m : Move) (S : System) → Going N S → Going N (move receiver m S)
  unfolding move
  move-well receiver (Move.own p) S g =
      let t = turn-well p (S.party p) (g.parties p) in
      record { parties = changed-well S.party p _ t.0 g.parties; messages = sent-well _ S.sent t.1 g.messages }
  move-well receiver (Move.delivery s) S g =
      let r = receiver s in
      record {
        parties = changed-well S.party r _ (delivered-well r s (S.sent s) (S.party r) (g.parties r) (g.messages s))
            g.parties;
        messages = g.messages;
      }

  pub reach-going : {receiver : ℕ → ℕ} {B S : System} → Reach receiver B S → Going N B → Going N S
  reach-going Reach.start g = g
  reach-going {receiver} (Reach.after {S = S} m r) g = move-well receiver m S (reach-going r g)

  -- ---- clauses (a) and (b)
  pub going-bound : (S : System) → Going N S → Bound N S
  unfolding sight_of
  going-bound S g p x t e =
      let h = g.parties p in
      let z = safe-begins N (meant N p) (S.party p).left h.holding h.bound h.safe in
      subst (λ l. get_elem? l x ≡ some t) z.1 (at-append z.0 h.bound x (sym (ap (λ (v : Sight). v.placeholders x) h.sees) ∙ e))

  pub going-faithful : (S : System) → Going N S → Faithful N S
  going-faithful S g =
      record {
        succeeds = λ p e es l f. subst (EffectWell p es) f (goes-effect p (S.party p) e es (g.parties p) l);
        unhalted = λ p. (g.parties p).unhalted;
        messages = g.messages;
      }

  -- ---- what END names
  pub going-ends : (S : System) → Going N S → EndsBound S
  unfolding sight_of
  going-ends S g p ps es l t x s m =
      let h = g.parties p in
      let k = subst (λ e. Safe N (meant N p) e h.holding h.bound) l h.safe in
      ap (λ (v : Sight). v.placeholders x) h.sees ∙ stored_at h.bound ps k.0 t x s m
