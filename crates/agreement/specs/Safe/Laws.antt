-- A party's program is safe from the start: by induction over its part in the steps. Assumes nothing.
use Rattle.std.specs.Prelude.{ℕ, suc, ◌+◌, true, ◌≡◌}
use mathlib.Core.List.Memᴰ
use mathlib.Core.List.{List, [], ◌∷◌, ◌++◌, map, append-nil, append_assoc, Memᴰ}
use Rattle.std.proofs.Common.{⊎_elim, sym, ap, ◌∙◌, subst, arith}
use Rattle.std.proofs.Math.Option.{some}
use Rattle.std.proofs.Math.Path.{refl}
use Rattle.std.proofs.Math.ListN.{length, get_elem?, length-append}
use Rattle.terms.specs.Term.{Term, Terms, count, listed, partner}
use Rattle.terms.specs.Term.Laws.{count-listed}
use Rattle.translation.specs.Dictionary.{Held, Dictionary, start, buildable}
use Rattle.translation.specs.Build.{build_all}
use Rattle.translation.specs.Receive.{Event, Stored, Did, nothing, followed, can_open, rule, by_rule, compared, kept, opened, receive, receive_all}
use Rattle.translation.proofs.Receive.Laws.{rule-ind}
use Rattle.translation.specs.Program.{Act, arrived, sent, act, walk, walked, program}
use Rattle.translation.specs.Narration.{Narration}
use Rattle.agreement.specs.Agree.{Narrated}
use Rattle.agreement.specs.Sound.{Right, Sound}
use Rattle.agreement.specs.Sound.Laws.{at-append, sound-append, sound-enter, start-sound, image-value, plus, build_all-value, build_all-sound}
use Rattle.agreement.specs.Safe.{StoredAt, Safe}

-- ---- the terms at the placeholders from x on
data AllAt (ns : List Term) : ℕ → Terms → Type 0 where
  nil : {x : ℕ} → AllAt ns x Terms.nil
  cons : {x : ℕ} {t : Term} {ts : Terms} → get_elem? ns x ≡ some t → AllAt ns (suc x) ts → AllAt ns x (Terms.cons t ts)

all_at-append : (l : List Term) {ns : List Term} {x : ℕ} {ts : Terms} → AllAt ns x ts → AllAt (ns ++ l) x ts
all_at-append l AllAt.nil = AllAt.nil
all_at-append l {ns} (AllAt.cons {x = x} e a) = AllAt.cons (at-append l ns x e) (all_at-append l a)

all_at-later : (n : Term) {ns : List Term} {x : ℕ} {ts : Terms} → AllAt ns x ts → AllAt (n ∷ ns) (suc x) ts
all_at-later n AllAt.nil = AllAt.nil
all_at-later n (AllAt.cons e a) = AllAt.cons e (all_at-later n a)

all_at-front : (ts : Terms) → AllAt (listed ts) 0 ts
unfolding listed
all_at-front Terms.nil = AllAt.nil
all_at-front (Terms.cons t ts) = AllAt.cons refl (all_at-later t (all_at-front ts))

all_at-seam : (ns : List Term) (ts : Terms) → AllAt (ns ++ listed ts) (length ns) ts
all_at-seam [] ts = all_at-front ts
all_at-seam (n ∷ ns) ts = all_at-later n (all_at-seam ns ts)

-- ---- what was stored, and its placeholder
stored_more : (l ns : List Term) (ps : List Stored) → StoredAt ns ps → StoredAt (ns ++ l) ps
stored_more l ns [] a = tt
stored_more l ns (p ∷ ps) a = (at-append l ns p.1 a.0, stored_more l ns ps a.1)

stored-append : (ns : List Term) (ps qs : List Stored) → StoredAt ns ps → StoredAt ns qs → StoredAt ns (ps ++ qs)
stored-append ns [] qs a b = b
stored-append ns (p ∷ ps) qs a b = (a.0, stored-append ns ps qs a.1 b)

pub stored_at : (ns : List Term) (ps : List Stored) → StoredAt ns ps → (t : Term) (x i : ℕ) → Memᴰ (t, x, i) ps → get_elem? ns x ≡ some t
stored_at ns [] a t x i m = absurd (Memᴰ.not-nil m)
stored_at ns (p ∷ ps) a t x i m =
    ⊎_elim (λ e. subst (λ (q : Stored). get_elem? ns q.1 ≡ some q.0) (sym e) a.0) (λ n. stored_at ns ps a.1 t x i n)
    (Memᴰ.cases_cons m)

longer : (ns : List Term) (ts : Terms) (n : ℕ) → n ≡ length ns → n + count ts ≡ length (ns ++ listed ts)
longer ns ts n e = let a = length-append ns (listed ts) in let c = count-listed ts in omega arith

-- ---- the acts are at steps of the narration, with their messages
abbrev ActSaid : Narration → Act → Type 0
ActSaid N (Act.sends s ts) = Narrated N s ts
ActSaid N (Act.receives s ts) = Narrated N s ts

abbrev pub ActsNarrated : Narration → List Act → Type 0
ActsNarrated N [] = Unit {0}
ActsNarrated N (a ∷ acts) = ActSaid N a × ActsNarrated N acts

module _ (N : Narration) (all : List Term) where
  -- ---- what a party's doing adds goes well, from holding hs to holding ks
  record Good (hs ks ns : List Term) (d : Did) : Type 0 where
    pub sound : Sound d.dictionary ks (ns ++ d.given)
    pub safe : (es : List Event) → Safe N all es ks (ns ++ d.given) → Safe N all (d.events ++ es) hs ns
    pub stored : StoredAt (ns ++ d.given) d.stored

  -- where no placeholder is handed out
  good-still : {hs ks ns : List Term} (d : Did) → d.given ≡ [] → Sound d.dictionary ks ns
      → ((es : List Event) → Safe N all es ks ns → Safe N all (d.events ++ es) hs ns) → StoredAt ns d.stored
      → Good hs ks ns d
  good-still {hs} {ks} {ns} d e s f a =
      let z : ns ++ d.given ≡ ns = ap (λ l. ns ++ l) e ∙ append-nil ns in
      record {
        sound = subst (λ l. Sound d.dictionary ks l) (sym z) s;
        safe = λ es k. f es (subst (λ l. Safe N all es ks l) z k);
        stored = subst (λ l. StoredAt l d.stored) (sym z) a;
      }

  good-followed : {hs ks js ns : List Term} (d e : Did) → Good hs ks ns d → Good ks js (ns ++ d.given) e → Good hs js ns (followed d e)
  good-followed {hs} {ks} {js} {ns} d e p q =
      let z = append_assoc ns d.given e.given in
      record {
        sound = subst (λ l. Sound e.dictionary js l) z q.sound;
        safe =
            λ es k. subst (λ l. Safe N all l hs ns) (sym (append_assoc d.events e.events es))
            (p.safe (e.events ++ es) (q.safe es (subst (λ l. Safe N all es js l) (sym z) k)));
        stored = subst (λ l. StoredAt l (d.stored ++ e.stored)) z
            (stored-append _ d.stored e.stored (stored_more e.given _ d.stored p.stored) q.stored);
      }

  good-nothing : {hs ns : List Term} (δ : Dictionary) → Sound δ hs ns → Good hs hs ns (nothing δ)
  good-nothing δ s = good-still (nothing δ) refl s (λ es k. k) tt

  -- ---- receive
  module _ {hs ns : List Term} (δ : Dictionary) (s : Sound δ hs ns) (x : ℕ) where
    good-compared : (t : Term) → get_elem? ns x ≡ some t → buildable δ t ≡ true → Good hs hs ns (compared t x δ)
    good-compared t e b = good-still (compared t x δ) refl s (λ es k. (t, e, image-value hs ns δ s t b, k)) tt

    good-kept : (i : ℕ) (t : Term) → get_elem? ns x ≡ some t → Good hs hs ns (kept i t x δ)
    good-kept i t e = good-still (kept i t x δ) refl (sound-enter δ t (Held.stored i x) (Right.stored e) s) (λ es k. k) (e, tt)

    good-opened : (k : Term) (ts : Terms) (n : ℕ) → n ≡ length ns → get_elem? ns x ≡ some (Term.cipher k ts) → can_open δ (Term.cipher k ts) ≡ true
        → Good hs hs ns (opened k ts x δ n)
    unfolding can_open
    good-opened k ts n l e b =
        record { sound = sound-append (listed ts) s; safe = λ es q. (k, ts, e, l, refl, image-value hs ns δ s (partner k) b, q); stored = tt }

    -- by the cases of the rule
    good-by : (i : ℕ) (t : Term) (o : Did) → get_elem? ns x ≡ some t → (can_open δ t ≡ true → Good hs hs ns o)
        → Good hs hs ns (by_rule (rule δ t) (compared t x δ) o (kept i t x δ))
    unfolding by_rule
    good-by i t o e f = rule-ind (λ r. Good hs hs ns (by_rule r (compared t x δ) o (kept i t x δ))) δ t (good-compared t e) f (λ b. good-kept i t e)

  mutual
    unfolding receive

    good-receive : (i : ℕ) (t : Term) (x : ℕ) (δ : Dictionary) (n : ℕ) {hs ns : List Term} → n ≡ length ns → Sound δ hs ns → get_elem? ns x ≡ some t
        → Good hs hs ns (receive i t x δ n)
    good-receive i (Term.atom r) x δ n l s e = good-by δ s x i _ _ e (λ c. good-nothing δ s)
    good-receive i (Term.operation g ts) x δ n l s e = good-by δ s x i _ _ e (λ c. good-nothing δ s)
    good-receive i (Term.cipher k ts) x δ n {hs} {ns} l s e =
        good-by δ s x i _ _ e
        (λ c. good-followed (opened k ts x δ n) _ (good-opened δ s x k ts n l e c)
        (good-receive_all i ts n δ (n + count ts) (longer ns ts n l) (sound-append (listed ts) s)
        (subst (λ y. AllAt (ns ++ listed ts) y ts) (sym l) (all_at-seam ns ts))))
    good-receive i (Term.public t) x δ n l s e = good-by δ s x i _ _ e (λ c. good-nothing δ s)
    good-receive i (Term.private t) x δ n l s e = good-by δ s x i _ _ e (λ c. good-nothing δ s)

    good-receive_all : (i : ℕ) (ts : Terms) (x : ℕ) (δ : Dictionary) (n : ℕ) {hs ns : List Term} → n ≡ length ns → Sound δ hs ns → AllAt ns x ts
        → Good hs hs ns (receive_all i ts x δ n)
    good-receive_all i Terms.nil x δ n l s a = good-nothing δ s
    good-receive_all i (Terms.cons t ts) x δ n {hs} {ns} l s (AllAt.cons e a) =
        let d = receive i t x δ n in
        let g : Good hs hs ns d = good-receive i t x δ n l s e in
        let c = length-append ns d.given in
        good-followed d _ g (good-receive_all i ts (suc x) d.dictionary (n + length d.given) (omega arith) g.sound (all_at-append d.given a))

  -- ---- act and walk
  news-safe : (rs : List ℕ) (es fs : List Event) (hs ns : List Term) → Safe N all (es ++ fs) (plus rs hs) ns
      → Safe N all ((map Event.new rs ++ es) ++ fs) hs ns
  unfolding plus
  news-safe [] es fs hs ns k = k
  news-safe (r ∷ rs) es fs hs ns k = news-safe rs es fs (Term.atom r ∷ hs) ns k

  good-act : (a : Act) (δ : Dictionary) (n : ℕ) {hs ns : List Term} → ActSaid N a → n ≡ length ns → Sound δ hs ns
      → (ks : List Term) × Good hs ks ns (act a δ n)
  unfolding act
  good-act (Act.sends i ts) δ n {hs} {ns} w l s =
      let b = build_all i ts δ in
      let g = build_all-sound ns i ts δ hs s in
      let v = build_all-value ns i ts δ (plus b.made hs) g in
      (plus b.made hs, good-still (sent i b) refl g (λ es k. news-safe b.made (Event.sends i b.images ∷ []) es hs ns (ts, w, v, k)) tt)
  good-act (Act.receives i ts) δ n {hs} {ns} w l s = (
    hs,
    good-followed (arrived i ts δ n) _ (record { sound = sound-append (listed ts) s; safe = λ es k. (ts, w, l, refl, k); stored = tt })
        (good-receive_all i ts n δ (n + count ts) (longer ns ts n l) (sound-append (listed ts) s)
        (subst (λ y. AllAt (ns ++ listed ts) y ts) (sym l) (all_at-seam ns ts))),
  )

  good-walk : (acts : List Act) (δ : Dictionary) (n : ℕ) {hs ns : List Term} → ActsNarrated N acts → n ≡ length ns → Sound δ hs ns
      → (ks : List Term) × Good hs ks ns (walk acts δ n)
  unfolding walk
  good-walk [] δ n {hs} w l s = (hs, good-nothing δ s)
  good-walk (a ∷ acts) δ n {ns = ns} w l s =
      let d = act a δ n in
      let g = good-act a δ n w.0 l s in
      let c = length-append ns d.given in
      let r = good-walk acts d.dictionary (n + length d.given) w.1 (omega arith) g.1.sound in
      (r.0, good-followed d _ g.1 r.1)

  -- ---- program
  pub program-safe : (known : List Term) (acts : List Act) → ActsNarrated N acts → (walked known acts).given ≡ all
      → Safe N all (program known acts) known []
  unfolding program walked
  program-safe known acts w e =
      let g = good-walk acts (start known) 0 w refl (start-sound known) in
      g.1.safe (Event.ends (walk acts (start known) 0).stored ∷ []) (g.1.stored, ([], append-nil _ ∙ e))

  -- what is bound is the beginning of the whole
  pub safe-begins : (es : List Event) (hs ns : List Term) → Safe N all es hs ns → (l : List Term) × (ns ++ l ≡ all)
  safe-begins [] hs ns k = k
  safe-begins (Event.new r ∷ es) hs ns k = safe-begins es _ ns k
  safe-begins (Event.sends s is ∷ es) hs ns k = safe-begins es hs ns k.3
  safe-begins (Event.receives s f n ∷ es) hs ns k =
      let q = safe-begins es hs _ k.4 in (listed k.0 ++ q.0, sym (append_assoc ns (listed k.0) q.0) ∙ q.1)
  safe-begins (Event.checks x i ∷ es) hs ns k = safe-begins es hs ns k.3
  safe-begins (Event.opens x f n i ∷ es) hs ns k =
      let q = safe-begins es hs _ k.6 in (listed k.1 ++ q.0, sym (append_assoc ns (listed k.1) q.0) ∙ q.1)
  safe-begins (Event.ends ps ∷ es) hs ns k = safe-begins es hs ns k.1
