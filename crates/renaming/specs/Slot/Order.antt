-- Our own slots are in order: those of a whole program, and those of one step behind what was stored before it. An image uses what the
-- dictionary has as stored; a step compares and opens what it has handed out itself. Assumes nothing.
use Rattle.std.specs.Prelude.{ℕ, suc, ◌+◌, ◌≤◌, ◌<◌, ◌⊎◌, ◌≡◌}
use native.Mathlib.Omega.{arith}
use mathlib.Core.List.{List, [], ◌∷◌, ◌++◌, map}
use Rattle.std.proofs.Math.Logic.{inl, inr, ⊎_elim}
use Rattle.std.proofs.Math.Path.{refl}
use Rattle.std.proofs.Common.{ap, ◌∙◌, length-append}
use Rattle.std.proofs.Math.ListN.{length}
use Rattle.terms.specs.Term.{Term, Terms, count, listed, partner}
use Rattle.terms.specs.Term.Laws.{count-listed}
use Rattle.terms.specs.Image.{Image}
use Rattle.terms.specs.Table.{number}
use Rattle.book.specs.Layout.{table, rows, parties, steps}
use Rattle.translation.specs.Dictionary.{Held, Dictionary, start, image_or, image, images}
use Rattle.translation.specs.Build.{build_all}
use Rattle.translation.specs.Along.Laws.{build_all-images}
use Rattle.translation.specs.Receive.{Event, Stored, Did, nothing, followed, rule, by_rule, compared, kept, opened, receive, receive_all}
use Rattle.translation.proofs.Receive.Laws.{by-rule}
use Rattle.translation.specs.Program.{Act, acts_of, sent, arrived, act, walk, walked, program}
use Rattle.translation.specs.Narration.{narration, known_to, program_of}
use Rattle.translation.specs.Steps.{step_did, before}
use Rattle.translation.proofs.Steps.Laws.{before_more, before-all}
use Rattle.renaming.specs.Slot.{Slot, image_slots, images_slots, triple_slots, event_slots, program_slots, part_slots, InOrder, Ordered, handed, Below, Kept}
use Rattle.renaming.specs.Slot.Laws.{slots-append, slots-one, handed-append, handed-image, handed-images, handed-triples, kept_either, order-append, order_below}
use Rattle.renaming.specs.Slot.Holds.{HeldAt, HoldsAt, holds_more, start-holds, build_all-holds, receive-adds, act-adds, walk-adds}

-- ---- what can be used, where n is the next placeholder
abbrev pub Usable : (ℕ → Type 0) → ℕ → ℕ → ℕ → Type 0
Usable old first n x = old x ⊎ ((first ≤ x) × (x < n))

usable-later : (old : ℕ → Type 0) (first n m x : ℕ) → n ≤ m → Usable old first n x → Usable old first m x
usable-later old first n m x l (inl o) = inl o
usable-later old first n m x l (inr k) = inr (k.0, omega arith)

order-uses : {old : ℕ → Type 0} {first n x : ℕ} {ss : List Slot} → Usable old first n x → InOrder old first n ss
    → InOrder old first n (Slot.uses x ∷ ss)
order-uses (inl o) h = InOrder.kept o h
order-uses (inr k) h = InOrder.since k.0 k.1 h

module _ (row : Term → ℕ) (old : ℕ → Type 0) (first : ℕ) where
  -- all that the dictionary has as stored can be used
  abbrev Ready : ℕ → Dictionary → Type 0
  Ready n δ = HoldsAt (Usable old first n) δ

  ready-later : (n m : ℕ) → n ≤ m → (δ : Dictionary) → Ready n δ → Ready m δ
  ready-later n m l δ d = holds_more (Usable old first n) (Usable old first m) (λ x u. usable-later old first n m x l u) δ d

  -- ---- images
  module _ (n : ℕ) where
    or-ordered : (h : Held) (t : Term) (i : Image) → HeldAt (Usable old first n) h → InOrder old first n (image_slots row i)
        → InOrder old first n (image_slots row (image_or h t i))
    unfolding image_or image_slots
    or-ordered Held.free t i u o = o
    or-ordered Held.given t i u o = InOrder.plain (InOrder.plain InOrder.none)
    or-ordered (Held.made s) t i u o = InOrder.plain (InOrder.plain InOrder.none)
    or-ordered (Held.stored s x) t i u o = InOrder.plain (order-uses u InOrder.none)

    mutual
      unfolding image image_slots

      image-ordered : (δ : Dictionary) → Ready n δ → (t : Term) → InOrder old first n (image_slots row (image δ t))
      image-ordered δ d (Term.atom r) = or-ordered _ _ _ (d (Term.atom r)) (InOrder.plain (InOrder.plain InOrder.none))
      image-ordered δ d (Term.operation g ts) =
          or-ordered _ _ _ (d (Term.operation g ts)) (InOrder.plain (InOrder.plain (InOrder.plain (images-ordered δ d ts))))
      image-ordered δ d (Term.cipher k ts) =
          let e = handed-image row (image δ k) in
          or-ordered _ _ _ (d (Term.cipher k ts))
          (InOrder.plain (InOrder.plain (order-append (image-ordered δ d k) (omega arith) (images-ordered δ d ts))))
      image-ordered δ d (Term.public t) = or-ordered _ _ _ (d (Term.public t)) (InOrder.plain (image-ordered δ d t))
      image-ordered δ d (Term.private t) = or-ordered _ _ _ (d (Term.private t)) (InOrder.plain (image-ordered δ d t))

      images-ordered : (δ : Dictionary) → Ready n δ → (ts : Terms) → InOrder old first n (images_slots row (images δ ts))
      images-ordered δ d Terms.nil = InOrder.none
      images-ordered δ d (Terms.cons t ts) =
          let e = handed-image row (image δ t) in
          order-append (image-ordered δ d t) (omega arith) (images-ordered δ d ts)

  -- ---- doings: their slots are in order, hand out what is given, and what they store was handed out since `first`
  pub record InTurn (n : ℕ) (d : Did) : Type 0 where
    pub slots : InOrder old first n (program_slots row d.events)
    pub hands : handed (program_slots row d.events) ≡ length d.given
    pub stored : (x : ℕ) → Kept x d.stored → (first ≤ x) × (x < n + length d.given)

  turn_one : (n : ℕ) (e : Event) (δ : Dictionary) (given : List Term) → InOrder old first n (event_slots row e)
      → handed (event_slots row e) ≡ length given
      → InTurn n (record { dictionary = δ; given = given; events = e ∷ []; stored = [] })
  turn_one n e δ given h k = record { slots = rw (slots-one row e) h; hands = ap handed (slots-one row e) ∙ k; stored = λ x m. absurd m }

  turn-nothing : (n : ℕ) (δ : Dictionary) → InTurn n (nothing δ)
  unfolding program_slots handed
  turn-nothing n δ = record { slots = InOrder.none; hands = refl; stored = λ x m. absurd m }

  turn-then : (n : ℕ) (d e : Did) → InTurn n d → InTurn (n + length d.given) e → InTurn n (followed d e)
  turn-then n d e h k =
      let l = length-append d.given e.given in
      let a = handed-append (program_slots row d.events) (program_slots row e.events) in
      let u = h.hands in
      let v = k.hands in
      record {
        slots = rw (slots-append row d.events e.events) (order-append h.slots (omega arith) k.slots);
        hands = rw (slots-append row d.events e.events) (omega arith);
        stored = λ x m. ⊎_elim (λ y. let z = h.stored x y in (z.0, omega arith)) (λ y. let z = k.stored x y in (z.0, omega arith))
            (kept_either x d.stored e.stored m);
      }

  -- ---- receiving: the term at placeholder p, which this step handed out
  module _ (p n : ℕ) (f : first ≤ p) (l : p < n) (δ : Dictionary) (d : Ready n δ) where
    turn-compared : (t : Term) → InTurn n (compared t p δ)
    unfolding event_slots handed
    turn-compared t =
        turn_one n (Event.checks p (image δ t)) δ [] (InOrder.plain (InOrder.since f l (image-ordered n δ d t))) (handed-image row (image δ t))

    turn-kept : (s : ℕ) (t : Term) → InTurn n (kept s t p δ)
    unfolding program_slots handed
    turn-kept s t =
        record {
          slots = InOrder.none;
          hands = refl;
          stored = λ x m. ⊎_elim (λ e. (omega arith, omega arith)) (λ z. absurd z) m;
        }

    turn-opened : (k : Term) (ts : Terms) → InTurn n (opened k ts p δ n)
    unfolding event_slots handed
    turn-opened k ts =
        let m = n + count ts in
        let i = image-ordered m δ (ready-later n m (omega arith) δ d) (partner k) in
        let z = handed-image row (image δ (partner k)) in
        let c = count-listed ts in
        turn_one n (Event.opens p n (count ts) (image δ (partner k))) δ (listed ts)
        (InOrder.plain (InOrder.since f l (InOrder.runs (InOrder.plain i)))) (omega arith)

    turn-rule : (s : ℕ) (t : Term) (o : Did) → InTurn n o → InTurn n (by_rule (rule δ t) (compared t p δ) o (kept s t p δ))
    turn-rule s t o h = by-rule (InTurn n) (rule δ t) _ _ _ (turn-compared t) h (turn-kept s t)

  mutual
    unfolding receive count

    receive-turn : (s : ℕ) (t : Term) (p : ℕ) (δ : Dictionary) (n : ℕ) → first ≤ p → p < n → Ready n δ → InTurn n (receive s t p δ n)
    receive-turn s (Term.atom r) p δ n f l d = turn-rule p n f l δ d s (Term.atom r) _ (turn-nothing n δ)
    receive-turn s (Term.operation g ts) p δ n f l d = turn-rule p n f l δ d s (Term.operation g ts) _ (turn-nothing n δ)
    receive-turn s (Term.cipher k ts) p δ n f l d =
        let m = n + count ts in
        let c = count-listed ts in
        let e : n + length (listed ts) ≡ m = omega arith in
        turn-rule p n f l δ d s (Term.cipher k ts) _
        (turn-then n (opened k ts p δ n) (receive_all s ts n δ m) (turn-opened p n f l δ d k ts)
        (rw e (receive_all-turn s ts n δ m (omega arith) (omega arith) (ready-later n m (omega arith) δ d))))
    receive-turn s (Term.public t) p δ n f l d = turn-rule p n f l δ d s (Term.public t) _ (turn-nothing n δ)
    receive-turn s (Term.private t) p δ n f l d = turn-rule p n f l δ d s (Term.private t) _ (turn-nothing n δ)

    receive_all-turn : (s : ℕ) (ts : Terms) (p : ℕ) (δ : Dictionary) (n : ℕ) → first ≤ p → p + count ts ≤ n → Ready n δ
        → InTurn n (receive_all s ts p δ n)
    receive_all-turn s Terms.nil p δ n f l d = turn-nothing n δ
    receive_all-turn s (Terms.cons t ts) p δ n f l d =
        let e = receive s t p δ n in
        let m = n + length e.given in
        let k = receive-turn s t p δ n f (omega arith) d in
        let u = receive-adds (Usable old first m) s t p δ n (ready-later n m (omega arith) δ d) (λ x y. inr (k.stored x y)) in
        turn-then n e (receive_all s ts (suc p) e.dictionary m) k (receive_all-turn s ts (suc p) e.dictionary m (omega arith) (omega arith) u)

  -- ---- sending
  news-slots : (n : ℕ) (rs : List ℕ) → InOrder old first n (program_slots row (map Event.new rs))
  unfolding program_slots event_slots
  news-slots n [] = InOrder.none
  news-slots n (r ∷ rs) = InOrder.plain (InOrder.plain (news-slots n rs))

  news-hand : (rs : List ℕ) → handed (program_slots row (map Event.new rs)) ≡ 0
  unfolding program_slots event_slots handed
  news-hand [] = refl
  news-hand (r ∷ rs) = news-hand rs

  turn-news : (n : ℕ) (rs : List ℕ) (δ : Dictionary) → InTurn n (record { dictionary = δ; given = []; events = map Event.new rs; stored = [] })
  turn-news n rs δ = record { slots = news-slots n rs; hands = news-hand rs; stored = λ x m. absurd m }

  turn-sent : (n i : ℕ) (ts : Terms) (δ : Dictionary) → Ready n δ → InTurn n (sent i (build_all i ts δ))
  unfolding event_slots handed
  turn-sent n i ts δ d =
      let c = build_all i ts δ in
      let ε = c.dictionary in
      let e : n + 0 ≡ n = omega arith in
      let o : InOrder old first n (images_slots row c.images) =
      rw (build_all-images i ts δ) (images-ordered n ε (build_all-holds (Usable old first n) i ts δ d) ts) in
      let k = turn_one n (Event.sends i c.images) ε [] (InOrder.plain (InOrder.plain (InOrder.plain o))) (handed-images row c.images) in
      turn-then n (record { dictionary = ε; given = []; events = map Event.new c.made; stored = [] })
      (record { dictionary = ε; given = []; events = Event.sends i c.images ∷ []; stored = [] }) (turn-news n c.made ε) (rw e k)

  -- ---- a party's acts
  turn-arrived : (n i : ℕ) (ts : Terms) (δ : Dictionary) → InTurn n (arrived i ts δ n)
  unfolding event_slots handed
  turn-arrived n i ts δ =
      let c = count-listed ts in
      turn_one n (Event.receives i n (count ts)) δ (listed ts) (InOrder.plain (InOrder.plain (InOrder.runs (InOrder.plain InOrder.none)))) (omega arith)

  act-turn : (a : Act) (δ : Dictionary) (n : ℕ) → first ≤ n → Ready n δ → InTurn n (act a δ n)
  unfolding act
  act-turn (Act.sends i ts) δ n f d = turn-sent n i ts δ d
  act-turn (Act.receives i ts) δ n f d =
      let m = n + count ts in
      let c = count-listed ts in
      let e : n + length (listed ts) ≡ m = omega arith in
      turn-then n (arrived i ts δ n) (receive_all i ts n δ m) (turn-arrived n i ts δ)
      (rw e (receive_all-turn i ts n δ m f (omega arith) (ready-later n m (omega arith) δ d)))

  pub walk_turn : (acts : List Act) (δ : Dictionary) (n : ℕ) → first ≤ n → HoldsAt (Usable old first n) δ → InTurn n (walk acts δ n)
  unfolding walk
  walk_turn [] δ n f d = turn-nothing n δ
  walk_turn (a ∷ acts) δ n f d =
      let e = act a δ n in
      let m = n + length e.given in
      let k = act-turn a δ n f d in
      let u = act-adds (Usable old first m) a δ n (ready-later n m (omega arith) δ d) (λ x y. inr (k.stored x y)) in
      turn-then n e (walk acts e.dictionary m) k (walk_turn acts e.dictionary m (omega arith) u)

-- ---- END
triples-ordered : (row : Term → ℕ) (old : ℕ → Type 0) (first n : ℕ) (ps : List Stored) → ((x : ℕ) → Kept x ps → Usable old first n x)
    → InOrder old first n (triple_slots row ps)
unfolding triple_slots
triples-ordered row old first n [] f = InOrder.none
triples-ordered row old first n (p ∷ ps) f =
    InOrder.plain (order-uses (f p.1 (inl refl)) (InOrder.plain (triples-ordered row old first n ps (λ x m. f x (inr m)))))

pub ends-ordered : (row : Term → ℕ) (old : ℕ → Type 0) (first n : ℕ) (ps : List Stored) → ((x : ℕ) → Kept x ps → Usable old first n x)
    → InOrder old first n (event_slots row (Event.ends ps))
unfolding event_slots
ends-ordered row old first n ps f = InOrder.plain (InOrder.plain (triples-ordered row old first n ps f))

pub end-ordered : (row : Term → ℕ) (stored : List Stored) (n : ℕ) → InOrder (λ x. Kept x stored) n n (event_slots row (Event.ends stored))
end-ordered row stored n = ends-ordered row (λ x. Kept x stored) n n stored (λ x m. inl m)

-- ---- a whole program
-- where nothing is old
abbrev Nothing : ℕ → Type 0
Nothing x = ⊥

walked-turn : (row : Term → ℕ) (ks : List Term) (acts : List Act) → InTurn row Nothing 0 0 (walked ks acts)
unfolding walked
walked-turn row ks acts = walk_turn row Nothing 0 acts (start ks) 0 (omega arith) (start-holds (Usable Nothing 0 0) ks)

pub program-ordered : (row : Term → ℕ) (ks : List Term) (acts : List Act) → Ordered (program_slots row (program ks acts))
unfolding program
program-ordered row ks acts =
    let d = walked ks acts in
    let k = walked-turn row ks acts in
    let h = k.hands in
    let n = length d.given in
    rw (slots-append row d.events (Event.ends d.stored ∷ []))
    (order-append k.slots (let z : n ≡ 0 + handed (program_slots row d.events) = omega arith in z)
    (rw (slots-one row (Event.ends d.stored))
    (ends-ordered row Nothing 0 n d.stored (λ x m. let z = k.stored x m in inr (omega arith, omega arith)))))

pub part-ordered : (b : List ℕ) (p : ℕ) → Ordered (part_slots b p)
unfolding part_slots program_of
part-ordered b p = program-ordered (number (table b) (rows b)) (known_to (narration b) p) (acts_of p 0 (narration b).says)

-- ---- the steps before a step, and the step
module _ (b : List ℕ) (p i : ℕ) where
  abbrev past : Did
  past = before b p i

  -- the next placeholder
  abbrev next : ℕ
  next = length past.given

  abbrev now : Did
  now = step_did b p i past.dictionary next

  abbrev Old : ℕ → Type 0
  Old x = Kept x past.stored

  -- what is held as stored was stored
  pub before-stored : HoldsAt Old past.dictionary
  unfolding before walked
  before-stored = walk-adds Old _ _ 0 (start-holds Old _) (λ x m. m)

  module _ (row : Term → ℕ) where
    before-turn : InTurn row Nothing 0 0 past
    unfolding before
    before-turn = walked-turn row _ _

    pub before-ordered : Ordered (program_slots row past.events)
    before-ordered = before-turn.slots

    pub before-handed : handed (program_slots row past.events) ≡ length past.given
    before-handed = before-turn.hands

    step-turn : InTurn row Old next next now
    unfolding step_did
    step-turn =
        walk_turn row Old next _ past.dictionary next (omega arith)
        (holds_more Old (Usable Old next next) (λ x m. inl m) past.dictionary before-stored)

    -- what is used was stored before the step, or handed out in it
    pub step-ordered : InOrder Old next next (program_slots row now.events)
    step-ordered = step-turn.slots

    pub step-handed : handed (program_slots row now.events) ≡ length now.given
    step-handed = step-turn.hands

    pub step-slots : program_slots row (before b p (suc i)).events ≡ program_slots row past.events ++ program_slots row now.events
    step-slots = ap (λ (d : Did). program_slots row d.events) (before_more b p i) ∙ slots-append row past.events now.events

  -- what is stored was handed out
  pub before-kept : (x : ℕ) → Old x → x < next
  before-kept x m = let z = (before-turn (λ t. 0)).stored x m in omega arith

  -- what the step stores it has handed out
  pub step-stored : (x : ℕ) → Kept x now.stored → (next ≤ x) × (x < next + length now.given)
  step-stored x m = (step-turn (λ t. 0)).stored x m

  -- all that the step uses or hands out is below the next placeholder behind it
  pub step-below : (row : Term → ℕ) → Below (length (before b p (suc i)).given) (program_slots row now.events)
  step-below row =
      let l = length-append past.given now.given in
      let m = ap (λ (d : Did). length d.given) (before_more b p i) in
      let h = step-handed row in
      order_below (step-ordered row) before-kept _ (omega arith)

  pub end_below : (row : Term → ℕ) → Below next (event_slots row (Event.ends past.stored))
  unfolding event_slots handed
  end_below row =
      let h = handed-triples row past.stored in
      order_below (end-ordered row past.stored next) before-kept next (omega arith)

-- a whole program is that of all steps, and END
pub part-slots : (b : List ℕ) (p : ℕ) → p < parties b → (let row = number (table b) (rows b) in let d = before b p (steps b) in
    part_slots b p ≡ program_slots row d.events ++ event_slots row (Event.ends d.stored))
unfolding part_slots
part-slots b p h =
    let row = number (table b) (rows b) in
    let d = before b p (steps b) in
    ap (program_slots row) (before-all b p h) ∙ slots-append row d.events (Event.ends d.stored ∷ [])
    ∙ ap (λ l. program_slots row d.events ++ l) (slots-one row (Event.ends d.stored))
