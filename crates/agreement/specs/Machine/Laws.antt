-- Laws of the machine: the effects, and what a move comes to, case by case. Assumes nothing.
use Rattle.std.specs.Prelude.{ℕ, List, [], ◌∷◌, ◌≡◌, refl, eqb}
use Rattle.std.proofs.Math.Option.{Option, none, some}
use Rattle.std.proofs.Common.{ap, ◌∙◌, subst, eqb-true}
use Rattle.std.proofs.lemmas.Bool.{eqb-false}
use Rattle.words.specs.Choice.Laws.{pick_ind, choose-ind}
use Rattle.terms.specs.Term.{Term, Terms, same, count}
use Rattle.terms.specs.Image.{Image, Images}
use Rattle.translation.specs.Receive.{Event}
use Rattle.translation.specs.Standing.Laws.{waits-ind}
use Rattle.agreement.specs.Change.Laws.{change-ind}
use Rattle.agreement.specs.Sight.{Sight, binds}
use Rattle.agreement.specs.Machine.{Shown, Effect, send_effect, check_effect, open_effect, effect, Party, halts, goes_on, Turn, stays, takes, next, turn, handed, delivered, System, Move, move}

-- ---- the effects, case by case
pub send_effect-ind : (P : Effect → Type 0) (s : ℕ) (o : Option Terms) (v : Sight) → P Effect.fails
    → ((ts : Terms) → P (Effect.does (Shown.sent s ts) v)) → P (send_effect s o v)
unfolding send_effect
send_effect-ind P s none v f g = f
send_effect-ind P s (some ts) v f g = g ts

pub check_effect-ind : (P : Effect → Type 0) (t u : Option Term) (v : Sight) → P Effect.fails → P (Effect.does Shown.nothing v) → P (check_effect t u v)
unfolding check_effect
check_effect-ind P none u v f g = f
check_effect-ind P (some t) none v f g = f
check_effect-ind P (some t) (some u) v f g = choose-ind P (same t u) _ _ (λ e. g) (λ n. f)

pub open_effect-ind : (P : Effect → Type 0) (x : ℕ) (o : Option Terms) (v : Sight) → P Effect.fails → ((w : Sight) → P (Effect.does Shown.nothing w))
    → P (open_effect x o v)
unfolding open_effect
open_effect-ind P x none v f g = f
open_effect-ind P x (some ts) v f g = g (binds x ts v)

-- an event that a party does by its own move, and what others can see of it
pub data Showing : Event → Shown → Type 0 where
  new : {r : ℕ} → Showing (Event.new r) (Shown.made r)
  sends : {s : ℕ} {is : Images} {ts : Terms} → Showing (Event.sends s is) (Shown.sent s ts)
  checks : {x : ℕ} {i : Image} → Showing (Event.checks x i) Shown.nothing
  opens : {x f n : ℕ} {i : Image} → Showing (Event.opens x f n i) Shown.nothing

abbrev ShowingIn : Event → Effect → Type 0
ShowingIn e Effect.fails = Unit {0}
ShowingIn e Effect.idles = Unit {0}
ShowingIn e (Effect.does o v) = Showing e o

effect-showing : (e : Event) (v : Sight) → ShowingIn e (effect e v)
unfolding effect
effect-showing (Event.new r) v = Showing.new
effect-showing (Event.sends s is) v = send_effect-ind (ShowingIn (Event.sends s is)) s _ v tt (λ ts. Showing.sends)
effect-showing (Event.receives s f n) v = tt
effect-showing (Event.checks x i) v = check_effect-ind (ShowingIn (Event.checks x i)) _ _ v tt Showing.checks
effect-showing (Event.opens x f n i) v = open_effect-ind (ShowingIn (Event.opens x f n i)) f _ v tt (λ w. Showing.opens)
effect-showing (Event.ends ps) v = tt

-- ---- a party's own move comes to nothing, or it halts, or it does its next event
pub data Turned (P : Party) : Turn → Type 0 where
  stayed : Turned P (stays P)
  halted : {e : Event} {es : List Event} → P.left ≡ e ∷ es → effect e P.sight ≡ Effect.fails → Turned P (stays (halts P))
  did : {e : Event} {es : List Event} {o : Shown} {v : Sight} → P.left ≡ e ∷ es → Showing e o
      → Turned P (record { party = goes_on P es v; shown = o })

takes-cases : (P : Party) (e : Event) (es : List Event) (f : Effect) → P.left ≡ e ∷ es → effect e P.sight ≡ f → ShowingIn e f
    → Turned P (takes f P es)
unfolding takes
takes-cases P e es Effect.fails l c k = Turned.halted l c
takes-cases P e es Effect.idles l c k = Turned.stayed
takes-cases P e es (Effect.does o v) l c k = Turned.did l k

next-cases : (es : List Event) (P : Party) → P.left ≡ es → Turned P (next es P)
unfolding next
next-cases [] P l = Turned.stayed
next-cases (e ∷ es) P l = takes-cases P e es (effect e P.sight) l refl (effect-showing e P.sight)

pub turn-cases : (P : Party) → Turned P (turn P)
unfolding turn
turn-cases P = pick_ind (Turned P) P.halted (stays P) (next P.left P) (λ e. Turned.stayed) (λ e. next-cases P.left P refl)

-- ---- a handing over comes to nothing, or the receiver halts, or it takes the messages
pub data Delivered (s : ℕ) (sent : Option Terms) (P : Party) : Party → Type 0 where
  dropped : Delivered s sent P P
  halted : {f n : ℕ} {es : List Event} {ts : Terms} → P.left ≡ Event.receives s f n ∷ es → sent ≡ some ts → (n ≡ count ts → ⊥)
      → Delivered s sent P (halts P)
  took : {f n : ℕ} {es : List Event} {ts : Terms} → P.left ≡ Event.receives s f n ∷ es → sent ≡ some ts
      → Delivered s sent P (goes_on P es (binds f ts P.sight))

handed-cases : (es : List Event) (s : ℕ) (ts : Terms) (P : Party) → P.left ≡ es → Delivered s (some ts) P (handed es s ts P)
unfolding handed
handed-cases [] s ts P l = Delivered.dropped
handed-cases (e ∷ es) s ts P l =
    waits-ind (Delivered s (some ts) P) e _ _
    (λ a f n w. pick_ind (Delivered s (some ts) P) (eqb a s) _ _
    (λ c.
    let z : P.left ≡ Event.receives s f n ∷ es = l ∙ ap (λ d. d ∷ es) w ∙ ap (λ b. Event.receives b f n ∷ es) (eqb-true a s c) in
    pick_ind (Delivered s (some ts) P) (eqb n (count ts)) _ _ (λ d. Delivered.took z refl) (λ d. Delivered.halted z refl (eqb-false n (count ts) d)))
    (λ c. Delivered.dropped))
    Delivered.dropped

pub delivered-cases : (s : ℕ) (sent : Option Terms) (P : Party) → Delivered s sent P (delivered s sent P)
unfolding delivered
delivered-cases s none P = Delivered.dropped
delivered-cases s (some ts) P =
    pick_ind (Delivered s (some ts) P) P.halted P (handed P.left s ts P) (λ e. Delivered.dropped) (λ e. handed-cases P.left s ts P refl)

-- ---- what holds of each party before and after, where nothing happens and by each of these, holds of every move
pub move-parties : (A : Party → Party → Type 0) → ((P : Party) → A P P) → ((P : Party) (t : Turn) → Turned P t → A P t.party)
    → ((s : ℕ) (o : Option Terms) (P R : Party) → Delivered s o P R → A P R)
    → (receiver : ℕ → ℕ) (m : Move) (S : System) (q : ℕ) → A (S.party q) ((move receiver m S).party q)
unfolding move
move-parties A stay turned taken receiver (Move.own p) S q =
    change-ind S.party p _ (A (S.party q)) q (λ e. subst (λ r. A (S.party r) (turn (S.party p)).party) e (turned _ _ (turn-cases (S.party p))))
    (λ n. stay _)
move-parties A stay turned taken receiver (Move.delivery s) S q =
    let p = receiver s in
    let R = delivered s (S.sent s) (S.party p) in
    change-ind S.party p R (A (S.party q)) q (λ e. subst (λ r. A (S.party r) R) e (taken s _ _ _ (delivered-cases s (S.sent s) (S.party p))))
    (λ n. stay _)
