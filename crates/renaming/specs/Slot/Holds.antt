-- The placeholders that a dictionary has as stored: sending adds none, and receiving those that it stores. Assumes nothing.
use Rattle.std.specs.Prelude.{ℕ, suc, ◌+◌, refl}
use mathlib.Core.List.{List, [], ◌∷◌}
use Rattle.std.proofs.Common.{inl}
use Rattle.std.proofs.Math.ListN.{length}
use Rattle.terms.specs.Term.{Term, Terms, count}
use Rattle.translation.specs.Dictionary.{Held, Dictionary, enter, start}
use Rattle.translation.specs.Dictionary.Laws.{enter-ind}
use Rattle.translation.specs.Build.{Built, built_or, build, build_all}
use Rattle.translation.specs.Build.Laws.{built-or}
use Rattle.translation.specs.Receive.{Did, followed, rule, by_rule, compared, kept, receive, receive_all}
use Rattle.translation.proofs.Receive.Laws.{by-rule}
use Rattle.translation.specs.Program.{Act, act, walk}
use Rattle.renaming.specs.Slot.{Kept}
use Rattle.renaming.specs.Slot.Laws.{kept-left, kept-right}

-- each placeholder that is stored there satisfies P
abbrev pub HeldAt : (ℕ → Type 0) → Held → Type 0
HeldAt P Held.free = Unit {0}
HeldAt P Held.given = Unit {0}
HeldAt P (Held.made s) = Unit {0}
HeldAt P (Held.stored s x) = P x

abbrev pub HoldsAt : (ℕ → Type 0) → Dictionary → Type 0
HoldsAt P δ = (t : Term) → HeldAt P (δ t)

held_more : (P Q : ℕ → Type 0) → ((x : ℕ) → P x → Q x) → (h : Held) → HeldAt P h → HeldAt Q h
held_more P Q f Held.free k = tt
held_more P Q f Held.given k = tt
held_more P Q f (Held.made s) k = tt
held_more P Q f (Held.stored s x) k = f x k

pub holds_more : (P Q : ℕ → Type 0) → ((x : ℕ) → P x → Q x) → (δ : Dictionary) → HoldsAt P δ → HoldsAt Q δ
holds_more P Q f δ d t = held_more P Q f (δ t) (d t)

module _ (P : ℕ → Type 0) where
  enter-holds : (δ : Dictionary) (t : Term) (h : Held) → HoldsAt P δ → HeldAt P h → HoldsAt P (enter δ t h)
  enter-holds δ t h d x u = enter-ind (HeldAt P) δ t h u (λ e. x) (λ e. d u)

  pub start-holds : (ts : List Term) → HoldsAt P (start ts)
  unfolding start
  start-holds [] u = tt
  start-holds (t ∷ ts) u = enter-holds (start ts) t Held.given (start-holds ts) tt u

  -- sending stores nothing
  or-holds : (t : Term) (δ : Dictionary) (b : Built) → HoldsAt P δ → HoldsAt P b.dictionary → HoldsAt P (built_or (δ t) t δ b).dictionary
  or-holds t δ b d g = built-or (λ c. HoldsAt P c.dictionary) (δ t) t δ b (λ i h j. d) (λ e. g)

  mutual
    unfolding build

    build-holds : (s : ℕ) (t : Term) (δ : Dictionary) → HoldsAt P δ → HoldsAt P (build s t δ).dictionary
    build-holds s (Term.atom r) δ d = or-holds (Term.atom r) δ _ d (enter-holds δ (Term.atom r) (Held.made s) d tt)
    build-holds s (Term.operation g ts) δ d = or-holds (Term.operation g ts) δ _ d (build_all-holds s ts δ d)
    build-holds s (Term.cipher k ts) δ d = or-holds (Term.cipher k ts) δ _ d (build_all-holds s ts (build s k δ).dictionary (build-holds s k δ d))
    build-holds s (Term.public t) δ d = or-holds (Term.public t) δ _ d (build-holds s t δ d)
    build-holds s (Term.private t) δ d = or-holds (Term.private t) δ _ d (build-holds s t δ d)

    pub build_all-holds : (s : ℕ) (ts : Terms) (δ : Dictionary) → HoldsAt P δ → HoldsAt P (build_all s ts δ).dictionary
    build_all-holds s Terms.nil δ d = d
    build_all-holds s (Terms.cons t ts) δ d = build_all-holds s ts (build s t δ).dictionary (build-holds s t δ d)

  -- a doing adds what it has as stored, and nothing else
  abbrev pub Adds : Dictionary → Did → Type 0
  Adds δ d = HoldsAt P δ → ((x : ℕ) → Kept x d.stored → P x) → HoldsAt P d.dictionary

  adds_then : (δ : Dictionary) (d e : Did) → Adds δ d → Adds d.dictionary e → Adds δ (followed d e)
  adds_then δ d e f g h k =
      g (f h (λ x m. k x (kept-left x d.stored e.stored m))) (λ x m. k x (kept-right x d.stored e.stored m))

  adds-rule : (s : ℕ) (t : Term) (p : ℕ) (δ : Dictionary) (o : Did) → Adds δ o → Adds δ (by_rule (rule δ t) (compared t p δ) o (kept s t p δ))
  adds-rule s t p δ o f =
      by-rule (Adds δ) (rule δ t) _ _ _ (λ h k. h) f (λ h k. enter-holds δ t (Held.stored s p) h (k p (inl refl)))

  mutual
    unfolding receive

    pub receive-adds : (s : ℕ) (t : Term) (p : ℕ) (δ : Dictionary) (n : ℕ) → Adds δ (receive s t p δ n)
    receive-adds s (Term.atom r) p δ n = adds-rule s (Term.atom r) p δ _ (λ h k. h)
    receive-adds s (Term.operation g ts) p δ n = adds-rule s (Term.operation g ts) p δ _ (λ h k. h)
    receive-adds s (Term.cipher k ts) p δ n = adds-rule s (Term.cipher k ts) p δ _ (receive_all-adds s ts n δ (n + count ts))
    receive-adds s (Term.public t) p δ n = adds-rule s (Term.public t) p δ _ (λ h k. h)
    receive-adds s (Term.private t) p δ n = adds-rule s (Term.private t) p δ _ (λ h k. h)

    pub receive_all-adds : (s : ℕ) (ts : Terms) (p : ℕ) (δ : Dictionary) (n : ℕ) → Adds δ (receive_all s ts p δ n)
    receive_all-adds s Terms.nil p δ n = λ h k. h
    receive_all-adds s (Terms.cons t ts) p δ n =
        let d = receive s t p δ n in
        let m = n + length d.given in
        adds_then δ d (receive_all s ts (suc p) d.dictionary m) (receive-adds s t p δ n) (receive_all-adds s ts (suc p) d.dictionary m)

  pub act-adds : (a : Act) (δ : Dictionary) (n : ℕ) → Adds δ (act a δ n)
  unfolding act
  act-adds (Act.sends i ts) δ n = λ h k. build_all-holds i ts δ h
  act-adds (Act.receives i ts) δ n = receive_all-adds i ts n δ (n + count ts)

  pub walk-adds : (acts : List Act) (δ : Dictionary) (n : ℕ) → Adds δ (walk acts δ n)
  unfolding walk
  walk-adds [] δ n = λ h k. h
  walk-adds (a ∷ acts) δ n =
      let d = act a δ n in
      let m = n + length d.given in
      adds_then δ d (walk acts d.dictionary m) (act-adds a δ n) (walk-adds acts d.dictionary m)
