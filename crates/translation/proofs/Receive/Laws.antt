-- Laws of receiving: everything goes by the cases of `rule`. Assumes nothing.
use Rattle.std.specs.Prelude.{ℕ, suc, ◌+◌, Bool, true, false, List, [], ◌∷◌, ◌++◌, ◌≡◌, refl, length}
use Rattle.std.proofs.Common.{arith, length-append}
use Rattle.std.proofs.lemmas.Bool.{false≢true}
use Rattle.words.specs.Choice.{pick}
use Rattle.words.specs.Choice.Laws.{pick_ind, pick_true, pick-false}
use Rattle.terms.specs.Term.{Term, Terms, count, listed}
use Rattle.terms.specs.Term.Laws.{count-listed}
use Rattle.terms.specs.Image.{Image}
use Rattle.translation.specs.Dictionary.{Held, Dictionary, buildable}
use Rattle.translation.specs.Dictionary.Laws.{Grows, enter-grows}
use Rattle.translation.specs.Receive.{Event, Did, nothing, followed, Rule, can_open, rule, RuleExact, by_rule, compared, kept, opened, receive, receive_all}

-- ---- rule
pub rule-unlock : (δ : Dictionary) (t : Term) → can_open δ t ≡ true → rule δ t ≡ Rule.unlock
unfolding rule
rule-unlock δ t e = pick_true _ _ _ e

pub rule-compare : (δ : Dictionary) (t : Term) → can_open δ t ≡ false → buildable δ t ≡ true → rule δ t ≡ Rule.compare
unfolding rule
rule-compare δ t e f = rw (pick-false (can_open δ t) Rule.unlock (pick (buildable δ t) Rule.compare Rule.store) e) (pick_true _ _ _ f)

pub rule-store : (δ : Dictionary) (t : Term) → can_open δ t ≡ false → buildable δ t ≡ false → rule δ t ≡ Rule.store
unfolding rule
rule-store δ t e f = rw (pick-false (can_open δ t) Rule.unlock (pick (buildable δ t) Rule.compare Rule.store) e) (pick-false _ _ _ f)

-- each exactly when
pub rule-exact : (δ : Dictionary) (t : Term) → RuleExact δ t
rule-exact δ t = go (can_open δ t) (buildable δ t) refl refl
  where
    go : (o b : Bool) → can_open δ t ≡ o → buildable δ t ≡ b → RuleExact δ t
    go true b e f =
        let r = rule-unlock δ t e in
        record { opens = (λ q. e, λ h. r); compares = (λ q. (cc, cc), λ (h, k). cc); stores = (λ q. (cc, cc), λ (h, k). cc) }
    go false true e f =
        let r = rule-compare δ t e f in
        record { opens = (λ q. cc, λ h. cc); compares = (λ q. (e, f), λ h. r); stores = (λ q. (cc, cc), λ (h, k). cc) }
    go false false e f =
        let r = rule-store δ t e f in
        record { opens = (λ q. cc, λ h. cc); compares = (λ q. (cc, cc), λ (h, k). cc); stores = (λ q. (e, f), λ h. r) }

-- what a rule's answer means, whatever order the rules stand in: a term is compared only if it is buildable, opened only if it can
-- be, and stored only if it isn't buildable
pub rule-ind : (P : Rule → Type 0) (δ : Dictionary) (t : Term) → (buildable δ t ≡ true → P Rule.compare)
    → (can_open δ t ≡ true → P Rule.unlock) → (buildable δ t ≡ false → P Rule.store) → P (rule δ t)
unfolding rule
rule-ind P δ t f g h = pick_ind P (can_open δ t) _ _ g (λ e. pick_ind P (buildable δ t) _ _ f h)

-- what holds of what each rule does holds of what the rule that fits does
pub by-rule : (P : Did → Type 0) (r : Rule) (c o s : Did) → P c → P o → P s → P (by_rule r c o s)
unfolding by_rule
by-rule P Rule.compare c o s f g h = f
by-rule P Rule.unlock c o s f g h = g
by-rule P Rule.store c o s f g h = h

-- ---- receive
-- what opening adds; a term that is no cipher is never opened
unfoldable pub opening : (s : ℕ) → Term → ℕ → Dictionary → ℕ → Did
opening s (Term.atom r) p δ n = nothing δ
opening s (Term.operation g ts) p δ n = nothing δ
opening s (Term.cipher k ts) p δ n = followed (opened k ts p δ n) (receive_all s ts n δ (n + count ts))
opening s (Term.public t) p δ n = nothing δ
opening s (Term.private t) p δ n = nothing δ

pub receive-rule : (s : ℕ) (t : Term) (p : ℕ) (δ : Dictionary) (n : ℕ) → receive s t p δ n
    ≡ by_rule (rule δ t) (compared t p δ) (opening s t p δ n) (kept s t p δ)
unfolding receive opening
receive-rule s (Term.atom r) p δ n = refl
receive-rule s (Term.operation g ts) p δ n = refl
receive-rule s (Term.cipher k ts) p δ n = refl
receive-rule s (Term.public t) p δ n = refl
receive-rule s (Term.private t) p δ n = refl

-- ---- the events of receiving: comparisons and openings only
pub data Quiet : List Event → Type 0 where
  nil : Quiet []
  checks : {x : ℕ} {i : Image} {es : List Event} → Quiet es → Quiet (Event.checks x i ∷ es)
  opens : {x f n : ℕ} {i : Image} {es : List Event} → Quiet es → Quiet (Event.opens x f n i ∷ es)

quiet-append : {es fs : List Event} → Quiet es → Quiet fs → Quiet (es ++ fs)
quiet-append Quiet.nil k = k
quiet-append (Quiet.checks h) k = Quiet.checks (quiet-append h k)
quiet-append (Quiet.opens h) k = Quiet.opens (quiet-append h k)

mutual
  unfolding receive

  receive-quiet : (s : ℕ) (t : Term) (x : ℕ) (δ : Dictionary) (n : ℕ) → Quiet (receive s t x δ n).events
  receive-quiet s (Term.atom r) x δ n = by-rule (λ d. Quiet d.events) _ _ _ _ (Quiet.checks Quiet.nil) Quiet.nil Quiet.nil
  receive-quiet s (Term.operation g ts) x δ n = by-rule (λ d. Quiet d.events) _ _ _ _ (Quiet.checks Quiet.nil) Quiet.nil Quiet.nil
  receive-quiet s (Term.cipher k ts) x δ n =
      by-rule (λ d. Quiet d.events) _ _ _ _ (Quiet.checks Quiet.nil) (Quiet.opens (receive_all-quiet s ts n δ _)) Quiet.nil
  receive-quiet s (Term.public t) x δ n = by-rule (λ d. Quiet d.events) _ _ _ _ (Quiet.checks Quiet.nil) Quiet.nil Quiet.nil
  receive-quiet s (Term.private t) x δ n = by-rule (λ d. Quiet d.events) _ _ _ _ (Quiet.checks Quiet.nil) Quiet.nil Quiet.nil

  pub receive_all-quiet : (s : ℕ) (ts : Terms) (x : ℕ) (δ : Dictionary) (n : ℕ) → Quiet (receive_all s ts x δ n).events
  receive_all-quiet s Terms.nil x δ n = Quiet.nil
  receive_all-quiet s (Terms.cons t ts) x δ n = quiet-append (receive-quiet s t x δ n) (receive_all-quiet s ts (suc x) _ _)

-- ---- how many events receiving has: each of the c terms at hand, and each that gets a placeholder, is compared, opened or stored
abbrev Settles : ℕ → Did → Type 0
Settles c d = length d.events + length d.stored ≡ c + length d.given

settles-rule : (s : ℕ) (t : Term) (p : ℕ) (δ : Dictionary) (o : Did) → (can_open δ t ≡ true → Settles 1 o)
    → Settles 1 (by_rule (rule δ t) (compared t p δ) o (kept s t p δ))
unfolding by_rule
settles-rule s t p δ o h = rule-ind (λ r. Settles 1 (by_rule r (compared t p δ) o (kept s t p δ))) δ t (λ e. refl) h (λ e. refl)

settles-then : (c : ℕ) (d e : Did) → Settles 1 d → Settles c e → Settles (suc c) (followed d e)
settles-then c d e h k =
    let x = length-append d.events e.events in
    let y = length-append d.stored e.stored in
    let z = length-append d.given e.given in
    omega arith

settles-opened : (k : Term) (ts : Terms) (p : ℕ) (δ : Dictionary) (n : ℕ) (d : Did) → Settles (count ts) d
    → Settles 1 (followed (opened k ts p δ n) d)
settles-opened k ts p δ n d h =
    let c = count-listed ts in
    let z = length-append (listed ts) d.given in
    omega arith

mutual
  unfolding receive count can_open

  receive-settles : (s : ℕ) (t : Term) (p : ℕ) (δ : Dictionary) (n : ℕ) → Settles 1 (receive s t p δ n)
  receive-settles s (Term.atom r) p δ n = settles-rule s (Term.atom r) p δ (nothing δ) (λ e. absurd (false≢true e))
  receive-settles s (Term.operation g ts) p δ n = settles-rule s (Term.operation g ts) p δ (nothing δ) (λ e. absurd (false≢true e))
  receive-settles s (Term.cipher k ts) p δ n =
      settles-rule s (Term.cipher k ts) p δ (followed (opened k ts p δ n) (receive_all s ts n δ (n + count ts)))
      (λ e. settles-opened k ts p δ n (receive_all s ts n δ (n + count ts)) (receive_all-settles s ts n δ (n + count ts)))
  receive-settles s (Term.public t) p δ n = settles-rule s (Term.public t) p δ (nothing δ) (λ e. absurd (false≢true e))
  receive-settles s (Term.private t) p δ n = settles-rule s (Term.private t) p δ (nothing δ) (λ e. absurd (false≢true e))

  pub receive_all-settles : (s : ℕ) (ts : Terms) (p : ℕ) (δ : Dictionary) (n : ℕ)
      → (let d = receive_all s ts p δ n in length d.events + length d.stored ≡ count ts + length d.given)
  receive_all-settles s Terms.nil p δ n = refl
  receive_all-settles s (Terms.cons t ts) p δ n =
      let d = receive s t p δ n in
      let m = n + length d.given in
      settles-then (count ts) d (receive_all s ts (suc p) d.dictionary m) (receive-settles s t p δ n) (receive_all-settles s ts (suc p) d.dictionary m)

-- ---- what is held stays held: a rule enters a term or nothing
grows-rule : (s : ℕ) (t : Term) (p : ℕ) (δ : Dictionary) (o : Did) → Grows δ o.dictionary
    → Grows δ (by_rule (rule δ t) (compared t p δ) o (kept s t p δ)).dictionary
grows-rule s t p δ o h =
    by-rule (λ d. Grows δ d.dictionary) (rule δ t) (compared t p δ) o (kept s t p δ) (λ u k. k) h (enter-grows δ t (Held.stored s p) refl)

mutual
  unfolding receive

  receive-grows : (s : ℕ) (t : Term) (p : ℕ) (δ : Dictionary) (n : ℕ) → Grows δ (receive s t p δ n).dictionary
  receive-grows s (Term.atom r) p δ n = grows-rule s (Term.atom r) p δ (nothing δ) (λ u h. h)
  receive-grows s (Term.operation g ts) p δ n = grows-rule s (Term.operation g ts) p δ (nothing δ) (λ u h. h)
  receive-grows s (Term.cipher k ts) p δ n =
      grows-rule s (Term.cipher k ts) p δ (followed (opened k ts p δ n) (receive_all s ts n δ (n + count ts)))
      (λ u h. receive_all-grows s ts n δ (n + count ts) u h)
  receive-grows s (Term.public t) p δ n = grows-rule s (Term.public t) p δ (nothing δ) (λ u h. h)
  receive-grows s (Term.private t) p δ n = grows-rule s (Term.private t) p δ (nothing δ) (λ u h. h)

  pub receive_all-grows : (s : ℕ) (ts : Terms) (p : ℕ) (δ : Dictionary) (n : ℕ) → Grows δ (receive_all s ts p δ n).dictionary
  receive_all-grows s Terms.nil p δ n u h = h
  receive_all-grows s (Terms.cons t ts) p δ n u h =
      let d = receive s t p δ n in receive_all-grows s ts (suc p) d.dictionary (n + length d.given) u (receive-grows s t p δ n u h)
