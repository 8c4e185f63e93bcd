-- A party stores no more terms than there are rows. Assumes nothing.
use Rattle.std.specs.Prelude.{ℕ, suc, ◌+◌, ◌≤◌, ◌<◌, Bool, true, false, ◌≡◌}
use Rattle.std.proofs.Common.{true≢false, sym, ◌∙◌, length-append}
use mathlib.Core.List.{List, [], ◌∷◌}
use Rattle.std.proofs.Math.Path.{refl, ap}
use native.Mathlib.Omega.{arith}
use Rattle.std.proofs.Math.ListN.{length}
use Rattle.words.specs.Choice.{pick}
use Rattle.words.specs.Choice.Laws.{pick_true, pick-false, pick_ind}
use Rattle.words.specs.Run.{values}
use Rattle.words.specs.Sum.Laws.{sum_below, sum_less, sum-most}
use Rattle.terms.specs.Term.{Term, Terms, count}
use Rattle.terms.specs.Table.{Table, term, Formed, IsRow, AllRows}
use Rattle.terms.specs.Table.Laws.{parts-rows}
use Rattle.book.specs.Layout.{table, rows, steps}
use Rattle.book.specs.Valid.{Valid}
use Rattle.book.specs.Valid.Laws.{formed}
use Rattle.translation.specs.Dictionary.{Held, Dictionary, is_held, enter, buildable, Derives, start}
use Rattle.translation.specs.Dictionary.Laws.{enter-same, Grows, enter-grows, buildable-exact}
use Rattle.translation.specs.Build.{build_all}
use Rattle.translation.specs.Build.Laws.{build_all-makes}
use Rattle.translation.specs.Receive.{Did, nothing, followed, rule, by_rule, compared, kept, receive, receive_all}
use Rattle.translation.proofs.Receive.Laws.{rule-ind}
use Rattle.translation.specs.Program.{Act, acts_of, act, walk, walked}
use Rattle.translation.specs.Narration.{step_at}
use Rattle.translation.proofs.Rows.Laws.{ActRows, ActsRows, own-rows, steps-rows}
use Rattle.translation.specs.Stored.{rows_held}

-- ---- one row: 1 where it is held
abbrev one : Bool → ℕ
one h = pick h 1 0

one-most : (h : Bool) → one h ≤ 1
one-most h = pick_ind (λ k. k ≤ 1) h 1 0 (λ e. omega arith) (λ e. omega arith)

one_grows : (h k : Bool) → (h ≡ true → k ≡ true) → one h ≤ one k
one_grows h k f = pick_ind (λ m. m ≤ one k) h 1 0 (λ e. let z : one k ≡ 1 = pick_true k _ _ (f e) in omega arith) (λ e. omega arith)

-- what isn't buildable isn't held
pub not-held : (δ : Dictionary) (t : Term) → buildable δ t ≡ false → is_held (δ t) ≡ false
not-held δ t b = go (is_held (δ t)) refl
  where
    go : (v : Bool) → is_held (δ t) ≡ v → v ≡ false
    go true e = absurd (true≢false (sym ((buildable-exact δ t).1 (Derives.held e)) ∙ b))
    go false e = refl

module _ (tab : Table) (n : ℕ) where
  -- ---- rows_held
  held-most : (δ : Dictionary) → rows_held tab n δ ≤ n
  unfolding rows_held
  held-most δ = sum-most _ n (λ r. one-most (is_held (δ (term tab r))))

  held-grows : (δ ε : Dictionary) → Grows δ ε → rows_held tab n δ ≤ rows_held tab n ε
  unfolding rows_held
  held-grows δ ε g = sum_below _ _ n (λ r l. one_grows _ _ (g (term tab r)))

  -- entering a row that was not held
  held_more : (s : ℕ) (δ : Dictionary) (t : Term) (x : ℕ) → IsRow tab n t → is_held (δ t) ≡ false
      → rows_held tab n δ < rows_held tab n (enter δ t (Held.stored s x))
  unfolding rows_held
  held_more s δ t x i e =
      let ε = enter δ t (Held.stored s x) in
      let old : one (is_held (δ (term tab i.row))) ≡ 0 = pick-false _ _ _ (ap (λ u. is_held (δ u)) i.stands ∙ e) in
      let new : one (is_held (ε (term tab i.row))) ≡ 1 =
      pick_true _ _ _ (ap (λ u. is_held (ε u)) i.stands ∙ ap is_held (enter-same δ t (Held.stored s x))) in
      sum_less _ _ n (λ r l. one_grows _ _ (enter-grows δ t (Held.stored s x) refl (term tab r))) i.row i.within (omega arith)

  -- ---- each storing raises it
  abbrev Raises : Dictionary → Did → Type 0
  Raises δ d = rows_held tab n δ + length d.stored ≤ rows_held tab n d.dictionary

  raises-nothing : (δ : Dictionary) → Raises δ (nothing δ)
  raises-nothing δ = omega arith

  raises-then : (δ : Dictionary) (d e : Did) → Raises δ d → Raises d.dictionary e → Raises δ (followed d e)
  raises-then δ d e h k = let l = length-append d.stored e.stored in omega arith

  -- only a term that isn't buildable is stored
  raises-rule : (s : ℕ) (t : Term) (p : ℕ) (δ : Dictionary) (o : Did) → IsRow tab n t → Raises δ o
      → Raises δ (by_rule (rule δ t) (compared t p δ) o (kept s t p δ))
  unfolding by_rule
  raises-rule s t p δ o i h =
      rule-ind (λ r. Raises δ (by_rule r (compared t p δ) o (kept s t p δ))) δ t (λ b. omega arith) (λ b. h)
      (λ b. let k = held_more s δ t p i (not-held δ t b) in omega arith)

  module _ (ok : Formed n tab) where
    mutual
      unfolding receive

      receive-raises : (s : ℕ) (t : Term) (p : ℕ) (δ : Dictionary) (m : ℕ) → IsRow tab n t → Raises δ (receive s t p δ m)
      receive-raises s (Term.atom r) p δ m i = raises-rule s (Term.atom r) p δ _ i (raises-nothing δ)
      receive-raises s (Term.operation g ts) p δ m i = raises-rule s (Term.operation g ts) p δ _ i (raises-nothing δ)
      receive-raises s (Term.cipher k ts) p δ m i =
          raises-rule s (Term.cipher k ts) p δ _ i (receive_all-raises s ts m δ (m + count ts) (parts-rows n tab ok _ i).1)
      receive-raises s (Term.public t) p δ m i = raises-rule s (Term.public t) p δ _ i (raises-nothing δ)
      receive-raises s (Term.private t) p δ m i = raises-rule s (Term.private t) p δ _ i (raises-nothing δ)

      receive_all-raises : (s : ℕ) (ts : Terms) (p : ℕ) (δ : Dictionary) (m : ℕ) → AllRows tab n ts → Raises δ (receive_all s ts p δ m)
      receive_all-raises s Terms.nil p δ m i = raises-nothing δ
      receive_all-raises s (Terms.cons t ts) p δ m i =
          let d = receive s t p δ m in
          raises-then δ d (receive_all s ts (suc p) d.dictionary (m + length d.given)) (receive-raises s t p δ m i.0)
          (receive_all-raises s ts (suc p) _ _ i.1)

    act-raises : (a : Act) (δ : Dictionary) (m : ℕ) → ActRows tab n ok a → Raises δ (act a δ m)
    unfolding act
    act-raises (Act.sends i ts) δ m r = let h = held-grows δ (build_all i ts δ).dictionary (build_all-makes i ts δ).grows in omega arith
    act-raises (Act.receives i ts) δ m r = receive_all-raises i ts m δ (m + count ts) r

    walk-raises : (acts : List Act) (δ : Dictionary) (m : ℕ) → ActsRows tab n ok acts → Raises δ (walk acts δ m)
    unfolding walk
    walk-raises [] δ m r = raises-nothing δ
    walk-raises (a ∷ acts) δ m r =
        let d = act a δ m in
        raises-then δ d (walk acts d.dictionary (m + length d.given)) (act-raises a δ m r.0) (walk-raises acts _ _ r.1)

    pub walk-few : (acts : List Act) (δ : Dictionary) (m : ℕ) → ActsRows tab n ok acts → length (walk acts δ m).stored ≤ n
    walk-few acts δ m r = let h = walk-raises acts δ m r in let k = held-most (walk acts δ m).dictionary in omega arith

-- ---- for a valid book: a party's first i steps, whatever it knows
pub walked-few : (b : List ℕ) → Valid b → (known : List Term) (p i : ℕ) → i ≤ steps b
    → length (walked known (acts_of p 0 (values (step_at b) 0 i))).stored ≤ rows b
unfolding walked
walked-few b v known p i h =
    walk-few (table b) (rows b) (formed b v) _ (start known) 0 (own-rows (table b) (rows b) (formed b v) p 0 _ (steps-rows b v 0 i (omega arith)))
