-- Laws of claims: names and starting knowledge are claimed from step 0 on, a step's messages from the next step on. Assumes nothing.
use Rattle.std.specs.Prelude.{ℕ, zero, suc, ◌+◌, ◌-◌, ◌≤◌, ◌<◌, Bool, true, false, List, [], ◌∷◌, ◌++◌, map, ◌≡◌, refl, get_or, take, eqb, leb}
use Rattle.std.proofs.Math.Bool.{◌||◌, or_assoc}
use Rattle.std.proofs.Common.{append-nil, ◌∙◌, take_all, eq-eqb, ne_eqb, le-leb}
use Rattle.std.proofs.Math.Path.{sym, ap, ap₂}
use native.Mathlib.Omega.{arith}
use Rattle.std.proofs.Math.Decide.{dec_lt}
use Rattle.std.proofs.lemmas.Bool.{lt-leb}
use Rattle.words.specs.Choice.{pick}
use Rattle.words.specs.Choice.Laws.{pick_true, pick-false}
use Rattle.words.specs.Run.{values}
use Rattle.words.specs.Run.Laws.{values_length, values-last, values-take}
use Rattle.terms.specs.Term.{listed}
use Rattle.terms.specs.Term.Laws.{listed-gathered}
use Rattle.terms.specs.Table.{term, terms}
use Rattle.book.specs.Layout.{table, steps, messages}
use Rattle.translation.specs.Program.{Step}
use Rattle.translation.specs.Narration.{narration, step_at}
use Rattle.translation.specs.Taken.{joined, all_messages, claimed, occurs_in_one, taken}
use Rattle.claims.specs.Since.{taken_in}
use Rattle.claims.specs.Marked.{marked, Marked}
use Rattle.claims.specs.Marked.Laws.{one-append}
use Rattle.claims.specs.Claims.{Claims, cut, ClaimsBefore}

-- ---- an entry, at a step
abbrev since : ℕ → ℕ → Bool
since e s = pick (eqb e 0) false (leb (e - 1) s)

since-never : (s : ℕ) → since 0 s ≡ false
since-never s = pick_true _ _ _ (eq-eqb 0 0 refl)

since-early : (e s : ℕ) → 0 < e → e ≤ s + 1 → since e s ≡ true
since-early e s n h = pick-false _ _ _ (ne_eqb e 0 (omega arith)) ∙ le-leb (e - 1) s (omega arith)

since-late : (e s : ℕ) → s + 1 < e → since e s ≡ false
since-late e s h = pick-false _ _ _ (ne_eqb e 0 (omega arith)) ∙ lt-leb (e - 1) s (omega arith)

-- what is marked with k + 2 changes nothing up to step k
since-before : (e k s : ℕ) (o : Bool) → s ≤ k → since (marked e o (k + 2)) s ≡ since e s
unfolding marked pick
since-before (suc e) k s o h = refl
since-before zero k s true h = since-late (k + 2) s (omega arith) ∙ sym (since-never s)
since-before zero k s false h = refl

-- and is taken after it
since-after : (e k s : ℕ) (o : Bool) → e ≤ k + 1 → k < s → since (marked e o (k + 2)) s ≡ (since e s || o)
unfolding marked pick
since-after (suc e) k s o h l = let y = since-early (suc e) s (omega arith) (omega arith) in y ∙ sym (ap (λ x. x || o) y)
since-after zero k s true h l = since-early (k + 2) s (omega arith) (omega arith) ∙ sym (ap (λ x. x || true) (since-never s))
since-after zero k s false h l = since-never s ∙ sym (ap (λ x. x || false) (since-never s))

-- what is marked with 1 is taken at every step
since-start : (s : ℕ) (o : Bool) → since (marked 0 o 1) s ≡ o
unfolding marked pick
since-start s true = since-early 1 s (omega arith) (omega arith)
since-start s false = since-never s

marked-low : (e k x : ℕ) (o : Bool) → e ≤ k → x ≤ k → marked e o x ≤ k
unfolding marked pick
marked-low (suc e) k x o h l = h
marked-low zero k x true h l = l
marked-low zero k x false h l = h

-- ---- the steps up to a place
take_more : {X : Type 0} (f : ℕ → X) (i s n : ℕ) → n ≤ s → take s (values f i n) ≡ values f i n
take_more f i s n h = let l = values_length f i n in take_all s (values f i n) (omega arith)

said-last : (q : ℕ) (ss : List Step) (a : Step)
    → occurs_in_one q (all_messages (ss ++ (a ∷ []))) ≡ (occurs_in_one q (all_messages ss) || occurs_in_one q (listed a.messages))
unfolding all_messages occurs_in_one
said-last q [] a = ap (occurs_in_one q) (append-nil (listed a.messages))
said-last q (s ∷ ss) a =
    one-append q (listed s.messages) (all_messages (ss ++ (a ∷ []))) ∙ ap (λ x. occurs_in_one q (listed s.messages) || x) (said-last q ss a)
    ∙ sym (or_assoc (occurs_in_one q (listed s.messages)) (occurs_in_one q (all_messages ss)) (occurs_in_one q (listed a.messages)))
    ∙ ap (λ x. x || occurs_in_one q (listed a.messages)) (sym (one-append q (listed s.messages) (all_messages ss)))

-- ---- taken, with the first k steps only
module _ (b : List ℕ) (q : ℕ) where
  abbrev up_to : List Step → Bool
  up_to ss = occurs_in_one q ((narration b).names ++ (joined (narration b).knows ++ all_messages ss))

  up_to-last : (ss : List Step) (a : Step) → up_to (ss ++ (a ∷ [])) ≡ (up_to ss || occurs_in_one q (listed a.messages))
  up_to-last ss a =
      three (ss ++ (a ∷ [])) ∙ ap (λ x. n || (m || x)) (said-last q ss a)
      ∙ four n m (occurs_in_one q (all_messages ss)) (occurs_in_one q (listed a.messages))
      ∙ ap (λ x. x || occurs_in_one q (listed a.messages)) (sym (three ss))
    where
      n : Bool
      n = occurs_in_one q (narration b).names

      m : Bool
      m = occurs_in_one q (joined (narration b).knows)

      three : (l : List Step) → up_to l ≡ (n || (m || occurs_in_one q (all_messages l)))
      three l = one-append q (narration b).names _ ∙ ap (λ x. n || x) (one-append q (joined (narration b).knows) (all_messages l))

      four : (x y z w : Bool) → (x || (y || (z || w))) ≡ ((x || (y || z)) || w)
      four true y z w = refl
      four false y z w = sym (or_assoc y z w)

  taken_start : (s : ℕ) → taken (cut b 0) s q ≡ occurs_in_one q ((narration b).names ++ joined (narration b).knows)
  unfolding taken claimed cut values all_messages
  taken_start s =
      ap up_to (take_more (step_at b) 0 s 0 (omega arith)) ∙ ap (λ l. occurs_in_one q ((narration b).names ++ l)) (append-nil (joined (narration b).knows))

  taken-before : (k s : ℕ) → s ≤ k → taken (cut b (suc k)) s q ≡ taken (cut b k) s q
  unfolding taken claimed cut
  taken-before k s h = ap up_to (values-take (step_at b) 0 (suc k) s (omega arith) ∙ sym (values-take (step_at b) 0 k s h))

  taken-after : (k s : ℕ) → k < s → taken (cut b (suc k)) s q ≡ (taken (cut b k) s q || occurs_in_one q (map (term (table b)) (messages b k)))
  unfolding taken claimed cut step_at terms
  taken-after k s h =
      let z : 0 + k ≡ k = omega arith in
      ap up_to (take_more (step_at b) 0 s (suc k) (omega arith) ∙ values-last (step_at b) 0 k ∙ ap (λ j. values (step_at b) 0 k ++ (step_at b j ∷ [])) z)
      ∙ up_to-last (values (step_at b) 0 k) (step_at b k)
      ∙ ap₂ ◌||◌ (ap up_to (sym (take_more (step_at b) 0 s k (omega arith)))) (ap (occurs_in_one q) (listed-gathered (map (term (table b)) (messages b k))))

-- ---- ClaimsBefore
-- no step is gone through: names and starting knowledge are marked with 1
pub claims-start : (b l m : List ℕ) → ((q : ℕ) → get_or l q 0 ≡ 0) → Marked ((narration b).names ++ joined (narration b).knows) 1 l m
    → ClaimsBefore b 0 m
unfolding taken_in
claims-start b l m z d =
    record {
      sized = d.sized;
      early = λ q. rw (is q) (marked-low 0 (0 + 1) 1 (here q) (omega arith) (omega arith));
      claims = λ s q. ap (λ x. since x s) (is q) ∙ since-start s (here q) ∙ sym (taken_start b q s);
    }
  where
    here : ℕ → Bool
    here q = occurs_in_one q ((narration b).names ++ joined (narration b).knows)

    is : (q : ℕ) → get_or m q 0 ≡ marked 0 (here q) 1
    is q = d.each q ∙ ap (λ x. marked x (here q) 1) (z q)

-- one more step is
pub claims-step : (b : List ℕ) (k : ℕ) (l m : List ℕ) → ClaimsBefore b k l → Marked (map (term (table b)) (messages b k)) (k + 2) l m
    → ClaimsBefore b (k + 1) m
unfolding taken_in
claims-step b k l m c d = let z : k + 1 ≡ suc k = omega arith in rw z (record { sized = d.sized; early = low; claims = λ s q. go s q (dec_lt k s) })
  where
    low : (q : ℕ) → get_or m q 0 ≤ suc k + 1
    low q = let h = c.early q in rw (d.each q) (marked-low (get_or l q 0) (suc k + 1) (k + 2) _ (omega arith) (omega arith))

    go : (s q : ℕ) → Dec (k < s) → since (get_or m q 0) s ≡ taken (cut b (suc k)) s q
    go s q (yes h) =
        ap (λ e. since e s) (d.each q) ∙ since-after (get_or l q 0) k s _ (c.early q) h
        ∙ ap (λ x. x || occurs_in_one q (map (term (table b)) (messages b k))) (c.claims s q)
        ∙ sym (taken-after b q k s h)
    go s q (no h) =
        ap (λ e. since e s) (d.each q) ∙ since-before (get_or l q 0) k s _ (omega arith) ∙ c.claims s q ∙ sym (taken-before b q k s (omega arith))

-- all steps are
pub claims-end : (b : List ℕ) (k : ℕ) (l : List ℕ) → k ≡ steps b → ClaimsBefore b k l → Claims b l
unfolding cut narration
claims-end b k l z c s q = c.claims s q ∙ ap (λ j. taken (cut b j) s q) z
