-- Laws of lists that take the places of events: nothing noted, one place, and one noting after another. Assumes nothing.
use Rattle.std.specs.Prelude.{ℕ, ◌+◌, ◌≤◌, ◌<◌, Bool, List, [], ◌∷◌, ◌⊎◌, ◌≡◌, length, get_or, set}
use Rattle.std.proofs.Math.Decide.{ℕ_discrete, dec_lt}
use Rattle.std.proofs.Common.{arith, inl, inr, sym, ap, ◌∙◌, length-set, get_or-set_same, get_or-set_other}
use Rattle.std.proofs.Math.Bool.{true, false}
use Rattle.std.proofs.Math.Path.{refl}
use Rattle.std.proofs.Math.Dec.{eqb}
use Rattle.std.proofs.lemmas.List.Edits.{sets}
use Rattle.std.proofs.Math.Seq.{set_out}
use borrow.Author.Tests.{eqb-true, eq-eqb, ne_eqb}
use Rattle.words.specs.Choice.Laws.{pick_true, pick-false, pick_ind}
use Rattle.words.specs.Overlay.{Wrote}
use Rattle.words.specs.First.Laws.{clash}
use Rattle.book.specs.Layout.{sender, receiver}
use Rattle.translation.specs.Places.{places_of}
use Rattle.walking.specs.Walk.{IdleUntil}
use Rattle.walking.specs.Noted.{noted_by, NotedStep, Noted, Earlier, StepsNoted}

-- ---- one step
pub noted_other : (s a : ℕ) {who p : ℕ} {l : List ℕ} → (who ≡ p → ⊥) → l ≡ noted_by who p s a l
unfolding noted_by
noted_other s a {who} {p} n = sym (pick-false _ _ _ (ne_eqb who p n))

-- the place was written at w, which is the step
pub noted-there : {who p s a w r : ℕ} {l m : List ℕ} → who ≡ p → w ≡ s → Wrote (a ∷ []) l w m r → m ≡ noted_by who p s a l
unfolding noted_by
noted-there {who} {p} {a = a} {l = l} e d w = w.list ∙ ap (λ i. sets l i (a ∷ [])) d ∙ sym (pick_true _ _ _ (eq-eqb who p e))

pub noted_step : {b : List ℕ} {p s a z y : ℕ} {k l m n : List ℕ} → z ≡ sender b s → y ≡ receiver b s
    → l ≡ noted_by z p s a k → n ≡ noted_by y p s a m → NotedStep b p s a k l m n
noted_step {p = p} {s = s} {a = a} {k = k} {m = m} dz dy e f =
    record { sends = e ∙ ap (λ o. noted_by o p s a k) dz; receives = f ∙ ap (λ o. noted_by o p s a m) dy }

by_length : (who p s a : ℕ) (l : List ℕ) → length (noted_by who p s a l) ≡ length l
unfolding noted_by
by_length who p s a l = pick_ind (λ (k : List ℕ). length k ≡ length l) (eqb who p) _ _ (λ q. length-set l s a) (λ q. refl)

pub noted-lengths : {b : List ℕ} {p s a : ℕ} {k l m n : List ℕ} → NotedStep b p s a k l m n → (length l ≡ length k) × (length n ≡ length m)
noted-lengths w = (ap length w.sends ∙ by_length _ _ _ _ _, ap length w.receives ∙ by_length _ _ _ _ _)

-- ---- Noted
module _ (place : ℕ → ℕ) where
  pub noted-none : (P : ℕ → Type 0) (l : List ℕ) → ((s : ℕ) → P s → ⊥) → Noted place P l l
  noted-none P l h = record { keeps = λ s e. e; notes = λ s k. absurd (h s k); size = refl }

  -- of fewer steps
  pub noted-as : {P Q : ℕ → Type 0} {k l : List ℕ} → Noted place P k l → ((s : ℕ) → Q s → P s) → Noted place Q k l
  noted-as f h = record { keeps = f.keeps; notes = λ s q. f.notes s (h s q); size = f.size }

  pub noted-then : {P Q : ℕ → Type 0} (R : ℕ → Type 0) {k l m : List ℕ} → Noted place P k l → Noted place Q l m
      → ((s : ℕ) → R s → P s ⊎ Q s) → Noted place R k m
  noted-then {P} {Q} R {m = m} f g h =
      record { keeps = λ s e. g.keeps s (f.keeps s e); notes = λ s r i. go s i (h s r); size = g.size ∙ f.size }
    where
      go : (s : ℕ) → s < length m → P s ⊎ Q s → get_or m s 0 ≡ place s
      go s i (inl p) = g.keeps s (f.notes s p (let e = g.size in omega arith))
      go s i (inr q) = g.notes s q i

  -- one place
  module _ (l : List ℕ) (i a : ℕ) (e : a ≡ place i) where
    set-right : (s : ℕ) → s < length l → ((s ≡ i → ⊥) → get_or l s 0 ≡ place s) → get_or (set l i a) s 0 ≡ place s
    set-right s h k = go (ℕ_discrete s i)
      where
        go : Dec (s ≡ i) → get_or (set l i a) s 0 ≡ place s
        go (yes d) = rw d (get_or-set_same l i a 0 (rw d at h) ∙ e)
        go (no d) = get_or-set_other l i s a 0 d ∙ k d

    pub noted-set : (P : ℕ → Type 0) → ((s : ℕ) → P s → s ≡ i) → Noted place P l (set l i a)
    noted-set P f =
        let same = length-set l i a in
        record {
          keeps = λ s k. elim (dec_lt s (length l)) [
            | yes h ↦ set-right s h (λ n. k)
            | no h ↦ kept s h k
          ];
          notes = λ s p h. set-right s (omega arith) (λ n. absurd (n (f s p)));
          size = same;
        }
      where
        -- behind the list nothing is read, and nothing changed
        kept : (s : ℕ) → (s < length l → ⊥) → get_or l s 0 ≡ place s → get_or (set l i a) s 0 ≡ place s
        kept s h k = elim (ℕ_discrete s i) [
          | yes d ↦ ap (λ m. get_or m s 0) (set_out l i a (omega arith)) ∙ k
          | no d ↦ get_or-set_other l i s a 0 d ∙ k
        ]

  -- the step's doer notes it, and nobody else
  pub noted-by : {who p i a : ℕ} {l m : List ℕ} → m ≡ noted_by who p i a l → (who ≡ p → a ≡ place i)
      → Noted place (λ s. (s ≡ i) × (who ≡ p)) l m
  unfolding noted_by
  noted-by {who} {p} {i} {a} {l} {m} e h = go (eqb who p) refl
    where
      go : (x : Bool) → eqb who p ≡ x → Noted place (λ s. (s ≡ i) × (who ≡ p)) l m
      go true q =
          let own = eqb-true who p q in
          rw (e ∙ pick_true _ _ _ q) (noted-set l i a (h own) (λ s. (s ≡ i) × (who ≡ p)) (λ s k. k.0))
      go false q = rw (e ∙ pick-false _ _ _ q) (noted-none (λ s. (s ≡ i) × (who ≡ p)) l (λ s k. clash (eq-eqb who p k.1) q))

-- ---- StepsNoted
pub noted-start : {b : List ℕ} {p : ℕ} {x y : List ℕ} → StepsNoted b p 0 x x y y
noted-start {b} {p} {x} {y} =
    record {
      sends = noted-none (places_of b).sends (Earlier (sender b) p 0) x (λ s k. let l = k.0 in omega arith);
      receives = noted-none (places_of b).receives (Earlier (receiver b) p 0) y (λ s k. let l = k.0 in omega arith);
    }

-- one step more
one_more : (place who : ℕ → ℕ) {p i a : ℕ} {k l m : List ℕ} → Noted place (Earlier who p i) k l → m ≡ noted_by (who i) p i a l
    → (who i ≡ p → a ≡ place i) → Noted place (Earlier who p (i + 1)) k m
one_more place who {p} {i} f e h = noted-then place (Earlier who p (i + 1)) f (noted-by place e h) (λ s q. or-last s q (ℕ_discrete s i))
  where
    or-last : (s : ℕ) → (s < i + 1) × (who s ≡ p) → Dec (s ≡ i) → ((s < i) × (who s ≡ p)) ⊎ ((s ≡ i) × (who i ≡ p))
    or-last s q (yes d) = inr (d, ap who (sym d) ∙ q.1)
    or-last s q (no d) = inl (let l = q.0 in omega arith, q.1)

module _ {b : List ℕ} {p i : ℕ} {x l y m : List ℕ} (f : StepsNoted b p i x l y m) where
  pub noted-on : {a : ℕ} {k n : List ℕ} → NotedStep b p i a l k m n → (sender b i ≡ p → a ≡ (places_of b).sends i)
      → (receiver b i ≡ p → a ≡ (places_of b).receives i) → StepsNoted b p (i + 1) x k y n
  noted-on w sent received =
      record {
        sends = one_more (places_of b).sends (sender b) f.sends w.sends sent;
        receives = one_more (places_of b).receives (receiver b) f.receives w.receives received;
      }

  -- steps in which the party has no part
  pub noted-skip : {j : ℕ} → IdleUntil b p i j → StepsNoted b p j x l y m
  noted-skip {j} w =
      record {
        sends = noted-as (places_of b).sends f.sends (λ s q. (in-first s q.0 (λ h. (w.idle s h q.0).0 q.1), q.1));
        receives = noted-as (places_of b).receives f.receives (λ s q. (in-first s q.0 (λ h. (w.idle s h q.0).1 q.1), q.1));
      }
    where
      in-first : (s : ℕ) → s < j → (i ≤ s → ⊥) → s < i
      in-first s h n = elim (dec_lt s i) [ yes k ↦ k | no k ↦ absurd (n (omega arith)) ]
