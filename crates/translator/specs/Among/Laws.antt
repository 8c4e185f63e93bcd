-- Laws of where the first of the parties' walks stops: over all parties it is the place of refusals 10 and 13. Assumes nothing.
use Rattle.std.specs.Prelude.{ℕ, ◌+◌, ◌≤◌, ◌<◌, Bool, List, ◌≡◌, Option, None}
use Rattle.std.proofs.lemmas.Option.{none-some}
use Rattle.std.proofs.Math.Bool.{true, false}
use Rattle.std.proofs.Common.{◌∙◌, arith, below_more, eq-eqb}
use Rattle.std.proofs.Math.Path.{refl, sym}
use Rattle.std.proofs.Math.Dec.{eqb}
use Rattle.words.specs.Choice.Laws.{pick_true, pick-false}
use Rattle.words.specs.First.Laws.{clash}
use Rattle.book.specs.Layout.{parties, steps, sender}
use Rattle.book.specs.Valid.{Valid}
use Rattle.book.specs.declared.Stop.{Stop}
use Rattle.translation.specs.Narration.{narration}
use Rattle.translation.specs.Taken.{unplayable}
use Rattle.walking.specs.Walk.{refused_for, Unrefused}
use Rattle.walking.specs.Stops.{stop_of, StopsBefore}
use Rattle.translator.specs.Among.{NobodyRefused, StopsAmong, reach, FirstUnplayable}

-- ---- one party more
-- what holds of the first q parties and of party q
each_more : (b : List ℕ) (q n : ℕ) → ((p : ℕ) → p < q → Unrefused b p n) → Unrefused b q n → (p : ℕ) → p < q + 1 → Unrefused b p n
each_more b q n = below_more (λ p. Unrefused b p n) q

module _ {b : List ℕ} where
  pub among_none : StopsAmong b 0 None
  among_none = StopsAmong.none (λ p l. absurd (omega arith))

  -- where no walk stops, nothing is refused
  pub among-nobody : {q : ℕ} {x : Option Stop} → StopsAmong b q x → x ≡ None → NobodyRefused b q
  among-nobody (StopsAmong.none n) z = n
  among-nobody (StopsAmong.one {s = s} l m r n) z = absurd (none-some (stop_of b s) (sym z))

  -- the steps that are still asked about are the book's
  pub among-within : {q : ℕ} {x : Option Stop} → StopsAmong b q x → reach (steps b) x ≤ steps b
  among-within (StopsAmong.none n) = omega arith
  among-within (StopsAmong.one l m r n) = omega arith

  -- in any case nothing is refused before
  before-it : {q : ℕ} {x : Option Stop} → StopsAmong b q x → (p : ℕ) → p < q → Unrefused b p (reach (steps b) x)
  before-it (StopsAmong.none n) = n
  before-it (StopsAmong.one l m r n) = n

  -- the stop stays where party q has none before it
  stays : {q : ℕ} {x : Option Stop} → StopsAmong b q x → Unrefused b q (reach (steps b) x) → StopsAmong b (q + 1) x
  stays {q} (StopsAmong.none n) i = StopsAmong.none (each_more b q (steps b) n i)
  stays {q} (StopsAmong.one {s = s} {p = p} l m r n) i = StopsAmong.one {s = s} {p = p} (omega arith) m r (each_more b q s n i)

  -- party q was asked of the steps before it, and does not stop
  pub among-stays : {q : ℕ} {x y : Option Stop} → StopsAmong b q x → StopsBefore b q (reach (steps b) x) y → y ≡ None → StopsAmong b (q + 1) x
  among-stays f (StopsBefore.none n) z = stays f n
  among-stays f (StopsBefore.one {s = s} l r n) z = absurd (none-some (stop_of b s) (sym z))

  -- and party q's takes its place, for it comes sooner
  pub among-sooner : {q : ℕ} {x y : Option Stop} → StopsAmong b q x → StopsBefore b q (reach (steps b) x) y → (y ≡ None → ⊥) → StopsAmong b (q + 1) y
  among-sooner f (StopsBefore.none n) z = absurd (z refl)
  among-sooner {q} f (StopsBefore.one {s = u} l r n) z =
      let w = among-within f in
      StopsAmong.one {s = u} {p = q} (omega arith) (omega arith) r (each_more b q u (λ p h k j. before-it f p h k (omega arith)) n)

-- ---- over all parties
module _ {b : List ℕ} (w : Valid b) where
  -- a step is refused for its sender if it is unplayable, and for anybody only then
  sends-refused : (s : ℕ) → refused_for b (sender b s) s ≡ unplayable (narration b) s
  unfolding refused_for
  sends-refused s = pick_true _ _ _ (eq-eqb (sender b s) (sender b s) refl)

  refused-unplayable : (p s : ℕ) → refused_for b p s ≡ true → unplayable (narration b) s ≡ true
  unfolding refused_for
  refused-unplayable p s e = go (eqb (sender b s) p) refl
    where
      go : (x : Bool) → eqb (sender b s) p ≡ x → unplayable (narration b) s ≡ true
      go true q = sym (pick_true _ _ _ q) ∙ e
      go false q = absurd (clash e (pick-false _ _ _ q))

  -- each step's sender is a party
  playable-all : (n : ℕ) → n ≤ steps b → ((p : ℕ) → p < parties b → Unrefused b p n) → (k : ℕ) → k < n
      → unplayable (narration b) k ≡ false
  playable-all n h f k l = sym (sends-refused k) ∙ f (sender b k) (w.steps_keep k (omega arith)).sends k l

  -- no walk stops
  pub nobody-playable : NobodyRefused b (parties b) → (k : ℕ) → k < steps b → unplayable (narration b) k ≡ false
  nobody-playable n = playable-all (steps b) (omega arith) n

  -- the first step at which one does
  pub refused-first : {s : ℕ} (p : ℕ) → s < steps b → refused_for b p s ≡ true → ((r : ℕ) → r < parties b → Unrefused b r s)
      → FirstUnplayable b s
  refused-first {s} p m r n = record { within = m; here = refused-unplayable p s r; before = playable-all s (omega arith) n }
