-- A renaming turns theirs into ours word by word exactly if it turns the whole listing into ours. So what is accepted of a book is, renamed,
-- the party's own program. Assumes nothing.
use Prim.Native.Nat.{ℕ, zero, suc, ◌+◌, ◌<◌}
use mathlib.Core.List.{List, [], ◌∷◌, map}
use Rattle.std.specs.Prelude.{◌↔◌, ◌≡◌, length}
use Rattle.std.proofs.Math.Path.{refl, ap, ap₂}
use Rattle.std.proofs.Common.{sym, ◌∙◌, arith}
use Rattle.std.proofs.Math.Nat.{add-zero}
use Rattle.std.proofs.Math.ListN.{get_or, drop}
use Rattle.std.proofs.lemmas.List.{length-map}
use Rattle.book.specs.Layout.{parties}
use Rattle.book.specs.Said.{said}
use Rattle.translation.specs.Listing.{part_words}
use Rattle.translation.specs.Outcome.{Plays}
use Rattle.renaming.specs.Slot.{Slot, spelt, part_slots}
use Rattle.renaming.specs.Slot.Laws.{spelt-part}
use Rattle.renaming.specs.Renaming.{Turns, Same}
use Rattle.renaming.specs.Verdict.{judged}
use Rattle.renaming.proofs.Verdicts.Judged.{exactly-same}
use Rattle.renaming.specs.Renamed.{renamed, renamed_all, RunRenamed, Renamed}

-- ---- one word
module _ (τ : ℕ → ℕ) where
  turns-renamed : (s : Slot) (y : ℕ) → Turns τ s y → (renamed τ s y ≡ spelt s) × RunRenamed τ s y
  unfolding renamed spelt
  turns-renamed (Slot.plain w) y t = (t, tt)
  turns-renamed (Slot.uses x) y t = (t, tt)
  turns-renamed (Slot.runs f zero) y t = (t, tt)
  turns-renamed (Slot.runs f (suc n)) y t =
      let e : τ y ≡ f = rw (add-zero y, add-zero f) at (t.1 0 (omega arith)) in
      (e, (t.0, λ j h. t.1 j h ∙ ap (λ k. k + j) (sym e)))

  renamed-turns : (s : Slot) (y : ℕ) → renamed τ s y ≡ spelt s → RunRenamed τ s y → Turns τ s y
  unfolding renamed spelt
  renamed-turns (Slot.plain w) y e r = e
  renamed-turns (Slot.uses x) y e r = e
  renamed-turns (Slot.runs f zero) y e r = e
  renamed-turns (Slot.runs f (suc n)) y e r = (r.0, λ j h. r.1 j h ∙ ap (λ k. k + j) e)

  -- ---- all words
  renamed-length : (ss : List Slot) (ws : List ℕ) → length (renamed_all τ ss ws) ≡ length ws
  unfolding renamed_all
  renamed-length [] ws = refl
  renamed-length (s ∷ ss) [] = refl
  renamed-length (s ∷ ss) (y ∷ ws) = ap suc (renamed-length ss ws)

  words-all : (ss : List Slot) (ws : List ℕ) → length ws ≡ length ss
      → ((k : ℕ) → k < length ss → renamed τ (get_or ss k (Slot.plain 0)) (get_or ws k 0) ≡ spelt (get_or ss k (Slot.plain 0)))
      → renamed_all τ ss ws ≡ map spelt ss
  unfolding renamed_all
  words-all [] [] e h = refl
  words-all [] (y ∷ ws) e h = absurd (omega arith)
  words-all (s ∷ ss) [] e h = absurd (omega arith)
  words-all (s ∷ ss) (y ∷ ws) e h = ap₂ ◌∷◌ (h 0 (omega arith)) (words-all ss ws (omega arith) (λ k l. h (suc k) (omega arith)))

  all_words : (ss : List Slot) (ws : List ℕ) → length ws ≡ length ss → renamed_all τ ss ws ≡ map spelt ss → (k : ℕ) → k < length ss
      → renamed τ (get_or ss k (Slot.plain 0)) (get_or ws k 0) ≡ spelt (get_or ss k (Slot.plain 0))
  unfolding renamed_all
  all_words [] ws n e k h = absurd (omega arith)
  all_words (s ∷ ss) [] n e k h = absurd (omega arith)
  all_words (s ∷ ss) (y ∷ ws) n e zero h = ap (λ (l : List ℕ). get_or l 0 0) e
  all_words (s ∷ ss) (y ∷ ws) n e (suc k) h = all_words ss ws (omega arith) (ap (λ (l : List ℕ). drop 1 l) e) k (omega arith)

-- ---- the whole listing
module _ (ss : List Slot) (ws : List ℕ) where
  same-renamed : Same ss ws → Renamed ss ws
  same-renamed s =
      let r = s.renames in
      record {
        to = r.to;
        one-to-one = r.one-to-one;
        runs = λ k h. (turns-renamed r.to (get_or ss k (Slot.plain 0)) (get_or ws k 0) (r.turns k h)).1;
        ours = words-all r.to ss ws s.size (λ k h. (turns-renamed r.to (get_or ss k (Slot.plain 0)) (get_or ws k 0) (r.turns k h)).0);
      }

  renamed-same : Renamed ss ws → Same ss ws
  renamed-same r =
      let n : length ws ≡ length ss = sym (renamed-length r.to ss ws) ∙ ap length r.ours ∙ length-map ss spelt in
      record {
        renames = record {
          to = r.to;
          one-to-one = r.one-to-one;
          slots = omega arith;
          words = omega arith;
          turns =
              λ k h. renamed-turns r.to (get_or ss k (Slot.plain 0)) (get_or ws k 0) (all_words r.to ss ws n r.ours k h) (r.runs k h);
        };
        size = n;
      }

  pub renamed-exact : Same ss ws ↔ Renamed ss ws
  renamed-exact = (same-renamed, renamed-same)

-- ---- of a book: "accepted exactly if a one-to-one renaming of its placeholders turns it into ours"
module _ (b : List ℕ) (p : ℕ) (ws : List ℕ) where
  pub exactly-renamed : (judged b p ws ≡ said 0 (1 ∷ [])) ↔ (Plays b × (p < parties b) × Renamed (part_slots b p) ws)
  exactly-renamed =
      let r = exactly-same b p ws in
      let e = renamed-exact (part_slots b p) ws in
      (λ q. (let (v, h, s) = r.0 q in (v, h, e.0 s)), λ u. r.1 (u.0, u.1, e.1 u.2))

  -- renamed, they are the words of the party's program
  pub renamed-ours : (r : Renamed (part_slots b p) ws) → renamed_all r.to (part_slots b p) ws ≡ part_words b p
  renamed-ours r = r.ours ∙ spelt-part b p
