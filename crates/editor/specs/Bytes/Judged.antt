-- Laws of judging on bytes: it is judging on the words that they make, refusal 1 before all else; so much of a book is enough; and the
-- verdict fits one number and is read back from it. Assumes nothing.
use Rattle.std.specs.Prelude.{ℕ, ◌<◌, Bool, true, false, List, [], ◌∷◌, ◌⊎◌, ◌≡◌, refl, length, get_or, take}
use Rattle.std.proofs.Common.{inl, inr, ⊎_elim, sym, ap, ap₂, ◌∙◌, arith, take_all}
use Rattle.std.proofs.Math.Decide.{ℕ_discrete, dec_lt}
use Rattle.words.specs.Choice.Laws.{pick_true, pick-false}
use Rattle.words.specs.Run.{All}
use Rattle.octets.specs.Octets.{words_in, uneven, bytes_of_all}
use Rattle.octets.specs.Octets.Laws.{bytes-even, bytes_back}
use Rattle.book.specs.Layout.{loaded, parties}
use Rattle.book.specs.Said.{Said, said}
use Rattle.translation.specs.Outcome.{acceptance, Plays}
use Rattle.translation.proofs.Long.Laws.{part-short}
use Rattle.renaming.specs.Slot.{part_slots}
use Rattle.renaming.specs.Slot.Laws.{part-many}
use Rattle.renaming.specs.Renaming.{place_of}
use Rattle.renaming.specs.Renaming.Laws.{follow-most}
use Rattle.renaming.specs.Verdict.{judged}
use Rattle.renaming.proofs.Verdicts.Laws.{verdict-either}
use Rattle.renaming.proofs.Verdicts.Judged.{judged-book-first, judged-exactly-reading, exactly-22, judged-says}
use Rattle.relaying.specs.Relayed.Laws.{plays-from}
use Rattle.packing.specs.Packed.{pack, unpack_verdict, Small, Packs}
use Rattle.packing.specs.Packed.Laws.{small-packs, verdict-told, verdict-placed}
use Rattle.editor.specs.Bytes.{judged_bytes}
use Rattle.editor.specs.Bytes.Fits.{acceptance-small}
use Rattle.editor.specs.Bytes.Laws.{misfit}

-- ---- bytes that make whole words, and others
module _ (bs : List ℕ) (p : ℕ) (ls : List ℕ) where
  pub of-whole-judged : uneven bs ≡ false → uneven ls ≡ false → judged_bytes bs p ls ≡ judged (words_in bs) p (words_in ls)
  unfolding judged_bytes
  of-whole-judged e f = pick-false _ _ _ (rw (e, f))

  pub of-odd-judged : uneven bs ≡ true → judged_bytes bs p ls ≡ said 1 (0 ∷ [])
  unfolding judged_bytes
  of-odd-judged e = pick_true _ _ _ (rw e)

  pub of-odd-listing : uneven bs ≡ false → uneven ls ≡ true → judged_bytes bs p ls ≡ said 1 (0 ∷ [])
  unfolding judged_bytes
  of-odd-listing e f = pick_true _ _ _ (rw (e, f))

-- ---- so much of a book is enough
pub long-judged-book : (b : List ℕ) (p : ℕ) (ws : List ℕ) → judged (take loaded b) p ws ≡ judged b p ws
long-judged-book b p ws = elim (dec_lt loaded (length b)) [
  | yes h ↦
      let m = misfit b h in
      (judged-exactly-reading (take loaded b) p ws m.number m.some m.few m.values).1 m.one
      ∙ sym ((judged-exactly-reading b p ws m.number m.some m.few m.values).1 m.other)
  | no h ↦ ap (λ (c : List ℕ). judged c p ws) (take_all loaded b (omega arith))
]

-- ---- a verdict fits one number and is read back
-- what is told has one number's form
data Tells : Said → Type 0 where
  small : {s : Said} → Small s → (0 < s.number) ⊎ (0 < get_or s.values 0 0) → Tells s
  place : {k : ℕ} → k < 16777216 → Tells (said 0 (0 ∷ k ∷ []))

tells-packs : {s : Said} → Tells s → Packs s
tells-packs (Tells.small s h) = small-packs s
tells-packs (Tells.place {k} l) = Packs.two {n = 0} {v = 0} {w = k} (omega arith) (omega arith) l

tells-back : {s : Said} → Tells s → unpack_verdict (pack s) ≡ s
tells-back {s} (Tells.small t h) = verdict-told s t h
tells-back (Tells.place {k} l) = verdict-placed k

-- the place is no more than the words of ours
place-few : (b : List ℕ) (p : ℕ) (ws : List ℕ) → Plays b → p < parties b → place_of (part_slots b p) ws < 16777216
unfolding place_of
place-few b p ws q h =
    let m = follow-most ws (part_slots b p) 0 [] in
    let n = part-many b p in
    let l = part-short b q.valid p h in
    omega arith

judged-tells : (b : List ℕ) (p : ℕ) (ws : List ℕ) → p < 4294967296 → Tells (judged b p ws)
judged-tells b p ws low = elim (ℕ_discrete (acceptance b).number 0) [
  | no n ↦ rw (judged-book-first b p ws n) (Tells.small (acceptance-small b n) (inl (omega arith)))
  | yes z ↦ let plays = plays-from b z in elim (dec_lt p (parties b)) [
    | yes h ↦ rw (judged-says b p ws plays h) (⊎_elim
        (λ e. rw e (Tells.small (Small.one {n = 0} {v = 1} (omega arith) (omega arith) (omega arith) (omega arith)) (inr (omega arith))))
        (λ e. rw e (Tells.place (place-few b p ws plays h)))
        (verdict-either (part_slots b p) ws))
    | no h ↦ rw ((exactly-22 b p ws (p ∷ [])).1 (plays, omega arith, refl))
        (Tells.small (Small.one {n = 22} (omega arith) (omega arith) (omega arith) low) (inl (omega arith)))
  ]
]

module _ (bs : List ℕ) (p : ℕ) (ls : List ℕ) (low : p < 4294967296) where
  bytes-tell : Tells (judged_bytes bs p ls)
  bytes-tell = go (uneven bs) refl (uneven ls) refl
    where
      odd : Tells (said 1 (0 ∷ []))
      odd = Tells.small (Small.one {n = 1} {v = 0} (omega arith) (omega arith) (omega arith) (omega arith)) (inl (omega arith))

      go : (v : Bool) → uneven bs ≡ v → (w : Bool) → uneven ls ≡ w → Tells (judged_bytes bs p ls)
      go true e w f = rw (of-odd-judged bs p ls e) odd
      go false e true f = rw (of-odd-listing bs p ls e f) odd
      go false e false f = rw (of-whole-judged bs p ls e f) (judged-tells (words_in bs) p (words_in ls) low)

  pub judged-packs : Packs (judged_bytes bs p ls)
  judged-packs = tells-packs bytes-tell

  pub judged-unpacked : unpack_verdict (pack (judged_bytes bs p ls)) ≡ judged_bytes bs p ls
  judged-unpacked = tells-back bytes-tell

-- ---- the bytes of words are judged as the words are
module _ (b ws : List ℕ) (p : ℕ) (low_book : All (λ w. w < 4294967296) b) (low : All (λ w. w < 4294967296) ws) where
  pub judged-of-words : judged_bytes (bytes_of_all b) p (bytes_of_all ws) ≡ judged b p ws
  judged-of-words =
      of-whole-judged (bytes_of_all b) p (bytes_of_all ws) (bytes-even b) (bytes-even ws)
      ∙ ap₂ (λ (x y : List ℕ). judged x p y) (bytes_back b low_book) (bytes_back ws low)
