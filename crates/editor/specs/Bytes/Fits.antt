-- Every answer of a translation, of a rehearsal, of a summary and to a question fits one number. Assumes nothing.
use Rattle.std.specs.Prelude.{ℕ, zero, suc, ◌+◌, ◌*◌, ◌≤◌, ◌<◌, min, Bool, true, false, ◌≡◌, length, get_or}
use mathlib.Core.List.{List, [], ◌∷◌, ◌++◌}
use Rattle.std.proofs.Math.Path.{refl}
use Rattle.std.proofs.Common.{sym, ap, ◌∙◌, arith}
use Rattle.std.proofs.Math.Decide.{ℕ_discrete, dec_lt}
use borrow.Author.Tests.{ltb-false}
use Rattle.words.specs.Choice.Laws.{pick_ind}
use Rattle.words.specs.First.{first}
use Rattle.words.specs.First.Laws.{first_holds, first-fails}
use Rattle.book.specs.Layout.{header, sections, most, rows, parties, steps}
use Rattle.book.specs.Rules.Laws.{count-exact}
use Rattle.book.specs.Said.{Said, said, accepted}
use Rattle.book.specs.Refusals.{Line, line, first_of, reading_table, verdict}
use Rattle.book.specs.Refusals.Laws.{line-here, line_on, first_of-none, first_of-stop, all_keep, none-given}
use Rattle.book.specs.Valid.{Valid}
use Rattle.book.specs.Valid.Laws.{nine, reading-lines, keep-valid, valid-keep}
use Rattle.book.specs.Headed.Laws.{valid-headed}
use Rattle.translation.specs.Listing.{listing}
use Rattle.translation.proofs.Long.Laws.{listing-short}
use Rattle.translation.proofs.Low.Laws.{stop-low}
use Rattle.translation.specs.Narration.{narration}
use Rattle.translation.specs.Taken.Laws.{stop-cases}
use Rattle.translation.specs.Outcome.{stop_line, room_line, acceptance, translation_says, Plays}
use Rattle.translation.specs.Outcome.Laws.{ten, ten-lines, book-first, plays-keep}
use Rattle.playing.specs.Rehearsal.{long_line, move_line, rehearsal_says}
use Rattle.summary.specs.Summary.{summary_words, summary_says, length_line, question_line, answered, asked}
use Rattle.summary.proofs.Summary.Laws.{summary-most}
use Rattle.relaying.specs.Relayed.Laws.{plays-from}
use Rattle.packing.specs.Packed.{capped, Small}

-- ---- an answer of a table, line by line
any-line-says : (P : Said → Type 0) (l : Line) (ls : List Line) (rest : Said)
    → ((i : ℕ) → i < l.among → l.breaks i ≡ true → P (said (l.number i) (l.place i)))
    → (((i : ℕ) → i < l.among → l.breaks i ≡ false) → P (first_of ls rest)) → P (first_of (l ∷ ls) rest)
any-line-says P l ls rest here on =
    let t = l.breaks in
    let m = l.among in
    elim (dec_lt (first t m) m) [
      | yes h ↦ rw (line-here l ls rest (first t m) refl h) (here (first t m) h (first_holds t m h))
      | no h ↦ rw (line_on l ls rest (first t m) refl (omega arith)) (on (λ i k. first-fails t m i (omega arith)))
    ]

-- of a line with one number
line-says : (P : Said → Type 0) (n m : ℕ) (t : ℕ → Bool) (f : ℕ → List ℕ) (ls : List Line) (rest : Said)
    → ((i : ℕ) → i < m → t i ≡ true → P (said n (f i))) → (((i : ℕ) → i < m → t i ≡ false) → P (first_of ls rest))
    → P (first_of (line n m t f ∷ ls) rest)
line-says P n m t f = any-line-says P (line n m t f)

last_says : (P : Said → Type 0) (rest : Said) → P rest → P (first_of [] rest)
last_says P rest p = rw (first_of-none rest) p

-- a refusal that fits
abbrev pub Refuses : Said → Type 0
Refuses s = (s.number ≡ 0 → ⊥) → Small s

one-small : (n v : ℕ) → n < 10 → v < 4294967296 → Refuses (said n (v ∷ []))
one-small n v l h z = Small.one {n = n} {v = v} (omega arith) (omega arith) (omega arith) h

module _ (b : List ℕ) where
  -- ---- refusals 1 to 9
  verdict-small : Refuses (verdict b)
  unfolding verdict reading_table
  verdict-small =
      line-says Refuses 1 1 _ _ _ accepted (λ i h t. one-small 1 0 (omega arith) (omega arith)) (λ long.
      line-says Refuses 2 sections _ _ _ accepted (λ i h t. one-small 2 (2 * i) (omega arith) (omega arith)) (λ counts.
      let few : rows b ≤ most 0 = ((count-exact b 0).0 (counts 0 (omega arith))).high in
      let parts : parties b ≤ most 1 = ((count-exact b 1).0 (counts 1 (omega arith))).high in
      let short : steps b ≤ most 2 = ((count-exact b 2).0 (counts 2 (omega arith))).high in
      line-says Refuses 3 (sections + 1) _ _ _ accepted (λ i h t. one-small 3 (min header (2 * i + 1)) (omega arith) (omega arith)) (λ offsets.
      line-says Refuses 4 (rows b) _ _ _ accepted (λ i h t. one-small 4 i (omega arith) (omega arith)) (λ rows_keep.
      line-says Refuses 5 (rows b) _ _ _ accepted (λ i h t. one-small 5 i (omega arith) (omega arith)) (λ sizes.
      line-says Refuses 6 (rows b) _ _ _ accepted (λ i h t. one-small 6 i (omega arith) (omega arith)) (λ single.
      line-says Refuses 7 (parties b) _ _ _ accepted (λ i h t. one-small 7 i (omega arith) (omega arith)) (λ parties_keep.
      line-says Refuses 8 (steps b) _ _ _ accepted (λ i h t. one-small 8 i (omega arith) (omega arith)) (λ steps_keep.
      line-says Refuses 9 1 _ _ [] accepted (λ i h t. one-small 9 0 (omega arith) (omega arith)) (λ total.
      last_says Refuses accepted (λ z. absurd (z refl)))))))))))

  -- ---- refusals 1 to 10 and 13
  valid-from : (verdict b).number ≡ 0 → Valid b
  unfolding verdict
  valid-from z = keep-valid b (none-given (nine b) accepted (omega arith) (ap (λ (ls : List Line). (first_of ls accepted).number) (sym (reading-lines b)) ∙ z))

  pub acceptance-small : Refuses (acceptance b)
  unfolding acceptance verdict stop_line
  acceptance-small = elim (ℕ_discrete (verdict b).number 0) [
    | no n ↦ rw (first_of-stop (reading_table b) (stop_line b ∷ []) accepted accepted refl n) verdict-small
    | yes z ↦
        let v = valid-from z in
        let few = (valid-headed b v).few_rows in
        let short = (valid-headed b v).few_steps in
        rw (reading-lines b, all_keep (nine b) (stop_line b ∷ []) accepted (valid-keep b v))
        (any-line-says Refuses (stop_line b) [] accepted
        (λ s h t n. Small.two (stop-cases (narration b) s) (omega arith) (let r = stop-low b v s h t in omega arith))
        (λ plays. last_says Refuses accepted (λ n. absurd (n refl))))
  ]

  -- ---- and 12, or acceptance: of an output whose length fits
  room_small : (out : List ℕ) (need : ℕ) → (Plays b → need < 4294967296)
      → Small (first_of (reading_table b ++ stop_line b ∷ room_line (length out) need ∷ []) (said 0 (need ∷ [])))
  unfolding room_line
  room_small out need low = elim (ℕ_discrete (acceptance b).number 0) [
    | no n ↦ rw (book-first b (room_line (length out) need ∷ []) (said 0 (need ∷ [])) n) (acceptance-small n)
    | yes z ↦
        let p = plays-from b z in
        let short = low p in
        let rest = said 0 (need ∷ []) in
        let line12 = room_line (length out) need in
        rw (ten-lines b (line12 ∷ []), all_keep (ten b) (line12 ∷ []) rest (plays-keep b p))
        (line-says Small 12 1 _ _ [] rest (λ i h t. Small.one {n = 12} (omega arith) (omega arith) (omega arith) (omega arith))
        (λ room. last_says Small rest (Small.one {n = 0} (omega arith) (omega arith) (omega arith) (omega arith))))
  ]

  pub translation-small : (out : List ℕ) → Small (translation_says b out)
  unfolding translation_says
  translation-small out = room_small out (length (listing b)) (λ p. let short = listing-short b p.valid in omega arith)

  pub summary-small : (out : List ℕ) → Small (summary_says b out)
  unfolding summary_says
  summary-small out = room_small out (summary_words b) (λ p. let most = summary-most b p.valid in omega arith)

  -- ---- of a rehearsal 11, too
  pub rehearsal-small : (ms out : List ℕ) → Small (rehearsal_says b ms out)
  unfolding rehearsal_says long_line move_line room_line
  rehearsal-small ms out = elim (ℕ_discrete (acceptance b).number 0) [
    | no n ↦ rw (book-first b _ _ n) (acceptance-small n)
    | yes z ↦
        let p = plays-from b z in
        let few = (valid-headed b p.valid).few_parties in
        let rest = said 0 (parties b ∷ []) in
        rw (
          ten-lines b (long_line ms ∷ move_line (parties b) ms ∷ room_line (length out) (parties b) ∷ []),
          all_keep (ten b) (long_line ms ∷ move_line (parties b) ms ∷ room_line (length out) (parties b) ∷ []) rest (plays-keep b p),
        )
        (line-says Small 11 1 _ _ _ rest (λ i h t. Small.one {n = 11} (omega arith) (omega arith) (omega arith) (omega arith)) (λ short.
        line-says Small 11 (length ms) _ _ _ rest
        (λ i h t. Small.one {n = 11} (omega arith) (omega arith) (omega arith)
        (let l = ltb-false 4096 (length ms) (short 0 (omega arith)) in omega arith)) (λ named.
        line-says Small 12 1 _ _ [] rest (λ i h t. Small.one {n = 12} (omega arith) (omega arith) (omega arith) (omega arith))
        (λ room. last_says Small rest (Small.one {n = 0} (omega arith) (omega arith) (omega arith) (omega arith))))))
  ]

-- ---- a question: one value each, and 32 bits hold what is told of it
pub asked-small : (s : List ℕ) (p r t : ℕ) → Small (capped (asked s p r t))
unfolding asked length_line question_line
asked-small s p r t =
    let rest = said 0 (answered s p r t ∷ []) in
    line-says (λ x. Small (capped x)) 20 1 _ _ _ rest (λ i h m. Small.one {n = 20} (omega arith) (omega arith) (omega arith) (omega arith)) (λ fits.
    line-says (λ x. Small (capped x)) 21 3 _ _ [] rest (λ i h m. Small.one {n = 21} (omega arith) (omega arith) (omega arith) (omega arith)) (λ inside.
    last_says (λ x. Small (capped x)) rest (Small.one {n = 0} (omega arith) (omega arith) (omega arith) (omega arith))))

pub asked-never-1 : (s : List ℕ) (p r t : ℕ) → (asked s p r t).number ≡ 1 → ⊥
unfolding asked length_line question_line
asked-never-1 s p r t =
    let rest = said 0 (answered s p r t ∷ []) in
    line-says (λ x. x.number ≡ 1 → ⊥) 20 1 _ _ _ rest (λ i h m e. omega arith) (λ fits.
    line-says (λ x. x.number ≡ 1 → ⊥) 21 3 _ _ [] rest (λ i h m e. omega arith) (λ inside.
    last_says (λ x. x.number ≡ 1 → ⊥) rest (λ e. omega arith)))

-- where the words are no more than 32 bits count, and so are the numbers of the question, nothing is lost
pub asked-whole : (s : List ℕ) (p r t : ℕ) → length s < 4294967296 → p < 4294967296 → r < 4294967296 → t < 4294967296
    → capped (asked s p r t) ≡ asked s p r t
unfolding asked length_line question_line answered
asked-whole s p r t n hp hr ht =
    let rest = said 0 (answered s p r t ∷ []) in
    line-says (λ x. capped x ≡ x) 20 1 _ _ _ rest (λ i h m. one 20 (length s) n) (λ fits.
    line-says (λ x. capped x ≡ x) 21 3 _ _ [] rest (λ i h m. number i h) (λ inside.
    last_says (λ x. capped x ≡ x) rest
    (one 0 (answered s p r t) (pick_ind (λ v. v < 4294967296) _ 1 0 (λ e. omega arith) (λ e. omega arith)))))
  where
    one : (k v : ℕ) → v < 4294967296 → capped (said k (v ∷ [])) ≡ said k (v ∷ [])
    one k v l = let e : min 4294967295 v ≡ v = omega arith in ap (λ x. said k (x ∷ [])) e

    number : (i : ℕ) → i < 3 → capped (said 21 (get_or (p ∷ r ∷ t ∷ []) i 0 ∷ [])) ≡ said 21 (get_or (p ∷ r ∷ t ∷ []) i 0 ∷ [])
    number zero l = one 21 p hp
    number (suc zero) l = one 21 r hr
    number (suc (suc zero)) l = one 21 t ht
    number (suc (suc (suc i))) l = absurd (omega arith)
