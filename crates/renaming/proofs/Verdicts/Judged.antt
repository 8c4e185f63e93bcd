-- Laws of what is judged of a book and a party's number: refusals 1 to 10 and 13 are the book's, then comes 22, each exactly when document
-- 02, [7] says so; else the verdict is Same or Differs; ours is always accepted. Assumes nothing.
use Rattle.std.specs.Prelude.{ℕ, ◌≤◌, ◌<◌, ◌↔◌, ◌⊎◌, ◌≡◌, refl, leb}
use mathlib.Core.List.{List, [], ◌∷◌, ◌++◌, append-nil}
use Rattle.std.proofs.Common.{inl, inr, ⊎_elim, sym, ◌∙◌, arith, leb-false}
use Rattle.std.proofs.Math.Path.{ap}
use Rattle.std.proofs.Math.Decide.{ℕ_discrete, dec_lt}
use Rattle.std.proofs.lemmas.Bool.{lt-leb}
use Rattle.terms.specs.Table.{number}
use Rattle.book.specs.Layout.{table, rows, parties, steps}
use Rattle.book.specs.Said.{Said, said, accepted, refusal_says}
use Rattle.book.specs.Said.Laws.{refusal-number, refusal-injective}
use Rattle.book.specs.declared.Refusal.{Refusal}
use Rattle.book.specs.declared.Refusal.TheVariants.{Nobody}
use Rattle.book.specs.Refusals.{Line, line, first_of, verdict}
use Rattle.book.specs.Ruled.{Ruled, lines}
use Rattle.book.specs.Refusals.Laws.{given, caused, all_keep, none-given, first_of-none, keep_append, apart-append, lines-append}
use Rattle.book.specs.Valid.{Valid}
use Rattle.translation.specs.Receive.{Event}
use Rattle.translation.specs.Steps.{before}
use Rattle.translation.specs.Listing.{part_words}
use Rattle.translation.specs.Long.{most_placeholders}
use Rattle.translation.proofs.Long.Laws.{all-within}
use Rattle.translation.specs.Taken.{Taken, Barred}
use Rattle.translation.specs.Outcome.{stop_line, acceptance, Unplayable, Plays}
use Rattle.translation.specs.Outcome.Laws.{stop-line, stop-other, ten, ten-apart, ten-lines, reading-exact, book-first, stop_line-10, stop_line-13, keep-plays, plays-keep}
use Rattle.renaming.specs.Slot.{program_slots, event_slots, part_slots, handed}
use Rattle.renaming.specs.Slot.Laws.{spelt-part, handed-append, handed-triples}
use Rattle.renaming.specs.Slot.Order.{part-ordered, part-slots, before-handed}
use Rattle.renaming.specs.Renaming.{Same, Differs}
use Rattle.renaming.specs.Verdict.{verdict_of, nobody_line, judged}
use Rattle.renaming.proofs.Verdicts.Laws.{verdict-number, verdict-same, verdict-differs, verdict-ours}

-- the line with its rule
abbrev nobody-line : List ℕ → ℕ → Ruled
nobody-line b p =
    record {
      line = line 22 1 (λ i. leb (parties b) p) (λ i. p ∷ []);
      rule = λ i. p < parties b;
      exact = λ i. (λ e. leb-false _ _ e, λ h. lt-leb _ _ h);
    }

module _ (b : List ℕ) (p : ℕ) (ws : List ℕ) where
  abbrev rest : Said
  rest = verdict_of (part_slots b p) ws

  rest-not : (n : ℕ) → 0 < n → rest.number ≡ n → ⊥
  rest-not n h e = let z = verdict-number (part_slots b p) ws in omega arith

  judged-lines : judged b p ws ≡ first_of (lines (ten b) ++ ((nobody-line b p).line ∷ [])) rest
  unfolding judged nobody_line
  judged-lines = ap (λ ls. first_of ls rest) (ten-lines b _)

  -- ---- "a book that is refused gives the book's refusal"
  pub judged-book-first : ((acceptance b).number ≡ 0 → ⊥) → judged b p ws ≡ acceptance b
  unfolding judged
  judged-book-first n = book-first b _ _ n

  -- a book whose acceptance has the number 0 plays
  accepts-plays : (acceptance b).number ≡ 0 → Plays b
  unfolding acceptance
  accepts-plays e =
      let l = ap (λ ls. first_of ls accepted) (ten-lines b [] ∙ append-nil (lines (ten b))) in
      keep-plays b (none-given (ten b) accepted (ten-apart b 0 (omega arith) (omega arith) (omega arith)) (ap (λ (s : Said). s.number) (sym l) ∙ e))

  pub judged-exactly-reading : (n : ℕ) → 0 < n → n ≤ 9 → (vs : List ℕ) → (judged b p ws ≡ said n vs) ↔ (verdict b ≡ said n vs)
  unfolding judged stop_line nobody_line
  judged-exactly-reading n q h vs =
      reading-exact b (stop-line b ∷ nobody-line b p ∷ []) rest n (stop-other b n (omega arith) (omega arith), omega arith) (rest-not n q) q vs

  pub judged-exactly-10 : (vs : List ℕ) → (judged b p ws ≡ said 10 vs) ↔ (Valid b × Unplayable Taken b vs)
  judged-exactly-10 vs =
      let r = stop_line-10 b (nobody-line b p ∷ []) rest (omega arith) (rest-not 10 (omega arith)) vs in
      (λ e. r.0 (sym judged-lines ∙ e), λ u. judged-lines ∙ r.1 u)

  pub judged-exactly-13 : (vs : List ℕ) → (judged b p ws ≡ said 13 vs) ↔ (Valid b × Unplayable Barred b vs)
  judged-exactly-13 vs =
      let r = stop_line-13 b (nobody-line b p ∷ []) rest (omega arith) (rest-not 13 (omega arith)) vs in
      (λ e. r.0 (sym judged-lines ∙ e), λ u. judged-lines ∙ r.1 u)

  -- ---- "then a party number out of range is 22"
  pub exactly-22 : (vs : List ℕ) → (judged b p ws ≡ said 22 vs) ↔ (Plays b × (parties b ≤ p) × (vs ≡ p ∷ []))
  exactly-22 vs = (
    λ e. (let z = caused (ten b) (nobody-line b p) [] rest vs (ten-apart b 22 (omega arith) (omega arith) (omega arith)) tt (rest-not 22 (omega arith))
        (sym judged-lines ∙ e) in
        let c = z.1.0 in
        let n = c.broken in
        (keep-plays b z.0, omega arith, c.says)),
    λ u. judged-lines ∙ given (ten b) (nobody-line b p) [] rest vs (plays-keep b u.0)
        (record { place = 0; within = omega arith; broken = λ h. (let l = u.1 in omega arith); smallest = λ k h. absurd (omega arith); says = u.2 }),
  )

  -- ---- else it is judged
  pub judged-says : Plays b → p < parties b → judged b p ws ≡ verdict_of (part_slots b p) ws
  judged-says q h =
      judged-lines ∙ all_keep (ten b) ((nobody-line b p).line ∷ []) rest (plays-keep b q)
      ∙ all_keep (nobody-line b p ∷ []) [] rest (λ i l. h, tt) ∙ first_of-none rest

  pub exactly-judged : ((judged b p ws).number ≡ 0) ↔ (Plays b × (p < parties b))
  exactly-judged = (
    λ e. (let k = none-given (ten b ++ nobody-line b p ∷ []) rest
        (apart-append 0 (ten b) (nobody-line b p ∷ []) (ten-apart b 0 (omega arith) (omega arith) (omega arith)) (omega arith))
        (ap (λ (ls : List Line). (first_of ls rest).number) (lines-append (ten b) (nobody-line b p ∷ []))
        ∙ ap (λ (s : Said). s.number) (sym judged-lines) ∙ e) in
        let r = keep_append (ten b) (nobody-line b p ∷ []) k in
        (keep-plays b r.0, r.1.0 0 (omega arith))),
    λ u. ap (λ (s : Said). s.number) (judged-says u.0 u.1) ∙ verdict-number (part_slots b p) ws,
  )

  judged-value : (vs : List ℕ) → (judged b p ws ≡ said 0 vs) ↔ (Plays b × (p < parties b) × (verdict_of (part_slots b p) ws ≡ said 0 vs))
  judged-value vs = (
    λ e. (let (q, h) = exactly-judged.0 (ap (λ (s : Said). s.number) e) in (q, h, sym (judged-says q h) ∙ e)),
    λ u. judged-says u.0 u.1 ∙ u.2,
  )

  -- "accepted exactly if a one-to-one renaming of its placeholders turns it into ours"
  pub exactly-same : (judged b p ws ≡ said 0 (1 ∷ [])) ↔ (Plays b × (p < parties b) × Same (part_slots b p) ws)
  exactly-same =
      let r = verdict-same (part_slots b p) ws (part-ordered b p) in (
        λ e. (let (q, h, v) = (judged-value (1 ∷ [])).0 e in (q, h, r.0 v)),
        λ u. (judged-value (1 ∷ [])).1 (u.0, u.1, r.1 u.2),
      )

  -- "Otherwise name the smallest word at which no renaming can agree, or the shorter length"
  pub exactly-differs : (k : ℕ) → (judged b p ws ≡ said 0 (0 ∷ k ∷ [])) ↔ (Plays b × (p < parties b) × Differs (part_slots b p) ws k)
  exactly-differs k =
      let r = verdict-differs (part_slots b p) ws (part-ordered b p) k in (
        λ e. (let (q, h, v) = (judged-value (0 ∷ k ∷ [])).0 e in (q, h, r.0 v)),
        λ u. (judged-value (0 ∷ k ∷ [])).1 (u.0, u.1, r.1 u.2),
      )

  -- ---- each refusal: the book's, or 22
  pub exactly-refused : (f : Refusal) → (judged b p ws ≡ refusal_says f)
      ↔ ((refusal_says f ≡ acceptance b) ⊎ ((f ≡ Nobody p) × Plays b × (parties b ≤ p)))
  exactly-refused f = (λ e. go e (ℕ_discrete (acceptance b).number 0) (dec_lt p (parties b)), ⊎_elim (λ e. book e) (λ u. nobody u))
    where
      go : judged b p ws ≡ refusal_says f → Dec ((acceptance b).number ≡ 0) → Dec (p < parties b)
          → (refusal_says f ≡ acceptance b) ⊎ ((f ≡ Nobody p) × Plays b × (parties b ≤ p))
      go e (no n) d = inl (sym e ∙ judged-book-first n)
      go e (yes z) (yes h) = absurd (refusal-number f (ap (λ (s : Said). s.number) (sym e) ∙ exactly-judged.1 (accepts-plays z, h)))
      go e (yes z) (no h) =
          let l : parties b ≤ p = omega arith in
          let q = accepts-plays z in
          inr (refusal-injective f (Nobody p) (sym e ∙ (exactly-22 (p ∷ [])).1 (q, l, refl)), q, l)

      book : refusal_says f ≡ acceptance b → judged b p ws ≡ refusal_says f
      book e = judged-book-first (λ z. refusal-number f (ap (λ (s : Said). s.number) e ∙ z)) ∙ sym e

      nobody : (f ≡ Nobody p) × Plays b × (parties b ≤ p) → judged b p ws ≡ refusal_says f
      nobody u = (exactly-22 (p ∷ [])).1 (u.1, u.2, refl) ∙ ap refusal_says (sym u.0)

-- ---- "Ours is always accepted"
-- what a party's slots hand out is far inside a word
pub part-handed : (b : List ℕ) → Valid b → (p : ℕ) → p < parties b → handed (part_slots b p) ≤ most_placeholders
unfolding event_slots handed
part-handed b v p h =
    let row = number (table b) (rows b) in
    let d = before b p (steps b) in
    let few = (all-within b v row p (steps b) (omega arith)).given in
    let e = ap handed (part-slots b p h) in
    let a = handed-append (program_slots row d.events) (event_slots row (Event.ends d.stored)) in
    let g = before-handed b p (steps b) row in
    let t = handed-triples row d.stored in
    omega arith

pub ours-accepted : (b : List ℕ) (p : ℕ) → Plays b → p < parties b → judged b p (part_words b p) ≡ said 0 (1 ∷ [])
ours-accepted b p v h =
    let few = part-handed b v.valid p h in
    judged-says b p (part_words b p) v h ∙ ap (verdict_of (part_slots b p)) (sym (spelt-part b p))
    ∙ verdict-ours (part_slots b p) (part-ordered b p) (omega arith)
