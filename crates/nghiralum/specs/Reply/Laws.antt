-- Laws of what comes of the bytes: the translation on bytes comes to it, read back as words, what is written had room, and the line that
-- is printed is that of what the reader had. Assumes nothing.
use Rattle.std.specs.Prelude.{ℕ, ◌+◌, ◌%◌, ◌≤◌, not, Option, None, Some, IfSome, Result, Ok, Err, List, ◌++◌, ◌≡◌, length, take}
use Rattle.std.proofs.Common.{append-nil, sym, ◌∙◌, ap, ap₂, subst, arith, drop_of_length-le, eq-eqb, ne_eqb}
use Rattle.std.specs.Io.KnownBytes.{Appends}
use Rattle.std.proofs.Math.Decide.{ℕ_discrete}
use Rattle.std.proofs.lemmas.List.{length-replicate}
use lib.Seq.{sets-eq, take_all}
use Rattle.words.specs.Choice.Laws.{pick_true, pick-false}
use Rattle.words.specs.Overlay.{Wrote}
use Rattle.octets.specs.Octets.{words_in}
use Rattle.octets.specs.Octets.Laws.{words-length, words-zeros}
use Rattle.book.specs.Layout.{loaded_bytes}
use Rattle.line.specs.Line.{Inside, Printed}
use Rattle.line.specs.Line.Laws.{inside-outcome}
use Rattle.translation.specs.Outcome.{Answer, Outcome, outcome, came}
use Rattle.input.specs.declared.Failed.{Failed}
use Rattle.editor.specs.Bytes.{translation_bytes}
use Rattle.editor.specs.Bytes.Laws.{translation-words, of-odd}
use Rattle.nghiralum.specs.Reply.{odd_bytes, outcome_of_bytes, lent_words, lent_bytes, reply_line, Replied}

of_words : (bs lent : List ℕ) → length bs % 4 ≡ 0 → outcome_of_bytes bs lent ≡ outcome (words_in bs) lent
unfolding outcome_of_bytes
of_words bs lent e = pick_true _ _ _ (eq-eqb _ _ e)

of-odd-bytes : (bs lent : List ℕ) → (length bs % 4 ≡ 0 → ⊥) → outcome_of_bytes bs lent ≡ odd_bytes lent
unfolding outcome_of_bytes
of-odd-bytes bs lent e = pick-false _ _ _ (ne_eqb _ _ e)

-- a refusal writes nothing
inside-odd : (a : Answer) (lent new : List ℕ) (room : ℕ) → came a new ≡ odd_bytes lent → Inside a room
inside-odd (Ok n) lent new room e = let number = ap (λ (o : Outcome). o.says.number) e in absurd (omega arith)
inside-odd (Err f) lent new room e = tt

-- what was written had room
pub inside-bytes : (a : Answer) (bs lent new : List ℕ) {room : ℕ} → came a new ≡ outcome_of_bytes bs lent → length lent ≤ room → Inside a room
inside-bytes a bs lent new e h =
    elim (ℕ_discrete (length bs % 4) 0) [
      | yes q ↦ inside-outcome a (words_in bs) lent new (e ∙ of_words bs lent q) h
      | no q ↦ inside-odd a lent new _ (e ∙ of-odd-bytes bs lent q)
    ]

-- ---- the lent bytes, read back as words
-- what the translation on bytes leaves, and the words that it makes
pub record Left (bs : List ℕ) (o : Outcome) : Type 0 where
  pub says : o.says ≡ (outcome_of_bytes bs lent_words).says
  pub words : words_in o.lent ≡ (outcome_of_bytes bs lent_words).lent
  pub size : length o.lent ≡ 65536

left : (bs : List ℕ) → Left bs (translation_bytes bs lent_bytes)
left bs =
    let zeros : words_in lent_bytes ≡ lent_words = words-zeros 16384 in
    let size : length lent_bytes ≡ 65536 = length-replicate {A = ℕ} 65536 0 in
    elim (ℕ_discrete (length bs % 4) 0) [
      | yes q ↦
          let same = translation-words bs lent_bytes (ap not (eq-eqb (length bs % 4) 0 q)) in
          let theirs = ap (λ (ws : List ℕ). outcome (words_in bs) ws) zeros ∙ sym (of_words bs lent_words q) in
          record {
            says = same.says ∙ ap (λ (o : Outcome). o.says) theirs;
            words = same.words ∙ ap (λ (o : Outcome). o.lent) theirs;
            size = same.size ∙ size;
          }
      | no q ↦
          let ours = of-odd bs lent_bytes (ap not (ne_eqb (length bs % 4) 0 q)) in
          let theirs = of-odd-bytes bs lent_words q in
          record {
            says = ap (λ (o : Outcome). o.says) ours ∙ sym (ap (λ (o : Outcome). o.says) theirs);
            words = ap (λ (o : Outcome). words_in o.lent) ours ∙ zeros ∙ sym (ap (λ (o : Outcome). o.lent) theirs);
            size = ap (λ (o : Outcome). length o.lent) ours ∙ size;
          }
    ]

-- words that are laid over as many
laid-over : (ws old new : List ℕ) (r : ℕ) → length ws ≡ length old → Wrote (take (length old) ws) old 0 new r → new ≡ ws
laid-over ws old new r e w =
    let all = take_all (length old) ws (omega arith) in
    let z : length old ≤ 0 + length ws = omega arith in
    w.list ∙ ap (λ (l : List ℕ). lib.Seq.sets old 0 l) all ∙ sets-eq ws old 0 (omega arith)
    ∙ ap (λ (l : List ℕ). ws ++ l) (drop_of_length-le old z) ∙ append-nil ws

pub reply-came : (bs lent out new : List ℕ) (a : Answer) (r : ℕ) → came a out ≡ translation_bytes bs lent → lent ≡ lent_bytes
    → Wrote (take (length lent_words) (words_in out)) lent_words 0 new r → came a new ≡ outcome_of_bytes bs lent_words
reply-came bs given out new a r f z w =
    let l = left bs in
    let e = f ∙ ap (translation_bytes bs) z in
    let lent = ap (λ (o : Outcome). o.lent) e in
    let size = ap length lent ∙ l.size in
    let n = words-length out in
    let k = length-replicate {A = ℕ} 16384 0 in
    let loaded = laid-over (words_in out) lent_words new r (omega arith) w in
    ap₂ (λ s (ws : List ℕ). record { says = s; lent = ws }) (ap (λ (o : Outcome). o.says) e ∙ l.says) (loaded ∙ ap words_in lent ∙ l.words)

-- ---- what was read is the front of what the reader had, and its line was printed
pub replied : (all : Result (Unit {0}) Failed) (left old new : Option (List ℕ)) (came : List ℕ) {line : List ℕ} → IfSome left (λ bs. take loaded_bytes bs ≡ came)
    → line ≡ reply_line came → Printed all old new line → Replied all left old new
replied (Ok u) None old new came front e p = tt
replied (Ok u) (Some bs) old new came front e p = subst (Appends old new) (e ∙ ap reply_line (sym front)) p
replied (Err f) None old new came front e p = tt
replied (Err f) (Some bs) old new came front e p =
    (p.0, subst (λ l. Appends old new (take p.0 l)) (e ∙ ap reply_line (sym front)) p.2)
