-- Laws of a call: the function that has the number is picked, and called with its slices and numbers; what it writes has room. Assumes
-- nothing.
use Rattle.std.specs.Prelude.{ℕ, ◌/◌, ◌≤◌, ◌<◌, Bool, true, false, List, ◌≡◌, length, get_or, take, Ok, Err}
use Rattle.std.proofs.Math.Bool.{not}
use Rattle.std.proofs.Math.Path.{refl, sym, ap}
use Rattle.std.proofs.Common.{◌∙◌, ap₂, length-take, lt-ltb, le-ltb}
use native.Mathlib.Omega.{arith}
use Rattle.words.specs.Choice.{pick}
use Rattle.words.specs.Choice.Laws.{pick_true, pick-false}
use Rattle.octets.specs.Octets.{words_in, uneven}
use Rattle.octets.specs.Octets.Laws.{words-length}
use Rattle.book.specs.Said.{Said}
use Rattle.book.specs.Refusals.{verdict}
use Rattle.translation.specs.Outcome.{Answer, Outcome, acceptance, outcome, came}
use Rattle.playing.specs.Rehearsal.{rehearsal}
use Rattle.renaming.specs.Verdict.{judged}
use Rattle.summary.specs.Summary.{summarized, asked}
use Rattle.typing.specs.Apart.{keeps_apart}
use Rattle.typing.specs.Derivation.{verdict as verdict_of}
use Rattle.summary.proofs.Summary.Written.{exactly-summarized, summarized-says}
use Rattle.editor.specs.Bytes.{translation_bytes, rehearsal_bytes, summary_bytes, asked_bytes, judged_bytes, AsWords}
use Rattle.editor.specs.Bytes.Laws.{translation-words, rehearsal-words, summary-words, of-odd, of-odd-book, of-odd-schedule, of-odd-summarized}
use Rattle.examining.specs.Checked.{odd, verdict_said, checked_said, apart_said, apart_asked}
use Rattle.line.specs.Line.{reading_line, line_of, Inside}
use Rattle.line.specs.Line.Laws.{inside-outcome, inside-rehearsal}
use Rattle.telling.specs.Reply.{reply_line}
use Rattle.telling.specs.Judgement.{judgement_line}
use Rattle.telling.specs.Found.{found_line}
use Rattle.functions.specs.Functions.{OfBooks, on_bytes, asks, judges}
use Rattle.functions.specs.Functions.Laws.{apart, bytes-from}
use Rattle.calling.specs.Call.{OnWords, OnBytes, in_words, number, question}
use Rattle.calling.specs.Call.{verdict_line, words_line, bytes_line, question_line, judge_line, book_line, typing_line, call_line}

-- what is no question and judges nothing is on words or on bytes
module _ {f : ℕ} {t v u : Bool} (known : OfBooks f) (asking : t ≡ asks f) (no : t ≡ false) (judging : v ≡ judges f) (none : v ≡ false)
    (tested : u ≡ on_bytes f) where
  pub on-words : u ≡ false → OnWords f
  unfolding on_bytes asks judges pick
  on-words e =
      let no-question = sym asking ∙ no in
      let no-judgement = sym judging ∙ none in
      let no_bytes = sym tested ∙ e in
      let is-no-8 = apart asks f 8 refl no-question in
      let is-no-9 = apart on_bytes f 9 refl no_bytes in
      let is-no-10 = apart asks f 10 refl no-question in
      let is-no-11 = apart judges f 11 refl no-judgement in
      let is-no-12 = apart judges f 12 refl no-judgement in
      (known.0, omega arith, apart on_bytes f 5 refl no_bytes, apart on_bytes f 6 refl no_bytes)

  pub on-bytes : u ≡ true → OnBytes f
  unfolding on_bytes asks judges pick
  on-bytes e =
      let no-question = sym asking ∙ no in
      let no-judgement = sym judging ∙ none in
      let bytes = sym tested ∙ e in
      let is-no-10 = apart asks f 10 refl no-question in
      let is-no-11 = apart judges f 11 refl no-judgement in
      let is-no-12 = apart judges f 12 refl no-judgement in
      (bytes-from f bytes, omega arith, apart (λ n. not (on_bytes n)) f 7 refl (ap not bytes), apart asks f 8 refl no-question)

-- ---- verdict_line: of what the reader said, and of what was said of acceptance
module _ (f : ℕ) (a : List ℕ) where
  pub calls-read : {s : Said} → f ≡ 1 → s ≡ verdict a → reading_line s ≡ verdict_line f a
  unfolding verdict_line pick
  calls-read e q = ap reading_line q ∙ ap (λ n. verdict_line n a) (sym e)

  pub calls-accept : {s : Said} → f ≡ 2 → s ≡ acceptance a → reading_line s ≡ verdict_line f a
  unfolding verdict_line pick
  calls-accept e q = ap reading_line q ∙ ap (λ n. verdict_line n a) (sym e)

-- ---- words_line: of a verdict, and of what came of a translation, of a rehearsal and of a summary
module _ (f : ℕ) (a b c : List ℕ) where
  pub calls-verdict : f < 3 → verdict_line f a ≡ words_line f a b c
  unfolding words_line
  calls-verdict h = sym (pick_true _ _ _ (lt-ltb f 3 h))

  pub calls-translate : {o : Outcome} → f ≡ 3 → o ≡ outcome a b → line_of o ≡ words_line f a b c
  unfolding words_line pick
  calls-translate e q = ap line_of q ∙ ap (λ n. words_line n a b c) (sym e)

  pub calls-rehearse : {o : Outcome} → f ≡ 4 → o ≡ rehearsal a b c → line_of o ≡ words_line f a b c
  unfolding words_line pick
  calls-rehearse e q = ap line_of q ∙ ap (λ n. words_line n a b c) (sym e)

  pub calls-summary : {o : Outcome} → f ≡ 7 → o ≡ summarized a b → line_of o ≡ words_line f a b c
  unfolding words_line pick
  calls-summary e q = ap line_of q ∙ ap (λ n. words_line n a b c) (sym e)

-- of the words that were loaded of each slice
pub words-loaded : (f : ℕ) {a b c : List ℕ} (xs bs cs : List ℕ) → a ≡ words_in xs → b ≡ words_in bs → c ≡ words_in cs
    → words_line f a b c ≡ words_line f (words_in xs) (words_in bs) (words_in cs)
words-loaded f {b = b} {c = c} xs bs cs e e2 e3 = ap (λ ws. words_line f ws b c) e ∙ ap₂ (words_line f (words_in xs)) e2 e3

-- ---- bytes_line
module _ (f : ℕ) (a b c : List ℕ) where
  pub calls-translate-bytes : {o : Outcome} → f ≡ 5 → o ≡ translation_bytes a b → line_of (in_words o) ≡ bytes_line f a b c
  unfolding bytes_line pick
  calls-translate-bytes e q = ap (λ o. line_of (in_words o)) q ∙ ap (λ n. bytes_line n a b c) (sym e)

  pub calls-rehearse-bytes : {o : Outcome} → f ≡ 6 → o ≡ rehearsal_bytes a b c → line_of (in_words o) ≡ bytes_line f a b c
  unfolding bytes_line pick
  calls-rehearse-bytes e q = ap (λ o. line_of (in_words o)) q ∙ ap (λ n. bytes_line n a b c) (sym e)

  pub calls-summary-bytes : {o : Outcome} → f ≡ 9 → o ≡ summary_bytes a b → line_of (in_words o) ≡ bytes_line f a b c
  unfolding bytes_line pick
  calls-summary-bytes e q = ap (λ o. line_of (in_words o)) q ∙ ap (λ n. bytes_line n a b c) (sym e)

-- ---- question_line
-- what is asked with the numbers as they were read
asks-numbers : (answer : List ℕ → ℕ → ℕ → ℕ → Said) (a b : List ℕ) {p r t : ℕ}
    → p ≡ number b 0 → r ≡ number b 1 → t ≡ number b 2
    → answer a p r t ≡ question answer a b
asks-numbers answer a b {r = r} {t = t} x y z = ap (λ n. answer a n r t) x ∙ ap₂ (answer a (number b 0)) y z

module _ (f : ℕ) (a b : List ℕ) {s : Said} {p r t : ℕ} (party : p ≡ number b 0) (row : r ≡ number b 1) (step : t ≡ number b 2) where
  pub calls-ask : f ≡ 8 → s ≡ asked (words_in a) p r t → reply_line s ≡ question_line f a b
  unfolding question_line pick
  calls-ask e q = ap reply_line (q ∙ asks-numbers asked (words_in a) b party row step) ∙ ap (λ n. question_line n a b) (sym e)

  pub calls-ask-bytes : f ≡ 10 → s ≡ asked_bytes a p r t → reply_line s ≡ question_line f a b
  unfolding question_line pick
  calls-ask-bytes e q = ap reply_line (q ∙ asks-numbers asked_bytes a b party row step) ∙ ap (λ n. question_line n a b) (sym e)

-- ---- judge_line: of the party whose number was read
module _ (f : ℕ) (a b c : List ℕ) {s : Said} {p : ℕ} (party : p ≡ number c 0) where
  pub calls-judge : f ≡ 11 → s ≡ judged (words_in a) p (words_in b) → judgement_line s ≡ judge_line f a b c
  unfolding judge_line pick
  calls-judge e q =
      ap judgement_line (q ∙ ap (λ n. judged (words_in a) n (words_in b)) party) ∙ ap (λ n. judge_line n a b c) (sym e)

  pub calls-judge-bytes : f ≡ 12 → s ≡ judged_bytes a p b → judgement_line s ≡ judge_line f a b c
  unfolding judge_line pick
  calls-judge-bytes e q = ap judgement_line (q ∙ ap (λ n. judged_bytes a n b) party) ∙ ap (λ n. judge_line n a b c) (sym e)

-- ---- book_line
module _ (f : ℕ) (a b c : List ℕ) where
  pub calls-question : {t : Bool} → t ≡ asks f → t ≡ true → question_line f a b ≡ book_line f a b c
  unfolding book_line
  calls-question asking e = sym (pick_true _ _ _ (sym asking ∙ e))

  pub calls-judgement : {t v : Bool} → t ≡ asks f → t ≡ false → v ≡ judges f → v ≡ true → judge_line f a b c ≡ book_line f a b c
  unfolding book_line
  calls-judgement asking unasked judging e = sym (pick-false _ _ _ (sym asking ∙ unasked) ∙ pick_true _ _ _ (sym judging ∙ e))

  module _ {t v u : Bool} (asking : t ≡ asks f) (no : t ≡ false) (judging : v ≡ judges f) (none : v ≡ false) (tested : u ≡ on_bytes f) where
    pub calls-bytes : u ≡ true → bytes_line f a b c ≡ book_line f a b c
    unfolding book_line
    calls-bytes e =
        sym (pick-false _ _ _ (sym asking ∙ no) ∙ pick-false _ _ _ (sym judging ∙ none) ∙ pick_true _ _ _ (sym tested ∙ e))

    pub calls-words : u ≡ false → words_line f (words_in a) (words_in b) (words_in c) ≡ book_line f a b c
    unfolding book_line
    calls-words e =
        sym (pick-false _ _ _ (sym asking ∙ no) ∙ pick-false _ _ _ (sym judging ∙ none) ∙ pick-false _ _ _ (sym tested ∙ e))

-- ---- typing_line
module _ (f : ℕ) (a b : List ℕ) {s : Said} where
  pub calls-check : f ≡ 13 → s ≡ verdict_said (verdict_of (words_in a) (words_in b)) → found_line s ≡ typing_line f a b
  unfolding typing_line pick
  calls-check e q = ap found_line q ∙ ap (λ n. typing_line n a b) (sym e)

  pub calls-check-bytes : f ≡ 14 → s ≡ checked_said a b → found_line s ≡ typing_line f a b
  unfolding typing_line pick
  calls-check-bytes e q = ap found_line q ∙ ap (λ n. typing_line n a b) (sym e)

  pub calls-apart : f ≡ 15 → s ≡ apart_said (keeps_apart (words_in a)) → reply_line s ≡ typing_line f a b
  unfolding typing_line pick
  calls-apart e q = ap reply_line q ∙ ap (λ n. typing_line n a b) (sym e)

  pub calls-apart-bytes : f ≡ 16 → s ≡ apart_asked a → reply_line s ≡ typing_line f a b
  unfolding typing_line pick
  calls-apart-bytes e q = ap reply_line q ∙ ap (λ n. typing_line n a b) (sym e)

-- no other number is left
pub last-typing : (f : ℕ) → 13 ≤ f → f ≤ 16 → (f ≡ 13 → ⊥) → (f ≡ 14 → ⊥) → (f ≡ 15 → ⊥) → f ≡ 16
last-typing f h l n m o = omega arith

-- ---- call_line
module _ (f : ℕ) (a b c : List ℕ) where
  pub calls-typing : 12 < f → typing_line f a b ≡ call_line f a b c
  unfolding call_line
  calls-typing h = sym (pick_true _ _ _ (lt-ltb 12 f h))

  pub calls-book : f ≤ 12 → book_line f a b c ≡ call_line f a b c
  unfolding call_line
  calls-book h = sym (pick-false _ _ _ (le-ltb 12 f h))

-- ---- the front of a slice
pub front-few : (n : ℕ) (l : List ℕ) {m : ℕ} → n ≤ m → length (take n l) ≤ m
front-few n l h = let e = length-take n l in omega arith

-- ---- Inside
-- a summary lies in the lent words
pub inside-summarized : (a : Answer) (b lent new : List ℕ) {room : ℕ} → came a new ≡ summarized b lent → length lent ≤ room
    → Inside a room
unfolding summarized
inside-summarized (Ok n) b lent new e h =
    let says = ap (λ (o : Outcome). o.says) e in
    let fits = (exactly-summarized b lent).0 (sym (ap (λ (s : Said). s.number) says)) in
    let long = ap (λ (s : Said). get_or s.values 0 0) (says ∙ summarized-says b lent fits.0 fits.1) in
    omega (arith, fits.1)
inside-summarized (Err f) b lent new e h = tt

-- what a function on bytes writes lies in the lent bytes
inside-odd : (a : Answer) (lent new : List ℕ) (room : ℕ) → came a new ≡ odd lent → Inside a room
inside-odd (Ok n) lent new room e = let number = ap (λ (o : Outcome). o.says.number) e in absurd (omega arith)
inside-odd (Err r) lent new room e = tt

-- as on words
same-words : (a : Answer) (new : List ℕ) {w o : Outcome} (lent : List ℕ) → came a new ≡ o → AsWords w lent o → came a (words_in new) ≡ w
same-words a new lent e t =
    ap₂ (λ (s : Said) (ws : List ℕ). record { says = s; lent = ws }) (ap (λ (o : Outcome). o.says) e ∙ t.says)
    (ap (λ (o : Outcome). words_in o.lent) e ∙ t.words)

pub inside-translated : (a : Answer) (bs lent new : List ℕ) {room : ℕ} → came a new ≡ translation_bytes bs lent
    → length lent / 4 ≤ room → Inside a room
inside-translated a bs lent new {room} e h = go (uneven bs) refl
  where
    go : (v : Bool) → uneven bs ≡ v → Inside a room
    go false q =
        let l = words-length lent in
        inside-outcome a (words_in bs) (words_in lent) (words_in new) (same-words a new lent e (translation-words bs lent q)) (omega arith)
    go true q = inside-odd a lent new room (e ∙ of-odd bs lent q)

pub inside-rehearsed : (a : Answer) (bs ms lent new : List ℕ) {room : ℕ} → came a new ≡ rehearsal_bytes bs ms lent
    → length lent / 4 ≤ room → Inside a room
inside-rehearsed a bs ms lent new {room} e h = go (uneven bs) refl (uneven ms) refl
  where
    go : (v : Bool) → uneven bs ≡ v → (w : Bool) → uneven ms ≡ w → Inside a room
    go false q false p =
        let l = words-length lent in
        let played = same-words a new lent e (rehearsal-words bs lent q ms p) in
        inside-rehearsal a (words_in bs) (words_in ms) (words_in lent) (words_in new) played (omega arith)
    go false q true p = inside-odd a lent new room (e ∙ of-odd-schedule bs ms lent q p)
    go true q w p = inside-odd a lent new room (e ∙ of-odd-book bs ms lent q)

pub inside-summarized-bytes : (a : Answer) (bs lent new : List ℕ) {room : ℕ} → came a new ≡ summary_bytes bs lent
    → length lent / 4 ≤ room → Inside a room
inside-summarized-bytes a bs lent new {room} e h = go (uneven bs) refl
  where
    go : (v : Bool) → uneven bs ≡ v → Inside a room
    go false q =
        let l = words-length lent in
        inside-summarized a (words_in bs) (words_in lent) (words_in new) (same-words a new lent e (summary-words bs lent q)) (omega arith)
    go true q = inside-odd a lent new room (e ∙ of-odd-summarized bs lent q)
