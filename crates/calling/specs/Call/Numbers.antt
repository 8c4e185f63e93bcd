-- What is printed of each number, computed from `call_line`: the table of docs/CALLS.md. Assumes nothing.
use Rattle.std.specs.Prelude.{ℕ, List, ◌≡◌}
use Rattle.std.proofs.Math.Path.{refl}
use Rattle.words.specs.Choice.{pick}
use Rattle.octets.specs.Octets.{words_in}
use Rattle.book.specs.Refusals.{verdict}
use Rattle.translation.specs.Outcome.{acceptance, outcome}
use Rattle.playing.specs.Rehearsal.{rehearsal}
use Rattle.renaming.specs.Verdict.{judged}
use Rattle.summary.specs.Summary.{summarized, asked}
use Rattle.typing.specs.Apart.{keeps_apart}
use Rattle.typing.specs.Derivation.{verdict as verdict_of}
use Rattle.editor.specs.Bytes.{translation_bytes, rehearsal_bytes, summary_bytes, asked_bytes, judged_bytes}
use Rattle.examining.specs.Checked.{verdict_said, checked_said, apart_said, apart_asked}
use Rattle.line.specs.Line.{reading_line, line_of}
use Rattle.telling.specs.Reply.{reply_line}
use Rattle.telling.specs.Judgement.{judgement_line}
use Rattle.telling.specs.Found.{found_line}
use Rattle.functions.specs.Functions.{on_bytes, asks, judges}
use Rattle.calling.specs.Call.{verdict_line, words_line, in_words, bytes_line, number}
use Rattle.calling.specs.Call.{question_line, judge_line, book_line, typing_line, call_line}

module _ (a b c : List ℕ) where
  pub line-1 : call_line 1 a b c ≡ reading_line (verdict (words_in a))
  unfolding call_line book_line words_line verdict_line asks judges on_bytes pick
  line-1 = refl

  pub line-2 : call_line 2 a b c ≡ reading_line (acceptance (words_in a))
  unfolding call_line book_line words_line verdict_line asks judges on_bytes pick
  line-2 = refl

  pub line-3 : call_line 3 a b c ≡ line_of (outcome (words_in a) (words_in b))
  unfolding call_line book_line words_line asks judges on_bytes pick
  line-3 = refl

  pub line-4 : call_line 4 a b c ≡ line_of (rehearsal (words_in a) (words_in b) (words_in c))
  unfolding call_line book_line words_line asks judges on_bytes pick
  line-4 = refl

  pub line-5 : call_line 5 a b c ≡ line_of (in_words (translation_bytes a b))
  unfolding call_line book_line bytes_line asks judges on_bytes pick
  line-5 = refl

  pub line-6 : call_line 6 a b c ≡ line_of (in_words (rehearsal_bytes a b c))
  unfolding call_line book_line bytes_line asks judges on_bytes pick
  line-6 = refl

  pub line-7 : call_line 7 a b c ≡ line_of (summarized (words_in a) (words_in b))
  unfolding call_line book_line words_line asks judges on_bytes pick
  line-7 = refl

  pub line-8 : call_line 8 a b c ≡ reply_line (asked (words_in a) (number b 0) (number b 1) (number b 2))
  unfolding call_line book_line question_line asks pick
  line-8 = refl

  pub line-9 : call_line 9 a b c ≡ line_of (in_words (summary_bytes a b))
  unfolding call_line book_line bytes_line asks judges on_bytes pick
  line-9 = refl

  pub line-10 : call_line 10 a b c ≡ reply_line (asked_bytes a (number b 0) (number b 1) (number b 2))
  unfolding call_line book_line question_line asks pick
  line-10 = refl

  pub line-11 : call_line 11 a b c ≡ judgement_line (judged (words_in a) (number c 0) (words_in b))
  unfolding call_line book_line judge_line asks judges pick
  line-11 = refl

  pub line-12 : call_line 12 a b c ≡ judgement_line (judged_bytes a (number c 0) b)
  unfolding call_line book_line judge_line asks judges pick
  line-12 = refl

  pub line-13 : call_line 13 a b c ≡ found_line (verdict_said (verdict_of (words_in a) (words_in b)))
  unfolding call_line typing_line pick
  line-13 = refl

  pub line-14 : call_line 14 a b c ≡ found_line (checked_said a b)
  unfolding call_line typing_line pick
  line-14 = refl

  pub line-15 : call_line 15 a b c ≡ reply_line (apart_said (keeps_apart (words_in a)))
  unfolding call_line typing_line pick
  line-15 = refl

  pub line-16 : call_line 16 a b c ≡ reply_line (apart_asked a)
  unfolding call_line typing_line pick
  line-16 = refl
