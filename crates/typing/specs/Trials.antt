-- Trials of derivations: one statement over one table, computed from the definitions. A trial is what is asked, a derivation's words, and
-- the verdict.
use Rattle.std.specs.Prelude.{ℕ, Bool, true, false, List, [], ◌∷◌, ◌++◌, ◌≡◌, refl, set, take}
use Rattle.std.proofs.Math.Decide.{ℕ_discrete}
use Rattle.words.specs.Choice.{pick, choose, then}
use Rattle.words.specs.First.{first, first_from, any}
use Rattle.typing.specs.Term.{same_term, same_effect, closed, occurs, about, mentions, at_name, at_bound, change_term, change_effect, term_words, effect_words}
use Rattle.typing.specs.Bag.{up_to, insert, plus, bag, remove, minus}
use Rattle.typing.specs.Types.{same_list, same_effects, same_type, change_type, generatable, same_entry, same_environment}
use Rattle.typing.specs.Process.{same_process}
use Rattle.typing.specs.Judgement.{same_judgement, same_judgements}
use Rattle.typing.specs.Check.{left, right, name_of, second, promised, entry_name, entry_type, newest, older, parts_of, environment_of, term_of, type_of, effects_of, process_of, first as first_premise, rest, printed, stands, asks, follows}
use Rattle.typing.specs.Reading.{ahead, joined, altered, after, terms, only, term, effect_of, effects, with_effects, types, type_at, entries, environment_at, with_term, with_type, processes, process_at}
use Rattle.typing.specs.Derivation.{rules, nth, rule_of, lines, line_word, effect_count, read, judgement, given, earlier, premises_from, by_rule, holds, passes, whole, asked, agree, answers, Verdict, crowded, fails, verdict}
use Rattle.typing.specs.Apart.{binders, names, among, clear, keeps_apart}

-- begin a; begin b; end a; end b; STOP, in the empty environment, with a = 0 and b = 1
unfoldable pub labels_asked : List ℕ
labels_asked =
    1 ∷ 9 ∷ 1 ∷ 0 ∷ 9 ∷ 1 ∷ 1 ∷ 10 ∷ 1 ∷ 0 ∷ 10 ∷ 1 ∷ 1 ∷ 5 ∷ []

-- its derivation, the example of docs/DERIVATIONS.md
unfoldable pub labels : List ℕ
labels =
    6 ∷ 1 ∷ 0 ∷ 0 ∷ 0 ∷ 56 ∷ 0 ∷ 0 ∷ 0 ∷ 0 ∷ 16 ∷ 0 ∷ 0 ∷ 0 ∷ 56 ∷ 67 ∷ 0 ∷ 0 ∷ 0 ∷ 18 ∷ 1 ∷ 0 ∷
    0 ∷ 56 ∷ 64 ∷ 0 ∷ 71 ∷ 1 ∷ 18 ∷ 2 ∷ 0 ∷ 0 ∷ 56 ∷ 61 ∷ 0 ∷ 68 ∷ 2 ∷ 17 ∷ 3 ∷ 0 ∷ 0 ∷ 56 ∷ 58 ∷
    0 ∷ 68 ∷ 1 ∷ 17 ∷ 4 ∷ 0 ∷ 0 ∷ 56 ∷ 55 ∷ 0 ∷ 0 ∷ 0 ∷ 9 ∷ 1 ∷ 0 ∷ 9 ∷ 1 ∷ 1 ∷ 10 ∷ 1 ∷ 0 ∷ 10 ∷
    1 ∷ 1 ∷ 5 ∷ 1 ∷ 1 ∷ 0 ∷ 1 ∷ 1 ∷ 1 ∷ []

-- the same with the two effects of line 3 in the other order
unfoldable pub permuted : List ℕ
permuted =
    6 ∷ 1 ∷ 0 ∷ 0 ∷ 0 ∷ 56 ∷ 0 ∷ 0 ∷ 0 ∷ 0 ∷ 16 ∷ 0 ∷ 0 ∷ 0 ∷ 56 ∷ 67 ∷ 0 ∷ 0 ∷ 0 ∷ 18 ∷ 1 ∷ 0 ∷
    0 ∷ 56 ∷ 64 ∷ 0 ∷ 68 ∷ 1 ∷ 18 ∷ 2 ∷ 0 ∷ 0 ∷ 56 ∷ 61 ∷ 0 ∷ 68 ∷ 2 ∷ 17 ∷ 3 ∷ 0 ∷ 0 ∷ 56 ∷ 58 ∷
    0 ∷ 71 ∷ 1 ∷ 17 ∷ 4 ∷ 0 ∷ 0 ∷ 56 ∷ 55 ∷ 0 ∷ 0 ∷ 0 ∷ 9 ∷ 1 ∷ 0 ∷ 9 ∷ 1 ∷ 1 ∷ 10 ∷ 1 ∷ 0 ∷ 10 ∷
    1 ∷ 1 ∷ 5 ∷ 1 ∷ 1 ∷ 1 ∷ 1 ∷ 1 ∷ 0 ∷ []

-- c : Un, a : Un, k : symkey(nonce [end a]). new n : Un; out c n; inp c z : Un; decrypt z (k) to m : nonce [end a]; check n = m; end a; STOP
-- beside inp c x : Un; begin a; cast x is y : nonce [end a]; out c {y}k; STOP
unfoldable pub handshake_asked : List ℕ
handshake_asked =
    2 ∷ 2 ∷ 4 ∷ 5 ∷ 1 ∷ 1 ∷ 1 ∷ 0 ∷ 2 ∷ 0 ∷ 1 ∷ 2 ∷ 1 ∷ 1 ∷ 1 ∷ 4 ∷ 1 ∷ 3 ∷ 1 ∷ 2 ∷ 1 ∷ 1 ∷ 1 ∷
    3 ∷ 3 ∷ 4 ∷ 1 ∷ 1 ∷ 1 ∷ 8 ∷ 5 ∷ 1 ∷ 4 ∷ 1 ∷ 2 ∷ 5 ∷ 1 ∷ 1 ∷ 1 ∷ 0 ∷ 12 ∷ 1 ∷ 3 ∷ 1 ∷ 5 ∷ 10 ∷
    1 ∷ 0 ∷ 5 ∷ 3 ∷ 6 ∷ 1 ∷ 1 ∷ 1 ∷ 9 ∷ 1 ∷ 0 ∷ 11 ∷ 7 ∷ 1 ∷ 6 ∷ 1 ∷ 1 ∷ 1 ∷ 0 ∷ 2 ∷ 1 ∷ 1 ∷ 3 ∷
    1 ∷ 7 ∷ 1 ∷ 2 ∷ 5 ∷ []

-- its derivation
unfoldable pub handshake : List ℕ
handshake =
    51 ∷ 1 ∷ 0 ∷ 0 ∷ 0 ∷ 461 ∷ 0 ∷ 0 ∷ 0 ∷ 0 ∷ 6 ∷ 0 ∷ 0 ∷ 0 ∷ 461 ∷ 0 ∷ 461 ∷ 0 ∷ 0 ∷ 2 ∷ 1 ∷ 0 ∷
    0 ∷ 464 ∷ 0 ∷ 0 ∷ 0 ∷ 0 ∷ 6 ∷ 2 ∷ 0 ∷ 0 ∷ 464 ∷ 0 ∷ 461 ∷ 0 ∷ 0 ∷ 2 ∷ 3 ∷ 0 ∷ 0 ∷ 540 ∷ 0 ∷ 0 ∷
    0 ∷ 0 ∷ 3 ∷ 4 ∷ 0 ∷ 0 ∷ 540 ∷ 0 ∷ 0 ∷ 0 ∷ 0 ∷ 11 ∷ 4 ∷ 0 ∷ 0 ∷ 540 ∷ 483 ∷ 461 ∷ 0 ∷ 0 ∷ 4 ∷
    5 ∷ 6 ∷ 0 ∷ 540 ∷ 0 ∷ 0 ∷ 482 ∷ 1 ∷ 10 ∷ 7 ∷ 0 ∷ 0 ∷ 540 ∷ 0 ∷ 480 ∷ 0 ∷ 0 ∷ 9 ∷ 8 ∷ 0 ∷ 0 ∷
    540 ∷ 0 ∷ 534 ∷ 0 ∷ 0 ∷ 2 ∷ 9 ∷ 0 ∷ 0 ∷ 532 ∷ 0 ∷ 0 ∷ 0 ∷ 0 ∷ 6 ∷ 10 ∷ 0 ∷ 0 ∷ 532 ∷ 0 ∷ 461 ∷
    0 ∷ 0 ∷ 2 ∷ 11 ∷ 0 ∷ 0 ∷ 529 ∷ 0 ∷ 0 ∷ 0 ∷ 0 ∷ 11 ∷ 12 ∷ 0 ∷ 0 ∷ 529 ∷ 465 ∷ 461 ∷ 0 ∷ 0 ∷ 11 ∷
    12 ∷ 0 ∷ 0 ∷ 529 ∷ 461 ∷ 461 ∷ 0 ∷ 0 ∷ 6 ∷ 12 ∷ 0 ∷ 0 ∷ 529 ∷ 0 ∷ 461 ∷ 0 ∷ 0 ∷ 2 ∷ 15 ∷ 0 ∷ 0 ∷
    526 ∷ 0 ∷ 0 ∷ 0 ∷ 0 ∷ 11 ∷ 16 ∷ 0 ∷ 0 ∷ 526 ∷ 476 ∷ 461 ∷ 0 ∷ 0 ∷ 11 ∷ 16 ∷ 0 ∷ 0 ∷ 526 ∷ 463 ∷
    534 ∷ 0 ∷ 0 ∷ 3 ∷ 16 ∷ 0 ∷ 0 ∷ 526 ∷ 0 ∷ 0 ∷ 0 ∷ 0 ∷ 11 ∷ 16 ∷ 0 ∷ 0 ∷ 526 ∷ 483 ∷ 461 ∷ 0 ∷ 0 ∷
    4 ∷ 19 ∷ 20 ∷ 0 ∷ 526 ∷ 0 ∷ 0 ∷ 482 ∷ 1 ∷ 10 ∷ 21 ∷ 0 ∷ 0 ∷ 526 ∷ 0 ∷ 480 ∷ 0 ∷ 0 ∷ 2 ∷ 22 ∷ 0 ∷
    0 ∷ 519 ∷ 0 ∷ 0 ∷ 0 ∷ 0 ∷ 11 ∷ 23 ∷ 0 ∷ 0 ∷ 519 ∷ 461 ∷ 461 ∷ 0 ∷ 0 ∷ 11 ∷ 23 ∷ 0 ∷ 0 ∷ 519 ∷
    488 ∷ 480 ∷ 0 ∷ 0 ∷ 16 ∷ 23 ∷ 0 ∷ 0 ∷ 519 ∷ 475 ∷ 0 ∷ 0 ∷ 0 ∷ 18 ∷ 26 ∷ 0 ∷ 0 ∷ 519 ∷ 490 ∷ 0 ∷
    482 ∷ 1 ∷ 26 ∷ 24 ∷ 25 ∷ 27 ∷ 519 ∷ 485 ∷ 0 ∷ 572 ∷ 1 ∷ 27 ∷ 17 ∷ 18 ∷ 28 ∷ 526 ∷ 474 ∷ 0 ∷ 572 ∷
    1 ∷ 29 ∷ 13 ∷ 29 ∷ 0 ∷ 529 ∷ 469 ∷ 0 ∷ 572 ∷ 1 ∷ 28 ∷ 13 ∷ 14 ∷ 30 ∷ 529 ∷ 464 ∷ 0 ∷ 572 ∷ 1 ∷ 20 ∷
    31 ∷ 0 ∷ 0 ∷ 532 ∷ 461 ∷ 0 ∷ 0 ∷ 0 ∷ 11 ∷ 10 ∷ 0 ∷ 0 ∷ 532 ∷ 465 ∷ 461 ∷ 0 ∷ 0 ∷ 2 ∷ 11 ∷ 0 ∷ 0 ∷
    554 ∷ 0 ∷ 0 ∷ 0 ∷ 0 ∷ 11 ∷ 34 ∷ 0 ∷ 0 ∷ 554 ∷ 504 ∷ 461 ∷ 0 ∷ 0 ∷ 3 ∷ 34 ∷ 0 ∷ 0 ∷ 554 ∷ 0 ∷ 0 ∷
    0 ∷ 0 ∷ 11 ∷ 34 ∷ 0 ∷ 0 ∷ 554 ∷ 483 ∷ 461 ∷ 0 ∷ 0 ∷ 4 ∷ 36 ∷ 37 ∷ 0 ∷ 554 ∷ 0 ∷ 0 ∷ 482 ∷ 1 ∷
    10 ∷ 38 ∷ 0 ∷ 0 ∷ 554 ∷ 0 ∷ 480 ∷ 0 ∷ 0 ∷ 2 ∷ 39 ∷ 0 ∷ 0 ∷ 547 ∷ 0 ∷ 0 ∷ 0 ∷ 0 ∷ 11 ∷ 40 ∷ 0 ∷
    0 ∷ 547 ∷ 465 ∷ 461 ∷ 0 ∷ 0 ∷ 11 ∷ 40 ∷ 0 ∷ 0 ∷ 547 ∷ 463 ∷ 534 ∷ 0 ∷ 0 ∷ 11 ∷ 40 ∷ 0 ∷ 0 ∷ 547 ∷
    514 ∷ 480 ∷ 0 ∷ 0 ∷ 13 ∷ 43 ∷ 42 ∷ 0 ∷ 547 ∷ 513 ∷ 461 ∷ 0 ∷ 0 ∷ 16 ∷ 40 ∷ 0 ∷ 0 ∷ 547 ∷ 475 ∷ 0 ∷
    0 ∷ 0 ∷ 28 ∷ 41 ∷ 44 ∷ 45 ∷ 547 ∷ 510 ∷ 0 ∷ 0 ∷ 0 ∷ 25 ∷ 35 ∷ 46 ∷ 0 ∷ 554 ∷ 502 ∷ 0 ∷ 482 ∷ 1 ∷
    17 ∷ 47 ∷ 0 ∷ 0 ∷ 554 ∷ 499 ∷ 0 ∷ 0 ∷ 0 ∷ 29 ∷ 33 ∷ 48 ∷ 0 ∷ 532 ∷ 494 ∷ 0 ∷ 0 ∷ 0 ∷ 19 ∷ 32 ∷
    49 ∷ 0 ∷ 532 ∷ 460 ∷ 0 ∷ 0 ∷ 0 ∷ 4 ∷ 1 ∷ 3 ∷ 1 ∷ 2 ∷ 1 ∷ 1 ∷ 1 ∷ 3 ∷ 3 ∷ 4 ∷ 1 ∷ 1 ∷ 1 ∷ 8 ∷
    5 ∷ 1 ∷ 4 ∷ 1 ∷ 2 ∷ 5 ∷ 1 ∷ 1 ∷ 1 ∷ 0 ∷ 12 ∷ 1 ∷ 3 ∷ 1 ∷ 5 ∷ 10 ∷ 1 ∷ 0 ∷ 5 ∷ 3 ∷ 6 ∷ 1 ∷ 1 ∷
    1 ∷ 9 ∷ 1 ∷ 0 ∷ 11 ∷ 7 ∷ 1 ∷ 6 ∷ 1 ∷ 1 ∷ 1 ∷ 0 ∷ 2 ∷ 1 ∷ 1 ∷ 3 ∷ 1 ∷ 7 ∷ 1 ∷ 2 ∷ 5 ∷ 2 ∷ 5 ∷
    5 ∷ 1 ∷ 1 ∷ 1 ∷ 0 ∷ 2 ∷ 4 ∷ 1 ∷ 2 ∷ 3 ∷ 1 ∷ 2 ∷ 2 ∷ 4 ∷ 5 ∷ 1 ∷ 1 ∷ 1 ∷ 0 ∷ 2 ∷ 0 ∷ 1 ∷ 2 ∷
    1 ∷ 1 ∷ 1 ∷ 2 ∷ 7 ∷ 5 ∷ 1 ∷ 1 ∷ 1 ∷ 0 ∷ 2 ∷ 6 ∷ 1 ∷ 2 ∷ 2 ∷ 4 ∷ 5 ∷ 1 ∷ 1 ∷ 1 ∷ 0 ∷ 2 ∷ 0 ∷
    1 ∷ 2 ∷ 1 ∷ 1 ∷ 1 ∷ 2 ∷ 1 ∷ 3 ∷ []

-- a handshake about a message: k : symkey((x : Un, nonce [end x]))
unfoldable pub dependent_asked : List ℕ
dependent_asked =
    2 ∷ 2 ∷ 4 ∷ 2 ∷ 1 ∷ 5 ∷ 1 ∷ 1 ∷ 4 ∷ 0 ∷ 2 ∷ 1 ∷ 1 ∷ 1 ∷ 4 ∷ 1 ∷ 3 ∷ 1 ∷ 2 ∷ 1 ∷ 1 ∷ 1 ∷ 3 ∷
    3 ∷ 4 ∷ 1 ∷ 1 ∷ 1 ∷ 8 ∷ 9 ∷ 1 ∷ 4 ∷ 1 ∷ 2 ∷ 2 ∷ 1 ∷ 5 ∷ 1 ∷ 1 ∷ 4 ∷ 0 ∷ 6 ∷ 6 ∷ 5 ∷ 1 ∷ 9 ∷
    1 ∷ 5 ∷ 1 ∷ 1 ∷ 1 ∷ 6 ∷ 12 ∷ 1 ∷ 3 ∷ 1 ∷ 5 ∷ 10 ∷ 1 ∷ 6 ∷ 5 ∷ 3 ∷ 10 ∷ 1 ∷ 1 ∷ 1 ∷ 1 ∷ 8 ∷
    1 ∷ 9 ∷ 1 ∷ 8 ∷ 11 ∷ 7 ∷ 1 ∷ 10 ∷ 1 ∷ 1 ∷ 1 ∷ 8 ∷ 2 ∷ 1 ∷ 1 ∷ 3 ∷ 2 ∷ 1 ∷ 8 ∷ 1 ∷ 7 ∷ 1 ∷ 2 ∷
    5 ∷ []

-- its derivation
unfoldable pub dependent : List ℕ
dependent =
    69 ∷ 1 ∷ 0 ∷ 0 ∷ 0 ∷ 623 ∷ 0 ∷ 0 ∷ 0 ∷ 0 ∷ 6 ∷ 0 ∷ 0 ∷ 0 ∷ 623 ∷ 0 ∷ 623 ∷ 0 ∷ 0 ∷ 2 ∷ 1 ∷ 0 ∷
    0 ∷ 626 ∷ 0 ∷ 0 ∷ 0 ∷ 0 ∷ 6 ∷ 2 ∷ 0 ∷ 0 ∷ 626 ∷ 0 ∷ 623 ∷ 0 ∷ 0 ∷ 2 ∷ 3 ∷ 0 ∷ 0 ∷ 789 ∷ 0 ∷ 0 ∷
    0 ∷ 0 ∷ 3 ∷ 4 ∷ 0 ∷ 0 ∷ 789 ∷ 0 ∷ 0 ∷ 0 ∷ 0 ∷ 11 ∷ 4 ∷ 0 ∷ 0 ∷ 789 ∷ 799 ∷ 623 ∷ 0 ∷ 0 ∷ 4 ∷
    5 ∷ 6 ∷ 0 ∷ 789 ∷ 0 ∷ 0 ∷ 798 ∷ 1 ∷ 10 ∷ 7 ∷ 0 ∷ 0 ∷ 789 ∷ 0 ∷ 796 ∷ 0 ∷ 0 ∷ 7 ∷ 3 ∷ 8 ∷ 0 ∷
    626 ∷ 0 ∷ 642 ∷ 0 ∷ 0 ∷ 9 ∷ 9 ∷ 0 ∷ 0 ∷ 626 ∷ 0 ∷ 727 ∷ 0 ∷ 0 ∷ 2 ∷ 10 ∷ 0 ∷ 0 ∷ 725 ∷ 0 ∷ 0 ∷
    0 ∷ 0 ∷ 6 ∷ 11 ∷ 0 ∷ 0 ∷ 725 ∷ 0 ∷ 623 ∷ 0 ∷ 0 ∷ 2 ∷ 12 ∷ 0 ∷ 0 ∷ 722 ∷ 0 ∷ 0 ∷ 0 ∷ 0 ∷ 11 ∷
    13 ∷ 0 ∷ 0 ∷ 722 ∷ 627 ∷ 623 ∷ 0 ∷ 0 ∷ 11 ∷ 13 ∷ 0 ∷ 0 ∷ 722 ∷ 623 ∷ 623 ∷ 0 ∷ 0 ∷ 6 ∷ 13 ∷ 0 ∷
    0 ∷ 722 ∷ 0 ∷ 623 ∷ 0 ∷ 0 ∷ 2 ∷ 16 ∷ 0 ∷ 0 ∷ 719 ∷ 0 ∷ 0 ∷ 0 ∷ 0 ∷ 11 ∷ 17 ∷ 0 ∷ 0 ∷ 719 ∷ 638 ∷
    623 ∷ 0 ∷ 0 ∷ 11 ∷ 17 ∷ 0 ∷ 0 ∷ 719 ∷ 625 ∷ 727 ∷ 0 ∷ 0 ∷ 6 ∷ 17 ∷ 0 ∷ 0 ∷ 719 ∷ 0 ∷ 623 ∷ 0 ∷
    0 ∷ 2 ∷ 20 ∷ 0 ∷ 0 ∷ 766 ∷ 0 ∷ 0 ∷ 0 ∷ 0 ∷ 3 ∷ 21 ∷ 0 ∷ 0 ∷ 766 ∷ 0 ∷ 0 ∷ 0 ∷ 0 ∷ 11 ∷ 21 ∷ 0 ∷
    0 ∷ 766 ∷ 799 ∷ 623 ∷ 0 ∷ 0 ∷ 4 ∷ 22 ∷ 23 ∷ 0 ∷ 766 ∷ 0 ∷ 0 ∷ 798 ∷ 1 ∷ 10 ∷ 24 ∷ 0 ∷ 0 ∷ 766 ∷
    0 ∷ 796 ∷ 0 ∷ 0 ∷ 7 ∷ 20 ∷ 25 ∷ 0 ∷ 719 ∷ 0 ∷ 642 ∷ 0 ∷ 0 ∷ 2 ∷ 26 ∷ 0 ∷ 0 ∷ 710 ∷ 0 ∷ 0 ∷ 0 ∷
    0 ∷ 11 ∷ 27 ∷ 0 ∷ 0 ∷ 710 ∷ 652 ∷ 642 ∷ 0 ∷ 0 ∷ 6 ∷ 27 ∷ 0 ∷ 0 ∷ 710 ∷ 0 ∷ 623 ∷ 0 ∷ 0 ∷ 2 ∷ 29 ∷
    0 ∷ 0 ∷ 707 ∷ 0 ∷ 0 ∷ 0 ∷ 0 ∷ 3 ∷ 30 ∷ 0 ∷ 0 ∷ 707 ∷ 0 ∷ 0 ∷ 0 ∷ 0 ∷ 11 ∷ 30 ∷ 0 ∷ 0 ∷ 707 ∷
    658 ∷ 623 ∷ 0 ∷ 0 ∷ 4 ∷ 31 ∷ 32 ∷ 0 ∷ 707 ∷ 0 ∷ 0 ∷ 657 ∷ 1 ∷ 10 ∷ 33 ∷ 0 ∷ 0 ∷ 707 ∷ 0 ∷ 655 ∷
    0 ∷ 0 ∷ 2 ∷ 34 ∷ 0 ∷ 0 ∷ 700 ∷ 0 ∷ 0 ∷ 0 ∷ 0 ∷ 11 ∷ 35 ∷ 0 ∷ 0 ∷ 700 ∷ 623 ∷ 623 ∷ 0 ∷ 0 ∷ 11 ∷
    35 ∷ 0 ∷ 0 ∷ 700 ∷ 643 ∷ 655 ∷ 0 ∷ 0 ∷ 16 ∷ 35 ∷ 0 ∷ 0 ∷ 700 ∷ 644 ∷ 0 ∷ 0 ∷ 0 ∷ 18 ∷ 38 ∷ 0 ∷
    0 ∷ 700 ∷ 665 ∷ 0 ∷ 657 ∷ 1 ∷ 26 ∷ 36 ∷ 37 ∷ 39 ∷ 700 ∷ 660 ∷ 0 ∷ 801 ∷ 1 ∷ 23 ∷ 28 ∷ 40 ∷ 0 ∷
    710 ∷ 649 ∷ 0 ∷ 801 ∷ 1 ∷ 27 ∷ 18 ∷ 19 ∷ 41 ∷ 719 ∷ 636 ∷ 0 ∷ 801 ∷ 1 ∷ 29 ∷ 14 ∷ 42 ∷ 0 ∷ 722 ∷
    631 ∷ 0 ∷ 801 ∷ 1 ∷ 28 ∷ 14 ∷ 15 ∷ 43 ∷ 722 ∷ 626 ∷ 0 ∷ 801 ∷ 1 ∷ 20 ∷ 44 ∷ 0 ∷ 0 ∷ 725 ∷ 623 ∷ 0 ∷
    0 ∷ 0 ∷ 11 ∷ 11 ∷ 0 ∷ 0 ∷ 725 ∷ 627 ∷ 623 ∷ 0 ∷ 0 ∷ 2 ∷ 12 ∷ 0 ∷ 0 ∷ 749 ∷ 0 ∷ 0 ∷ 0 ∷ 0 ∷ 6 ∷
    47 ∷ 0 ∷ 0 ∷ 749 ∷ 0 ∷ 623 ∷ 0 ∷ 0 ∷ 2 ∷ 48 ∷ 0 ∷ 0 ∷ 746 ∷ 0 ∷ 0 ∷ 0 ∷ 0 ∷ 11 ∷ 49 ∷ 0 ∷ 0 ∷
    746 ∷ 682 ∷ 623 ∷ 0 ∷ 0 ∷ 3 ∷ 49 ∷ 0 ∷ 0 ∷ 746 ∷ 0 ∷ 0 ∷ 0 ∷ 0 ∷ 11 ∷ 49 ∷ 0 ∷ 0 ∷ 746 ∷ 635 ∷
    623 ∷ 0 ∷ 0 ∷ 4 ∷ 51 ∷ 52 ∷ 0 ∷ 746 ∷ 0 ∷ 0 ∷ 634 ∷ 1 ∷ 10 ∷ 53 ∷ 0 ∷ 0 ∷ 746 ∷ 0 ∷ 741 ∷ 0 ∷ 0 ∷
    2 ∷ 54 ∷ 0 ∷ 0 ∷ 739 ∷ 0 ∷ 0 ∷ 0 ∷ 0 ∷ 11 ∷ 55 ∷ 0 ∷ 0 ∷ 739 ∷ 627 ∷ 623 ∷ 0 ∷ 0 ∷ 11 ∷ 55 ∷ 0 ∷
    0 ∷ 739 ∷ 625 ∷ 727 ∷ 0 ∷ 0 ∷ 11 ∷ 55 ∷ 0 ∷ 0 ∷ 739 ∷ 635 ∷ 623 ∷ 0 ∷ 0 ∷ 11 ∷ 55 ∷ 0 ∷ 0 ∷ 739 ∷
    695 ∷ 741 ∷ 0 ∷ 0 ∷ 12 ∷ 58 ∷ 59 ∷ 0 ∷ 739 ∷ 692 ∷ 642 ∷ 0 ∷ 0 ∷ 13 ∷ 60 ∷ 57 ∷ 0 ∷ 739 ∷ 691 ∷
    623 ∷ 0 ∷ 0 ∷ 16 ∷ 55 ∷ 0 ∷ 0 ∷ 739 ∷ 644 ∷ 0 ∷ 0 ∷ 0 ∷ 28 ∷ 56 ∷ 61 ∷ 62 ∷ 739 ∷ 688 ∷ 0 ∷ 0 ∷
    0 ∷ 25 ∷ 50 ∷ 63 ∷ 0 ∷ 746 ∷ 680 ∷ 0 ∷ 634 ∷ 1 ∷ 17 ∷ 64 ∷ 0 ∷ 0 ∷ 746 ∷ 677 ∷ 0 ∷ 0 ∷ 0 ∷ 20 ∷
    65 ∷ 0 ∷ 0 ∷ 749 ∷ 674 ∷ 0 ∷ 0 ∷ 0 ∷ 29 ∷ 46 ∷ 66 ∷ 0 ∷ 725 ∷ 669 ∷ 0 ∷ 0 ∷ 0 ∷ 19 ∷ 45 ∷ 67 ∷
    0 ∷ 725 ∷ 622 ∷ 0 ∷ 0 ∷ 0 ∷ 4 ∷ 1 ∷ 3 ∷ 1 ∷ 2 ∷ 1 ∷ 1 ∷ 1 ∷ 3 ∷ 3 ∷ 4 ∷ 1 ∷ 1 ∷ 1 ∷ 8 ∷ 9 ∷
    1 ∷ 4 ∷ 1 ∷ 2 ∷ 2 ∷ 1 ∷ 5 ∷ 1 ∷ 1 ∷ 4 ∷ 0 ∷ 6 ∷ 6 ∷ 5 ∷ 1 ∷ 9 ∷ 1 ∷ 5 ∷ 1 ∷ 1 ∷ 1 ∷ 6 ∷ 12 ∷
    1 ∷ 3 ∷ 1 ∷ 5 ∷ 10 ∷ 1 ∷ 6 ∷ 5 ∷ 3 ∷ 10 ∷ 1 ∷ 1 ∷ 1 ∷ 1 ∷ 8 ∷ 1 ∷ 9 ∷ 1 ∷ 8 ∷ 11 ∷ 7 ∷ 1 ∷
    10 ∷ 1 ∷ 1 ∷ 1 ∷ 8 ∷ 2 ∷ 1 ∷ 1 ∷ 3 ∷ 2 ∷ 1 ∷ 8 ∷ 1 ∷ 7 ∷ 1 ∷ 2 ∷ 5 ∷ 2 ∷ 5 ∷ 5 ∷ 1 ∷ 1 ∷ 1 ∷
    6 ∷ 2 ∷ 6 ∷ 1 ∷ 2 ∷ 9 ∷ 2 ∷ 1 ∷ 5 ∷ 1 ∷ 1 ∷ 4 ∷ 0 ∷ 2 ∷ 4 ∷ 1 ∷ 2 ∷ 3 ∷ 1 ∷ 2 ∷ 2 ∷ 4 ∷ 2 ∷
    1 ∷ 5 ∷ 1 ∷ 1 ∷ 4 ∷ 0 ∷ 2 ∷ 1 ∷ 1 ∷ 1 ∷ 2 ∷ 7 ∷ 5 ∷ 1 ∷ 1 ∷ 1 ∷ 8 ∷ 2 ∷ 8 ∷ 1 ∷ 2 ∷ 10 ∷ 1 ∷
    2 ∷ 2 ∷ 4 ∷ 2 ∷ 1 ∷ 5 ∷ 1 ∷ 1 ∷ 4 ∷ 0 ∷ 2 ∷ 1 ∷ 1 ∷ 1 ∷ 2 ∷ 101 ∷ 1 ∷ 2 ∷ 4 ∷ 1 ∷ 2 ∷ 3 ∷ 1 ∷
    2 ∷ 2 ∷ 4 ∷ 2 ∷ 1 ∷ 5 ∷ 1 ∷ 1 ∷ 4 ∷ 0 ∷ 2 ∷ 1 ∷ 1 ∷ 1 ∷ 2 ∷ 101 ∷ 1 ∷ 2 ∷ 1 ∷ 1 ∷ 1 ∷ 5 ∷ 1 ∷
    1 ∷ 1 ∷ 101 ∷ 2 ∷ 1 ∷ 3 ∷ []

-- l : Un, net : Un. new k : Un; new k : symkey(nonce [end l]); out net k; inp net z : Un; decrypt z (k) to m : nonce [end l]; new n : Un;
-- check n = m; end l; STOP: no begin, and the key is sent
unfoldable pub shadowed_asked : List ℕ
shadowed_asked =
    2 ∷ 0 ∷ 1 ∷ 2 ∷ 1 ∷ 1 ∷ 1 ∷ 1 ∷ 2 ∷ 1 ∷ 1 ∷ 2 ∷ 4 ∷ 5 ∷ 1 ∷ 1 ∷ 1 ∷ 0 ∷ 2 ∷ 1 ∷ 1 ∷ 1 ∷ 2 ∷
    3 ∷ 4 ∷ 1 ∷ 1 ∷ 1 ∷ 8 ∷ 5 ∷ 1 ∷ 4 ∷ 1 ∷ 2 ∷ 5 ∷ 1 ∷ 1 ∷ 1 ∷ 0 ∷ 1 ∷ 3 ∷ 1 ∷ 12 ∷ 1 ∷ 3 ∷ 1 ∷
    5 ∷ 10 ∷ 1 ∷ 0 ∷ 5 ∷ []

-- its derivation, in which `out` types k by its older entry
unfoldable pub shadowed : List ℕ
shadowed =
    37 ∷ 1 ∷ 0 ∷ 0 ∷ 0 ∷ 334 ∷ 0 ∷ 0 ∷ 0 ∷ 0 ∷ 6 ∷ 0 ∷ 0 ∷ 0 ∷ 334 ∷ 0 ∷ 334 ∷ 0 ∷ 0 ∷ 2 ∷ 1 ∷ 0 ∷
    0 ∷ 345 ∷ 0 ∷ 0 ∷ 0 ∷ 0 ∷ 6 ∷ 2 ∷ 0 ∷ 0 ∷ 345 ∷ 0 ∷ 334 ∷ 0 ∷ 0 ∷ 2 ∷ 3 ∷ 0 ∷ 0 ∷ 402 ∷ 0 ∷ 0 ∷
    0 ∷ 0 ∷ 6 ∷ 4 ∷ 0 ∷ 0 ∷ 402 ∷ 0 ∷ 334 ∷ 0 ∷ 0 ∷ 2 ∷ 5 ∷ 0 ∷ 0 ∷ 399 ∷ 0 ∷ 0 ∷ 0 ∷ 0 ∷ 3 ∷ 6 ∷
    0 ∷ 0 ∷ 399 ∷ 0 ∷ 0 ∷ 0 ∷ 0 ∷ 11 ∷ 6 ∷ 0 ∷ 0 ∷ 399 ∷ 343 ∷ 334 ∷ 0 ∷ 0 ∷ 4 ∷ 7 ∷ 8 ∷ 0 ∷ 399 ∷
    0 ∷ 0 ∷ 342 ∷ 1 ∷ 10 ∷ 9 ∷ 0 ∷ 0 ∷ 399 ∷ 0 ∷ 340 ∷ 0 ∷ 0 ∷ 9 ∷ 10 ∷ 0 ∷ 0 ∷ 399 ∷ 0 ∷ 339 ∷ 0 ∷
    0 ∷ 2 ∷ 11 ∷ 0 ∷ 0 ∷ 391 ∷ 0 ∷ 0 ∷ 0 ∷ 0 ∷ 11 ∷ 12 ∷ 0 ∷ 0 ∷ 391 ∷ 336 ∷ 334 ∷ 0 ∷ 0 ∷ 11 ∷ 12 ∷
    0 ∷ 0 ∷ 391 ∷ 334 ∷ 334 ∷ 0 ∷ 0 ∷ 6 ∷ 12 ∷ 0 ∷ 0 ∷ 391 ∷ 0 ∷ 334 ∷ 0 ∷ 0 ∷ 2 ∷ 15 ∷ 0 ∷ 0 ∷ 388 ∷
    0 ∷ 0 ∷ 0 ∷ 0 ∷ 11 ∷ 16 ∷ 0 ∷ 0 ∷ 388 ∷ 357 ∷ 334 ∷ 0 ∷ 0 ∷ 11 ∷ 16 ∷ 0 ∷ 0 ∷ 388 ∷ 334 ∷ 339 ∷
    0 ∷ 0 ∷ 3 ∷ 16 ∷ 0 ∷ 0 ∷ 388 ∷ 0 ∷ 0 ∷ 0 ∷ 0 ∷ 11 ∷ 16 ∷ 0 ∷ 0 ∷ 388 ∷ 343 ∷ 334 ∷ 0 ∷ 0 ∷ 4 ∷
    19 ∷ 20 ∷ 0 ∷ 388 ∷ 0 ∷ 0 ∷ 342 ∷ 1 ∷ 10 ∷ 21 ∷ 0 ∷ 0 ∷ 388 ∷ 0 ∷ 340 ∷ 0 ∷ 0 ∷ 2 ∷ 22 ∷ 0 ∷ 0 ∷
    381 ∷ 0 ∷ 0 ∷ 0 ∷ 0 ∷ 6 ∷ 23 ∷ 0 ∷ 0 ∷ 381 ∷ 0 ∷ 334 ∷ 0 ∷ 0 ∷ 2 ∷ 24 ∷ 0 ∷ 0 ∷ 378 ∷ 0 ∷ 0 ∷
    0 ∷ 0 ∷ 11 ∷ 25 ∷ 0 ∷ 0 ∷ 378 ∷ 366 ∷ 334 ∷ 0 ∷ 0 ∷ 11 ∷ 25 ∷ 0 ∷ 0 ∷ 378 ∷ 372 ∷ 340 ∷ 0 ∷ 0 ∷
    16 ∷ 25 ∷ 0 ∷ 0 ∷ 378 ∷ 340 ∷ 0 ∷ 0 ∷ 0 ∷ 18 ∷ 28 ∷ 0 ∷ 0 ∷ 378 ∷ 374 ∷ 0 ∷ 342 ∷ 1 ∷ 26 ∷ 26 ∷
    27 ∷ 29 ∷ 378 ∷ 369 ∷ 0 ∷ 409 ∷ 1 ∷ 20 ∷ 30 ∷ 0 ∷ 0 ∷ 381 ∷ 366 ∷ 0 ∷ 0 ∷ 0 ∷ 27 ∷ 17 ∷ 18 ∷ 31 ∷
    388 ∷ 355 ∷ 0 ∷ 0 ∷ 0 ∷ 29 ∷ 13 ∷ 32 ∷ 0 ∷ 391 ∷ 350 ∷ 0 ∷ 0 ∷ 0 ∷ 28 ∷ 13 ∷ 14 ∷ 33 ∷ 391 ∷ 345 ∷
    0 ∷ 0 ∷ 0 ∷ 20 ∷ 34 ∷ 0 ∷ 0 ∷ 399 ∷ 337 ∷ 0 ∷ 0 ∷ 0 ∷ 20 ∷ 35 ∷ 0 ∷ 0 ∷ 402 ∷ 334 ∷ 0 ∷ 0 ∷ 0 ∷
    1 ∷ 2 ∷ 1 ∷ 1 ∷ 2 ∷ 4 ∷ 5 ∷ 1 ∷ 1 ∷ 1 ∷ 0 ∷ 2 ∷ 1 ∷ 1 ∷ 1 ∷ 2 ∷ 3 ∷ 4 ∷ 1 ∷ 1 ∷ 1 ∷ 8 ∷ 5 ∷
    1 ∷ 4 ∷ 1 ∷ 2 ∷ 5 ∷ 1 ∷ 1 ∷ 1 ∷ 0 ∷ 1 ∷ 3 ∷ 1 ∷ 12 ∷ 1 ∷ 3 ∷ 1 ∷ 5 ∷ 10 ∷ 1 ∷ 0 ∷ 5 ∷ 2 ∷ 3 ∷
    1 ∷ 2 ∷ 5 ∷ 5 ∷ 1 ∷ 1 ∷ 1 ∷ 0 ∷ 2 ∷ 4 ∷ 1 ∷ 2 ∷ 2 ∷ 4 ∷ 5 ∷ 1 ∷ 1 ∷ 1 ∷ 0 ∷ 2 ∷ 2 ∷ 1 ∷ 2 ∷
    0 ∷ 1 ∷ 2 ∷ 1 ∷ 1 ∷ 1 ∷ 2 ∷ 1 ∷ 3 ∷ []

-- a nonce that is checked twice
unfoldable pub twice_asked : List ℕ
twice_asked =
    2 ∷ 1 ∷ 3 ∷ 5 ∷ 1 ∷ 1 ∷ 1 ∷ 0 ∷ 2 ∷ 0 ∷ 1 ∷ 1 ∷ 1 ∷ 3 ∷ 1 ∷ 3 ∷ 5 ∷ 1 ∷ 1 ∷ 5 ∷ 1 ∷ 1 ∷ 1 ∷
    0 ∷ 12 ∷ 1 ∷ 3 ∷ 1 ∷ 5 ∷ 12 ∷ 1 ∷ 3 ∷ 1 ∷ 5 ∷ 10 ∷ 1 ∷ 0 ∷ 10 ∷ 1 ∷ 0 ∷ 5 ∷ []

-- its derivation, but for its last line: check n is left
unfoldable pub twice : List ℕ
twice =
    26 ∷ 1 ∷ 0 ∷ 0 ∷ 0 ∷ 235 ∷ 0 ∷ 0 ∷ 0 ∷ 0 ∷ 6 ∷ 0 ∷ 0 ∷ 0 ∷ 235 ∷ 0 ∷ 235 ∷ 0 ∷ 0 ∷ 2 ∷ 1 ∷ 0 ∷
    0 ∷ 282 ∷ 0 ∷ 0 ∷ 0 ∷ 0 ∷ 3 ∷ 2 ∷ 0 ∷ 0 ∷ 282 ∷ 0 ∷ 0 ∷ 0 ∷ 0 ∷ 11 ∷ 2 ∷ 0 ∷ 0 ∷ 282 ∷ 245 ∷
    235 ∷ 0 ∷ 0 ∷ 4 ∷ 3 ∷ 4 ∷ 0 ∷ 282 ∷ 0 ∷ 0 ∷ 244 ∷ 1 ∷ 10 ∷ 5 ∷ 0 ∷ 0 ∷ 282 ∷ 0 ∷ 242 ∷ 0 ∷ 0 ∷
    8 ∷ 6 ∷ 0 ∷ 0 ∷ 282 ∷ 0 ∷ 276 ∷ 0 ∷ 0 ∷ 2 ∷ 7 ∷ 0 ∷ 0 ∷ 274 ∷ 0 ∷ 0 ∷ 0 ∷ 0 ∷ 6 ∷ 8 ∷ 0 ∷ 0 ∷
    274 ∷ 0 ∷ 235 ∷ 0 ∷ 0 ∷ 2 ∷ 9 ∷ 0 ∷ 0 ∷ 271 ∷ 0 ∷ 0 ∷ 0 ∷ 0 ∷ 11 ∷ 10 ∷ 0 ∷ 0 ∷ 271 ∷ 240 ∷ 276 ∷
    0 ∷ 0 ∷ 3 ∷ 10 ∷ 0 ∷ 0 ∷ 271 ∷ 0 ∷ 0 ∷ 0 ∷ 0 ∷ 11 ∷ 10 ∷ 0 ∷ 0 ∷ 271 ∷ 245 ∷ 235 ∷ 0 ∷ 0 ∷ 4 ∷
    12 ∷ 13 ∷ 0 ∷ 271 ∷ 0 ∷ 0 ∷ 244 ∷ 1 ∷ 10 ∷ 14 ∷ 0 ∷ 0 ∷ 271 ∷ 0 ∷ 242 ∷ 0 ∷ 0 ∷ 2 ∷ 15 ∷ 0 ∷ 0 ∷
    264 ∷ 0 ∷ 0 ∷ 0 ∷ 0 ∷ 11 ∷ 16 ∷ 0 ∷ 0 ∷ 264 ∷ 235 ∷ 235 ∷ 0 ∷ 0 ∷ 11 ∷ 16 ∷ 0 ∷ 0 ∷ 264 ∷ 241 ∷
    242 ∷ 0 ∷ 0 ∷ 16 ∷ 16 ∷ 0 ∷ 0 ∷ 264 ∷ 239 ∷ 0 ∷ 0 ∷ 0 ∷ 18 ∷ 19 ∷ 0 ∷ 0 ∷ 264 ∷ 260 ∷ 0 ∷ 244 ∷
    1 ∷ 18 ∷ 20 ∷ 0 ∷ 0 ∷ 264 ∷ 257 ∷ 0 ∷ 286 ∷ 2 ∷ 26 ∷ 17 ∷ 18 ∷ 21 ∷ 264 ∷ 252 ∷ 0 ∷ 292 ∷ 2 ∷ 26 ∷
    17 ∷ 18 ∷ 22 ∷ 264 ∷ 247 ∷ 0 ∷ 295 ∷ 2 ∷ 22 ∷ 11 ∷ 23 ∷ 0 ∷ 271 ∷ 238 ∷ 0 ∷ 295 ∷ 2 ∷ 20 ∷ 24 ∷ 0 ∷
    0 ∷ 274 ∷ 235 ∷ 0 ∷ 274 ∷ 1 ∷ 1 ∷ 3 ∷ 1 ∷ 3 ∷ 5 ∷ 1 ∷ 1 ∷ 5 ∷ 1 ∷ 1 ∷ 1 ∷ 0 ∷ 12 ∷ 1 ∷ 3 ∷ 1 ∷
    5 ∷ 12 ∷ 1 ∷ 3 ∷ 1 ∷ 5 ∷ 10 ∷ 1 ∷ 0 ∷ 10 ∷ 1 ∷ 0 ∷ 5 ∷ 2 ∷ 5 ∷ 5 ∷ 1 ∷ 1 ∷ 1 ∷ 0 ∷ 2 ∷ 3 ∷
    1 ∷ 2 ∷ 1 ∷ 3 ∷ 5 ∷ 1 ∷ 1 ∷ 1 ∷ 0 ∷ 2 ∷ 0 ∷ 1 ∷ 1 ∷ 1 ∷ 1 ∷ 0 ∷ 1 ∷ 1 ∷ 0 ∷ 1 ∷ 1 ∷ 0 ∷ 2 ∷
    1 ∷ 3 ∷ 2 ∷ 1 ∷ 3 ∷ 2 ∷ 1 ∷ 3 ∷ []

-- a message under a shared key with no nonce: it can be replayed
unfoldable pub replay_asked : List ℕ
replay_asked =
    2 ∷ 2 ∷ 4 ∷ 1 ∷ 2 ∷ 0 ∷ 1 ∷ 2 ∷ 1 ∷ 1 ∷ 1 ∷ 3 ∷ 4 ∷ 1 ∷ 1 ∷ 1 ∷ 8 ∷ 5 ∷ 1 ∷ 4 ∷ 1 ∷ 2 ∷ 1 ∷
    10 ∷ 1 ∷ 0 ∷ 5 ∷ []

-- its derivation: end a is left
unfoldable pub replay : List ℕ
replay =
    19 ∷ 1 ∷ 0 ∷ 0 ∷ 0 ∷ 174 ∷ 0 ∷ 0 ∷ 0 ∷ 0 ∷ 6 ∷ 0 ∷ 0 ∷ 0 ∷ 174 ∷ 0 ∷ 174 ∷ 0 ∷ 0 ∷ 2 ∷ 1 ∷ 0 ∷
    0 ∷ 185 ∷ 0 ∷ 0 ∷ 0 ∷ 0 ∷ 6 ∷ 2 ∷ 0 ∷ 0 ∷ 185 ∷ 0 ∷ 174 ∷ 0 ∷ 0 ∷ 2 ∷ 3 ∷ 0 ∷ 0 ∷ 182 ∷ 0 ∷ 0 ∷
    0 ∷ 0 ∷ 6 ∷ 4 ∷ 0 ∷ 0 ∷ 182 ∷ 0 ∷ 174 ∷ 0 ∷ 0 ∷ 9 ∷ 5 ∷ 0 ∷ 0 ∷ 182 ∷ 0 ∷ 176 ∷ 0 ∷ 0 ∷ 2 ∷ 6 ∷
    0 ∷ 0 ∷ 178 ∷ 0 ∷ 0 ∷ 0 ∷ 0 ∷ 11 ∷ 7 ∷ 0 ∷ 0 ∷ 178 ∷ 186 ∷ 174 ∷ 0 ∷ 0 ∷ 6 ∷ 7 ∷ 0 ∷ 0 ∷ 178 ∷
    0 ∷ 174 ∷ 0 ∷ 0 ∷ 2 ∷ 9 ∷ 0 ∷ 0 ∷ 175 ∷ 0 ∷ 0 ∷ 0 ∷ 0 ∷ 11 ∷ 10 ∷ 0 ∷ 0 ∷ 175 ∷ 196 ∷ 174 ∷ 0 ∷
    0 ∷ 11 ∷ 10 ∷ 0 ∷ 0 ∷ 175 ∷ 174 ∷ 176 ∷ 0 ∷ 0 ∷ 6 ∷ 10 ∷ 0 ∷ 0 ∷ 175 ∷ 0 ∷ 174 ∷ 0 ∷ 0 ∷ 2 ∷ 13 ∷
    0 ∷ 0 ∷ 172 ∷ 0 ∷ 0 ∷ 0 ∷ 0 ∷ 16 ∷ 14 ∷ 0 ∷ 0 ∷ 172 ∷ 173 ∷ 0 ∷ 0 ∷ 0 ∷ 18 ∷ 15 ∷ 0 ∷ 0 ∷ 172 ∷
    201 ∷ 0 ∷ 205 ∷ 1 ∷ 27 ∷ 11 ∷ 12 ∷ 16 ∷ 175 ∷ 194 ∷ 0 ∷ 205 ∷ 1 ∷ 29 ∷ 8 ∷ 17 ∷ 0 ∷ 178 ∷ 189 ∷ 0 ∷
    205 ∷ 1 ∷ 2 ∷ 5 ∷ 1 ∷ 2 ∷ 4 ∷ 1 ∷ 2 ∷ 2 ∷ 4 ∷ 1 ∷ 2 ∷ 0 ∷ 1 ∷ 2 ∷ 1 ∷ 1 ∷ 1 ∷ 3 ∷ 4 ∷ 1 ∷ 1 ∷
    1 ∷ 8 ∷ 5 ∷ 1 ∷ 4 ∷ 1 ∷ 2 ∷ 1 ∷ 10 ∷ 1 ∷ 0 ∷ 5 ∷ 1 ∷ 1 ∷ 0 ∷ []

pub record Trial : Type 0 where
  pub asks : List ℕ
  pub words : List ℕ
  pub wanted : Verdict

abbrev pub trial : List ℕ → List ℕ → Verdict → Trial
trial a w v = record { asks = a; words = w; wanted = v }

unfoldable pub trials : List Trial
trials =
    -- all lines pass, and the last gives what is asked
    trial labels_asked labels Verdict.safe
    ∷  -- the order of effects is no matter
    trial labels_asked permuted Verdict.safe
    ∷  -- a handshake
    trial handshake_asked handshake Verdict.safe
    ∷  -- with a dependent pair
    trial dependent_asked dependent Verdict.safe
    ∷  -- a key that is sent by the type of an older entry
    trial shadowed_asked shadowed Verdict.safe
    ∷  -- a nonce that is checked twice: `new` leaves check n
    trial twice_asked twice (Verdict.bad 25)
    ∷  -- a replay: all lines pass, and an effect is left
    trial replay_asked replay Verdict.another
    ∷  -- another process is asked for
    trial handshake_asked labels Verdict.another
    ∷  -- words behind what is asked
    trial (labels_asked ++ 5 ∷ []) labels Verdict.another
    ∷  -- nothing is asked
    trial [] labels Verdict.another
    ∷  -- no words at all
    trial labels_asked [] Verdict.another
    ∷  -- a later line as a premise
    trial labels_asked (set labels 29 4) (Verdict.bad 3)
    ∷  -- the line itself
    trial labels_asked (set labels 29 3) (Verdict.bad 3)
    ∷  -- an effect that is not there
    trial labels_asked (set labels 45 2) (Verdict.bad 4)
    ∷  -- a rule that is none
    trial labels_asked (set labels 46 33) (Verdict.bad 5)
    ∷  -- one line more than there are
    trial labels_asked (set labels 0 7) (Verdict.bad 6)
    ∷  -- cut words
    trial labels_asked (take 60 labels) (Verdict.bad 1)
    ∷  -- 64 effects are looked for, and not found
    trial labels_asked (set labels 27 64) (Verdict.bad 2)
    ∷  -- 65 are too many
    trial labels_asked (set labels 27 65) (Verdict.refused 65)
    ∷  -- of two such lines the smaller counts, and any other error is behind
    trial labels_asked (set (set (set labels 1 0) 18 70) 27 65) (Verdict.refused 70)
    ∷  -- 1,024 lines are read
    trial labels_asked (set labels 0 1024) (Verdict.bad 6)
    ∷  -- 1,025 are too many, before any line
    trial labels_asked (set (set labels 0 1025) 27 65) (Verdict.refused 1025)
    ∷ []

-- what the definitions say of each
unfoldable pub computed : List Trial → List Verdict
unfolding ℕ_discrete pick choose then first first_from any same_term same_effect closed occurs about mentions at_name at_bound change_term change_effect term_words effect_words up_to insert plus bag remove minus same_list same_effects same_type change_type generatable same_entry same_environment same_process same_judgement same_judgements left right name_of second promised entry_name entry_type newest older parts_of environment_of term_of type_of effects_of process_of first_premise rest printed stands asks follows ahead joined altered after terms only term effect_of effects with_effects types type_at entries environment_at with_term with_type processes process_at rules nth rule_of lines line_word effect_count read judgement given earlier premises_from by_rule holds passes whole asked agree answers crowded fails verdict
computed [] = []
computed (t ∷ ts) = verdict t.asks t.words ∷ computed ts

unfoldable pub expected : List Trial → List Verdict
expected [] = []
expected (t ∷ ts) = t.wanted ∷ expected ts

pub trials-hold : computed trials ≡ expected trials
unfolding computed expected trials labels_asked labels permuted handshake_asked handshake dependent_asked dependent shadowed_asked shadowed twice_asked twice replay_asked replay
trials-hold = refl

-- ---- bound names: kept apart in the handshakes, and not where k is bound twice
unfoldable pub aparts : List (List ℕ) → List Bool
unfolding then whole holds ahead joined altered after terms only term effect_of effects with_effects types type_at entries environment_at with_term with_type processes process_at pick bag plus insert up_to effect_words term_words binders names among clear keeps_apart
aparts [] = []
aparts (a ∷ l) = keeps_apart a ∷ aparts l

pub aparts-hold : aparts (labels_asked ∷ handshake_asked ∷ dependent_asked ∷ shadowed_asked ∷ [] ∷ []) ≡ true ∷ true ∷ true ∷ false ∷ false
    ∷ []
unfolding aparts labels_asked handshake_asked dependent_asked shadowed_asked
aparts-hold = refl
