-- The P trials of document 01, 'Trials at the edges': one statement over one table, computed from the definitions. A trial is the
-- book's words and the lent words, 9s; and what is answered and lent afterwards. Smaller tables stand behind it.
use Rattle.std.specs.Prelude.{ℕ, List, [], ◌∷◌, ◌≡◌, refl, replicate}
use Rattle.std.proofs.Math.Decide.{ℕ_discrete}
use Rattle.words.specs.Choice.{pick, choose}
use Rattle.words.specs.First.{first, first_from, any}
use Rattle.words.specs.Run.{run, values, same_words}
use Rattle.words.specs.Sum.{sum}
use Rattle.terms.specs.Term.{same, count, listed, gathered, partner, size, occurs}
use Rattle.terms.specs.Image.{words, count_images}
use Rattle.terms.specs.Table.{level, unfold_by, form, term, terms, total, row_size, number}
use Rattle.book.specs.Layout.{offset, table}
use Rattle.book.specs.Rules.{one_of, outside, differs, count_breaks, stated, offset_breaks, list_breaks, row_breaks, size_breaks, alike, repeats, name_breaks, party_breaks, step_breaks, total_breaks}
use Rattle.book.specs.Said.{said}
use Rattle.book.specs.Refusals.{applies, gives, first_of, reading_table}
use Rattle.translation.specs.Dictionary.{enter, start, buildable, image_or, image}
use Rattle.translation.specs.Build.{built_or, build}
use Rattle.translation.specs.Receive.{can_open, rule, by_rule, receive}
use Rattle.translation.specs.Program.{acts_of, act, walk, walked, program}
use Rattle.translation.specs.Narration.{step_at, narration, known_to, may_make, program_of}
use Rattle.translation.specs.Taken.{joined, all_messages, claimed, occurs_in_one, taken, step_of, holds_before, made_at, sender_makes, unmakeable, stops_at, unplayable, stop_row, stop_number}
use Rattle.translation.specs.Listing.{triple_words, event_words, program_words, heads, bodies, framed, part_words, listing}
use Rattle.translation.specs.Outcome.{Outcome, stop_line, room_line, translation_says, outcome}

pub record Trial : Type 0 where
  pub book : List ℕ
  pub lent : List ℕ
  pub wanted : Outcome

abbrev pub trial : List ℕ → List ℕ → ℕ → List ℕ → List ℕ → Trial
trial b old n vs new = record { book = b; lent = old; wanted = record { says = said n vs; lent = new } }

unfoldable pub trials : List Trial
trials =
    -- the smallest book
    trial (1 ∷ 8 ∷ 1 ∷ 12 ∷ 0 ∷ 16 ∷ 0 ∷ 16 ∷ 0 ∷ 0 ∷ 0 ∷ 0 ∷ 0 ∷ 0 ∷ 0 ∷ 1 ∷ [])
    (replicate 6 9) 0 (5 ∷ [])
    (1 ∷ 3 ∷ 2 ∷ 6 ∷ 0 ∷ replicate 1 9)
    ∷  -- a buffer of 4 words keeps its old words
    trial (1 ∷ 8 ∷ 1 ∷ 12 ∷ 0 ∷ 16 ∷ 0 ∷ 16 ∷ 0 ∷ 0 ∷ 0 ∷ 0 ∷ 0 ∷ 0 ∷ 0 ∷ 1 ∷ [])
    (replicate 4 9) 12 (5 ∷ [])
    (replicate 4 9)
    ∷  -- example 1 of source 000, whole
    trial (5 ∷ 8 ∷ 2 ∷ 28 ∷ 2 ∷ 36 ∷ 11 ∷ 44 ∷ 0 ∷ 0 ∷ 0 ∷ 0 ∷ 0 ∷ 0 ∷ 0 ∷ 0 ∷ 0 ∷ 0 ∷ 0 ∷ 0 ∷ 0 ∷ 0 ∷ 0
    ∷ 0 ∷ 2 ∷ 0 ∷ 0 ∷ 3 ∷ 0 ∷ 3 ∷ 3 ∷ 1 ∷ 1 ∷ 6 ∷ 3 ∷ 1 ∷ 1 ∷ 0 ∷ 9 ∷ 1 ∷ 0 ∷ 1 ∷ 10 ∷ 1 ∷ 2 ∷ 3 ∷ 1 ∷ 0
    ∷ 1 ∷ 2 ∷ 0 ∷ 1 ∷ 2 ∷ 3 ∷ 4 ∷ [])
    (replicate 54 9) 0 (52 ∷ [])
    (2 ∷ 5 ∷ 20 ∷ 25 ∷ 27 ∷ 3 ∷ 0 ∷ 0 ∷ 1 ∷ 2 ∷ 1 ∷ 1 ∷ 3 ∷ 2 ∷ 0 ∷ 2 ∷ 1 ∷ 0 ∷ 0 ∷ 1 ∷ 6 ∷ 1 ∷ 3 ∷ 0 ∷ 0
    ∷ 1 ∷ 3 ∷ 2 ∷ 0 ∷ 1 ∷ 0 ∷ 3 ∷ 3 ∷ 1 ∷ 0 ∷ 1 ∷ 5 ∷ 0 ∷ 1 ∷ 2 ∷ 0 ∷ 2 ∷ 4 ∷ 1 ∷ 0 ∷ 3 ∷ 4 ∷ 2 ∷ 0 ∷ 1 ∷ 6
    ∷ 0 ∷ replicate 2 9)
    ∷  -- A sends B a cipher of a fresh N under a key B lacks, then B sends N
    trial (5 ∷ 8 ∷ 2 ∷ 28 ∷ 2 ∷ 36 ∷ 9 ∷ 44 ∷ 0 ∷ 0 ∷ 0 ∷ 0 ∷ 0 ∷ 0 ∷ 0 ∷ 0 ∷ 0 ∷ 0 ∷ 0 ∷ 0 ∷ 0 ∷ 0 ∷ 0
    ∷ 0 ∷ 2 ∷ 0 ∷ 0 ∷ 2 ∷ 0 ∷ 2 ∷ 3 ∷ 1 ∷ 1 ∷ 5 ∷ 2 ∷ 1 ∷ 0 ∷ 1 ∷ 7 ∷ 1 ∷ 1 ∷ 0 ∷ 8 ∷ 1 ∷ 2 ∷ 3 ∷ 0 ∷ 1
    ∷ 2 ∷ 0 ∷ 1 ∷ 4 ∷ 3 ∷ [])
    (replicate 3 9) 10 (1 ∷ 3 ∷ [])
    (replicate 3 9)
    ∷  -- A sends the public half of a free K
    trial (4 ∷ 8 ∷ 2 ∷ 24 ∷ 1 ∷ 32 ∷ 6 ∷ 36 ∷ 0 ∷ 0 ∷ 0 ∷ 0 ∷ 0 ∷ 0 ∷ 0 ∷ 0 ∷ 0 ∷ 0 ∷ 0 ∷ 0 ∷ 3 ∷ 0 ∷ 0
    ∷ 1 ∷ 0 ∷ 1 ∷ 2 ∷ 1 ∷ 1 ∷ 3 ∷ 2 ∷ 1 ∷ 0 ∷ 1 ∷ 5 ∷ 1 ∷ 2 ∷ 0 ∷ 1 ∷ 0 ∷ 1 ∷ 3 ∷ [])
    (replicate 24 9) 0 (24 ∷ [])
    (2 ∷ 5 ∷ 10 ∷ 15 ∷ 9 ∷ 1 ∷ 2 ∷ 2 ∷ 0 ∷ 1 ∷ 4 ∷ 0 ∷ 2 ∷ 6 ∷ 0 ∷ 3 ∷ 0 ∷ 0 ∷ 1 ∷ 6 ∷ 1 ∷ 3 ∷ 0 ∷ 0 ∷ replicate 0 9)
    ∷  -- A holds K, and receives a cipher of an unknown N under K+, with no row for K-
    trial (6 ∷ 8 ∷ 2 ∷ 32 ∷ 1 ∷ 40 ∷ 10 ∷ 44 ∷ 0 ∷ 0 ∷ 0 ∷ 0 ∷ 0 ∷ 0 ∷ 0 ∷ 0 ∷ 0 ∷ 0 ∷ 0 ∷ 0 ∷ 0 ∷ 0 ∷ 0
    ∷ 0 ∷ 3 ∷ 0 ∷ 0 ∷ 1 ∷ 2 ∷ 0 ∷ 1 ∷ 2 ∷ 0 ∷ 3 ∷ 3 ∷ 1 ∷ 1 ∷ 6 ∷ 3 ∷ 1 ∷ 1 ∷ 0 ∷ 9 ∷ 1 ∷ 2 ∷ 4 ∷ 3 ∷ 0
    ∷ 1 ∷ 2 ∷ 0 ∷ 1 ∷ 4 ∷ 5 ∷ [])
    (replicate 34 9) 0 (34 ∷ [])
    (2 ∷ 5 ∷ 16 ∷ 21 ∷ 13 ∷ 3 ∷ 0 ∷ 0 ∷ 1 ∷ 5 ∷ 0 ∷ 1 ∷ 1 ∷ 5 ∷ 0 ∷ 2 ∷ 6 ∷ 1 ∷ 3 ∷ 1 ∷ 0 ∷ 1 ∷ 3 ∷ 2 ∷ 0
    ∷ 1 ∷ 3 ∷ 1 ∷ 0 ∷ 4 ∷ 0 ∷ 3 ∷ 6 ∷ 0 ∷ replicate 0 9)
    ∷  -- the operation over an unknown N arrives and is sent on
    trial (4 ∷ 8 ∷ 2 ∷ 24 ∷ 2 ∷ 32 ∷ 7 ∷ 40 ∷ 0 ∷ 0 ∷ 0 ∷ 0 ∷ 0 ∷ 0 ∷ 0 ∷ 0 ∷ 0 ∷ 0 ∷ 0 ∷ 0 ∷ 1 ∷ 7 ∷ 0
    ∷ 1 ∷ 0 ∷ 1 ∷ 2 ∷ 1 ∷ 1 ∷ 3 ∷ 2 ∷ 1 ∷ 0 ∷ 1 ∷ 5 ∷ 1 ∷ 1 ∷ 0 ∷ 6 ∷ 1 ∷ 2 ∷ 0 ∷ 1 ∷ 0 ∷ 1 ∷ 3 ∷ 3 ∷ [])
    (replicate 42 9) 0 (42 ∷ [])
    (2 ∷ 5 ∷ 23 ∷ 28 ∷ 14 ∷ 1 ∷ 2 ∷ 2 ∷ 0 ∷ 1 ∷ 2 ∷ 7 ∷ 1 ∷ 0 ∷ 2 ∷ 3 ∷ 1 ∷ 0 ∷ 1 ∷ 4 ∷ 0 ∷ 2 ∷ 7 ∷ 1 ∷ 0
    ∷ 2 ∷ 6 ∷ 0 ∷ 3 ∷ 0 ∷ 0 ∷ 1 ∷ 2 ∷ 1 ∷ 1 ∷ 1 ∷ 0 ∷ 6 ∷ 1 ∷ 3 ∷ 0 ∷ 0 ∷ replicate 0 9)
    ∷  -- sending N itself
    trial (4 ∷ 8 ∷ 2 ∷ 24 ∷ 2 ∷ 32 ∷ 7 ∷ 40 ∷ 0 ∷ 0 ∷ 0 ∷ 0 ∷ 0 ∷ 0 ∷ 0 ∷ 0 ∷ 0 ∷ 0 ∷ 0 ∷ 0 ∷ 1 ∷ 7 ∷ 0
    ∷ 1 ∷ 0 ∷ 1 ∷ 2 ∷ 1 ∷ 1 ∷ 3 ∷ 2 ∷ 1 ∷ 0 ∷ 1 ∷ 5 ∷ 1 ∷ 1 ∷ 0 ∷ 6 ∷ 1 ∷ 2 ∷ 0 ∷ 1 ∷ 0 ∷ 1 ∷ 3 ∷ 2 ∷ [])
    (replicate 41 9) 10 (1 ∷ 2 ∷ [])
    (replicate 41 9)
    ∷  -- a step with no messages
    trial (2 ∷ 8 ∷ 2 ∷ 16 ∷ 1 ∷ 24 ∷ 0 ∷ 28 ∷ 0 ∷ 0 ∷ 0 ∷ 0 ∷ 0 ∷ 0 ∷ 0 ∷ 0 ∷ 0 ∷ 0 ∷ 0 ∷ 1 ∷ 1 ∷ 0 ∷ 0
    ∷ 1 ∷ 0 ∷ 1 ∷ 0 ∷ 0 ∷ [])
    (replicate 20 9) 0 (16 ∷ [])
    (2 ∷ 5 ∷ 5 ∷ 10 ∷ 6 ∷ 2 ∷ 0 ∷ 0 ∷ 6 ∷ 0 ∷ 3 ∷ 0 ∷ 0 ∷ 0 ∷ 6 ∷ 0 ∷ replicate 4 9)
    ∷  -- sender equal to receiver
    trial (2 ∷ 8 ∷ 2 ∷ 16 ∷ 1 ∷ 24 ∷ 0 ∷ 28 ∷ 0 ∷ 0 ∷ 0 ∷ 0 ∷ 0 ∷ 0 ∷ 0 ∷ 0 ∷ 0 ∷ 0 ∷ 0 ∷ 1 ∷ 1 ∷ 0 ∷ 0
    ∷ 1 ∷ 0 ∷ 0 ∷ 0 ∷ 0 ∷ [])
    (replicate 20 9) 8 (0 ∷ [])
    (replicate 20 9)
    ∷ []

-- what the definitions say of each
unfoldable pub computed : List Trial → List Outcome
unfolding ℕ_discrete pick choose first first_from any run values same_words sum same count listed gathered partner size occurs words count_images level unfold_by form term terms total row_size number offset table one_of outside differs count_breaks stated offset_breaks list_breaks row_breaks size_breaks alike repeats name_breaks party_breaks step_breaks total_breaks applies gives first_of reading_table enter start buildable image_or image built_or build can_open rule by_rule receive acts_of act walk walked program step_at narration known_to may_make program_of joined all_messages claimed occurs_in_one taken step_of holds_before made_at sender_makes unmakeable stops_at unplayable stop_row stop_number triple_words event_words program_words heads bodies framed part_words listing stop_line room_line translation_says outcome
computed [] = []
computed (t ∷ ts) = outcome t.book t.lent ∷ computed ts

unfoldable pub expected : List Trial → List Outcome
expected [] = []
expected (t ∷ ts) = t.wanted ∷ expected ts

pub trials-hold : computed trials ≡ expected trials
unfolding computed expected trials
trials-hold = refl

-- ---- "END .. all stored rows, in the order of storing": A opens the first message and stores its content at placeholder 2, then the
-- second message at placeholder 1
unfoldable pub storing : List Trial
storing =
    trial (6 ∷ 8 ∷ 2 ∷ 32 ∷ 1 ∷ 40 ∷ 12 ∷ 44 ∷ 0 ∷ 0 ∷ 0 ∷ 0 ∷ 0 ∷ 0 ∷ 0 ∷ 0 ∷ 0 ∷ 0 ∷ 0 ∷ 0 ∷ 0 ∷ 0 ∷ 0
    ∷ 0 ∷ 0 ∷ 0 ∷ 0 ∷ 0 ∷ 2 ∷ 0 ∷ 0 ∷ 2 ∷ 0 ∷ 2 ∷ 3 ∷ 1 ∷ 1 ∷ 5 ∷ 5 ∷ 1 ∷ 1 ∷ 0 ∷ 10 ∷ 2 ∷ 2 ∷ 3 ∷ 0 ∷ 1
    ∷ 2 ∷ 0 ∷ 1 ∷ 2 ∷ 3 ∷ 4 ∷ 5 ∷ 4 ∷ [])
    (replicate 36 9) 0 (36 ∷ [])
    (2 ∷ 5 ∷ 18 ∷ 23 ∷ 13 ∷ 3 ∷ 0 ∷ 0 ∷ 2 ∷ 5 ∷ 0 ∷ 2 ∷ 1 ∷ 0 ∷ 2 ∷ 6 ∷ 2 ∷ 3 ∷ 2 ∷ 0 ∷ 4 ∷ 1 ∷ 0 ∷ 2 ∷ 0
    ∷ 2 ∷ 3 ∷ 1 ∷ 0 ∷ 2 ∷ 0 ∷ 3 ∷ 0 ∷ 4 ∷ 6 ∷ 0 ∷ [])
    ∷ []

pub storing-holds : computed storing ≡ expected storing
unfolding computed expected storing
storing-holds = refl

-- ---- document 02, [2]: "a cipher stored earlier and received again with its key now teaches its contents, so some books change
-- sides": one is accepted by that, one refused
unfoldable pub sides : List Trial
sides =
    -- A sends B the cipher of N under K, then K, then the cipher again: stored the first time, it is opened the second, and B can send N
    trial (5 ∷ 8 ∷ 2 ∷ 28 ∷ 4 ∷ 36 ∷ 11 ∷ 52 ∷ 0 ∷ 0 ∷ 0 ∷ 0 ∷ 0 ∷ 0 ∷ 0 ∷ 0 ∷ 0 ∷ 0 ∷ 0 ∷ 0 ∷ 0 ∷ 0 ∷ 0
    ∷ 0 ∷ 2 ∷ 0 ∷ 0 ∷ 2 ∷ 0 ∷ 2 ∷ 3 ∷ 1 ∷ 1 ∷ 5 ∷ 2 ∷ 1 ∷ 0 ∷ 1 ∷ 7 ∷ 1 ∷ 0 ∷ 1 ∷ 8 ∷ 1 ∷ 0 ∷ 1 ∷ 9 ∷ 1
    ∷ 1 ∷ 0 ∷ 10 ∷ 1 ∷ 2 ∷ 3 ∷ 0 ∷ 1 ∷ 2 ∷ 0 ∷ 1 ∷ 4 ∷ 2 ∷ 4 ∷ 3 ∷ [])
    (replicate 74 9) 0 (74 ∷ [])
    (2 ∷ 5 ∷ 35 ∷ 40 ∷ 34 ∷ 1 ∷ 3 ∷ 2 ∷ 0 ∷ 1 ∷ 3 ∷ 1 ∷ 0 ∷ 2 ∷ 0 ∷ 3 ∷ 2 ∷ 1 ∷ 1 ∷ 0 ∷ 2 ∷ 2 ∷ 2 ∷ 1 ∷ 3
    ∷ 1 ∷ 0 ∷ 2 ∷ 0 ∷ 3 ∷ 3 ∷ 3 ∷ 0 ∷ 1 ∷ 4 ∷ 0 ∷ 0 ∷ 3 ∷ 6 ∷ 0 ∷ 3 ∷ 0 ∷ 0 ∷ 1 ∷ 3 ∷ 1 ∷ 1 ∷ 1 ∷ 3 ∷ 2 ∷ 2
    ∷ 1 ∷ 5 ∷ 2 ∷ 3 ∷ 1 ∷ 1 ∷ 1 ∷ 2 ∷ 3 ∷ 1 ∷ 1 ∷ 3 ∷ 6 ∷ 3 ∷ 4 ∷ 0 ∷ 0 ∷ 2 ∷ 1 ∷ 1 ∷ 3 ∷ 3 ∷ 2 ∷ replicate 0 9)
    ∷  -- A receives the cipher of K- under L, then L, then the cipher again, and has K- of it; so the cipher of N under K+ is opened and
    -- not stored, and to send it A would have to make K
    trial (9 ∷ 8 ∷ 2 ∷ 44 ∷ 5 ∷ 52 ∷ 13 ∷ 72 ∷ 0 ∷ 0 ∷ 0 ∷ 0 ∷ 0 ∷ 0 ∷ 0 ∷ 0 ∷ 0 ∷ 0 ∷ 0 ∷ 0 ∷ 0 ∷ 0 ∷ 0
    ∷ 0 ∷ 0 ∷ 0 ∷ 0 ∷ 0 ∷ 4 ∷ 0 ∷ 0 ∷ 1 ∷ 2 ∷ 0 ∷ 1 ∷ 2 ∷ 3 ∷ 0 ∷ 3 ∷ 1 ∷ 2 ∷ 0 ∷ 4 ∷ 2 ∷ 0 ∷ 6 ∷ 1 ∷ 1
    ∷ 1 ∷ 7 ∷ 1 ∷ 1 ∷ 1 ∷ 0 ∷ 8 ∷ 1 ∷ 1 ∷ 0 ∷ 9 ∷ 1 ∷ 1 ∷ 0 ∷ 10 ∷ 1 ∷ 1 ∷ 0 ∷ 11 ∷ 1 ∷ 0 ∷ 1 ∷ 12 ∷ 1
    ∷ 2 ∷ 3 ∷ 5 ∷ 2 ∷ 7 ∷ 4 ∷ 0 ∷ 1 ∷ 6 ∷ 3 ∷ 6 ∷ 8 ∷ 8 ∷ [])
    (replicate 3 9) 10 (4 ∷ 2 ∷ [])
    (replicate 3 9)
    ∷ []

pub sides-hold : computed sides ≡ expected sides
unfolding computed expected sides
sides-hold = refl

-- ---- "a cipher whose key's partner is buildable is opened first; then a buildable row is compared"
unfoldable pub opened_first : List Trial
opened_first =
    -- a cipher with no contents, which B could build, is opened
    trial (4 ∷ 8 ∷ 2 ∷ 24 ∷ 1 ∷ 32 ∷ 4 ∷ 36 ∷ 0 ∷ 0 ∷ 0 ∷ 0 ∷ 0 ∷ 0 ∷ 0 ∷ 0 ∷ 0 ∷ 0 ∷ 0 ∷ 0 ∷ 2 ∷ 0 ∷ 0
    ∷ 1 ∷ 0 ∷ 1 ∷ 1 ∷ 1 ∷ 1 ∷ 2 ∷ 1 ∷ 1 ∷ 0 ∷ 1 ∷ 3 ∷ 1 ∷ 2 ∷ 2 ∷ 2 ∷ 3 ∷ [])
    (replicate 27 9) 0 (26 ∷ [])
    (2 ∷ 5 ∷ 9 ∷ 14 ∷ 12 ∷ 2 ∷ 0 ∷ 1 ∷ 3 ∷ 0 ∷ 0 ∷ 2 ∷ 6 ∷ 0 ∷ 3 ∷ 0 ∷ 0 ∷ 1 ∷ 5 ∷ 0 ∷ 1 ∷ 0 ∷ 0
    ∷ 2 ∷ 6 ∷ 0 ∷ replicate 1 9)
    ∷  -- B holds N and K+, and neither K- nor K: the cipher of N under K+ can be built and not opened, and is compared
    trial (6 ∷ 8 ∷ 2 ∷ 32 ∷ 1 ∷ 40 ∷ 8 ∷ 44 ∷ 0 ∷ 0 ∷ 0 ∷ 0 ∷ 0 ∷ 0 ∷ 0 ∷ 0 ∷ 0 ∷ 0 ∷ 0 ∷ 0 ∷ 0 ∷ 0 ∷ 0
    ∷ 0 ∷ 3 ∷ 0 ∷ 0 ∷ 1 ∷ 2 ∷ 0 ∷ 1 ∷ 2 ∷ 0 ∷ 3 ∷ 2 ∷ 1 ∷ 1 ∷ 5 ∷ 2 ∷ 1 ∷ 0 ∷ 1 ∷ 7 ∷ 1 ∷ 2 ∷ 4 ∷ 3 ∷ 3
    ∷ 4 ∷ 3 ∷ 4 ∷ 5 ∷ [])
    (replicate 31 9) 0 (30 ∷ [])
    (2 ∷ 5 ∷ 11 ∷ 16 ∷ 14 ∷ 2 ∷ 0 ∷ 1 ∷ 3 ∷ 1 ∷ 0 ∷ 4 ∷ 0 ∷ 3 ∷ 6 ∷ 0 ∷ 3 ∷ 0 ∷ 0 ∷ 1 ∷ 4 ∷ 0 ∷ 3
    ∷ 1 ∷ 0 ∷ 4 ∷ 0 ∷ 3 ∷ 6 ∷ 0 ∷ replicate 1 9)
    ∷ []

pub opened_first-holds : computed opened_first ≡ expected opened_first
unfolding computed expected opened_first
opened_first-holds = refl

-- ---- document 02, [5]: parties that may make atoms, and parties that may not
unfoldable pub marks : List Trial
marks =
    -- a party marked 0 would have to make N
    trial (3 ∷ 8 ∷ 2 ∷ 20 ∷ 1 ∷ 28 ∷ 5 ∷ 32 ∷ 0 ∷ 0 ∷ 0 ∷ 0 ∷ 0 ∷ 0 ∷ 0 ∷ 0 ∷ 0 ∷ 0 ∷ 0 ∷ 0 ∷ 0 ∷ 0 ∷ 2
    ∷ 0 ∷ 1 ∷ 2 ∷ 2 ∷ 1 ∷ 0 ∷ 1 ∷ 4 ∷ 1 ∷ 0 ∷ 1 ∷ 0 ∷ 1 ∷ 2 ∷ [])
    (replicate 23 9) 13 (0 ∷ 2 ∷ [])
    (replicate 23 9)
    ∷  -- the same party marked 1 makes it
    trial (3 ∷ 8 ∷ 2 ∷ 20 ∷ 1 ∷ 28 ∷ 5 ∷ 32 ∷ 0 ∷ 0 ∷ 0 ∷ 0 ∷ 0 ∷ 0 ∷ 0 ∷ 0 ∷ 0 ∷ 0 ∷ 0 ∷ 0 ∷ 0 ∷ 0 ∷ 2
    ∷ 1 ∷ 1 ∷ 2 ∷ 2 ∷ 1 ∷ 0 ∷ 1 ∷ 4 ∷ 1 ∷ 0 ∷ 1 ∷ 0 ∷ 1 ∷ 2 ∷ [])
    (replicate 23 9) 0 (23 ∷ [])
    (2 ∷ 5 ∷ 9 ∷ 14 ∷ 9 ∷ 1 ∷ 2 ∷ 2 ∷ 0 ∷ 1 ∷ 0 ∷ 2 ∷ 6 ∷ 0 ∷ 3 ∷ 0 ∷ 0 ∷ 1 ∷ 6 ∷ 1 ∷ 2 ∷ 0 ∷ 0 ∷ replicate 0 9)
    ∷  -- marked 0 it may send what it holds, and receive
    trial (3 ∷ 8 ∷ 2 ∷ 20 ∷ 1 ∷ 28 ∷ 6 ∷ 32 ∷ 0 ∷ 0 ∷ 0 ∷ 0 ∷ 0 ∷ 0 ∷ 0 ∷ 0 ∷ 0 ∷ 0 ∷ 0 ∷ 0 ∷ 0 ∷ 0 ∷ 3
    ∷ 0 ∷ 1 ∷ 3 ∷ 2 ∷ 0 ∷ 0 ∷ 1 ∷ 5 ∷ 1 ∷ 0 ∷ 1 ∷ 2 ∷ 0 ∷ 1 ∷ 2 ∷ [])
    (replicate 21 9) 0 (21 ∷ [])
    (2 ∷ 5 ∷ 7 ∷ 12 ∷ 9 ∷ 2 ∷ 0 ∷ 1 ∷ 0 ∷ 2 ∷ 6 ∷ 0 ∷ 3 ∷ 0 ∷ 0 ∷ 1 ∷ 6 ∷ 1 ∷ 2 ∷ 0 ∷ 0 ∷ replicate 0 9)
    ∷  -- it would make N, which is nobody's, and then M, which B knows: the first decides
    trial (4 ∷ 8 ∷ 2 ∷ 24 ∷ 1 ∷ 32 ∷ 7 ∷ 36 ∷ 0 ∷ 0 ∷ 0 ∷ 0 ∷ 0 ∷ 0 ∷ 0 ∷ 0 ∷ 0 ∷ 0 ∷ 0 ∷ 0 ∷ 0 ∷ 0 ∷ 0
    ∷ 0 ∷ 0 ∷ 0 ∷ 2 ∷ 0 ∷ 1 ∷ 2 ∷ 3 ∷ 1 ∷ 0 ∷ 1 ∷ 5 ∷ 2 ∷ 0 ∷ 1 ∷ 0 ∷ 1 ∷ 3 ∷ 2 ∷ 3 ∷ [])
    (replicate 3 9) 13 (0 ∷ 2 ∷ [])
    (replicate 3 9)
    ∷  -- M first, and then N
    trial (4 ∷ 8 ∷ 2 ∷ 24 ∷ 1 ∷ 32 ∷ 7 ∷ 36 ∷ 0 ∷ 0 ∷ 0 ∷ 0 ∷ 0 ∷ 0 ∷ 0 ∷ 0 ∷ 0 ∷ 0 ∷ 0 ∷ 0 ∷ 0 ∷ 0 ∷ 0
    ∷ 0 ∷ 0 ∷ 0 ∷ 2 ∷ 0 ∷ 1 ∷ 2 ∷ 3 ∷ 1 ∷ 0 ∷ 1 ∷ 5 ∷ 2 ∷ 0 ∷ 1 ∷ 0 ∷ 1 ∷ 3 ∷ 3 ∷ 2 ∷ [])
    (replicate 3 9) 10 (0 ∷ 3 ∷ [])
    (replicate 3 9)
    ∷  -- at step 0 a party marked 0 would make N, at step 1 the other one M, which is taken
    trial (4 ∷ 8 ∷ 2 ∷ 24 ∷ 2 ∷ 32 ∷ 7 ∷ 40 ∷ 0 ∷ 0 ∷ 0 ∷ 0 ∷ 0 ∷ 0 ∷ 0 ∷ 0 ∷ 0 ∷ 0 ∷ 0 ∷ 0 ∷ 0 ∷ 0 ∷ 0
    ∷ 0 ∷ 0 ∷ 0 ∷ 3 ∷ 0 ∷ 1 ∷ 3 ∷ 2 ∷ 1 ∷ 0 ∷ 1 ∷ 5 ∷ 1 ∷ 1 ∷ 0 ∷ 6 ∷ 1 ∷ 0 ∷ 1 ∷ 3 ∷ 0 ∷ 1 ∷ 2 ∷ 3 ∷ [])
    (replicate 3 9) 13 (0 ∷ 2 ∷ [])
    (replicate 3 9)
    ∷  -- marks that are neither 0 nor 1
    trial (3 ∷ 8 ∷ 2 ∷ 20 ∷ 1 ∷ 28 ∷ 5 ∷ 32 ∷ 0 ∷ 0 ∷ 0 ∷ 0 ∷ 0 ∷ 0 ∷ 0 ∷ 0 ∷ 0 ∷ 0 ∷ 0 ∷ 0 ∷ 0 ∷ 0 ∷ 2
    ∷ 2 ∷ 1 ∷ 2 ∷ 2 ∷ 1 ∷ 0 ∷ 1 ∷ 4 ∷ 1 ∷ 0 ∷ 1 ∷ 0 ∷ 1 ∷ 2 ∷ [])
    (replicate 3 9) 7 (0 ∷ [])
    (replicate 3 9)
    ∷
    trial (3 ∷ 8 ∷ 2 ∷ 20 ∷ 1 ∷ 28 ∷ 5 ∷ 32 ∷ 0 ∷ 0 ∷ 0 ∷ 0 ∷ 0 ∷ 0 ∷ 0 ∷ 0 ∷ 0 ∷ 0 ∷ 0 ∷ 0 ∷ 0 ∷ 0 ∷ 2
    ∷ 0 ∷ 1 ∷ 2 ∷ 2 ∷ 4294967295 ∷ 0 ∷ 1 ∷ 4 ∷ 1 ∷ 0 ∷ 1 ∷ 0 ∷ 1 ∷ 2 ∷ [])
    (replicate 3 9) 7 (1 ∷ [])
    (replicate 3 9)
    ∷  -- a book whose parties have three words
    trial (1 ∷ 8 ∷ 1 ∷ 12 ∷ 0 ∷ 15 ∷ 0 ∷ 15 ∷ 0 ∷ 0 ∷ 0 ∷ 0 ∷ 0 ∷ 0 ∷ 0 ∷ [])
    (replicate 3 9) 3 (5 ∷ [])
    (replicate 3 9)
    ∷ []

pub marks-hold : computed marks ≡ expected marks
unfolding computed expected marks
marks-hold = refl
