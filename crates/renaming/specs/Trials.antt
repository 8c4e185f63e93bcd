-- Trials of judging, computed from the definitions: slots, words and the verdict on them; ours with one word changed, or cut, at every
-- place; and books, a party's number, words and what is judged. Assumes nothing.
use Rattle.std.specs.Prelude.{ℕ, suc, List, [], ◌∷◌, ◌++◌, ◌≡◌, refl, length, get_or, set, take}
use Rattle.words.specs.Run.{values}
use Rattle.book.specs.Said.{Said, said}
use Rattle.translation.specs.Trials.{trial, trials, opened_first, computed}
use Rattle.renaming.specs.Slot.{Slot, image_slots, triple_slots, event_slots, program_slots, part_slots}
use Rattle.renaming.specs.Slot.Trials.{example, opened-slots}
use Rattle.renaming.specs.Renaming.{outside, fresh, agrees, named, stands, follow, all_agree, place_of}
use Rattle.renaming.specs.Verdict.{verdict_of, nobody_line, judged}

-- ---- slots and words
pub record Trial : Type 0 where
  pub slots : List Slot
  pub words : List ℕ
  pub wanted : Said

-- theirs is ours up to a renaming
abbrev pub same : List Slot → List ℕ → Trial
same ss ws = record { slots = ss; words = ws; wanted = said 0 (1 ∷ []) }

-- no renaming can agree at place k
abbrev pub differs : List Slot → List ℕ → ℕ → Trial
differs ss ws k = record { slots = ss; words = ws; wanted = said 0 (0 ∷ k ∷ []) }

-- B's in example 1 of source 000: it receives the cipher at 0, opens it, with its contents at 1 and 2, and compares them
abbrev pub of_b : List Slot
of_b =
    Slot.plain 1 ∷ Slot.plain 3 ∷ Slot.plain 2 ∷ Slot.plain 0 ∷ Slot.plain 1 ∷ Slot.plain 0 ∷ Slot.plain 3
    ∷ Slot.plain 3 ∷ Slot.plain 1 ∷ Slot.runs 0 1 ∷ Slot.plain 1
    ∷ Slot.plain 5 ∷ Slot.uses 0 ∷ Slot.runs 1 2 ∷ Slot.plain 2 ∷ Slot.plain 0 ∷ Slot.plain 2
    ∷ Slot.plain 4 ∷ Slot.uses 1 ∷ Slot.plain 0 ∷ Slot.plain 3 ∷ Slot.plain 4 ∷ Slot.uses 2 ∷ Slot.plain 0 ∷ Slot.plain 1
    ∷ Slot.plain 6 ∷ Slot.plain 0 ∷ []

pub of-b : part_slots example 1 ≡ of_b
of-b = opened-slots

-- its words, where 0 is called x, 1 is called y where it is handed out and u where it is used, 2 is called v
abbrev pub calling_b : ℕ → ℕ → ℕ → ℕ → List ℕ
calling_b x y u v =
    1 ∷ 3 ∷ 2 ∷ 0 ∷ 1 ∷ 0 ∷ 3
    ∷ 3 ∷ 1 ∷ x ∷ 1
    ∷ 5 ∷ x ∷ y ∷ 2 ∷ 0 ∷ 2
    ∷ 4 ∷ u ∷ 0 ∷ 3 ∷ 4 ∷ v ∷ 0 ∷ 1
    ∷ 6 ∷ 0 ∷ []

-- A's: where 0 is called x, and u in END, where the step is t
abbrev pub calling_a : ℕ → ℕ → ℕ → List ℕ
calling_a x u t = 3 ∷ 0 ∷ x ∷ 1 ∷ 2 ∷ 1 ∷ 1 ∷ 3 ∷ 2 ∷ 0 ∷ 2 ∷ 1 ∷ x ∷ 0 ∷ 1 ∷ 6 ∷ 1 ∷ 3 ∷ u ∷ t ∷ []

-- two runs of which nothing is used, and three
abbrev pub two_runs : List Slot
two_runs = Slot.runs 0 2 ∷ Slot.plain 2 ∷ Slot.runs 2 1 ∷ Slot.plain 1 ∷ []

abbrev pub three_runs : List Slot
three_runs = two_runs ++ Slot.runs 3 2 ∷ Slot.plain 2 ∷ []

-- a cipher with no contents is opened: a run of 0 numbers
abbrev pub empty_run : List Slot
empty_run =
    Slot.plain 3 ∷ Slot.plain 0 ∷ Slot.runs 0 1 ∷ Slot.plain 1 ∷ Slot.plain 5 ∷ Slot.uses 0 ∷ Slot.runs 1 0 ∷ Slot.plain 0 ∷ Slot.plain 0
    ∷ Slot.plain 2 ∷ Slot.plain 6 ∷ Slot.plain 0 ∷ []

pub empty-run : part_slots (get_or opened_first 0 (trial [] [] 0 [] [])).book 1 ≡ empty_run
unfolding computed opened_first part_slots image_slots triple_slots event_slots program_slots
empty-run = refl

abbrev pub calling_empty : ℕ → ℕ → List ℕ
calling_empty x y = 3 ∷ 0 ∷ x ∷ 1 ∷ 5 ∷ x ∷ y ∷ 0 ∷ 0 ∷ 2 ∷ 6 ∷ 0 ∷ []

unfoldable pub renamings : List Trial
renamings =
    -- ours
    same of_b (calling_b 0 1 1 2)
    ∷  -- shifted; the second run before the first; far apart
    same of_b (calling_b 7 8 8 9)
    ∷ same of_b (calling_b 2 0 0 1)
    ∷ same of_b (calling_b 70000 5 5 6)
    ∷  -- a run may end at the largest u32, and not past it
    same of_b (calling_b 4294967295 0 0 1)
    ∷ same of_b (calling_b 0 4294967294 4294967294 4294967295)
    ∷ differs of_b (calling_b 7 4294967295 4294967295 0) 13
    ∷  -- the contents' names in the other order, or one for both
    differs of_b (calling_b 0 1 2 1) 18
    ∷ differs of_b (calling_b 0 1 1 1) 22
    ∷  -- a name of another run, and one that was never handed out
    differs of_b (calling_b 0 1 0 2) 18
    ∷ differs of_b (calling_b 0 1 1 3) 22
    ∷  -- the second run overlaps the first, at its begin or its end; or lies just before it or behind it
    differs of_b (calling_b 5 5 5 6) 13
    ∷ differs of_b (calling_b 5 4 4 5) 13
    ∷ same of_b (calling_b 5 3 3 4)
    ∷ same of_b (calling_b 5 6 6 7)
    ∷  -- overlapping runs that nothing uses
    same two_runs (5 ∷ 2 ∷ 7 ∷ 1 ∷ [])
    ∷ same two_runs (5 ∷ 2 ∷ 4 ∷ 1 ∷ [])
    ∷ differs two_runs (5 ∷ 2 ∷ 5 ∷ 1 ∷ []) 2
    ∷ differs two_runs (5 ∷ 2 ∷ 6 ∷ 1 ∷ []) 2
    ∷  -- a third run between two others, into one of them, and around one
    same three_runs (5 ∷ 2 ∷ 9 ∷ 1 ∷ 7 ∷ 2 ∷ [])
    ∷ differs three_runs (5 ∷ 2 ∷ 9 ∷ 1 ∷ 6 ∷ 2 ∷ []) 4
    ∷ differs three_runs (5 ∷ 2 ∷ 9 ∷ 1 ∷ 8 ∷ 2 ∷ []) 4
    ∷ differs (Slot.runs 0 1 ∷ Slot.runs 1 3 ∷ []) (5 ∷ 4 ∷ []) 1
    ∷  -- where n is 0 the first number must be ours, and it is no name: it may be another's
    same empty_run (calling_empty 0 1)
    ∷ same empty_run (calling_empty 7 1)
    ∷ same empty_run (calling_empty 1 1)
    ∷ differs empty_run (calling_empty 7 8) 6
    ∷ differs empty_run (calling_empty 0 0) 6
    ∷  -- no words; no slots; neither
    differs of_b [] 0
    ∷ differs [] (0 ∷ []) 0
    ∷ same [] []
    ∷  -- the last word is missing, or there is one more: the shorter length
    differs (Slot.runs 0 1 ∷ Slot.uses 0 ∷ Slot.plain 6 ∷ []) (3 ∷ 3 ∷ []) 2
    ∷ differs (Slot.runs 0 1 ∷ Slot.uses 0 ∷ Slot.plain 6 ∷ []) (3 ∷ 3 ∷ 6 ∷ 0 ∷ []) 3
    ∷ differs of_b (calling_b 7 8 8 9 ++ 0 ∷ []) 27
    ∷  -- and a word at which no renaming can agree comes first
    differs (Slot.runs 0 1 ∷ Slot.uses 0 ∷ Slot.plain 6 ∷ []) (3 ∷ 4 ∷ []) 1
    ∷ differs (Slot.runs 0 1 ∷ Slot.uses 0 ∷ Slot.plain 6 ∷ []) (3 ∷ 3 ∷ 7 ∷ 0 ∷ []) 2
    ∷ []

-- what the definitions say of each
unfoldable pub judged_all : List Trial → List Said
unfolding computed verdict_of all_agree place_of follow stands agrees named fresh outside
judged_all [] = []
judged_all (t ∷ ts) = verdict_of t.slots t.words ∷ judged_all ts

unfoldable pub wanted_all : List Trial → List Said
wanted_all [] = []
wanted_all (t ∷ ts) = t.wanted ∷ wanted_all ts

pub renamings-hold : judged_all renamings ≡ wanted_all renamings
unfolding judged_all wanted_all renamings
renamings-hold = refl

-- ---- ours with one word changed, at every place: no renaming can agree there; but for a run's first number, which may be another: then at
-- the use of what it handed out
abbrev changed : List ℕ → ℕ → List ℕ
changed ws k = set ws k (suc (get_or ws k 0))

pub changed-places : values (λ k. place_of of_b (changed (calling_b 0 1 1 2) k)) 0 (length of_b)
    ≡ 0 ∷ 1 ∷ 2 ∷ 3 ∷ 4 ∷ 5 ∷ 6 ∷ 7 ∷ 8 ∷ 12 ∷ 10 ∷ 11 ∷ 12 ∷ 18 ∷ 14 ∷ 15 ∷ 16 ∷ 17 ∷ 18
    ∷ 19 ∷ 20 ∷ 21 ∷ 22 ∷ 23 ∷ 24 ∷ 25 ∷ 26 ∷ []
unfolding computed place_of follow stands agrees named fresh outside
changed-places = refl

-- renamed and cut, at every place: the shorter length
pub cut-places : values (λ k. place_of of_b (take k (calling_b 7 8 8 9))) 0 (suc (length of_b)) ≡ values (λ k. k) 0 (suc (length of_b))
unfolding computed place_of follow stands agrees named fresh outside
cut-places = refl

-- ---- books
pub record Judging : Type 0 where
  pub book : List ℕ
  pub party : ℕ
  pub words : List ℕ
  pub wanted : Said

abbrev pub judging : List ℕ → ℕ → List ℕ → ℕ → List ℕ → Judging
judging b p ws n vs = record { book = b; party = p; words = ws; wanted = said n vs }

-- B would have to make a taken atom
unfoldable pub unplayable_book : List ℕ
unfolding trials
unplayable_book = (get_or trials 3 (trial [] [] 0 [] [])).book

unfoldable pub judgings : List Judging
judgings =
    -- example 1: ours, and with every placeholder renamed
    judging example 0 (calling_a 0 0 0) 0 (1 ∷ [])
    ∷ judging example 1 (calling_b 0 1 1 2) 0 (1 ∷ [])
    ∷ judging example 0 (calling_a 9 9 0) 0 (1 ∷ [])
    ∷ judging example 1 (calling_b 2 0 0 1) 0 (1 ∷ [])
    ∷  -- in END the placeholder is renamed too, and nothing else is
    judging example 0 (calling_a 9 0 0) 0 (0 ∷ 18 ∷ [])
    ∷ judging example 0 (calling_a 9 9 9) 0 (0 ∷ 19 ∷ [])
    ∷  -- the other party's
    judging example 0 (calling_b 0 1 1 2) 0 (0 ∷ 0 ∷ [])
    ∷  -- no words
    judging example 1 [] 0 (0 ∷ 0 ∷ [])
    ∷  -- a party's number out of range, whatever the words
    judging example 2 (calling_b 0 1 1 2) 22 (2 ∷ [])
    ∷ judging example 4294967295 [] 22 (4294967295 ∷ [])
    ∷  -- the book's refusal comes before
    judging unplayable_book 0 [] 10 (1 ∷ 3 ∷ [])
    ∷ judging unplayable_book 2 [] 10 (1 ∷ 3 ∷ [])
    ∷ judging [] 0 [] 1 (0 ∷ [])
    ∷ []

unfoldable pub all_judged : List Judging → List Said
unfolding computed verdict_of all_agree place_of follow stands agrees named fresh outside part_slots image_slots triple_slots event_slots program_slots nobody_line judged
all_judged [] = []
all_judged (t ∷ ts) = judged t.book t.party t.words ∷ all_judged ts

unfoldable pub all_wanted : List Judging → List Said
all_wanted [] = []
all_wanted (t ∷ ts) = t.wanted ∷ all_wanted ts

pub judgings-hold : all_judged judgings ≡ all_wanted judgings
unfolding all_judged all_wanted judgings example unplayable_book
judgings-hold = refl
