-- Sending as the code does it: the atoms of a step's messages are made first, each with its NEW, then one SEND is written with the
-- messages' images. What is made and written is `build_all`'s and `sent`'s; of the atoms made, the first that can't be made is where making
-- stops: "the walk stops at the first atom that can't be made, with 10 if it is taken and else 13" (document 02, [5]).
use Rattle.std.specs.Prelude.{ℕ, ◌+◌, ◌*◌, ◌≤◌, ◌<◌, List, [], ◌∷◌, map, ◌≡◌, eqb, length, Option, None, Some}
use Rattle.words.specs.Choice.{pick}
use Rattle.words.specs.Overlay.{cap, Wrote}
use Rattle.terms.specs.Table.{terms}
use Rattle.book.specs.Layout.{rows, table, list_at}
use Rattle.book.specs.Span.{Span}
use Rattle.book.specs.Stop.{stop}
use Rattle.book.specs.declared.Against.{Against}
use Rattle.book.specs.declared.Against.TheVariants as Against
use Rattle.book.specs.declared.Stop.{Stop}
use Rattle.book.specs.Valid.{Valid}
use Rattle.translation.specs.Dictionary.{Dictionary}
use Rattle.translation.specs.Build.{Built, AllBuilt, build_all}
use Rattle.translation.specs.Long.{step_size}
use Rattle.translation.specs.Receive.{Event}
use Rattle.translation.specs.Program.{sent}
use Rattle.translation.specs.Listing.{program_words}
use Rattle.holding.specs.Entry.{step_limit}
use Rattle.holding.specs.View.{row_of, view}
use Rattle.claims.specs.Since.{taken_in}
use Rattle.sending.specs.declared.Made.{Made}
use Rattle.sending.specs.declared.Sent.{Sent}
pub mod Laws

-- ---- what building leaves, whatever the images: the dictionary, and the atoms made
pub record Making : Type 0 where
  pub dictionary : Dictionary
  pub made : List ℕ

abbrev pub making : Built → Making
making b = record { dictionary = b.dictionary; made = b.made }

abbrev pub all_making : AllBuilt → Making
all_making b = record { dictionary = b.dictionary; made = b.made }

-- ---- the first atom that can't be made
-- what stands against making the atom of row r at step s, by the table l and the sender's mark k
unfoldable pub against_in : List ℕ → ℕ → ℕ → ℕ → Option Against
against_in l k s r = pick (taken_in l s r) (Some Against.Taken) (pick (eqb k 1) None (Some Against.Maker))

-- where it stopped before, x; else at row r of step s, if something stands against that
abbrev pub or_stop : Option Stop → Option Against → ℕ → ℕ → Option Stop
or_stop (Some x) a s r = Some x
or_stop None None s r = None
or_stop None (Some a) s r = Some (stop a s r)

-- where it stopped before, or at the first of the rows of step s against which something stands, as w tells
unfoldable pub first_in : (ℕ → Option Against) → ℕ → Option Stop → List ℕ → Option Stop
first_in w s x [] = x
first_in w s x (r ∷ rs) = first_in w s (or_stop x (w r) s r) rs

-- ---- what code leaves behind, in the book b with the table l of what is taken from which step on, at step s, whose sender's mark is k
-- atoms were made: m became r, out became out_after, and the entries afterwards are e
pub record Makes (b l : List ℕ) (k s : ℕ) (g : Making) (m : Made) (e out out_after : List ℕ) (r : Made) : Type 0 where
  pub holds : view b e ≡ g.dictionary
  pub wrote : Wrote (program_words (row_of b) (map Event.new g.made)) out m.at out_after r.at
  pub stops : r.stop ≡ first_in (against_in l k s) s m.stop g.made
  pub size : length e ≡ 1024

-- what sending is handed: step s, whose n messages stand at f in the pool, and the entries e. As many atoms as a step can make may be made, and
-- the place a is so low that their NEWs are counted.
pub record SendReady (b : List ℕ) (s f n : ℕ) (e : List ℕ) (a : ℕ) : Type 0 where
  pub valid : Valid b
  pub span : Span b (rows b) f n
  pub size : length e ≡ 1024
  pub step : s < step_limit
  pub few : length (build_all s (terms (table b) (list_at b f n)) (view b e)).made ≤ step_size
  pub low : a + 2 * step_size ≤ cap

-- the messages were sent, the first word at a
pub record Sends (b l : List ℕ) (k s : ℕ) (g : AllBuilt) (a : ℕ) (e out out_after : List ℕ) (r : Sent) : Type 0 where
  pub holds : view b e ≡ g.dictionary
  pub wrote : Wrote (program_words (row_of b) (sent s g).events) out a out_after r.at
  pub made : r.made ≡ length g.made
  pub stops : r.stop ≡ first_in (against_in l k s) s None g.made
  pub size : length e ≡ 1024
