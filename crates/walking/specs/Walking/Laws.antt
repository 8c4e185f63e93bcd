-- Laws of a party's walk as code has it: one step more, and a program's words from those of the events of all steps. Assumes nothing.
use Rattle.std.specs.Prelude.{ℕ, ◌+◌, ◌≤◌, ◌<◌, List, ◌∷◌, ◌++◌, ◌≡◌, length}
use Rattle.std.proofs.Common.{add-one, arith, append-nil, sym, ap, ap₂, ◌∙◌, length-append}
use Rattle.book.specs.Layout.{parties, steps}
use Rattle.book.specs.Valid.{Valid}
use Rattle.translation.specs.Listing.{program_words, triple_words, event_words, part_words}
use Rattle.translation.proofs.Listing.Laws.{program-append}
use Rattle.translation.specs.Receive.{Did, followed}
use Rattle.translation.specs.Steps.{step_did, before}
use Rattle.translation.proofs.Steps.Laws.{before_more, before-all}
use Rattle.translation.proofs.Long.Laws.{all-within}
use Rattle.holding.specs.Entry.{limit}
use Rattle.holding.specs.View.{row_of, view}
use Rattle.holding.specs.Doing.{Doing}
use Rattle.holding.specs.Doing.Laws.{doing-then, doing-as}
use Rattle.walking.specs.Walking.{Along}

-- ---- one step more
module _ (b : List ℕ) (p i : ℕ) {a n k z : ℕ} {log₀ log out₀ out e : List ℕ} (g : Along b p i log₀ log a out₀ out e n k z) where
  abbrev does : Did
  does = step_did b p i (view b e) n

  -- what the party does in step i, from where it stands, is what it does there
  same-did : does ≡ step_did b p i (before b p i).dictionary (length (before b p i).given)
  same-did = let m = g.goes in ap₂ (step_did b p i) g.holds (omega arith)

  pub along-more : before b p (i + 1) ≡ followed (before b p i) does
  along-more = ap (before b p) (add-one i) ∙ before_more b p i ∙ ap (followed (before b p i)) (sym same-did)

  -- there is room for its placeholders
  pub along-fits : Valid b → i < steps b → n + length does.given ≤ limit
  along-fits v h =
      let m = g.goes in
      let w = (all-within b v (row_of b) p (i + 1) (omega arith)).given in
      let all = ap (λ (d : Did). length d.given) along-more in
      let c = length-append (before b p i).given does.given in
      omega arith

  pub along-on : {log_after out_after f : List ℕ} {m j y : ℕ} → Doing b does n k log log_after z out out_after f m j y
      → Along b p (i + 1) log₀ log_after a out₀ out_after f m j y
  along-on w = doing-as (doing-then b _ _ g w) along-more

-- ---- the whole program: the events' words, END's first words, and the triples
pub part-words : (b : List ℕ) (p : ℕ) → p < parties b → part_words b p ≡ program_words (row_of b) (before b p (steps b)).events
    ++ (6 ∷ length (before b p (steps b)).stored ∷ triple_words (row_of b) (before b p (steps b)).stored)
unfolding part_words program_words event_words
part-words b p h =
    let events = program_words (row_of b) (before b p (steps b)).events in
    ap (program_words (row_of b)) (before-all b p h) ∙ program-append (row_of b) (before b p (steps b)).events _ ∙ ap (λ l. events ++ l) (append-nil _)
