-- An output that went through words between: what came of it on bytes. Assumes nothing.
use Prim.Native.Nat.{ℕ, ◌+◌, ◌/◌, ◌≤◌, min}
use mathlib.Core.List.{List, [], ◌∷◌}
use mathlib.Core.Path.{◌≡◌, sym, ap, ap₂, ◌∙◌}
use native.Mathlib.Omega.{arith}
use native.Mathlib.Decide.{ℕ_discrete}
use lib.ListN.{length, get_or, take, drop}
use lib.Seq.{sets, sets-eq, length-sets, take-append_seam}
use Rattle.words.specs.Overlay.{Wrote}
use Rattle.octets.specs.Octets.{words_in, bytes_of_all}
use Rattle.octets.specs.Octets.Laws.{words-length}
use Rattle.book.specs.declared.Refusal.{Refusal}
use Rattle.book.specs.Said.{Said, said}
use Rattle.std.specs.Prelude.{Ok, Err}
use Rattle.translation.specs.Outcome.{Outcome, laid, came}
use Rattle.translation.specs.Outcome.Laws.{came_refused, came-written, laid-keeps, laid-lays}
use Rattle.playing.specs.Rehearsal.{events_done, rehearsal_says}
use Rattle.playing.specs.Rehearsal.Laws.{exactly-played, played-says, done-length}
use Rattle.summary.specs.Summary.{summary, summary_says}
use Rattle.summary.proofs.Summary.Laws.{summary-length}
use Rattle.summary.proofs.Summary.Written.{exactly-summarized, summarized-says}
use Rattle.relaying.specs.Relayed.Laws.{room-enough, summary-room-enough}

-- ---- an output that is laid over what was lent keeps its length
laid-length : (s : Said) (out ws : List ℕ) → length (laid s out ws).lent ≡ length out
laid-length s out ws = elim (ℕ_discrete s.number 0) [
  | yes z ↦ ap length (laid-lays s out ws z) ∙ length-sets out 0 ws
  | no n ↦ ap length (laid-keeps s out ws n)
]

-- ---- an output ws into words, and from there, as bytes, to what was lent. Of the words between s is said, and t of those that the bytes
-- make; both are the same, as there are as many words between as the output can have
module _ {t : Said} (s : Said) (ws lent new out : List ℕ) (same : s ≡ t) where
  pub through-refused : (f : Refusal) → came (Err f) new ≡ laid s lent ws → came (Err f) out ≡ laid t out (bytes_of_all ws)
  through-refused f r = came_refused t out (bytes_of_all ws) f (sym (ap (λ (o : Outcome). o.says) r ∙ same))

  -- where it is accepted, the words are in front
  module _ (n : ℕ) (r : came (Ok n) new ≡ laid s lent ws) (fits : s.number ≡ 0 → (s ≡ said 0 (length ws ∷ [])) × (length ws ≤ length lent)) where
    number : s.number ≡ 0
    number = sym (ap (λ (o : Outcome). o.says.number) r)

    many : (n ≡ length ws) × (length ws ≤ length lent)
    many =
        let says = ap (λ (o : Outcome). o.says) r ∙ (fits number).0 in
        (ap (λ (x : Said). get_or x.values 0 0) says, (fits number).1)

    -- the words between are as many as they were
    pub through-few : n ≤ length new
    through-few =
        let size = ap (λ (o : Outcome). length o.lent) r ∙ laid-length s lent ws in
        let (e, l) = many in
        omega arith

    front : take n new ≡ ws
    front =
        let (e, l) = many in
        let lays : new ≡ sets lent 0 ws = ap (λ (o : Outcome). o.lent) r ∙ laid-lays s lent ws number in
        let front = sets-eq ws lent 0 (omega arith) in
        ap₂ take e (lays ∙ front) ∙ take-append_seam ws (drop (0 + length ws) lent)

    pub through-written : {after : List ℕ} {j : ℕ} → Wrote (bytes_of_all (take n new)) out 0 after j
        → came (Ok n) after ≡ laid t out (bytes_of_all ws)
    through-written {after} w =
        came-written t out (bytes_of_all ws) after n (sym (ap (λ (o : Outcome). o.says) r ∙ same))
        (w.list ∙ ap (λ l. sets out 0 (bytes_of_all l)) front)

-- a rehearsal, and a summary
pub rehearsal-fits : (b ms lent : List ℕ) → (rehearsal_says b ms lent).number ≡ 0
    → (rehearsal_says b ms lent ≡ said 0 (length (events_done b ms) ∷ [])) × (length (events_done b ms) ≤ length lent)
rehearsal-fits b ms lent z =
    let fits = (exactly-played b ms lent).0 z in
    let d = done-length b ms in
    let room = fits.3 in
    (played-says b ms lent fits.0 fits.1 fits.2 fits.3 ∙ ap (λ k. said 0 (k ∷ [])) (sym d), omega arith)

pub summary-fits : (b lent : List ℕ) → (summary_says b lent).number ≡ 0
    → (summary_says b lent ≡ said 0 (length (summary b) ∷ [])) × (length (summary b) ≤ length lent)
summary-fits b lent z =
    let fits = (exactly-summarized b lent).0 z in
    let d = summary-length b in
    let room = fits.1 in
    (summarized-says b lent fits.0 fits.1 ∙ ap (λ k. said 0 (k ∷ [])) (sym d), omega arith)

-- as many words between as the bytes make, or as parties can be, or as a summary can have
pub between-rehearsal : (b ms lent out : List ℕ) → length lent ≡ min 16 (length out / 4) → rehearsal_says b ms lent ≡ rehearsal_says b ms (words_in out)
between-rehearsal b ms lent out size = let n = words-length out in room-enough b ms (words_in out) lent (omega arith)

pub between-summary : (b lent out : List ℕ) → length lent ≡ min 16387 (length out / 4) → summary_says b lent ≡ summary_says b (words_in out)
between-summary b lent out size = let n = words-length out in summary-room-enough b (words_in out) lent (omega arith)
