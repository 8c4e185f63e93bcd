-- No image of a valid book's listing is longer than its row's size. Assumes nothing.
use Rattle.std.specs.Prelude.{ℕ, zero, suc, ◌+◌, ◌≤◌, ◌<◌, List, [], ◌∷◌, ◌++◌, map, ◌≡◌, length}
use Rattle.std.proofs.Math.Decide.{ℕ_discrete}
use Rattle.std.proofs.Common.{zero-add, add-zero, arith, sym, ap, subst}
use Rattle.words.specs.Run.Laws.{all-run}
use Rattle.terms.specs.Term.{Term, Terms, count, listed, partner, size}
use Rattle.terms.specs.Term.Laws.{size-partner, count-listed}
use Rattle.terms.specs.Image.{Image, words}
use Rattle.terms.specs.Table.{terms, number, IsRow, AllRows}
use Rattle.terms.specs.Table.Laws.{size-term, rows-listed, parts-rows}
use Rattle.book.specs.Layout.{table, rows, parties, steps, begins, sender, receiver, messages, step_first, step_count}
use Rattle.book.specs.Valid.{Valid}
use Rattle.book.specs.Valid.Laws.{formed}
use Rattle.translation.specs.Dictionary.{Dictionary, image, images}
use Rattle.translation.specs.Dictionary.Laws.{image-short}
use Rattle.translation.specs.Build.{build_all}
use Rattle.translation.specs.Along.Laws.{build_all-images}
use Rattle.translation.specs.Receive.{Event, Did, nothing, followed, rule, by_rule, compared, kept, receive, receive_all}
use Rattle.translation.proofs.Receive.Laws.{by-rule}
use Rattle.translation.specs.Program.{sent, arrived}
use Rattle.translation.specs.Narration.{narration, program_of}
use Rattle.translation.specs.Steps.{step_did, before}
use Rattle.translation.proofs.Steps.Laws.{step-sends, step-receives, step-idle, before-none, before_more, before-all}
use Rattle.translation.specs.Sized.{GivenAt, Sized, SizedAll, EventSized, ProgramSized}

-- ---- the placeholders from n on were handed out for the terms ts
abbrev GivenFrom : List Term → ℕ → List Term → Type 0
GivenFrom given n [] = Unit {0}
GivenFrom given n (t ∷ ts) = GivenAt given n t × GivenFrom given (suc n) ts

from-later : (given : List Term) (u : Term) (n : ℕ) (ts : List Term) → GivenFrom given n ts → GivenFrom (u ∷ given) (suc n) ts
from-later given u n [] h = tt
from-later given u n (t ∷ ts) h = (GivenAt.later h.0, from-later given u (suc n) ts h.1)

from_all : (ts : List Term) → GivenFrom ts 0 ts
from_all [] = tt
from_all (t ∷ ts) = (GivenAt.here, from-later ts t 0 ts (from_all ts))

from-append : (given : List Term) (n : ℕ) (ts us : List Term) → GivenFrom given n (ts ++ us)
    → GivenFrom given n ts × GivenFrom given (n + length ts) us
from-append given n [] us h = (tt, subst (λ m. GivenFrom given m us) (sym (add-zero n)) h)
from-append given n (t ∷ ts) us h =
    let r = from-append given (suc n) ts us h.1 in
    let z : suc n + length ts ≡ n + suc (length ts) = omega arith in
    ((h.0, r.0), subst (λ m. GivenFrom given m us) z r.1)

sized-append : {b : List ℕ} {given : List Term} {es fs : List Event} → ProgramSized b given es → ProgramSized b given fs
    → ProgramSized b given (es ++ fs)
sized-append ProgramSized.nil k = k
sized-append (ProgramSized.cons x h) k = ProgramSized.cons x (sized-append h k)

sized_new : {b : List ℕ} {given : List Term} {es : List Event} (rs : List ℕ) → ProgramSized b given es
    → ProgramSized b given (map Event.new rs ++ es)
sized_new [] h = h
sized_new (r ∷ rs) h = ProgramSized.cons EventSized.new (sized_new rs h)

module _ (b : List ℕ) (v : Valid b) where
  -- ---- one image
  row_sized : (t : Term) (i : Image) → IsRow (table b) (rows b) t → length (words (number (table b) (rows b)) i) ≤ size t → Sized b t i
  row_sized t i r h =
      let e = size-term (rows b) (table b) (formed b v) r.row r.within in
      let z = ap size r.stands in
      record { row = r.row; within = r.within; stands = r.stands; short = omega arith }

  image-sized : (δ : Dictionary) (t : Term) → IsRow (table b) (rows b) t → Sized b t (image δ t)
  image-sized δ t r = row_sized t (image δ t) r (image-short (number (table b) (rows b)) δ t)

  key-sized : (δ : Dictionary) (k : Term) → IsRow (table b) (rows b) k → Sized b k (image δ (partner k))
  key-sized δ k r =
      let h = image-short (number (table b) (rows b)) δ (partner k) in
      let e = size-partner k in
      row_sized k (image δ (partner k)) r (omega arith)

  images-sized : (δ : Dictionary) (ts : Terms) → AllRows (table b) (rows b) ts → SizedAll b ts (images δ ts)
  unfolding image
  images-sized δ Terms.nil r = SizedAll.nil
  images-sized δ (Terms.cons t ts) r = SizedAll.cons (image-sized δ t r.0) (images-sized δ ts r.1)

  module _ (given : List Term) where
    -- what a doing adds, where n is the next placeholder
    abbrev Adds : ℕ → Did → Type 0
    Adds n d = GivenFrom given n d.given → ProgramSized b given d.events

    adds_then : (n : ℕ) (d e : Did) → Adds n d → Adds (n + length d.given) e → Adds n (followed d e)
    adds_then n d e h k f = let r = from-append given n d.given e.given f in sized-append (h r.0) (k r.1)

    -- ---- receive
    adds-rule : (s : ℕ) (t : Term) (p : ℕ) (δ : Dictionary) (n : ℕ) (o : Did) → IsRow (table b) (rows b) t → GivenAt given p t → Adds n o
        → Adds n (by_rule (rule δ t) (compared t p δ) o (kept s t p δ))
    adds-rule s t p δ n o r g h =
        by-rule (Adds n) (rule δ t) _ _ _ (λ f. ProgramSized.cons (EventSized.checks g (image-sized δ t r)) ProgramSized.nil) h (λ f. ProgramSized.nil)

    -- the terms ts get the placeholders from n on, and then they are received
    adds-listed : (n : ℕ) (ts : Terms) (d : Did) → (GivenFrom given n (listed ts) → Adds (n + count ts) d)
        → GivenFrom given n (listed ts ++ d.given) → ProgramSized b given d.events
    adds-listed n ts d h f =
        let r = from-append given n (listed ts) d.given f in
        h r.0 (subst (λ c. GivenFrom given (n + c) d.given) (count-listed ts) r.1)

    mutual
      unfolding receive listed

      receive-sized : (s : ℕ) (t : Term) (p : ℕ) (δ : Dictionary) (n : ℕ) → IsRow (table b) (rows b) t → GivenAt given p t → Adds n (receive s t p δ n)
      receive-sized s (Term.atom q) p δ n r g = adds-rule s (Term.atom q) p δ n (nothing δ) r g (λ f. ProgramSized.nil)
      receive-sized s (Term.operation q ts) p δ n r g = adds-rule s (Term.operation q ts) p δ n (nothing δ) r g (λ f. ProgramSized.nil)
      receive-sized s (Term.cipher k ts) p δ n r g =
          let i = parts-rows (rows b) (table b) (formed b v) _ r in
          adds-rule s (Term.cipher k ts) p δ n _ r g
          (λ f. ProgramSized.cons (EventSized.opens g (key-sized δ k i.0))
          (adds-listed n ts (receive_all s ts n δ (n + count ts)) (λ g. receive_all-sized s ts n δ (n + count ts) i.1 g) f))
      receive-sized s (Term.public t) p δ n r g = adds-rule s (Term.public t) p δ n (nothing δ) r g (λ f. ProgramSized.nil)
      receive-sized s (Term.private t) p δ n r g = adds-rule s (Term.private t) p δ n (nothing δ) r g (λ f. ProgramSized.nil)

      receive_all-sized : (s : ℕ) (ts : Terms) (p : ℕ) (δ : Dictionary) (n : ℕ) → AllRows (table b) (rows b) ts → GivenFrom given p (listed ts)
          → Adds n (receive_all s ts p δ n)
      receive_all-sized s Terms.nil p δ n r g = λ f. ProgramSized.nil
      receive_all-sized s (Terms.cons t ts) p δ n r g =
          let d = receive s t p δ n in
          adds_then n d (receive_all s ts (suc p) d.dictionary (n + length d.given)) (receive-sized s t p δ n r.0 g.0)
          (receive_all-sized s ts (suc p) _ _ r.1 g.1)

    -- ---- a step
    module _ (p s : ℕ) (h : s < steps b) (δ : Dictionary) (n : ℕ) where
      abbrev step_terms : Terms
      step_terms = terms (table b) (messages b s)

      step_terms-rows : AllRows (table b) (rows b) step_terms
      step_terms-rows =
          rows-listed (rows b) (table b) (formed b v) (messages b s)
          (all-run (λ r. r < rows b) b (begins b 3 + step_first b s) (step_count b s) (v.steps_keep s h).listed.each)

      sent-sized : Adds n (sent s (build_all s step_terms δ))
      sent-sized f =
          let i : SizedAll b step_terms (build_all s step_terms δ).images = rw (build_all-images s step_terms δ) (images-sized _ step_terms step_terms-rows) in
          sized_new (build_all s step_terms δ).made (ProgramSized.cons (EventSized.sends h i) ProgramSized.nil)

      arrived-sized : Adds n (followed (arrived s step_terms δ n) (receive_all s step_terms n δ (n + count step_terms)))
      arrived-sized f =
          ProgramSized.cons EventSized.receives
          (adds-listed n step_terms (receive_all s step_terms n δ (n + count step_terms)) (receive_all-sized s step_terms n δ (n + count step_terms) step_terms-rows) f)

      step-sized : Adds n (step_did b p s δ n)
      step-sized = go (ℕ_discrete (sender b s) p) (ℕ_discrete (receiver b s) p)
        where
          go : Dec (sender b s ≡ p) → Dec (receiver b s ≡ p) → Adds n (step_did b p s δ n)
          go (yes e) r = rw (step-sends b p s δ n e) sent-sized
          go (no e) (yes r) = rw (step-receives b p s δ n e r) arrived-sized
          go (no e) (no r) = rw (step-idle b p s δ n e r) (λ f. ProgramSized.nil)

    -- ---- the steps before a step
    before-sized : (p i : ℕ) → i ≤ steps b → Adds 0 (before b p i)
    before-sized p zero h = rw (before-none b p) (λ f. ProgramSized.nil)
    before-sized p (suc i) h =
        let d = before b p i in
        let e = step_did b p i d.dictionary (length d.given) in
        let k : Adds (length d.given) e = step-sized p i (omega arith) d.dictionary (length d.given) in
        rw (before_more b p i)
        (adds_then 0 d e (before-sized p i (omega arith)) (subst (λ m. Adds m e) (sym (zero-add (length d.given))) k))

  -- "An image is never longer than its row's size": each image of each event of each party's program
  pub programs-sized : (p : ℕ) → p < parties b → ProgramSized b (before b p (steps b)).given (program_of (narration b) p)
  programs-sized p h =
      let d = before b p (steps b) in
      rw (before-all b p h) (sized-append (before-sized d.given p (steps b) (omega arith) (from_all d.given))
      (ProgramSized.cons EventSized.ends ProgramSized.nil))
