-- Laws of how long a party's doing can get. Assumes nothing.
use Prim.Native.Nat.{ℕ, zero, suc, ◌+◌, ◌*◌, ◌^◌, ◌≤◌, ◌<◌}
use Rattle.std.proofs.Math.Decide.{ℕ_discrete}
use native.Mathlib.Omega.{arith}
use mathlib.Core.List.{List, [], ◌∷◌, ◌++◌, map}
use Rattle.std.specs.Prelude.{◌≡◌, refl}
use Rattle.std.proofs.Math.Path.{ap}
use Rattle.std.proofs.Common.{◌∙◌}
use Rattle.std.proofs.Math.ListN.{length, length-append}
use Rattle.words.specs.Run.{All, values}
use Rattle.words.specs.Run.Laws.{run_length, all-run, values_length}
use Rattle.terms.specs.Term.{Term, Terms, count, listed, gathered, partner, size, sizes}
use Rattle.terms.specs.Term.Laws.{size-two, size-partner, count-listed}
use Rattle.terms.specs.Table.{Table, Formed, terms, row_size, number}
use Rattle.terms.specs.Table.Laws.{size-term}
use Rattle.book.specs.Layout.{table, rows, parties, steps, begins, sender, receiver, messages, step_first, step_count}
use Rattle.book.specs.Valid.{Valid}
use Rattle.book.specs.Valid.Laws.{formed}
use Rattle.book.specs.Headed.Laws.{valid-headed}
use Rattle.translation.specs.Dictionary.{Dictionary, image}
use Rattle.translation.specs.Dictionary.Laws.{image-short}
use Rattle.translation.specs.Build.{build_all}
use Rattle.translation.specs.Build.Laws.{build_all-made}
use Rattle.translation.specs.Along.Laws.{build_all-short}
use Rattle.translation.specs.Receive.{Event, Stored, Did, nothing, followed, rule, by_rule, compared, kept, opened, receive, receive_all}
use Rattle.translation.proofs.Receive.Laws.{by-rule}
use Rattle.translation.specs.Program.{sent, arrived}
use Rattle.translation.proofs.Stored.Laws.{walked-few}
use Rattle.translation.specs.Listing.{triple_words, event_words, program_words, heads, bodies, framed, part_words, listing}
use Rattle.translation.proofs.Spelling.Laws.{heads-length}
use Rattle.translation.proofs.Steps.Laws.{step-sends, step-receives, step-idle, before-none, before_more, before-all}
use Rattle.translation.specs.Steps.{step_did, before}
use Rattle.translation.proofs.Listing.Laws.{program-append}
use Rattle.translation.specs.Long.{step_size, step_words, most_placeholders, most_events, most_part, most_listing, Small, Within}

module _ (row : Term → ℕ) where
  program-then : (es fs : List Event) → length (program_words row (es ++ fs)) ≡ length (program_words row es) + length (program_words row fs)
  program-then es fs = ap length (program-append row es fs) ∙ length-append (program_words row es) (program_words row fs)

  program-one : (e : Event) → length (program_words row (e ∷ [])) ≡ length (event_words row e)
  unfolding program_words
  program-one e = let h = length-append (event_words row e) [] in omega arith

  -- ---- receiving
  small-nothing : (z : ℕ) (δ : Dictionary) → 1 ≤ z → Small row 1 z (nothing δ)
  unfolding program_words
  small-nothing z δ h = record { given = omega arith; stored = omega arith; words = omega arith }

  small-compared : (t : Term) (p : ℕ) (δ : Dictionary) → Small row 1 (size t) (compared t p δ)
  unfolding event_words
  small-compared t p δ =
      let h = size-two t in
      let w = image-short row δ t in
      let e = program-one (Event.checks p (image δ t)) in
      record { given = omega arith; stored = omega arith; words = omega arith }

  small-kept : (s : ℕ) (t : Term) (p : ℕ) (δ : Dictionary) → Small row 1 (size t) (kept s t p δ)
  unfolding program_words
  small-kept s t p δ = let h = size-two t in record { given = omega arith; stored = omega arith; words = omega arith }

  small-rule : (s : ℕ) (t : Term) (p : ℕ) (δ : Dictionary) (o : Did) → Small row 1 (size t) o
      → Small row 1 (size t) (by_rule (rule δ t) (compared t p δ) o (kept s t p δ))
  small-rule s t p δ o h = by-rule (Small row 1 (size t)) (rule δ t) _ _ _ (small-compared t p δ) h (small-kept s t p δ)

  small-opened : (k : Term) (ts : Terms) (p : ℕ) (δ : Dictionary) (n : ℕ) (d : Did) → Small row (count ts) (sizes ts) d
      → Small row 1 (size (Term.cipher k ts)) (followed (opened k ts p δ n) d)
  unfolding event_words size
  small-opened k ts p δ n d s =
      let h = size-two k in
      let q = size-partner k in
      let w = image-short row δ (partner k) in
      let e = program-one (Event.opens p n (count ts) (image δ (partner k))) in
      let f = program-then (Event.opens p n (count ts) (image δ (partner k)) ∷ []) d.events in
      let c = count-listed ts in
      let g = length-append (listed ts) d.given in
      let x = s.given in
      let y = s.stored in
      let z = s.words in
      record { given = omega arith; stored = omega arith; words = omega arith }

  small-then : {e y z : ℕ} {d f : Did} → Small row 1 y d → Small row e z f → Small row (suc e) (y + z) (followed d f)
  small-then {d = d} {f = f} s t =
      let g = length-append d.given f.given in
      let h = length-append d.stored f.stored in
      let w = program-then d.events f.events in
      let s1 = s.given in
      let s2 = s.stored in
      let s3 = s.words in
      let t1 = t.given in
      let t2 = t.stored in
      let t3 = t.words in
      record { given = omega arith; stored = omega arith; words = omega arith }

  small-none : (δ : Dictionary) → Small row 0 0 (nothing δ)
  unfolding program_words
  small-none δ = record { given = omega arith; stored = omega arith; words = omega arith }

  mutual
    unfolding receive size count

    pub receive-small : (s : ℕ) (t : Term) (p : ℕ) (δ : Dictionary) (n : ℕ) → Small row 1 (size t) (receive s t p δ n)
    receive-small s (Term.atom r) p δ n = small-rule s (Term.atom r) p δ _ (small-nothing _ δ (omega arith))
    receive-small s (Term.operation g ts) p δ n = small-rule s (Term.operation g ts) p δ _ (small-nothing _ δ (omega arith))
    receive-small s (Term.cipher k ts) p δ n = small-rule s (Term.cipher k ts) p δ _ (small-opened k ts p δ n _ (receive_all-small s ts n δ (n + count ts)))
    receive-small s (Term.public t) p δ n = small-rule s (Term.public t) p δ _ (small-nothing _ δ (omega arith))
    receive-small s (Term.private t) p δ n = small-rule s (Term.private t) p δ _ (small-nothing _ δ (omega arith))

    pub receive_all-small : (s : ℕ) (ts : Terms) (p : ℕ) (δ : Dictionary) (n : ℕ) → Small row (count ts) (sizes ts) (receive_all s ts p δ n)
    receive_all-small s Terms.nil p δ n = small-none δ
    receive_all-small s (Terms.cons t ts) p δ n = small-then (receive-small s t p δ n) (receive_all-small s ts (suc p) _ _)

  -- ---- doings within bounds
  within-nothing : (g w : ℕ) (δ : Dictionary) → Within row g w (nothing δ)
  unfolding program_words
  within-nothing g w δ = record { given = omega arith; stored = omega arith; words = omega arith }

  within-then : {x y z w : ℕ} {d f : Did} → Within row x y d → Within row z w f → Within row (x + z) (y + w) (followed d f)
  within-then {d = d} {f = f} s t =
      let g = length-append d.given f.given in
      let h = length-append d.stored f.stored in
      let w = program-then d.events f.events in
      let s1 = s.given in
      let s2 = s.stored in
      let s3 = s.words in
      let t1 = t.given in
      let t2 = t.stored in
      let t3 = t.words in
      record { given = omega arith; stored = omega arith; words = omega arith }

-- ---- the same, number by number
pub receive_all-given : (s : ℕ) (ts : Terms) (p : ℕ) (δ : Dictionary) (n : ℕ) → count ts + length (receive_all s ts p δ n).given ≤ sizes ts
receive_all-given s ts p δ n = (receive_all-small (λ u. 0) s ts p δ n).given

-- ---- sending
pub news-words : (row : Term → ℕ) (rs : List ℕ) → length (program_words row (map Event.new rs)) ≡ 2 * length rs
unfolding program_words event_words
news-words row [] = refl
news-words row (r ∷ rs) = let h = news-words row rs in omega arith

pub sent-words : (row : Term → ℕ) (i : ℕ) (ts : Terms) (δ : Dictionary)
    → length (program_words row (sent i (build_all i ts δ)).events) ≤ 3 + 2 * sizes ts
unfolding event_words
sent-words row i ts δ =
    let c = build_all i ts δ in
    let f = program-then row (map Event.new c.made) (Event.sends i c.images ∷ []) in
    let e = program-one row (Event.sends i c.images) in
    let g = news-words row c.made in
    let h = build_all-made i ts δ in
    let w = build_all-short row i ts δ in
    omega arith

-- ---- a step
sizes-most : (tab : Table) (n : ℕ) → Formed n tab → ((r : ℕ) → r < n → row_size tab r ≤ 1024) → (rs : List ℕ) → All (λ r. r < n) rs
    → sizes (terms tab rs) ≤ 1024 * length rs
unfolding terms gathered size
sizes-most tab n ok most [] a = omega arith
sizes-most tab n ok most (r ∷ rs) a =
    let e = size-term n tab ok r a.0 in
    let h = most r a.0 in
    let k = sizes-most tab n ok most rs a.1 in
    omega arith

module _ (b : List ℕ) (v : Valid b) where
  -- the sizes of a step's messages
  pub step-sizes : (s : ℕ) → s < steps b → sizes (terms (table b) (messages b s)) ≤ step_size
  step-sizes s h =
      let k = (v.steps_keep s h).listed.high in
      let l = run_length b (begins b 3 + step_first b s) (step_count b s) in
      let z = sizes-most (table b) (rows b) (formed b v) v.sizes_keep (messages b s)
      (all-run (λ r. r < rows b) b (begins b 3 + step_first b s) (step_count b s) (v.steps_keep s h).listed.each) in
      omega arith

  module _ (row : Term → ℕ) where
    within-sent : (s : ℕ) → s < steps b → (δ : Dictionary) → Within row step_size step_words (sent s (build_all s (terms (table b) (messages b s)) δ))
    within-sent s h δ =
        let k = step-sizes s h in
        let w = sent-words row s (terms (table b) (messages b s)) δ in
        record { given = omega arith; stored = omega arith; words = omega arith }

    within-arrived : (s : ℕ) → s < steps b → (δ : Dictionary) (n : ℕ)
        → Within row step_size step_words
        (followed (arrived s (terms (table b) (messages b s)) δ n)
        (receive_all s (terms (table b) (messages b s)) n δ (n + count (terms (table b) (messages b s)))))
    unfolding event_words
    within-arrived s h δ n =
        let ts = terms (table b) (messages b s) in
        let d = receive_all s ts n δ (n + count ts) in
        let k = step-sizes s h in
        let small = receive_all-small row s ts n δ (n + count ts) in
        let x = small.given in
        let y = small.stored in
        let z = small.words in
        let c = count-listed ts in
        let g = length-append (listed ts) d.given in
        let f = program-then row (Event.receives s n (count ts) ∷ []) d.events in
        let e = program-one row (Event.receives s n (count ts)) in
        record { given = omega arith; stored = omega arith; words = omega arith }

    pub step-within : (p s : ℕ) → s < steps b → (δ : Dictionary) (n : ℕ) → Within row step_size step_words (step_did b p s δ n)
    step-within p s h δ n = go (ℕ_discrete (sender b s) p) (ℕ_discrete (receiver b s) p)
      where
        go : Dec (sender b s ≡ p) → Dec (receiver b s ≡ p) → Within row step_size step_words (step_did b p s δ n)
        go (yes e) r = rw (step-sends b p s δ n e) (within-sent s h δ)
        go (no e) (yes r) = rw (step-receives b p s δ n e r) (within-arrived s h δ n)
        go (no e) (no r) = rw (step-idle b p s δ n e r) (within-nothing row step_size step_words δ)

    -- ---- the steps before a step
    pub before-within : (p i : ℕ) → i ≤ steps b → Within row (step_size * i) (step_words * i) (before b p i)
    before-within p zero h = rw (before-none b p) (within-nothing row _ _ _)
    before-within p (suc i) h =
        let k = within-then row (before-within p i (omega arith)) (step-within p i (omega arith) (before b p i).dictionary (length (before b p i).given)) in
        let g : step_size * i + step_size ≡ step_size * suc i = omega arith in
        let w : step_words * i + step_words ≡ step_words * suc i = omega arith in
        rw (before_more b p i) (rw (g, w) at k)

    -- of all steps: the largest numbers
    pub all-within : (p i : ℕ) → i ≤ steps b → Within row most_placeholders most_events (before b p i)
    all-within p i h =
        let k = before-within p i h in
        let m = (valid-headed b v).few_steps in
        let x = k.given in
        let y = k.stored in
        let z = k.words in
        record { given = omega arith; stored = omega arith; words = omega arith }

  -- before a step there is room for all that the step can give
  pub given-room : (p i : ℕ) → i < steps b → length (before b p i).given + step_size ≤ most_placeholders
  given-room p i h = let k = (before-within (λ t. 0) p i (omega arith)).given in let m = (valid-headed b v).few_steps in omega arith

  -- and in all a party stores no more terms than there are rows
  pub stored-few : (p i : ℕ) → i ≤ steps b → length (before b p i).stored ≤ rows b
  unfolding before
  stored-few p i h = walked-few b v _ p i h

-- ---- the words of a program and of a listing
pub triples-length : (row : Term → ℕ) (ps : List Stored) → length (triple_words row ps) ≡ 3 * length ps
unfolding triple_words
triples-length row [] = refl
triples-length row (p ∷ ps) = let h = triples-length row ps in omega arith

pub ends-length : (row : Term → ℕ) (ps : List Stored) → length (event_words row (Event.ends ps)) ≡ 2 + 3 * length ps
unfolding event_words
ends-length row ps = let h = triples-length row ps in omega arith

module _ (b : List ℕ) where
  -- how the words of a program come about
  pub part_length : (p : ℕ) → p < parties b
      → length (part_words b p)
      ≡ length (program_words (number (table b) (rows b)) (before b p (steps b)).events) + (2 + 3 * length (before b p (steps b)).stored)
  unfolding part_words
  part_length p h =
      let row = number (table b) (rows b) in
      let d = before b p (steps b) in
      ap (λ es. length (program_words row es)) (before-all b p h) ∙ program-then row d.events (Event.ends d.stored ∷ [])
      ∙ ap (λ n. length (program_words row d.events) + n) (program-one row (Event.ends d.stored) ∙ ends-length row d.stored)

  -- and those of a listing
  pub listing-length : length (listing b) ≡ 1 + 2 * parties b + length (bodies (values (part_words b) 0 (parties b)))
  unfolding listing framed
  listing-length =
      let ls = values (part_words b) 0 (parties b) in
      let n = values_length (part_words b) 0 (parties b) in
      let h = heads-length (1 + 2 * length ls) ls in
      let e = length-append (heads (1 + 2 * length ls) ls) (bodies ls) in
      omega arith

module _ (b : List ℕ) (v : Valid b) where
  pub part-short : (p : ℕ) → p < parties b → length (part_words b p) ≤ most_part
  part-short p h =
      let k = all-within b v (number (table b) (rows b)) p (steps b) (omega arith) in
      let e = part_length b p h in
      let y = stored-few b v p (steps b) (omega arith) in
      let few = (valid-headed b v).few_rows in
      let z = k.words in
      omega arith

  bodies-from : (i n : ℕ) → i + n ≤ parties b → length (bodies (values (part_words b) i n)) ≤ most_part * n
  unfolding bodies values
  bodies-from i zero h = omega arith
  bodies-from i (suc n) h =
      let k = part-short i (omega arith) in
      let l = bodies-from (suc i) n (omega arith) in
      let e = length-append (part_words b i) (bodies (values (part_words b) (suc i) n)) in
      omega arith

  -- the programs of the first q parties
  pub bodies-short : (q : ℕ) → q ≤ parties b → length (bodies (values (part_words b) 0 q)) ≤ most_part * q
  bodies-short q h = bodies-from 0 q (omega arith)

  -- where the program of party q begins, and behind the last party the listing's end
  pub offset-short : (q : ℕ) → q ≤ parties b → 1 + 2 * parties b + length (bodies (values (part_words b) 0 q)) ≤ most_listing
  offset-short q h = let m = (valid-headed b v).few_parties in let k = bodies-short q h in omega arith

  pub listing-short : length (listing b) ≤ most_listing
  listing-short = let e = listing-length b in let k = offset-short (parties b) (omega arith) in omega arith

-- ---- the bounds are far inside a word
pub part-fits : most_part < 2 ^ 21
part-fits = omega arith

pub listing-fits : most_listing < 2 ^ 25
listing-fits = omega arith
