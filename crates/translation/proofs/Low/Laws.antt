-- Laws of words of 32 bits: what building makes, and the row of refusals 10 and 13, are rows of the book; and no word of a valid book's listing
-- leaves 32 bits. Assumes nothing.
use Prim.Native.Nat.{ℕ, zero, suc, ◌+◌, ◌*◌, ◌≤◌, ◌<◌}
use Rattle.std.proofs.Math.Decide.{ℕ_discrete}
use native.Mathlib.Omega.{arith}
use Rattle.std.specs.Prelude.{true, ◌≡◌, refl}
use mathlib.Core.List.{List, [], ◌∷◌, ◌++◌, map, Memᴰ}
use Rattle.std.proofs.Math.Path.{sym, ap}
use Rattle.std.proofs.Common.{◌∙◌, length-append}
use Rattle.std.proofs.Math.ListN.{length}
use Rattle.words.specs.First.Laws.{first-le}
use Rattle.words.specs.Run.{All, values}
use Rattle.words.specs.Run.Laws.{all-run, all_get_d, all-imp, values_length}
use Rattle.terms.specs.Term.{Term, Terms, count, listed, gathered, partner}
use Rattle.terms.specs.Term.Laws.{count-listed, count-gathered}
use Rattle.terms.specs.Image.{Image, count_images, words, words_of}
use Rattle.terms.specs.Kind.{of_kind, Tagged}
use Rattle.terms.specs.Table.{Table, form, term, terms, number, Formed, IsRow, AllRows}
use Rattle.terms.specs.Table.Laws.{kind_of, kind_row, atom-row, term-row, shape_row, rows-listed, atoms_in-rows}
use Rattle.book.specs.Layout.{table, rows, parties, steps, begins, sender, receiver, messages, step_first, step_count}
use Rattle.book.specs.Valid.{Valid}
use Rattle.book.specs.Valid.Laws.{formed}
use Rattle.book.specs.Headed.Laws.{valid-headed}
use Rattle.translation.specs.Dictionary.{Held, Dictionary, enter, start, image_or, image, images}
use Rattle.translation.specs.Dictionary.Laws.{enter-ind}
use Rattle.translation.specs.Build.{Built, built_or, build, build_all}
use Rattle.translation.specs.Build.Laws.{built-or, build_all-makes}
use Rattle.translation.specs.Along.Laws.{build_all-images}
use Rattle.translation.specs.Receive.{Event, Did, nothing, followed, rule, by_rule, compared, kept, opened, receive, receive_all}
use Rattle.translation.proofs.Receive.Laws.{by-rule}
use Rattle.translation.specs.Program.{sent, arrived}
use Rattle.translation.specs.Narration.{narration, step_at}
use Rattle.translation.specs.Steps.{step_did, before}
use Rattle.translation.proofs.Steps.Laws.{step-sends, step-receives, step-idle, before-none, before_more, before-all}
use Rattle.translation.specs.Taken.{step_of, holds_before, made_at, unplayable, stop_row}
use Rattle.translation.specs.Taken.Laws.{step_is, stop-there}
use Rattle.translation.specs.Listing.{triple_words, event_words, program_words, heads, bodies, framed, part_words, listing}
use Rattle.translation.proofs.Listing.Laws.{program-append, triples-append}
use Rattle.translation.specs.Long.{step_size, most_placeholders}
use Rattle.translation.proofs.Long.Laws.{step-sizes, receive_all-given, given-room, all-within, offset-short}
use Rattle.translation.specs.Low.{word_limit, Low, HeldLow, HoldsLow, TermLow, TermsLow, DidLow}

-- ---- lists
members-all : (P : ℕ → Type 0) (xs : List ℕ) → ((x : ℕ) → Memᴰ x xs → P x) → All P xs
members-all P [] f = tt
members-all P (x ∷ xs) f = (f x (Memᴰ.head refl), members-all P xs (λ y m. f y (Memᴰ.tail m)))

pub low-append : (a c : List ℕ) → Low a → Low c → Low (a ++ c)
low-append [] c h k = k
low-append (x ∷ a) c h k = (h.0, low-append a c h.1 k)

-- ---- a row number
number-most : (tab : Table) (n : ℕ) (t : Term) → number tab n t ≤ n
unfolding number
number-most tab n t = first-le _ n

-- ---- a term's tags and counts
partner-low : {k : Term} → TermLow k → TermLow (partner k)
unfolding partner
partner-low TermLow.atom = TermLow.atom
partner-low (TermLow.operation g c h) = TermLow.operation g c h
partner-low (TermLow.cipher c x h) = TermLow.cipher c x h
partner-low (TermLow.public h) = TermLow.private h
partner-low (TermLow.private h) = TermLow.public h

form-low : (r k g : ℕ) (ts : Terms) → Tagged k g → count ts ≤ (of_kind k).most → TermsLow ts → TermLow (form r k g ts)
unfolding form count
form-low r zero g ts a c h = TermLow.atom
form-low r (suc zero) g ts a c h = TermLow.operation {g = g} {ts = ts} (omega arith) (omega arith) h
form-low r (suc (suc zero)) g Terms.nil a c h = TermLow.atom
form-low r (suc (suc zero)) g (Terms.cons t ts) a c (TermsLow.cons x h) = TermLow.cipher {k = t} {ts = ts} (omega arith) x h
form-low r (suc (suc (suc zero))) g Terms.nil a c h = TermLow.atom
form-low r (suc (suc (suc zero))) g (Terms.cons t ts) a c (TermsLow.cons x h) = TermLow.public x
form-low r (suc (suc (suc (suc zero)))) g Terms.nil a c h = TermLow.atom
form-low r (suc (suc (suc (suc zero)))) g (Terms.cons t ts) a c (TermsLow.cons x h) = TermLow.private x
form-low r (suc (suc (suc (suc (suc k))))) g ts a c h = TermLow.atom

module _ (tab : Table) (n : ℕ) (ok : Formed n tab) where
  -- ---- the atoms that building makes are rows: an atom that is a row's term is that row's
  pub atom-below : (q : ℕ) → IsRow tab n (Term.atom q) → q < n
  unfolding kind_of
  atom-below q i =
      let k : (tab i.row).kind ≡ 0 = sym (kind_row n tab ok i.row i.within) ∙ ap kind_of i.stands in
      let a : Term.atom i.row ≡ Term.atom q = sym (atom-row n tab ok i.row i.within k) ∙ i.stands in
      let e : i.row ≡ q = cc in
      let l = i.within in
      omega arith

  pub made-below : (s : ℕ) (ts : Terms) (δ : Dictionary) → AllRows tab n ts → All (λ r. r < n) (build_all s ts δ).made
  made-below s ts δ h =
      members-all (λ r. r < n) (build_all s ts δ).made (λ r m. atom-below r (atoms_in-rows n tab ok h ((build_all-makes s ts δ).within r m)))

  -- ---- a row's tags and counts
  terms-from : (P : ℕ → Type 0) → ((p : ℕ) → P p → TermLow (term tab p)) → (rs : List ℕ) → All P rs → TermsLow (terms tab rs)
  unfolding terms gathered
  terms-from P f [] a = TermsLow.nil
  terms-from P f (r ∷ rs) a = TermsLow.cons (f r a.0) (terms-from P f rs a.1)

  term-below : (m r : ℕ) → r < m → r < n → TermLow (term tab r)
  unfolding terms
  term-below zero r h l = absurd (omega arith)
  term-below (suc m) r h l =
      let ps = (tab r).parts in
      let c = count-gathered (map (term tab) ps) in
      let s = (shape_row n tab ok r l).high in
      let k = terms-from (λ p. p < r) (λ p q. term-below m p (omega arith) (omega arith)) ps (ok.before r l) in
      rw (term-row n tab ok r l) (form-low r _ _ (terms tab ps) (ok.tags r l) (omega arith) k)

  terms-low : (rs : List ℕ) → All (λ r. r < n) rs → TermsLow (terms tab rs)
  terms-low rs a = terms-from (λ r. r < n) (λ r l. term-below (suc r) r (omega arith) l) rs a

-- ---- dictionaries
enter-low : (δ : Dictionary) (t : Term) (h : Held) → HoldsLow δ → HeldLow h → HoldsLow (enter δ t h)
enter-low δ t h d x u = enter-ind HeldLow δ t h u (λ e. x) (λ e. d u)

start-low : (ts : List Term) → HoldsLow (start ts)
unfolding start
start-low [] u = tt
start-low (t ∷ ts) u = enter-low (start ts) t Held.given (start-low ts) tt u

or-low : (t : Term) (δ : Dictionary) (b : Built) → HoldsLow δ → HoldsLow b.dictionary → HoldsLow (built_or (δ t) t δ b).dictionary
or-low t δ b d g = built-or (λ c. HoldsLow c.dictionary) (δ t) t δ b (λ i h j. d) (λ e. g)

mutual
  unfolding build

  build-low : (s : ℕ) (t : Term) (δ : Dictionary) → HoldsLow δ → HoldsLow (build s t δ).dictionary
  build-low s (Term.atom r) δ d = or-low (Term.atom r) δ _ d (enter-low δ (Term.atom r) (Held.made s) d tt)
  build-low s (Term.operation g ts) δ d = or-low (Term.operation g ts) δ _ d (build_all-low s ts δ d)
  build-low s (Term.cipher k ts) δ d = or-low (Term.cipher k ts) δ _ d (build_all-low s ts (build s k δ).dictionary (build-low s k δ d))
  build-low s (Term.public t) δ d = or-low (Term.public t) δ _ d (build-low s t δ d)
  build-low s (Term.private t) δ d = or-low (Term.private t) δ _ d (build-low s t δ d)

  build_all-low : (s : ℕ) (ts : Terms) (δ : Dictionary) → HoldsLow δ → HoldsLow (build_all s ts δ).dictionary
  build_all-low s Terms.nil δ d = d
  build_all-low s (Terms.cons t ts) δ d = build_all-low s ts (build s t δ).dictionary (build-low s t δ d)

images-count : (δ : Dictionary) (ts : Terms) → count_images (images δ ts) ≡ count ts
unfolding images count_images count
images-count δ Terms.nil = refl
images-count δ (Terms.cons t ts) = ap suc (images-count δ ts)

module _ (row : Term → ℕ) where
  -- ---- doings, one after another
  low-one : (e : Event) → Low (event_words row e) → Low (program_words row (e ∷ []))
  unfolding program_words
  low-one e h = low-append (event_words row e) [] h tt

  low-program : (es fs : List Event) → Low (program_words row es) → Low (program_words row fs) → Low (program_words row (es ++ fs))
  low-program es fs h k = rw (program-append row es fs) (low-append (program_words row es) (program_words row fs) h k)

  low-nothing : (δ : Dictionary) → HoldsLow δ → DidLow row (nothing δ)
  unfolding program_words triple_words
  low-nothing δ d = record { holds = d; words = tt; triples = tt }

  low-then : (d e : Did) → DidLow row d → DidLow row e → DidLow row (followed d e)
  low-then d e h k =
      record {
        holds = k.holds;
        words = low-program d.events e.events h.words k.words;
        triples = rw (triples-append row d.stored e.stored)
            (low-append (triple_words row d.stored) (triple_words row e.stored) h.triples k.triples);
      }

  -- ---- sending
  news-low : (rs : List ℕ) → Low rs → Low (program_words row (map Event.new rs))
  unfolding program_words event_words
  news-low [] h = tt
  news-low (r ∷ rs) h = (omega arith, (h.0, news-low rs h.1))

module _ (row : Term → ℕ) (few : (t : Term) → row t < word_limit) where
  -- ---- image
  image-or : (h : Held) (t : Term) (i : Image) → HeldLow h → Low (words row i) → Low (words row (image_or h t i))
  unfolding words image_or
  image-or Held.free t i h l = l
  image-or Held.given t i h l = (omega arith, (few t, tt))
  image-or (Held.made s) t i h l = (omega arith, (few t, tt))
  image-or (Held.stored s x) t i h l = (omega arith, (h, tt))

  mutual
    unfolding image words

    image-low : (δ : Dictionary) → HoldsLow δ → (t : Term) → TermLow t → Low (words row (image δ t))
    image-low δ d (Term.atom r) TermLow.atom = image-or _ _ _ (d (Term.atom r)) (omega arith, (few (Term.atom r), tt))
    image-low δ d (Term.operation g ts) (TermLow.operation x c h) =
        image-or _ _ _ (d (Term.operation g ts)) (omega arith, (x, (let e = images-count δ ts in omega arith, images-low δ d ts h)))
    image-low δ d (Term.cipher k ts) (TermLow.cipher c x h) =
        image-or _ _ _ (d (Term.cipher k ts)) (
          omega arith,
          (
            let e = images-count δ ts in omega arith,
            low-append (words row (image δ k)) (words_of row (images δ ts)) (image-low δ d k x) (images-low δ d ts h),
          ),
        )
    image-low δ d (Term.public t) (TermLow.public h) = image-or _ _ _ (d (Term.public t)) (omega arith, image-low δ d t h)
    image-low δ d (Term.private t) (TermLow.private h) = image-or _ _ _ (d (Term.private t)) (omega arith, image-low δ d t h)

    images-low : (δ : Dictionary) → HoldsLow δ → (ts : Terms) → TermsLow ts → Low (words_of row (images δ ts))
    images-low δ d Terms.nil TermsLow.nil = tt
    images-low δ d (Terms.cons t ts) (TermsLow.cons x h) =
        low-append (words row (image δ t)) (words_of row (images δ ts)) (image-low δ d t x) (images-low δ d ts h)

  -- ---- receiving: the term at placeholder p
  module _ (p : ℕ) (l : p < word_limit) (δ : Dictionary) (d : HoldsLow δ) where
    low-compared : (t : Term) → TermLow t → DidLow row (compared t p δ)
    unfolding event_words triple_words
    low-compared t h = record { holds = d; words = low-one row (Event.checks p (image δ t)) (omega arith, (l, image-low δ d t h)); triples = tt }

    low-kept : (s : ℕ) → s < word_limit → (t : Term) → DidLow row (kept s t p δ)
    unfolding program_words triple_words
    low-kept s z t = record { holds = enter-low δ t (Held.stored s p) d l; words = tt; triples = (few t, (l, (z, tt))) }

    low-opened : (k : Term) (ts : Terms) (n : ℕ) → TermLow k → n + count ts < word_limit → DidLow row (opened k ts p δ n)
    unfolding event_words triple_words
    low-opened k ts n h m =
        record {
          holds = d;
          words = low-one row (Event.opens p n (count ts) (image δ (partner k)))
              (omega arith, (l, (omega arith, (omega arith, image-low δ d (partner k) (partner-low h)))));
          triples = tt;
        }

  -- where n is the next placeholder, and all that are given are low
  abbrev Bounded : ℕ → Did → Type 0
  Bounded n e = n + length e.given < word_limit → DidLow row e

  low-rule : (s : ℕ) → s < word_limit → (t : Term) (p : ℕ) (δ : Dictionary) (n : ℕ) (o : Did) → TermLow t → p < word_limit → HoldsLow δ → Bounded n o
      → Bounded n (by_rule (rule δ t) (compared t p δ) o (kept s t p δ))
  low-rule s z t p δ n o h l d k = by-rule (Bounded n) (rule δ t) _ _ _ (λ g. low-compared p l δ d t h) k (λ g. low-kept p l δ d s z t)

  mutual
    unfolding receive count listed

    receive-low : (s : ℕ) → s < word_limit → (t : Term) (p : ℕ) (δ : Dictionary) (n : ℕ) → TermLow t → p < word_limit → HoldsLow δ → Bounded n (receive s t p δ n)
    receive-low s z (Term.atom r) p δ n h l d = low-rule s z (Term.atom r) p δ n _ h l d (λ g. low-nothing row δ d)
    receive-low s z (Term.operation f ts) p δ n h l d = low-rule s z (Term.operation f ts) p δ n _ h l d (λ g. low-nothing row δ d)
    receive-low s z (Term.cipher k ts) p δ n (TermLow.cipher c x h) l d =
        low-rule s z (Term.cipher k ts) p δ n _ (TermLow.cipher c x h) l d
        (λ g.
        let e = receive_all s ts n δ (n + count ts) in
        let a = length-append (listed ts) e.given in
        let q = count-listed ts in
        low-then row (opened k ts p δ n) e (low-opened p l δ d k ts n x (omega arith))
        (receive_all-low s z ts n δ (n + count ts) h (omega arith) d (omega arith)))
    receive-low s z (Term.public t) p δ n h l d = low-rule s z (Term.public t) p δ n _ h l d (λ g. low-nothing row δ d)
    receive-low s z (Term.private t) p δ n h l d = low-rule s z (Term.private t) p δ n _ h l d (λ g. low-nothing row δ d)

    receive_all-low : (s : ℕ) → s < word_limit → (ts : Terms) (p : ℕ) (δ : Dictionary) (n : ℕ) → TermsLow ts → p + count ts ≤ word_limit → HoldsLow δ
        → Bounded n (receive_all s ts p δ n)
    receive_all-low s z Terms.nil p δ n h l d g = low-nothing row δ d
    receive_all-low s z (Terms.cons t ts) p δ n (TermsLow.cons x h) l d g =
        let f = receive s t p δ n in
        let e = receive_all s ts (suc p) f.dictionary (n + length f.given) in
        let a = length-append f.given e.given in
        let k = receive-low s z t p δ n x (omega arith) d (omega arith) in
        low-then row f e k (receive_all-low s z ts (suc p) f.dictionary (n + length f.given) h (omega arith) k.holds (omega arith))

-- ---- heads: offsets and counts of what ends below
heads-low : (o : ℕ) (ls : List (List ℕ)) → o + length (bodies ls) < word_limit → Low (heads o ls)
unfolding heads bodies
heads-low o [] h = tt
heads-low o (l ∷ ls) h = let e = length-append l (bodies ls) in (omega arith, (omega arith, heads-low (o + length l) ls (omega arith)))

-- ---- a valid book
module _ (b : List ℕ) (v : Valid b) where
  abbrev ok : Formed (rows b) (table b)
  ok = formed b v

  step-listed : (s : ℕ) → s < steps b → All (λ r. r < rows b) (messages b s)
  step-listed s h = all-run (λ r. r < rows b) b (begins b 3 + step_first b s) (step_count b s) (v.steps_keep s h).listed.each

  pub step-rows : (s : ℕ) → s < steps b → AllRows (table b) (rows b) (terms (table b) (messages b s))
  step-rows s h = rows-listed (rows b) (table b) ok (messages b s) (step-listed s h)

  -- ---- the row of refusals 10 and 13
  pub stop-low : (s : ℕ) → s < steps b → unplayable (narration b) s ≡ true → stop_row (narration b) s < rows b
  unfolding made_at step_at
  stop-low s h u =
      let N = narration b in
      let f = stop-there N s u in
      let r : AllRows (table b) (rows b) (step_of N s).messages = rw (step_is b s h) (step-rows s h) in
      let a = made-below (table b) (rows b) ok s (step_of N s).messages (holds_before N (step_of N s).sender s) r in
      let l = all_get_d (λ q. q < rows b) (made_at N s) a f.place f.within in
      let e = f.row in
      omega arith

  -- ---- a step
  abbrev row : Term → ℕ
  row t = number (table b) (rows b) t

  row-few : (t : Term) → row t < word_limit
  row-few t = let h = number-most (table b) (rows b) t in let m = (valid-headed b v).few_rows in omega arith

  module _ (s : ℕ) (h : s < steps b) (δ : Dictionary) (d : HoldsLow δ) where
    abbrev said : Terms
    said = terms (table b) (messages b s)

    said-low : TermsLow said
    said-low = terms-low (table b) (rows b) ok (messages b s) (step-listed s h)

    sent-low : DidLow row (sent s (build_all s said δ))
    unfolding event_words triple_words
    sent-low =
        let c = build_all s said δ in
        let ε = build_all-low s said δ d in
        let m = valid-headed b v in
        let fr = m.few_rows in
        let fs = m.few_steps in
        let n = images-count c.dictionary said in
        let z = receive_all-given s said 0 δ 0 in
        let k = step-sizes b v s h in
        let e : Low (event_words row (Event.sends s (images c.dictionary said))) =
        (omega arith, (omega arith, (omega arith, images-low row row-few c.dictionary ε said said-low))) in
        let w : Low (program_words row (Event.sends s c.images ∷ [])) =
        low-one row (Event.sends s c.images) (rw (build_all-images s said δ) e) in
        let a : Low c.made =
        all-imp (λ r. r < rows b) (λ r. r < word_limit) (λ r l. omega arith) c.made (made-below (table b) (rows b) ok s said δ (step-rows s h)) in
        record {
          holds = ε;
          words = low-program row (map Event.new c.made) (Event.sends s c.images ∷ []) (news-low row c.made a) w;
          triples = tt;
        }

    arrived-low : (n : ℕ) → n + step_size ≤ most_placeholders → DidLow row (followed (arrived s said δ n) (receive_all s said n δ (n + count said)))
    unfolding event_words triple_words
    arrived-low n l =
        let e = receive_all s said n δ (n + count said) in
        let z = receive_all-given s said n δ (n + count said) in
        let k = step-sizes b v s h in
        let m = (valid-headed b v).few_steps in
        low-then row (arrived s said δ n) e
        (record {
          holds = d;
          words = low-one row (Event.receives s n (count said)) (omega arith, (omega arith, (omega arith, (omega arith, tt))));
          triples = tt;
        })
        (receive_all-low row row-few s (omega arith) said n δ (n + count said) said-low (omega arith) d (omega arith))

    step-low : (p n : ℕ) → n + step_size ≤ most_placeholders → DidLow row (step_did b p s δ n)
    step-low p n l = go (ℕ_discrete (sender b s) p) (ℕ_discrete (receiver b s) p)
      where
        go : Dec (sender b s ≡ p) → Dec (receiver b s ≡ p) → DidLow row (step_did b p s δ n)
        go (yes e) r = rw (step-sends b p s δ n e) sent-low
        go (no e) (yes r) = rw (step-receives b p s δ n e r) (arrived-low n l)
        go (no e) (no r) = rw (step-idle b p s δ n e r) (low-nothing row δ d)

  -- ---- the steps before a step
  pub before-low : (p i : ℕ) → i ≤ steps b → DidLow row (before b p i)
  before-low p zero h = rw (before-none b p) (low-nothing row _ (start-low _))
  before-low p (suc i) h =
      let k = before-low p i (omega arith) in
      let δ = (before b p i).dictionary in
      let n = length (before b p i).given in
      rw (before_more b p i)
      (low-then row (before b p i) (step_did b p i δ n) k
      (step-low i (omega arith) δ k.holds p n (given-room b v p i (omega arith))))

  -- ---- the words of a program and of a listing
  pub part_low : (p : ℕ) → p < parties b → Low (part_words b p)
  unfolding part_words event_words
  part_low p h =
      let d = before b p (steps b) in
      let k = before-low p (steps b) (omega arith) in
      let m = (all-within b v row p (steps b) (omega arith)).stored in
      rw (before-all b p h)
      (low-program row d.events (Event.ends d.stored ∷ []) k.words
      (low-one row (Event.ends d.stored) (omega arith, (omega arith, k.triples))))

  bodies-low : (i n : ℕ) → i + n ≤ parties b → Low (bodies (values (part_words b) i n))
  unfolding bodies values
  bodies-low i zero h = tt
  bodies-low i (suc n) h =
      low-append (part_words b i) (bodies (values (part_words b) (suc i) n)) (part_low i (omega arith)) (bodies-low (suc i) n (omega arith))

  pub listing-low : All (λ w. w < 4294967296) (listing b)
  unfolding listing framed
  listing-low =
      let ls = values (part_words b) 0 (parties b) in
      let n = values_length (part_words b) 0 (parties b) in
      let m = (valid-headed b v).few_parties in
      let k = offset-short b v (parties b) (omega arith) in (
        omega arith,
        low-append (heads (1 + 2 * length ls) ls) (bodies ls) (heads-low (1 + 2 * length ls) ls (omega arith))
            (bodies-low 0 (parties b) (omega arith)),
      )
