-- The words of a listing spell its programs back. Assumes nothing.
use Prim.Native.Nat.{ℕ, zero, suc, ◌+◌, ◌*◌, ◌≤◌, ◌<◌}
use mathlib.Core.List.{List, [], ◌∷◌, ◌++◌, append_assoc}
use Rattle.std.proofs.Math.Option.{some}
use Rattle.std.specs.Prelude.{◌≡◌, length, get_or, take, drop}
use Rattle.std.proofs.Math.Path.{refl}
use Rattle.std.proofs.Common.{sym, ap, ◌∙◌, subst}
use native.Mathlib.Omega.{arith}
use Rattle.std.proofs.Math.ListN.{length-append, get_or-append}
use Rattle.std.proofs.Math.Seq.{drop-append-add, take-append_seam}
use Rattle.words.specs.Choice.{then}
use Rattle.words.specs.Run.{values}
use Rattle.words.specs.Run.Laws.{run_take, values_length, values-get_d}
use Rattle.terms.specs.Term.{Term}
use Rattle.terms.specs.Table as Table
use Rattle.terms.specs.Table.{number}
use Rattle.terms.specs.Table.Laws.{number-back}
use Rattle.terms.specs.Image.{Image, Images, count_images, words, words_of}
use Rattle.book.specs.Layout.{table, rows, parties}
use Rattle.book.specs.Valid.{Valid}
use Rattle.book.specs.Valid.Laws.{formed}
use Rattle.translation.specs.Receive.{Event, Stored}
use Rattle.translation.specs.Narration.{narration, program_of}
use Rattle.translation.specs.Rows.{Names, NamesAll, StoredAll, EventNames, ProgramNames}
use Rattle.translation.proofs.Rows.Laws.{programs-name-rows}
use Rattle.translation.specs.Listing.{triple_words, event_words, program_words, heads, bodies, framed, part_words, listing}
use Rattle.translation.specs.Spelling.{read_image, read_images, read_triples, read_event, read_events, read_program, part_of}

-- ---- the fuel that an image takes is no more than its words
unfoldable mutual
  depth : Image → ℕ
  depth (Image.itself t) = 1
  depth (Image.placeholder x) = 1
  depth (Image.operation g is) = suc (depths is)
  depth (Image.cipher k is) = suc (depth k + depths is)
  depth (Image.public i) = suc (depth i)
  depth (Image.private i) = suc (depth i)

  depths : Images → ℕ
  depths Images.nil = 1
  depths (Images.cons i is) = suc (depth i + depths is)

depth-one : (i : Image) → 1 ≤ depth i
unfolding depth
depth-one (Image.itself t) = omega arith
depth-one (Image.placeholder x) = omega arith
depth-one (Image.operation g is) = omega arith
depth-one (Image.cipher k is) = omega arith
depth-one (Image.public i) = omega arith
depth-one (Image.private i) = omega arith

depths-one : (is : Images) → 1 ≤ depths is
unfolding depth
depths-one Images.nil = omega arith
depths-one (Images.cons i is) = omega arith

module _ (row : Term → ℕ) where
  mutual
    unfolding depth words

    depth-words : (i : Image) → depth i < length (words row i)
    depth-words (Image.itself t) = omega arith
    depth-words (Image.placeholder x) = omega arith
    depth-words (Image.operation g is) = let h = depths-words is in omega arith
    depth-words (Image.cipher k is) = let g = depth-words k in let h = depths-words is in omega (arith, length-append (words row k) (words_of row is))
    depth-words (Image.public i) = let h = depth-words i in omega arith
    depth-words (Image.private i) = let h = depth-words i in omega arith

    depths-words : (is : Images) → depths is ≤ suc (length (words_of row is))
    depths-words Images.nil = omega arith
    depths-words (Images.cons i is) = let g = depth-words i in let h = depths-words is in omega (arith, length-append (words row i) (words_of row is))

-- ---- images
module _ (term : ℕ → Term) (row : Term → ℕ) where
  abbrev Back : Term → Type 0
  Back t = term (row t) ≡ t

  mutual
    unfolding read_image words count_images depth then

    image-back : {i : Image} (f : ℕ) (w : List ℕ) → depth i ≤ f → Names Back i → read_image term f (words row i ++ w) ≡ some (i, w)
    image-back {i} zero w l h = let z = depth-one i in absurd (omega arith)
    image-back (suc f) w l (Names.itself e) = ap (λ t. some (Image.itself t, w)) e
    image-back (suc f) w l Names.placeholder = refl
    image-back (suc f) w l (Names.operation h) = rw (images-back f w (omega arith) h)
    image-back (suc f) w l (Names.cipher {is = is} k h) = rw (append_assoc, image-back f (words_of row is ++ w) (omega arith) k, images-back f w (omega arith) h)
    image-back (suc f) w l (Names.public h) = rw (image-back f w (omega arith) h)
    image-back (suc f) w l (Names.private h) = rw (image-back f w (omega arith) h)

    images-back : {is : Images} (f : ℕ) (w : List ℕ) → depths is ≤ f → NamesAll Back is
        → read_images term f (count_images is) (words_of row is ++ w) ≡ some (is, w)
    images-back {is} zero w l h = let z = depths-one is in absurd (omega arith)
    images-back (suc f) w l NamesAll.nil = refl
    images-back (suc f) w l (NamesAll.cons {is = is} h k) =
        rw (append_assoc, image-back f (words_of row is ++ w) (omega arith) h, images-back f w (omega arith) k)

  -- ---- events
  triples-back : (ps : List Stored) (w : List ℕ) → StoredAll Back ps → read_triples term (length ps) (triple_words row ps ++ w) ≡ some (ps, w)
  unfolding read_triples triple_words then
  triples-back [] w h = refl
  triples-back (p ∷ ps) w h = rw (triples-back ps w h.1, h.0)

  event-back : (e : Event) (f : ℕ) (w : List ℕ) → length (event_words row e) ≤ f → EventNames Back e
      → read_event term f (event_words row e ++ w) ≡ some (e, w)
  unfolding read_event event_words then
  event-back (Event.new r) f w l h = refl
  event-back (Event.sends s is) f w l h = rw (images-back f w (let z = depths-words row is in omega arith) h)
  event-back (Event.receives s x n) f w l h = refl
  event-back (Event.checks x i) f w l h = rw (image-back f w (let z = depth-words row i in omega arith) h)
  event-back (Event.opens x y n i) f w l h = rw (image-back f w (let z = depth-words row i in omega arith) h)
  event-back (Event.ends ps) f w l h = rw (triples-back ps w h)

  -- an event's words begin with a word
  event-step : (e : Event) (f n : ℕ) (w : List ℕ)
      → read_events term f (suc n) (event_words row e ++ w)
      ≡ then (read_event term f (event_words row e ++ w)) (λ p. then (read_events term f n p.1) (λ es. some (p.0 ∷ es)))
  unfolding read_events event_words
  event-step (Event.new r) f n w = refl
  event-step (Event.sends s is) f n w = refl
  event-step (Event.receives s x m) f n w = refl
  event-step (Event.checks x i) f n w = refl
  event-step (Event.opens x y m i) f n w = refl
  event-step (Event.ends ps) f n w = refl

  event-long : (e : Event) → 1 ≤ length (event_words row e)
  unfolding event_words
  event-long (Event.new r) = omega arith
  event-long (Event.sends s is) = omega arith
  event-long (Event.receives s x n) = omega arith
  event-long (Event.checks x i) = omega arith
  event-long (Event.opens x y n i) = omega arith
  event-long (Event.ends ps) = omega arith

  events-back : (es : List Event) (f n : ℕ) → length (program_words row es) < n → length (program_words row es) ≤ f → ProgramNames Back es
      → read_events term f n (program_words row es) ≡ some es
  unfolding program_words then read_events
  events-back es f zero l m h = absurd (omega arith)
  events-back [] f (suc n) l m h = refl
  events-back (e ∷ es) f (suc n) l m (ProgramNames.cons x h) =
      let a = length-append (event_words row e) (program_words row es) in
      let g = event-long e in
      event-step e f n (program_words row es) ∙ rw (event-back e f (program_words row es) (omega arith) x, events-back es f n (omega arith) (omega arith) h)

  pub program-back : (es : List Event) → ProgramNames Back es → read_program term (program_words row es) ≡ some es
  unfolding read_program
  program-back es h = events-back es _ _ (omega arith) (omega arith) h

-- ---- names of one kind are names of another
module _ {P Q : Term → Type 0} (f : (t : Term) → P t → Q t) where
  mutual
    names-map : {i : Image} → Names P i → Names Q i
    names-map (Names.itself h) = Names.itself (f _ h)
    names-map Names.placeholder = Names.placeholder
    names-map (Names.operation h) = Names.operation (names_all-map h)
    names-map (Names.cipher k h) = Names.cipher (names-map k) (names_all-map h)
    names-map (Names.public h) = Names.public (names-map h)
    names-map (Names.private h) = Names.private (names-map h)

    names_all-map : {is : Images} → NamesAll P is → NamesAll Q is
    names_all-map NamesAll.nil = NamesAll.nil
    names_all-map (NamesAll.cons h k) = NamesAll.cons (names-map h) (names_all-map k)

  stored-map : (ps : List Stored) → StoredAll P ps → StoredAll Q ps
  stored-map [] h = tt
  stored-map (p ∷ ps) h = (f p.0 h.0, stored-map ps h.1)

  event-map : (e : Event) → EventNames P e → EventNames Q e
  event-map (Event.new r) h = tt
  event-map (Event.sends s is) h = names_all-map h
  event-map (Event.receives s x n) h = tt
  event-map (Event.checks x i) h = names-map h
  event-map (Event.opens x y n i) h = names-map h
  event-map (Event.ends ps) h = stored-map ps h

  program-map : {es : List Event} → ProgramNames P es → ProgramNames Q es
  program-map ProgramNames.nil = ProgramNames.nil
  program-map (ProgramNames.cons {e = e} x h) = ProgramNames.cons (event-map e x) (program-map h)

-- ---- a party's part of a frame
pub heads-length : (o : ℕ) (ls : List (List ℕ)) → length (heads o ls) ≡ 2 * length ls
unfolding heads
heads-length o [] = refl
heads-length o (l ∷ ls) = let h = heads-length (o + length l) ls in omega arith

-- where part p begins, if the first begins at o
unfoldable start_at : ℕ → List (List ℕ) → ℕ → ℕ
start_at o [] p = o
start_at o (l ∷ ls) zero = o
start_at o (l ∷ ls) (suc p) = start_at (o + length l) ls p

heads-at : (o : ℕ) (ls : List (List ℕ)) (p : ℕ) → p < length ls → (get_or (heads o ls) (2 * p) 0 ≡ start_at o ls p)
    × (get_or (heads o ls) (suc (2 * p)) 0 ≡ length (get_or ls p []))
unfolding heads start_at
heads-at o [] p h = absurd (omega arith)
heads-at o (l ∷ ls) zero h = (refl, refl)
heads-at o (l ∷ ls) (suc p) h =
    let e : 2 * suc p ≡ suc (suc (2 * p)) = omega arith in
    rw e (heads-at (o + length l) ls p (omega arith))

-- what stands at the start of part p is the part, and then the rest
bodies-at : (o : ℕ) (pre : List ℕ) (ls : List (List ℕ)) (p : ℕ) → length pre ≡ o → p < length ls
    → (rest : List ℕ) × (drop (start_at o ls p) (pre ++ bodies ls) ≡ get_or ls p [] ++ rest)
    × (start_at o ls p + length (get_or ls p []) ≤ length (pre ++ bodies ls))
unfolding bodies start_at
bodies-at o pre [] p e h = absurd (omega arith)
bodies-at o pre (l ∷ ls) zero e h =
    let a = length-append pre (l ++ bodies ls) in
    let c = length-append l (bodies ls) in
    let z : o ≡ length pre + 0 = omega arith in
    (bodies ls, ap (λ k. drop k (pre ++ (l ++ bodies ls))) z ∙ drop-append-add pre (l ++ bodies ls) 0, omega arith)
bodies-at o pre (l ∷ ls) (suc p) e h =
    let a = length-append pre l in
    let r = bodies-at (o + length l) (pre ++ l) ls p (omega arith) (omega arith) in (
      r.0,
      ap (drop (start_at (o + length l) ls p)) (sym (append_assoc pre l (bodies ls))) ∙ r.1,
      subst (λ x. start_at (o + length l) ls p + length (get_or ls p []) ≤ length x) (append_assoc pre l (bodies ls)) r.2,
    )

pub frame-part : (ls : List (List ℕ)) (p : ℕ) → p < length ls → part_of (framed ls) p ≡ get_or ls p []
unfolding part_of framed
frame-part ls p h =
    let n = length ls in
    let hs = heads (1 + 2 * n) ls in
    let k = heads-length (1 + 2 * n) ls in
    let at = heads-at (1 + 2 * n) ls p h in
    let b = bodies-at (1 + 2 * n) (n ∷ hs) ls p (omega arith) h in
    let e1 : 1 + 2 * p ≡ suc (2 * p) = omega arith in
    let e2 : 2 + 2 * p ≡ suc (suc (2 * p)) = omega arith in
    let w1 : get_or (n ∷ (hs ++ bodies ls)) (1 + 2 * p) 0 ≡ start_at (1 + 2 * n) ls p =
    ap (λ i. get_or (n ∷ (hs ++ bodies ls)) i 0) e1 ∙ get_or-append hs (bodies ls) 0 (2 * p) (omega arith) ∙ at.0 in
    let w2 : get_or (n ∷ (hs ++ bodies ls)) (2 + 2 * p) 0 ≡ length (get_or ls p []) =
    ap (λ i. get_or (n ∷ (hs ++ bodies ls)) i 0) e2 ∙ get_or-append hs (bodies ls) 0 (suc (2 * p)) (omega arith) ∙ at.1 in
    rw (w1, w2) (run_take (n ∷ (hs ++ bodies ls)) (start_at (1 + 2 * n) ls p) (length (get_or ls p [])) b.2
    ∙ ap (take (length (get_or ls p []))) b.1 ∙ take-append_seam (get_or ls p []) b.0)

-- ---- the words of a valid book's listing spell its programs
pub listing-spells : (b : List ℕ) → Valid b → (p : ℕ) → p < parties b → read_program (Table.term (table b)) (part_of (listing b) p)
    ≡ some (program_of (narration b) p)
unfolding listing part_words
listing-spells b v p h =
    let n = values_length (part_words b) 0 (parties b) in
    let e = frame-part (values (part_words b) 0 (parties b)) p (omega arith) ∙ values-get_d (part_words b) 0 (parties b) p [] h in
    let z : 0 + p ≡ p = omega arith in
    ap (read_program (Table.term (table b))) (e ∙ ap (part_words b) z)
    ∙ program-back (Table.term (table b)) (number (table b) (rows b)) (program_of (narration b) p)
    (program-map (λ t i. number-back (rows b) (table b) (formed b v) t i) (programs-name-rows b v p))
