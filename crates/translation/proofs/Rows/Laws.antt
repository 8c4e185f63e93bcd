-- Every term that a valid book's program names is a row of its table. Assumes nothing.
use Prim.Native.Nat.{ℕ, zero, suc, ◌+◌, ◌≤◌, ◌<◌}
use Rattle.std.specs.Prelude.{true, ◌≡◌, refl, get_or, eqb}
use Rattle.std.proofs.Common.{true≢false, ⊎_elim, sym, subst, arith}
use mathlib.Core.List.{List, [], ◌∷◌, ◌++◌, map}
use Rattle.words.specs.Run.{All, values}
use Rattle.words.specs.Run.Laws.{all-run}
use Rattle.terms.specs.Term.{Term, Terms, partner, Occurs, OccursIn}
use Rattle.terms.specs.Image.{Image}
use Rattle.terms.specs.Table.{Table, term, Formed, IsRow, AllRows}
use Rattle.terms.specs.Table.Laws.{is_row, rows-listed, parts-rows, atoms-rows, atoms_in-rows}
use Rattle.book.specs.Layout.{table, rows, parties, steps, begins, known, party_first, party_count, messages, step_first, step_count}
use Rattle.book.specs.Valid.{Valid}
use Rattle.book.specs.Valid.Laws.{formed}
use Rattle.translation.specs.Dictionary.{Held, Dictionary, is_held, enter, start, image_or, image, images}
use Rattle.translation.specs.Dictionary.Laws.{enter-ind}
use Rattle.translation.specs.Build.{build_all}
use Rattle.translation.specs.Build.Laws.{build_all-makes}
use Rattle.translation.specs.Along.Laws.{build_all-images}
use Rattle.translation.specs.Receive.{Event, Stored, Did, nothing, followed, compared, kept, opened, receive, receive_all}
use Rattle.translation.proofs.Receive.Laws.{by-rule}
use Rattle.translation.specs.Program.{Step, Act, acts_of, arrived, act, walk, walked, program}
use Rattle.translation.specs.Narration.{step_at, narration, known_to, program_of}
use Rattle.translation.specs.Rows.{Names, NamesAll, StoredAll, ProgramNames}
use Rattle.words.specs.Choice.Laws.{pick_ind}

-- ---- lists of events and of stored terms
names-append : {P : Term → Type 0} {es fs : List Event} → ProgramNames P es → ProgramNames P fs → ProgramNames P (es ++ fs)
names-append ProgramNames.nil k = k
names-append (ProgramNames.cons x h) k = ProgramNames.cons x (names-append h k)

stored-append : (P : Term → Type 0) (ps qs : List Stored) → StoredAll P ps → StoredAll P qs → StoredAll P (ps ++ qs)
stored-append P [] qs h k = k
stored-append P (p ∷ ps) qs h k = (h.0, stored-append P ps qs h.1 k)

-- ---- what is not a row is in no dictionary: the partner of a key need not be a row
module _ (tab : Table) (n : ℕ) (ok : Formed n tab) where
  abbrev pub HeldRows : Dictionary → Type 0
  HeldRows δ = (t : Term) → is_held (δ t) ≡ true → IsRow tab n t

  enter-rows : (δ : Dictionary) (t : Term) (h : Held) → HeldRows δ → IsRow tab n t → HeldRows (enter δ t h)
  enter-rows δ t h d i u = enter-ind (λ x. is_held x ≡ true → IsRow tab n u) δ t h u (λ e k. subst (IsRow tab n) e i) (λ e k. d u k)

  abbrev AtomsRows : Term → Type 0
  AtomsRows t = (q : ℕ) → Occurs q t → IsRow tab n (Term.atom q)

  -- ---- image
  names-or : (h : Held) (t : Term) (i : Image) → (is_held h ≡ true → IsRow tab n t) → Names (IsRow tab n) i → Names (IsRow tab n) (image_or h t i)
  unfolding image_or
  names-or Held.free t i d k = k
  names-or Held.given t i d k = Names.itself (d refl)
  names-or (Held.made s) t i d k = Names.itself (d refl)
  names-or (Held.stored s x) t i d k = Names.placeholder

  mutual
    unfolding image

    pub image-names : (δ : Dictionary) → HeldRows δ → (t : Term) → AtomsRows t → Names (IsRow tab n) (image δ t)
    image-names δ d (Term.atom r) a = names-or _ _ _ (d (Term.atom r)) (Names.itself (a r Occurs.atom))
    image-names δ d (Term.operation g ts) a =
        names-or _ _ _ (d (Term.operation g ts)) (Names.operation (images-names δ d ts (λ q o. a q (Occurs.operation o))))
    image-names δ d (Term.cipher k ts) a =
        names-or _ _ _ (d (Term.cipher k ts)) (Names.cipher (image-names δ d k (λ q o. a q (Occurs.key o)))
        (images-names δ d ts (λ q o. a q (Occurs.contents o))))
    image-names δ d (Term.public t) a = names-or _ _ _ (d (Term.public t)) (Names.public (image-names δ d t (λ q o. a q (Occurs.public o))))
    image-names δ d (Term.private t) a = names-or _ _ _ (d (Term.private t)) (Names.private (image-names δ d t (λ q o. a q (Occurs.private o))))

    pub images-names : (δ : Dictionary) → HeldRows δ → (ts : Terms) → ((q : ℕ) → OccursIn q ts → IsRow tab n (Term.atom q))
        → NamesAll (IsRow tab n) (images δ ts)
    images-names δ d Terms.nil a = NamesAll.nil
    images-names δ d (Terms.cons t ts) a =
        NamesAll.cons (image-names δ d t (λ q o. a q (OccursIn.here o))) (images-names δ d ts (λ q o. a q (OccursIn.later o)))

  -- ---- build
  pub build_all-rows : (s : ℕ) (ts : Terms) (δ : Dictionary) → HeldRows δ → ((q : ℕ) → OccursIn q ts → IsRow tab n (Term.atom q))
      → HeldRows (build_all s ts δ).dictionary × NamesAll (IsRow tab n) (build_all s ts δ).images
  build_all-rows s ts δ d a =
      let m = build_all-makes s ts δ in
      let h : HeldRows (build_all s ts δ).dictionary =
      λ u k. ⊎_elim (λ x. d u x) (λ x. subst (IsRow tab n) (sym x.1) (a x.0 (m.within x.0 x.2))) (m.back u k) in
      (h, rw (build_all-images s ts δ) (images-names (build_all s ts δ).dictionary h ts a))

  -- ---- receive
  pub record DidRows (d : Did) : Type 0 where
    pub holds : HeldRows d.dictionary
    pub named : ProgramNames (IsRow tab n) d.events
    pub stored : StoredAll (IsRow tab n) d.stored

  followed-rows : (d e : Did) → DidRows d → DidRows e → DidRows (followed d e)
  followed-rows d e p q =
      record {
        holds = q.holds;
        named = names-append p.named q.named;
        stored =
            stored-append (IsRow tab n) d.stored e.stored p.stored q.stored;
      }

  nothing-rows : (δ : Dictionary) → HeldRows δ → DidRows (nothing δ)
  nothing-rows δ d = record { holds = d; named = ProgramNames.nil; stored = tt }

  partner-occurs : (k : Term) (q : ℕ) → Occurs q (partner k) → Occurs q k
  unfolding partner
  partner-occurs (Term.atom r) q o = o
  partner-occurs (Term.operation g ts) q o = o
  partner-occurs (Term.cipher k ts) q o = o
  partner-occurs (Term.public t) q (Occurs.private o) = Occurs.public o
  partner-occurs (Term.private t) q (Occurs.public o) = Occurs.private o

  module _ (δ : Dictionary) (d : HeldRows δ) (p : ℕ) where
    compared-rows : (t : Term) → IsRow tab n t → DidRows (compared t p δ)
    compared-rows t i = record { holds = d; named = ProgramNames.cons (image-names δ d t (λ q o. atoms-rows n tab ok i o)) ProgramNames.nil; stored = tt }

    kept-rows : (s : ℕ) (t : Term) → IsRow tab n t → DidRows (kept s t p δ)
    kept-rows s t i = record { holds = enter-rows δ t (Held.stored s p) d i; named = ProgramNames.nil; stored = (i, tt) }

    opened_rows : (k : Term) (ts : Terms) (m : ℕ) → IsRow tab n k → DidRows (opened k ts p δ m)
    opened_rows k ts m i =
        record {
          holds = d;
          named =
              ProgramNames.cons (image-names δ d (partner k) (λ q o. atoms-rows n tab ok i (partner-occurs k q o))) ProgramNames.nil;
          stored = tt;
        }

  mutual
    unfolding receive

    receive-rows : (s : ℕ) (t : Term) (p : ℕ) (δ : Dictionary) (m : ℕ) → IsRow tab n t → HeldRows δ → DidRows (receive s t p δ m)
    receive-rows s (Term.atom r) p δ m i d = by-rule DidRows _ _ _ _ (compared-rows δ d p _ i) (nothing-rows δ d) (kept-rows δ d p s _ i)
    receive-rows s (Term.operation g ts) p δ m i d = by-rule DidRows _ _ _ _ (compared-rows δ d p _ i) (nothing-rows δ d) (kept-rows δ d p s _ i)
    receive-rows s (Term.cipher k ts) p δ m i d =
        let ps = parts-rows n tab ok _ i in
        by-rule DidRows _ _ _ _ (compared-rows δ d p _ i)
        (followed-rows (opened k ts p δ m) _ (opened_rows δ d p k ts m ps.0) (receive_all-rows s ts m δ _ ps.1 d))
        (kept-rows δ d p s _ i)
    receive-rows s (Term.public t) p δ m i d = by-rule DidRows _ _ _ _ (compared-rows δ d p _ i) (nothing-rows δ d) (kept-rows δ d p s _ i)
    receive-rows s (Term.private t) p δ m i d = by-rule DidRows _ _ _ _ (compared-rows δ d p _ i) (nothing-rows δ d) (kept-rows δ d p s _ i)

    receive_all-rows : (s : ℕ) (ts : Terms) (p : ℕ) (δ : Dictionary) (m : ℕ) → AllRows tab n ts → HeldRows δ → DidRows (receive_all s ts p δ m)
    receive_all-rows s Terms.nil p δ m i d = nothing-rows δ d
    receive_all-rows s (Terms.cons t ts) p δ m i d =
        let a = receive-rows s t p δ m i.0 d in
        followed-rows _ _ a (receive_all-rows s ts (suc p) _ _ i.1 a.holds)

  -- ---- act, walk, program
  abbrev pub ActRows : Act → Type 0
  ActRows (Act.sends i ts) = AllRows tab n ts
  ActRows (Act.receives i ts) = AllRows tab n ts

  abbrev pub ActsRows : List Act → Type 0
  ActsRows [] = Unit {0}
  ActsRows (a ∷ acts) = ActRows a × ActsRows acts

  new-names : (rs : List ℕ) {es : List Event} → ProgramNames (IsRow tab n) es → ProgramNames (IsRow tab n) (map Event.new rs ++ es)
  new-names [] h = h
  new-names (r ∷ rs) h = ProgramNames.cons tt (new-names rs h)

  act-rows : (a : Act) (δ : Dictionary) (m : ℕ) → ActRows a → HeldRows δ → DidRows (act a δ m)
  unfolding act
  act-rows (Act.sends i ts) δ m r d =
      let b = build_all-rows i ts δ d (λ q o. atoms_in-rows n tab ok r o) in
      record { holds = b.0; named = new-names (build_all i ts δ).made (ProgramNames.cons b.1 ProgramNames.nil); stored = tt }
  act-rows (Act.receives i ts) δ m r d =
      followed-rows (arrived i ts δ m) _ (record { holds = d; named = ProgramNames.cons tt ProgramNames.nil; stored = tt }) (receive_all-rows i ts m δ _ r d)

  pub walk_rows : (acts : List Act) (δ : Dictionary) (m : ℕ) → ActsRows acts → HeldRows δ → DidRows (walk acts δ m)
  unfolding walk
  walk_rows [] δ m r d = nothing-rows δ d
  walk_rows (a ∷ acts) δ m r d = let h = act-rows a δ m r.0 d in followed-rows _ _ h (walk_rows acts _ _ r.1 h.holds)

  abbrev pub KnownRows : List Term → Type 0
  KnownRows [] = Unit {0}
  KnownRows (t ∷ ts) = IsRow tab n t × KnownRows ts

  pub start-rows : (ts : List Term) → KnownRows ts → HeldRows (start ts)
  unfolding start
  start-rows [] k t h = absurd (true≢false (sym h))
  start-rows (t ∷ ts) k u h = enter-rows (start ts) t Held.given (start-rows ts k.1) k.0 u h

  pub program-names : (known : List Term) (acts : List Act) → KnownRows known → ActsRows acts → ProgramNames (IsRow tab n) (program known acts)
  unfolding program walked
  program-names known acts k r = let w =
      walk_rows acts (start known) 0 r (start-rows known k) in names-append w.named (ProgramNames.cons w.stored ProgramNames.nil)

  abbrev pub StepsRows : List Step → Type 0
  StepsRows [] = Unit {0}
  StepsRows (s ∷ ss) = AllRows tab n s.messages × StepsRows ss

  pub own-rows : (p i : ℕ) (ss : List Step) → StepsRows ss → ActsRows (acts_of p i ss)
  unfolding acts_of
  own-rows p i [] h = tt
  own-rows p i (s ∷ ss) h =
      let rest = own-rows p (suc i) ss h.1 in
      pick_ind ActsRows (eqb s.sender p) _ _ (λ e. (h.0, rest)) (λ e. pick_ind ActsRows (eqb s.receiver p) _ _ (λ f. (h.0, rest)) (λ f. rest))

  pub known-rows : (rs : List ℕ) → All (λ r. r < n) rs → KnownRows (map (term tab) rs)
  known-rows [] a = tt
  known-rows (r ∷ rs) a = (is_row n tab ok r a.0, known-rows rs a.1)

-- ---- for a valid book
module _ (b : List ℕ) (v : Valid b) where
  pub steps-rows : (i m : ℕ) → i + m ≤ steps b → StepsRows (table b) (rows b) (formed b v) (values (step_at b) i m)
  unfolding values step_at
  steps-rows i zero h = tt
  steps-rows i (suc m) h = (
    rows-listed (rows b) (table b) (formed b v) (messages b i)
        (all-run (λ r. r < rows b) b (begins b 3 + step_first b i) (step_count b i) (v.steps_keep i (omega arith)).listed.each),
    steps-rows (suc i) m (omega arith),
  )

  pub party-known : (p : ℕ) → p < parties b → All (λ r. r < rows b) (known b p)
  party-known p h = all-run (λ r. r < rows b) b (begins b 3 + party_first b p) (party_count b p) (v.parties_keep p h).listed.each

  knows-rows : (i m p : ℕ) → i + m ≤ parties b
      → KnownRows (table b) (rows b) (formed b v) (get_or (values (λ q. map (term (table b)) (known b q)) i m) p [])
  unfolding values
  knows-rows i zero p h = tt
  knows-rows i (suc m) zero h = known-rows (table b) (rows b) (formed b v) (known b i) (party-known i (omega arith))
  knows-rows i (suc m) (suc p) h = knows-rows (suc i) m p (omega arith)

  -- every term that a program names is a row
  pub programs-name-rows : (p : ℕ) → ProgramNames (IsRow (table b) (rows b)) (program_of (narration b) p)
  unfolding program_of narration known_to
  programs-name-rows p =
      program-names (table b) (rows b) (formed b v) _ _ (knows-rows 0 (parties b) p (omega arith))
      (own-rows (table b) (rows b) (formed b v) p 0 _ (steps-rows 0 (steps b) (omega arith)))
