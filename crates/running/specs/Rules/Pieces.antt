-- A process's pieces, by its first word. Assumes nothing.
use Rattle.std.specs.Prelude.{ℕ, zero, suc, ◌+◌, ◌≤◌, ◌<◌, List, ◌≡◌, refl, length, drop, get_or}
use Rattle.std.proofs.Math.Path.{sym}
use Rattle.std.proofs.Common.{◌∙◌, ap, arith}
use Rattle.words.specs.Choice.{pick}
use Rattle.typing.specs.Bag.{bag}
use Rattle.typing.specs.Process.{Process}
use Rattle.typing.specs.Reading.{term, effects, type_at, process_at}
use Rattle.spans.specs.Behind.{rest_of, At}
use Rattle.alike.specs.Same.{term_in, effects_in, type_in}
use Rattle.parts.specs.Own.{names_of, terms_of, types_of}
use Rattle.parts.specs.Place.{process_in}
use Rattle.shapes.specs.Shape.{Reads}
use Rattle.pieces.specs.Piece.{built, Pieced}
use Rattle.pieces.specs.declared.Pieces.{Pieces}
use Rattle.running.specs.Rules.{code_of, label_process, open_process}

-- ---- what stands at s, and what its pieces read, where the first word says so
pub record NewAt (w : List ℕ) (s : ℕ) (r : Pieces) : Type 0 where
  pub is : process_in w s ≡ Process.new (get_or w (s + 1) 0) (type_in w r.t) (process_in w r.p)
  pub t : Reads type_at w r.t
  pub p : Reads process_at w r.p
  pub word : get_or w s 0 ≡ 1
  pub inside : s + 1 < length w

pub record OutAt (w : List ℕ) (s : ℕ) (r : Pieces) : Type 0 where
  pub is : process_in w s ≡ Process.out (term_in w r.m) (term_in w r.n) (process_in w r.p)
  pub m : Reads term w r.m
  pub n : Reads term w r.n
  pub p : Reads process_at w r.p

pub record InpAt (w : List ℕ) (s : ℕ) (r : Pieces) : Type 0 where
  pub is : process_in w s ≡ Process.inp (term_in w r.m) (get_or w (s + 1) 0) (type_in w r.t) (process_in w r.p)
  pub m : Reads term w r.m
  pub t : Reads type_at w r.t
  pub p : Reads process_at w r.p

pub record ParallelAt (w : List ℕ) (s : ℕ) (r : Pieces) : Type 0 where
  pub p : Reads process_at w r.p
  pub second : (q : ℕ) → At w r.p (rest_of (process_at (drop r.p w))) q
      → (process_in w s ≡ Process.parallel (process_in w r.p) (process_in w q)) × Reads process_at w q

pub record StopAt (w : List ℕ) (s : ℕ) : Type 0 where
  pub is : process_in w s ≡ Process.stop

pub record SplitAt (w : List ℕ) (s : ℕ) (r : Pieces) : Type 0 where
  pub is : process_in w s
      ≡ Process.split (term_in w r.m) (get_or w (s + 1) 0) (type_in w r.t) (get_or w (s + 2) 0) (type_in w r.u) (process_in w r.p)
  pub m : Reads term w r.m
  pub t : Reads type_at w r.t
  pub u : Reads type_at w r.u
  pub p : Reads process_at w r.p
  pub inside : s + 2 < length w

-- c is 7 of a match, 8 of a decryption
pub record OpenAt (c : ℕ) (w : List ℕ) (s : ℕ) (r : Pieces) : Type 0 where
  pub is : process_in w s ≡ open_process c (term_in w r.m) (term_in w r.n) (get_or w (s + 1) 0) (type_in w r.t) (process_in w r.p)
  pub m : Reads term w r.m
  pub n : Reads term w r.n
  pub t : Reads type_at w r.t
  pub p : Reads process_at w r.p

-- c is 9 of begin, 10 of end
pub record LabelAt (c : ℕ) (w : List ℕ) (s : ℕ) (r : Pieces) : Type 0 where
  pub is : process_in w s ≡ label_process c (term_in w r.m) (process_in w r.p)
  pub m : Reads term w r.m
  pub p : Reads process_at w r.p

pub record CastAt (w : List ℕ) (s : ℕ) (r : Pieces) : Type 0 where
  pub is : process_in w s ≡ Process.cast (term_in w r.m) (get_or w (s + 1) 0) (bag (effects_in w r.f r.k)) (process_in w r.p)
  pub m : Reads term w r.m
  pub f : Reads (effects r.k) w r.f
  pub p : Reads process_at w r.p

pub record CheckAt (w : List ℕ) (s : ℕ) (r : Pieces) : Type 0 where
  pub is : process_in w s ≡ Process.check (term_in w r.m) (term_in w r.n) (process_in w r.p)
  pub m : Reads term w r.m
  pub n : Reads term w r.n
  pub p : Reads process_at w r.p

-- by the word
abbrev pub KindAt : ℕ → List ℕ → ℕ → Pieces → Type 0
KindAt zero w s r = Unit {0}
KindAt (suc zero) w s r = NewAt w s r
KindAt (suc (suc zero)) w s r = OutAt w s r
KindAt (suc (suc (suc zero))) w s r = InpAt w s r
KindAt (suc (suc (suc (suc zero)))) w s r = ParallelAt w s r
KindAt (suc (suc (suc (suc (suc zero))))) w s r = StopAt w s
KindAt (suc (suc (suc (suc (suc (suc zero)))))) w s r = SplitAt w s r
KindAt (suc (suc (suc (suc (suc (suc (suc zero))))))) w s r = OpenAt 7 w s r
KindAt (suc (suc (suc (suc (suc (suc (suc (suc zero)))))))) w s r = OpenAt 8 w s r
KindAt (suc (suc (suc (suc (suc (suc (suc (suc (suc zero))))))))) w s r = LabelAt 9 w s r
KindAt (suc (suc (suc (suc (suc (suc (suc (suc (suc (suc zero)))))))))) w s r = LabelAt 10 w s r
KindAt (suc (suc (suc (suc (suc (suc (suc (suc (suc (suc (suc zero))))))))))) w s r = CastAt w s r
KindAt (suc (suc (suc (suc (suc (suc (suc (suc (suc (suc (suc (suc zero)))))))))))) w s r = CheckAt w s r
KindAt (suc (suc (suc (suc (suc (suc (suc (suc (suc (suc (suc (suc (suc c))))))))))))) w s r = Unit {0}

-- by the word, where all types may be Un
module _ (w : List ℕ) (s : ℕ) (r : Pieces) where
  pub open-at : (c : ℕ) → 7 ≤ c → c ≤ 8 → KindAt c w s r → OpenAt c w s r
  open-at zero l h k = absurd (omega arith)
  open-at (suc zero) l h k = absurd (omega arith)
  open-at (suc (suc zero)) l h k = absurd (omega arith)
  open-at (suc (suc (suc zero))) l h k = absurd (omega arith)
  open-at (suc (suc (suc (suc zero)))) l h k = absurd (omega arith)
  open-at (suc (suc (suc (suc (suc zero))))) l h k = absurd (omega arith)
  open-at (suc (suc (suc (suc (suc (suc zero)))))) l h k = absurd (omega arith)
  open-at (suc (suc (suc (suc (suc (suc (suc zero))))))) l h k = k
  open-at (suc (suc (suc (suc (suc (suc (suc (suc zero)))))))) l h k = k
  open-at (suc (suc (suc (suc (suc (suc (suc (suc (suc c))))))))) l h k = absurd (omega arith)

  pub label-at : (c : ℕ) → 9 ≤ c → c ≤ 10 → KindAt c w s r → LabelAt c w s r
  label-at zero l h k = absurd (omega arith)
  label-at (suc zero) l h k = absurd (omega arith)
  label-at (suc (suc zero)) l h k = absurd (omega arith)
  label-at (suc (suc (suc zero))) l h k = absurd (omega arith)
  label-at (suc (suc (suc (suc zero)))) l h k = absurd (omega arith)
  label-at (suc (suc (suc (suc (suc zero))))) l h k = absurd (omega arith)
  label-at (suc (suc (suc (suc (suc (suc zero)))))) l h k = absurd (omega arith)
  label-at (suc (suc (suc (suc (suc (suc (suc zero))))))) l h k = absurd (omega arith)
  label-at (suc (suc (suc (suc (suc (suc (suc (suc zero)))))))) l h k = absurd (omega arith)
  label-at (suc (suc (suc (suc (suc (suc (suc (suc (suc zero))))))))) l h k = k
  label-at (suc (suc (suc (suc (suc (suc (suc (suc (suc (suc zero)))))))))) l h k = k
  label-at (suc (suc (suc (suc (suc (suc (suc (suc (suc (suc (suc c))))))))))) l h k = absurd (omega arith)

module _ (w : List ℕ) (s : ℕ) (r : Pieces) (p : Pieced w s r) where
  much : (f : ℕ → ℕ) (c n : ℕ) → get_or w s 0 ≡ c → n ≤ f c → n ≤ f (get_or w s 0)
  much f c n e l = rw e l

  whole : (c : ℕ) → get_or w s 0 ≡ c → (c ≡ 4 → ⊥) → (c ≡ 5 → ⊥) → (process_in w s ≡ built w s r c) × Reads process_at w r.p
  whole c e d f =
      let (q, o) = p.one (λ z. d (sym e ∙ z)) (λ z. f (sym e ∙ z)) in
      (q ∙ ap (built w s r) e, o)

  pub kind-at : (c : ℕ) → get_or w s 0 ≡ c → KindAt c w s r
  unfolding built names_of terms_of types_of open_process label_process pick
  kind-at zero e = tt
  kind-at (suc zero) e =
      let (q, o) = whole 1 e (λ z. omega arith) (λ z. omega arith) in
      record { is = q; t = p.first-type (much types_of 1 1 e (omega arith)); p = o; word = e; inside = omega (arith, p.names, much names_of 1 1 e (omega arith)) }
  kind-at (suc (suc zero)) e =
      let (q, o) = whole 2 e (λ z. omega arith) (λ z. omega arith) in
      record { is = q; m = p.first-term (much terms_of 2 1 e (omega arith)); n = p.second-term (much terms_of 2 2 e (omega arith)); p = o }
  kind-at (suc (suc (suc zero))) e =
      let (q, o) = whole 3 e (λ z. omega arith) (λ z. omega arith) in
      record { is = q; m = p.first-term (much terms_of 3 1 e (omega arith)); t = p.first-type (much types_of 3 1 e (omega arith)); p = o }
  kind-at (suc (suc (suc (suc zero)))) e = record { p = (p.two e).0; second = (p.two e).1 }
  kind-at (suc (suc (suc (suc (suc zero))))) e = record { is = p.stop e }
  kind-at (suc (suc (suc (suc (suc (suc zero)))))) e =
      let (q, o) = whole 6 e (λ z. omega arith) (λ z. omega arith) in
      record { is = q; m = p.first-term (much terms_of 6 1 e (omega arith)); t = p.first-type (much types_of 6 1 e (omega arith)); u = p.second_type (much types_of 6 2 e (omega arith)); p = o; inside = omega (arith, p.names, much names_of 6 2 e (omega arith)) }
  kind-at (suc (suc (suc (suc (suc (suc (suc zero))))))) e =
      let (q, o) = whole 7 e (λ z. omega arith) (λ z. omega arith) in
      record { is = q; m = p.first-term (much terms_of 7 1 e (omega arith)); n = p.second-term (much terms_of 7 2 e (omega arith)); t = p.first-type (much types_of 7 1 e (omega arith)); p = o }
  kind-at (suc (suc (suc (suc (suc (suc (suc (suc zero)))))))) e =
      let (q, o) = whole 8 e (λ z. omega arith) (λ z. omega arith) in
      record { is = q; m = p.first-term (much terms_of 8 1 e (omega arith)); n = p.second-term (much terms_of 8 2 e (omega arith)); t = p.first-type (much types_of 8 1 e (omega arith)); p = o }
  kind-at (suc (suc (suc (suc (suc (suc (suc (suc (suc zero))))))))) e =
      let (q, o) = whole 9 e (λ z. omega arith) (λ z. omega arith) in
      record { is = q; m = p.first-term (much terms_of 9 1 e (omega arith)); p = o }
  kind-at (suc (suc (suc (suc (suc (suc (suc (suc (suc (suc zero)))))))))) e =
      let (q, o) = whole 10 e (λ z. omega arith) (λ z. omega arith) in
      record { is = q; m = p.first-term (much terms_of 10 1 e (omega arith)); p = o }
  kind-at (suc (suc (suc (suc (suc (suc (suc (suc (suc (suc (suc zero))))))))))) e =
      let (q, o) = whole 11 e (λ z. omega arith) (λ z. omega arith) in
      record { is = q; m = p.first-term (much terms_of 11 1 e (omega arith)); p = o; f = p.effects e }
  kind-at (suc (suc (suc (suc (suc (suc (suc (suc (suc (suc (suc (suc zero)))))))))))) e =
      let (q, o) = whole 12 e (λ z. omega arith) (λ z. omega arith) in
      record { is = q; m = p.first-term (much terms_of 12 1 e (omega arith)); n = p.second-term (much terms_of 12 2 e (omega arith)); p = o }
  kind-at (suc (suc (suc (suc (suc (suc (suc (suc (suc (suc (suc (suc (suc c))))))))))))) e = tt

  -- ---- another word, another process
  parallel-code : get_or w s 0 ≡ 4 → code_of (process_in w s) ≡ 4
  parallel-code e = let (P, Q, z) = p.parallel e in ap code_of z

  code_by : (c : ℕ) → get_or w s 0 ≡ c → 0 < c → c ≤ 12 → code_of (process_in w s) ≡ c
  unfolding built
  code_by zero e l h = absurd (omega arith)
  code_by (suc zero) e l h = ap code_of (whole 1 e (λ z. omega arith) (λ z. omega arith)).0
  code_by (suc (suc zero)) e l h = ap code_of (whole 2 e (λ z. omega arith) (λ z. omega arith)).0
  code_by (suc (suc (suc zero))) e l h = ap code_of (whole 3 e (λ z. omega arith) (λ z. omega arith)).0
  code_by (suc (suc (suc (suc zero)))) e l h = parallel-code e
  code_by (suc (suc (suc (suc (suc zero))))) e l h = ap code_of (p.stop e)
  code_by (suc (suc (suc (suc (suc (suc zero)))))) e l h = ap code_of (whole 6 e (λ z. omega arith) (λ z. omega arith)).0
  code_by (suc (suc (suc (suc (suc (suc (suc zero))))))) e l h = ap code_of (whole 7 e (λ z. omega arith) (λ z. omega arith)).0
  code_by (suc (suc (suc (suc (suc (suc (suc (suc zero)))))))) e l h = ap code_of (whole 8 e (λ z. omega arith) (λ z. omega arith)).0
  code_by (suc (suc (suc (suc (suc (suc (suc (suc (suc zero))))))))) e l h = ap code_of (whole 9 e (λ z. omega arith) (λ z. omega arith)).0
  code_by (suc (suc (suc (suc (suc (suc (suc (suc (suc (suc zero)))))))))) e l h = ap code_of (whole 10 e (λ z. omega arith) (λ z. omega arith)).0
  code_by (suc (suc (suc (suc (suc (suc (suc (suc (suc (suc (suc zero))))))))))) e l h = ap code_of (whole 11 e (λ z. omega arith) (λ z. omega arith)).0
  code_by (suc (suc (suc (suc (suc (suc (suc (suc (suc (suc (suc (suc zero)))))))))))) e l h = ap code_of (whole 12 e (λ z. omega arith) (λ z. omega arith)).0
  code_by (suc (suc (suc (suc (suc (suc (suc (suc (suc (suc (suc (suc (suc c))))))))))))) e l h = absurd (omega arith)

  pub other_word : (k c : ℕ) → k ≡ get_or w s 0 → (k ≡ c → ⊥) → code_of (process_in w s) ≡ c → ⊥
  other_word k c e d z = d (e ∙ sym (code_by (get_or w s 0) refl p.low p.high) ∙ z)
