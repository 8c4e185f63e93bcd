-- Laws of programs: a party's program is its own business. Assumes nothing.
use Rattle.std.specs.Prelude.{ℕ, suc, ◌+◌, Bool, true, false, List, [], ◌∷◌, ◌++◌, ◌≡◌, length, eqb}
use Rattle.std.proofs.Common.{add-zero, arith, append_assoc, sym, ap, ap₂, ◌∙◌, length-append}
use Rattle.words.specs.Choice.{pick}
use Rattle.words.specs.Choice.Laws.{pick_true, pick-false, pick-ap}
use Rattle.terms.specs.Term.{Term, count}
use Rattle.translation.specs.Dictionary.{Dictionary}
use Rattle.translation.specs.Dictionary.Laws.{Grows}
use Rattle.translation.specs.Build.Laws.{build_all-makes}
use Rattle.translation.specs.Receive.{Did, followed}
use Rattle.translation.proofs.Receive.Laws.{receive_all-grows}
use Rattle.translation.specs.Program.{Step, Act, acts_of, act, walk, program}

-- ---- own: one step
module _ (p i : ℕ) (s : Step) (ss : List Step) where
  pub acts-sends : eqb s.sender p ≡ true → acts_of p i (s ∷ ss) ≡ Act.sends i s.messages ∷ acts_of p (suc i) ss
  unfolding acts_of
  acts-sends e = pick_true _ _ _ e

  pub acts-receives : eqb s.sender p ≡ false → eqb s.receiver p ≡ true → acts_of p i (s ∷ ss) ≡ Act.receives i s.messages
      ∷ acts_of p (suc i) ss
  unfolding acts_of
  acts-receives e f = rw (pick-false (eqb s.sender p) (Act.sends i s.messages ∷ acts_of p (suc i) ss)
      (pick (eqb s.receiver p) (Act.receives i s.messages ∷ acts_of p (suc i) ss) (acts_of p (suc i) ss)) e) (pick_true _ _ _ f)

  pub acts-idle : eqb s.sender p ≡ false → eqb s.receiver p ≡ false → acts_of p i (s ∷ ss) ≡ acts_of p (suc i) ss
  unfolding acts_of
  acts-idle e f = rw (pick-false (eqb s.sender p) (Act.sends i s.messages ∷ acts_of p (suc i) ss)
      (pick (eqb s.receiver p) (Act.receives i s.messages ∷ acts_of p (suc i) ss) (acts_of p (suc i) ss)) e) (pick-false _ _ _ f)

-- ---- program: equal knowledge and equal own parts give equal programs
pub program-own : {k l : List Term} {a c : List Act} → k ≡ l → a ≡ c → program k a ≡ program l c
program-own e f = ap₂ program e f

-- ---- own and walk, over steps in two parts
pick_two : {A B : Type 0} (f : A → B) (c d : Bool) (x y z : A) → f (pick c x (pick d y z)) ≡ pick c (f x) (pick d (f y) (f z))
pick_two f c d x y z = pick-ap f c x (pick d y z) ∙ ap (pick c (f x)) (pick-ap f d y z)

pub acts-append : (p i : ℕ) (a b : List Step) → acts_of p i (a ++ b) ≡ acts_of p i a ++ acts_of p (i + length a) b
unfolding acts_of
acts-append p i [] b = rw add-zero
acts-append p i (s ∷ a) b =
    let z : suc i + length a ≡ i + suc (length a) = omega arith in
    let e : acts_of p (suc i) (a ++ b) ≡ acts_of p (suc i) a ++ acts_of p (i + suc (length a)) b =
    acts-append p (suc i) a b ∙ ap (λ n. acts_of p (suc i) a ++ acts_of p n b) z in
    rw e (sym (pick_two (λ (l : List Act). l ++ acts_of p (i + suc (length a)) b) (eqb s.sender p) (eqb s.receiver p)
    (Act.sends i s.messages ∷ acts_of p (suc i) a) (Act.receives i s.messages ∷ acts_of p (suc i) a) (acts_of p (suc i) a)))

pub followed-assoc : (c d e : Did) → followed (followed c d) e ≡ followed c (followed d e)
followed-assoc c d e =
    λ i. record {
      dictionary = e.dictionary;
      given = append_assoc c.given d.given e.given i;
      events = append_assoc c.events d.events e.events i;
      stored = append_assoc c.stored d.stored e.stored i;
    }

pub walk-append : (a b : List Act) (δ : Dictionary) (n : ℕ) → walk (a ++ b) δ n
    ≡ followed (walk a δ n) (walk b (walk a δ n).dictionary (n + length (walk a δ n).given))
unfolding walk
walk-append [] b δ n = ap (walk b δ) (sym (add-zero n))
walk-append (c ∷ a) b δ n =
    let d = act c δ n in
    let w = walk a d.dictionary (n + length d.given) in
    let l = length-append d.given w.given in
    let z : (n + length d.given) + length w.given ≡ n + length (d.given ++ w.given) = omega arith in
    ap (followed d) (walk-append a b d.dictionary (n + length d.given) ∙ ap (λ m. followed w (walk b w.dictionary m)) z)
    ∙ sym (followed-assoc d w (walk b w.dictionary (n + length (d.given ++ w.given))))

-- ---- what is held stays held: a party gains by sending what it makes, and by receiving what it stores
act-grows : (a : Act) (δ : Dictionary) (n : ℕ) → Grows δ (act a δ n).dictionary
unfolding act
act-grows (Act.sends i ts) δ n = (build_all-makes i ts δ).grows
act-grows (Act.receives i ts) δ n = receive_all-grows i ts n δ (n + count ts)

pub walk-grows : (acts : List Act) (δ : Dictionary) (n : ℕ) → Grows δ (walk acts δ n).dictionary
unfolding walk
walk-grows [] δ n u h = h
walk-grows (a ∷ acts) δ n u h = walk-grows acts _ _ u (act-grows a δ n u h)
