-- What is made stays made once, by every move. Assumes nothing.
use Rattle.std.specs.Prelude.{ℕ, ◌≡◌, refl}
use mathlib.Core.List.Memᴰ
use mathlib.Core.List.{List, ◌∷◌, Memᴰ}
use Rattle.std.proofs.Common.{⊎_elim, ap, ◌∙◌}
use Rattle.std.proofs.Math.Option.{Option}
use Rattle.std.proofs.Math.Path.{sym, subst, fun_ext}
use Rattle.terms.specs.Term.{Terms}
use Rattle.words.specs.Run.{NoRepeat}
use Rattle.translation.specs.Receive.{Event}
use Rattle.agreement.specs.Change.{change}
use Rattle.agreement.specs.Change.Laws.{change-ind, change-ap, change-none}
use Rattle.agreement.specs.Machine.{Shown, Party, Turn, turn, delivered, System, made_after, Move, move, Reach}
use Rattle.agreement.specs.Machine.Laws.{Showing, Turned, turn-cases, Delivered, delivered-cases}
use Rattle.agreement.specs.News.{news}
use Rattle.agreement.specs.Log.{Log, Logged}

-- ---- what a move takes off the atoms to be made
showing-news : {e : Event} {o : Shown} (es : List Event) → Showing e o → news (e ∷ es) ≡ made_after o (news es)
unfolding news made_after
showing-news es Showing.new = refl
showing-news es Showing.sends = refl
showing-news es Showing.checks = refl
showing-news es Showing.opens = refl

turned-news : {P : Party} {t : Turn} → Turned P t → news P.left ≡ made_after t.shown (news t.party.left)
unfolding made_after
turned-news Turned.stayed = refl
turned-news (Turned.halted l c) = refl
turned-news (Turned.did {es = es} l w) = ap news l ∙ showing-news es w

delivered-news : {s : ℕ} {o : Option Terms} {P R : Party} → Delivered s o P R → news P.left ≡ news R.left
unfolding news
delivered-news Delivered.dropped = refl
delivered-news (Delivered.halted l e c) = refl
delivered-news (Delivered.took l e) = ap news l

change-news : (f : ℕ → Party) (p : ℕ) (R : Party) (q : ℕ) → news (change f p R q).left ≡ change (λ x. news (f x).left) p (news R.left) q
change-news = change-ap (λ (P : Party). news P.left)

-- ---- the log goes on
module _ (Fresh : ℕ → Type 0) where
  log-same : (made : List ℕ) (later : ℕ → List ℕ) (p : ℕ) (l : List ℕ) → later p ≡ l → Log Fresh made later
      → Log Fresh made (change later p l)
  log-same made later p l e h = subst (Log Fresh made) (sym (subst (λ k. change later p k ≡ later) e (change-none later p))) h

  log-make : (made : List ℕ) (later : ℕ → List ℕ) (p r : ℕ) (l : List ℕ) → later p ≡ r ∷ l → Log Fresh made later
      → Log Fresh (r ∷ made) (change later p l)
  log-make made later p r l e h =
      record {
        once = (h.not_yet p r mine, h.once);
        fresh = λ x m. ⊎_elim (λ z. subst Fresh (sym z) (h.fresh_later p r mine)) (λ z. h.fresh x z) (Memᴰ.cases_cons m);
        not_yet =
            λ q x m n. ⊎_elim (λ z. gone q (subst (λ y. Memᴰ y (change later p l q)) z m)) (λ z. h.not_yet q x (was q x m) z)
            (Memᴰ.cases_cons n);
        fresh_later = λ q x m. h.fresh_later q x (was q x m);
        once_later = λ q. change-ind later p l NoRepeat q (λ z. rest.1) (λ n. h.once_later q);
        apart = λ q s x m n. h.apart q s x (was q x m) (was s x n);
      }
    where
      mine : Memᴰ r (later p)
      mine = subst (Memᴰ r) (sym e) (Memᴰ.head refl)

      rest : NoRepeat (r ∷ l)
      rest = subst NoRepeat e (h.once_later p)

      was : (q x : ℕ) → Memᴰ x (change later p l q) → Memᴰ x (later q)
      was q x =
          change-ind later p l (λ k. Memᴰ x k → Memᴰ x (later q)) q
          (λ z m. subst (Memᴰ x) (sym e ∙ ap later z) (Memᴰ.tail m)) (λ n m. m)

      gone : (q : ℕ) → Memᴰ r (change later p l q) → ⊥
      gone q = change-ind later p l (λ k. Memᴰ r k → ⊥) q (λ z m. rest.0 m) (λ n m. n (h.apart p q r mine m))

  log-turn : (made : List ℕ) (later : ℕ → List ℕ) (p : ℕ) (o : Shown) (l : List ℕ) → later p ≡ made_after o l → Log Fresh made later
      → Log Fresh (made_after o made) (change later p l)
  unfolding made_after
  log-turn made later p Shown.nothing l e h = log-same made later p l e h
  log-turn made later p (Shown.sent s ts) l e h = log-same made later p l e h
  log-turn made later p (Shown.made r) l e h = log-make made later p r l e h

  move-logged : (receiver : ℕ → ℕ) (m : Move) (S : System) → Logged Fresh S → Logged Fresh (move receiver m S)
  unfolding move
  move-logged receiver (Move.own p) S h =
      let t = turn (S.party p) in
      subst (Log Fresh (made_after t.shown S.made)) (fun_ext (λ q. sym (change-news S.party p t.party q)))
      (log-turn S.made (λ q. news (S.party q).left) p t.shown (news t.party.left) (turned-news (turn-cases (S.party p))) h)
  move-logged receiver (Move.delivery s) S h =
      let r = receiver s in
      let R = delivered s (S.sent s) (S.party r) in
      subst (Log Fresh S.made) (fun_ext (λ q. sym (change-news S.party r R q)))
      (log-same S.made (λ q. news (S.party q).left) r (news R.left) (delivered-news (delivered-cases s (S.sent s) (S.party r))) h)

  pub reach-logged : {receiver : ℕ → ℕ} {B S : System} → Reach receiver B S → Logged Fresh B → Logged Fresh S
  reach-logged Reach.start h = h
  reach-logged {receiver} (Reach.after {S = S} m r) h = move-logged receiver m S (reach-logged r h)
