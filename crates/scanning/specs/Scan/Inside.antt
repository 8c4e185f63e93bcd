-- No END is among the events of a step. Assumes nothing.
use Rattle.std.specs.Prelude.{ℕ, ◌+◌, List, [], ◌∷◌, ◌++◌, map, ◌≡◌}
use Rattle.std.proofs.Math.Decide.{ℕ_discrete}
use Rattle.terms.specs.Term.{count}
use Rattle.terms.specs.Table.{terms}
use Rattle.book.specs.Layout.{table, sender, receiver, messages}
use Rattle.translation.specs.Dictionary.{Dictionary}
use Rattle.translation.specs.Build.{build_all}
use Rattle.translation.specs.Receive.{Event}
use Rattle.translation.proofs.Receive.Laws.{Quiet, receive_all-quiet}
use Rattle.translation.specs.Steps.{step_did}
use Rattle.translation.proofs.Steps.Laws.{step-sends, step-receives, step-idle}
use Rattle.scanning.specs.Scan.{Inner}

inner-news : (rs : List ℕ) (es : List Event) → Inner es → Inner (map Event.new rs ++ es)
inner-news [] es h = h
inner-news (r ∷ rs) es h = inner-news rs es h

quiet-inner : {es : List Event} → Quiet es → Inner es
quiet-inner Quiet.nil = tt
quiet-inner (Quiet.checks h) = quiet-inner h
quiet-inner (Quiet.opens h) = quiet-inner h

pub inner-step : (b : List ℕ) (p i : ℕ) (δ : Dictionary) (n : ℕ) → Inner (step_did b p i δ n).events
inner-step b p i δ n = go (ℕ_discrete (sender b i) p) (ℕ_discrete (receiver b i) p)
  where
    go : Dec (sender b i ≡ p) → Dec (receiver b i ≡ p) → Inner (step_did b p i δ n).events
    go (yes e) r =
        let g = build_all i (terms (table b) (messages b i)) δ in
        rw (step-sends b p i δ n e) (inner-news g.made (Event.sends i g.images ∷ []) tt)
    go (no e) (yes r) =
        let ts = terms (table b) (messages b i) in
        rw (step-receives b p i δ n e r) (quiet-inner (receive_all-quiet i ts n δ (n + count ts)))
    go (no e) (no r) = rw (step-idle b p i δ n e r) tt
