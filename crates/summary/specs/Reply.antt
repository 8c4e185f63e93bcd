-- What `ask` returns as it is counted: yes and no are accepted questions, answered 1 and 0.
use Rattle.std.specs.Prelude.{Bool, true, false, [], ◌∷◌, Result, Ok, Err}
use Rattle.book.specs.Said.{Said, said, refusal_says}
use Rattle.book.specs.declared.Refusal.{Refusal}

-- what is answered to a question, or why it is not
abbrev pub Reply : Type 0
Reply = Result Bool Refusal

abbrev pub reply_says : Reply → Said
reply_says (Ok true) = said 0 (1 ∷ [])
reply_says (Ok false) = said 0 (0 ∷ [])
reply_says (Err f) = refusal_says f
