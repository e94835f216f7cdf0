-- What a promise says of the slices and the record that its function was lent: `state_of` them at entry, `.old` or `.now`, and at
-- exit, `.new` or `.now`; a slice lent by `&` is left as it was passed.
use Rattle.std.specs.Prelude.{ℕ, List, Result}
use Rattle.model.specs.declared.Record.{Record}
use Rattle.model.specs.declared.Refusal.{Refusal}
use Rattle.model.specs.declared.Answer.{Answer}
use Rattle.model.specs.declared.Answered.{Answered}
use Rattle.model.specs.Words.{State, state_of, text_state_of}
use Rattle.model.specs.Answers.{Outcome}

-- of a call that leaves the record that it was lent, or that is lent the record itself: what it returns, and what it leaves
abbrev pub kept : Result Answer Refusal → List ℕ → List ℕ → Record → Outcome State
kept a heap roots q = record { answer = a; left = state_of heap roots q }

-- of a call that hands a record back
abbrev pub outcome : Answered → List ℕ → List ℕ → Outcome State
outcome r heap roots = kept r.answer heap roots r.«record»

-- of a call that is lent the bytes of a text too
abbrev pub kept_text : Result Answer Refusal → List ℕ → List ℕ → Record → List ℕ → Outcome State
kept_text a heap roots q text = record { answer = a; left = text_state_of heap roots q text }

abbrev pub outcome_text : Answered → List ℕ → List ℕ → List ℕ → Outcome State
outcome_text r heap roots text = kept_text r.answer heap roots r.«record» text
