-- What the promise of an exported call says of the slices that it was lent: of what lies behind them at entry, `.old` or `.now`, and at
-- exit, `.new` or `.now`.
use Rattle.std.specs.Prelude.{ℕ, List, []}
use Rattle.model.specs.declared.Told.{Told}
use Rattle.model.specs.Words.{State}
use Rattle.model.specs.Answers.{Outcome}
use Rattle.crossing.specs.declared.CRecord.{CRecord}
use Rattle.crossing.specs.Numbers.{Given, given_of, called_of}

-- what the call returns, and the words that it leaves, where it is lent no bytes
abbrev pub given : {T : Type 0} → T → List ℕ → List ℕ → Given T
given r heap roots = given_of r heap roots []

-- of a call that hands no record back: what it returns, beside the record that it was lent
abbrev pub kept : {T : Type 0} → T → List ℕ → List ℕ → CRecord → Given (T × CRecord)
kept r heap roots c = given (r, c) heap roots

-- the model's call, given the words that it was lent and C's record
abbrev pub called : {T : Type 0} → (Told → CRecord → T) → (State → Outcome State) → List ℕ → List ℕ → CRecord → Given T
called returns f heap roots c = called_of returns f heap roots [] c

-- the same of a call that is lent the bytes of a text too
abbrev pub given_text : {T : Type 0} → T → List ℕ → List ℕ → List ℕ → Given T
given_text r heap roots text = given_of r heap roots text

abbrev pub kept_text : {T : Type 0} → T → List ℕ → List ℕ → CRecord → List ℕ → Given (T × CRecord)
kept_text r heap roots c text = given_text (r, c) heap roots text

abbrev pub called_text : {T : Type 0} → (Told → CRecord → T) → (State → Outcome State) → List ℕ → List ℕ → CRecord
    → List ℕ → Given T
called_text returns f heap roots c text = called_of returns f heap roots text c
