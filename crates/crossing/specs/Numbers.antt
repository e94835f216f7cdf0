-- What C is told: which numbers stand for a half, a record and a window, and what a call makes of the numbers that it is given.
-- The numbers of answers and refusals are the model's, `told` and `number`; here is only where each of them goes.
use Rattle.std.specs.Prelude.{ℕ, ◌+◌, Bool, cond, ◌||◌, List, [], ltb, leb, eqb, length, Result, Ok, Err}
use Rattle.model.specs.declared.Refusal.{Refusal}
use Rattle.model.specs.declared.Half.{Half}
use Rattle.model.specs.declared.Half.TheVariants.{A, B}
use Rattle.model.specs.declared.Record.{Record}
use Rattle.model.specs.declared.Refusal.TheVariants as Why
use Rattle.model.specs.declared.Answer.{Answer}
use Rattle.model.specs.declared.Answer.TheVariants as Says
use Rattle.model.specs.declared.Place.{Place}
use Rattle.model.specs.declared.Told.{Told}
use Rattle.model.specs.Words.{State, state_of, with_text, at}
use Rattle.model.specs.Shape.{bad_length}
use Rattle.model.specs.Answers.{Outcome, number, told}
use Rattle.model.specs.Calls.{fresh}
use Rattle.numbers.specs.declared.seen.Seen.{Seen}
use Rattle.numbers.specs.Places as Places
use Rattle.crossing.specs.declared.CRecord.{CRecord}
use Rattle.crossing.specs.declared.CResult.{CResult}
use Rattle.crossing.specs.declared.CCollected.{CCollected}
use Rattle.crossing.specs.declared.CAnswer.{CAnswer}
use Rattle.crossing.specs.declared.CSeen.{CSeen}
use Rattle.crossing.specs.declared.CWritten.{CWritten}
use Rattle.crossing.specs.declared.CWindow.{CWindow}

-- 0.6.0, as major * 1,000,000 + minor * 1,000 + patch
abbrev pub version : ℕ
version = 6_000

-- ---- records: half A is 0, half B is 1, and no other number is a half

abbrev pub half_number : Half → ℕ
half_number A = 0
half_number B = 1

abbrev pub numbers_of : Record → CRecord
numbers_of q = record { half = half_number q.half; free = q.free.0 }

abbrev pub no_half : CRecord → Bool
no_half c = ltb 1 c.half

-- the record that the numbers stand for, where the half is one
abbrev pub record_of : CRecord → Record
record_of c = record { half = cond (eqb c.half 0) A B; free = record { 0 = c.free } }

-- ---- what each call returns, of an answer and a record in numbers. A number that an answer does not have is 0.

abbrev pub result_of : Told → CRecord → CResult
result_of t c = record { refusal = t.refusal; value = t.value; «record» = c }

abbrev pub collected_of : Told → CRecord → CCollected
collected_of t c =
    record { refusal = t.refusal; live = t.value; objects = t.objects; addresses = t.addresses; «record» = c }

abbrev pub answer_of : Told → CAnswer
answer_of t = record { refusal = t.refusal; value = t.value }

-- inspect's, whose numbers have a place of their own each
abbrev pub crossed : Seen → CSeen
crossed s = record { refusal = s.refusal; kind = s.holds; integer = s.integer; count = s.count; code = s.code }

abbrev pub seen_of : Told → CSeen
seen_of t = crossed (Places.seen_of t)

abbrev pub written_of : Told → CWritten
written_of t = record { refusal = t.refusal; length = t.length }

-- of a call that hands no record back: what it returns, beside the record that it leaves
abbrev pub keeping : {T : Type 0} → (Told → T) → Told → CRecord → T × CRecord
keeping returns t c = (returns t, c)

-- ---- the calls

-- what a call returns to C, and the words and bytes that it leaves
pub record Given (T : Type 0) : Type 0 where
  pub returned : T
  pub heap : List ℕ
  pub roots : List ℕ
  pub text : List ℕ

abbrev pub given_of : {T : Type 0} → T → List ℕ → List ℕ → List ℕ → Given T
given_of r H R t = record { returned = r; heap = H; roots = R; text = t }

module _ {T : Type 0} (returns : Told → CRecord → T) where
  -- an outcome in numbers
  abbrev pub in_numbers : Outcome State → Given T
  in_numbers o = given_of (returns (told o.answer) (numbers_of o.left.«record»)) o.left.heap o.left.roots o.left.text

  -- SHAPE: nothing changes, and the record is handed back as it came
  abbrev pub shape_refused : List ℕ → List ℕ → List ℕ → CRecord → Given T
  shape_refused H R t c = given_of (returns (told (Err Why.Shape)) c) H R t

  -- a call of the model, given numbers: a half that is none is SHAPE
  unfoldable pub called_of : (State → Outcome State) → List ℕ → List ℕ → List ℕ → CRecord → Given T
  called_of f H R t c = cond (no_half c) (shape_refused H R t c) (in_numbers (f (with_text t (state_of H R (record_of c)))))

-- fresh looks at no number of the record: its SHAPE is that of the heap's length alone, and it has no roots
unfoldable pub begun : List ℕ → CRecord → Given CResult
begun H c = cond (bad_length (length H)) (shape_refused result_of H [] [] c) (in_numbers result_of (fresh (state_of H [] (record_of c))))

-- ---- the window: the index of the first field's word, and how many there are

abbrev pub window_of : Result Place Refusal → CWindow
window_of (Ok p) = record { refusal = 0; first = p.header.0 + 1; count = p.count }
window_of (Err k) = record { refusal = number k; first = 0; count = 0 }

unfoldable pub opened : (State → Result Place Refusal) → List ℕ → List ℕ → CRecord → CWindow
opened f H R c = window_of (cond (no_half c) (Err Why.Shape) (f (state_of H R (record_of c))))

-- the word at a field number, by the window's numbers alone: FIELD where they name no word of this heap
unfoldable pub word_at : List ℕ → CWindow → ℕ → Result Answer Refusal
word_at H w f = cond (leb w.count f || leb (length H) (w.first + f)) (Err Why.Field) (Ok (Says.Number (at H (w.first + f))))
