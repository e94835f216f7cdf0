-- The window on the object that a root names. Document 01, "The calls".
use Rattle.std.specs.Prelude.{ℕ, ◌+◌, not, cond, List, [], ◌∷◌, leb, length, take, drop, Result, Ok, Err}
use Rattle.model.specs.declared.Refusal.{Refusal}
use Rattle.model.specs.declared.Refusal.TheVariants as Why
use Rattle.model.specs.declared.Answer.{Answer}
use Rattle.model.specs.declared.Answer.TheVariants as Says
use Rattle.model.specs.declared.Index.{Index}
use Rattle.model.specs.declared.Place.{Place}
use Rattle.model.specs.Words.{State, at}
use Rattle.model.specs.Headers.{Layout}
use Rattle.model.specs.Objects.{index, field_count, names}
use Rattle.model.specs.Admission.{admitted}
use Rattle.model.specs.Changes.{root_word}

-- at the header's index, of so many fields
abbrev pub place : Index → ℕ → Place
place i n = record { header = i; count = n }

-- where root r's object stands, of either kind; or SHAPE, ROOT or OBJECT
unfoldable pub window : Layout → ℕ → State → Result Place Refusal
window Y r s =
    let i = index Y (root_word s r) in
    admitted (λ b k next. cond b (Err k) next) (r ∷ []) s
    (cond (not (names Y s (root_word s r))) (Err Why.Object)
    (Ok (place (record { 0 = i }) (field_count Y s.heap i))))

-- the part of the heap that it shows: the n words after the header; none where it is refused
abbrev pub shown : List ℕ → Result Place Refusal → List ℕ
shown H (Ok p) = take p.count (drop (p.header.0 + 1) H)
shown H (Err k) = []

abbrev pub window_count : Result Place Refusal → ℕ
window_count (Ok p) = p.count
window_count (Err k) = 0

-- the word at a field number, or FIELD where it shows none: from the count on, and past the end of the words
unfoldable pub window_word : List ℕ → Result Place Refusal → ℕ → Result Answer Refusal
window_word H p f = cond (leb (length (shown H p)) f) (Err Why.Field) (Ok (Says.Number (at (shown H p) f)))
