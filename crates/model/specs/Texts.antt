-- The text of a value, in Standard ML's notation. Document 02, Q-2. A text is a list of bytes.
--
--     an integer    its decimal digits with no leading zeros, `~` before them for minus
--     no fields     ()
--     one field     {1=v}
--     more          (v,w) and so on
--
-- What a value is to its text is its FORM; heaps and object graphs have one each and share all that follows. A value has PIECES, each
-- a byte or a fault; the PLACE of a piece is the number of bytes before it. A value has a text where no piece is a fault.
use Rattle.std.specs.Prelude.{ℕ, zero, suc, ◌+◌, ◌/◌, ◌%◌, cond, List, [], ◌∷◌, ◌++◌, map, ltb, length, drop, ℤ, pos, negsuc}
use Rattle.model.specs.declared.Refusal.{Refusal}
use Rattle.model.specs.declared.Refusal.TheVariants as Why
use Rattle.model.specs.declared.Answer.TheVariants as Says
use Rattle.model.specs.Answers.{Outcome, says, refused}

-- ---- integers

abbrev pub digit : ℕ → ℕ
digit n = 48 + n

-- the decimal digits of n, k of them at most after the first
unfoldable pub digits_to : ℕ → ℕ → List ℕ
digits_to zero n = digit n ∷ []
digits_to (suc k) n =
    let more = digits_to k (n / 10) ++ (digit (n % 10) ∷ []) in
    cond (ltb n 10) (digit n ∷ []) more

-- no number has more digits than it counts
abbrev pub digits : ℕ → List ℕ
digits n = digits_to n n

abbrev pub minus : ℕ
minus = 126

abbrev pub integer_text : ℤ → List ℕ
integer_text (pos n) = digits n
integer_text (negsuc n) = minus ∷ digits (n + 1)

-- ---- tuples

abbrev pub opener : ℕ
opener = 40

abbrev pub closer : ℕ
closer = 41

abbrev pub comma : ℕ
comma = 44

-- "{1=" and "}"
abbrev pub one_opener : List ℕ
one_opener = 123 ∷ 49 ∷ 61 ∷ []

abbrev pub one_closer : ℕ
one_closer = 125

module _ {A : Type 0} (byte : ℕ → A) where
  -- what follows the first part: a comma and the next part, and so on, and the closer
  unfoldable pub joined : List (List A) → List A
  joined [] = byte closer ∷ []
  joined (p ∷ ps) = byte comma ∷ p ++ joined ps

  -- the tuple of such parts: () or {1=p} or (p,q) and so on
  unfoldable pub enclosed : List (List A) → List A
  enclosed [] = byte opener ∷ byte closer ∷ []
  enclosed (p ∷ []) = map byte one_opener ++ p ++ (byte one_closer ∷ [])
  enclosed (p ∷ q ∷ ps) = byte opener ∷ p ++ joined (q ∷ ps)

-- ---- values

-- an integer, a tuple of values, or what has no text, and why
pub data Form (X : Type 0) : Type 0 where
  as_integer : ℤ → Form X
  as_tuple : List X → Form X
  textless : Refusal → Form X

pub data Piece : Type 0 where
  byte : ℕ → Piece
  fault : Refusal → Piece

-- the pieces of a value of a form, over those of a tuple
abbrev pub form_pieces : {X : Type 0} → (List X → List Piece) → Form X → List Piece
form_pieces tuple_pieces (as_integer v) = map byte (integer_text v)
form_pieces tuple_pieces (as_tuple vs) = tuple_pieces vs
form_pieces tuple_pieces (textless k) = fault k ∷ []

-- tuples nest so deep
abbrev pub max_depth : ℕ
max_depth = 64

module _ {X : Type 0} (form : X → Form X) where
  -- a tuple with d levels left: DEEP where there is none, else its fields' values with one fewer
  unfoldable pub tuple_pieces : ℕ → List X → List Piece
  tuple_pieces zero vs = fault Why.Deep ∷ []
  tuple_pieces (suc d) vs = enclosed byte (map (λ v. form_pieces (tuple_pieces d) (form v)) vs)

  abbrev pub value_pieces : ℕ → X → List Piece
  value_pieces d v = form_pieces (tuple_pieces d) (form v)

-- ---- written into bytes that are lent

-- the bytes of all pieces, or why there are none
pub data Spelled : Type 0 where
  whole : List ℕ → Spelled
  broken : Refusal → Spelled

abbrev pub behind : ℕ → Spelled → Spelled
behind b (whole bs) = whole (b ∷ bs)
behind b (broken k) = broken k

-- from the left, into n bytes: the first fault decides, and a byte that has no room is one
unfoldable pub spelled : ℕ → List Piece → Spelled
spelled n [] = whole []
spelled n (fault k ∷ ps) = broken k
spelled zero (byte b ∷ ps) = broken Why.Text
spelled (suc n) (byte b ∷ ps) = behind b (spelled n ps)

-- the first bytes of t replaced
abbrev pub over : List ℕ → List ℕ → List ℕ
over bs t = bs ++ drop (length bs) t

-- what a writer answers and leaves: of s, which was lent the bytes t, and of s with other bytes
abbrev pub writes : {L : Type 0} → (List ℕ → L) → L → List ℕ → Spelled → Outcome L
writes with_text s t (whole bs) = says (Says.Written (length bs)) (with_text (over bs t))
writes with_text s t (broken k) = refused k s
