-- A tuple's pieces as the writer comes to them: each field after its lead, and then the closer.
use Rattle.std.specs.Prelude.{ℕ, ◌+◌, cond, List, [], ◌∷◌, ◌++◌, map, eqb}
use Rattle.model.specs.Texts.{opener, closer, comma, one_opener, one_closer, Piece, byte, value_pieces, enclosed}
use Rattle.model.specs.Headers.{tuple}
use Rattle.model.specs.Objects.{field_count}
use Rattle.writer_measuring.specs.Forms.{fields_at, form_in}

-- a tuple of no field
abbrev pub no_fields : List ℕ
no_fields = opener ∷ closer ∷ []

-- what stands before field f of n: "{1=" of a field alone, else "(" or ","
abbrev pub lead : ℕ → ℕ → List ℕ
lead n f = cond (eqb n 1) one_opener (cond (eqb f 0) (opener ∷ []) (comma ∷ []))

abbrev pub lead_bytes : ℕ → ℕ
lead_bytes n = cond (eqb n 1) 3 1

abbrev pub closer_of : ℕ → ℕ
closer_of n = cond (eqb n 1) one_closer closer

-- fields of such pieces, from field f of n on, and the closer
unfoldable pub from_field : ℕ → ℕ → List (List Piece) → List Piece
from_field n f [] = byte (closer_of n) ∷ []
from_field n f (p ∷ ps) = map byte (lead n f) ++ (p ++ from_field n (f + 1) ps)

-- the tuple of the n words after the one at i, whose values have d levels left
abbrev pub tuple_in : ℕ → ℕ → List ℕ → ℕ → ℕ → ℕ → List Piece
tuple_in first free H d i n = enclosed byte (map (λ w. value_pieces (form_in first free H) d w) (fields_at H i n))

-- that of the object at i
abbrev pub object_in : ℕ → ℕ → List ℕ → ℕ → ℕ → List Piece
object_in first free H d i = tuple_in first free H d i (field_count tuple H i)
