-- The same of the used part of a heap: what names an object in it, which word names a tuple, a word's form and an object's pieces.
use Rattle.std.specs.Prelude.{ℕ, Bool, List, Result}
use Rattle.model.specs.declared.Refusal.{Refusal}
use Rattle.model.specs.Texts.{Form, Piece, tuple_pieces}
use Rattle.model.specs.Headers.{tuple}
use Rattle.model.specs.Objects.{field_count}
use Rattle.writer_measuring.specs.declared.used.UsedPart.{UsedPart}
use Rattle.writer_measuring.specs.Forms.{named_in, tuple_named, fields_at, form_in}
use Rattle.writer_measuring.specs.Tuples.{object_in}

abbrev pub named_by : UsedPart → ℕ → Bool
named_by u w = named_in u.first u.free u.heap.now w

abbrev pub tuple_by : UsedPart → ℕ → Result ℕ Refusal
tuple_by u w = tuple_named u.first u.free u.heap.now w

abbrev pub form_by : UsedPart → ℕ → Form ℕ
form_by u w = form_in u.first u.free u.heap.now w

abbrev pub object_by : UsedPart → ℕ → ℕ → List Piece
object_by u d i = object_in u.first u.free u.heap.now d i

-- with its own level counted
abbrev pub nested_by : UsedPart → ℕ → ℕ → List Piece
nested_by u d i = tuple_pieces (form_in u.first u.free u.heap.now) d (fields_at u.heap.now i (field_count tuple u.heap.now i))
