-- The object graph with unlimited room that demand 3 compares with: objects in a growing list, named by their number in it.
-- What is reachable, and what a collection counts of it; the calls are in GraphCalls.
use Rattle.std.specs.Prelude.{ℕ, ◌+◌, List, [], ◌∷◌, map, length, get_or, replicate, ℤ}
use Rattle.std.proofs.Math.Option.{Option, none, some}
use Rattle.model.specs.declared.Counts.{Counts}
use Rattle.model.specs.Discovery.{packed, found}

-- a value that is no object
pub data Plain : Type 0 where
  integer : ℤ → Plain
  null : Plain
  code : ℕ → Plain

pub data Value : Type 0 where
  plain : Plain → Value
  object : ℕ → Value

pub data Object : Type 0 where
  traced : List Value → Object
  untraced : List ℕ → Object

-- the text is that of the bytes which a call is lent
pub record Graph : Type 0 where
  pub objects : List Object
  pub roots : List Value
  pub text : List ℕ

-- no objects, and n null roots
abbrev pub empty_graph : ℕ → Graph
empty_graph n = record { objects = []; roots = replicate n (plain null); text = [] }

-- the object with number i; past the end one without fields, which no session meets
abbrev pub nth : Graph → ℕ → Object
nth g i = get_or g.objects i (traced [])

abbrev pub root_value : Graph → ℕ → Value
root_value g r = get_or g.roots r (plain null)

-- what a value leads to, and what each word of an object leads to, header first
abbrev pub value_leads : Value → Option ℕ
value_leads (plain p) = none
value_leads (object i) = some i

abbrev pub object_cells : Object → List (Option ℕ)
object_cells (traced vs) = none ∷ map value_leads vs
object_cells (untraced ws) = none ∷ replicate (length ws) none

abbrev pub graph_cells : Graph → ℕ → List (Option ℕ)
graph_cells g i = object_cells (nth g i)

abbrev pub itself : Option ℕ → Option ℕ
itself l = l

-- the words of all objects: no more can be passed
unfoldable pub total_words : List Object → ℕ
total_words [] = 0
total_words (b ∷ bs) = length (object_cells b) + total_words bs

-- the objects met, roots by rising number, then p words
unfoldable pub graph_order : Graph → ℕ → List ℕ
graph_order g p = found (graph_cells g) none itself (map value_leads g.roots) p

-- how many of some values are objects; in the fields of an object, if it is traced; and in those of the objects of a list
unfoldable pub objects_in : List Value → ℕ
objects_in [] = 0
objects_in (plain p ∷ vs) = objects_in vs
objects_in (object i ∷ vs) = 1 + objects_in vs

abbrev pub objects_of : Object → ℕ
objects_of (traced vs) = objects_in vs
objects_of (untraced ws) = 0

unfoldable pub objects_among : Graph → List ℕ → ℕ
objects_among g [] = 0
objects_among g (i ∷ o) = objects_of (nth g i) + objects_among g o

-- what a collection counts: the words of the reachable objects, these objects, and the values that are objects in the roots and in
-- the fields of those that are traced
unfoldable pub graph_counts : Graph → Counts
graph_counts g =
    let o = graph_order g (total_words g.objects) in
    record {
      live = length (packed (graph_cells g) o);
      objects = length o;
      addresses = objects_in g.roots + objects_among g o;
    }
