-- The session calls on the object graph: the same answers and refusals, and never DAMAGED or ROOM.
use Rattle.std.specs.Prelude.{ℕ, ◌+◌, Bool, true, false, not, cond, List, [], ◌∷◌, ◌++◌, ltb, leb, eqb, length, get_or, set, replicate, ℤ, pos, negsuc}
use Rattle.model.specs.declared.Kind.{Kind}
use Rattle.model.specs.declared.Kind.TheVariants.{Traced, Untraced}
use Rattle.model.specs.declared.Refusal.TheVariants as Why
use Rattle.model.specs.declared.Answer.{Answer}
use Rattle.model.specs.declared.Answer.TheVariants as Says
use Rattle.model.specs.declared.Call.{Call}
use Rattle.model.specs.declared.Call.TheVariants as Ask
use Rattle.model.specs.Limits.{max_fields}
use Rattle.model.specs.Values.{is_code, in_range}
use Rattle.model.specs.Answers.{Outcome, says, refuse, refused}
use Rattle.model.specs.Admission.{no_roots}
use Rattle.model.specs.Texts.{Form, as_integer, as_tuple, textless, max_depth, value_pieces, spelled, writes}
use Rattle.model.specs.Trees.{Forest, end, leaf_then, node_then, Tree, leaf, node, count}
use Rattle.model.specs.Reading.{Parsed, tree, broken, parsed}
use Rattle.model.specs.Sessions.{Asked, Reply}
use Rattle.model.specs.Graph.{Plain, integer, null, code, Value, plain, object, Object, traced, untraced, Graph, nth, root_value, graph_counts}

-- ROOT of the root numbers that a call names comes first; a graph has no shape to be refused
abbrev pub on_graph_roots : List ℕ → Graph → Outcome Graph → Outcome Graph
on_graph_roots named g own = refuse (no_roots (length g.roots) named) Why.Root g own

abbrev pub graph_with_root : Graph → ℕ → Value → Graph
graph_with_root g r v = record { objects = g.objects; roots = set g.roots r v; text = g.text }

abbrev pub with_object : Graph → ℕ → Object → Graph
with_object g i b = record { objects = set g.objects i b; roots = g.roots; text = g.text }

abbrev pub graph_with_text : List ℕ → Graph → Graph
graph_with_text t g = record { objects = g.objects; roots = g.roots; text = t }

-- a new object: n null fields, or n raw zeros
abbrev pub blank_object : Kind → ℕ → Object
blank_object Traced n = traced (replicate n (plain null))
blank_object Untraced n = untraced (replicate n 0)

-- it comes last
abbrev pub with_blank : Kind → ℕ → Graph → Graph
with_blank k n g = record { objects = g.objects ++ (blank_object k n ∷ []); roots = g.roots; text = g.text }

-- and root r names it
abbrev pub grown : Kind → ℕ → ℕ → Graph → Graph
grown k n r g = graph_with_root (with_blank k n g) r (object (length g.objects))

-- field f of the object with number x gets a value
abbrev pub with_field_of : Graph → ℕ → ℕ → Value → Object → Graph
with_field_of g x f v (traced vs) = with_object g x (traced (set vs f v))
with_field_of g x f v (untraced ws) = g

abbrev pub with_field : Graph → ℕ → ℕ → Value → Graph
with_field g x f v = with_field_of g x f v (nth g x)

-- the values of a tuple, from field f of the object x on: integers, and new objects in the order in which they are met
unfoldable pub graph_laid : Forest → ℕ → ℕ → Graph → Graph
graph_laid end x f g = g
graph_laid (leaf_then v rest) x f g = graph_laid rest x (f + 1) (with_field g x f (plain (integer v)))
graph_laid (node_then inner rest) x f g =
    let y = length g.objects in
    graph_laid rest x (f + 1) (graph_laid inner y 0 (with_field (with_blank Traced (count inner) g) x f (object y)))

-- root r gets a tree
unfoldable pub graph_planted : Tree → ℕ → Graph → Graph
graph_planted (leaf v) r g = graph_with_root g r (plain (integer v))
graph_planted (node inner) r g = graph_laid inner (length g.objects) 0 (grown Traced (count inner) r g)

abbrev pub graph_reads : ℕ → Graph → Parsed → Outcome Graph
graph_reads to g (tree t) = says Says.Done (graph_planted t to g)
graph_reads to g (broken k) = refused k g

abbrev pub same_integer : ℤ → ℤ → Bool
same_integer (pos a) (pos b) = eqb a b
same_integer (pos a) (negsuc b) = false
same_integer (negsuc a) (pos b) = false
same_integer (negsuc a) (negsuc b) = eqb a b

abbrev pub same_plain : Plain → Plain → Bool
same_plain (integer a) (integer b) = same_integer a b
same_plain (integer a) null = false
same_plain (integer a) (code w) = false
same_plain null (integer b) = false
same_plain null null = true
same_plain null (code w) = false
same_plain (code v) (integer b) = false
same_plain (code v) null = false
same_plain (code v) (code w) = eqb v w

abbrev pub same_value : Value → Value → Bool
same_value (plain a) (plain b) = same_plain a b
same_value (plain a) (object j) = false
same_value (object i) (plain b) = false
same_value (object i) (object j) = eqb i j

-- by an object's kind: the first is handed a traced one's fields, the second an untraced one's
abbrev pub by_kind : Object → (List Value → Outcome Graph) → (List ℕ → Outcome Graph) → Outcome Graph
by_kind (traced vs) t u = t vs
by_kind (untraced ws) t u = u ws

-- the same of the object that a value is; OBJECT where it is none
unfoldable pub on_object : Graph → Value → (ℕ → List Value → Outcome Graph) → (ℕ → List ℕ → Outcome Graph) → Outcome Graph
on_object g (plain p) t u = refused Why.Object g
on_object g (object i) t u = by_kind (nth g i) (t i) (u i)

abbrev pub wrong_kind : {A : Type 0} → Graph → ℕ → List A → Outcome Graph
wrong_kind g i xs = refused Why.Kind g

abbrev pub plain_answer : Plain → Answer
plain_answer (integer v) = Says.Integer v
plain_answer null = Says.Null
plain_answer (code w) = Says.Code w

unfoldable pub inspected : Graph → Value → Outcome Graph
inspected g (plain p) = says (plain_answer p) g
inspected g (object i) =
    by_kind (nth g i) (λ vs. says (Says.Object Traced (length vs)) g) (λ ws. says (Says.Object Untraced (length ws)) g)

-- what a value is to its text
abbrev pub plain_form : Plain → Form Value
plain_form (integer v) = as_integer v
plain_form null = textless Why.Value
plain_form (code w) = textless Why.Value

abbrev pub object_form : Object → Form Value
object_form (traced vs) = as_tuple vs
object_form (untraced ws) = textless Why.Value

abbrev pub value_form : Graph → Value → Form Value
value_form g (plain p) = plain_form p
value_form g (object i) = object_form (nth g i)

unfoldable pub graph_step : Call → Graph → Outcome Graph
graph_step Ask.Collect g = on_graph_roots [] g (says (Says.Live (graph_counts g)) g)
graph_step Ask.Check g = on_graph_roots [] g (says Says.Sound g)
graph_step (Ask.Allocate kind fields to) g =
    on_graph_roots (to ∷ []) g
    (refuse (ltb max_fields fields) Why.Count g
    (says Says.Done (grown kind fields to g)))
graph_step (Ask.SetInteger to value) g =
    on_graph_roots (to ∷ []) g
    (refuse (not (in_range value)) Why.Range g
    (says Says.Done (graph_with_root g to (plain (integer value)))))
graph_step (Ask.SetNull to) g =
    on_graph_roots (to ∷ []) g
    (says Says.Done (graph_with_root g to (plain null)))
graph_step (Ask.SetCode to word) g =
    on_graph_roots (to ∷ []) g
    (refuse (not (is_code word)) Why.Range g
    (says Says.Done (graph_with_root g to (plain (code word)))))
graph_step (Ask.Copy from to) g =
    on_graph_roots (from ∷ to ∷ []) g
    (says Says.Done (graph_with_root g to (root_value g from)))
graph_step (Ask.Load root field to) g =
    on_graph_roots (root ∷ to ∷ []) g
    (on_object g (root_value g root)
    (λ i vs. refuse (leb (length vs) field) Why.Field g (says Says.Done (graph_with_root g to (get_or vs field (plain null)))))
    (wrong_kind g))
graph_step (Ask.Store root field from) g =
    on_graph_roots (root ∷ from ∷ []) g
    (on_object g (root_value g root)
    (λ i vs. refuse (leb (length vs) field) Why.Field g (says Says.Done (with_object g i (traced (set vs field (root_value g from))))))
    (wrong_kind g))
graph_step (Ask.RawRead root field) g =
    on_graph_roots (root ∷ []) g
    (on_object g (root_value g root)
    (wrong_kind g)
    (λ i ws. refuse (leb (length ws) field) Why.Field g (says (Says.Number (get_or ws field 0)) g)))
graph_step (Ask.RawWrite root field number) g =
    on_graph_roots (root ∷ []) g
    (on_object g (root_value g root)
    (wrong_kind g)
    (λ i ws. refuse (leb (length ws) field) Why.Field g (says Says.Done (with_object g i (untraced (set ws field number))))))
graph_step (Ask.Same one other) g =
    on_graph_roots (one ∷ other ∷ []) g
    (says (cond (same_value (root_value g one) (root_value g other)) Says.Yes Says.No) g)
graph_step (Ask.Inspect root) g =
    on_graph_roots (root ∷ []) g
    (inspected g (root_value g root))
graph_step (Ask.Write root) g =
    on_graph_roots (root ∷ []) g
    (writes (λ t. graph_with_text t g) g g.text
    (spelled (length g.text) (value_pieces (value_form g) max_depth (root_value g root))))
graph_step (Ask.Read to) g = on_graph_roots (to ∷ []) g (graph_reads to g (parsed g.text))

-- one call of a session, on the graph with the bytes that are lent to it
abbrev pub graph_asked : Asked → Graph → Outcome Graph
graph_asked c g = graph_step c.call (graph_with_text c.text g)

-- the replies to a list of calls, and the graph after them
unfoldable pub graph_replies : List Asked → Graph → List Reply
graph_replies [] g = []
graph_replies (c ∷ cs) g = let o = graph_asked c g in record { answer = o.answer; text = o.left.text } ∷ graph_replies cs o.left

unfoldable pub graph_after : List Asked → Graph → Graph
graph_after [] g = graph_with_text [] g
graph_after (c ∷ cs) g = graph_after cs (graph_asked c g).left
