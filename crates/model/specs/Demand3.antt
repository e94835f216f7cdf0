-- Demand 3: one list of session calls gives the same answers at two heap sizes until the smaller answers "no room", and these are
-- the answers of an object graph with unlimited room; "no room" exactly when live words plus needed words exceed the half.
-- It is said of any two sound states that stand for one graph, and of heaps that begin with fresh.
use Rattle.std.specs.Prelude.{ℕ, ◌+◌, ◌*◌, ◌≤◌, ◌<◌, ◌≡◌, ◌↔◌, Bool, cond, eqb, length, get_or, take, replicate, Err, Result}
use mathlib.Core.List.{List, [], ◌∷◌, Memᴰ}
use Rattle.std.proofs.Math.Option.{Option, none, some}
use Rattle.model.specs.declared.Record.{Record}
use Rattle.model.specs.declared.Refusal.{Refusal}
use Rattle.model.specs.declared.Refusal.TheVariants as Why
use Rattle.model.specs.declared.Answer.{Answer}
use Rattle.model.specs.declared.Call.{Call}
use Rattle.model.specs.declared.Call.TheVariants as Ask
use Rattle.model.specs.Limits.{max_half, max_roots}
use Rattle.model.specs.Words.{State, state_of, at, half_words}
use Rattle.model.specs.Headers.{Layout}
use Rattle.model.specs.Answers.{number, told}
use Rattle.model.specs.Changes.{root_word}
use Rattle.model.specs.Conditions.{Sound}
use Rattle.model.specs.Sessions.{Machine, Asked, asked, replies, answers, after}
use Rattle.model.specs.Graph.{Value, plain, null, object, Object, traced, untraced, Graph, empty_graph, nth, root_value}
use Rattle.model.specs.Graph.{objects_in, objects_among, graph_counts}
use Rattle.model.specs.GraphCalls.{graph_asked, graph_replies, graph_after}
use Rattle.model.specs.Represents.{Represents}
use Rattle.model.specs.Demand2.{Lists}
use Rattle.model.specs.Trees.{tree_words}
use Rattle.model.specs.Reading.{Parsed, tree, broken, parsed}

-- ---- a session that begins with fresh

-- any words of a legal length: halves of S words
pub record Halves (heap : List ℕ) (S : ℕ) : Type 0 where
  pub length-is : length heap ≡ 2 * S + 1
  pub least : 1 ≤ S
  pub most : S ≤ max_half

-- such words, any record, and a legal number of null roots
pub record Session : Type 0 where
  pub heap : List ℕ
  pub S : ℕ
  pub halves : Halves heap S
  pub null_roots : ℕ
  pub few : null_roots ≤ max_roots
  pub «record» : Record

-- they are lent and made fresh
abbrev pub begun : Machine → Session → State
begun M e = (M.fresh (state_of e.heap (replicate e.null_roots 0) e.«record»)).left

-- ---- "no room"

abbrev pub no_room : Result Answer Refusal
no_room = Err Why.Room

abbrev pub is_no_room : Result Answer Refusal → Bool
is_no_room a = eqb (told a).refusal (number Why.Room)

-- the calls of a list that are not answered "no room"
unfoldable pub carried_out : Machine → List Asked → State → List Asked
carried_out M [] s = []
carried_out M (c ∷ cs) s =
    let o = asked M c s in
    let rest = carried_out M cs o.left in
    cond (is_no_room o.answer) rest (c ∷ rest)

-- the words that a tree of a text takes
abbrev pub needed_by : Parsed → Option ℕ
needed_by (tree t) = some (tree_words t)
needed_by (broken k) = none

-- the words that a call needs, of those that need any
abbrev pub needed : Call → List ℕ → Option ℕ
needed (Ask.Allocate _ fields _) text = some (fields + 1)
needed (Ask.Read _) text = needed_by (parsed text)
needed Ask.Collect text = none
needed Ask.Check text = none
needed (Ask.SetInteger _ _) text = none
needed (Ask.SetNull _) text = none
needed (Ask.SetCode _ _) text = none
needed (Ask.Copy _ _) text = none
needed (Ask.Load _ _ _) text = none
needed (Ask.Store _ _ _) text = none
needed (Ask.RawRead _ _) text = none
needed (Ask.RawWrite _ _ _) text = none
needed (Ask.Same _ _) text = none
needed (Ask.Inspect _) text = none
needed (Ask.Write _) text = none

-- the graph carries the call out, and live words and needed words exceed a half of S words
pub record Exceeds (S : ℕ) (g : Graph) (c : Asked) : Type 0 where
  pub unrefused : (k : Refusal) → (graph_asked c g).answer ≡ Err k → ⊥
  pub words : ℕ
  pub needs : needed c.call c.text ≡ some words
  pub exceed : S < (graph_counts g).live + words

-- ---- what a collection counts of the graph

-- an object of the graph is reachable
pub data Reachable (g : Graph) : ℕ → Type 0 where
  from_root : (r : ℕ) {i : ℕ} → root_value g r ≡ object i → Reachable g i
  from_field : (f : ℕ) {i j : ℕ} (vs : List Value) → Reachable g i → nth g i ≡ traced vs → get_or vs f (plain null) ≡ object j → Reachable g j

-- n + 1, and its sum
abbrev pub graph_size : Object → ℕ
graph_size (traced vs) = length vs + 1
graph_size (untraced ws) = length ws + 1

abbrev pub graph_sizes : Graph → List ℕ → ℕ
graph_sizes g [] = 0
graph_sizes g (i ∷ o) = graph_size (nth g i) + graph_sizes g o

-- ---- the demand

module _ (M : Machine) where
  -- k calls of any list, each with bytes of its own, none of which the smaller heap answers "no room": both heaps and the graph
  -- answer the same and leave the same bytes
  abbrev pub SameAnswers : State → State → Graph → Type 0
  SameAnswers small large g = (cs : List Asked) (k : ℕ) → (Memᴰ no_room (take k (answers M cs small)) → ⊥)
      → (take k (replies M cs small) ≡ take k (replies M cs large)) × (take k (replies M cs small) ≡ take k (graph_replies cs g))

  -- after any list of calls, "no room" exactly when the graph's live words and the words needed exceed the half, which has S
  -- words; the graph is that of the calls carried out
  abbrev pub RoomExactly : ℕ → State → Graph → Type 0
  RoomExactly S s g = (cs : List Asked) (c : Asked)
      → ((asked M c (after M cs s)).answer ≡ no_room) ↔ Exceeds S (graph_after (carried_out M cs s) g) c

  -- the refusal k is no answer to any list of calls
  abbrev pub Never : Refusal → State → Type 0
  Never k s = (cs : List Asked) → Memᴰ (Err k) (answers M cs s) → ⊥

-- what a collection counts, said by what is reachable: some list names each reachable object of the graph once, and of every such
-- list live words are the sum of n + 1, the objects its length, and the addresses the values that are objects in the fields of its
-- traced objects and in the roots
pub record LiveCounts (g : Graph) : Type 0 where
  pub listable : (o : List ℕ) × Lists (Reachable g) o
  pub live : (o : List ℕ) → Lists (Reachable g) o → (graph_counts g).live ≡ graph_sizes g o
  pub objects : (o : List ℕ) → Lists (Reachable g) o → (graph_counts g).objects ≡ length o
  pub addresses : (o : List ℕ) → Lists (Reachable g) o → (graph_counts g).addresses ≡ objects_in g.roots + objects_among g o

-- each word is one of 32 bits, as the words of a host are
pub record OfWords (s : State) : Type 0 where
  pub heap : (i : ℕ) → at s.heap i < 4_294_967_296
  pub roots : (r : ℕ) → root_word s r < 4_294_967_296

pub record Demand3 (Y : Layout) (M : Machine) : Type 0 where
  -- of any two sound states that stand for one graph, the second no smaller: wherever their objects lie, whatever garbage they hold
  pub same_answers : (small large : State) (g : Graph) → Represents Y small g → Represents Y large g
      → half_words small.heap ≤ half_words large.heap → SameAnswers M small large g
  pub room : (s : State) (g : Graph) → Represents Y s g → RoomExactly M (half_words s.heap) s g
  pub live : (s : State) (g : Graph) → Represents Y s g → LiveCounts g
  -- in a session SHAPE and DAMAGED never occur
  pub never_shape : (s : State) (g : Graph) → Represents Y s g → Never M Why.Shape s
  pub never_damaged : (s : State) (g : Graph) → Represents Y s g → Never M Why.Damaged s
  -- no session call leaves an unsound heap of a sound one, and it stands for the graph of the calls carried out
  pub keeps_sound : (s : State) (c : Call) → Sound Y s → Sound Y (M.step c s).left
  pub stands : (s : State) (g : Graph) (cs : List Asked) → Represents Y s g → Represents Y (after M cs s) (graph_after (carried_out M cs s) g)
  -- every sound state stands for a graph
  pub every : (s : State) → OfWords s → Sound Y s → (g : Graph) × Represents Y s g
  -- what fresh begins stands for the empty graph
  pub begins : (e : Session) → Represents Y (begun M e) (empty_graph e.null_roots)
  -- so all this holds of heaps that begin with fresh; the first two sentences in full
  pub fresh_answers : (small large : Session) → small.null_roots ≡ large.null_roots → small.S ≤ large.S
      → SameAnswers M (begun M small) (begun M large) (empty_graph small.null_roots)
  pub fresh_room : (e : Session) → RoomExactly M e.S (begun M e) (empty_graph e.null_roots)
  pub fresh_live : (cs : List Asked) (n : ℕ) → LiveCounts (graph_after cs (empty_graph n))
  pub stays_sound : (e : Session) (cs : List Asked) → Sound Y (after M cs (begun M e))
  pub fresh_never_shape : (e : Session) → Never M Why.Shape (begun M e)
  pub fresh_never_damaged : (e : Session) → Never M Why.Damaged (begun M e)
