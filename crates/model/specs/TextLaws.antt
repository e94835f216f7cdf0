-- What is stated of texts beside the demands, of any machine. Document 02, Q-2: writing what was read gives the same text; the reader
-- takes exactly the texts that the writer can write; a text has no more words than bytes.
use Rattle.std.specs.Prelude.{ℕ, ◌≤◌, ◌<◌, ◌≡◌, true, ◌↔◌, List, map, length, get_or, Err, Ok}
use Rattle.model.specs.declared.Refusal.TheVariants as Why
use Rattle.model.specs.declared.Answer.TheVariants as Says
use Rattle.model.specs.declared.Call.TheVariants as Ask
use Rattle.model.specs.Words.{State, with_text}
use Rattle.model.specs.Values.{in_range}
use Rattle.model.specs.Texts.{byte, max_depth, value_pieces}
use Rattle.model.specs.Trees.{Tree, tree_text, tree_words}
use Rattle.model.specs.Sessions.{Machine}
use Rattle.model.specs.Conditions.{BadShape}
use Rattle.model.specs.Graph.{integer, null, code, Value, plain, object, traced, Graph, nth}
use Rattle.model.specs.GraphCalls.{value_form}
use Rattle.model.specs.Effects.{TextWritten}

-- after a read that is done, the root is written as the text that was read, into any bytes that have room for it
abbrev pub RoundTrip : Machine → Type 0
RoundTrip M = (to : ℕ) (s : State) (t : List ℕ) → (M.step (Ask.Read to) s).answer ≡ Ok Says.Done → length s.text ≤ length t
    → let u = with_text t (M.step (Ask.Read to) s).left in
    ((M.step (Ask.Write to) u).answer ≡ Ok (Says.Written (length s.text))) × TextWritten u s.text (M.step (Ask.Write to) u).left

-- a value whose integer, if it is one, lies in the range, as that of each word does
abbrev pub Ranged : Value → Type 0
Ranged (plain (integer v)) = in_range v ≡ true
Ranged (plain null) = Unit {0}
Ranged (plain (code w)) = Unit {0}
Ranged (object i) = Unit {0}

-- the bytes are what the writer writes of some value of some graph
pub record Writable (bs : List ℕ) : Type 0 where
  pub graph : Graph
  pub value : Value
  pub ranged : Ranged value
  pub fields : (i f : ℕ) (vs : List Value) → nth graph i ≡ traced vs → Ranged (get_or vs f (plain null))
  pub spelled : value_pieces (value_form graph) max_depth value ≡ map byte bs

-- of a call that SHAPE and ROOT let pass: neither VALUE nor DEEP exactly when the bytes are such
abbrev pub AcceptsExactly : Machine → Type 0
AcceptsExactly M = (to : ℕ) (s : State) → (BadShape s → ⊥) → to < length s.roots
    → (((M.step (Ask.Read to) s).answer ≡ Err Why.Value → ⊥) × ((M.step (Ask.Read to) s).answer ≡ Err Why.Deep → ⊥))
    ↔ Writable s.text

-- the words of a text's objects are no more than its bytes, so that no sum of them overflows
abbrev pub FewWords : Type 0
FewWords = (t : Tree) → tree_words t ≤ length (tree_text t)
