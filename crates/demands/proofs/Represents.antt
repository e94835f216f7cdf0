-- A heap that stands for a graph: what follows for its words, and calls that both answer alike.
use Prim.Native.Nat.{ℕ, ◌+◌, ◌%◌, ◌≤◌, ◌<◌}
use native.Mathlib.Omega.{arith}
use mathlib.Core.Path.{◌≡◌, refl, sym, ap, ◌∙◌, subst}
use mathlib.Core.Logic.{⊎_elim}
use mathlib.Core.Bool.{Bool, true, false}
use mathlib.Core.List.{List}
use lib.ListN.{length, get_or, get_or-eq_default}
use borrow.Author.Tests.{eqb-false, ne_eqb}
use Rattle.model.specs.declared.Refusal.{Refusal}
use Rattle.model.specs.declared.Refusal.TheVariants as Why
use Rattle.model.specs.Answers.{Outcome, refuse}
use Rattle.model.specs.Admission.{no_roots, on_roots}
use Rattle.model.specs.Demand3 as D3
use Rattle.model.specs.Graph.{Plain, integer, null, code, Value, plain, object, Object, traced, Graph, nth, root_value}
use Rattle.model.specs.GraphCalls.{graph_with_text, on_graph_roots}
use Rattle.model.specs.Changes.{root_word}
use Rattle.model.specs.Headers.{Layout, Adjacent}
use Rattle.model.specs.Limits.{code_floor}
use Rattle.model.specs.Represents.{plain_word, has_word, Encodes, Holds, Represents}
use Rattle.model.specs.Objects.{address, index, names}
use Rattle.model.specs.Shape.{bad_shape}
use Rattle.model.specs.Soundness.{headers, is_value}
use Rattle.model.specs.Values.{is_odd, is_null, is_address, is_code}
use Rattle.model.specs.Words.{State, with_text, at}
use Rattle.theory.proofs.Deciding.{names_true, sound_tests, tests_sound}
use Rattle.demands.proofs.Integers.{tag_no_address}
use Rattle.theory.proofs.Keeping.{tile}
use Rattle.theory.proofs.Members.{In}
use Rattle.theory.proofs.Objects.{index-address, address_below}
use Rattle.theory.proofs.Shape.{unshaped, first_in}
use Rattle.theory.proofs.Soundness.{SoundTests, text-sound}
use Rattle.theory.proofs.Tests.{never, decide}
use Rattle.theory.proofs.Values.{address-value, plain_value}
use Rattle.theory.proofs.WordSorts.{parts_address, code_no_address, address_no_code}

pub plain_no_address : (p : Plain) → has_word p ≡ true → is_address (plain_word p) ≡ false
plain_no_address (integer v) h = tag_no_address v h
plain_no_address null h = refl
plain_no_address (code w) h = code_no_address w h

plain-object : (p : Plain) (x : ℕ) → plain p ≡ object x → ⊥
plain-object p x e = let z : ◌≡◌ {A = ℕ} 0 1 = cc in omega arith

object-same : (x y : ℕ) → object x ≡ object y → x ≡ y
object-same x y e = cc

-- the tests of a heap that stands for a graph
pub parts : {Y : Layout} {s : State} {g : Graph} → Represents Y s g → SoundTests Y s
parts {Y} {s} m = sound_tests Y s m.ok

module _ (Y : Layout) where
  -- a call's outcome in both
  abbrev pub Agrees : Outcome State → Outcome Graph → Type 0
  Agrees o q = (o.answer ≡ q.answer) × Represents Y o.left q.left

  pub refuse_agrees : (b c : Bool) (k : Refusal) (s : State) (g : Graph) (o : Outcome State) (q : Outcome Graph)
      → Represents Y s g → b ≡ c
      → (b ≡ false → Agrees o q) → Agrees (refuse b k s o) (refuse c k g q)
  unfolding refuse
  refuse_agrees true true k s g o q m e f = (refl, m)
  refuse_agrees true false k s g o q m e f = never refl e
  refuse_agrees false true k s g o q m e f = never e refl
  refuse_agrees false false k s g o q m e f = f refl

  -- a heap that stands for a graph has its shape
  pub shape_passes : (s : State) (g : Graph) (o : Outcome State) (q : Outcome Graph) → Represents Y s g → Agrees o q
      → Agrees (refuse (bad_shape s) Why.Shape s o) q
  unfolding refuse
  shape_passes s g o q m a = rw (unshaped s (parts m).shape) a

  -- and as many roots: SHAPE and ROOT come alike
  pub roots_agree : (named : List ℕ) (s : State) (g : Graph) (o : Outcome State) (q : Outcome Graph) → Represents Y s g
      → (no_roots (length s.roots) named ≡ false → Agrees o q) → Agrees (on_roots named s o) (on_graph_roots named g q)
  roots_agree named s g o q m f =
      shape_passes s g _ _ m
      (refuse_agrees (no_roots (length s.roots) named) (no_roots (length g.roots) named) Why.Root s g o q m
      (ap (λ n. no_roots n named) m.count) f)

  -- other bytes
  pub text_represents : (s : State) (g : Graph) → Represents Y s g → (t : List ℕ) → Represents Y (with_text t s) (graph_with_text t g)
  text_represents s g m t = record {
    ok = tests_sound Y (with_text t s) (text-sound Y s t (parts m));
    kept = m.kept;
    header_of = m.header_of;
    known = m.known;
    head = m.head;
    apart = m.apart;
    count = m.count;
    roots = m.roots;
    holds = m.holds;
    text = refl;
  }

  -- a value's word is a value of the heap
  pub rep_value : (s : State) (g : Graph) (m : Represents Y s g) (v : Value) (w : ℕ) → Encodes Y m.kept m.header_of v w
      → is_value Y (headers Y s) w ≡ true
  rep_value s g m (plain p) w e = rw e.1 (plain_value Y (headers Y s) (plain_word p) (plain_no_address p e.0))
  rep_value s g m (object x) w e = rw e.1 (address-value Y (headers Y s) (m.header_of x) (m.head x e.0))

  pub plain-names_nothing : (s : State) (w : ℕ) → is_address w ≡ false → names Y s w ≡ false
  unfolding names
  plain-names_nothing s w p = rw p

  -- a header of a sound state is named by its address
  module _ (s : State) (h : SoundTests Y s) (i : ℕ) (m : In i (headers Y s)) where
    pub header-not-null : is_null (address Y i) ≡ false
    header-not-null =
        let b = first_in s h.shape in
        let t = (tile Y s h i m).from in
        ne_eqb (address Y i) 0 (λ e. omega arith)

    pub header-not-odd : is_odd (address Y i) ≡ false
    header-not-odd = ne_eqb (address Y i % 2) 1 (λ e. omega arith)

    -- in a layout whose addresses lie below the floor
    module _ (near : Adjacent Y) where
      header-below : address Y i < code_floor
      header-below =
          let b = first_in s h.shape in
          address_below Y near s h.shape i (omega (arith, (tile Y s h i m).within, h.shape.high))

      pub header-is-address : is_address (address Y i) ≡ true
      header-is-address =
          parts_address (address Y i) (omega arith) (eqb-false (address Y i) 0 header-not-null) header-below

      pub header_no_code : is_code (address Y i) ≡ false
      header_no_code = address_no_code (address Y i) header-is-address

      pub header-names : names Y s (address Y i) ≡ true
      header-names =
          let t = tile Y s h i m in
          let b = first_in s h.shape in
          let e : index Y (address Y i) ≡ i = index-address Y i in
          names_true Y s (address Y i) (record {
            even = omega arith;
            not_null = λ z. omega (arith, t.from);
            below_floor = header-below;
            multiple = omega arith;
            in_half = rw e t.from;
            below_free = rw e (omega (arith, t.within));
            clear = rw e t.clear;
            ends = rw e t.within;
          })

  -- what is reachable in the graph is kept, and is one of its objects
  module _ (s : State) (g : Graph) (m : Represents Y s g) where
    value-kept : (v : Value) (w x : ℕ) → Encodes Y m.kept m.header_of v w → v ≡ object x → In x m.kept
    value-kept (plain p) w x e q = absurd (plain-object p x q)
    value-kept (object y) w x e q = subst (λ z. In z m.kept) (object-same y x q) e.0

    field-kept : (b : Object) (vs : List Value) (i f x : ℕ) → Holds Y m.kept m.header_of s.heap b i → b ≡ traced vs
        → get_or vs f (plain null) ≡ object x → In x m.kept
    field-kept b vs i f x h e v =
        let t = subst (λ z. Holds Y m.kept m.header_of s.heap z i) e h in
        ⊎_elim
        (λ (l : f < length vs). value-kept (get_or vs f (plain null)) (at s.heap (i + 1 + f)) x (t.2 f l) v)
        (λ (l : length vs ≤ f). absurd (plain-object null x (sym (get_or-eq_default vs (plain null) l) ∙ v)))
        (decide f (length vs))

    reach_kept : (x : ℕ) → D3.Reachable g x → In x m.kept
    reach_kept j (D3.from_root r {i} e) =
        ⊎_elim
        (λ (l : r < length g.roots). value-kept (root_value g r) (root_word s r) i (m.roots r l) e)
        (λ (l : length g.roots ≤ r). absurd (plain-object null i (sym (get_or-eq_default g.roots (plain null) l) ∙ e)))
        (decide r (length g.roots))
    reach_kept k (D3.from_field f {i} {j} vs r e v) =
        field-kept (nth g i) vs (m.header_of i) f j (m.holds i (reach_kept i r)) e v

    pub represents_known : (x : ℕ) → D3.Reachable g x → x < length g.objects
    represents_known x r = m.known x (reach_kept x r)
