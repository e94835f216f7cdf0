-- The graph of a session names only objects that it has.
use Prim.Native.Nat.{ℕ, ◌+◌, ◌≤◌, ◌<◌}
use native.Mathlib.Omega.{arith}
use mathlib.Core.Path.{◌≡◌, refl, sym, ap, subst}
use mathlib.Core.Logic.{⊎_elim}
use mathlib.Core.List.{List, [], ◌∷◌, ◌++◌}
use lib.ListN.{length, get_or, set, length-append, length-set, get_or-append, get_or-eq_default}
use lib.Seq.{get_or-set_same, get_or-set_other, get_or-append_seam, set_out}
use Rattle.model.specs.declared.Kind.{Kind}
use Rattle.model.specs.declared.Kind.TheVariants.{Traced, Untraced}
use Rattle.model.specs.declared.Call.{Call}
use Rattle.model.specs.Demand3 as D3
use Rattle.model.specs.Graph.{integer, null, Value, plain, object, Object, traced, untraced, Graph, empty_graph, nth, root_value}
use Rattle.model.specs.GraphCalls.{with_blank, with_field_of, with_field, graph_laid, graph_planted}
use Rattle.model.specs.Trees.{Forest, end, leaf_then, node_then, Tree, leaf, node, count}
use Rattle.model.specs.GraphCalls.{graph_with_root, with_object, graph_with_text, blank_object, grown, graph_step, graph_asked, graph_after}
use Rattle.model.specs.Sessions.{Asked}
use Rattle.demands.proofs.GraphLeaving.{graph-step}
use Rattle.theory.proofs.Lists.{get_d_same}
use Rattle.theory.proofs.Tests.{decide, same?}

-- a value names one of n objects, or none
abbrev pub Under : ℕ → Value → Type 0
Under n (plain p) = Unit {0}
Under n (object i) = i < n

abbrev pub UnderAll : ℕ → Object → Type 0
UnderAll n (traced vs) = (f : ℕ) → Under n (get_or vs f (plain null))
UnderAll n (untraced ws) = Unit {0}

pub record Closed (g : Graph) : Type 0 where
  pub roots : (r : ℕ) → Under (length g.objects) (root_value g r)
  pub fields : (i : ℕ) → UnderAll (length g.objects) (nth g i)

under_more : (n : ℕ) (v : Value) → Under n v → Under (n + 1) v
under_more n (plain p) u = tt
under_more n (object i) u = omega arith

all_more : (n : ℕ) (b : Object) → UnderAll n b → UnderAll (n + 1) b
all_more n (traced vs) u = λ f. under_more n (get_or vs f (plain null)) (u f)
all_more n (untraced ws) u = tt

-- at each place of a list that is set at one
set_at : {A : Type 0} (P : A → Type 0) (xs : List A) (i k : ℕ) (x d : A) → P x → ((j : ℕ) → P (get_or xs j d))
    → P (get_or (set xs i x) k d)
set_at P xs i k x d p f =
    ⊎_elim
    (λ (e : k ≡ i).
    ⊎_elim
    (λ (l : i < length xs). subst (λ z. P (get_or (set xs i x) z d)) (sym e) (rw (get_or-set_same xs i x d l) p))
    (λ (l : length xs ≤ i). subst P (ap (λ z. get_or z k d) (sym (set_out xs i x l))) (f k))
    (decide i (length xs)))
    (λ (n : k ≡ i → ⊥). rw (get_or-set_other xs i k x d n) (f k))
    (same? k i)

blank_under : (n m : ℕ) (k : Kind) → UnderAll n (blank_object k m)
blank_under n m Traced = λ f. rw (get_d_same {A = Value} m f (plain null)) tt
blank_under n m Untraced = tt

root_closed : (g : Graph) (r : ℕ) (v : Value) → Closed g → Under (length g.objects) v → Closed (graph_with_root g r v)
root_closed g r v c u =
    record { roots = λ q. set_at (Under (length g.objects)) g.roots r q v (plain null) u c.roots; fields = c.fields }

object_closed : (g : Graph) (i : ℕ) (b : Object) → Closed g → UnderAll (length g.objects) b → Closed (with_object g i b)
object_closed g i b c u =
    let e : length (set g.objects i b) ≡ length g.objects = length-set g.objects i b in
    record {
      roots = λ q. subst (λ n. Under n (root_value g q)) (sym e) (c.roots q);
      fields = λ j. subst (λ n. UnderAll n (get_or (set g.objects i b) j (traced []))) (sym e)
          (set_at (UnderAll (length g.objects)) g.objects i j b (traced []) u c.fields);
    }

blank_closed : (g : Graph) (k : Kind) (m : ℕ) → Closed g → Closed (with_blank k m g)
blank_closed g k m c =
    let n = length g.objects in
    let e : length (g.objects ++ (blank_object k m ∷ [])) ≡ length g.objects + 1 = length-append g.objects (blank_object k m ∷ []) in
    record {
      roots = λ q. subst (λ z. Under z (root_value g q)) (sym e) (under_more (length g.objects) (root_value g q) (c.roots q));
      fields = λ i.
          subst (λ z. UnderAll z (get_or (g.objects ++ (blank_object k m ∷ [])) i (traced []))) (sym e)
          (⊎_elim
          (λ (l : i < length g.objects).
          rw (get_or-append g.objects (blank_object k m ∷ []) (traced []) i l)
          (all_more (length g.objects) (nth g i) (c.fields i)))
          (λ (l : length g.objects ≤ i).
          ⊎_elim
          (λ (q : i ≡ length g.objects).
          rw (q, get_or-append_seam g.objects (blank_object k m) [] (traced []))
          (blank_under (length g.objects + 1) m k))
          (λ (q : i ≡ length g.objects → ⊥).
          rw (get_or-eq_default (g.objects ++ (blank_object k m ∷ [])) (traced []) {n = i} (omega arith)) (λ f. tt))
          (same? i (length g.objects)))
          (decide i (length g.objects)));
    }

grown_closed : (g : Graph) (k : Kind) (m r : ℕ) → Closed g → Closed (grown k m r g)
grown_closed g k m r c =
    root_closed (with_blank k m g) r (object (length g.objects)) (blank_closed g k m c)
    (let e = length-append g.objects (blank_object k m ∷ []) in omega arith)

-- a field of a traced object gets a value
field_closed : (g : Graph) (x f : ℕ) (v : Value) → Closed g → Under (length g.objects) v → Closed (with_field g x f v)
field_closed g x f v c u = by (nth g x) refl
  where
    by : (b : Object) → nth g x ≡ b → Closed (with_field_of g x f v b)
    by (traced vs) e =
        object_closed g x (traced (set vs f v)) c
        (λ k. set_at (Under (length g.objects)) vs f k v (plain null) u (subst (UnderAll (length g.objects)) e (c.fields x)))
    by (untraced ws) e = c

laid_closed : (t : Forest) (x f : ℕ) (g : Graph) → Closed g → Closed (graph_laid t x f g)
unfolding graph_laid
laid_closed end x f g c = c
laid_closed (leaf_then v t) x f g c = laid_closed t x (f + 1) (with_field g x f (plain (integer v))) (field_closed g x f (plain (integer v)) c tt)
laid_closed (node_then u t) x f g c =
    let y = length g.objects in
    let g₀ = with_blank Traced (count u) g in
    let e = length-append g.objects (blank_object Traced (count u) ∷ []) in
    let c₁ = field_closed g₀ x f (object (length g.objects)) (blank_closed g Traced (count u) c) (omega arith) in
    laid_closed t x (f + 1) (graph_laid u (length g.objects) 0 (with_field g₀ x f (object (length g.objects))))
    (laid_closed u (length g.objects) 0 (with_field g₀ x f (object (length g.objects))) c₁)

planted_closed : (t : Tree) (r : ℕ) (g : Graph) → Closed g → Closed (graph_planted t r g)
unfolding graph_planted
planted_closed (leaf v) r g c = root_closed g r (plain (integer v)) c tt
planted_closed (node u) r g c = laid_closed u (length g.objects) 0 (grown Traced (count u) r g) (grown_closed g Traced (count u) r c)

-- ---- the calls

-- a traced object's fields name objects of the graph
traced_under : (g : Graph) (i : ℕ) (vs : List Value) → Closed g → nth g i ≡ traced vs → (f : ℕ)
    → Under (length g.objects) (get_or vs f (plain null))
traced_under g i vs c e = subst (UnderAll (length g.objects)) e (c.fields i)

text_closed : (g : Graph) (t : List ℕ) → Closed g → Closed (graph_with_text t g)
text_closed g t h = record { roots = h.roots; fields = h.fields }

step_closed : (c : Call) (g : Graph) → Closed g → Closed (graph_step c g).left
step_closed c g h = graph-step g (λ o. Closed o.left) (record {
  refused_with = λ k e. h;
  answered = λ a. h;
  set-plain = λ r p. root_closed g r (plain p) h tt;
  copied = λ from to. root_closed g to (root_value g from) h (h.roots from);
  loaded = λ i f to vs e. root_closed g to (get_or vs f (plain null)) h (traced_under g i vs h e f);
  stored = λ i f from vs e.
      object_closed g i (traced (set vs f (root_value g from))) h
      (λ k. set_at (Under (length g.objects)) vs f k (root_value g from) (plain null) (h.roots from) (traced_under g i vs h e));
  raw_written = λ i f x ws. object_closed g i (untraced (set ws f x)) h tt;
  text_written = λ t n. text_closed g t h;
  allocated = λ k n r. grown_closed g k n r h;
  planted = λ t r. planted_closed t r g h;
}) c

pub after_closed : (cs : List Asked) (g : Graph) → Closed g → Closed (graph_after cs g)
unfolding graph_after
after_closed [] g h = text_closed g [] h
after_closed (c ∷ cs) g h =
    after_closed cs (graph_asked c g).left (step_closed c.call (graph_with_text c.text g) (text_closed g c.text h))

pub empty_closed : (n : ℕ) → Closed (empty_graph n)
empty_closed n = record { roots = λ r. rw (get_d_same {A = Value} n r (plain null)) tt; fields = λ i f. tt }

-- so what is reachable is one of its objects
reach_under : (g : Graph) → Closed g → (i : ℕ) → D3.Reachable g i → i < length g.objects
reach_under g c j (D3.from_root r {i} e) = subst (Under (length g.objects)) e (c.roots r)
reach_under g c k (D3.from_field f {i} {j} vs r e v) = subst (Under (length g.objects)) v (traced_under g i vs c e f)

pub session-known : (cs : List Asked) (n i : ℕ) → D3.Reachable (graph_after cs (empty_graph n)) i
    → i < length (graph_after cs (empty_graph n)).objects
session-known cs n i r = reach_under (graph_after cs (empty_graph n)) (after_closed cs (empty_graph n) (empty_closed n)) i r
