-- The reader takes exactly the texts that the writer can write.
use Prim.Native.Nat.{ℕ, zero, suc, ◌+◌, ◌<◌}
use native.Mathlib.Omega.{arith}
use mathlib.Core.Path.{◌≡◌, refl, sym, ap, ◌∙◌, subst}
use mathlib.Core.Logic.{◌⊎◌, inl, inr, ⊎_elim}
use mathlib.Core.Bool.{true, false}
use mathlib.Core.List.Memᴰ
use mathlib.Core.List.{List, [], ◌∷◌, ◌++◌, map}
use lib.Dec.{leb}
use lib.ListN.{length, get_or, length-append, get_or-append}
use lib.Seq.{get_or-append-add}
use Rattle.std.specs.Prelude.{Err}
use Rattle.model.specs.declared.Refusal.{Refusal}
use Rattle.model.specs.declared.Refusal.TheVariants as Why
use Rattle.model.specs.declared.Answer.TheVariants as Says
use Rattle.model.specs.declared.Call.TheVariants as Ask
use Rattle.model.specs.Answers.{refuse}
use Rattle.model.specs.Calls as Calls
use Rattle.model.specs.Changes.{spare, planted}
use Rattle.model.specs.Collection.{collected}
use Rattle.model.specs.Conditions as C
use Rattle.model.specs.Graph.{integer, null, code, Value, plain, object, Object, traced, untraced, Graph, nth}
use Rattle.model.specs.GraphCalls.{object_form, value_form}
use Rattle.model.specs.Headers.{Layout, tuple}
use Rattle.model.specs.ReadFaults.{IsText, ReadFault, breach, cut, deep}
use Rattle.model.specs.Reading.{Parsed, tree, broken, parsed}
use Rattle.model.specs.Refusals as Row
use Rattle.model.specs.Refusals.{rank}
use Rattle.model.specs.Sessions.{step, machine}
use Rattle.model.specs.Soundness.{sound}
use Rattle.model.specs.TextLaws.{Ranged, Writable, AcceptsExactly}
use Rattle.model.specs.Texts.{Piece, byte, enclosed, form_pieces, max_depth, tuple_pieces, value_pieces}
use Rattle.model.specs.Trees.{Forest, end, leaf_then, node_then, Tree, leaf, node, tree_words, texts, tree_text}
use Rattle.model.specs.Trees.{ForestFits, TreeFits}
use Rattle.model.specs.Words.{State}
use Rattle.demands.proofs.CallsPass.{past-roots}
use Rattle.theory.proofs.PlainAnswers.{refused-same, plainly}
use Rattle.theory.proofs.ReadJudged.{first-read-fault, parsed-text, text-parsed}
use Rattle.theory.proofs.Tests.{by_test}
use Rattle.demands.proofs.TextPlaces.{spelt, no_fault, spelt-same, enclosed-spelt, spelt-enclosed}

-- ---- a value that has a text is a tree

-- the bytes are the text of a tree that nests at most d deep
pub record IsTree (d : ℕ) (bs : List ℕ) : Type 0 where
  pub tree : Tree
  pub spelled : bs ≡ tree_text tree
  pub fits : TreeFits d tree

pub record AreForest (d : ℕ) (ts : List (List ℕ)) : Type 0 where
  pub forest : Forest
  pub spelled : ts ≡ texts forest
  pub fits : ForestFits d forest

no_trees : (d : ℕ) → AreForest d []
unfolding texts
no_trees d = record { forest = end; spelled = refl; fits = tt }

then_forest : (d : ℕ) (bs : List ℕ) (ts : List (List ℕ)) → IsTree d bs → AreForest d ts → AreForest d (bs ∷ ts)
unfolding texts
then_forest d bs ts t f = by d t.tree t.spelled t.fits f.fits
  where
    by : (d : ℕ) (u : Tree) → bs ≡ tree_text u → TreeFits d u → ForestFits d f.forest → AreForest d (bs ∷ ts)
    by d (leaf v) e a b = record { forest = leaf_then v f.forest; spelled = cc (e, f.spelled); fits = (a, b) }
    by zero (node g) e a b = absurd a
    by (suc d) (node g) e a b = record { forest = node_then g f.forest; spelled = cc (e, f.spelled); fits = (a, b) }

module _ (G : Graph) where
  abbrev pieces : ℕ → Value → List Piece
  pieces d v = value_pieces (value_form G) d v

  -- every integer in a field lies in its range
  abbrev RangedFields : Type 0
  RangedFields = (i f : ℕ) (vs : List Value) → nth G i ≡ traced vs → Ranged (get_or vs f (plain null))

  module _ (d : ℕ) (ih : (v : Value) (bs : List ℕ) → Ranged v → pieces d v ≡ spelt bs → IsTree d bs) where
    values_forest : (vs : List Value) (ts : List (List ℕ)) → ((f : ℕ) → Ranged (get_or vs f (plain null)))
        → map (pieces d) vs ≡ map spelt ts → AreForest d ts
    values_forest [] [] r e = no_trees d
    values_forest [] (t ∷ ts) r e = let z : ◌≡◌ {A = ℕ} 0 1 = cc in absurd (omega arith)
    values_forest (v ∷ vs) [] r e = let z : ◌≡◌ {A = ℕ} 0 1 = cc in absurd (omega arith)
    values_forest (v ∷ vs) (t ∷ ts) r e =
        then_forest d t ts (ih v t (r 0) cc) (values_forest vs ts (λ f. r (suc f)) cc)

    tuple-tree : (vs : List Value) (bs : List ℕ) → ((f : ℕ) → Ranged (get_or vs f (plain null)))
        → enclosed byte (map (pieces d) vs) ≡ spelt bs → IsTree (suc d) bs
    tuple-tree vs bs r e =
        let p = spelt-enclosed (map (pieces d) vs) bs e in
        let f = values_forest vs p.0 r p.1 in
        record {
          tree = node f.forest;
          spelled = sym (spelt-same _ bs (sym (enclosed-spelt p.0) ∙ ap (enclosed byte) (sym p.1) ∙ e)) ∙ ap (enclosed (λ b. b)) f.spelled;
          fits = f.fits;
        }

  plain-tree : (d : ℕ) (bs : List ℕ) (p : Value) → Ranged p → pieces d p ≡ spelt bs
      → ((i : ℕ) (o : Object) → nth G i ≡ o → form_pieces (tuple_pieces (value_form G) d) (object_form o) ≡ spelt bs → IsTree d bs) → IsTree d bs
  plain-tree d bs (plain (integer v)) r e k = record { tree = leaf v; spelled = sym (spelt-same _ bs e); fits = r }
  plain-tree d bs (plain null) r e k = no_fault Why.Value bs e
  plain-tree d bs (plain (code w)) r e k = no_fault Why.Value bs e
  plain-tree d bs (object i) r e k = k i (nth G i) refl e

  value-tree : RangedFields → (d : ℕ) (v : Value) (bs : List ℕ) → Ranged v → pieces d v ≡ spelt bs → IsTree d bs
  unfolding tuple_pieces
  value-tree a zero v bs r e = plain-tree 0 bs v r e by
    where
      by : (i : ℕ) (o : Object) → nth G i ≡ o → form_pieces (tuple_pieces (value_form G) 0) (object_form o) ≡ spelt bs → IsTree 0 bs
      by i (traced vs) q f = no_fault Why.Deep bs f
      by i (untraced ws) q f = no_fault Why.Value bs f
  value-tree a (suc d) v bs r e = plain-tree (suc d) bs v r e (by (value-tree a d))
    where
      by : ((v : Value) (bs : List ℕ) → Ranged v → pieces d v ≡ spelt bs → IsTree d bs) → (i : ℕ) (o : Object) → nth G i ≡ o
          → form_pieces (tuple_pieces (value_form G) (suc d)) (object_form o) ≡ spelt bs → IsTree (suc d) bs
      by ih i (traced vs) q f = tuple-tree d ih vs bs (λ k. a i k vs q) f
      by ih i (untraced ws) q f = no_fault Why.Value bs f

-- ---- a tree is a value of a graph: its tuples are the graph's objects, each numbered before those in it

abbrev nodes : Forest → ℕ
nodes end = 0
nodes (leaf_then v f) = nodes f
nodes (node_then g f) = 1 + nodes g + nodes f

abbrev values : ℕ → Forest → List Value
values n end = []
values n (leaf_then v f) = plain (integer v) ∷ values n f
values n (node_then g f) = object n ∷ values (n + 1 + nodes g) f

abbrev objects : ℕ → Forest → List Object
objects n end = []
objects n (leaf_then v f) = objects n f
objects n (node_then g f) = traced (values (n + 1) g) ∷ (objects (n + 1) g ++ objects (n + 1 + nodes g) f)

objects-length : (n : ℕ) (f : Forest) → length (objects n f) ≡ nodes f
objects-length n end = refl
objects-length n (leaf_then v f) = objects-length n f
objects-length n (node_then g f) =
    let a = objects-length (n + 1) g in
    let b = objects-length (n + 1 + nodes g) f in
    let c = length-append (objects (n + 1) g) (objects (n + 1 + nodes g) f) in
    omega arith

values-ranged : (n d : ℕ) (f : Forest) → ForestFits d f → (k : ℕ) → Ranged (get_or (values n f) k (plain null))
values-ranged n d end a k = tt
values-ranged n d (leaf_then v f) a zero = a.0
values-ranged n d (leaf_then v f) a (suc k) = values-ranged n d f a.1 k
values-ranged n zero (node_then g f) a k = absurd a
values-ranged n (suc d) (node_then g f) a zero = tt
values-ranged n (suc d) (node_then g f) a (suc k) = values-ranged (n + 1 + nodes g) (suc d) f a.1 k

-- every integer of an object's fields lies in its range
abbrev RangedObject : Object → Type 0
RangedObject (traced vs) = (f : ℕ) → Ranged (get_or vs f (plain null))
RangedObject (untraced ws) = Unit {0}

both_ranged : (xs ys : List Object) → ((i : ℕ) → RangedObject (get_or xs i (traced []))) → ((i : ℕ) → RangedObject (get_or ys i (traced [])))
    → (i : ℕ) → RangedObject (get_or (xs ++ ys) i (traced []))
both_ranged [] ys a b i = b i
both_ranged (x ∷ xs) ys a b zero = a 0
both_ranged (x ∷ xs) ys a b (suc i) = both_ranged xs ys (λ j. a (suc j)) b i

objects-ranged : (n d : ℕ) (f : Forest) → ForestFits d f → (i : ℕ) → RangedObject (get_or (objects n f) i (traced []))
objects-ranged n d end a i = λ f. tt
objects-ranged n d (leaf_then v f) a i = objects-ranged n d f a.1 i
objects-ranged n zero (node_then g f) a i = absurd a
objects-ranged n (suc d) (node_then g f) a zero = values-ranged (n + 1) d g a.0
objects-ranged n (suc d) (node_then g f) a (suc i) =
    both_ranged (objects (n + 1) g) (objects (n + 1 + nodes g) f) (objects-ranged (n + 1) d g a.0)
    (objects-ranged (n + 1 + nodes g) (suc d) f a.1) i

module _ (G : Graph) where
  -- objects stand in the graph from number n on
  abbrev Stand : ℕ → List Object → Type 0
  Stand n xs = (i : ℕ) → i < length xs → nth G (n + i) ≡ get_or xs i (traced [])

  stand_left : (n : ℕ) (xs ys : List Object) → Stand n (xs ++ ys) → Stand n xs
  stand_left n xs ys s i l =
      let z = length-append xs ys in s i (omega arith) ∙ get_or-append xs ys (traced []) i l

  stand_right : (n m : ℕ) (xs ys : List Object) → length xs ≡ m → Stand n (xs ++ ys) → Stand (n + m) ys
  stand_right n m xs ys e s i l =
      let z = length-append xs ys in
      ap (nth G) (omega arith) ∙ s (length xs + i) (omega arith) ∙ get_or-append-add xs ys i (traced [])

  forest_pieces : (f : Forest) (d n : ℕ) → ForestFits d f → Stand n (objects n f) → map (pieces G d) (values n f) ≡ map spelt (texts f)
  unfolding texts tuple_pieces
  forest_pieces end d n a s = refl
  forest_pieces (leaf_then v f) d n a s = cc (forest_pieces f d n a.1 s)
  forest_pieces (node_then g f) zero n a s = absurd a
  forest_pieces (node_then g f) (suc d) n a s =
      let xs = objects (n + 1) g in
      let ys = objects (n + 1 + nodes g) f in
      let rest : Stand (n + 1) (xs ++ ys) = (λ i l. ap (nth G) (omega arith) ∙ s (suc i) (omega arith)) in
      let inner = forest_pieces g d (n + 1) a.0 (stand_left (n + 1) xs ys rest) in
      let outer = forest_pieces f (suc d) (n + 1 + nodes g) a.1 (stand_right (n + 1) (nodes g) xs ys (objects-length (n + 1) g) rest) in
      let head : nth G n ≡ traced (values (n + 1) g) = ap (nth G) (omega arith) ∙ s 0 (omega arith) in
      let first : pieces G (suc d) (object n) ≡ spelt (enclosed (λ b. b) (texts g)) =
      (ap (λ o. form_pieces (tuple_pieces (value_form G) (suc d)) (object_form o)) head ∙ ap (enclosed byte) inner ∙ enclosed-spelt (texts g)) in
      cc (first, outer)

tree_writable : (t : Tree) (bs : List ℕ) → IsText bs t → Writable bs
unfolding texts
tree_writable t bs i = by t i.spelled i.fits
  where
    made : (f : Forest) (ts : List (List ℕ)) → ForestFits max_depth f → texts f ≡ bs ∷ ts → (v : Value) (vs : List Value)
        → values 0 f ≡ v ∷ vs → Writable bs
    made f ts a e v vs q = record {
      graph = record { objects = objects 0 f; roots = []; text = [] };
      value = v;
      ranged = subst (λ l. Ranged (get_or l 0 (plain null))) q (values-ranged 0 max_depth f a 0);
      fields = λ k j us o. subst RangedObject o (objects-ranged 0 max_depth f a k) j;
      spelled =
          let p = forest_pieces (record { objects = objects 0 f; roots = []; text = [] }) f max_depth 0 a (λ j l. ap (λ x. get_or (objects 0 f) x (traced [])) (omega arith)) in
          let m = sym (ap (map (pieces (record { objects = objects 0 f; roots = []; text = [] }) max_depth)) q) ∙ p ∙ ap (map spelt) e in
          cc;
    }

    by : (u : Tree) → bs ≡ tree_text u → TreeFits max_depth u → Writable bs
    by (leaf v) e a = made (leaf_then v end) [] (a, tt) (ap (λ x. x ∷ []) (sym e)) _ _ refl
    by (node g) e a = made (node_then g end) [] (a, tt) (ap (λ x. x ∷ []) (sym e)) _ _ refl

-- ---- what a read answers

-- a text that is a tree's gets neither VALUE nor DEEP
room_refuses : (Y : Layout) (n : ℕ) (change : State → State) (s : State) (k : Refusal)
    → (Calls.with_room Y n change s).answer ≡ Err k → (Why.Damaged ≡ k) ⊎ (Why.Room ≡ k)
unfolding refuse
room_refuses Y n change s k =
    ⊎_elim
    (λ (a : leb n (spare s) ≡ true). rw a (λ e. absurd (plainly Says.Done k e)))
    (λ (a : leb n (spare s) ≡ false).
    rw a
    (⊎_elim
    (λ (b : sound Y s ≡ true).
    rw b
    (⊎_elim
    (λ (c : leb n (spare (collected Y s)) ≡ true). rw c (λ e. absurd (plainly Says.Done k e)))
    (λ (c : leb n (spare (collected Y s)) ≡ false). rw c (λ e. inr (refused-same Why.Room k e)))
    (by_test (leb n (spare (collected Y s))))))
    (λ (b : sound Y s ≡ false). rw b (λ e. inl (refused-same Why.Damaged k e)))
    (by_test (sound Y s))))
    (by_test (leb n (spare s)))

module _ (to : ℕ) (s : State) (h : C.BadShape s → ⊥) (l : to < length s.roots) where
  read_by : (x : Parsed) → parsed s.text ≡ x → step tuple (Ask.Read to) s ≡ Calls.reads tuple to s x
  unfolding step Calls.read
  read_by x e =
      past-roots tuple s (to ∷ []) _ h (λ n. no_root_lem n)
      ∙ ap (Calls.reads tuple to s) e
    where
      no_root_lem : Row.NoRoot s (to ∷ []) → ⊥
      no_root_lem n =
          ⊎_elim (λ (e : n.0 ≡ to). let z = n.2 in omega arith) (λ m. Memᴰ.not-nil m) (Memᴰ.cases_cons n.1)

  abbrev Refuses : Refusal → Type 0
  Refuses k = (step tuple (Ask.Read to) s).answer ≡ Err k

  accepted : (Refuses Why.Value → ⊥) → (Refuses Why.Deep → ⊥) → Writable s.text
  accepted a b = by (parsed s.text) refl
    where
      by : (x : Parsed) → parsed s.text ≡ x → Writable s.text
      by (tree t) e = tree_writable t s.text (parsed-text s.text t e)
      by (broken k) e = absurd (none (first-read-fault s.text k e).is_fault (ap (λ o. o.answer) (read_by (broken k) e)))
        where
          none : {p : ℕ} {k : Refusal} → ReadFault s.text p k → Refuses k → ⊥
          none (breach p m v) r = a r
          none (cut v) r = a r
          none (deep p m o q) r = b r

  writable : Writable s.text → (k : Refusal) → Refuses k → (Why.Damaged ≡ k) ⊎ (Why.Room ≡ k)
  writable w k r =
      let t = value-tree w.graph w.fields max_depth w.value s.text w.ranged w.spelled in
      let e = read_by (tree t.tree) (text-parsed s.text t.tree (record { spelled = t.spelled; fits = t.fits })) in
      room_refuses tuple (tree_words t.tree) (planted tuple t.tree to) s k (sym (ap (λ o. o.answer) e) ∙ r)

different : (j k : Refusal) → (rank j ≡ rank k → ⊥) → j ≡ k → ⊥
different j k d e = d (ap rank e)

pub accepts_exactly : AcceptsExactly (machine tuple)
accepts_exactly to s h l = (
  λ p. accepted to s h l p.0 p.1,
  λ w. (
    λ e. ⊎_elim (different Why.Damaged Why.Value (λ z. omega arith)) (different Why.Room Why.Value (λ z. omega arith))
        (writable to s h l w Why.Value e),
    λ e. ⊎_elim (different Why.Damaged Why.Deep (λ z. omega arith)) (different Why.Room Why.Deep (λ z. omega arith))
        (writable to s h l w Why.Deep e),
  ),
)
