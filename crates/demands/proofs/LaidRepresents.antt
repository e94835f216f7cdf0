-- The values of a tuple laid out in a heap and in the graph that it stands for.
use Prim.Native.Nat.{ℕ, ◌+◌, ◌-◌, ◌≤◌, ◌<◌}
use native.Mathlib.Omega.{arith}
use mathlib.Core.Path.{◌≡◌, refl, sym, ap, ◌∙◌, subst}
use mathlib.Core.List.{List, [], ◌∷◌}
use lib.ListN.{length, set, replicate, length-append, length-set, length-replicate, get_or-append}
use lib.Seq.{get_or-set_same, get_or-set_other, get_or-append_seam}
use Rattle.model.specs.declared.Kind.TheVariants.{Traced}
use Rattle.model.specs.Changes.{with_word, spare, appended, placed, laid, planted}
use Rattle.model.specs.Graph.{null, integer, Value, plain, object, traced, Graph, nth}
use Rattle.model.specs.GraphCalls.{blank_object, with_blank, with_field_of, with_field, grown, graph_laid, graph_planted}
use Rattle.model.specs.Headers.{Layout, WritesBoth, Adjacent}
use Rattle.model.specs.Limits.{max_fields}
use Rattle.model.specs.Objects.{address}
use Rattle.model.specs.Represents.{Encodes, Represents}
use Rattle.model.specs.Trees.{Forest, end, leaf_then, node_then, Tree, leaf, node, count, forest_words, tree_words, ForestFits, TreeFits}
use Rattle.model.specs.Values.{tag}
use Rattle.model.specs.Words.{State, free}
use Rattle.demands.proofs.CallPlace.{append_represents, append-kept, append-place, new_kept, new_place}
use Rattle.demands.proofs.CallPlace.{place_represents, placed-kept, placed-place}
use Rattle.demands.proofs.CallsOnFields.{store_represents, store_kept, store-place}
use Rattle.demands.proofs.CallsOnRoots.{root_represents}
use Rattle.demands.proofs.LaidSound.{inner_fits, rest-fits, lays_spare, few, placed-spare}
use Rattle.theory.proofs.Laying.{lays_then, laid_lays, append_lays, word_lays}
use Rattle.theory.proofs.Members.{In}
use Rattle.theory.proofs.ReadThrough.{node-fits}
use Rattle.demands.proofs.Represents.{parts}

same-fits : (a S T : ℕ) → a ≤ S → T ≡ S - 0 → a ≤ T
same-fits a S T l e = omega arith

module _ (Y : Layout) (law : WritesBoth Y) (near : Adjacent Y) where
  -- a heap and its graph after objects were added, and fields of x changed: what was kept is kept where it was
  pub record After (s : State) (g : Graph) (m : Represents Y s g) (x : ℕ) (t : State) (q : Graph) : Type 0 where
    pub stands : Represents Y t q
    pub kept : (z : ℕ) → In z m.kept → In z stands.kept
    pub place : (z : ℕ) → In z m.kept → stands.header_of z ≡ m.header_of z
    pub grown : length g.objects ≤ length q.objects
    pub others : (z : ℕ) → z < length g.objects → (z ≡ x → ⊥) → nth q z ≡ nth g z

  -- the object x of the graph has room for n values from field k on
  pub record Room (g : Graph) (x k n : ℕ) : Type 0 where
    pub fields : List Value
    pub is : nth g x ≡ traced fields
    pub room : k + n ≤ length fields

  -- one field's value
  module _ (s : State) (g : Graph) (m : Represents Y s g) (x k : ℕ) (i : In x m.kept) where
    field_represents : (n j w : ℕ) (v : Value) → Room g x k (n + 1) → j ≡ m.header_of x + 1 + k → Encodes Y m.kept m.header_of v w
        → After s g m x (with_word s j w) (with_field g x k v) × Room (with_field g x k v) x (k + 1) n
    field_represents n j w v r e c =
        let u = r.room in
        subst (λ z. After s g m x (with_word s z w) (with_field g x k v) × Room (with_field g x k v) x (k + 1) n) (sym e)
        (subst (λ b. After s g m x (with_word s (m.header_of x + 1 + k) w) (with_field_of g x k v b) × Room (with_field_of g x k v b) x (k + 1) n)
        (sym r.is) (
          record {
            stands = store_represents Y near s g m x k w r.fields v i r.is (omega arith) c;
            kept = λ z a. store_kept Y near s g m x k w r.fields v i r.is (omega arith) c z a;
            place = λ z a. store-place Y near s g m x k w r.fields v i r.is (omega arith) c z;
            grown = let l = length-set g.objects x (traced (set r.fields k v)) in omega arith;
            others = λ z l d. get_or-set_other g.objects x z (traced (set r.fields k v)) (traced []) d;
          },
          record {
            fields = set r.fields k v;
            is = get_or-set_same g.objects x (traced (set r.fields k v)) (traced []) (m.known x i);
            room = let l = length-set r.fields k v in omega arith;
          },
        ))

  after_then : {s t u : State} {g q p : Graph} {m : Represents Y s g} {x : ℕ} (a : After s g m x t q) → After t q a.stands x u p
      → After s g m x u p
  after_then a b = record {
    stands = b.stands;
    kept = λ z i. b.kept z (a.kept z i);
    place = λ z i. b.place z (a.kept z i) ∙ a.place z i;
    grown = let l = a.grown in let k = b.grown in omega arith;
    others = λ z l d. b.others z (let k = a.grown in omega arith) d ∙ a.others z l d;
  }

  -- a new object of n fields: an After of any old object, and what is known of the new one
  module _ (s : State) (g : Graph) (m : Represents Y s g) (n : ℕ) (small : n ≤ max_fields) (fit : n + 1 ≤ spare s) where
    old_nth : (z : ℕ) → z < length g.objects → nth (with_blank Traced n g) z ≡ nth g z
    old_nth z l = get_or-append g.objects (blank_object Traced n ∷ []) (traced []) z l

    append-after : (x : ℕ) → After s g m x (appended Y Traced n s) (with_blank Traced n g)
    append-after x = record {
      stands = append_represents Y law s g m Traced n small fit;
      kept = append-kept Y law s g m Traced n small fit;
      place = append-place Y law s g m Traced n small fit;
      grown = let l = length-append g.objects (blank_object Traced n ∷ []) in omega arith;
      others = λ z l d. old_nth z l;
    }

    new_room : Room (with_blank Traced n g) (length g.objects) 0 n
    new_room = record {
      fields = replicate n (plain null);
      is = get_or-append_seam g.objects (blank_object Traced n) [] (traced []);
      room = let l : length {A = Value} (replicate n (plain null)) ≡ n = length-replicate n (plain null) in omega arith;
    }

  -- room that another object's fields leave
  room-kept : {s t : State} {g q : Graph} {m : Represents Y s g} {y x k n : ℕ} → After s g m y t q → In x m.kept → (x ≡ y → ⊥)
      → Room g x k n → Room q x k n
  room-kept {s} {t} {g} {q} {m} {y} {x} a i d r = record {
    fields = r.fields;
    is = a.others x (m.known x i) d ∙ r.is;
    room = r.room;
  }

  -- what happens in x, and then in an object that is newer than all of g
  after_inner : {s t u : State} {g q p : Graph} {m : Represents Y s g} {x y : ℕ} (a : After s g m x t q) → After t q a.stands y u p
      → length g.objects ≤ y → After s g m x u p
  after_inner a b l = record {
    stands = b.stands;
    kept = λ z j. b.kept z (a.kept z j);
    place = λ z j. b.place z (a.kept z j) ∙ a.place z j;
    grown = let i = a.grown in let j = b.grown in omega arith;
    others = λ z k n. b.others z (let i = a.grown in omega arith) (λ e. omega arith) ∙ a.others z k n;
  }

  -- a new object y of n fields with its header at j, and its address in field k of x. What the fields' values need of it stands here, so that
  -- they compute with no more than that
  record Linked (s : State) (g : Graph) (m : Represents Y s g) (x k : ℕ) (t : State) (q : Graph) (y j n rest : ℕ) : Type 0 where
    after : After s g m x t q
    new : In y after.stands.kept
    header : after.stands.header_of y ≡ j
    inner : Room q y 0 n
    later : Room q x (k + 1) rest

  -- the address, when the object is there
  link_field : {s t : State} {g q : Graph} {m : Represents Y s g} {x k i y j n rest : ℕ} (a : After s g m x t q) → In x m.kept
      → In y a.stands.kept → a.stands.header_of y ≡ j → (y ≡ x → ⊥) → Room q x k (rest + 1) → Room q y 0 n → i ≡ m.header_of x + 1 + k
      → Linked s g m x k (with_word t i (address Y j)) (with_field q x k (object y)) y j n rest
  unfolding after_then
  link_field {s} {t} {g} {q} {m} {x} {k} {i} {y} {j} {n} {rest} a c new header d r v e =
      let b = field_represents t q a.stands x k (a.kept x c) rest i (address Y j) (object y) r (let p = a.place x c in omega arith)
      (new, ap (address Y) (sym header)) in
      record {
        after = after_then a b.0;
        new = b.0.kept y new;
        header = b.0.place y new ∙ header;
        inner = room-kept b.0 new d v;
        later = b.1;
      }

  link : (s : State) (g : Graph) (m : Represents Y s g) (x k i n rest : ℕ) → In x m.kept → Room g x k (rest + 1) → i ≡ m.header_of x + 1 + k
      → n + 1 ≤ spare s
      → Linked s g m x k (with_word (appended Y Traced n s) i (address Y (free s)))
      (with_field (with_blank Traced n g) x k (object (length g.objects))) (length g.objects) (free s) n rest
  unfolding append-after
  link s g m x k i n rest c r e fit =
      let small = few Y law s (parts m) n fit in
      let under = m.known x c in
      link_field (append-after s g m n small fit x) c (new_kept Y law s g m Traced n small fit) (new_place Y law s g m Traced n small fit)
      (λ z. omega arith) (record { fields = r.fields; is = old_nth s g m n small fit x under ∙ r.is; room = r.room })
      (new_room s g m n small fit) e

  pub laid_represents : (f : Forest) (d x k i : ℕ) (s : State) (g : Graph) (m : Represents Y s g) → In x m.kept → Room g x k (count f)
      → i ≡ m.header_of x + 1 + k → ForestFits d f → forest_words f ≤ spare s
      → After s g m x (laid Y f i s) (graph_laid f x k g)
  unfolding laid graph_laid forest_words count
  laid_represents end d x k i s g m c r e a u = record {
    stands = m;
    kept = λ z j. j;
    place = λ z j. refl;
    grown = omega arith;
    others = λ z l n. refl;
  }
  laid_represents (leaf_then v f) d x k i s g m c r e a u =
      let b = field_represents s g m x k c (count f) i (tag v) (plain (integer v)) r e (a.0, refl) in
      let m₁ = b.0.stands in
      after_then b.0
      (laid_represents f d x (k + 1) (i + 1) (with_word s i (tag v)) (with_field g x k (plain (integer v))) m₁ (b.0.kept x c) b.1
      (let p = b.0.place x c in omega arith) a.1 (same-fits (forest_words f) (spare s) _ u (lays_spare (word_lays Y s i (tag v)))))
  laid_represents (node_then h f) d x k i s g m c r e a u =
      let fits = node-fits d h f a in
      let inner = inner_fits d h fits.0 in
      let y = length g.objects in
      let s₀ = appended Y Traced (count h) s in
      let s₁ = with_word s₀ i (address Y (free s)) in
      let s₂ = laid Y h (free s + 1) s₁ in
      let q₁ = with_field (with_blank Traced (count h) g) x k (object y) in
      let q₂ = graph_laid h y 0 q₁ in
      let l₁ = lays_then (append_lays Y s (count h)) (word_lays Y s₀ i (address Y (free s))) in
      let fitting = rest-fits (count h + 1) (forest_words h) (forest_words f) (spare s) (spare s₁) (spare s₂) u (lays_spare l₁)
      (lays_spare (lays_then l₁ (laid_lays Y h (free s + 1) s₁))) in
      let b : Linked s g m x k s₁ q₁ y (free s) (count h) (count f) = link s g m x k i (count h) (count f) c r e fitting.0 in
      let b₂ : After s₁ q₁ b.after.stands y s₂ q₂ =
      laid_represents h inner.0 y 0 (free s + 1) s₁ q₁ b.after.stands b.new b.inner (let p = b.header in omega arith)
      inner.1 fitting.1 in
      let under = m.known x c in
      let b₀₂ : After s g m x s₂ q₂ = after_inner b.after b₂ (omega arith) in
      after_then b₀₂
      (laid_represents f d x (k + 1) (i + 1) s₂ q₂ b₀₂.stands (b₀₂.kept x c)
      (room-kept b₂ (b.after.kept x c) (λ z. omega arith) b.later)
      (let p = b₀₂.place x c in omega arith) fits.1 fitting.2)

  -- a tree
  pub planted_represents : (t : Tree) (d r : ℕ) (s : State) (g : Graph) → Represents Y s g → TreeFits d t → tree_words t ≤ spare s
      → Represents Y (planted Y t r s) (graph_planted t r g)
  unfolding planted graph_planted
  planted_represents (leaf v) d r s g m a u = root_represents Y s g m r (tag v) (plain (integer v)) (a, refl)
  planted_represents (node h) d r s g m a u =
      let fit : count h + 1 ≤ spare s = omega arith in
      let small = few Y law s (parts m) (count h) fit in
      let inner = inner_fits d h a in
      let y = length g.objects in
      let n = new_room s g m (count h) small fit in
      (laid_represents h inner.0 (length g.objects) 0 (free s + 1) (placed Y Traced (count h) r s) (grown Traced (count h) r g)
      (place_represents Y law s g m Traced (count h) small fit r) (placed-kept Y law s g m Traced (count h) small fit r)
      (record { fields = n.fields; is = n.is; room = n.room })
      (let p = placed-place Y law s g m Traced (count h) small fit r in omega arith) inner.1
      (omega (arith, placed-spare Y law s (count h) r))).stands
