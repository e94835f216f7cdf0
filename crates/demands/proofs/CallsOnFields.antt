-- The calls on fields, in the heap and in the graph that it stands for: load, store, raw read, raw write.
use Prim.Native.Nat.{ℕ, ◌+◌, ◌<◌}
use native.Mathlib.Omega.{arith}
use mathlib.Core.Path.{◌≡◌, refl, sym, ap, ◌∙◌, subst}
use mathlib.Core.Logic.{⊎_elim}
use mathlib.Core.Bool.{true, not}
use mathlib.Core.List.{List, [], ◌∷◌}
use lib.Dec.{leb}
use lib.ListN.{length, get_or, set, length-set}
use lib.Seq.{get_or-set_same, get_or-set_other}
use borrow.Author.Tests.{leb-false}
use Rattle.std.specs.Prelude.{Ok}
use Rattle.model.specs.declared.Kind.{Kind}
use Rattle.model.specs.declared.Kind.TheVariants.{Traced, Untraced}
use Rattle.model.specs.declared.Refusal.TheVariants as Why
use Rattle.model.specs.declared.Answer.TheVariants as Says
use Rattle.model.specs.declared.Call.TheVariants as Ask
use Rattle.model.specs.Calls as Calls
use Rattle.model.specs.Answers.{Outcome, refuse, says}
use Rattle.model.specs.Calls.{is_of_kind, on_field}
use Rattle.model.specs.Changes.{no_root, root_word, with_word}
use Rattle.model.specs.Graph.{null, Value, plain, object, Object, traced, untraced, Graph, nth, root_value}
use Rattle.model.specs.GraphCalls.{graph_with_root, with_object, by_kind, on_object, wrong_kind, graph_step}
use Rattle.model.specs.Headers.{Layout, Adjacent}
use Rattle.model.specs.Objects.{is_traced, field_index, address, index, kind, field_count, names}
use Rattle.model.specs.Sessions.{step}
use Rattle.model.specs.Soundness.{headers, is_value}
use Rattle.model.specs.Words.{State, at}
use Rattle.theory.proofs.Deciding.{tests_sound}
use Rattle.theory.proofs.Keeping.{tile, field_no_header, one-object, word_sound, word-headers}
use Rattle.theory.proofs.Members.{In}
use Rattle.theory.proofs.Objects.{index-address}
use Rattle.model.specs.Represents.{Encodes, Holds, Represents}
use Rattle.demands.proofs.Represents.{parts, plain_no_address, Agrees, refuse_agrees, roots_agree, rep_value}
use Rattle.demands.proofs.Represents.{plain-names_nothing, header-names}
use Rattle.demands.proofs.CallsOnRoots.{root_represents, has_root}
use Rattle.theory.proofs.Shape.{first_in}
use Rattle.theory.proofs.Tests.{never, same?, or-none}

module _ (Y : Layout) where
  -- an object of the heap whose words stay
  pub holds_kept : (kept : List ℕ) (header_of : ℕ → ℕ) (H H' : List ℕ) (b : Object) (i : ℕ) → at H' i ≡ at H i
      → ((f : ℕ) → f < field_count Y H i → at H' (i + 1 + f) ≡ at H (i + 1 + f)) → Holds Y kept header_of H b i
      → Holds Y kept header_of H' b i
  holds_kept kept header_of H H' (traced vs) i e k h =
      (ap (λ x. Y.kind_of x) e ∙ h.0, ap (λ x. Y.count_of x) e ∙ h.1, λ f l. rw (k f (let z = h.1 in omega arith)) (h.2 f l))
  holds_kept kept header_of H H' (untraced ws) i e k h =
      (ap (λ x. Y.kind_of x) e ∙ h.0, ap (λ x. Y.count_of x) e ∙ h.1, λ f l. rw (k f (let z = h.1 in omega arith)) (h.2 f l))

-- where a code word is no object's address
module _ (Y : Layout) (near : Adjacent Y) where
  -- the object that a value's word names, or OBJECT in both
  on_object_lem : (s : State) (g : Graph) (m : Represents Y s g) (k : Kind) (v : Value) (w f : ℕ) (next : Outcome State)
      (t : ℕ → List Value → Outcome Graph) (u : ℕ → List ℕ → Outcome Graph)
      → Encodes Y m.kept m.header_of v w
      → ((x : ℕ) → In x m.kept → w ≡ address Y (m.header_of x) → Agrees Y
      (refuse (not (is_of_kind k (kind Y s.heap (m.header_of x)))) Why.Kind s
      (refuse (leb (field_count Y s.heap (m.header_of x)) f) Why.Field s next))
      (by_kind (nth g x) (t x) (u x)))
      → Agrees Y (on_field Y k w f s next) (on_object g v t u)
  unfolding on_object refuse
  on_object_lem s g m k (plain p) w f next t u e a =
      rw (plain-names_nothing Y s w (rw e.1 (plain_no_address p e.0))) (refl, m)
  on_object_lem s g m k (object x) w f next t u e a =
      let i = m.header_of x in
      let hd = m.head x e.0 in
      let n : names Y s w ≡ true = rw e.1 (header-names Y s (parts m) i hd near) in
      let d : index Y w ≡ i = rw e.1 (index-address Y i) in
      rw (n, d) (a x e.0 e.1)

  -- a field of a traced object, KIND or FIELD
  traced-object : (s : State) (g : Graph) (m : Represents Y s g) (x f : ℕ) (next : Outcome State)
      (t : List Value → Outcome Graph) (b : Object)
      → Holds Y m.kept m.header_of s.heap b (m.header_of x)
      → ((vs : List Value) → b ≡ traced vs → f < length vs → Agrees Y next (t vs))
      → Agrees Y
      (refuse (not (is_traced (kind Y s.heap (m.header_of x)))) Why.Kind s
      (refuse (leb (field_count Y s.heap (m.header_of x)) f) Why.Field s next))
      (by_kind b (λ vs. refuse (leb (length vs) f) Why.Field g (t vs)) (wrong_kind g x))
  unfolding refuse
  traced-object s g m x f next t (traced vs) h k =
      rw (h.0, h.1)
      (refuse_agrees Y (leb (length vs) f) (leb (length vs) f) Why.Field s g next (t vs) m refl
      (λ a. k vs refl (leb-false (length vs) f a)))
  traced-object s g m x f next t (untraced ws) h k = rw h.0 (refl, m)

  -- and of an untraced one
  untraced-object : (s : State) (g : Graph) (m : Represents Y s g) (x f : ℕ) (next : Outcome State)
      (t : List ℕ → Outcome Graph) (b : Object)
      → Holds Y m.kept m.header_of s.heap b (m.header_of x)
      → ((ws : List ℕ) → b ≡ untraced ws → f < length ws → Agrees Y next (t ws))
      → Agrees Y
      (refuse (not (not (is_traced (kind Y s.heap (m.header_of x))))) Why.Kind s
      (refuse (leb (field_count Y s.heap (m.header_of x)) f) Why.Field s next))
      (by_kind b (wrong_kind g x) (λ ws. refuse (leb (length ws) f) Why.Field g (t ws)))
  unfolding refuse
  untraced-object s g m x f next t (traced vs) h k = rw h.0 (refl, m)
  untraced-object s g m x f next t (untraced ws) h k =
      rw (h.0, h.1)
      (refuse_agrees Y (leb (length ws) f) (leb (length ws) f) Why.Field s g next (t ws) m refl
      (λ a. k ws refl (leb-false (length ws) f a)))

  -- what the heap holds for an object of the graph
  held : (s : State) (g : Graph) (m : Represents Y s g) (x : ℕ) (b : Object) → In x m.kept → nth g x ≡ b
      → Holds Y m.kept m.header_of s.heap b (m.header_of x)
  held s g m x b i o = subst (λ z. Holds Y m.kept m.header_of s.heap z (m.header_of x)) o (m.holds x i)

  traced-field : (s : State) (g : Graph) (m : Represents Y s g) (v : Value) (w f : ℕ) (next : Outcome State)
      (t : ℕ → List Value → Outcome Graph) → Encodes Y m.kept m.header_of v w
      → ((x : ℕ) (vs : List Value) → In x m.kept → w ≡ address Y (m.header_of x)
      → nth g x ≡ traced vs → f < length vs → Agrees Y next (t x vs))
      → Agrees Y (on_field Y Traced w f s next) (on_object g v (λ i vs. refuse (leb (length vs) f) Why.Field g (t i vs)) (wrong_kind g))
  traced-field s g m v w f next t e k =
      on_object_lem s g m Traced v w f next _ _ e (λ x i q.
      traced-object s g m x f next (t x) (nth g x) (m.holds x i) (λ vs o l. k x vs i q o l))

  untraced-field : (s : State) (g : Graph) (m : Represents Y s g) (v : Value) (w f : ℕ) (next : Outcome State)
      (t : ℕ → List ℕ → Outcome Graph) → Encodes Y m.kept m.header_of v w
      → ((x : ℕ) (ws : List ℕ) → In x m.kept → w ≡ address Y (m.header_of x)
      → nth g x ≡ untraced ws → f < length ws → Agrees Y next (t x ws))
      → Agrees Y (on_field Y Untraced w f s next) (on_object g v (wrong_kind g) (λ i ws. refuse (leb (length ws) f) Why.Field g (t i ws)))
  untraced-field s g m v w f next t e k =
      on_object_lem s g m Untraced v w f next _ _ e (λ x i q.
      untraced-object s g m x f next (t x) (nth g x) (m.holds x i) (λ ws o l. k x ws i q o l))

  pub load_agrees : (r f q : ℕ) (s : State) (g : Graph) → Represents Y s g
      → Agrees Y (step Y (Ask.Load r f q) s) (graph_step (Ask.Load r f q) g)
  unfolding step Calls.load graph_step
  load_agrees r f q s g m =
      roots_agree Y (r ∷ q ∷ []) s g _ _ m (λ a.
      traced-field s g m (root_value g r) (root_word s r) f _
      (λ i vs. says Says.Done (graph_with_root g q (get_or vs f (plain null))))
      (m.roots r (has_root Y s g m r (or-none (no_root s r) (no_root s q) a).0))
      (λ x vs i e o l. (
        refl,
        root_represents Y s g m q (at s.heap (field_index (index Y (root_word s r)) f)) (get_or vs f (plain null))
            (rw (e, index-address Y (m.header_of x)) ((held s g m x (traced vs) i o).2 f l)),
      )))

  -- a field's word changes, in both
  word_represents : (s : State) (g : Graph) (m : Represents Y s g) (x f w : ℕ) (b : Object) → In x m.kept
      → f < field_count Y s.heap (m.header_of x)
      → (kind Y s.heap (m.header_of x) ≡ Traced → is_value Y (headers Y s) w ≡ true)
      → Holds Y m.kept m.header_of (set s.heap (m.header_of x + 1 + f) w) b (m.header_of x)
      → Represents Y (with_word s (m.header_of x + 1 + f) w) (with_object g x b)
  word_represents s g m x f w b i l v h =
      let hd = m.head x i in
      let H' = set s.heap (m.header_of x + 1 + f) w in
      record {
        ok = tests_sound Y (with_word s (m.header_of x + 1 + f) w) (word_sound Y s (parts m) (m.header_of x) f w hd l v);
        kept = m.kept;
        header_of = m.header_of;
        known = λ y j. let z = length-set g.objects x b in omega (arith, m.known y j);
        head = λ y j. rw (word-headers Y s (parts m) (m.header_of x) f w hd l) (m.head y j);
        apart = m.apart;
        count = m.count;
        roots = m.roots;
        text = m.text;
        holds = λ y j.
            ⊎_elim
            (λ (e : y ≡ x).
            subst (λ z. Holds Y m.kept m.header_of H' (get_or (set g.objects x b) z (traced [])) (m.header_of z)) (sym e)
            (rw (get_or-set_same g.objects x b (traced []) (m.known x i)) h))
            (λ (d : y ≡ x → ⊥).
            rw (get_or-set_other g.objects x y b (traced []) d)
            (holds_kept Y m.kept m.header_of s.heap H' (nth g y) (m.header_of y)
            (get_or-set_other s.heap (m.header_of x + 1 + f) (m.header_of y) w 0
            (field_no_header Y s (parts m) (m.header_of x) f (m.header_of y) hd l (m.head y j)))
            (λ k a. get_or-set_other s.heap (m.header_of x + 1 + f) (m.header_of y + 1 + k) w 0
            (λ e. d (m.apart y x j i (one-object Y s (parts m) (m.header_of x) f (m.header_of y) k hd l (m.head y j) a e))))
            (m.holds y j)))
            (same? y x);
      }

  -- the object's field lies in the heap, and its header stays
  field_in : (s : State) (g : Graph) (m : Represents Y s g) (x f : ℕ) → In x m.kept
      → f < field_count Y s.heap (m.header_of x)
      → m.header_of x + 1 + f < length s.heap
  field_in s g m x f i l =
      let t = (tile Y s (parts m) (m.header_of x) (m.head x i)).within in
      let z = first_in s (parts m).shape in
      omega (arith, (parts m).shape.high)

  header-stays : (s : State) (g : Graph) (m : Represents Y s g) (x f w : ℕ) → In x m.kept
      → f < field_count Y s.heap (m.header_of x)
      → at (set s.heap (m.header_of x + 1 + f) w) (m.header_of x) ≡ at s.heap (m.header_of x)
  header-stays s g m x f w i l = get_or-set_other s.heap (m.header_of x + 1 + f) (m.header_of x) w 0 (λ e. omega arith)

  -- a list and the heap change at one field alike
  set_alike : {A : Type 0} (R : A → ℕ → Type 0) (vs : List A) (d v : A) (H : List ℕ) (i f w : ℕ) → f < length vs
      → i + 1 + f < length H
      → ((k : ℕ) → k < length vs → R (get_or vs k d) (at H (i + 1 + k))) → R v w
      → (k : ℕ) → k < length (set vs f v) → R (get_or (set vs f v) k d) (at (set H (i + 1 + f) w) (i + 1 + k))
  set_alike R vs d v H i f w l u h r k a =
      let a' : k < length vs = let z = length-set vs f v in omega arith in
      ⊎_elim
      (λ (q : k ≡ f).
      subst (λ z. R (get_or (set vs f v) z d) (at (set H (i + 1 + f) w) (i + 1 + z))) (sym q)
      (rw (get_or-set_same vs f v d l, get_or-set_same H (i + 1 + f) w 0 u) r))
      (λ (n : k ≡ f → ⊥).
      rw (get_or-set_other vs f k v d n, get_or-set_other H (i + 1 + f) (i + 1 + k) w 0 (λ z. n (omega arith))) (h k a'))
      (same? k f)

  pub store_represents : (s : State) (g : Graph) (m : Represents Y s g) (x f w : ℕ) (vs : List Value) (v : Value)
      → In x m.kept
      → nth g x ≡ traced vs → f < length vs
      → Encodes Y m.kept m.header_of v w
      → Represents Y (with_word s (m.header_of x + 1 + f) w) (with_object g x (traced (set vs f v)))
  store_represents s g m x f w vs v i o l e =
      let h = held s g m x (traced vs) i o in
      let u : f < field_count Y s.heap (m.header_of x) = let z = h.1 in omega arith in
      let c = header-stays s g m x f w i u in
      word_represents s g m x f w (traced (set vs f v)) i u (λ k. rep_value Y s g m v w e) (
        ap (λ z. Y.kind_of z) c ∙ h.0,
        ap (λ z. Y.count_of z) c ∙ h.1 ∙ sym (length-set vs f v),
        set_alike (Encodes Y m.kept m.header_of) vs (plain null) v s.heap (m.header_of x) f w l
            (field_in s g m x f i u) h.2 e,
      )

  -- the same objects are kept, where they were
  module _ (s : State) (g : Graph) (m : Represents Y s g) (x f w : ℕ) (vs : List Value) (v : Value) (i : In x m.kept)
      (o : nth g x ≡ traced vs) (l : f < length vs) (e : Encodes Y m.kept m.header_of v w) where
    pub store_kept : (z : ℕ) → In z m.kept → In z (store_represents s g m x f w vs v i o l e).kept
    unfolding store_represents word_represents
    store_kept z a = a

    pub store-place : (z : ℕ) → (store_represents s g m x f w vs v i o l e).header_of z ≡ m.header_of z
    unfolding store_represents word_represents
    store-place z = refl

  pub store_agrees : (r f q : ℕ) (s : State) (g : Graph) → Represents Y s g
      → Agrees Y (step Y (Ask.Store r f q) s) (graph_step (Ask.Store r f q) g)
  unfolding step Calls.store graph_step
  store_agrees r f q s g m =
      roots_agree Y (r ∷ q ∷ []) s g _ _ m (λ a.
      let b = or-none (no_root s r) (no_root s q) a in
      traced-field s g m (root_value g r) (root_word s r) f _
      (λ i vs. says Says.Done (with_object g i (traced (set vs f (root_value g q)))))
      (m.roots r (has_root Y s g m r b.0))
      (λ x vs i e o l. (
        refl,
        rw (e, index-address Y (m.header_of x))
            (store_represents s g m x f (root_word s q) vs (root_value g q) i o l (m.roots q (has_root Y s g m q b.1))),
      )))

  pub raw_read_agrees : (r f : ℕ) (s : State) (g : Graph) → Represents Y s g
      → Agrees Y (step Y (Ask.RawRead r f) s) (graph_step (Ask.RawRead r f) g)
  unfolding step Calls.raw_read graph_step
  raw_read_agrees r f s g m =
      roots_agree Y (r ∷ []) s g _ _ m (λ a.
      untraced-field s g m (root_value g r) (root_word s r) f _ (λ i ws. says (Says.Number (get_or ws f 0)) g)
      (m.roots r (has_root Y s g m r a))
      (λ x ws i e o l. (ap (λ w. Ok (Says.Number w)) (rw (e, index-address Y (m.header_of x)) ((held s g m x (untraced ws) i o).2 f l)), m)))

  raw_represents : (s : State) (g : Graph) (m : Represents Y s g) (x f w : ℕ) (ws : List ℕ) → In x m.kept
      → nth g x ≡ untraced ws → f < length ws
      → Represents Y (with_word s (m.header_of x + 1 + f) w) (with_object g x (untraced (set ws f w)))
  raw_represents s g m x f w ws i o l =
      let h = held s g m x (untraced ws) i o in
      let u : f < field_count Y s.heap (m.header_of x) = let z = h.1 in omega arith in
      let c = header-stays s g m x f w i u in
      word_represents s g m x f w (untraced (set ws f w)) i u (λ k. never (ap is_traced k) (ap is_traced h.0)) (
        ap (λ z. Y.kind_of z) c ∙ h.0,
        ap (λ z. Y.count_of z) c ∙ h.1 ∙ sym (length-set ws f w),
        set_alike (λ a b. b ≡ a) ws 0 w s.heap (m.header_of x) f w l (field_in s g m x f i u) h.2 refl,
      )

  pub raw_write_agrees : (r f n : ℕ) (s : State) (g : Graph) → Represents Y s g
      → Agrees Y (step Y (Ask.RawWrite r f n) s) (graph_step (Ask.RawWrite r f n) g)
  unfolding step Calls.raw_write graph_step
  raw_write_agrees r f n s g m =
      roots_agree Y (r ∷ []) s g _ _ m (λ a.
      untraced-field s g m (root_value g r) (root_word s r) f _
      (λ i ws. says Says.Done (with_object g i (untraced (set ws f n))))
      (m.roots r (has_root Y s g m r a))
      (λ x ws i e o l. (refl, rw (e, index-address Y (m.header_of x)) (raw_represents s g m x f n ws i o l))))
