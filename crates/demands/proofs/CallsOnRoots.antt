-- The calls that look at no field, in the heap and in the graph that it stands for: check, set, copy, same, inspect.
use Prim.Native.Nat.{ℕ, ◌+◌, ◌*◌, ◌-◌, ◌%◌, ◌<◌}
use native.Mathlib.Omega.{arith}
use mathlib.Core.Path.{◌≡◌, refl, sym, ap, ◌∙◌, subst}
use mathlib.Core.Logic.{⊎_elim}
use mathlib.Core.Bool.{true, false, not, cond}
use mathlib.Core.List.{[], ◌∷◌}
use lib.Dec.{eqb}
use lib.IntN.{ℤ, pos, negsuc}
use lib.ListN.{length, get_or, set, length-set}
use lib.Seq.{get_or-set_same, get_or-set_other}
use borrow.Author.Tests.{leb-true, leb-false, eq-eqb, ne_eqb, not-false}
use Rattle.std.specs.Prelude.{Ok}
use Rattle.model.specs.declared.Kind.TheVariants.{Traced, Untraced}
use Rattle.model.specs.declared.Refusal.TheVariants as Why
use Rattle.model.specs.declared.Answer.TheVariants as Says
use Rattle.model.specs.declared.Call.TheVariants as Ask
use Rattle.model.specs.Calls as Calls
use Rattle.model.specs.Answers.{says, refuse}
use Rattle.model.specs.Changes.{no_root, root_word, with_root}
use Rattle.model.specs.Graph.{Plain, integer, null, code, Value, plain, object, Object, traced, untraced, Graph, nth}
use Rattle.model.specs.Graph.{root_value}
use Rattle.model.specs.GraphCalls.{graph_with_root, same_integer, same_plain, same_value, by_kind, inspected, graph_step}
use Rattle.model.specs.Headers.{Layout, Adjacent}
use Rattle.model.specs.Limits.{max_integer}
use Rattle.model.specs.Objects.{address, index, kind, field_count, names}
use Rattle.model.specs.Sessions.{step}
use Rattle.model.specs.Values.{is_odd, is_null, is_address, is_code, in_range, tag, untag}
use Rattle.model.specs.Words.{State, at}
use Rattle.theory.proofs.Deciding.{tests_sound}
use Rattle.demands.proofs.Integers.{tag-odd, tag-is-odd, untag-tag}
use Rattle.theory.proofs.Keeping.{root-sound}
use Rattle.theory.proofs.Members.{In}
use Rattle.theory.proofs.Objects.{index-address}
use Rattle.model.specs.Represents.{plain_word, has_word, Encodes, Holds, Represents}
use Rattle.demands.proofs.Represents.{parts, plain_no_address, Agrees, refuse_agrees, roots_agree, rep_value}
use Rattle.demands.proofs.Represents.{header-not-null, header-not-odd, header-is-address, header_no_code, header-names}
use Rattle.theory.proofs.Soundness.{sound-whole}
use Rattle.theory.proofs.Tests.{never, same?, or-none}
use Rattle.theory.proofs.WordSorts.{code_parts}

-- two words are equal exactly where their values are the same
eqb_both : (a b c d : ℕ) → (a ≡ b → c ≡ d) → (c ≡ d → a ≡ b) → eqb a b ≡ eqb c d
eqb_both a b c d f g =
    ⊎_elim
    (λ (e : a ≡ b). eq-eqb a b e ∙ sym (eq-eqb c d (f e)))
    (λ (n : a ≡ b → ⊥). ne_eqb a b n ∙ sym (ne_eqb c d (λ e. n (g e))))
    (same? a b)

same_tag : (a b : ℤ) → in_range a ≡ true → in_range b ≡ true → eqb (tag a) (tag b) ≡ same_integer a b
same_tag (pos a) (pos b) h k = eqb_both (2 * a + 1) (2 * b + 1) a b (λ e. omega arith) (λ e. omega arith)
same_tag (pos a) (negsuc b) h k =
    let x = leb-true a max_integer h in
    let y = leb-true b max_integer k in
    ne_eqb (2 * a + 1) (4294967295 - 2 * b) (λ e. omega arith)
same_tag (negsuc a) (pos b) h k =
    let x = leb-true a max_integer h in
    let y = leb-true b max_integer k in
    ne_eqb (4294967295 - 2 * a) (2 * b + 1) (λ e. omega arith)
same_tag (negsuc a) (negsuc b) h k =
    let x = leb-true a max_integer h in
    let y = leb-true b max_integer k in
    eqb_both (4294967295 - 2 * a) (4294967295 - 2 * b) a b (λ e. omega arith) (λ e. omega arith)

-- an integer's word is odd, and those of null and code are not
odd-apart : (v : ℤ) (w : ℕ) → in_range v ≡ true → w % 2 ≡ 0 → tag v ≡ w → ⊥
odd-apart v w h e z = let o = tag-odd v h in omega (arith, ap (λ x. x % 2) z)

same-plain : (a b : Plain) → has_word a ≡ true → has_word b ≡ true → eqb (plain_word a) (plain_word b) ≡ same_plain a b
same-plain (integer a) (integer b) h k = same_tag a b h k
same-plain (integer a) null h k = ne_eqb (tag a) 0 (odd-apart a 0 h refl)
same-plain (integer a) (code w) h k = ne_eqb (tag a) w (odd-apart a w h (code_parts w k).0)
same-plain null (integer b) h k = ne_eqb 0 (tag b) (λ z. odd-apart b 0 k refl (sym z))
same-plain null null h k = refl
same-plain null (code w) h k = ne_eqb 0 w (λ z. let p = (code_parts w k).1 in omega arith)
same-plain (code v) (integer b) h k = ne_eqb v (tag b) (λ z. odd-apart b v k (code_parts v h).0 (sym z))
same-plain (code v) null h k = ne_eqb v 0 (λ z. let p = (code_parts v h).1 in omega arith)
same-plain (code v) (code w) h k = refl

module _ (Y : Layout) where
  -- a root is set
  pub root_represents : (s : State) (g : Graph) (m : Represents Y s g) (r w : ℕ) (v : Value)
      → Encodes Y m.kept m.header_of v w
      → Represents Y (with_root s r w) (graph_with_root g r v)
  root_represents s g m r w v e = record {
    ok = tests_sound Y (with_root s r w) (root-sound Y s (parts m) r w (rep_value Y s g m v w e));
    kept = m.kept;
    header_of = m.header_of;
    known = m.known;
    head = m.head;
    apart = m.apart;
    count = length-set s.roots r w ∙ m.count ∙ sym (length-set g.roots r v);
    roots = λ q l.
        let l' : q < length g.roots = let z = length-set g.roots r v in omega arith in
        ⊎_elim
        (λ (z : q ≡ r).
        subst (λ x. Encodes Y m.kept m.header_of (get_or (set g.roots r v) x (plain null)) (at (set s.roots r w) x)) (sym z)
        (rw (get_or-set_same g.roots r v (plain null) (omega arith), get_or-set_same s.roots r w 0 (omega (arith, m.count))) e))
        (λ (d : q ≡ r → ⊥). rw (get_or-set_other g.roots r q v (plain null) d, get_or-set_other s.roots r q w 0 d) (m.roots q l'))
        (same? q r);
    text = m.text;
    holds = m.holds;
  }

  -- the same objects are kept, where they were
  module _ (s : State) (g : Graph) (m : Represents Y s g) (r w : ℕ) (v : Value) (e : Encodes Y m.kept m.header_of v w) (z : ℕ) where
    pub root_kept : In z m.kept → In z (root_represents s g m r w v e).kept
    unfolding root_represents
    root_kept a = a

    pub root-place : (root_represents s g m r w v e).header_of z ≡ m.header_of z
    unfolding root_represents
    root-place = refl

  pub has_root : (s : State) (g : Graph) (m : Represents Y s g) (r : ℕ) → no_root s r ≡ false → r < length g.roots
  has_root s g m r e = let z = leb-false (length s.roots) r e in omega (arith, m.count)

  pub check_agrees : (s : State) (g : Graph) → Represents Y s g → Agrees Y (step Y Ask.Check s) (graph_step Ask.Check g)
  unfolding step Calls.check graph_step
  check_agrees s g m = roots_agree Y [] s g _ _ m (λ a. rw (sound-whole Y s (parts m)) (refl, m))

  pub set_integer_agrees : (r : ℕ) (v : ℤ) (s : State) (g : Graph) → Represents Y s g
      → Agrees Y (step Y (Ask.SetInteger r v) s) (graph_step (Ask.SetInteger r v) g)
  unfolding step Calls.set_integer graph_step
  set_integer_agrees r v s g m =
      roots_agree Y (r ∷ []) s g _ _ m (λ a.
      refuse_agrees Y (not (in_range v)) (not (in_range v)) Why.Range s g _ _ m refl (λ b.
      (refl, root_represents s g m r (tag v) (plain (integer v)) (not-false (in_range v) b, refl))))

  pub set_null_agrees : (r : ℕ) (s : State) (g : Graph) → Represents Y s g
      → Agrees Y (step Y (Ask.SetNull r) s) (graph_step (Ask.SetNull r) g)
  unfolding step Calls.set_null graph_step
  set_null_agrees r s g m =
      roots_agree Y (r ∷ []) s g _ _ m (λ a.
      (refl, root_represents s g m r 0 (plain null) (refl, refl)))

  pub set_code_agrees : (r w : ℕ) (s : State) (g : Graph) → Represents Y s g
      → Agrees Y (step Y (Ask.SetCode r w) s) (graph_step (Ask.SetCode r w) g)
  unfolding step Calls.set_code graph_step
  set_code_agrees r w s g m =
      roots_agree Y (r ∷ []) s g _ _ m (λ a.
      refuse_agrees Y (not (is_code w)) (not (is_code w)) Why.Range s g _ _ m refl (λ b.
      (refl, root_represents s g m r w (plain (code w)) (not-false (is_code w) b, refl))))

  pub copy_agrees : (p q : ℕ) (s : State) (g : Graph) → Represents Y s g
      → Agrees Y (step Y (Ask.Copy p q) s) (graph_step (Ask.Copy p q) g)
  unfolding step Calls.copy graph_step
  copy_agrees p q s g m =
      roots_agree Y (p ∷ q ∷ []) s g _ _ m (λ a. (
        refl,
        root_represents s g m q (root_word s p) (root_value g p)
            (m.roots p (has_root s g m p (or-none (no_root s p) (no_root s q) a).0)),
      ))

-- where a code word is no object's address
module _ (Y : Layout) (near : Adjacent Y) where
  -- a plain value's word is no object's address
  plain-apart : (s : State) (g : Graph) (m : Represents Y s g) (p : Plain) (x : ℕ) → has_word p ≡ true → In x m.kept
      → plain_word p ≡ address Y (m.header_of x) → ⊥
  plain-apart s g m p x h i e =
      never (header-is-address Y s (parts m) (m.header_of x) (m.head x i) near) (ap is_address (sym e) ∙ plain_no_address p h)

  same_word : (s : State) (g : Graph) (m : Represents Y s g) (v v' : Value) (w w' : ℕ)
      → Encodes Y m.kept m.header_of v w
      → Encodes Y m.kept m.header_of v' w'
      → eqb w w' ≡ same_value v v'
  same_word s g m (plain a) (plain b) w w' e e' = rw (e.1, e'.1) (same-plain a b e.0 e'.0)
  same_word s g m (plain a) (object y) w w' e e' =
      rw (e.1, e'.1) (ne_eqb (plain_word a) (address Y (m.header_of y)) (plain-apart s g m a y e.0 e'.0))
  same_word s g m (object x) (plain b) w w' e e' =
      rw (e.1, e'.1)
      (ne_eqb (address Y (m.header_of x)) (plain_word b) (λ z. plain-apart s g m b x e'.0 e.0 (sym z)))
  same_word s g m (object x) (object y) w w' e e' =
      rw (e.1, e'.1)
      (eqb_both (address Y (m.header_of x)) (address Y (m.header_of y)) x y
      (λ z. m.apart x y e.0 e'.0 (omega arith))
      (λ z. ap (λ k. address Y (m.header_of k)) z))

  pub same_agrees : (p q : ℕ) (s : State) (g : Graph) → Represents Y s g
      → Agrees Y (step Y (Ask.Same p q) s) (graph_step (Ask.Same p q) g)
  unfolding step Calls.same graph_step
  same_agrees p q s g m =
      roots_agree Y (p ∷ q ∷ []) s g _ _ m (λ a.
      let b = or-none (no_root s p) (no_root s q) a in (
        ap (λ x. Ok (cond x Says.Yes Says.No))
            (same_word s g m (root_value g p) (root_value g q) (root_word s p) (root_word s q)
            (m.roots p (has_root Y s g m p b.0)) (m.roots q (has_root Y s g m q b.1))),
        m,
      ))

  -- what stands in the heap for an object of the graph
  inspect-object : (s : State) (g : Graph) (m : Represents Y s g) (x : ℕ) (b : Object)
      → Holds Y m.kept m.header_of s.heap b (m.header_of x)
      → Agrees Y (says (Says.Object (kind Y s.heap (m.header_of x)) (field_count Y s.heap (m.header_of x))) s)
      (by_kind b (λ vs. says (Says.Object Traced (length vs)) g) (λ ws. says (Says.Object Untraced (length ws)) g))
  inspect-object s g m x (traced vs) h = (rw (h.0, h.1), m)
  inspect-object s g m x (untraced ws) h = (rw (h.0, h.1), m)

  inspect-word : (s : State) (g : Graph) (m : Represents Y s g) (v : Value) (w : ℕ) → Encodes Y m.kept m.header_of v w
      → Agrees Y (cond (is_odd w) (says (Says.Integer (untag w)) s)
      (cond (is_null w) (says Says.Null s)
      (cond (is_code w) (says (Says.Code w) s)
      (refuse (not (names Y s w)) Why.Object s
      (says (Says.Object (kind Y s.heap (index Y w)) (field_count Y s.heap (index Y w))) s))))) (inspected g v)
  unfolding inspected refuse
  inspect-word s g m (plain (integer v)) w e = rw (e.1, tag-is-odd v e.0, untag-tag v e.0) (refl, m)
  inspect-word s g m (plain null) w e = rw e.1 (refl, m)
  inspect-word s g m (plain (code x)) w e =
      let p = code_parts x e.0 in
      rw (e.1, ne_eqb (x % 2) 1 (λ o. let z = p.0 in omega arith), ne_eqb x 0 (λ n. let z = p.1 in omega arith), e.0) (refl, m)
  inspect-word s g m (object x) w e =
      let i = m.header_of x in
      let hd = m.head x e.0 in
      rw (
        e.1,
        header-not-odd Y s (parts m) i hd,
        header-not-null Y s (parts m) i hd,
        header_no_code Y s (parts m) i hd near,
        header-names Y s (parts m) i hd near,
        index-address Y i,
      )
      (inspect-object s g m x (nth g x) (m.holds x e.0))

  pub inspect_agrees : (r : ℕ) (s : State) (g : Graph) → Represents Y s g
      → Agrees Y (step Y (Ask.Inspect r) s) (graph_step (Ask.Inspect r) g)
  unfolding step Calls.inspect graph_step
  inspect_agrees r s g m =
      roots_agree Y (r ∷ []) s g _ _ m (λ a.
      inspect-word s g m (root_value g r) (root_word s r) (m.roots r (has_root Y s g m r a)))
