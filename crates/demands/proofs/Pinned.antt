-- Two machines that meet demand 1, demand 2 and the sentences of Effects answer every call alike and leave the same.
use Prim.Native.Nat.{ℕ, ◌+◌, ◌-◌, ◌%◌, ◌≤◌, ◌<◌}
use native.Mathlib.Omega.{arith}
use mathlib.Core.Path.{◌≡◌, refl, sym, ap, ◌∙◌, subst}
use mathlib.Core.Logic.{◌⊎◌, inl, inr, ⊎_elim}
use mathlib.Core.Bool.{true, false}
use mathlib.Core.List.{List}
use lib.ListN.{length}
use lib.Seq.{ext_get_or}
use borrow.Author.Tests.{eqb-true, not-false}
use Rattle.std.specs.Prelude.{Result, Ok}
use Rattle.model.specs.declared.Kind.{Kind}
use Rattle.model.specs.declared.Refusal.{Refusal}
use Rattle.model.specs.declared.Refusal.TheVariants as Why
use Rattle.model.specs.declared.Answer.{Answer}
use Rattle.model.specs.declared.Answer.TheVariants as Says
use Rattle.model.specs.declared.Call.{Call}
use Rattle.model.specs.declared.Call.TheVariants as Ask
use Rattle.model.specs.Answers.{Outcome}
use Rattle.model.specs.Changes.{root_word, spare}
use Rattle.model.specs.Collection.{collected}
use Rattle.model.specs.Conditions as C
use Rattle.model.specs.Demand1 as D1
use Rattle.model.specs.Effects as E
use Rattle.model.specs.Headers.{Layout}
use Rattle.model.specs.Objects.{field_index, names}
use Rattle.model.specs.Refusals as Row
use Rattle.model.specs.Sessions.{Machine, step, machine}
use Rattle.model.specs.ReadFaults.{IsText}
use Rattle.model.specs.Trees.{Tree, leaf, node, count, tree_words}
use Rattle.model.specs.Shape.{bad_length}
use Rattle.model.specs.Soundness.{sound}
use Rattle.model.specs.Values.{is_odd, is_null, is_code}
use Rattle.model.specs.Words.{State, at, free}
use Rattle.demands.proofs.CallsPass.{fails_test}
use Rattle.demands.proofs.Conditions.{value_decides}
use Rattle.theory.proofs.Deciding.{length_decides, shape_decides, names_decides, sound_decides}
use Rattle.demands.proofs.Demand1.{demand1}
use Rattle.demands.proofs.Demand2.{demand2}
use Rattle.demands.proofs.Effects.{effects}
use Rattle.demands.proofs.Judged.{Left, unchanged, recollected, Judged, by_row, by_none, step-judged}
use Rattle.theory.proofs.Laying.{Same, laid_same}
use Rattle.demands.proofs.NoChoice.{no_choice}
use Rattle.demands.proofs.Same.{same_record_lem, same-state, same_outcome}
use Rattle.theory.proofs.Shape.{shaped}
use Rattle.theory.proofs.Tests.{by_test, decide, same?}
use Rattle.demands.proofs.TextFaults.{one-text}
use Rattle.demands.proofs.TreeRead.{read-text}
use Rattle.theory.proofs.WordSorts.{code_parts, other-address}

-- ---- each change leaves one state

-- two runs of one length that hold the same at r, and elsewhere
same_at : (xs ys : List ℕ) (r : ℕ) → length xs ≡ length ys → at xs r ≡ at ys r → ((q : ℕ) → (q ≡ r → ⊥) → at xs q ≡ at ys q)
    → xs ≡ ys
same_at xs ys r n e f =
    ext_get_or 0 xs ys n
    (λ q l. ⊎_elim (λ (z : q ≡ r). subst (λ i. at xs i ≡ at ys i) (sym z) e) (λ (d : q ≡ r → ⊥). f q d) (same? q r))

one-root : (s : State) (r w : ℕ) (t t' : State) → E.RootChanged s r w t → E.RootChanged s r w t' → t ≡ t'
one-root s r w t t' c c' =
    same-state t t' (c.same_heap ∙ sym c'.same_heap)
    (same_at t.roots t'.roots r (c.count ∙ sym c'.count) (c.word ∙ sym c'.word) (λ q d. c.others q d ∙ sym (c'.others q d)))
    (c.same_record ∙ sym c'.same_record) (c.same_text ∙ sym c'.same_text)

one_word : (s : State) (i w : ℕ) (t t' : State) → E.WordChanged s i w t → E.WordChanged s i w t' → t ≡ t'
one_word s i w t t' c c' =
    same-state t t'
    (same_at t.heap t'.heap i (c.same_length ∙ sym c'.same_length) (c.word ∙ sym c'.word)
    (λ j d. c.others j d ∙ sym (c'.others j d)))
    (c.same_roots ∙ sym c'.same_roots) (c.same_record ∙ sym c'.same_record) (c.same_text ∙ sym c'.same_text)

cleared-once : (s t t' : State) → E.Cleared s t → E.Cleared s t' → t ≡ t'
cleared-once s t t' c c' =
    same-state t t'
    (ext_get_or 0 t.heap t'.heap (c.same_length ∙ sym c'.same_length) (λ i l. c.zeros i ∙ sym (c'.zeros i)))
    (c.same_roots ∙ sym c'.same_roots)
    (same_record_lem t.«record» t'.«record» (c.half_a ∙ sym c'.half_a) (c.free_is ∙ sym c'.free_is))
    (c.same_text ∙ sym c'.same_text)

one_written : (s : State) (bs : List ℕ) (t t' : State) → E.TextWritten s bs t → E.TextWritten s bs t' → t ≡ t'
one_written s bs t t' c c' =
    same-state t t' (c.same_heap ∙ sym c'.same_heap) (c.same_roots ∙ sym c'.same_roots) (c.same_record ∙ sym c'.same_record)
    (ext_get_or 0 t.text t'.text (c.same_length ∙ sym c'.same_length)
    (λ i l.
    ⊎_elim (λ (a : i < length bs). c.bytes i a ∙ sym (c'.bytes i a)) (λ (a : length bs ≤ i). c.others i a ∙ sym (c'.others i a))
    (decide i (length bs))))

-- of two trees at one place: where they end, the word of each, and the words between
tree-same : (Y : Layout) (H H' : List ℕ) (t : Tree) (w w' b e e' : ℕ) → E.Planted Y H t w b e → E.Planted Y H' t w' b e'
    → (e ≡ e') × (w ≡ w') × Same Y H H' b e
tree-same Y H H' (leaf v) w w' b e e' l m = (l.1 ∙ sym m.1, l.0 ∙ sym m.0, λ j x y. absurd (let z = l.1 in omega arith))
tree-same Y H H' (node g) w w' b e e' l m =
    let q = laid_same Y H H' g (b + 1) (b + (count g + 1)) e e' l.2 m.2 in (
      q.0,
      l.0 ∙ sym m.0,
      λ j x y.
          ⊎_elim
          (λ (u : j < b + (count g + 1)).
          ⊎_elim (λ (a : b < j). q.1 j (omega arith) (omega arith))
          (λ (a : j ≤ b). let z : j ≡ b = omega arith in ap (λ n. at H n) z ∙ l.1 ∙ sym m.1 ∙ sym (ap (λ n. at H' n) z))
          (decide b j))
          (λ (u : b + (count g + 1) ≤ j). q.2 j u y)
          (decide j (b + (count g + 1))),
    )

module _ (Y : Layout) where
  one-tree : (t : Tree) (r : ℕ) (s u u' : State) → E.NewTree Y t r s u → E.NewTree Y t r s u' → u ≡ u'
  one-tree t r s u u' c c' =
      let q = tree-same Y u.heap u'.heap t (root_word u r) (root_word u' r) (free s) (free u) (free u') c.planted c'.planted in
      let e = q.0 in
      same-state u u'
      (ext_get_or 0 u.heap u'.heap (c.same_length ∙ sym c'.same_length) (λ i l.
      ⊎_elim
      (λ (a : i < free s). c.others i (inl a) ∙ sym (c'.others i (inl a)))
      (λ (a : free s ≤ i).
      ⊎_elim (λ (b : i < free u). q.2 i a b)
      (λ (b : free u ≤ i). c.others i (inr b) ∙ sym (c'.others i (inr (omega arith))))
      (decide i (free u)))
      (decide i (free s))))
      (same_at u.roots u'.roots r (c.root_count ∙ sym c'.root_count) q.1 (λ n d. c.other_roots n d ∙ sym (c'.other_roots n d)))
      (same_record_lem u.«record» u'.«record» (c.same_half ∙ sym c'.same_half) e)
      (c.same_text ∙ sym c'.same_text)

  one-object : (k : Kind) (n r : ℕ) (s t t' : State) → E.NewObject Y k n r s t → E.NewObject Y k n r s t' → t ≡ t'
  one-object k n r s t t' c c' =
      same-state t t'
      (ext_get_or 0 t.heap t'.heap (c.same_length ∙ sym c'.same_length) (λ i l. word i))
      (same_at t.roots t'.roots r (c.root_count ∙ sym c'.root_count) (c.root ∙ sym c'.root)
      (λ q d. c.other_roots q d ∙ sym (c'.other_roots q d)))
      (same_record_lem t.«record» t'.«record» (c.same_half ∙ sym c'.same_half) (c.free_is ∙ sym c'.free_is))
      (c.same_text ∙ sym c'.same_text)
    where
      outside : (i : ℕ) → (i < free s) ⊎ (free s + (n + 1) ≤ i) → at t.heap i ≡ at t'.heap i
      outside i o = c.others i o ∙ sym (c'.others i o)

      field : (f : ℕ) → f < n → at t.heap (field_index (free s) f) ≡ at t'.heap (field_index (free s) f)
      field f l = c.zeros f l ∙ sym (c'.zeros f l)

      word : (i : ℕ) → at t.heap i ≡ at t'.heap i
      word i =
          ⊎_elim
          (λ (a : i < free s). outside i (inl a))
          (λ (a : free s ≤ i).
          ⊎_elim
          (λ (b : i < free s + (n + 1)).
          ⊎_elim
          (λ (e : i ≡ free s). subst (λ z. at t.heap z ≡ at t'.heap z) (sym e) (c.header ∙ sym c'.header))
          (λ (d : i ≡ free s → ⊥).
          let e : field_index (free s) (i - free s - 1) ≡ i = omega arith in
          subst (λ z. at t.heap z ≡ at t'.heap z) e (field (i - free s - 1) (omega arith)))
          (same? i (free s)))
          (λ (b : free s + (n + 1) ≤ i). outside i (inr b))
          (decide i (free s + (n + 1))))
          (decide i (free s))

  -- ---- two machines

  module _ (M N : Machine) (m : E.Meets Y M) (n : E.Meets Y N) where
    -- "done" with one change
    both_done : (o o' : Outcome State) (P : State → Type 0) → ((t t' : State) → P t → P t' → t ≡ t') → E.Done o P
        → E.Done o' P → o ≡ o'
    both_done o o' P one d d' = same_outcome o o' (d.0 ∙ sym d'.0) (one o.left o'.left d.1 d'.1)

    -- the same answer, and everything as it was
    both_say : (o o' : Outcome State) (s : State) (a : Result Answer Refusal) → o.answer ≡ a → o'.answer ≡ a → o.left ≡ s
        → o'.left ≡ s → o ≡ o'
    both_say o o' s a e e' l l' = same_outcome o o' (e ∙ sym e') (l ∙ sym l')

    -- refused alike
    both_refuse : (c : Call) (s : State) (k : Refusal) → D1.First (Row.rows Y c s) k → Left Y s k (step Y c s).left
        → M.step c s ≡ N.step c s
    both_refuse c s k f (unchanged d l) =
        let a = ((m.one.session c s).exactly k).1 f in
        let b = ((n.one.session c s).exactly k).1 f in
        same_outcome (M.step c s) (N.step c s) (a ∙ sym b) (m.one.keeps c s k a d ∙ sym (n.one.keeps c s k b d))
    both_refuse c s k f (recollected e l) =
        let f' = subst (D1.First (Row.rows Y c s)) e f in
        let a = ((m.one.session c s).exactly Why.Room).1 f' in
        let b = ((n.one.session c s).exactly Why.Room).1 f' in
        same_outcome (M.step c s) (N.step c s) (a ∙ sym b) (m.one.collects c s a ∙ sym (n.one.collects c s b))

    inspect-same : (r : ℕ) (s : State) → E.Passes Y (Ask.Inspect r) s
        → M.step (Ask.Inspect r) s ≡ N.step (Ask.Inspect r) s
    inspect-same r s p =
        let x = m.effects in
        let y = n.effects in
        let w = root_word s r in
        let o = M.step (Ask.Inspect r) s in
        let o' = N.step (Ask.Inspect r) s in
        let say : (a : Result Answer Refusal) → o.answer ≡ a → o'.answer ≡ a → o ≡ o' =
        λ a e e'. both_say o o' s a e e' (x.inspect_leaves r s p) (y.inspect_leaves r s p) in
        ⊎_elim
        (λ (a : is_odd w ≡ true).
        let e = eqb-true (w % 2) 1 a in
        say _ (x.inspect_integer r s p e) (y.inspect_integer r s p e))
        (λ (a : is_odd w ≡ false).
        ⊎_elim
        (λ (b : is_null w ≡ true).
        let e = eqb-true w 0 b in
        say _ (x.inspect_null r s p e) (y.inspect_null r s p e))
        (λ (b : is_null w ≡ false).
        ⊎_elim
        (λ (d : is_code w ≡ true).
        let e = code_parts w d in
        say _ (x.inspect_code r s p e.0 e.1) (y.inspect_code r s p e.0 e.1))
        (λ (d : is_code w ≡ false).
        let t = not-false (names Y s w) (fails_test (value_decides Y s r (other-address w a b d)) p.1.1.0) in
        let e = (names_decides Y s w).holds t in
        say _ (x.inspect_object r s p e) (y.inspect_object r s p e))
        (by_test (is_code w)))
        (by_test (is_null w)))
        (by_test (is_odd w))

    write_same : (r : ℕ) (s : State) → E.Passes Y (Ask.Write r) s → M.step (Ask.Write r) s ≡ N.step (Ask.Write r) s
    write_same r s p =
        let x = m.effects.write r s p in
        let y = n.effects.write r s p in
        let h = shaped s (fails_test (shape_decides s) p.0) in
        let e : x.0 ≡ y.0 = one-text Y s h x.1 y.1 in
        same_outcome (M.step (Ask.Write r) s) (N.step (Ask.Write r) s)
        (x.2 ∙ ap (λ bs. Ok (Says.Written (length bs))) e ∙ sym y.2)
        (one_written s y.0 _ _ (subst (λ bs. E.TextWritten s bs (M.step (Ask.Write r) s).left) e x.3) y.3)

    read_same : (r : ℕ) (s : State) (t : Tree) → E.Passes Y (Ask.Read r) s → IsText s.text t
        → M.step (Ask.Read r) s ≡ N.step (Ask.Read r) s
    read_same r s t p i =
        ⊎_elim
        (λ (c : spare s < tree_words t).
        both_done _ _ (E.NewTree Y t r (collected Y s)) (one-tree t r (collected Y s))
        (m.effects.read_then r s t p i c) (n.effects.read_then r s t p i c))
        (λ (c : tree_words t ≤ spare s).
        both_done _ _ (E.NewTree Y t r s) (one-tree t r s) (m.effects.read_now r s t p i c) (n.effects.read_now r s t p i c))
        (decide (spare s) (tree_words t))

    collect-same : (s : State) → E.Passes Y Ask.Collect s → M.step Ask.Collect s ≡ N.step Ask.Collect s
    collect-same s p =
        let ok : C.Sound Y s =
        ⊎_elim (λ (e : sound Y s ≡ true). (sound_decides Y s).holds e)
        (λ (e : sound Y s ≡ false). absurd (p.1.1.0 ((sound_decides Y s).fails e))) (by_test (sound Y s)) in
        let a = m.two s ok in
        let b = n.two s ok in
        let z = no_choice Y s _ _ a.counts b.counts a.leaves b.leaves in
        same_outcome (M.step Ask.Collect s) (N.step Ask.Collect s)
        (a.answers ∙ ap (λ n. Ok (Says.Live n)) z.1 ∙ sym b.answers) z.0

    passed-same : (c : Call) (s : State) → E.Passes Y c s → M.step c s ≡ N.step c s
    passed-same Ask.Collect s p = collect-same s p
    passed-same Ask.Check s p =
        let x = m.effects in
        let y = n.effects in
        ⊎_elim
        (λ (e : sound Y s ≡ true).
        let h = (sound_decides Y s).holds e in
        both_say _ _ s (Ok Says.Sound) ((x.check_sound s p).1 h) ((y.check_sound s p).1 h) (x.check_leaves s p)
        (y.check_leaves s p))
        (λ (e : sound Y s ≡ false).
        let h = (sound_decides Y s).fails e in
        both_say _ _ s (Ok Says.Unsound) ((x.check_unsound s p).1 h) ((y.check_unsound s p).1 h) (x.check_leaves s p)
        (y.check_leaves s p))
        (by_test (sound Y s))
    passed-same (Ask.Write r) s p = write_same r s p
    passed-same (Ask.Read r) s p = let q = read-text Y r s p in read_same r s q.0 p q.1
    passed-same (Ask.Allocate k f r) s p =
        ⊎_elim
        (λ (c : spare s < f + 1).
        both_done _ _ (E.NewObject Y k f r (collected Y s)) (one-object k f r (collected Y s))
        (m.effects.allocate_then k f r s p c)
        (n.effects.allocate_then k f r s p c))
        (λ (c : f + 1 ≤ spare s).
        both_done _ _ (E.NewObject Y k f r s) (one-object k f r s) (m.effects.allocate_now k f r s p c)
        (n.effects.allocate_now k f r s p c))
        (decide (spare s) (f + 1))
    passed-same (Ask.SetInteger r v) s p =
        both_done _ _ _ (one-root s r _) (m.effects.set_integer r v s p) (n.effects.set_integer r v s p)
    passed-same (Ask.SetNull r) s p =
        both_done _ _ _ (one-root s r _) (m.effects.set_null r s p) (n.effects.set_null r s p)
    passed-same (Ask.SetCode r w) s p =
        both_done _ _ _ (one-root s r _) (m.effects.set_code r w s p) (n.effects.set_code r w s p)
    passed-same (Ask.Copy from to) s p =
        both_done _ _ _ (one-root s to _) (m.effects.copy from to s p) (n.effects.copy from to s p)
    passed-same (Ask.Load r f to) s p =
        both_done _ _ _ (one-root s to _) (m.effects.load r f to s p) (n.effects.load r f to s p)
    passed-same (Ask.Store r f from) s p =
        both_done _ _ _ (one_word s _ _) (m.effects.store r f from s p) (n.effects.store r f from s p)
    passed-same (Ask.RawRead r f) s p =
        both_say _ _ s _ (m.effects.raw_read r f s p) (n.effects.raw_read r f s p) (m.effects.raw_read_leaves r f s p)
        (n.effects.raw_read_leaves r f s p)
    passed-same (Ask.RawWrite r f w) s p =
        both_done _ _ _ (one_word s _ _) (m.effects.raw_write r f w s p) (n.effects.raw_write r f w s p)
    passed-same (Ask.Same r q) s p =
        let x = m.effects in
        let y = n.effects in
        ⊎_elim
        (λ (e : root_word s r ≡ root_word s q).
        both_say _ _ s (Ok Says.Yes) ((x.same_yes r q s p).1 e) ((y.same_yes r q s p).1 e) (x.same_leaves r q s p)
        (y.same_leaves r q s p))
        (λ (e : root_word s r ≡ root_word s q → ⊥).
        both_say _ _ s (Ok Says.No) ((x.same_no r q s p).1 e) ((y.same_no r q s p).1 e) (x.same_leaves r q s p)
        (y.same_leaves r q s p))
        (same? (root_word s r) (root_word s q))
    passed-same (Ask.Inspect r) s p = inspect-same r s p

    step_same : (c : Call) (s : State) → M.step c s ≡ N.step c s
    step_same c s = go (step Y c s) refl (step-judged Y s c)
      where
        go : (o : Outcome State) → step Y c s ≡ o → Judged Y s (Row.rows Y c s) o → M.step c s ≡ N.step c s
        go o e (by_row k f a l) = both_refuse c s k f (subst (λ z. Left Y s k z.left) (sym e) l)
        go o e (by_none p q) = passed-same c s p

    fresh-same : (s : State) → M.fresh s ≡ N.fresh s
    fresh-same s =
        ⊎_elim
        (λ (e : bad_length (length s.heap) ≡ true).
        let f : D1.First (Row.fresh_rows s) Why.Shape = inl ((length_decides s).holds e, refl) in
        let a = ((m.one.fresh s).exactly Why.Shape).1 f in
        let b = ((n.one.fresh s).exactly Why.Shape).1 f in
        same_outcome (M.fresh s) (N.fresh s) (a ∙ sym b)
        (m.one.fresh_keeps s Why.Shape a ∙ sym (n.one.fresh_keeps s Why.Shape b)))
        (λ (e : bad_length (length s.heap) ≡ false).
        let d = (length_decides s).fails e in
        both_done _ _ (E.Cleared s) (cleared-once s) (m.effects.fresh s d) (n.effects.fresh s d))
        (by_test (bad_length (length s.heap)))

  pub pinned : E.Pinned Y
  pinned M N m n = record { step = step_same M N m n; fresh = fresh-same M N m n }

  -- the library's machine is one of them
  pub meets : E.Meets Y (machine Y)
  meets = record { one = demand1 Y; two = demand2 Y; effects = effects Y }
