-- What the library's calls look at, and where a root's word comes from.
use Prim.Native.Nat.{ℕ, ◌+◌, ◌<◌}
use native.Mathlib.Omega.{arith}
use mathlib.Core.Path.{◌≡◌, refl, sym, ap, subst}
use mathlib.Core.Logic.{⊎_elim}
use mathlib.Core.Bool.{Bool, true, false, not, cond}
use mathlib.Core.List.{List, [], ◌∷◌}
use lib.Dec.{leb}
use lib.ListN.{length, set, take, drop, length-take, length-drop}
use lib.Seq.{get_or-set_same, get_or-set_other, get_or-take, get_or-drop, ext_get_or}
use borrow.Author.Tests.{leb-false}
use Rattle.std.specs.Prelude.{Result, Ok, Err}
use Rattle.model.specs.declared.Kind.{Kind}
use Rattle.model.specs.declared.Kind.TheVariants.{Traced, Untraced}
use Rattle.model.specs.declared.Refusal.{Refusal}
use Rattle.model.specs.declared.Refusal.TheVariants as Why
use Rattle.model.specs.declared.Answer.{Answer}
use Rattle.model.specs.declared.Answer.TheVariants as Says
use Rattle.model.specs.declared.Call.{Call}
use Rattle.model.specs.declared.Call.TheVariants as Ask
use Rattle.model.specs.declared.Place.{Place}
use Rattle.model.specs.Admission.{no_roots, on_roots}
use Rattle.model.specs.Answers.{Outcome, refuse}
use Rattle.model.specs.Calls as Calls
use Rattle.model.specs.Calls.{is_of_kind, on_field}
use Rattle.model.specs.Changes.{root_word, placed, planted}
use Rattle.model.specs.Trees.{Tree, leaf, node, count}
use Rattle.model.specs.Reading.{tree, parsed}
use Rattle.model.specs.Collection.{collected}
use Rattle.model.specs.Headers.{Layout}
use Rattle.model.specs.Looks as L
use Rattle.model.specs.Objects.{address, index, kind, field_count, field_index, names}
use Rattle.model.specs.Sessions.{step, machine}
use Rattle.model.specs.Shape.{bad_shape_of, bad_shape}
use Rattle.model.specs.Soundness.{headers}
use Rattle.model.specs.Values.{is_odd, is_null, is_code, tag}
use Rattle.model.specs.Window.{window, shown}
use Rattle.model.specs.Words.{State, with_heap, at, free}
use Rattle.theory.proofs.Collected.{new_roots}
use Rattle.theory.proofs.Deciding.{sound_tests}
use Rattle.demands.proofs.Demand2.{collects}
use Rattle.demands.proofs.KeepSound.{is-header}
use Rattle.demands.proofs.Laws.{window_law}
use Rattle.theory.proofs.Laying.{laid_lays}
use Rattle.theory.proofs.Leaving.{step_left}
use Rattle.theory.proofs.ReadJudged.{parsed-text}
use Rattle.theory.proofs.Members.{in_mem}
use Rattle.theory.proofs.Soundness.{SoundTests}
use Rattle.theory.proofs.Tests.{same?}

-- outcomes that differ in their heaps at most
but_heap : {a : Result Answer Refusal} {s : State} {H : List ℕ}
    → L.Alike (record { answer = a; left = with_heap H s }) (record { answer = a; left = s })
but_heap = record { answer = refl; roots = refl; «record» = refl; text = refl }

same_alike : {o : Outcome State} → L.Alike o o
same_alike = record { answer = refl; roots = refl; «record» = refl; text = refl }

-- ---- two heaps of one length

module _ (Y : Layout) (s : State) (H : List ℕ) (len : length H ≡ length s.heap) where
  abbrev t : State
  t = with_heap H s

  abbrev Alike : Outcome State → Outcome State → Type 0
  Alike = L.Alike

  same_shape : bad_shape t ≡ bad_shape s
  same_shape = ap (λ n. bad_shape_of n (length s.roots) s.«record») len

  -- a test that comes out alike refuses alike
  refuse_alike : (b b' : Bool) (k : Refusal) (o o' : Outcome State) → b ≡ b' → (b' ≡ false → Alike o o')
      → Alike (refuse b k t o) (refuse b' k s o')
  unfolding refuse
  refuse_alike b true k o o' e f = rw e but_heap
  refuse_alike b false k o o' e f = rw e (f refl)

  roots_alike : (named : List ℕ) (o o' : Outcome State) → Alike o o' → Alike (on_roots named t o) (on_roots named s o')
  roots_alike named o o' a =
      refuse_alike (bad_shape t) (bad_shape s) Why.Shape _ _ same_shape (λ e.
      refuse_alike (no_roots (length s.roots) named) (no_roots (length s.roots) named) Why.Root o o' refl (λ f. a))

  choose_alike : (b : Bool) (x x' y y' : Outcome State) → Alike x x' → Alike y y' → Alike (cond b x y) (cond b x' y')
  choose_alike true x x' y y' a c = a
  choose_alike false x x' y y' a c = c

  -- which agree on the object that root r names
  module _ (r : ℕ) (g : L.AgreeAt Y s H (index Y (root_word s r))) where
    abbrev i : ℕ
    i = index Y (root_word s r)

    same_names : names Y t (root_word s r) ≡ names Y s (root_word s r)
    unfolding names
    same_names = rw (len, g.header, ap (λ w. Y.count_of w + 1) g.header)

    same_kind : kind Y H (index Y (root_word s r)) ≡ kind Y s.heap (index Y (root_word s r))
    same_kind = ap (λ w. Y.kind_of w) g.header

    same_count : field_count Y H (index Y (root_word s r)) ≡ field_count Y s.heap (index Y (root_word s r))
    same_count = ap (λ w. Y.count_of w) g.header

    field_alike : (k : Kind) (f : ℕ) (o o' : Outcome State) → (f < field_count Y s.heap i → Alike o o')
        → Alike (on_field Y k (root_word s r) f t o) (on_field Y k (root_word s r) f s o')
    field_alike k f o o' a =
        refuse_alike _ _ Why.Object _ _ (ap not same_names) (λ e.
        refuse_alike _ _ Why.Kind _ _ (ap (λ z. not (is_of_kind k z)) same_kind) (λ e'.
        refuse_alike _ _ Why.Field o o' (ap (λ n. leb n f) same_count) (λ b. a (leb-false (field_count Y s.heap i) f b))))

    same-window : window Y r t ≡ window Y r s
    unfolding window
    same-window = rw (same_shape, same_names, same_count)

    shown-same : (p : Result Place Refusal) → window Y r s ≡ p → shown H p ≡ shown s.heap p
    shown-same (Err k) e = refl
    shown-same (Ok p) e =
        let j = p.header in
        let n = p.count in
        let w = (window_law Y).shows r s j n e in
        let a = length-take n (drop (j.0 + 1) s.heap) in
        let a' = length-take n (drop (j.0 + 1) H) in
        let b = length-drop (j.0 + 1) s.heap in
        let b' = length-drop (j.0 + 1) H in
        ext_get_or 0 (take n (drop (j.0 + 1) H)) (take n (drop (j.0 + 1) s.heap))
        (omega (arith, len))
        (λ f l.
        let u : f < n = omega arith in
        rw (get_or-take n (drop (j.0 + 1) H) f 0 u, get_or-drop, get_or-take n (drop (j.0 + 1) s.heap) f 0 u, get_or-drop, w.object)
        (g.fields f (omega (arith, w.fields, ap (λ z. field_count Y s.heap z) w.object))))

  sees : (c : Call) → L.Agrees Y s H (L.sight c) → Alike (step Y c t) (step Y c s)
  unfolding step Calls.collect Calls.check Calls.allocate Calls.set_integer Calls.set_null Calls.set_code Calls.copy Calls.load
      Calls.store Calls.raw_read Calls.raw_write Calls.same Calls.inspect Calls.write Calls.read
  sees Ask.Collect g = rw g same_alike
  sees Ask.Check g = rw g same_alike
  sees (Ask.Allocate k n r) g = rw g same_alike
  sees (Ask.SetInteger r v) g =
      roots_alike (r ∷ []) _ _ (refuse_alike _ _ Why.Range _ _ refl (λ e. but_heap))
  sees (Ask.SetNull r) g = roots_alike (r ∷ []) _ _ but_heap
  sees (Ask.SetCode r w) g =
      roots_alike (r ∷ []) _ _ (refuse_alike _ _ Why.Range _ _ refl (λ e. but_heap))
  sees (Ask.Copy from to) g = roots_alike (from ∷ to ∷ []) _ _ but_heap
  sees (Ask.Same r q) g = roots_alike (r ∷ q ∷ []) _ _ but_heap
  sees (Ask.Load r f to) g =
      roots_alike (r ∷ to ∷ []) _ _
      (field_alike r g Traced f _ _ (λ l. record { answer = refl; roots = ap (λ w. set s.roots to w) (g.fields f l); «record» = refl; text = refl }))
  sees (Ask.Store r f from) g =
      roots_alike (r ∷ from ∷ []) _ _ (field_alike r g Traced f _ _ (λ l. but_heap))
  sees (Ask.RawRead r f) g =
      roots_alike (r ∷ []) _ _
      (field_alike r g Untraced f _ _ (λ l. record { answer = ap (λ w. Ok (Says.Number w)) (g.fields f l); roots = refl; «record» = refl; text = refl }))
  sees (Ask.RawWrite r f x) g =
      roots_alike (r ∷ []) _ _ (field_alike r g Untraced f _ _ (λ l. but_heap))
  sees (Ask.Inspect r) g =
      roots_alike (r ∷ []) _ _
      (choose_alike (is_odd (root_word s r)) _ _ _ _ but_heap
      (choose_alike (is_null (root_word s r)) _ _ _ _ but_heap
      (choose_alike (is_code (root_word s r)) _ _ _ _ but_heap
      (refuse_alike _ _ Why.Object _ _ (ap not (same_names r g)) (λ e.
      record { answer = rw (same_kind r g, same_count r g); roots = refl; «record» = refl; text = refl })))))
  sees (Ask.Write r) g = rw g same_alike
  sees (Ask.Read r) g = rw g same_alike

-- ---- where a root's word comes from

module _ (Y : Layout) (s : State) (h : SoundTests Y s) where
  -- the words of some roots, after a call
  abbrev Come : Call → List ℕ → Type 0
  Come c R = (q : ℕ) → q < length s.roots → L.Origin Y s c (at R q)

  old : (c : Call) → Come c s.roots
  old c q l = L.old_root q l

  set_from : {c : Call} (R : List ℕ) (r w : ℕ) → length R ≡ length s.roots → Come c R → L.Origin Y s c w
      → Come c (set R r w)
  set_from {c} R r w e f o q l =
      ⊎_elim
      (λ (z : q ≡ r).
      subst (λ x. L.Origin Y s c (at (set R r w) x)) (sym z)
      (subst (L.Origin Y s c) (sym (get_or-set_same R r w 0 (omega arith))) o))
      (λ (n : q ≡ r → ⊥). subst (L.Origin Y s c) (sym (get_or-set_other R r q w 0 n)) (f q l))
      (same? q r)

  -- a root is set to a word
  set-root : {c : Call} (r w : ℕ) → L.Origin Y s c w → Come c (set s.roots r w)
  set-root {c} r w o = set_from s.roots r w refl (old c) o

  collected_from : (c : Call) → Come c (collected Y s).roots
  collected_from c q l = L.renamed q (root_word (collected Y s) q) l ((collects Y s h).root q l)

  placed_from : (k : Kind) (n r : ℕ) → Come (Ask.Allocate k n r) (placed Y k n r s).roots
  unfolding placed
  placed_from k n r = set-root r (address Y (free s)) L.placed

  placed-then : (k : Kind) (n r : ℕ) → Come (Ask.Allocate k n r) (placed Y k n r (collected Y s)).roots
  unfolding placed
  placed-then k n r =
      set_from (collected Y s).roots r (address Y (free (collected Y s))) (new_roots Y s h) (collected_from _) L.placed_then

  planted_from : (t : Tree) (r : ℕ) → parsed s.text ≡ tree t → Come (Ask.Read r) (planted Y t r s).roots
  unfolding planted placed
  planted_from (leaf v) r e = set-root r (tag v) (L.text r v refl (parsed-text s.text (leaf v) e))
  planted_from (node g) r e =
      subst (Come (Ask.Read r)) (sym (laid_lays Y g (free s + 1) (placed Y Traced (count g) r s)).same_roots)
      (set-root r (address Y (free s)) L.placed)

  planted-then : (t : Tree) (r : ℕ) → parsed s.text ≡ tree t → Come (Ask.Read r) (planted Y t r (collected Y s)).roots
  unfolding planted placed
  planted-then (leaf v) r e =
      set_from (collected Y s).roots r (tag v) (new_roots Y s h) (collected_from _) (L.text r v refl (parsed-text s.text (leaf v) e))
  planted-then (node g) r e =
      subst (Come (Ask.Read r)) (sym (laid_lays Y g (free (collected Y s) + 1) (placed Y Traced (count g) r (collected Y s))).same_roots)
      (set_from (collected Y s).roots r (address Y (free (collected Y s))) (new_roots Y s h) (collected_from _) L.placed_then)

  enters : (c : Call) → Come c (step Y c s).left.roots
  enters = step_left Y s (λ c t. Come c t.roots) old (record {
    words = record {
      integer = λ r v e. set-root r (tag v) (L.integer r v refl e);
      null = λ r. set-root r 0 (L.null r refl);
      code = λ r w e. set-root r w (L.code r w refl e);
      copied = λ from to l. set-root to (root_word s from) (L.old_root from l);
      loaded = λ r f to g.
          set-root to (at s.heap (field_index (index Y (root_word s r)) f))
          (L.field (index Y (root_word s r)) f (in_mem (index Y (root_word s r)) (headers Y s)
          (is-header Y s h Traced r f g)) g.kind-is g.below);
      stored = λ r f from g l. old _;
      raw_written = λ r f x g. old _;
      text_written = λ r bs l. old _;
    };
    placed_now = λ k n r a l e. placed_from k n r;
    collected_now = λ c e. collected_from c;
    placed_then = λ k n r e l f. placed-then k n r;
    planted_now = λ t r a e l. planted_from t r e;
    planted_then = λ t r e q l. planted-then t r q;
  })

pub looks : (Y : Layout) → L.Looks Y (machine Y)
looks Y = record {
  sees = λ c s H len g. sees Y s H len c g;
  opens = λ r s H len g. same-window Y s H len r g;
  shows = λ r s H len g. shown-same Y s H len r g (window Y r s) refl;
  enters = λ c s r h l. enters Y s (sound_tests Y s h) c r l;
}
