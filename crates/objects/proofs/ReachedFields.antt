-- The calls on one field, by the field that they reach or are refused.
use Prim.Native.Nat.{ℕ, ◌<◌}
use native.Mathlib.Omega.{arith}
use mathlib.Core.Path.{◌≡◌, refl, sym, ap, ◌∙◌}
use Rattle.std.specs.Prelude.{[], ◌∷◌, Result, Ok, Err, ⊤}
use mathlib.Core.Bool.{Bool, true, false, not, cond, ◌||◌, or_self}
use lib.Dec.{leb}
use lib.ListN.{length}
use borrow.Author.Tests.{leb-false, not-false}
use Rattle.model.specs.declared.Index.{Index}
use Rattle.model.specs.declared.Kind.{Kind}
use Rattle.model.specs.declared.Kind.TheVariants.{Traced, Untraced}
use Rattle.model.specs.declared.Refusal.{Refusal}
use Rattle.model.specs.declared.Refusal.TheVariants as Why
use Rattle.model.specs.declared.Answer.TheVariants as Says
use Rattle.model.specs.Words.{State, at}
use Rattle.model.specs.Headers.{Layout}
use Rattle.model.specs.Objects.{index, kind, field_count, field_index, names}
use Rattle.model.specs.Shape.{bad_shape}
use Rattle.model.specs.Answers.{Outcome, says, refused, refuse}
use Rattle.model.specs.Changes.{no_root, root_word, with_root, with_word}
use Rattle.model.specs.Calls.{is_of_kind, on_field, load, store, raw_read, raw_write}
use Rattle.naming.specs.Named.{field_of}
use Rattle.objects.specs.Reached.{reached}
use Rattle.naming.proofs.NamedObjects.{free_in_heap, named-ends}
use Rattle.words.specs.Admits.{admits}
use Rattle.words.proofs.Admitted.{refused_first, admitted_tests}
use Rattle.words.proofs.RootNumbers.{both_below}

-- what a call comes to that does `next` with the index of its field
unfoldable pub answered : Result Index Refusal → State → (ℕ → Outcome State) → Outcome State
answered (Ok i) s next = next i.0
answered (Err k) s next = refused k s

-- the number that is answered or written, and the root that is, as the code has them
pub same_number : {x y : ℕ} (s : State) → x ≡ y → says (Says.Number x) s ≡ says (Says.Number y) s
same_number s e = ap (λ (x : ℕ). says (Says.Number x) s) e

pub same_word : {x y : ℕ} (s : State) (i : ℕ) → x ≡ y → says Says.Done (with_word s i x) ≡ says Says.Done (with_word s i y)
same_word s i e = ap (λ (x : ℕ). says Says.Done (with_word s i x)) e

pub same_target : {r q : ℕ} (s : State) (w : ℕ) → r ≡ q → says Says.Done (with_root s r w) ≡ says Says.Done (with_root s q w)
same_target s w e = ap (λ (r : ℕ). says Says.Done (with_root s r w)) e

pub same_source : {r q : ℕ} (s : State) (i : ℕ) → r ≡ q
    → says Says.Done (with_word s i (root_word s r)) ≡ says Says.Done (with_word s i (root_word s q))
same_source s i e = same_word s i (ap (root_word s) e)

answered_refuse : (b : Bool) (k : Refusal) (x : Result Index Refusal) (s : State) (next : ℕ → Outcome State)
    → answered (cond b (Err k) x) s next ≡ refuse b k s (answered x s next)
unfolding answered refuse
answered_refuse true k x s next = refl
answered_refuse false k x s next = refl

-- a chain that reaches a field passed its first test
passed : (b : Bool) (k : Refusal) (x : Result Index Refusal) (i : Index) → cond b (Err k) x ≡ Ok i → (b ≡ false) × (x ≡ Ok i)
passed true k x i e = absurd (let z : ◌≡◌ {A = ℕ} 0 1 = cc in omega arith)
passed false k x i e = (refl, e)

-- a field that is reached lies in the heap, and both roots that were named are there
pub record Reaches (s : State) (r q : ℕ) (i : Index) : Type 0 where
  pub field : i.0 < length s.heap
  pub object : r < length s.roots
  pub other : q < length s.roots

module _ (Y : Layout) where
  -- x is what SHAPE and ROOT came to
  module _ (k : Kind) (r f q : ℕ) (s : State) {x : Result ⊤ Refusal} (e : x ≡ admits (r ∷ q ∷ []) s) where
    pub unreached : {why : Refusal} → x ≡ Err why → Err why ≡ reached Y k r f q s
    unfolding reached
    unreached h = refused_first (r ∷ q ∷ []) s _ e h

    pub reached_by : {y : Result Index Refusal} {u : ⊤} → x ≡ Ok u → y ≡ field_of Y k (root_word s r) f s → y ≡ reached Y k r f q s
    unfolding reached
    reached_by h g = let t = admitted_tests (r ∷ q ∷ []) s e h in rw (t.0, t.1) g

  on_reached : (k : Kind) (r f q : ℕ) (s : State) (next : ℕ → Outcome State)
      → refuse (bad_shape s) Why.Shape s
      (refuse (no_root s r || no_root s q) Why.Root s
      (on_field Y k (root_word s r) f s (next (field_index (index Y (root_word s r)) f))))
      ≡ answered (reached Y k r f q s) s next
  unfolding answered field_of reached
  on_reached k r f q s next = sym (simp answered_refuse)

  -- a call that names one root only
  on_reached-once : (k : Kind) (r f : ℕ) (s : State) (next : ℕ → Outcome State)
      → refuse (bad_shape s) Why.Shape s
      (refuse (no_root s r) Why.Root s
      (on_field Y k (root_word s r) f s (next (field_index (index Y (root_word s r)) f))))
      ≡ answered (reached Y k r f r s) s next
  on_reached-once k r f s next =
      let onward = on_field Y k (root_word s r) f s (next (field_index (index Y (root_word s r)) f)) in
      ap (λ (b : Bool). refuse (bad_shape s) Why.Shape s (refuse b Why.Root s onward)) (sym (or_self (no_root s r)))
      ∙ on_reached k r f r s next

  pub load-reached : (r f to : ℕ) (s : State)
      → load Y r f to s ≡ answered (reached Y Traced r f to s) s (λ i. says Says.Done (with_root s to (at s.heap i)))
  unfolding load
  load-reached r f to s = on_reached Traced r f to s (λ i. says Says.Done (with_root s to (at s.heap i)))

  pub store-reached : (r f from : ℕ) (s : State)
      → store Y r f from s ≡ answered (reached Y Traced r f from s) s (λ i. says Says.Done (with_word s i (root_word s from)))
  unfolding store
  store-reached r f from s = on_reached Traced r f from s (λ i. says Says.Done (with_word s i (root_word s from)))

  pub raw-read-reached : (r f : ℕ) (s : State)
      → raw_read Y r f s ≡ answered (reached Y Untraced r f r s) s (λ i. says (Says.Number (at s.heap i)) s)
  unfolding raw_read
  raw-read-reached r f s = on_reached-once Untraced r f s (λ i. says (Says.Number (at s.heap i)) s)

  pub raw-write-reached : (r f x : ℕ) (s : State)
      → raw_write Y r f x s ≡ answered (reached Y Untraced r f r s) s (λ i. says Says.Done (with_word s i x))
  unfolding raw_write
  raw-write-reached r f x s = on_reached-once Untraced r f s (λ i. says Says.Done (with_word s i x))

  reaches : (k : Kind) (r f q : ℕ) (s : State) (i : Index) → reached Y k r f q s ≡ Ok i → Reaches s r q i
  unfolding field_of reached
  reaches k r f q s i e =
      let w = root_word s r in
      let shape = passed (bad_shape s) Why.Shape _ i e in
      let roots = passed (no_root s r || no_root s q) Why.Root _ i shape.1 in
      let object = passed (not (names Y s w)) Why.Object _ i roots.1 in
      let kinds = passed (not (is_of_kind k (kind Y s.heap (index Y w)))) Why.Kind _ i object.1 in
      let fields = passed (leb (field_count Y s.heap (index Y w)) f) Why.Field _ i kinds.1 in
      let is : field_index (index Y w) f ≡ i.0 = cc fields.1 in
      let below = both_below (length s.roots) r q roots.0 in
      let free = free_in_heap s shape.0 in
      let ends = named-ends Y s w (not-false _ object.0) in
      let less = leb-false (field_count Y s.heap (index Y w)) f fields.0 in
      record { field = omega arith; object = below.0; other = below.1 }

  -- x is what `reach` answered, of the field number as the code has it
  module _ {x : Result Index Refusal} {f' : ℕ} (k : Kind) (r f q : ℕ) (s : State) (e : x ≡ reached Y k r f' q s) (n : f' ≡ f) where
    answer-is : x ≡ reached Y k r f q s
    answer-is = e ∙ ap (λ (f : ℕ). reached Y k r f q s) n

    pub within : {i : Index} → x ≡ Ok i → Reaches s r q i
    within {i} g = reaches k r f q s i (sym answer-is ∙ g)

    -- a call that goes by it: the field is known, or the refusal
    module _ {o : Outcome State} (next : ℕ → Outcome State) (c : o ≡ answered (reached Y k r f q s) s next) where
      by_answer : {y : Result Index Refusal} → x ≡ y → answered y s next ≡ o
      by_answer g = sym (c ∙ ap (λ (x : Result Index Refusal). answered x s next) (sym answer-is ∙ g))

      pub by_field : {i : Index} → x ≡ Ok i → next i.0 ≡ o
      unfolding answered
      by_field g = by_answer g

      pub by_refusal : {why : Refusal} → x ≡ Err why → refused why s ≡ o
      unfolding answered
      by_refusal g = by_answer g
