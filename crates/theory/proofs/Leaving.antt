-- What a session call leaves: a property that a state has, and that each change which a call can make
-- keeps, holds of what any call leaves. The property may be another for each call. One walk through the calls for
-- every such property.
use Prim.Native.Nat.{ℕ, ◌+◌, ◌≤◌, ◌<◌}
use mathlib.Core.Path.{◌≡◌, refl}
use mathlib.Core.Bool.{Bool, true, false, not}
use mathlib.Core.List.{List, [], ◌∷◌}
use lib.Dec.{leb}
use lib.IntN.{ℤ}
use lib.ListN.{length}
use borrow.Author.Tests.{ltb-false, leb-true, leb-false, not-false}
use Rattle.model.specs.declared.Kind.{Kind}
use Rattle.model.specs.declared.Kind.TheVariants.{Traced, Untraced}
use Rattle.model.specs.declared.Refusal.{Refusal}
use Rattle.model.specs.declared.Call.{Call}
use Rattle.model.specs.declared.Refusal.TheVariants as Why
use Rattle.model.specs.declared.Call.TheVariants as Ask
use Rattle.model.specs.Answers.{Outcome, refuse}
use Rattle.model.specs.Calls as Calls
use Rattle.model.specs.Calls.{is_of_kind, on_field}
use Rattle.model.specs.Admission.{no_roots, on_roots}
use Rattle.model.specs.Changes.{no_root, root_word, with_root, with_word, spare, fits, placed, planted}
use Rattle.model.specs.Trees.{Tree, tree_words}
use Rattle.model.specs.Reading as Reading
use Rattle.model.specs.Reading.{Parsed, tree, parsed}
use Rattle.model.specs.Collection.{collected}
use Rattle.model.specs.Headers.{Layout}
use Rattle.model.specs.Laws.{changes_record, RecordStays}
use Rattle.model.specs.Limits.{max_fields}
use Rattle.model.specs.Objects.{field_index, index, kind, field_count, names}
use Rattle.model.specs.Sessions.{step, machine}
use Rattle.model.specs.Shape.{bad_shape}
use Rattle.model.specs.Soundness.{sound}
use Rattle.model.specs.Values.{is_odd, is_null, is_code, in_range, tag}
use Rattle.model.specs.Words.{State, with_text, at}
use Rattle.model.specs.Texts.{Piece, Spelled, whole, broken, spelled, over, writes}
use Rattle.theory.proofs.Texts.{whole-fits}
use Rattle.theory.proofs.Objects.{kind-same}
use Rattle.theory.proofs.Tests.{cond-holds, or-none, never}

-- root r is there and names an object of kind k that has a field f
pub record HasField (Y : Layout) (s : State) (k : Kind) (r f : ℕ) : Type 0 where
  pub root : r < length s.roots
  pub named : names Y s (root_word s r) ≡ true
  pub kind-is : kind Y s.heap (index Y (root_word s r)) ≡ k
  pub below : f < field_count Y s.heap (index Y (root_word s r))

-- the changes that leave the record, each with its call and what that has tested before
pub record Written (Y : Layout) (s : State) (P : Call → State → Type 0) : Type 0 where
  pub integer : (r : ℕ) (v : ℤ) → in_range v ≡ true → P (Ask.SetInteger r v) (with_root s r (tag v))
  pub null : (r : ℕ) → P (Ask.SetNull r) (with_root s r 0)
  pub code : (r w : ℕ) → is_code w ≡ true → P (Ask.SetCode r w) (with_root s r w)
  pub copied : (from to : ℕ) → from < length s.roots → P (Ask.Copy from to) (with_root s to (root_word s from))
  pub loaded : (r f to : ℕ) → HasField Y s Traced r f
      → P (Ask.Load r f to) (with_root s to (at s.heap (field_index (index Y (root_word s r)) f)))
  pub stored : (r f from : ℕ) → HasField Y s Traced r f → from < length s.roots
      → P (Ask.Store r f from) (with_word s (field_index (index Y (root_word s r)) f) (root_word s from))
  pub raw_written : (r f x : ℕ) → HasField Y s Untraced r f
      → P (Ask.RawWrite r f x) (with_word s (field_index (index Y (root_word s r)) f) x)
  pub text_written : (r : ℕ) (bs : List ℕ) → length bs ≤ length s.text → P (Ask.Write r) (with_text (over bs s.text) s)

-- and those that do not
pub record Kept (Y : Layout) (s : State) (P : Call → State → Type 0) : Type 0 where
  pub words : Written Y s P
  pub placed_now : (k : Kind) (n r : ℕ) → bad_shape s ≡ false → n ≤ max_fields → fits (n + 1) s ≡ true
      → P (Ask.Allocate k n r) (placed Y k n r s)
  pub collected_now : (c : Call) → sound Y s ≡ true → P c (collected Y s)
  pub placed_then : (k : Kind) (n r : ℕ) → sound Y s ≡ true → n ≤ max_fields → fits (n + 1) (collected Y s) ≡ true
      → P (Ask.Allocate k n r) (placed Y k n r (collected Y s))
  pub planted_now : (t : Tree) (r : ℕ) → bad_shape s ≡ false → parsed s.text ≡ tree t → tree_words t ≤ spare s
      → P (Ask.Read r) (planted Y t r s)
  pub planted_then : (t : Tree) (r : ℕ) → sound Y s ≡ true → parsed s.text ≡ tree t → tree_words t ≤ spare (collected Y s)
      → P (Ask.Read r) (planted Y t r (collected Y s))

data Leaves (P : State → Type 0) : Outcome State → Type 0 where
  leaves : {o : Outcome State} → P o.left → Leaves P o

what_left : {P : State → Type 0} (o : Outcome State) → Leaves P o → P o.left
what_left o (leaves p) = p

refuse_leaves : (P : State → Type 0) (b : Bool) (k : Refusal) (s : State) (o : Outcome State) → P s
    → (b ≡ false → Leaves P o)
    → Leaves P (refuse b k s o)
unfolding refuse
refuse_leaves P b k s o p f = cond-holds (Leaves P) b _ o (λ e. leaves p) f

legal_root : (s : State) (r : ℕ) → no_root s r ≡ false → r < length s.roots
legal_root s r e = leb-false (length s.roots) r e

-- of a state that has the property: a call that refuses leaves it
module _ (Y : Layout) (s : State) (P : State → Type 0) (p : P s) where
  -- a test that refuses and changes nothing
  after : (b : Bool) (k : Refusal) (o : Outcome State) → (b ≡ false → Leaves P o) → Leaves P (refuse b k s o)
  after b k o f = refuse_leaves P b k s o p f

  on_roots_lem : (named : List ℕ) (o : Outcome State)
      → (bad_shape s ≡ false → no_roots (length s.roots) named ≡ false → Leaves P o)
      → Leaves P (on_roots named s o)
  on_roots_lem named o f =
      after (bad_shape s) Why.Shape _ (λ a. after (no_roots (length s.roots) named) Why.Root o (λ b. f a b))

  on_field_lem : (k : Kind) (r f : ℕ) (o : Outcome State) → r < length s.roots → (HasField Y s k r f → Leaves P o)
      → Leaves P (on_field Y k (root_word s r) f s o)
  on_field_lem k r f o l g =
      let i = index Y (root_word s r) in
      after (not (names Y s (root_word s r))) Why.Object _ (λ a.
      after (not (is_of_kind k (kind Y s.heap i))) Why.Kind _ (λ b.
      after (leb (field_count Y s.heap i) f) Why.Field o (λ c.
      g (record {
        root = l;
        named = not-false (names Y s (root_word s r)) a;
        kind-is = kind-same k (kind Y s.heap i) (not-false (is_of_kind k (kind Y s.heap i)) b);
        below = leb-false (field_count Y s.heap i) f c;
      }))))

  inspect-leaves : (r : ℕ) → Leaves P (Calls.inspect Y r s)
  unfolding Calls.inspect
  inspect-leaves r =
      on_roots_lem (r ∷ []) _ (λ a b.
      cond-holds (Leaves P) (is_odd (root_word s r)) _ _ (λ c. leaves p) (λ c.
      cond-holds (Leaves P) (is_null (root_word s r)) _ _ (λ d. leaves p) (λ d.
      cond-holds (Leaves P) (is_code (root_word s r)) _ _ (λ e. leaves p) (λ e.
      after _ Why.Object _ (λ f. leaves p)))))

  -- a text is written, or nothing is
  writes-leaves : ((bs : List ℕ) → length bs ≤ length s.text → P (with_text (over bs s.text) s))
      → (ps : List Piece) (x : Spelled) → spelled (length s.text) ps ≡ x
      → Leaves P (writes (λ t. with_text t s) s s.text x)
  writes-leaves f ps (whole bs) e = leaves (f bs (whole-fits (length s.text) ps bs e))
  writes-leaves f ps (broken k) e = leaves p

-- what may depend on the call as well
module _ (Y : Layout) (s : State) (P : Call → State → Type 0) (p : (c : Call) → P c s) where
  written-leaves : Written Y s P → (c : Call) → changes_record c ≡ false → Leaves (P c) (step Y c s)
  unfolding step Calls.check Calls.set_integer Calls.set_null Calls.set_code Calls.copy Calls.load Calls.store Calls.raw_read
      Calls.raw_write Calls.same Calls.write
  written-leaves h Ask.Collect e = never refl e
  written-leaves h (Ask.Allocate k n r) e = never refl e
  written-leaves h (Ask.Read r) e = never refl e
  written-leaves h Ask.Check e = on_roots_lem Y s _ (p _) [] _ (λ a b. leaves (p Ask.Check))
  written-leaves h (Ask.SetInteger r v) e =
      on_roots_lem Y s _ (p _) (r ∷ []) _ (λ a b.
      after Y s _ (p _) _ Why.Range _ (λ c. leaves (h.integer r v (not-false (in_range v) c))))
  written-leaves h (Ask.SetNull r) e = on_roots_lem Y s _ (p _) (r ∷ []) _ (λ a b. leaves (h.null r))
  written-leaves h (Ask.SetCode r w) e =
      on_roots_lem Y s _ (p _) (r ∷ []) _ (λ a b.
      after Y s _ (p _) _ Why.Range _ (λ c. leaves (h.code r w (not-false (is_code w) c))))
  written-leaves h (Ask.Copy from to) e =
      on_roots_lem Y s _ (p _) (from ∷ to ∷ []) _
      (λ a b. leaves (h.copied from to (legal_root s from (or-none (no_root s from) (no_root s to) b).0)))
  written-leaves h (Ask.Load r f to) e =
      on_roots_lem Y s _ (p _) (r ∷ to ∷ []) _ (λ a b.
      on_field_lem Y s _ (p _) Traced r f _ (legal_root s r (or-none (no_root s r) (no_root s to) b).0) (λ g. leaves (h.loaded r f to g)))
  written-leaves h (Ask.Store r f from) e =
      on_roots_lem Y s _ (p _) (r ∷ from ∷ []) _ (λ a b.
      let c = or-none (no_root s r) (no_root s from) b in
      on_field_lem Y s _ (p _) Traced r f _ (legal_root s r c.0) (λ g. leaves (h.stored r f from g (legal_root s from c.1))))
  written-leaves h (Ask.RawRead r f) e =
      on_roots_lem Y s _ (p _) (r ∷ []) _ (λ a b.
      on_field_lem Y s _ (p _) Untraced r f _ (legal_root s r b) (λ g. leaves (p (Ask.RawRead r f))))
  written-leaves h (Ask.RawWrite r f x) e =
      on_roots_lem Y s _ (p _) (r ∷ []) _ (λ a b.
      on_field_lem Y s _ (p _) Untraced r f _ (legal_root s r b) (λ g. leaves (h.raw_written r f x g)))
  written-leaves h (Ask.Same r q) e = on_roots_lem Y s _ (p _) (r ∷ q ∷ []) _ (λ a b. leaves (p (Ask.Same r q)))
  written-leaves h (Ask.Inspect r) e = inspect-leaves Y s _ (p _) r
  written-leaves h (Ask.Write r) e = on_roots_lem Y s _ (p _) (r ∷ []) _ (λ a b. writes-leaves Y s _ (p _) (h.text_written r) _ _ refl)

  collect-leaves : Kept Y s P → Leaves (P Ask.Collect) (Calls.collect Y s)
  unfolding Calls.collect
  collect-leaves h =
      on_roots_lem Y s _ (p _) [] _ (λ a b.
      after Y s _ (p _) _ Why.Damaged _ (λ c. leaves (h.collected_now Ask.Collect (not-false (sound Y s) c))))

  allocate-leaves : Kept Y s P → (k : Kind) (n r : ℕ) → Leaves (P (Ask.Allocate k n r)) (Calls.allocate Y k n r s)
  unfolding Calls.allocate
  allocate-leaves h k n r =
      on_roots_lem Y s _ (p _) (r ∷ []) _ (λ a b. after Y s _ (p _) _ Why.Count _ (λ c.
      let small : n ≤ max_fields = ltb-false max_fields n c in
      cond-holds (Leaves (P (Ask.Allocate k n r))) (fits (n + 1) s) _ _
      (λ d. leaves (h.placed_now k n r a small d))
      (λ d. after Y s _ (p _) _ Why.Damaged _ (λ e.
      let good = not-false (sound Y s) e in
      refuse_leaves (P (Ask.Allocate k n r)) _ Why.Room (collected Y s) _ (h.collected_now (Ask.Allocate k n r) good) (λ f.
      leaves (h.placed_then k n r good small (not-false (fits (n + 1) (collected Y s)) f)))))))

  reads-leaves : Kept Y s P → (r : ℕ) (x : Parsed) → parsed s.text ≡ x → bad_shape s ≡ false → Leaves (P (Ask.Read r)) (Calls.reads Y r s x)
  reads-leaves h r (Reading.broken k) e a = leaves (p (Ask.Read r))
  reads-leaves h r (tree t) e a =
      cond-holds (Leaves (P (Ask.Read r))) (leb (tree_words t) (spare s)) _ _
      (λ d. leaves (h.planted_now t r a e (leb-true (tree_words t) (spare s) d)))
      (λ d. after Y s _ (p _) _ Why.Damaged _ (λ f.
      let good = not-false (sound Y s) f in
      refuse_leaves (P (Ask.Read r)) _ Why.Room (collected Y s) _ (h.collected_now (Ask.Read r) good) (λ u.
      leaves (h.planted_then t r good e
      (leb-true (tree_words t) (spare (collected Y s)) (not-false (leb (tree_words t) (spare (collected Y s))) u))))))

  read-leaves : Kept Y s P → (r : ℕ) → Leaves (P (Ask.Read r)) (Calls.read Y r s)
  unfolding Calls.read
  read-leaves h r = on_roots_lem Y s _ (p _) (r ∷ []) _ (λ a b. reads-leaves h r (parsed s.text) refl a)

  step-leaves : Kept Y s P → (c : Call) → Leaves (P c) (step Y c s)
  unfolding step
  step-leaves h Ask.Collect = collect-leaves h
  step-leaves h (Ask.Allocate k n r) = allocate-leaves h k n r
  step-leaves h (Ask.Read r) = read-leaves h r
  step-leaves h Ask.Check = written-leaves h.words Ask.Check refl
  step-leaves h (Ask.SetInteger r v) = written-leaves h.words (Ask.SetInteger r v) refl
  step-leaves h (Ask.SetNull r) = written-leaves h.words (Ask.SetNull r) refl
  step-leaves h (Ask.SetCode r w) = written-leaves h.words (Ask.SetCode r w) refl
  step-leaves h (Ask.Copy p q) = written-leaves h.words (Ask.Copy p q) refl
  step-leaves h (Ask.Load r f q) = written-leaves h.words (Ask.Load r f q) refl
  step-leaves h (Ask.Store r f q) = written-leaves h.words (Ask.Store r f q) refl
  step-leaves h (Ask.RawRead r f) = written-leaves h.words (Ask.RawRead r f) refl
  step-leaves h (Ask.RawWrite r f x) = written-leaves h.words (Ask.RawWrite r f x) refl
  step-leaves h (Ask.Same p q) = written-leaves h.words (Ask.Same p q) refl
  step-leaves h (Ask.Inspect r) = written-leaves h.words (Ask.Inspect r) refl
  step-leaves h (Ask.Write r) = written-leaves h.words (Ask.Write r) refl

  pub step_left : Kept Y s P → (c : Call) → P c (step Y c s).left
  step_left h c = what_left (step Y c s) (step-leaves h c)

-- ---- what some calls leave alone

pub record_stays : (Y : Layout) → RecordStays (machine Y)
record_stays Y c s e =
    what_left (step Y c s)
    (written-leaves Y s (λ c t. t.«record» ≡ s.«record») (λ c. refl)
    (record {
      integer = λ r v l. refl;
      null = λ r. refl;
      code = λ r w c. refl;
      copied = λ from to l. refl;
      loaded = λ r f to g. refl;
      stored = λ r f from g l. refl;
      raw_written = λ r f x g. refl;
      text_written = λ r bs l. refl;
    }) c e)

pub inspect-stays : (Y : Layout) (r : ℕ) (s : State) → (Calls.inspect Y r s).left ≡ s
inspect-stays Y r s = what_left (Calls.inspect Y r s) (inspect-leaves Y s (λ t. t ≡ s) refl r)
