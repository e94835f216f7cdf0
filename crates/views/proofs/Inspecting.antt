-- What inspect says of a root, by what the root holds; and what its word is where it holds an integer, a code word or an object.
use Prim.Native.Nat.{ℕ, ◌<◌}
use mathlib.Core.Path.{◌≡◌, refl, sym, ap, ◌∙◌, subst}
use mathlib.Core.Bool.{Bool, true, false, not, cond}
use Rattle.std.specs.Prelude.{Result, Ok, Err}
use lib.Dec.{leb}
use lib.ListN.{length}
use borrow.Author.Tests.{leb-false}
use Rattle.model.specs.declared.Kind.{Kind}
use Rattle.model.specs.declared.Refusal.{Refusal}
use Rattle.model.specs.declared.Refusal.TheVariants as Why
use Rattle.model.specs.declared.Answer.{Answer}
use Rattle.model.specs.declared.Answer.TheVariants as Says
use Rattle.model.specs.Words.{State, at}
use Rattle.model.specs.Values.{is_odd, is_null, is_code, untag}
use Rattle.model.specs.Headers.{Layout}
use Rattle.model.specs.Objects.{index, kind, field_count, names}
use Rattle.model.specs.Shape.{bad_shape}
use Rattle.model.specs.Answers.{Outcome, says, refused, refuse}
use Rattle.model.specs.Changes.{root_word}
use Rattle.model.specs.Calls.{inspect}
use Rattle.theory.proofs.Deciding.{named-address, names_decides}
use Rattle.theory.proofs.Tests.{never}
use Rattle.theory.proofs.WordSorts.{address_no_code}
use Rattle.naming.proofs.NamedObjects.{header-below}
use Rattle.views.specs.declared.contents.Sort.{Sort}
use Rattle.views.specs.declared.contents.Sort.TheVariants.{Null, Integer, Code, Object}
use Rattle.views.specs.Sorts.{sort_of}

-- the six tests in order, whatever each comes to
abbrev sorted : Bool → Bool → Bool → Bool → Bool → Bool → Result Sort Refusal
sorted shape root odd null named code =
    cond shape (Err Why.Shape)
    (cond root (Err Why.Root)
    (cond odd (Ok Integer)
    (cond null (Ok Null)
    (cond named (Ok Object)
    (cond code (Ok Code) (Err Why.Object))))))

-- what a sort says of the tests: there is such a root where its word tells more, and an object is named
abbrev Known : Bool → Bool → Bool → Result Sort Refusal → Type 0
Known shape root named (Ok Null) = Unit {0}
Known shape root named (Ok Integer) = root ≡ false
Known shape root named (Ok Code) = root ≡ false
Known shape root named (Ok Object) = (shape ≡ false) × (root ≡ false) × (named ≡ true)
Known shape root named (Err k) = Unit {0}

known : (shape root odd null named code : Bool) → Known shape root named (sorted shape root odd null named code)
known true _ _ _ _ _ = tt
known false true _ _ _ _ = tt
known false false true _ _ _ = refl
known false false false true _ _ = tt
known false false false false true _ = (refl, refl, refl)
known false false false false false true = refl
known false false false false false false = tt

module _ (Y : Layout) (r : ℕ) (s : State) where
  -- the sort by its tests
  pub sort_tests : {shape root odd null named code : Bool} → bad_shape s ≡ shape → leb (length s.roots) r ≡ root
      → is_odd (root_word s r) ≡ odd → is_null (root_word s r) ≡ null → names Y s (root_word s r) ≡ named
      → is_code (root_word s r) ≡ code
      → sorted shape root odd null named code ≡ sort_of Y r s
  unfolding sort_of
  sort_tests a b c d e f = simp (a, b, c, d, e, f)

  abbrev pub answer_of : Sort → Answer
  answer_of Null = Says.Null
  answer_of Integer = Says.Integer (untag (root_word s r))
  answer_of Code = Says.Code (root_word s r)
  answer_of Object = Says.Object (kind Y s.heap (index Y (root_word s r))) (field_count Y s.heap (index Y (root_word s r)))

  -- what inspect comes to, by the sort
  abbrev pub outcome_of : Result Sort Refusal → Outcome State
  outcome_of (Ok x) = says (answer_of x) s
  outcome_of (Err k) = refused k s

  -- no code word names an object
  named_no_code : names Y s (root_word s r) ≡ true → is_code (root_word s r) ≡ false
  named_no_code n =
      address_no_code (root_word s r) (named-address Y s (root_word s r) ((names_decides Y s (root_word s r)).holds n))

  inspect_by_sort : {x : Result Sort Refusal} → x ≡ sort_of Y r s → outcome_of x ≡ inspect Y r s
  unfolding sort_of inspect refuse
  inspect_by_sort e =
      ap outcome_of e
      ∙ by_tests (bad_shape s) (leb (length s.roots) r) (is_odd (root_word s r)) (is_null (root_word s r)) (names Y s (root_word s r))
      (is_code (root_word s r)) named_no_code
    where
      by_tests : (shape root odd null named code : Bool) → (named ≡ true → code ≡ false)
          → outcome_of (sorted shape root odd null named code)
          ≡ cond shape (refused Why.Shape s)
          (cond root (refused Why.Root s)
          (cond odd (says (answer_of Integer) s)
          (cond null (says Says.Null s)
          (cond code (says (answer_of Code) s)
          (cond (not named) (refused Why.Object s) (says (answer_of Object) s))))))
      by_tests true _ _ _ _ _ n = refl
      by_tests false true _ _ _ _ n = refl
      by_tests false false true _ _ _ n = refl
      by_tests false false false true _ _ n = refl
      by_tests false false false false true true n = never refl (n refl)
      by_tests false false false false true false n = refl
      by_tests false false false false false true n = refl
      by_tests false false false false false false n = refl

  pub answer_by_sort : {x : Result Sort Refusal} → x ≡ sort_of Y r s → (outcome_of x).answer ≡ (inspect Y r s).answer
  answer_by_sort e = ap (λ (o : Outcome State). o.answer) (inspect_by_sort e)

  -- whatever it answers, all is left as it was
  left_of : (x : Result Sort Refusal) → (outcome_of x).left ≡ s
  left_of (Ok x) = refl
  left_of (Err k) = refl

  pub inspect_kept : {a : Result Answer Refusal} → a ≡ (inspect Y r s).answer
      → ◌≡◌ {A = Outcome State} (record { answer = a; left = s }) (inspect Y r s)
  inspect_kept e =
      let left : (inspect Y r s).left ≡ s = ap (λ (o : Outcome State). o.left) (sym (inspect_by_sort refl)) ∙ left_of (sort_of Y r s) in
      ap (λ (a : Result Answer Refusal). record { answer = a; left = s }) e
      ∙ ap (λ (l : State). record { answer = (inspect Y r s).answer; left = l }) (sym left)

  by_sort : {x : Result Sort Refusal} → x ≡ sort_of Y r s
      → Known (bad_shape s) (leb (length s.roots) r) (names Y s (root_word s r)) x
  unfolding sort_of
  by_sort e =
      subst (Known (bad_shape s) (leb (length s.roots) r) (names Y s (root_word s r))) (sym e)
      (known (bad_shape s) (leb (length s.roots) r) (is_odd (root_word s r)) (is_null (root_word s r)) (names Y s (root_word s r))
      (is_code (root_word s r)))

  pub integer_in_roots : Ok Integer ≡ sort_of Y r s → r < length s.roots
  integer_in_roots e = leb-false _ _ (by_sort e)

  pub code_in_roots : Ok Code ≡ sort_of Y r s → r < length s.roots
  code_in_roots e = leb-false _ _ (by_sort e)

  pub object_in_roots : Ok Object ≡ sort_of Y r s → r < length s.roots
  object_in_roots e = leb-false _ _ (by_sort e).1

  -- and an object lies in the heap
  pub object_in_heap : Ok Object ≡ sort_of Y r s → index Y (root_word s r) < length s.heap
  object_in_heap e = let k = by_sort e in header-below Y s (root_word s r) _ refl k.0 k.2

  -- the answer of an object, by its header as the code has it
  pub object-answer : {k : Kind} {n : ℕ} (header : ℕ) → header ≡ at s.heap (index Y (root_word s r))
      → k ≡ Y.kind_of header → n ≡ Y.count_of header → Says.Object k n ≡ answer_of Object
  object-answer header e f g = simp (f, g, e)
