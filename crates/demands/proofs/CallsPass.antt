-- What each call comes to where nothing refuses it.
use Prim.Native.Nat.{ℕ, ◌+◌, ◌≤◌, ◌<◌}
use native.Mathlib.Omega.{arith}
use mathlib.Core.Path.{◌≡◌, refl, sym, ap, ◌∙◌, subst}
use mathlib.Core.Logic.{⊎_elim}
use mathlib.Core.Bool.{Bool, true, false, cond}
use mathlib.Core.List.{List, [], ◌∷◌, Memᴰ}
use lib.Dec.{eqb}
use lib.IntN.{ℤ}
use lib.ListN.{length}
use borrow.Author.Tests.{leb-false, le-leb, lt-leb, not-false}
use Rattle.std.specs.Prelude.{Result, Ok}
use Rattle.model.specs.declared.Kind.{Kind}
use Rattle.model.specs.declared.Kind.TheVariants.{Traced, Untraced}
use Rattle.model.specs.declared.Answer.{Answer}
use Rattle.model.specs.declared.Answer.TheVariants as Says
use Rattle.model.specs.declared.Call.TheVariants as Ask
use Rattle.model.specs.declared.Refusal.{Refusal}
use Rattle.model.specs.Admission.{on_roots}
use Rattle.model.specs.Answers.{Outcome, says, refuse}
use Rattle.model.specs.Calls as Calls
use Rattle.model.specs.Calls.{on_field}
use Rattle.model.specs.Changes.{root_word, with_root, with_word, spare, placed}
use Rattle.model.specs.Collection.{collected}
use Rattle.model.specs.Conditions as C
use Rattle.model.specs.Conditions.{Decides}
use Rattle.model.specs.Demand1 as D1
use Rattle.model.specs.Effects as E
use Rattle.model.specs.Headers.{Layout}
use Rattle.model.specs.Objects.{index, kind, field_count, names}
use Rattle.model.specs.Refusals as Row
use Rattle.model.specs.Sessions.{step}
use Rattle.model.specs.Soundness.{sound}
use Rattle.model.specs.Values.{is_odd, is_null, is_code, tag, untag}
use Rattle.model.specs.Words.{State, at}
use Rattle.demands.proofs.Changed.{root_changed, word_changed, new_object}
use Rattle.theory.proofs.Collected.{new_roots}
use Rattle.theory.proofs.CollectedSound.{new_shape}
use Rattle.demands.proofs.Conditions.{roots_decide, count_decides, range_decides, code_decides, object_decides, value_decides}
use Rattle.demands.proofs.Conditions.{kind_decides, field_decides}
use Rattle.theory.proofs.Deciding.{shape_decides, names_decides, sound_decides}
use Rattle.theory.proofs.Shape.{Shaped, shaped, first_in}
use Rattle.theory.proofs.Soundness.{SoundTests, sound_parts, sound-whole}
use Rattle.theory.proofs.Tests.{by_test, decide}
use Rattle.theory.proofs.WordSorts.{other-address}

-- a condition that does not hold, by its test
pub fails_test : {b : Bool} {P : Type 0} → Decides b P → (P → ⊥) → b ≡ false
fails_test {b} d n = ⊎_elim (λ (e : b ≡ true). absurd (n (d.holds e))) (λ (e : b ≡ false). e) (by_test b)

-- two answers that are equal as what a call returns
pub same-answer : (a b : Answer) → ◌≡◌ {A = Result Answer Refusal} (Ok a) (Ok b) → a ≡ b
same-answer a b e = cc

-- "done" with a change
pub done_with : {o : Outcome State} (P : State → Type 0) (t : State) → o ≡ says Says.Done t → P t → E.Done o P
done_with P t e p = (ap (λ z. z.answer) e, subst P (sym (ap (λ z. z.left) e)) p)

module _ (Y : Layout) (s : State) where
  -- past SHAPE and ROOT
  pub past-roots : (named : List ℕ) (o : Outcome State) → (C.BadShape s → ⊥) → (Row.NoRoot s named → ⊥)
      → on_roots named s o ≡ o
  unfolding refuse
  past-roots named o a b = rw (fails_test (shape_decides s) a, fails_test (roots_decide s named) b)

  pub legal : (r : ℕ) (named : List ℕ) → Memᴰ r named → (Row.NoRoot s named → ⊥) → r < length s.roots
  legal r named m n =
      ⊎_elim (λ (l : r < length s.roots). l) (λ (l : length s.roots ≤ r). absurd (n (r, m, l)))
      (decide r (length s.roots))

  pub good_shape : (C.BadShape s → ⊥) → Shaped s
  good_shape a = shaped s (fails_test (shape_decides s) a)

  -- past OBJECT, KIND and FIELD
  module _ (k : Kind) (r f : ℕ) (p : D1.None (Row.field_rows Y k r f s)) where
    is-named : names Y s (root_word s r) ≡ true
    is-named = not-false (names Y s (root_word s r)) (fails_test (object_decides Y s r) p.0)

    past-field : (o : Outcome State) → on_field Y k (root_word s r) f s o ≡ o
    unfolding refuse
    past-field o =
        rw (
          is-named,
          fails_test (kind_decides Y s r is-named k) p.1.0,
          fails_test (field_decides Y s r is-named f) p.1.1.0,
        )

    field_inside : Shaped s → E.field_at Y s r f < length s.heap
    field_inside h =
        let n : C.Names Y s (root_word s r) = (names_decides Y s (root_word s r)).holds is-named in
        let b = first_in s h in
        let q : f < field_count Y s.heap (index Y (root_word s r)) =
        leb-false (field_count Y s.heap (index Y (root_word s r))) f
        (fails_test (field_decides Y s r is-named f) p.1.1.0) in
        omega (arith, n.ends, h.high)

  -- ---- set, copy, load: one root

  pub set-integer : (r : ℕ) (v : ℤ) → E.Passes Y (Ask.SetInteger r v) s
      → E.Done (step Y (Ask.SetInteger r v) s) (E.RootChanged s r (tag v))
  unfolding step Calls.set_integer refuse
  set-integer r v p =
      done_with (E.RootChanged s r (tag v)) (with_root s r (tag v))
      (past-roots (r ∷ []) _ p.0 p.1.0 ∙ rw (fails_test (range_decides v) p.1.1.0))
      (root_changed s r (tag v) (legal r (r ∷ []) (Memᴰ.head refl) p.1.0))

  pub set-null : (r : ℕ) → E.Passes Y (Ask.SetNull r) s → E.Done (step Y (Ask.SetNull r) s) (E.RootChanged s r 0)
  unfolding step Calls.set_null
  set-null r p =
      done_with (E.RootChanged s r 0) (with_root s r 0) (past-roots (r ∷ []) _ p.0 p.1.0)
      (root_changed s r 0 (legal r (r ∷ []) (Memᴰ.head refl) p.1.0))

  pub set-code : (r w : ℕ) → E.Passes Y (Ask.SetCode r w) s → E.Done (step Y (Ask.SetCode r w) s) (E.RootChanged s r w)
  unfolding step Calls.set_code refuse
  set-code r w p =
      done_with (E.RootChanged s r w) (with_root s r w)
      (past-roots (r ∷ []) _ p.0 p.1.0 ∙ rw (fails_test (code_decides w) p.1.1.0))
      (root_changed s r w (legal r (r ∷ []) (Memᴰ.head refl) p.1.0))

  pub copies : (from to : ℕ) → E.Passes Y (Ask.Copy from to) s
      → E.Done (step Y (Ask.Copy from to) s) (E.RootChanged s to (root_word s from))
  unfolding step Calls.copy
  copies from to p =
      done_with (E.RootChanged s to (root_word s from)) (with_root s to (root_word s from))
      (past-roots (from ∷ to ∷ []) _ p.0 p.1.0)
      (root_changed s to (root_word s from) (legal to (from ∷ to ∷ []) (Memᴰ.tail (Memᴰ.head refl)) p.1.0))

  pub loads : (r f to : ℕ) → E.Passes Y (Ask.Load r f to) s
      → E.Done (step Y (Ask.Load r f to) s) (E.RootChanged s to (at s.heap (E.field_at Y s r f)))
  unfolding step Calls.load
  loads r f to p =
      let w = at s.heap (E.field_at Y s r f) in
      done_with (E.RootChanged s to w) (with_root s to w)
      (past-roots (r ∷ to ∷ []) _ p.0 p.1.0 ∙ past-field Traced r f p.1.1 _)
      (root_changed s to w (legal to (r ∷ to ∷ []) (Memᴰ.tail (Memᴰ.head refl)) p.1.0))

  -- ---- store, raw write: one word

  pub stores : (r f from : ℕ) → E.Passes Y (Ask.Store r f from) s
      → E.Done (step Y (Ask.Store r f from) s) (E.WordChanged s (E.field_at Y s r f) (root_word s from))
  unfolding step Calls.store
  stores r f from p =
      done_with (E.WordChanged s (E.field_at Y s r f) (root_word s from)) (with_word s (E.field_at Y s r f) (root_word s from))
      (past-roots (r ∷ from ∷ []) _ p.0 p.1.0 ∙ past-field Traced r f p.1.1 _)
      (word_changed s (E.field_at Y s r f) (root_word s from) (field_inside Traced r f p.1.1 (good_shape p.0)))

  pub raw-writes : (r f x : ℕ) → E.Passes Y (Ask.RawWrite r f x) s
      → E.Done (step Y (Ask.RawWrite r f x) s) (E.WordChanged s (E.field_at Y s r f) x)
  unfolding step Calls.raw_write
  raw-writes r f x p =
      done_with (E.WordChanged s (E.field_at Y s r f) x) (with_word s (E.field_at Y s r f) x)
      (past-roots (r ∷ []) _ p.0 p.1.0 ∙ past-field Untraced r f p.1.1 _)
      (word_changed s (E.field_at Y s r f) x (field_inside Untraced r f p.1.1 (good_shape p.0)))

  -- ---- raw read, check, same, inspect: an answer

  pub raw-reads : (r f : ℕ) → E.Passes Y (Ask.RawRead r f) s
      → step Y (Ask.RawRead r f) s ≡ says (Says.Number (at s.heap (E.field_at Y s r f))) s
  unfolding step Calls.raw_read
  raw-reads r f p = past-roots (r ∷ []) _ p.0 p.1.0 ∙ past-field Untraced r f p.1.1 _

  pub checks : E.Passes Y Ask.Check s → step Y Ask.Check s ≡ says (cond (sound Y s) Says.Sound Says.Unsound) s
  unfolding step Calls.check
  checks p = past-roots [] _ p.0 p.1.0

  pub sames : (r q : ℕ) → E.Passes Y (Ask.Same r q) s
      → step Y (Ask.Same r q) s ≡ says (cond (eqb (root_word s r) (root_word s q)) Says.Yes Says.No) s
  unfolding step Calls.same
  sames r q p = past-roots (r ∷ q ∷ []) _ p.0 p.1.0

  abbrev pub object_seen : ℕ → Answer
  object_seen w = Says.Object (kind Y s.heap (index Y w)) (field_count Y s.heap (index Y w))

  abbrev pub seen : ℕ → Answer
  seen w =
      cond (is_odd w) (Says.Integer (untag w)) (cond (is_null w) Says.Null (cond (is_code w) (Says.Code w) (object_seen w)))

  pub inspects : (r : ℕ) → E.Passes Y (Ask.Inspect r) s → step Y (Ask.Inspect r) s ≡ says (seen (root_word s r)) s
  unfolding step Calls.inspect refuse
  inspects r p =
      let w = root_word s r in
      past-roots (r ∷ []) _ p.0 p.1.0
      ∙ ⊎_elim
      (λ (a : is_odd (root_word s r) ≡ true). rw a)
      (λ (a : is_odd (root_word s r) ≡ false).
      ⊎_elim
      (λ (b : is_null (root_word s r) ≡ true). rw (a, b))
      (λ (b : is_null (root_word s r) ≡ false).
      ⊎_elim
      (λ (c : is_code (root_word s r) ≡ true). rw (a, b, c))
      (λ (c : is_code (root_word s r) ≡ false).
      let n = value_decides Y s r (other-address (root_word s r) a b c) in
      rw (a, b, c, not-false (names Y s (root_word s r)) (fails_test n p.1.1.0)))
      (by_test (is_code (root_word s r))))
      (by_test (is_null (root_word s r))))
      (by_test (is_odd (root_word s r)))

  -- ---- allocate

  allocate_now : (k : Kind) (n r : ℕ) → E.Passes Y (Ask.Allocate k n r) s → n + 1 ≤ spare s
      → step Y (Ask.Allocate k n r) s ≡ says Says.Done (placed Y k n r s)
  unfolding step Calls.allocate refuse
  allocate_now k n r p f =
      past-roots (r ∷ []) _ p.0 p.1.0 ∙ rw (fails_test (count_decides n) p.1.1.0, le-leb (n + 1) (spare s) f)

  pub allocates_now : (k : Kind) (n r : ℕ) → E.Passes Y (Ask.Allocate k n r) s → n + 1 ≤ spare s
      → E.Done (step Y (Ask.Allocate k n r) s) (E.NewObject Y k n r s)
  allocates_now k n r p f =
      done_with (E.NewObject Y k n r s) (placed Y k n r s) (allocate_now k n r p f)
      (new_object Y k n r s (good_shape p.0) (legal r (r ∷ []) (Memᴰ.head refl) p.1.0) f)

  module _ (k : Kind) (n r : ℕ) (p : E.Passes Y (Ask.Allocate k n r) s) (c : Row.CalledFor n s) where
    is-sound : SoundTests Y s
    is-sound =
        ⊎_elim (λ (e : sound Y s ≡ true). sound_parts Y s e)
        (λ (e : sound Y s ≡ false). absurd (p.1.1.1.0 (c, (sound_decides Y s).fails e))) (by_test (sound Y s))

    fits-then : n + 1 ≤ spare (collected Y s)
    fits-then =
        ⊎_elim (λ (l : spare (collected Y s) < n + 1). absurd (p.1.1.1.1.0 (c, l)))
        (λ (l : n + 1 ≤ spare (collected Y s)). l)
        (decide (spare (collected Y s)) (n + 1))

    allocate-then : step Y (Ask.Allocate k n r) s ≡ says Says.Done (placed Y k n r (collected Y s))
    unfolding step Calls.allocate refuse
    allocate-then =
        past-roots (r ∷ []) _ p.0 p.1.0
        ∙ rw (
          fails_test (count_decides n) p.1.1.0,
          lt-leb (n + 1) (spare s) c,
          sound-whole Y s is-sound,
          le-leb (n + 1) (spare (collected Y s)) fits-then,
        )

    pub allocates_then : E.Done (step Y (Ask.Allocate k n r) s) (E.NewObject Y k n r (collected Y s))
    allocates_then =
        let l = legal r (r ∷ []) (Memᴰ.head refl) p.1.0 in
        done_with (E.NewObject Y k n r (collected Y s)) (placed Y k n r (collected Y s)) allocate-then
        (new_object Y k n r (collected Y s) (new_shape Y s is-sound) (omega (arith, new_roots Y s is-sound)) fits-then)
