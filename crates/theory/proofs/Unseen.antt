-- The bytes of a text that are lent: a call that writes none does not see them, and leaves them. So its promise, which is of a
-- state without bytes, says what it makes of a state with bytes too.
use Prim.Native.Nat.{ℕ, ◌+◌}
use mathlib.Core.Path.{◌≡◌, refl, sym, ap, ◌∙◌}
use mathlib.Core.Bool.{Bool, true, false, not, cond}
use mathlib.Core.List.{List, [], ◌∷◌}
use lib.Dec.{ltb, leb}
use lib.ListN.{length}
use Rattle.model.specs.declared.Kind.{Kind}
use Rattle.model.specs.declared.Kind.TheVariants.{Traced, Untraced}
use Rattle.model.specs.declared.Refusal.{Refusal}
use Rattle.model.specs.declared.Refusal.TheVariants as Why
use Rattle.model.specs.declared.Call.{Call}
use Rattle.model.specs.declared.Call.TheVariants as Ask
use Rattle.model.specs.Limits.{max_fields}
use Rattle.model.specs.Words.{State, with_text}
use Rattle.model.specs.Values.{is_odd, is_null, is_code, in_range}
use Rattle.model.specs.Headers.{Layout}
use Rattle.model.specs.Shape.{bad_shape}
use Rattle.model.specs.Objects.{index, kind, field_count, names}
use Rattle.model.specs.Soundness.{sound}
use Rattle.model.specs.Collection.{order_at, live, counts, copied, collected}
use Rattle.model.specs.Answers.{Outcome, refuse}
use Rattle.model.specs.Admission.{no_roots, on_roots}
use Rattle.model.specs.Changes.{root_word, fits, placed}
use Rattle.model.specs.Calls as Calls
use Rattle.model.specs.Calls.{is_of_kind, on_field}
use Rattle.model.specs.Sessions.{step}
use Rattle.theory.proofs.Tests.{never}

-- the calls that see the bytes
abbrev pub sees_text : Call → Bool
sees_text Ask.Collect = false
sees_text Ask.Check = false
sees_text (Ask.Allocate kind fields to) = false
sees_text (Ask.SetInteger to value) = false
sees_text (Ask.SetNull to) = false
sees_text (Ask.SetCode to word) = false
sees_text (Ask.Copy from to) = false
sees_text (Ask.Load object field to) = false
sees_text (Ask.Store object field from) = false
sees_text (Ask.RawRead object field) = false
sees_text (Ask.RawWrite object field number) = false
sees_text (Ask.Same one other) = false
sees_text (Ask.Inspect root) = false
sees_text (Ask.Write root) = true
sees_text (Ask.Read to) = true

-- an outcome whose state is lent the bytes t
abbrev pub lending : List ℕ → Outcome State → Outcome State
lending t o = record { answer = o.answer; left = with_text t o.left }

-- what a call makes of a state with these bytes, and of the state without
data Lends (t : List ℕ) : Outcome State → Outcome State → Type 0 where
  lends : {o' o : Outcome State} → o' ≡ lending t o → Lends t o' o

module _ {t : List ℕ} where
  either : (b : Bool) {x x' y y' : Outcome State} → Lends t x' x → Lends t y' y → Lends t (cond b x' y') (cond b x y)
  either true e f = e
  either false e f = f

  -- a test that refuses, and what follows
  past : (b : Bool) (k : Refusal) (s : State) {o o' : Outcome State} → Lends t o' o
      → Lends t (refuse b k (with_text t s) o') (refuse b k s o)
  unfolding refuse
  past b k s e = either b (lends refl) e

module _ (Y : Layout) (t : List ℕ) (s : State) where
  on_roots_lem : (named : List ℕ) {o o' : Outcome State} → Lends t o' o → Lends t (on_roots named (with_text t s) o') (on_roots named s o)
  on_roots_lem named e = past (bad_shape s) Why.Shape s (past (no_roots (length s.roots) named) Why.Root s e)

  on_field_lem : (k : Kind) (w f : ℕ) {o o' : Outcome State} → Lends t o' o
      → Lends t (on_field Y k w f (with_text t s) o') (on_field Y k w f s o)
  unfolding names
  on_field_lem k w f e =
      past (not (names Y s w)) Why.Object s (past (not (is_of_kind k (kind Y s.heap (index Y w)))) Why.Kind s
      (past (leb (field_count Y s.heap (index Y w)) f) Why.Field s e))

  allocate_lends : (k : Kind) (n r : ℕ) → Lends t (Calls.allocate Y k n r (with_text t s)) (Calls.allocate Y k n r s)
  unfolding Calls.allocate sound order_at copied placed
  allocate_lends k n r =
      on_roots_lem (r ∷ []) (past (ltb max_fields n) Why.Count s
      (either (fits (n + 1) s) (lends refl)
      (past (not (sound Y s)) Why.Damaged s (past (not (fits (n + 1) (collected Y s))) Why.Room (collected Y s) (lends refl)))))

  inspect_lends : (r : ℕ) → Lends t (Calls.inspect Y r (with_text t s)) (Calls.inspect Y r s)
  unfolding Calls.inspect names
  inspect_lends r =
      on_roots_lem (r ∷ []) (either (is_odd (root_word s r)) (lends refl) (either (is_null (root_word s r)) (lends refl)
      (either (is_code (root_word s r)) (lends refl) (past (not (names Y s (root_word s r))) Why.Object s (lends refl)))))

  step_lends : (c : Call) → sees_text c ≡ false → Lends t (step Y c (with_text t s)) (step Y c s)
  unfolding step Calls.collect Calls.check Calls.set_integer Calls.set_null Calls.set_code Calls.copy Calls.load Calls.store
      Calls.raw_read Calls.raw_write Calls.same sound order_at live counts copied
  step_lends Ask.Collect e = on_roots_lem [] (past (not (sound Y s)) Why.Damaged s (lends refl))
  step_lends Ask.Check e = on_roots_lem [] (lends refl)
  step_lends (Ask.Allocate k n r) e = allocate_lends k n r
  step_lends (Ask.SetInteger r v) e = on_roots_lem (r ∷ []) (past (not (in_range v)) Why.Range s (lends refl))
  step_lends (Ask.SetNull r) e = on_roots_lem (r ∷ []) (lends refl)
  step_lends (Ask.SetCode r w) e = on_roots_lem (r ∷ []) (past (not (is_code w)) Why.Range s (lends refl))
  step_lends (Ask.Copy from to) e = on_roots_lem (from ∷ to ∷ []) (lends refl)
  step_lends (Ask.Load r f to) e = on_roots_lem (r ∷ to ∷ []) (on_field_lem Traced (root_word s r) f (lends refl))
  step_lends (Ask.Store r f from) e = on_roots_lem (r ∷ from ∷ []) (on_field_lem Traced (root_word s r) f (lends refl))
  step_lends (Ask.RawRead r f) e = on_roots_lem (r ∷ []) (on_field_lem Untraced (root_word s r) f (lends refl))
  step_lends (Ask.RawWrite r f x) e = on_roots_lem (r ∷ []) (on_field_lem Untraced (root_word s r) f (lends refl))
  step_lends (Ask.Same r q) e = on_roots_lem (r ∷ q ∷ []) (lends refl)
  step_lends (Ask.Inspect r) e = inspect_lends r
  step_lends (Ask.Write r) e = never refl e
  step_lends (Ask.Read r) e = never refl e

  pub unseen : (c : Call) → sees_text c ≡ false → step Y c (with_text t s) ≡ lending t (step Y c s)
  unseen c e = go (step_lends c e)
    where
      go : {o' o : Outcome State} → Lends t o' o → o' ≡ lending t o
      go (lends e) = e

  -- from what the call makes of the state without the bytes
  pub lent_too : {o : Outcome State} (c : Call) → sees_text c ≡ false → o ≡ step Y c s → lending t o ≡ step Y c (with_text t s)
  lent_too c n e = ap (lending t) e ∙ sym (unseen c n)
