-- Read by what its tests come to.
use Prim.Native.Nat.{ℕ, ◌≤◌, ◌<◌}
use native.Mathlib.Omega.{arith}
use mathlib.Core.Path.{◌≡◌, refl, ap, ◌∙◌}
use mathlib.Core.Bool.{true, false}
use mathlib.Core.List.{List, [], ◌∷◌}
use Rattle.std.specs.Prelude.{Result, Err, ⊤}
use Rattle.words.specs.Admits.{admits}
use Rattle.words.proofs.Admitted.{not_admitted}
use lib.IntN.{ℤ}
use lib.ListN.{length}
use borrow.Author.Tests.{le-leb, lt-leb}
use Rattle.model.specs.declared.Refusal.{Refusal}
use Rattle.model.specs.declared.Refusal.TheVariants as Why
use Rattle.model.specs.declared.Answer.TheVariants as Says
use Rattle.model.specs.declared.Call.TheVariants as Ask
use Rattle.model.specs.Words.{State, with_text}
use Rattle.model.specs.Values.{in_range, tag}
use Rattle.model.specs.Headers.{Layout}
use Rattle.model.specs.Shape.{bad_shape}
use Rattle.model.specs.Soundness.{sound}
use Rattle.model.specs.Collection.{order_at, copied, collected}
use Rattle.model.specs.Trees.{Forest, leaf, node, tree_words}
use Rattle.model.specs.Reading.{Parsed, tree, broken, parsed}
use Rattle.model.specs.Answers.{Outcome, says, refused, refuse}
use Rattle.model.specs.Changes.{spare, with_root, planted}
use Rattle.model.specs.Calls as Calls
use Rattle.model.specs.Sessions.{step}
use Rattle.theory.proofs.ReadJudged.{parsed-text}
use Rattle.theory.proofs.Unseen.{lending, lent_too}
use Rattle.placing.specs.Placing.{spare_of}
use Rattle.reader.specs.Planting.{retried}

module _ (Y : Layout) (r : ℕ) (s : State) where
  -- whatever `admit` says against it
  pub read_unadmitted : {x : Result ⊤ Refusal} {k : Refusal} → x ≡ admits (r ∷ []) s → x ≡ Err k → refused k s ≡ Calls.read Y r s
  unfolding Calls.read
  read_unadmitted e h = not_admitted (r ∷ []) s e _ h

  module _ (b : bad_shape s ≡ false) where
    module _ (l : r < length s.roots) where
      -- by what the text stands for
      reads : (p : Parsed) → parsed s.text ≡ p → Calls.reads Y r s p ≡ Calls.read Y r s
      unfolding Calls.read refuse
      reads p e = rw (b, lt-leb (length s.roots) r l, e)

      pub read-refused : (k : Refusal) → parsed s.text ≡ broken k → refused k s ≡ Calls.read Y r s
      read-refused k e = reads (broken k) e

      pub read-tuple : (g : Forest) → parsed s.text ≡ tree (node g)
          → Calls.with_room Y (tree_words (node g)) (planted Y (node g) r) s ≡ Calls.read Y r s
      read-tuple g e = reads (tree (node g)) e

      -- an integer is set as `set_integer` sets it
      pub read-integer : (v : ℤ) → parsed s.text ≡ tree (leaf v) → Calls.set_integer r v s ≡ Calls.read Y r s
      unfolding Calls.set_integer refuse planted
      read-integer v e =
          let i : in_range v ≡ true = (parsed-text s.text (leaf v) e).fits in
          let now : says Says.Done (with_root s r (tag v)) ≡ Calls.reads Y r s (tree (leaf v)) =
          rw (le-leb 0 (spare s) (omega arith)) in
          rw (b, lt-leb (length s.roots) r l, i) (now ∙ reads (tree (leaf v)) e)

-- the bytes of a text are not seen by what sets an integer, judges a heap or collects it
module _ (Y : Layout) (t : List ℕ) (s : State) where
  pub set_beside : {o : Outcome State} (r : ℕ) (v : ℤ) → o ≡ Calls.set_integer r v s
      → lending t o ≡ Calls.set_integer r v (with_text t s)
  unfolding step
  set_beside r v e = lent_too Y t s (Ask.SetInteger r v) refl e

  pub sound_beside : sound Y (with_text t s) ≡ sound Y s
  unfolding sound
  sound_beside = refl

  pub collected_beside : {s' : State} → s' ≡ collected Y s → with_text t s' ≡ collected Y (with_text t s)
  unfolding order_at copied
  collected_beside e = ap (with_text t) e

-- a tuple, of n words
module _ (Y : Layout) (r : ℕ) (s : State) (n : ℕ) (g : Forest) (filled : n ≡ tree_words (node g)) where
  pub room_later : spare s < n → retried Y g r s ≡ Calls.with_room Y (tree_words (node g)) (planted Y (node g) r) s
  unfolding retried
  room_later f = rw (lt-leb (tree_words (node g)) (spare s) (omega arith))

  pub retried_damaged : sound Y s ≡ false → refused Why.Damaged s ≡ retried Y g r s
  unfolding retried refuse
  retried_damaged e = rw e

  -- after a collection that left s', with m words spare
  module _ (e : sound Y s ≡ true) (s' : State) (l : s' ≡ collected Y s) (m : ℕ)
      (p : m ≡ spare_of (length s'.heap) s'.«record») where
    spare-is : m ≡ spare (collected Y s)
    spare-is = p ∙ ap (λ (x : State). spare x) l

    pub retried-room : m < n → refused Why.Room s' ≡ retried Y g r s
    unfolding retried refuse
    retried-room f = rw (e, l, lt-leb (tree_words (node g)) (spare (collected Y s)) (omega (arith, spare-is)))

    pub retried-done : n ≤ m → (s'' : State) → s'' ≡ planted Y (node g) r s' → says Says.Done s'' ≡ retried Y g r s
    unfolding retried refuse
    retried-done f s'' u =
        rw (e, u, l, le-leb (tree_words (node g)) (spare (collected Y s)) (omega (arith, spare-is)))
