-- Allocate by what its tests come to: refused, or tried again after a collection. Where the object fits see `placing`.
use Prim.Native.Nat.{ℕ, ◌+◌, ◌≤◌, ◌<◌}
use native.Mathlib.Omega.{arith}
use mathlib.Core.Path.{◌≡◌, ap, ◌∙◌}
use mathlib.Core.Bool.{true, false}
use mathlib.Core.List.{[], ◌∷◌}
use Rattle.std.specs.Prelude.{Result, Err, ⊤}
use Rattle.model.specs.declared.Refusal.{Refusal}
use Rattle.words.specs.Admits.{admits}
use Rattle.words.proofs.Admitted.{not_admitted}
use lib.ListN.{length}
use borrow.Author.Tests.{lt-ltb, le-ltb, le-leb, lt-leb}
use Rattle.model.specs.declared.Kind.{Kind}
use Rattle.model.specs.declared.Refusal.TheVariants as Why
use Rattle.model.specs.declared.Answer.TheVariants as Says
use Rattle.model.specs.Limits.{max_fields}
use Rattle.model.specs.Words.{State}
use Rattle.model.specs.Headers.{Layout}
use Rattle.model.specs.Shape.{bad_shape}
use Rattle.model.specs.Soundness.{sound}
use Rattle.model.specs.Collection.{collected}
use Rattle.model.specs.Answers.{says, refused, refuse}
use Rattle.model.specs.Changes.{spare, placed}
use Rattle.model.specs.Calls as Calls
use Rattle.placing.specs.Placing.{spare_of}
use Rattle.allocator.specs.Retrying.{retried}

module _ (Y : Layout) (k : Kind) (n r : ℕ) (s : State) where
  -- whatever `admit` says against it
  pub allocate_refused : {x : Result ⊤ Refusal} {k' : Refusal} → x ≡ admits (r ∷ []) s → x ≡ Err k' → refused k' s ≡ Calls.allocate Y k n r s
  unfolding Calls.allocate
  allocate_refused e h = not_admitted (r ∷ []) s e _ h

  module _ (b : bad_shape s ≡ false) where
    module _ (l : r < length s.roots) where
      pub allocate-count : max_fields < n → Calls.allocate Y k n r s ≡ refused Why.Count s
      unfolding Calls.allocate refuse
      allocate-count c = rw (b, lt-leb (length s.roots) r l, lt-ltb max_fields n c)

      module _ (c : n ≤ max_fields) where
        pub allocate_retry : spare s ≤ n → Calls.allocate Y k n r s ≡ retried Y k n r s
        unfolding Calls.allocate refuse retried
        allocate_retry f =
            rw (b, lt-leb (length s.roots) r l, le-ltb max_fields n c, lt-leb (n + 1) (spare s) (omega arith))

  pub retried_damaged : sound Y s ≡ false → retried Y k n r s ≡ refused Why.Damaged s
  unfolding retried refuse
  retried_damaged e = rw e

  -- after a collection that left s', with m words spare
  module _ (e : sound Y s ≡ true) (s' : State) (l : s' ≡ collected Y s) (m : ℕ)
      (p : m ≡ spare_of (length s'.heap) s'.«record») where
    spare-is : m ≡ spare (collected Y s)
    spare-is = p ∙ ap (λ (x : State). spare x) l

    pub retried-room : m ≤ n → refused Why.Room s' ≡ retried Y k n r s
    unfolding retried refuse
    retried-room f = rw (e, l, lt-leb (n + 1) (spare (collected Y s)) (omega (arith, spare-is)))

    pub retried-done : n < m → (s'' : State) → s'' ≡ placed Y k n r s' → says Says.Done s'' ≡ retried Y k n r s
    unfolding retried refuse
    retried-done f s'' u = rw (e, u, l, le-leb (n + 1) (spare (collected Y s)) (omega (arith, spare-is)))
