-- What a collection left, for the second try of a call that makes room.
use Prim.Native.Nat.{ℕ}
use mathlib.Core.Path.{◌≡◌, ap, sym, ◌∙◌, subst}
use mathlib.Core.Bool.{true}
use mathlib.Core.List.{List}
use lib.ListN.{length}
use Rattle.model.specs.declared.Record.{Record}
use Rattle.model.specs.declared.Counts.{Counts}
use Rattle.model.specs.declared.Answer.TheVariants as Says
use Rattle.model.specs.Words.{State, state_of}
use Rattle.model.specs.Headers.{Layout}
use Rattle.model.specs.Soundness.{sound}
use Rattle.model.specs.Collection.{collected}
use Rattle.model.specs.Answers.{Outcome, says}
use Rattle.engine.specs.Collecting.{collection}
use Rattle.theory.proofs.Shape.{Shaped}
use Rattle.theory.proofs.Soundness.{sound_parts}
use Rattle.theory.proofs.Collected.{new_roots}
use Rattle.theory.proofs.CollectedSound.{new_shape}

-- from its answer and the check before it, which changed nothing
pub left_is : (Y : Layout) (h₁ h rs : List ℕ) (q : Record) → h₁ ≡ h → (n : Counts) (s' : State)
    → says (Says.Live n) s' ≡ collection Y (state_of h₁ rs q) → s' ≡ collected Y (state_of h rs q)
left_is Y h₁ h rs q same n s' e =
    ap (λ (o : Outcome State). o.left) e ∙ ap (λ (x : List ℕ). collected Y (state_of x rs q)) same

-- it has its shape, and as many roots
module _ (Y : Layout) (s : State) (e : sound Y s ≡ true) (s' : State) (l : s' ≡ collected Y s) where
  pub left_shaped : Shaped s'
  left_shaped = subst Shaped (sym l) (new_shape Y s (sound_parts Y s e))

  pub left-roots : length s'.roots ≡ length s.roots
  left-roots = ap (λ (x : State). length x.roots) l ∙ new_roots Y s (sound_parts Y s e)
