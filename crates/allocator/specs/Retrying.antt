-- What is left to do of an allocation once its object does not fit.
use Rattle.std.specs.Prelude.{ℕ, ◌+◌, not}
use Rattle.model.specs.declared.Kind.{Kind}
use Rattle.model.specs.declared.Refusal.TheVariants as Why
use Rattle.model.specs.declared.Answer.TheVariants as Says
use Rattle.model.specs.Words.{State}
use Rattle.model.specs.Headers.{Layout}
use Rattle.model.specs.Soundness.{sound}
use Rattle.model.specs.Collection.{collected}
use Rattle.model.specs.Answers.{Outcome, says, refuse}
use Rattle.model.specs.Changes.{fits, placed}

-- the collection, and another try
unfoldable pub retried : Layout → Kind → ℕ → ℕ → State → Outcome State
retried Y k n r s =
    refuse (not (sound Y s)) Why.Damaged s
    (refuse (not (fits (n + 1) (collected Y s))) Why.Room (collected Y s)
    (says Says.Done (placed Y k n r (collected Y s))))
