-- Collect by what its tests come to.
use mathlib.Core.Path.{◌≡◌}
use mathlib.Core.Bool.{true, false}
use Rattle.model.specs.declared.Refusal.TheVariants as Why
use Rattle.model.specs.declared.Answer.TheVariants as Says
use Rattle.model.specs.Words.{State}
use Rattle.model.specs.Headers.{Layout}
use Rattle.model.specs.Shape.{bad_shape}
use Rattle.model.specs.Soundness.{sound}
use Rattle.model.specs.Collection.{counts, collected}
use Rattle.model.specs.Answers.{says, refused, refuse}
use Rattle.model.specs.Calls as Calls

module _ (Y : Layout) (s : State) where
  pub collect-shape : bad_shape s ≡ true → Calls.collect Y s ≡ refused Why.Shape s
  unfolding Calls.collect refuse
  collect-shape b = rw b

  pub collect_damaged : bad_shape s ≡ false → sound Y s ≡ false → Calls.collect Y s ≡ refused Why.Damaged s
  unfolding Calls.collect refuse
  collect_damaged b e = rw (b, e)

  pub collect-live : bad_shape s ≡ false → sound Y s ≡ true → Calls.collect Y s ≡ says (Says.Live (counts Y s)) (collected Y s)
  unfolding Calls.collect refuse
  collect-live b e = rw (b, e)
