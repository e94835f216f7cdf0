-- `placing::at_once::fits` meets its contract, test by test.
use mathlib.Core.Path.{◌∙◌, sym}
use Rattle.placing.proofs.PlacingLaws.{numbers_spare}
use Rattle.placing.proofs.at_once.fits.Goals as goal

pub spare_of-requires : goal.spare_of-requires
spare_of-requires c = numbers_spare _ _ _ (sym c.bad_shape.ensures ∙ c.if-bad_shape.false)
