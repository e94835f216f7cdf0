-- What a collection of a sound heap answers and leaves.
use Rattle.model.specs.declared.Answer.TheVariants as Says
use Rattle.model.specs.Words.{State}
use Rattle.model.specs.Headers.{Layout}
use Rattle.model.specs.Collection.{counts, collected}
use Rattle.model.specs.Answers.{Outcome, says}

abbrev pub collection : Layout → State → Outcome State
collection Y s = says (Says.Live (counts Y s)) (collected Y s)
