-- What a reader asks of a text before it changes anything: the integer that it stands for, or the words that it takes, or why it
-- is no text. How bytes are read is defined in `model`.
use Rattle.std.specs.Prelude.{Result, Ok, Err}
use Rattle.model.specs.declared.Refusal.{Refusal}
use Rattle.model.specs.Trees.{leaf, node, tree_words}
use Rattle.model.specs.Reading.{Parsed, tree, broken}
use Rattle.reader_judging.specs.declared.Judged.{Judged}
use Rattle.reader_judging.specs.declared.Judged.TheVariants.{Integer, Tuple}

abbrev pub judged_of : Parsed → Result Judged Refusal
judged_of (tree (leaf v)) = Ok (Integer v)
judged_of (tree (node g)) = Ok (Tuple (tree_words (node g)))
judged_of (broken k) = Err k
