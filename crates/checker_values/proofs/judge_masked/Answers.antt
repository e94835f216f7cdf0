-- `checker_values::judge_masked` meets its contract: for each n the bits of `past` are numbers, which let through what
-- stands past n.
use native.Mathlib.Omega.{arith}
use mathlib.Core.Path.{◌≡◌}
use mathlib.Core.Bool.{or-true, or-false, and-true}
use Rattle.checker_marks.specs.Asked.{is_value}
use Rattle.checker_values.proofs.Verdicts.{first_word, two_words, three_words, four_words, up_to_four}
use Rattle.checker_values.proofs.judge_masked.Goals as goal

-- what is left of a verdict where a word is let through or judged
ruleset passing = (or-true, or-false, and-true)

pub returns : goal.returns
returns c =
    let n = c.args.n in
    let words = c.args.words.now in
    let q = is_value c.args.marks in
    simp (
      c.bitand-3.ensures,
      c.bitand-2.ensures,
      c.bitand.ensures,
      c.bitor-one.ensures,
      c.bitor-two.ensures,
      c.bitor-three.ensures,
      c.bitor-four.ensures,
      c.judge.ensures,
      c.judge-2.ensures,
      c.judge-3.ensures,
      c.judge-4.ensures,
      c.of_lowest.ensures,
      c.of_lowest-2.ensures,
      c.of_lowest-3.ensures,
      c.of_lowest-4.ensures,
    )
    (up_to_four n c.requires.1
    (λ (e : n ≡ 0). rw e (simp passing))
    (λ (e : n ≡ 1). rw (e, first_word q words (omega arith)) (simp passing))
    (λ (e : n ≡ 2). rw (e, two_words q words (omega arith)) (simp passing))
    (λ (e : n ≡ 3). rw (e, three_words q words (omega arith)) (simp passing))
    (λ (e : n ≡ 4). rw (e, four_words q words (omega arith)) (simp passing)))
