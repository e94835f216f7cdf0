-- `words::shape::bad_shape` meets its contract, test by test.
use Rattle.std.proofs.Common.{◌≡◌, true, false, not, sym, refl, ap, ◌∙◌, arith, le-ltb, lt-ltb}
use Rattle.model.specs.Words.{half_words_of, first_of}
use Rattle.model.specs.Shape.{bad_length, bad_shape_of}
use Rattle.theory.proofs.Tests.{or_right}
use Rattle.words.proofs.FirstWords.{first_by_length}
use Rattle.words.proofs.ShapeTests.{free_tests}
use Rattle.words.proofs.shape.bad_shape.Goals as goal
use Rattle.words.proofs.shape.bad_shape.Goals.{After-first_of-first, Else-bad_length, Else-root_count-gt-MAX_ROOTS, Start}

-- where the call begins; the number of roots is not refused, and then the length is not
abbrev start : Else-root_count-gt-MAX_ROOTS → Start
start c = c.before

abbrev counted : Else-bad_length → Else-root_count-gt-MAX_ROOTS
counted c = c.before.before

abbrev measured : After-first_of-first → Else-bad_length
measured c = c.before.before

-- what is known of the length once it is not refused
sized : (c : Else-bad_length) → bad_length (start (counted c)).args.length ≡ false
sized c = sym c.bad_length.ensures ∙ c.if-bad_length.false

-- the half's first word, by the heap's length
first : (c : After-first_of-first) → let s = start (counted (measured c)) in
    c.first_of-first.result.0 ≡ first_of (half_words_of s.args.length) s.args.«record».half
first c =
    let s = start (counted (measured c)) in
    first_by_length s.args.length s.args.«record».half c.first_of-first.ensures c.half_words-half_words.ensures

pub returns-then-root_count-gt-MAX_ROOTS : goal.returns-then-root_count-gt-MAX_ROOTS
unfolding bad_shape_of
returns-then-root_count-gt-MAX_ROOTS c = simp (lt-ltb _ _ c.if-root_count-gt-MAX_ROOTS.true, or_right (bad_length c.args.length) true refl)

pub returns-then-bad_length : goal.returns-then-bad_length
unfolding bad_shape_of
returns-then-bad_length c = simp (sym c.bad_length.ensures ∙ c.if-bad_length.true)

pub returns : goal.returns
unfolding bad_shape_of
returns c =
    let halved = c.before in
    let length = measured halved in
    simp (sized length, le-ltb _ _ (counted length).if-root_count-gt-MAX_ROOTS.false) (
    ap not c.in_run.ensures
    ∙ free_tests _ _ _ _ _ (first halved) (omega (arith, halved.half_words-half_words.ensures)))
