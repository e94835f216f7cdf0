-- `engine::collect_sound` meets its contract: the evacuation of a sound heap leaves what `collected` says.
use native.Mathlib.Omega.{arith}
use Rattle.theory.proofs.Headers.{tuple_lawful}
use Rattle.engine.proofs.Contract.{shape, old_low, may_evacuate, end_low, end-high, met-few, collect-is}
use Rattle.engine.proofs.collect_sound.Goals as goal

pub half_words-half_words-requires : goal.half_words-half_words-requires
half_words-half_words-requires c =
    let a = shape tuple_lawful.forwards _ c.requires in
    omega (arith, a.odd)

pub first_of-old-requires : goal.first_of-old-requires
first_of-old-requires c =
    let a = shape tuple_lawful.forwards _ c.requires in
    omega (arith, a.small, c.half_words-half_words.ensures)

pub first_of-new-requires : goal.first_of-new-requires
first_of-new-requires c =
    let a = shape tuple_lawful.forwards _ c.requires in
    omega (arith, a.small, c.half_words-half_words.ensures)

pub overflow_sub-used : goal.overflow_sub-used
overflow_sub-used c =
    old_low tuple_lawful.forwards _ c.requires c.half_words-half_words.ensures
    c.other_half-half.ensures c.first_of-old.ensures c.first_of-new.ensures

pub evacuate-requires : goal.evacuate-requires
evacuate-requires c =
    may_evacuate tuple_lawful.forwards _ c.requires c.half_words-half_words.ensures
    c.other_half-half.ensures c.first_of-old.ensures c.first_of-new.ensures

pub overflow_sub-live : goal.overflow_sub-live
overflow_sub-live c =
    end_low tuple_lawful.forwards _ c.requires c.half_words-half_words.ensures
    c.other_half-half.ensures c.first_of-old.ensures c.first_of-new.ensures
    c.evacuate.ensures

pub overflow_cast-live : goal.overflow_cast-live
overflow_cast-live c =
    omega (
      arith,
      end-high tuple_lawful.forwards _ c.requires c.half_words-half_words.ensures
          c.other_half-half.ensures c.first_of-old.ensures c.first_of-new.ensures
          c.evacuate.ensures,
    )

pub overflow_cast-objects : goal.overflow_cast-objects
overflow_cast-objects c =
    omega (
      arith,
      met-few tuple_lawful.forwards _ c.requires c.half_words-half_words.ensures
          c.other_half-half.ensures c.first_of-old.ensures c.first_of-new.ensures
          c.evacuate.ensures,
    )

pub overflow_add-addresses : goal.overflow_add-addresses
overflow_add-addresses c =
    omega (
      arith,
      met-few tuple_lawful.forwards _ c.requires c.half_words-half_words.ensures
          c.other_half-half.ensures c.first_of-old.ensures c.first_of-new.ensures
          c.evacuate.ensures,
    )

pub overflow_cast-addresses : goal.overflow_cast-addresses
overflow_cast-addresses c =
    omega (
      arith,
      met-few tuple_lawful.forwards _ c.requires c.half_words-half_words.ensures
          c.other_half-half.ensures c.first_of-old.ensures c.first_of-new.ensures
          c.evacuate.ensures,
    )

pub returns : goal.returns
returns c =
    collect-is tuple_lawful.forwards _ c.requires c.half_words-half_words.ensures
    c.other_half-half.ensures c.first_of-old.ensures c.first_of-new.ensures
    c.evacuate.ensures (omega arith) (omega arith) (omega arith)
