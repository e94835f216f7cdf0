-- A value has so many levels left, and the tuple that it is has its fields' values with one fewer. The loop's invariant: what is left
-- of the tuple goes from the present place and bytes to where all of it goes from the first.
use Rattle.std.proofs.Common.{◌≡◌, ◌+◌, length}
use Rattle.writer_measuring.proofs.Fields.{rest_pieces}
use Rattle.writer_spelling.specs.Going.{goes}
use Rattle.writer_spelling.proofs.+spell_spell_tuple.Given as goal

abbrev pub decreases-spell : goal.decreases-spell
decreases-spell l = l.depth + l.depth

abbrev pub decreases-spell_tuple : goal.decreases-spell_tuple
decreases-spell_tuple l = l.depth + l.depth + 1

abbrev pub invariant-spell_tuple-loop-field : goal.invariant-spell_tuple-loop-field
invariant-spell_tuple-loop-field l =
    let u = l.used in
    let s = l.initial in
    record {
      sized : length l.text ≡ length s.text;
      same : goes (rest_pieces u.first u.free u.heap.now l.depth l.object l.count l.field) l.place l.text
          ≡ goes (rest_pieces u.first u.free u.heap.now l.depth l.object l.count 0) s.place s.text;
    }
