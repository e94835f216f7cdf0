-- A value has so many levels left, and the tuple that it is has its fields' values with one fewer. The loop's invariant: after the
-- fields that are left there is left what is left after all of them.
use Rattle.std.proofs.Common.{◌≡◌, ◌+◌, ◌*◌, ◌<◌}
use Rattle.writer_measuring.specs.Packing.{limit}
use Rattle.writer_measuring.specs.Measured.{measured}
use Rattle.writer_measuring.proofs.Fields.{rest_pieces}
use Rattle.writer_measuring.proofs.+measure_measure_tuple.Given as goal

abbrev pub decreases-measure : goal.decreases-measure
decreases-measure l = 2 * l.depth + 1

abbrev pub decreases-measure_tuple : goal.decreases-measure_tuple
decreases-measure_tuple l = 2 * l.depth

abbrev pub invariant-measure_tuple-loop-word : goal.invariant-measure_tuple-loop-word
invariant-measure_tuple-loop-word l =
    let u = l.used in
    record {
      small : l.left < limit;
      same : measured l.left (rest_pieces u.first u.free u.heap.now l.levels l.object l.count l.word-index)
          ≡ measured l.initial.left (rest_pieces u.first u.free u.heap.now l.levels l.object l.count 0);
    }
