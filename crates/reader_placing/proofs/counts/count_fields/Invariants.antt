-- `reader_placing::counts::count_fields` meets its contract. The loop's invariant: the open counts, the counts that are stored and
-- the place of the first of these are the tally of the bytes that were passed.
use Rattle.model.specs.Trees.{Forest}
use Rattle.reader_placing.specs.Counting.{Countable}
use Rattle.reader_placing.proofs.Stacks.{Counting}
use Rattle.reader_placing.proofs.counts.count_fields.Given as goal

abbrev pub invariant-loop-place : goal.invariant-loop-place
invariant-loop-place l = (g : Forest) → Countable l.initial.heap l.text l.end g → Counting l.initial.heap l.text l.end l.heap l.«open» l.top l.slot l.place
