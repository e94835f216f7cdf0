-- `reader_placing::lay` meets its contract: the counts are those of the tuple that the text is, and the objects are placed by them.
use Rattle.reader_placing.proofs.Layings.{lays_counted, lays_tuple, lays_laid}
use Rattle.reader_placing.proofs.lay.Goals as goal

pub count_fields-slot-requires : goal.count_fields-slot-requires
count_fields-slot-requires c =
    (c.requires.0, lays_counted _ _ _ _ _ c.requires.1)

pub tuple-requires : goal.tuple-requires
tuple-requires c =
    let counted = c.count_fields-slot in
    (c.requires.0, lays_tuple _ _ _ _ _ c.requires.1 _ _ (counted.ensures c.requires.0 (lays_counted _ _ _ _ _ c.requires.1)))

pub returns : goal.returns
returns c = λ g a.
    let k = c.count_fields-slot.ensures g (lays_counted _ _ _ _ _ a) in
    lays_laid _ _ _ _ _ a _ _ k _ _ _ _ (c.tuple.ensures g (lays_tuple _ _ _ _ _ a _ _ k))
