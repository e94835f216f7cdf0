-- THE MIDDLE OF A COLLECTION: what stands after the roots and at most p words of the copies. A collection cut into slices
-- will promise this; the whole collection is the case where no word is left to pass.
use Rattle.std.specs.Prelude.{ℕ, ◌+◌, min, ◌≡◌}
use Rattle.model.specs.Words.{State, other_first}
use Rattle.model.specs.Headers.{Layout}
use Rattle.model.specs.Collection.{live}
use Rattle.model.specs.During.{during}
use Rattle.engine_moving.specs.Moving.{none_met}
use Rattle.engine.specs.Evacuation.{emptied, moved_to, rooted, scanned}

module _ (Y : Layout) where
  -- heap, roots and record once the roots are renamed and at most p words passed
  unfoldable pub state_after : State → ℕ → State
  state_after s p =
      let new = other_first s in
      let e = rooted Y s.heap s.roots new none_met in
      let a = scanned Y p new e in
      moved_to s (emptied a.heap e.roots a.scan.free a.scan.tally)

  -- where the scan then stands
  unfoldable pub place_after : State → ℕ → ℕ
  place_after s p = let new = other_first s in (scanned Y p new (rooted Y s.heap s.roots new none_met)).scan.at

  -- of a sound heap, for every p
  pub record Middle (s : State) (p : ℕ) : Type 0 where
    -- heap, roots and record, to the word
    pub state : state_after s p ≡ during Y s p
    -- the scan stands past p words, or past all of them
    pub place : place_after s p ≡ other_first s + min p (live Y s)
