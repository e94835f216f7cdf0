-- `reader::read_tuple` meets its contract: at once, or by what another try leaves.
use mathlib.Core.Path.{◌∙◌}
use native.Mathlib.Omega.{arith}
use Rattle.model.specs.Headers.{tuple}
use Rattle.model.specs.Words.{State, state_of, with_text}
use Rattle.theory.proofs.Shape as Shape
use Rattle.placing.proofs.PlacingLaws.{may_spare}
use Rattle.reader.proofs.ReadCases.{room_later}
use Rattle.reader.proofs.Plants.{may_plant}
use Rattle.reader.proofs.read_tuple.Goals as goal

pub spare_of-requires : goal.spare_of-requires
spare_of-requires c =
    let s : State = state_of c.args.heap.now c.args.roots.now c.args.«record» in
    may_spare s (Shape.shaped s c.requires.0)

pub plant-planted-requires : goal.plant-planted-requires
plant-planted-requires c =
    let s : State = state_of c.args.heap.now c.args.roots.now c.args.«record» in (
      may_plant s _ _ (Shape.shaped s c.requires.0) c.requires.1
          (omega (arith, c.spare_of.ensures, c.if-words-spare_of.true)),
      c.requires.2,
    )

pub returns : goal.returns
returns c g stands =
    let s : State = with_text c.args.text.now (state_of c.args.heap.now c.args.roots.now c.args.«record») in
    c.retry.ensures g stands
    ∙ room_later tuple _ s _ g stands.filled
    (omega (arith, c.spare_of.ensures, c.if-words-spare_of.false))
