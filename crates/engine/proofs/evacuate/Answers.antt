-- `engine::evacuate` meets its contract: its three calls are the three parts of `evacuated`.
use native.Mathlib.Omega.{arith}
use Rattle.engine.proofs.RootLaws.{evacuated-is}
use Rattle.engine.proofs.evacuate.Goals as goal

pub returns : goal.returns
returns c =
    evacuated-is _ _ _ _ _ _ _ _ _ _ _ (omega arith) c.visit_roots-visited.ensures _ _ _ _
    c.pass_objects-passed.ensures c.clear.ensures
