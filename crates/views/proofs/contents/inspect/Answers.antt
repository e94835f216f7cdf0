-- `views::inspect` meets its contract: what `shown` answers, with all as it was.
use Rattle.views.proofs.Inspecting.{inspect_kept}
use Rattle.views.proofs.contents.inspect.Goals as goal

pub returns : goal.returns
returns c = inspect_kept _ _ _ c.shown.ensures
