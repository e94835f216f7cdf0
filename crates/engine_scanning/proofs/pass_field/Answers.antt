-- `engine_scanning::pass_field` meets its contract: a field that named no object holds what would be written.
use Rattle.std.proofs.Common.{rules}
use Rattle.engine_scanning.proofs.PassingLaws.{field_plain}
use Rattle.engine_scanning.proofs.pass_field.Goals as goal

pub returns-else-ne : goal.returns-else-ne
returns-else-ne c = field_plain _ _ _ _ _ c.rename-renamed.ensures (search rules)
