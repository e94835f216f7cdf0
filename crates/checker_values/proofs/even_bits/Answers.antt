-- `checker_values::even_bits` meets its contract: by what the fold is, and its law.
use Rattle.std.proofs.Common.{rules, ◌≡◌, bit_or, if◌then◌else◌}
use Rattle.std.specs.List.{fold}
use Rattle.model.specs.Values.{is_odd}
use Rattle.checker_values.proofs.PlainWords.{bits-all_plain}
use Rattle.checker_values.proofs.even_bits.Goals as goal

pub returns : goal.returns
returns c =
    let is : c.fold.result ≡ fold (λ b w. bit_or b (if is_odd w then 0 else w)) 0 c.args.row.now = search rules in
    rw is (bits-all_plain c.args.row.now)
