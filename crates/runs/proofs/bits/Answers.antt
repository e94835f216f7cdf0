-- `runs::bits` meets its contract.
use Rattle.std.proofs.Common.{rules, ◌≡◌, bit_or}
use Rattle.std.specs.List.{fold}
use Rattle.runs.proofs.RunLaws.{bits-null}
use Rattle.runs.proofs.bits.Goals as goal

pub returns : goal.returns
returns c =
    let is : c.fold.result ≡ fold bit_or 0 c.args.words.now = search rules in
    rw is (bits-null c.args.words.now)
