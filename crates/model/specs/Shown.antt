-- How a half, a record and an answer's numbers print: "B", "half B free 13", "0/0/4/2/3".
use Rattle.std.specs.Prelude.{ℕ, ◌==◌, ◌&&◌, if◌then◌else◌, List, [], ◌++◌, codes, decimal}
use Rattle.std.specs.Fmt.{signed_decimal}
use Rattle.model.specs.declared.Half.{Half}
use Rattle.model.specs.declared.Half.TheVariants.{A, B}
use Rattle.model.specs.declared.Record.{Record}
use Rattle.model.specs.declared.Told.{Told}

abbrev pub half_text : Half → List ℕ
half_text A = codes "A"
half_text B = codes "B"

abbrev pub record_text : Record → List ℕ
record_text q = codes "half " ++ half_text q.half ++ codes " free " ++ decimal q.free.0

-- what a collection counts besides its live words, if there is any
abbrev pub counts_text : ℕ → ℕ → List ℕ
counts_text objects addresses =
    if objects == 0 && addresses == 0 then [] else codes "/" ++ decimal objects ++ codes "/" ++ decimal addresses

-- the refusal, what the root holds, and the integer that it holds or else the value
abbrev pub told_text : Told → List ℕ
told_text t =
    decimal t.refusal ++ codes "/" ++ decimal t.holds ++ codes "/"
    ++ (if t.holds == 1 then signed_decimal t.integer else decimal t.value ++ counts_text t.objects t.addresses)
