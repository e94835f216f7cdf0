-- What the two tests of Admission come to by themselves.
use Rattle.std.specs.Prelude.{ℕ, cond, List, Result, Ok, Err, ⊤}
use Rattle.model.specs.declared.Refusal.{Refusal}
use Rattle.model.specs.Words.{State}
use Rattle.model.specs.Admission.{admitted}

-- SHAPE or ROOT, or that the call goes on
unfoldable pub admits : List ℕ → State → Result ⊤ Refusal
admits named s = admitted (λ b k next. cond b (Err k) next) named s (Ok tt)
