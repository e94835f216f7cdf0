-- A call's chain of refusals, followed test by test, and what a by-value call says with its record.
use Prim.Native.Nat.{ℕ}
use mathlib.Core.Path.{◌≡◌, ap, ◌∙◌}
use mathlib.Core.Bool.{Bool, true, false}
use mathlib.Core.List.{List}
use Rattle.model.specs.declared.Record.{Record}
use Rattle.model.specs.declared.Refusal.{Refusal}
use Rattle.model.specs.declared.Answer.{Answer}
use Rattle.model.specs.declared.Answered.{Answered}
use Rattle.model.specs.Words.{State}
use Rattle.model.specs.Answers.{Outcome, refused, refuse}
use Rattle.model.specs.Agreements.{kept, outcome}
use Rattle.std.specs.Prelude.{Result}

pub said : {r : Answered} {a : Result Answer Refusal} {q : Record} {o : Outcome State} (H R : List ℕ)
    → r ≡ record { answer = a; «record» = q } → kept a H R q ≡ o → outcome r H R ≡ o
said H R e f = ap (λ (x : Answered). outcome x H R) e ∙ f

-- a refusal whose test holds is given; one whose test fails leaves what follows
pub applies : {b : Bool} {k : Refusal} {s : State} (next : Outcome State) → b ≡ true
    → refused k s ≡ refuse b k s next
unfolding refuse
applies next e = rw e

pub passes : {b : Bool} {next x : Outcome State} (k : Refusal) (s : State) → b ≡ false → x ≡ next → x ≡ refuse b k s next
unfolding refuse
passes k s e f = rw e f
