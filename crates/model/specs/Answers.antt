-- What a call answers and leaves, and the paper's numbers for it. Document 01, "Refusals and their order".
use Rattle.std.specs.Prelude.{ℕ, Bool, cond, ℤ, pos, Result, Ok, Err}
use Rattle.model.specs.declared.Kind.TheVariants.{Traced, Untraced}
use Rattle.model.specs.declared.Refusal.{Refusal}
use Rattle.model.specs.declared.Refusal.TheVariants as Why
use Rattle.model.specs.declared.Counts.{Counts}
use Rattle.model.specs.declared.Answer.{Answer}
use Rattle.model.specs.declared.Answer.TheVariants as Says
use Rattle.model.specs.declared.Told.{Told}

-- a call's answer or why it refuses, and what it leaves of what it was made on: of a state, or of an object graph
pub record Outcome (L : Type 0) : Type 0 where
  pub answer : Result Answer Refusal
  pub left : L

abbrev pub says : {L : Type 0} → Answer → L → Outcome L
says a s = record { answer = Ok a; left = s }

abbrev pub refused : {L : Type 0} → Refusal → L → Outcome L
refused k s = record { answer = Err k; left = s }

-- refused where the test holds, and nothing changes; otherwise what follows
unfoldable pub refuse : {L : Type 0} → Bool → Refusal → L → Outcome L → Outcome L
refuse b k s next = cond b (refused k s) next

-- the number of a refusal. It is a name: the order in which refusals are given is `Refusals.rank`.
abbrev pub number : Refusal → ℕ
number Why.Shape = 1
number Why.Root = 2
number Why.Count = 3
number Why.Range = 4
number Why.Object = 5
number Why.Kind = 6
number Why.Field = 7
number Why.Damaged = 8
number Why.Room = 9
number Why.Value = 10
number Why.Deep = 11
number Why.Text = 12

-- an answer in numbers: only an integer has a sign, only a text's length may need more than 32 bits, and only a collection has
-- three numbers, so that each of these has a place of its own
abbrev pub tells : ℕ → ℕ → ℕ → Told
tells k h v = record { refusal = k; holds = h; integer = pos 0; value = v; length = 0; objects = 0; addresses = 0 }

abbrev pub tells_integer : ℤ → Told
tells_integer v = record { refusal = 0; holds = 1; integer = v; value = 0; length = 0; objects = 0; addresses = 0 }

abbrev pub tells_length : ℕ → Told
tells_length n = record { refusal = 0; holds = 0; integer = pos 0; value = 0; length = n; objects = 0; addresses = 0 }

abbrev pub tells_counts : Counts → Told
tells_counts c = record {
  refusal = 0;
  holds = 0;
  integer = pos 0;
  value = c.live;
  length = 0;
  objects = c.objects;
  addresses = c.addresses;
}

abbrev pub told : Result Answer Refusal → Told
told (Ok Says.Done) = tells 0 0 0
told (Ok (Says.Live c)) = tells_counts c
told (Ok Says.Sound) = tells 0 0 1
told (Ok Says.Unsound) = tells 0 0 0
told (Ok Says.Yes) = tells 0 0 1
told (Ok Says.No) = tells 0 0 0
told (Ok Says.Null) = tells 0 0 0
told (Ok (Says.Integer v)) = tells_integer v
told (Ok (Says.Object Traced n)) = tells 0 2 n
told (Ok (Says.Object Untraced n)) = tells 0 3 n
told (Ok (Says.Code w)) = tells 0 4 w
told (Ok (Says.Number w)) = tells 0 0 w
told (Ok (Says.Written n)) = tells_length n
told (Err k) = tells (number k) 0 0
