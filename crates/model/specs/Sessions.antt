-- Sessions: one call after another, each lent bytes of its own. Document 01, "The calls"; document 02, Q-2.
use Rattle.std.specs.Prelude.{ℕ, List, [], ◌∷◌, map, Result}
use Rattle.model.specs.declared.Call.{Call}
use Rattle.model.specs.declared.Call.TheVariants as Ask
use Rattle.model.specs.declared.Refusal.{Refusal}
use Rattle.model.specs.declared.Answer.{Answer}
use Rattle.model.specs.Words.{State, with_text}
use Rattle.model.specs.Headers.{Layout}
use Rattle.model.specs.Answers.{Outcome}
use Rattle.model.specs.Calls as Calls
use Rattle.model.specs.Calls.{fresh}

-- one session call
unfoldable pub step : Layout → Call → State → Outcome State
step Y Ask.Collect s = Calls.collect Y s
step Y Ask.Check s = Calls.check Y s
step Y (Ask.Allocate kind fields to) s = Calls.allocate Y kind fields to s
step Y (Ask.SetInteger to value) s = Calls.set_integer to value s
step Y (Ask.SetNull to) s = Calls.set_null to s
step Y (Ask.SetCode to word) s = Calls.set_code to word s
step Y (Ask.Copy from to) s = Calls.copy from to s
step Y (Ask.Load object field to) s = Calls.load Y object field to s
step Y (Ask.Store object field from) s = Calls.store Y object field from s
step Y (Ask.RawRead object field) s = Calls.raw_read Y object field s
step Y (Ask.RawWrite object field number) s = Calls.raw_write Y object field number s
step Y (Ask.Same one other) s = Calls.same one other s
step Y (Ask.Inspect root) s = Calls.inspect Y root s
step Y (Ask.Write root) s = Calls.write Y root s
step Y (Ask.Read to) s = Calls.read Y to s

-- what the demands are about: a way to start a heap and to answer a call. Each demand is stated of any machine, so that it
-- can be held against a wrong one too, and proved of this library's, `machine`.
pub record Machine : Type 0 where
  pub fresh : State → Outcome State
  pub step : Call → State → Outcome State

abbrev pub machine : Layout → Machine
machine Y = record { fresh = fresh; step = step Y }

-- a call and the bytes that are lent to it; and its answer with these bytes as it left them
pub record Asked : Type 0 where
  pub call : Call
  pub text : List ℕ

pub record Reply : Type 0 where
  pub answer : Result Answer Refusal
  pub text : List ℕ

-- a call that is lent no bytes
abbrev pub alone : Call → Asked
alone c = record { call = c; text = [] }

module _ (M : Machine) where
  -- one call of a session, on a state that is lent its bytes
  abbrev pub asked : Asked → State → Outcome State
  asked c s = M.step c.call (with_text c.text s)

  -- the replies to a list of calls
  unfoldable pub replies : List Asked → State → List Reply
  replies [] s = []
  replies (c ∷ cs) s = let o = asked c s in record { answer = o.answer; text = o.left.text } ∷ replies cs o.left

  -- the answers among them
  abbrev pub answers : List Asked → State → List (Result Answer Refusal)
  answers cs s = map (λ r. r.answer) (replies cs s)

  -- and what the calls leave, once the bytes are the host's again
  unfoldable pub after : List Asked → State → State
  after [] s = with_text [] s
  after (c ∷ cs) s = after cs (asked c s).left
