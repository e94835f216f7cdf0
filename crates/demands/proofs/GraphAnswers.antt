-- The graph never answers SHAPE, DAMAGED or ROOM.
use mathlib.Core.Path.{◌≡◌, refl}
use mathlib.Core.Bool.{true}
use Rattle.std.specs.Prelude.{Result, Ok, Err}
use Rattle.model.specs.declared.Refusal.{Refusal}
use Rattle.model.specs.declared.Call.{Call}
use Rattle.model.specs.declared.Refusal.TheVariants as Why
use Rattle.model.specs.declared.Answer.TheVariants as Says
use Rattle.model.specs.declared.Answer.{Answer}
use Rattle.model.specs.Demand3 as D3
use Rattle.model.specs.Answers.{Outcome}
use Rattle.model.specs.Graph.{Graph}
use Rattle.model.specs.GraphCalls.{graph_step}
use Rattle.demands.proofs.GraphLeaving.{of_graph, graph-step}
use Rattle.theory.proofs.PlainAnswers.{refused-same, plainly}
use Rattle.theory.proofs.Tests.{never}

-- it refuses, if at all, with a refusal that a graph can give
abbrev pub Mild : Outcome Graph → Type 0
Mild o = (k : Refusal) → o.answer ≡ Err k → of_graph k ≡ true

said_mild : (a : Answer) (k : Refusal) → ◌≡◌ {A = Result Answer Refusal} (Ok a) (Err k) → of_graph k ≡ true
said_mild a k e = absurd (plainly a k e)

pub graph_refuses : (c : Call) (g : Graph) → Mild (graph_step c g)
graph_refuses c g = graph-step g Mild (record {
  refused_with = λ j e k q. rw (← refused-same j k q) e;
  answered = λ a. said_mild a;
  set-plain = λ r p. said_mild Says.Done;
  copied = λ from to. said_mild Says.Done;
  loaded = λ i f to vs e. said_mild Says.Done;
  stored = λ i f from vs e. said_mild Says.Done;
  raw_written = λ i f x ws. said_mild Says.Done;
  text_written = λ t n. said_mild (Says.Written n);
  allocated = λ k n r. said_mild Says.Done;
  planted = λ t r. said_mild Says.Done;
}) c

pub graph-room : (c : Call) (g : Graph) → (graph_step c g).answer ≡ D3.no_room → ⊥
graph-room c g e = never (graph_refuses c g Why.Room e) refl
