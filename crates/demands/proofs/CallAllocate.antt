-- An allocation in the heap and in the graph that it stands for.
use Prim.Native.Nat.{ℕ, ◌+◌, ◌≤◌, ◌<◌}
use native.Mathlib.Omega.{arith}
use mathlib.Core.Path.{◌≡◌, refl}
use mathlib.Core.Logic.{◌⊎◌, inr, ⊎_elim}
use lib.ListN.{length}
use borrow.Author.Tests.{lt-ltb, le-ltb, le-leb, lt-leb}
use Rattle.std.specs.Prelude.{Ok, Err}
use Rattle.model.specs.declared.Kind.{Kind}
use Rattle.model.specs.declared.Refusal.{Refusal}
use Rattle.model.specs.declared.Refusal.TheVariants as Why
use Rattle.model.specs.declared.Answer.TheVariants as Says
use Rattle.model.specs.declared.Call.TheVariants as Ask
use Rattle.model.specs.Calls as Calls
use Rattle.model.specs.Calls.{with_room}
use Rattle.model.specs.Answers.{refuse}
use Rattle.model.specs.Changes.{placed}
use Rattle.model.specs.Graph.{Graph}
use Rattle.model.specs.GraphCalls.{grown, graph_step}
use Rattle.model.specs.Headers.{Layout, WritesBoth, Adjacent}
use Rattle.model.specs.Limits.{max_fields}
use Rattle.model.specs.Represents.{Represents}
use Rattle.model.specs.Sessions.{step}
use Rattle.model.specs.Words.{State}
use Rattle.demands.proofs.CallPlace.{place_represents}
use Rattle.demands.proofs.Represents.{parts, Agrees}
use Rattle.demands.proofs.Room.{Full, room_agrees}
use Rattle.theory.proofs.Shape.{unshaped}
use Rattle.theory.proofs.Soundness.{SoundTests}
use Rattle.theory.proofs.Tests.{decide}

module _ (k : Kind) (n r : ℕ) where
  -- with a legal root and count it is a change that needs n + 1 words
  pub allocate-is : (Y : Layout) (s : State) → SoundTests Y s → r < length s.roots → n ≤ max_fields
      → step Y (Ask.Allocate k n r) s ≡ with_room Y (n + 1) (placed Y k n r) s
  unfolding step Calls.allocate refuse
  allocate-is Y s h l u = rw (unshaped s h.shape, lt-leb (length s.roots) r l, le-ltb max_fields n u)

  -- which the graph carries out
  pub allocate_carried : (g : Graph) → r < length g.roots → n ≤ max_fields → (graph_step (Ask.Allocate k n r) g).answer ≡ Ok Says.Done
  unfolding graph_step refuse
  allocate_carried g a b = rw (lt-leb (length g.roots) r a, le-ltb max_fields n b)

  -- and one that is carried out has such a root and count
  pub allocation_legal : (g : Graph) → ((j : Refusal) → (graph_step (Ask.Allocate k n r) g).answer ≡ Err j → ⊥)
      → (r < length g.roots) × (n ≤ max_fields)
  unfolding graph_step refuse
  allocation_legal g f =
      ⊎_elim
      (λ (a : r < length g.roots).
      ⊎_elim
      (λ (b : max_fields < n). absurd (f Why.Count (rw (lt-leb (length g.roots) r a, lt-ltb max_fields n b))))
      (λ (b : n ≤ max_fields). (a, b))
      (decide max_fields n))
      (λ (a : length g.roots ≤ r). absurd (f Why.Root (rw (le-leb (length g.roots) r a))))
      (decide r (length g.roots))

  pub allocate_agrees : (Y : Layout) → WritesBoth Y → Adjacent Y → (s : State) (g : Graph) → Represents Y s g
      → Full Y (Ask.Allocate k n r) s g (step Y (Ask.Allocate k n r) s)
      ⊎ Agrees Y (step Y (Ask.Allocate k n r) s) (graph_step (Ask.Allocate k n r) g)
  unfolding step Calls.allocate graph_step refuse
  allocate_agrees Y law near s g m =
      ⊎_elim
      (λ (l : r < length s.roots).
      let l' : r < length g.roots = omega (arith, m.count) in
      ⊎_elim
      (λ (u : max_fields < n).
      inr (rw (unshaped s (parts m).shape, lt-leb (length s.roots) r l, lt-ltb max_fields n u, lt-leb (length g.roots) r l') (refl, m)))
      (λ (u : n ≤ max_fields).
      let f = room_agrees Y near (Ask.Allocate k n r) (n + 1) (placed Y k n r) s g (grown k n r g) m refl (allocate_carried g l' u)
      (λ t q w. place_represents Y law t g q k n u w r) in
      rw (unshaped s (parts m).shape, lt-leb (length s.roots) r l, le-ltb max_fields n u, lt-leb (length g.roots) r l') f)
      (decide max_fields n))
      (λ (l : length s.roots ≤ r).
      inr (rw (unshaped s (parts m).shape, le-leb (length s.roots) r l, le-leb (length g.roots) r (omega (arith, m.count))) (refl, m)))
      (decide r (length s.roots))
