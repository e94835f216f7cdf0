-- A change that needs words: what it comes to in a sound state, when it is "no room", and that it agrees with the graph.
use Prim.Native.Nat.{ℕ, ◌+◌, ◌-◌, ◌≤◌, ◌<◌}
use native.Mathlib.Omega.{arith}
use mathlib.Core.Path.{◌≡◌, refl}
use mathlib.Core.Logic.{◌⊎◌, inl, inr, ⊎_elim, ◌↔◌}
use mathlib.Core.Option.{some}
use borrow.Author.Tests.{le-leb, lt-leb}
use Rattle.std.specs.Prelude.{Ok}
use Rattle.model.specs.declared.Call.{Call}
use Rattle.model.specs.declared.Refusal.TheVariants as Why
use Rattle.model.specs.declared.Answer.TheVariants as Says
use Rattle.model.specs.Calls.{with_room}
use Rattle.model.specs.Answers.{Outcome, says, refuse, refused}
use Rattle.model.specs.Changes.{spare}
use Rattle.model.specs.Collection.{live, collected}
use Rattle.model.specs.Demand3 as D3
use Rattle.model.specs.Graph.{Graph, graph_counts}
use Rattle.model.specs.GraphCalls.{graph_step}
use Rattle.model.specs.Headers.{Layout, Adjacent}
use Rattle.model.specs.Represents.{Represents}
use Rattle.model.specs.Words.{State, half_words}
use Rattle.demands.proofs.CallCollect.{collect_represents, live_same}
use Rattle.theory.proofs.Collected.{live-is, new_room, new_first, new_free}
use Rattle.theory.proofs.Order.{order_at-fits, order-fits}
use Rattle.theory.proofs.PlainAnswers.{plainly}
use Rattle.demands.proofs.Represents.{parts, Agrees}
use Rattle.theory.proofs.Soundness.{SoundTests, sound-whole}
use Rattle.theory.proofs.Tests.{decide}

module _ (Y : Layout) (s : State) (h : SoundTests Y s) where
  -- the words that are free after a collection; what fits now would fit then
  pub spare-after : spare (collected Y s) ≡ half_words s.heap - live Y s
  spare-after = omega (arith, new_first Y s h, new_room Y s h, new_free Y s h)

  spare_grows : spare s ≤ half_words s.heap - live Y s
  spare_grows = omega (arith, live-is Y s h, order_at-fits Y s h (half_words s.heap), h.shape.low, h.shape.high)

-- what a change that needs n words comes to
pub data Roomed (Y : Layout) (n : ℕ) (change : State → State) (s : State) : Outcome State → Type 0 where
  now : n ≤ spare s → Roomed Y n change s (says Says.Done (change s))
  later : n ≤ spare (collected Y s) → Roomed Y n change s (says Says.Done (change (collected Y s)))
  never_fits : half_words s.heap < live Y s + n → Roomed Y n change s (refused Why.Room (collected Y s))

module _ (Y : Layout) (n : ℕ) (change : State → State) (s : State) (h : SoundTests Y s) where
  pub roomed : Roomed Y n change s (with_room Y n change s)
  unfolding refuse
  roomed =
      ⊎_elim
      (λ (f : spare s < n).
      rw (lt-leb n (spare s) f, sound-whole Y s h)
      (⊎_elim
      (λ (e : spare (collected Y s) < n).
      rw (lt-leb n (spare (collected Y s)) e) (never_fits (omega (arith, spare-after Y s h, live-is Y s h, order-fits Y s h))))
      (λ (e : n ≤ spare (collected Y s)). rw (le-leb n (spare (collected Y s)) e) (later e))
      (decide (spare (collected Y s)) n)))
      (λ (f : n ≤ spare s). rw (le-leb n (spare s) f) (now f))
      (decide (spare s) n)

  -- "no room" exactly when live words and needed words exceed the half
  pub roomed_exactly : ((with_room Y n change s).answer ≡ D3.no_room) ↔ (half_words s.heap < live Y s + n)
  roomed_exactly = go (with_room Y n change s) roomed
    where
      go : (o : Outcome State) → Roomed Y n change s o → (o.answer ≡ D3.no_room) ↔ (half_words s.heap < live Y s + n)
      go o (now f) = (λ e. absurd (plainly Says.Done Why.Room e), λ e. absurd (omega (arith, spare_grows Y s h, live-is Y s h, order-fits Y s h)))
      go o (later f) = (λ e. absurd (plainly Says.Done Why.Room e), λ e. absurd (omega (arith, spare-after Y s h, live-is Y s h, order-fits Y s h)))
      go o (never_fits f) = (λ e. f, λ e. refl)

-- a call that the graph carries out and the heap answers "no room", and goes on standing for the graph
pub record Full (Y : Layout) (c : Call) (s : State) (g : Graph) (o : Outcome State) : Type 0 where
  pub words : ℕ
  pub needs : D3.needed c s.text ≡ some words
  pub carried : (graph_step c g).answer ≡ Ok Says.Done
  pub exceed : half_words s.heap < (graph_counts g).live + words
  pub answers : o.answer ≡ D3.no_room
  pub stands : Represents Y o.left g

-- a change that the graph makes too
pub room_agrees : (Y : Layout) (near : Adjacent Y) (c : Call) (n : ℕ) (change : State → State) (s : State) (g q : Graph) → Represents Y s g
    → D3.needed c s.text ≡ some n → (graph_step c g).answer ≡ Ok Says.Done
    → ((t : State) → Represents Y t g → n ≤ spare t → Represents Y (change t) q)
    → Full Y c s g (with_room Y n change s) ⊎ Agrees Y (with_room Y n change s) (says Says.Done q)
room_agrees Y near c n change s g q m e d f = go (with_room Y n change s) (roomed Y n change s (parts m))
  where
    go : (o : Outcome State) → Roomed Y n change s o → Full Y c s g o ⊎ Agrees Y o (says Says.Done q)
    go o (now l) = inr (refl, f s m l)
    go o (later l) = inr (refl, f (collected Y s) (collect_represents Y near s g m) l)
    go o (never_fits l) =
        inl (record {
          words = n;
          needs = e;
          carried = d;
          exceed = omega (arith, live_same Y near s g m);
          answers = refl;
          stands = collect_represents Y near s g m;
        })
