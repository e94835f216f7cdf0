-- Demand 3, of any layout that writes both kinds and of the tuple layout.
use Prim.Native.Nat.{ℕ, ◌<◌}
use native.Mathlib.Omega.{arith}
use mathlib.Core.Path.{◌≡◌, refl, sym, ◌∙◌, subst}
use mathlib.Core.Logic.{⊎_elim, ◌↔◌}
use mathlib.Core.List.{List, []}
use lib.ListN.{length}
use Rattle.model.specs.declared.Refusal.TheVariants as Why
use Rattle.model.specs.declared.Answer.TheVariants as Says
use Rattle.model.specs.Demand3 as D3
use Rattle.model.specs.Graph.{Graph, empty_graph, total_words, graph_order, graph_counts}
use Rattle.model.specs.GraphCalls.{graph_with_text, graph_asked, graph_after}
use Rattle.model.specs.Headers.{Layout, WritesBoth, Adjacent, tuple}
use Rattle.model.specs.Represents.{Represents}
use Rattle.model.specs.Sessions.{step, machine, Asked, asked, after}
use Rattle.model.specs.Words.{State, with_text, half_words}
use Rattle.demands.proofs.Room.{Full}
use Rattle.theory.proofs.Deciding.{sound_tests, tests_sound}
use Rattle.demands.proofs.GraphAnswers.{graph-room}
use Rattle.demands.proofs.GraphClosed.{session-known}
use Rattle.demands.proofs.GraphReach.{lists-whole, live-listed, objects-listed, addresses-listed}
use Rattle.theory.proofs.Headers.{tuple_lawful, tuple_adjacent}
use Rattle.demands.proofs.KeepSound.{stays-sound}
use Rattle.theory.proofs.PlainAnswers.{not-room, plainly}
use Rattle.demands.proofs.Represents.{represents_known, Agrees, text_represents}
use Rattle.demands.proofs.Session.{Stands, lends, step_exceeds, asked-goes, runs, after_represents, session_refuses}
use Rattle.demands.proofs.Standing.{sound_represents}
use Rattle.demands.proofs.Start.{begun_represents, begun-half}

-- ---- what a collection counts of a graph whose reachable objects are all its own

live-counts : (g : Graph) → ((i : ℕ) → D3.Reachable g i → i < length g.objects) → D3.LiveCounts g
live-counts g known = record {
  listable = (graph_order g (total_words g.objects), lists-whole g known);
  live = live-listed g known;
  objects = objects-listed g known;
  addresses = addresses-listed g known;
}

-- bytes that are lent are no words of it
text-live : (t : List ℕ) (g : Graph) → (graph_counts (graph_with_text t g)).live ≡ (graph_counts g).live
unfolding graph_counts graph_order
text-live t g = refl

-- ---- "no room"

module _ (Y : Layout) (law : WritesBoth Y) (near : Adjacent Y) where
  module _ (c : Asked) (s : State) (g : Graph) (m : Stands Y law near s g) where
    -- the state and the graph with the bytes that the call is lent
    abbrev t : State
    t = with_text c.text s

    abbrev q : Graph
    q = graph_with_text c.text g

    mt : Represents Y t q
    mt = lends Y law near c s g m

    abbrev S : ℕ
    S = half_words s.heap

    full_exceeds : Full Y c.call t q (asked (machine Y) c s) → D3.Exceeds S g c
    full_exceeds u = record {
      unrefused = λ k x. plainly Says.Done k (sym u.carried ∙ x);
      words = u.words;
      needs = u.needs;
      exceed = omega (arith, u.exceed, text-live c.text g);
    }

    exceeds_full : D3.Exceeds S g c → (asked (machine Y) c s).answer ≡ D3.no_room
    exceeds_full x =
        step_exceeds Y law near c.call t q mt x.words x.needs x.unrefused (omega (arith, x.exceed, text-live c.text g))

    room_here : ((asked (machine Y) c s).answer ≡ D3.no_room) ↔ D3.Exceeds S g c
    room_here = (
      λ e.
          ⊎_elim (λ (u : Full Y c.call t q (asked (machine Y) c s)). full_exceeds u)
          (λ (a : Agrees Y (asked (machine Y) c s) (graph_asked c g)). absurd (graph-room c.call q (sym a.0 ∙ e)))
          (asked-goes Y law near c s g m),
      exceeds_full,
    )

  stands : (s : State) (g : Graph) → Represents Y s g → Stands Y law near s g
  stands s g m = text_represents Y s g m []

  room : (s : State) (g : Graph) → Represents Y s g → D3.RoomExactly (machine Y) (half_words s.heap) s g
  room s g m cs c =
      let z = after_represents Y law near cs s g (stands s g m) in
      subst (λ n. ((asked (machine Y) c (after (machine Y) cs s)).answer ≡ D3.no_room)
      ↔ D3.Exceeds n (graph_after (D3.carried_out (machine Y) cs s) g) c)
      z.1
      (room_here c (after (machine Y) cs s) (graph_after (D3.carried_out (machine Y) cs s) g) (stands _ _ z.0))

  never_shape_lem : (s : State) (g : Graph) → Represents Y s g → D3.Never (machine Y) Why.Shape s
  never_shape_lem s g m cs = session_refuses Y law near cs s g (stands s g m) Why.Shape (not-room Why.Shape refl) refl

  never_damaged_lem : (s : State) (g : Graph) → Represents Y s g → D3.Never (machine Y) Why.Damaged s
  never_damaged_lem s g m cs = session_refuses Y law near cs s g (stands s g m) Why.Damaged (not-room Why.Damaged refl) refl

  pub demand3_of : D3.Demand3 Y (machine Y)
  demand3_of = record {
    same_answers = λ small large g m m⁺ l cs k. runs Y law near cs k small large g (stands small g m) (stands large g m⁺) l;
    room = room;
    live = λ s g m. live-counts g (represents_known Y s g m);
    never_shape = never_shape_lem;
    never_damaged = never_damaged_lem;
    keeps_sound = λ s c h. tests_sound Y (step Y c s).left (stays-sound Y s (sound_tests Y s h) law c);
    stands = λ s g cs m. (after_represents Y law near cs s g (stands s g m)).0;
    every = λ s w h. (_, sound_represents Y near s (sound_tests Y s h) w);
    begins = begun_represents Y;
    fresh_answers = λ small large e l cs k.
        runs Y law near cs k (D3.begun (machine Y) small) (D3.begun (machine Y) large) (empty_graph small.null_roots)
        (stands _ _ (begun_represents Y small))
        (stands _ _ (subst (λ n. Represents Y (D3.begun (machine Y) large) (empty_graph n)) (sym e) (begun_represents Y large)))
        (omega (arith, begun-half Y small, begun-half Y large));
    fresh_room = λ e.
        subst (λ n. D3.RoomExactly (machine Y) n (D3.begun (machine Y) e) (empty_graph e.null_roots)) (begun-half Y e)
        (room (D3.begun (machine Y) e) (empty_graph e.null_roots) (begun_represents Y e));
    fresh_live = λ cs n. live-counts (graph_after cs (empty_graph n)) (session-known cs n);
    stays_sound = λ e cs. (after_represents Y law near cs (D3.begun (machine Y) e) (empty_graph e.null_roots) (stands _ _ (begun_represents Y e))).0.ok;
    fresh_never_shape = λ e. never_shape_lem (D3.begun (machine Y) e) (empty_graph e.null_roots) (begun_represents Y e);
    fresh_never_damaged = λ e. never_damaged_lem (D3.begun (machine Y) e) (empty_graph e.null_roots) (begun_represents Y e);
  }

pub demand3 : D3.Demand3 tuple (machine tuple)
demand3 = demand3_of tuple tuple_lawful.writes tuple_adjacent
