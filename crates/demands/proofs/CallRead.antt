-- Read in the heap and in the graph that it stands for: the same tree is planted in both.
use Prim.Native.Nat.{ℕ, ◌≤◌, ◌<◌}
use native.Mathlib.Omega.{arith}
use mathlib.Core.Path.{◌≡◌, refl, sym, ap, ◌∙◌, subst}
use mathlib.Core.Logic.{◌⊎◌, inr, ⊎_elim}
use lib.ListN.{length}
use borrow.Author.Tests.{le-leb, lt-leb}
use Rattle.std.specs.Prelude.{Ok, Err}
use Rattle.model.specs.declared.Refusal.{Refusal}
use Rattle.model.specs.declared.Refusal.TheVariants as Why
use Rattle.model.specs.declared.Answer.TheVariants as Says
use Rattle.model.specs.declared.Call.TheVariants as Ask
use Rattle.model.specs.Answers.{refuse}
use Rattle.model.specs.Calls as Calls
use Rattle.model.specs.Calls.{reads, with_room}
use Rattle.model.specs.Changes.{planted}
use Rattle.model.specs.Demand3 as D3
use Rattle.model.specs.Graph.{Graph}
use Rattle.model.specs.GraphCalls.{graph_planted, graph_reads, graph_step}
use Rattle.model.specs.Headers.{Layout, WritesBoth, Adjacent}
use Rattle.model.specs.Reading.{Parsed, tree, broken, parsed}
use Rattle.model.specs.Represents.{Represents}
use Rattle.model.specs.Sessions.{step}
use Rattle.model.specs.Texts.{max_depth}
use Rattle.model.specs.Trees.{Tree, tree_words}
use Rattle.model.specs.Words.{State}
use Rattle.demands.proofs.LaidRepresents.{planted_represents}
use Rattle.theory.proofs.ReadJudged.{parsed-text}
use Rattle.demands.proofs.Represents.{parts, Agrees}
use Rattle.demands.proofs.Room.{Full, room_agrees}
use Rattle.theory.proofs.Shape.{unshaped}
use Rattle.theory.proofs.Soundness.{SoundTests}
use Rattle.theory.proofs.Tests.{decide}

module _ (r : ℕ) where
  -- with a legal root it goes by the text
  pub read_is : (Y : Layout) (s : State) → SoundTests Y s → r < length s.roots → step Y (Ask.Read r) s ≡ reads Y r s (parsed s.text)
  unfolding step Calls.read refuse
  read_is Y s h l = rw (unshaped s h.shape, lt-leb (length s.roots) r l)

  graph-read-is : (g : Graph) → r < length g.roots → graph_step (Ask.Read r) g ≡ graph_reads r g (parsed g.text)
  unfolding graph_step refuse
  graph-read-is g l = rw (lt-leb (length g.roots) r l)

  -- a text that is a tree's is a change that needs the tree's words, and is carried out
  pub read-tree : (Y : Layout) (s : State) → SoundTests Y s → r < length s.roots → (t : Tree) → parsed s.text ≡ tree t
      → step Y (Ask.Read r) s ≡ with_room Y (tree_words t) (planted Y t r) s
  read-tree Y s h l t e = read_is Y s h l ∙ ap (reads Y r s) e

  pub read_carried : (g : Graph) → r < length g.roots → (t : Tree) → parsed g.text ≡ tree t → (graph_step (Ask.Read r) g).answer ≡ Ok Says.Done
  read_carried g l t e = ap (λ o. o.answer) (graph-read-is g l ∙ ap (graph_reads r g) e)

  -- and one that is carried out has a legal root
  pub read_legal : (g : Graph) → ((j : Refusal) → (graph_step (Ask.Read r) g).answer ≡ Err j → ⊥) → r < length g.roots
  unfolding graph_step refuse
  read_legal g f =
      ⊎_elim (λ (a : r < length g.roots). a)
      (λ (a : length g.roots ≤ r). absurd (f Why.Root (rw (le-leb (length g.roots) r a)))) (decide r (length g.roots))

  pub read_agrees : (Y : Layout) → WritesBoth Y → Adjacent Y → (s : State) (g : Graph) → Represents Y s g
      → Full Y (Ask.Read r) s g (step Y (Ask.Read r) s) ⊎ Agrees Y (step Y (Ask.Read r) s) (graph_step (Ask.Read r) g)
  unfolding step Calls.read graph_step refuse
  read_agrees Y law near s g m =
      ⊎_elim
      (λ (l : r < length s.roots).
      let l' : r < length g.roots = omega (arith, m.count) in
      subst (λ o. Full Y (Ask.Read r) s g o ⊎ Agrees Y o (graph_step (Ask.Read r) g)) (sym (read_is Y s (parts m) l))
      (subst (λ q. Full Y (Ask.Read r) s g (reads Y r s (parsed s.text)) ⊎ Agrees Y (reads Y r s (parsed s.text)) q)
      (sym (graph-read-is g l' ∙ ap (λ t. graph_reads r g (parsed t)) (sym m.text)))
      (by l' (parsed s.text) refl)))
      (λ (l : length s.roots ≤ r).
      inr (rw (unshaped s (parts m).shape, le-leb (length s.roots) r l, le-leb (length g.roots) r (omega (arith, m.count))) (refl, m)))
      (decide r (length s.roots))
    where
      by : r < length g.roots → (x : Parsed) → parsed s.text ≡ x
          → Full Y (Ask.Read r) s g (reads Y r s x) ⊎ Agrees Y (reads Y r s x) (graph_reads r g x)
      by l (broken k) e = inr (refl, m)
      by l (tree t) e =
          room_agrees Y near (Ask.Read r) (tree_words t) (planted Y t r) s g (graph_planted t r g) m (ap D3.needed_by e)
          (read_carried g l t (ap parsed (sym m.text) ∙ e))
          (λ u q w. planted_represents Y law near t max_depth r u g q (parsed-text s.text t e).fits w)
