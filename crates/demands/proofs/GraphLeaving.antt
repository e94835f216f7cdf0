-- What a session call on the graph answers and leaves: a property of outcomes that each answer and each
-- change of a call has holds of every call's outcome. One walk through the calls for every such property.
use Prim.Native.Nat.{ℕ}
use native.Mathlib.Omega.{arith}
use mathlib.Core.Path.{◌≡◌, refl, subst}
use mathlib.Core.Bool.{Bool, true, false}
use mathlib.Core.List.{List}
use lib.ListN.{length, get_or, set}
use Rattle.model.specs.declared.Kind.{Kind}
use Rattle.model.specs.declared.Refusal.{Refusal}
use Rattle.model.specs.declared.Answer.{Answer}
use Rattle.model.specs.declared.Call.{Call}
use Rattle.model.specs.declared.Refusal.TheVariants as Why
use Rattle.model.specs.declared.Answer.TheVariants as Says
use Rattle.model.specs.declared.Call.TheVariants as Ask
use Rattle.model.specs.Answers.{Outcome, says, refuse, refused}
use Rattle.model.specs.Graph.{Plain, integer, null, code, Value, plain, object, Object, traced, untraced, Graph, nth}
use Rattle.model.specs.Graph.{root_value}
use Rattle.model.specs.GraphCalls.{graph_with_root, with_object, grown, by_kind, on_object, plain_answer}
use Rattle.model.specs.GraphCalls.{graph_with_text, inspected, plain_form, object_form, value_form, graph_step}
use Rattle.model.specs.Texts.{textless, Piece, Spelled, whole, broken, max_depth, value_pieces, spelled, over, writes}
use Rattle.model.specs.GraphCalls.{graph_planted, graph_reads}
use Rattle.model.specs.Reading as Reading
use Rattle.model.specs.Reading.{Parsed, tree, parsed}
use Rattle.model.specs.ReadFaults.{ReadFault, breach, cut, deep}
use Rattle.model.specs.Trees.{Tree}
use Rattle.theory.proofs.ReadJudged.{first-read-fault}
use Rattle.theory.proofs.Tests.{cond-holds}
use Rattle.theory.proofs.Texts.{Faults, textless-same, pieces_faults, broken-fault}

-- the refusals that a graph can give
abbrev pub of_graph : Refusal → Bool
of_graph Why.Shape = false
of_graph Why.Root = true
of_graph Why.Count = true
of_graph Why.Range = true
of_graph Why.Object = true
of_graph Why.Kind = true
of_graph Why.Field = true
of_graph Why.Damaged = false
of_graph Why.Room = false
of_graph Why.Value = true
of_graph Why.Deep = true
of_graph Why.Text = true

abbrev Mild : Refusal → Type 0
Mild k = of_graph k ≡ true

-- what has no text in a graph is VALUE
form_mild : (g : Graph) (v : Value) (k : Refusal) → value_form g v ≡ textless k → Mild k
form_mild g (plain p) k e = plain_mild p k e
  where
    plain_mild : (p : Plain) (k : Refusal) → plain_form p ≡ textless k → Mild k
    plain_mild (integer v) k e = let z : ◌≡◌ {A = ℕ} 0 1 = cc in absurd (omega arith)
    plain_mild null k e = subst Mild (textless-same Why.Value k e) refl
    plain_mild (code w) k e = subst Mild (textless-same Why.Value k e) refl
form_mild g (object i) k e = object_mild (nth g i) k e
  where
    object_mild : (b : Object) (k : Refusal) → object_form b ≡ textless k → Mild k
    object_mild (traced vs) k e = let z : ◌≡◌ {A = ℕ} 0 1 = cc in absurd (omega arith)
    object_mild (untraced ws) k e = subst Mild (textless-same Why.Value k e) refl

-- the answers that change nothing, and the changes, each with what the call knows of its object
pub record GraphKept (g : Graph) (P : Outcome Graph → Type 0) : Type 0 where
  pub refused_with : (k : Refusal) → of_graph k ≡ true → P (refused k g)
  pub answered : (a : Answer) → P (says a g)
  pub set-plain : (r : ℕ) (p : Plain) → P (says Says.Done (graph_with_root g r (plain p)))
  pub copied : (from to : ℕ) → P (says Says.Done (graph_with_root g to (root_value g from)))
  pub loaded : (i f to : ℕ) (vs : List Value) → nth g i ≡ traced vs
      → P (says Says.Done (graph_with_root g to (get_or vs f (plain null))))
  pub stored : (i f from : ℕ) (vs : List Value) → nth g i ≡ traced vs
      → P (says Says.Done (with_object g i (traced (set vs f (root_value g from)))))
  pub raw_written : (i f x : ℕ) (ws : List ℕ) → P (says Says.Done (with_object g i (untraced (set ws f x))))
  pub text_written : (t : List ℕ) (n : ℕ) → P (says (Says.Written n) (graph_with_text t g))
  pub allocated : (k : Kind) (n r : ℕ) → P (says Says.Done (grown k n r g))
  pub planted : (t : Tree) (r : ℕ) → P (says Says.Done (graph_planted t r g))

data Holds (P : Outcome Graph → Type 0) : Outcome Graph → Type 0 where
  holds : {o : Outcome Graph} → P o → Holds P o

module _ (g : Graph) (P : Outcome Graph → Type 0) (h : GraphKept g P) where
  after : (b : Bool) (k : Refusal) (o : Outcome Graph) → of_graph k ≡ true → Holds P o → Holds P (refuse b k g o)
  unfolding refuse
  after b k o e p = cond-holds (Holds P) b _ o (λ t. holds (h.refused_with k e)) (λ t. p)

  by_kind_lem : (b : Object) (t : List Value → Outcome Graph) (u : List ℕ → Outcome Graph)
      → ((vs : List Value) → b ≡ traced vs → Holds P (t vs)) → ((ws : List ℕ) → Holds P (u ws)) → Holds P (by_kind b t u)
  by_kind_lem (traced vs) t u f w = f vs refl
  by_kind_lem (untraced ws) t u f w = w ws

  on_object_lem : (v : Value) (t : ℕ → List Value → Outcome Graph) (u : ℕ → List ℕ → Outcome Graph)
      → ((i : ℕ) (vs : List Value) → nth g i ≡ traced vs → Holds P (t i vs)) → ((i : ℕ) (ws : List ℕ) → Holds P (u i ws))
      → Holds P (on_object g v t u)
  unfolding on_object
  on_object_lem (plain p) t u f w = holds (h.refused_with Why.Object refl)
  on_object_lem (object i) t u f w = by_kind_lem (nth g i) (t i) (u i) (f i) (w i)

  inspects : (v : Value) → Holds P (inspected g v)
  unfolding inspected
  inspects (plain p) = holds (h.answered (plain_answer p))
  inspects (object i) =
      by_kind_lem (nth g i) _ _ (λ vs e. holds (h.answered _))
      (λ ws. holds (h.answered _))

  writes-holds : (ps : List Piece) (x : Spelled) → Faults Mild ps → spelled (length g.text) ps ≡ x
      → Holds P (writes (λ t. graph_with_text t g) g g.text x)
  writes-holds ps (whole bs) m e = holds (h.text_written (over bs g.text) (length bs))
  writes-holds ps (broken k) m e = holds (h.refused_with k (broken-fault Mild refl (length g.text) ps k m e))

  reads-holds : (r : ℕ) (x : Parsed) → parsed g.text ≡ x → Holds P (graph_reads r g x)
  reads-holds r (tree t) e = holds (h.planted t r)
  reads-holds r (Reading.broken k) e = holds (h.refused_with k (fault_mild (first-read-fault g.text k e).is_fault))
    where
      fault_mild : {p : ℕ} {k : Refusal} → ReadFault g.text p k → Mild k
      fault_mild (breach p l f) = refl
      fault_mild (cut f) = refl
      fault_mild (deep p l o n) = refl

  step-holds : (c : Call) → Holds P (graph_step c g)
  unfolding graph_step
  step-holds Ask.Collect = after _ Why.Root _ refl (holds (h.answered _))
  step-holds Ask.Check = after _ Why.Root _ refl (holds (h.answered _))
  step-holds (Ask.Allocate k n r) = after _ Why.Root _ refl (after _ Why.Count _ refl (holds (h.allocated k n r)))
  step-holds (Ask.SetInteger r v) = after _ Why.Root _ refl (after _ Why.Range _ refl (holds (h.set-plain r (integer v))))
  step-holds (Ask.SetNull r) = after _ Why.Root _ refl (holds (h.set-plain r null))
  step-holds (Ask.SetCode r w) = after _ Why.Root _ refl (after _ Why.Range _ refl (holds (h.set-plain r (code w))))
  step-holds (Ask.Copy from to) = after _ Why.Root _ refl (holds (h.copied from to))
  step-holds (Ask.Load r f to) =
      after _ Why.Root _ refl
      (on_object_lem (root_value g r) _ _ (λ i vs e. after _ Why.Field _ refl (holds (h.loaded i f to vs e)))
      (λ i ws. holds (h.refused_with Why.Kind refl)))
  step-holds (Ask.Store r f from) =
      after _ Why.Root _ refl
      (on_object_lem (root_value g r) _ _ (λ i vs e. after _ Why.Field _ refl (holds (h.stored i f from vs e)))
      (λ i ws. holds (h.refused_with Why.Kind refl)))
  step-holds (Ask.RawRead r f) =
      after _ Why.Root _ refl (on_object_lem (root_value g r) _ _ (λ i vs e. holds (h.refused_with Why.Kind refl))
      (λ i ws. after _ Why.Field _ refl (holds (h.answered _))))
  step-holds (Ask.RawWrite r f x) =
      after _ Why.Root _ refl
      (on_object_lem (root_value g r) _ _ (λ i vs e. holds (h.refused_with Why.Kind refl))
      (λ i ws. after _ Why.Field _ refl (holds (h.raw_written i f x ws))))
  step-holds (Ask.Same r q) = after _ Why.Root _ refl (holds (h.answered _))
  step-holds (Ask.Inspect r) = after _ Why.Root _ refl (inspects (root_value g r))
  step-holds (Ask.Read r) = after _ Why.Root _ refl (reads-holds r (parsed g.text) refl)
  step-holds (Ask.Write r) =
      after _ Why.Root _ refl
      (writes-holds (value_pieces (value_form g) max_depth (root_value g r)) _
      (pieces_faults (value_form g) Mild refl (form_mild g) max_depth (root_value g r)) refl)

  pub graph-step : (c : Call) → P (graph_step c g)
  graph-step c = go (graph_step c g) (step-holds c)
    where
      go : (o : Outcome Graph) → Holds P o → P o
      go o (holds p) = p
