-- Demand 1, of any layout.
use Prim.Native.Nat.{ℕ}
use native.Mathlib.Omega.{arith}
use mathlib.Core.Path.{◌≡◌, refl, sym, ◌∙◌, subst}
use mathlib.Core.Logic.{inl, inr, ⊎_elim}
use mathlib.Core.Bool.{Bool, true, false, not, cond}
use mathlib.Core.List.{List, [], ◌∷◌}
use lib.ListN.{length}
use Rattle.std.specs.Prelude.{Result, Err}
use Rattle.std.proofs.lemmas.Result.{IfErr-at_err}
use Rattle.model.specs.declared.Refusal.{Refusal}
use Rattle.model.specs.declared.Call.{Call}
use Rattle.model.specs.declared.Place.{Place}
use Rattle.model.specs.declared.Refusal.TheVariants as Why
use Rattle.model.specs.declared.Answer.TheVariants as Says
use Rattle.model.specs.declared.Call.TheVariants as Ask
use Rattle.model.specs.Answers.{Outcome, refuse}
use Rattle.model.specs.Calls.{fresh}
use Rattle.model.specs.Admission.{no_roots}
use Rattle.model.specs.Changes.{root_word}
use Rattle.model.specs.Collection.{collected}
use Rattle.model.specs.Conditions.{Decides}
use Rattle.model.specs.Demand1 as D1
use Rattle.model.specs.Headers.{Layout}
use Rattle.model.specs.Objects.{names}
use Rattle.model.specs.Refusals as Row
use Rattle.model.specs.Sessions.{step, machine}
use Rattle.model.specs.Shape.{bad_length, bad_shape}
use Rattle.model.specs.Window.{window}
use Rattle.model.specs.Words.{State}
use Rattle.theory.proofs.PlainAnswers.{refused-same, plainly}
use Rattle.demands.proofs.Conditions.{roots_decide, object_decides}
use Rattle.theory.proofs.Deciding.{length_decides, shape_decides}
use Rattle.demands.proofs.Judged.{Left, unchanged, recollected, Judged, by_row, by_none, judged_refuse, judged_says}
use Rattle.demands.proofs.Judged.{step-judged}
use Rattle.theory.proofs.Rows.{Settled, refused, passed, settled_refuses}
use Rattle.theory.proofs.Tests.{by_test}

module _ (Y : Layout) where
  judged-settled : (s : State) (qs : List Row.Row) (o : Outcome State) → Judged Y s qs o → Settled qs (D1.Refused o)
  judged-settled s qs o (by_row k f e l) = refused k f e
  judged-settled s qs o (by_none n p) = passed n p

  -- what a refused outcome leaves
  judged-left : (s : State) (qs : List Row.Row) (o : Outcome State) (k : Refusal) → Judged Y s qs o
      → o.answer ≡ Err k
      → Left Y s k o.left
  judged-left s qs o k (by_row j f e l) a = subst (λ z. Left Y s z o.left) (refused-same j k (sym e ∙ a)) l
  judged-left s qs o k (by_none n p) a = absurd (p k a)

  left-unchanged : (s t : State) (k : Refusal) → Left Y s k t → (k ≡ Why.Room → ⊥) → t ≡ s
  left-unchanged s t k (unchanged n e) f = e
  left-unchanged s t k (recollected q e) f = absurd (f q)

  left-collected : (s t : State) → Left Y s Why.Room t → t ≡ collected Y s
  left-collected s t (unchanged n e) = absurd (n refl)
  left-collected s t (recollected q e) = e

  one-refusal : (o : Outcome State) (j k : Refusal) → D1.Refused o j → D1.Refused o k → j ≡ k
  one-refusal o j k a b = refused-same j k (sym a ∙ b)

  fresh-judged : (s : State) → Judged Y s (Row.fresh_rows s) (fresh s)
  unfolding fresh
  fresh-judged s = judged_refuse Y s _ Why.Shape _ _ _ refl (length_decides s) (λ e. judged_says Y s _ _)

  fresh_keeps_lem : (s : State) (k : Refusal) → D1.Refused (fresh s) k → (fresh s).left ≡ s
  unfolding fresh refuse
  fresh_keeps_lem s k e =
      ⊎_elim
      (λ (b : bad_length (length s.heap) ≡ true). rw b)
      (λ (b : bad_length (length s.heap) ≡ false). absurd (plainly Says.Done k (rw b at e)))
      (by_test (bad_length (length s.heap)))

  -- the window: its place by the same rows
  place_after : (b : Bool) (k : Refusal) (P : Type 0) (qs : List Row.Row) (p : Result Place Refusal) → Decides b P
      → (b ≡ false → Settled qs (λ j. p ≡ Err j))
      → Settled (Row.row k P ∷ qs) (λ j. cond b (Err k) p ≡ Err j)
  place_after true k P qs p d f = refused k (inl (d.holds refl, refl)) refl
  place_after false k P qs p d f = go (f refl)
    where
      go : Settled qs (λ j. p ≡ Err j) → Settled (Row.row k P ∷ qs) (λ j. p ≡ Err j)
      go (refused j g e) = refused j (inr (d.fails refl, g)) e
      go (passed n h) = passed (d.fails refl, n) h

  window-settled : (r : ℕ) (s : State) → Settled (Row.window_rows Y r s) (λ k. window Y r s ≡ Err k)
  unfolding window
  window-settled r s =
      place_after (bad_shape s) Why.Shape _ _ _ (shape_decides s) (λ a.
      place_after (no_roots (length s.roots) (r ∷ [])) Why.Root _ _ _ (roots_decide s (r ∷ [])) (λ b.
      place_after (not (names Y s (root_word s r))) Why.Object _ _ _ (object_decides Y s r)
      (λ c. passed tt (λ k e. IfErr-at_err (λ j. ⊥) e tt))))

  one_place : (p : Result Place Refusal) (j k : Refusal) → p ≡ Err j → p ≡ Err k → j ≡ k
  one_place p j k a b = cc

  -- the ranks rise along the rows of each call
  rows_rise : (c : Call) (s : State) → D1.RisingFrom 0 (Row.rows Y c s)
  rows_rise Ask.Collect s = omega arith
  rows_rise Ask.Check s = omega arith
  rows_rise (Ask.Allocate k n r) s = omega arith
  rows_rise (Ask.SetInteger r v) s = omega arith
  rows_rise (Ask.SetNull r) s = omega arith
  rows_rise (Ask.SetCode r w) s = omega arith
  rows_rise (Ask.Copy p q) s = omega arith
  rows_rise (Ask.Load r f q) s = omega arith
  rows_rise (Ask.Store r f q) s = omega arith
  rows_rise (Ask.RawRead r f) s = omega arith
  rows_rise (Ask.RawWrite r f n) s = omega arith
  rows_rise (Ask.Same p q) s = omega arith
  rows_rise (Ask.Inspect r) s = omega arith
  rows_rise (Ask.Write r) s = omega arith
  rows_rise (Ask.Read r) s = omega arith

  pub demand1 : D1.Demand1 Y (machine Y)
  demand1 = record {
    session =
        λ c s. settled_refuses (Row.rows Y c s) _ (one-refusal (step Y c s))
        (judged-settled s (Row.rows Y c s) (step Y c s) (step-judged Y s c));
    fresh =
        λ s. settled_refuses (Row.fresh_rows s) _ (one-refusal (fresh s))
        (judged-settled s (Row.fresh_rows s) (fresh s) (fresh-judged s));
    opened = λ r s. settled_refuses (Row.window_rows Y r s) _ (one_place (window Y r s)) (window-settled r s);
    in_order = rows_rise;
    in_order_opened = λ r s. omega arith;
    keeps = λ c s k e n. left-unchanged s (step Y c s).left k (judged-left s (Row.rows Y c s) (step Y c s) k (step-judged Y s c) e) n;
    fresh_keeps = fresh_keeps_lem;
    collects = λ c s e. left-collected s (step Y c s).left (judged-left s (Row.rows Y c s) (step Y c s) Why.Room (step-judged Y s c) e);
  }
