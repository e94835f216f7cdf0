-- One more word counted as passed midway in a collection: one that stays as it is, or one that is written.
use Prim.Native.Nat.{ℕ, suc, ◌+◌, ◌≤◌, ◌<◌}
use native.Mathlib.Nat.{add-zero}
use native.Mathlib.Omega.{arith}
use mathlib.Core.Path.{◌≡◌, sym, ap, ◌∙◌, subst}
use mathlib.Core.Logic.{⊎_elim}
use mathlib.Core.List.{List}
use mathlib.Core.Option.{some}
use lib.ListN.{length, get_or, set, length-set}
use lib.Seq.{get_or-set_same, get_or-set_other}
use Rattle.model.specs.Words.{State, half_words, other_first}
use Rattle.model.specs.Headers.{Layout}
use Rattle.model.specs.Discovery.{packed}
use Rattle.model.specs.Collection.{Cell, still, cells, cell_leads, settle}
use Rattle.model.specs.During.{old_word}
use Rattle.theory.proofs.Tests.{same?}
use Rattle.theory.proofs.Members.{In}
use Rattle.theory.proofs.Visits.{no_some}
use Rattle.theory.proofs.Shape.{other_in}
use Rattle.theory.proofs.Soundness.{SoundTests}
use Rattle.theory.proofs.Middle.{header-outside, distinct_fits}
use Rattle.runs.proofs.RunLaws.{Outside}
use Rattle.engine.proofs.Midway.{Midway}

module _ (Y : Layout) (s : State) (v : SoundTests Y s) (o : List ℕ) (p : ℕ) (h : List ℕ) (M : Midway Y s o p h)
    (l : p < length (packed (cells Y s.heap) o)) where
  abbrev t : ℕ
  t = other_first s

  -- the word that is passed
  abbrev here : Cell
  here = get_or (packed (cells Y s.heap) o) p (still 0)

  room : p < half_words s.heap
  room = omega (arith, distinct_fits Y s v o M.heads M.once)

  pub keep : (w : ℕ) → here ≡ still w → Midway Y s o (suc p) h
  keep w c =
      let b : p < half_words s.heap = room in
      record {
        same = M.same;
        kept = M.kept;
        mark = M.mark;
        done = λ j q. ⊎_elim
            (λ (z : j ≡ p). rw (z, c) (M.todo p (omega arith) (omega arith) ∙ ap old_word c))
            (λ (z : j ≡ p → ⊥). M.done j (omega arith)) (same? j p);
        todo = λ j q k. M.todo j (omega arith) k;
        named = λ j i q e. ⊎_elim
            (λ (z : j ≡ p).
            absurd (no_some i
            (ap (cell_leads Y) (sym (ap (λ (y : ℕ). get_or (packed (cells Y s.heap) o) y (still 0)) z ∙ c)) ∙ e)))
            (λ (z : j ≡ p → ⊥). M.named j i (omega arith) e) (same? j p);
        heads = M.heads;
        once = M.once;
        ahead = omega arith;
      }

  -- no word outside the new half is written
  apart : (x : ℕ) → Outside t (half_words s.heap) x → x ≡ t + p → ⊥
  apart x out z = ⊎_elim (λ (a : x < t). omega arith) (λ (a : t + half_words s.heap ≤ x). omega (arith, room)) out

  pub write : (x : ℕ) → x ≡ settle Y s.heap o t here → ((i : ℕ) → cell_leads Y here ≡ some i → In i o)
      → Midway Y s o (suc p) (set h (t + p) x)
  write x e n =
      let i : t + p < length h = omega (arith, room, M.same, other_in s v.shape) in
      record {
        same = simp length-set M.same;
        kept = λ y out m. get_or-set_other h (t + p) y x 0 (apart y out) ∙ M.kept y out m;
        mark = λ y m.
            get_or-set_other h (t + p) y x 0
            (apart y (subst (Outside t (half_words s.heap)) (add-zero y)
            (header-outside Y s v y 0 (M.heads y m) (omega arith))))
            ∙ M.mark y m;
        done = λ j q. ⊎_elim
            (λ (z : j ≡ p). rw z (get_or-set_same h (t + p) x 0 i ∙ e))
            (λ (z : j ≡ p → ⊥). get_or-set_other h (t + p) (t + j) x 0 (omega arith) ∙ M.done j (omega arith)) (same? j p);
        todo = λ j q k. get_or-set_other h (t + p) (t + j) x 0 (omega arith) ∙ M.todo j (omega arith) k;
        named = λ j y q u. ⊎_elim
            (λ (z : j ≡ p). n y (ap (λ (a : ℕ). cell_leads Y (get_or (packed (cells Y s.heap) o) a (still 0))) (sym z) ∙ u))
            (λ (z : j ≡ p → ⊥). M.named j y (omega arith) u) (same? j p);
        heads = M.heads;
        once = M.once;
        ahead = omega arith;
      }
