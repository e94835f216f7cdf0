-- The free index that a call leaves, and the index of a window's first word, are numbers of 32 bits.
use Prim.Native.Nat.{ℕ, ◌+◌, ◌≤◌, ◌<◌}
use native.Mathlib.Omega.{arith}
use mathlib.Core.Path.{◌≡◌, refl}
use mathlib.Core.Bool.{true, false, not}
use lib.ListN.{length}
use borrow.Author.Tests.{leb-true, not-false}
use Rattle.model.specs.declared.Kind.{Kind}
use Rattle.model.specs.declared.Kind.TheVariants.{Traced}
use Rattle.model.specs.declared.Call.{Call}
use Rattle.model.specs.Words.{State, free}
use Rattle.model.specs.Headers.{Layout}
use Rattle.model.specs.Shape.{bad_shape}
use Rattle.model.specs.Soundness.{sound}
use Rattle.model.specs.Collection.{collected}
use Rattle.model.specs.Objects.{index, names}
use Rattle.model.specs.Changes.{no_root, root_word, spare, fits, placed, planted}
use Rattle.model.specs.Trees.{Tree, leaf, node, count, tree_words}
use Rattle.model.specs.Window.{window}
use Rattle.model.specs.Sessions.{step}
use Rattle.theory.proofs.Tests.{cond-holds}
use Rattle.theory.proofs.Shape.{Shaped, shaped, first_in}
use Rattle.theory.proofs.Soundness.{sound_parts}
use Rattle.theory.proofs.CollectedSound.{new_shape}
use Rattle.theory.proofs.Laying.{laid_lays}
use Rattle.theory.proofs.Leaving.{step_left}
use Rattle.naming.proofs.NamedObjects.{header-below}
use Rattle.crossing.specs.Crossing.{Narrow, NarrowPlace}

-- a heap of its shape is far smaller
shaped_narrow : (s : State) → Shaped s → Narrow (free s)
shaped_narrow s h = let f = first_in s h in omega (arith, h.high, h.odd, h.small)

placed_narrow : (Y : Layout) (s : State) (k : Kind) (n r : ℕ) → Shaped s → fits (n + 1) s ≡ true
    → Narrow (free (placed Y k n r s))
unfolding placed
placed_narrow Y s k n r h e =
    let f = first_in s h in
    let l : n + 1 ≤ spare s = leb-true (n + 1) (spare s) e in
    omega (arith, h.high, h.odd, h.small)

planted_narrow : (Y : Layout) (s : State) (t : Tree) (r : ℕ) → Shaped s → tree_words t ≤ spare s
    → Narrow (free (planted Y t r s))
unfolding planted placed
planted_narrow Y s (leaf v) r h l = shaped_narrow s h
planted_narrow Y s (node g) r h l =
    let f = first_in s h in
    let e = (laid_lays Y g (free s + 1) (placed Y Traced (count g) r s)).free_is in
    omega (arith, h.high, h.odd, h.small)

module _ (Y : Layout) (s : State) (n : Narrow (free s)) where
  collected-shape : sound Y s ≡ true → Shaped (collected Y s)
  collected-shape e = new_shape Y s (sound_parts Y s e)

  pub step_narrow : (c : Call) → Narrow (free (step Y c s).left)
  step_narrow = step_left Y s (λ c t. Narrow (free t)) (λ c. n) (record {
    words = record {
      integer = λ r v e. n;
      null = λ r. n;
      code = λ r w e. n;
      copied = λ from to l. n;
      loaded = λ r f to g. n;
      stored = λ r f from g l. n;
      raw_written = λ r f x g. n;
      text_written = λ r bs l. n;
    };
    placed_now = λ k m r a l e. placed_narrow Y s k m r (shaped s a) e;
    collected_now = λ c e. shaped_narrow (collected Y s) (collected-shape e);
    placed_then = λ k m r e l f. placed_narrow Y (collected Y s) k m r (collected-shape e) f;
    planted_now = λ t r a e l. planted_narrow Y s t r (shaped s a) l;
    planted_then = λ t r e p l. planted_narrow Y (collected Y s) t r (collected-shape e) l;
  })

-- where a window stands
index_narrow : (s : State) (i : ℕ) → bad_shape s ≡ false → i < length s.heap → Narrow (i + 1)
index_narrow s i e l = let h = shaped s e in omega (arith, h.odd, h.small)

pub window_narrow : (Y : Layout) (r : ℕ) (s : State) → NarrowPlace (window Y r s)
unfolding window
window_narrow Y r s =
    let w = root_word s r in
    let i = index Y w in
    cond-holds NarrowPlace (bad_shape s) _ _ (λ a. tt) (λ a.
    cond-holds NarrowPlace (no_root s r) _ _ (λ b. tt) (λ b.
    cond-holds NarrowPlace (not (names Y s w)) _ _ (λ c. tt) (λ c.
    index_narrow s i a (header-below Y s w i refl a (not-false (names Y s w) c)))))
