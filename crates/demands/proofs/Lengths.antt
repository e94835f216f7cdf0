-- No call changes the length of the heap, the number of roots or that of the bytes that are lent.
use Prim.Native.Nat.{ℕ, ◌+◌}
use mathlib.Core.Path.{◌≡◌, refl, ap, ◌∙◌}
use mathlib.Core.Bool.{true}
use mathlib.Core.List.{◌∷◌}
use lib.ListN.{length, replicate, length-set}
use lib.Seq.{length-sets}
use Rattle.model.specs.declared.Kind.{Kind}
use Rattle.model.specs.declared.Kind.TheVariants.{Traced}
use Rattle.model.specs.declared.Call.{Call}
use Rattle.model.specs.Changes.{root_word, with_root, with_word, placed, planted}
use Rattle.model.specs.Trees.{Tree, leaf, node, count}
use Rattle.model.specs.Collection.{copied, collected}
use Rattle.model.specs.Headers.{Layout}
use Rattle.model.specs.Objects.{address, field_index, index}
use Rattle.model.specs.Sessions.{step}
use Rattle.model.specs.Soundness.{sound}
use Rattle.model.specs.Values.{tag}
use Rattle.model.specs.Words.{State, free, at}
use Rattle.theory.proofs.Collected.{new_length, new_roots}
use Rattle.theory.proofs.Laying.{laid_lays}
use Rattle.theory.proofs.Leaving.{step_left}
use Rattle.theory.proofs.Soundness.{sound_parts}
use Rattle.theory.proofs.Texts.{length_over}

abbrev pub SameLengths : State → State → Type 0
SameLengths s t =
    (length t.heap ≡ length s.heap) × (length t.roots ≡ length s.roots) × (length t.text ≡ length s.text)

module _ (Y : Layout) (s : State) where
  root-same : (r w : ℕ) → SameLengths s (with_root s r w)
  root-same r w = (refl, length-set s.roots r w, refl)

  word_same : (i w : ℕ) → SameLengths s (with_word s i w)
  word_same i w = (length-set s.heap i w, refl, refl)

  collected-same : sound Y s ≡ true → SameLengths s (collected Y s)
  unfolding copied
  collected-same e = let h = sound_parts Y s e in (new_length Y s h, new_roots Y s h, refl)

  placed_same : (t : State) (k : Kind) (n r : ℕ) → SameLengths s t → SameLengths s (placed Y k n r t)
  unfolding placed
  placed_same t k n r e =
      (length-sets t.heap (free t) (Y.header k n ∷ replicate n 0) ∙ e.0, length-set t.roots r (address Y (free t)) ∙ e.1, e.2)

  planted-same : (t : Tree) (r : ℕ) (u : State) → SameLengths s u → SameLengths s (planted Y t r u)
  unfolding planted
  planted-same (leaf v) r u e = (e.0, length-set u.roots r (tag v) ∙ e.1, e.2)
  planted-same (node g) r u e =
      let l = laid_lays Y g (free u + 1) (placed Y Traced (count g) r u) in
      let q = placed_same u Traced (count g) r e in
      (l.same_length ∙ q.0, ap length l.same_roots ∙ q.1, ap length l.same_text ∙ q.2)

  pub step_lengths : (c : Call) → SameLengths s (step Y c s).left
  step_lengths = step_left Y s (λ c t. SameLengths s t) (λ c. (refl, refl, refl)) (record {
    words = record {
      integer = λ r v e. root-same r (tag v);
      null = λ r. root-same r 0;
      code = λ r w e. root-same r w;
      copied = λ from to l. root-same to (root_word s from);
      loaded = λ r f to g. root-same to (at s.heap (field_index (index Y (root_word s r)) f));
      stored = λ r f from g l. word_same (field_index (index Y (root_word s r)) f) (root_word s from);
      raw_written = λ r f x g. word_same (field_index (index Y (root_word s r)) f) x;
      text_written = λ r bs l. (refl, refl, length_over bs s.text l);
    };
    placed_now = λ k n r a l e. placed_same s k n r (refl, refl, refl);
    collected_now = λ c. collected-same;
    placed_then = λ k n r e l f. placed_same (collected Y s) k n r (collected-same e);
    planted_now = λ t r a e l. planted-same t r s (refl, refl, refl);
    planted_then = λ t r e q l. planted-same t r (collected Y s) (collected-same e);
  })
