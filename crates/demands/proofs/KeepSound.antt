-- Every session call leaves a sound state sound.
use Prim.Native.Nat.{ℕ, ◌+◌}
use mathlib.Core.Path.{ap}
use borrow.Author.Tests.{leb-true}
use Rattle.model.specs.declared.Kind.{Kind}
use Rattle.model.specs.declared.Kind.TheVariants.{Traced, Untraced}
use Rattle.model.specs.declared.Call.{Call}
use Rattle.model.specs.Changes.{root_word, spare}
use Rattle.model.specs.Collection.{collected}
use Rattle.model.specs.Headers.{Layout, WritesBoth}
use Rattle.model.specs.Objects.{is_traced, field_index, index}
use Rattle.model.specs.Sessions.{step}
use Rattle.model.specs.Soundness.{headers}
use Rattle.model.specs.Values.{tag}
use Rattle.model.specs.Words.{State, at}
use Rattle.theory.proofs.CollectedSound.{new_sound}
use Rattle.theory.proofs.Deciding.{named-address, names_decides}
use Rattle.demands.proofs.Integers.{tag_no_address}
use Rattle.theory.proofs.Keeping.{root-sound, word_sound}
use Rattle.theory.proofs.Leaving.{HasField, step_left}
use Rattle.theory.proofs.Members.{In}
use Rattle.demands.proofs.Placing.{zero-value, place-sound}
use Rattle.model.specs.Texts.{max_depth, over}
use Rattle.demands.proofs.LaidSound.{planted-sound}
use Rattle.theory.proofs.ReadJudged.{parsed-text}
use Rattle.theory.proofs.Soundness.{text-sound, SoundTests}
use Rattle.theory.proofs.Tests.{never}
use Rattle.theory.proofs.Values.{value-header, plain_value}
use Rattle.theory.proofs.WordSorts.{code_no_address}

module _ (Y : Layout) (s : State) (h : SoundTests Y s) where
  -- a word that names an object is, in a sound state, the address of a header of the tiling
  pub is-header : (k : Kind) (r f : ℕ) → HasField Y s k r f → In (index Y (root_word s r)) (headers Y s)
  is-header k r f g =
      let n = (names_decides Y s (root_word s r)).holds g.named in
      value-header Y (headers Y s) (root_word s r) (h.roots r g.root)
      (named-address Y s (root_word s r) n)

  pub stays-sound : WritesBoth Y → (c : Call) → SoundTests Y (step Y c s).left
  stays-sound law = step_left Y s (λ c t. SoundTests Y t) (λ c. h) (record {
    words = record {
      integer = λ r v e. root-sound Y s h r (tag v) (plain_value Y (headers Y s) (tag v) (tag_no_address v e));
      null = λ r. root-sound Y s h r 0 (zero-value Y (headers Y s));
      code = λ r w e. root-sound Y s h r w (plain_value Y (headers Y s) w (code_no_address w e));
      copied = λ from to l. root-sound Y s h to (root_word s from) (h.roots from l);
      loaded = λ r f to g.
          root-sound Y s h to (at s.heap (field_index (index Y (root_word s r)) f))
          (h.values (index Y (root_word s r)) f (is-header Traced r f g) g.kind-is g.below);
      stored = λ r f from g l.
          word_sound Y s h (index Y (root_word s r)) f (root_word s from) (is-header Traced r f g) g.below (λ z. h.roots from l);
      raw_written = λ r f x g.
          word_sound Y s h (index Y (root_word s r)) f x (is-header Untraced r f g) g.below
          (λ z. never (ap is_traced z) (ap is_traced g.kind-is));
      text_written = λ r bs l. text-sound Y s (over bs s.text) h;
    };
    placed_now = λ k n r a l e. place-sound Y law s h k n l (leb-true (n + 1) (spare s) e) r;
    collected_now = λ c e. new_sound Y s h;
    placed_then = λ k n r e l f. place-sound Y law (collected Y s) (new_sound Y s h) k n l (leb-true (n + 1) (spare (collected Y s)) f) r;
    planted_now = λ t r a e l. planted-sound Y law t max_depth r s h (parsed-text s.text t e).fits l;
    planted_then = λ t r e q l. planted-sound Y law t max_depth r (collected Y s) (new_sound Y s h) (parsed-text s.text t q).fits l;
  })
