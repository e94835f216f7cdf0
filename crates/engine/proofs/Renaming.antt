-- One word renamed midway in a collection: the state is kept, at the order that the word's visit gives.
use Prim.Native.Nat.{ℕ, ◌+◌, ◌≤◌}
use native.Mathlib.Omega.{arith}
use mathlib.Core.Path.{◌≡◌, ap, ◌∙◌}
use mathlib.Core.Logic.{⊎_elim}
use mathlib.Core.Bool.{true, false}
use mathlib.Core.List.{List, [], ◌∷◌, ◌++◌}
use mathlib.Core.Option.{some}
use lib.ListN.{length, length-append}
use Rattle.model.specs.Limits.{max_words}
use Rattle.model.specs.Words.{State, at, other_first}
use Rattle.model.specs.Values.{is_address}
use Rattle.model.specs.Headers.{Layout, Marks}
use Rattle.model.specs.Objects.{address, index, size}
use Rattle.model.specs.Discovery.{mem, visit, packed, words_before}
use Rattle.model.specs.Soundness.{headers}
use Rattle.model.specs.Collection.{cells, word_leads, rename}
use Rattle.theory.proofs.Tests.{by_test, never}
use Rattle.theory.proofs.Members.{In, Out}
use Rattle.theory.proofs.Packed.{words_before_last}
use Rattle.theory.proofs.Counting.{meets, address_meets, plain_meets}
use Rattle.theory.proofs.Shape.{other_in}
use Rattle.theory.proofs.Soundness.{SoundTests}
use Rattle.theory.proofs.Values.{address-leads}
use Rattle.theory.proofs.Keeping.{tile}
use Rattle.theory.proofs.Middle.{visit-again, visit_new, visit-none, plain-leads, rename-plain, rename-address}
use Rattle.theory.proofs.Middle.{header-within, distinct_fits}
use Rattle.engine_moving.specs.declared.Met.TheVariants.{Copied, Found}
use Rattle.engine_moving.specs.declared.Tally.{Tally}
use Rattle.engine_moving.specs.Moving.{left, counted, addresses_met, moved, renamed, MayRename}
use Rattle.engine_moving.proofs.MovingLaws.{relocated-copied, relocated-found, renamed-address, renamed-plain}
use Rattle.engine.proofs.Midway.{Midway, header-kept, same_size, more-words, runs_apart, copy_within, moved_midway}

-- what renaming w leaves, where the order before was o₀ and is o then
pub record Renames (Y : Layout) (s : State) (o₀ o : List ℕ) (p : ℕ) (h : List ℕ) (w f : ℕ) : Type 0 where
  pub may : MayRename Y h w f
  pub word : (renamed Y h w f).word ≡ rename Y s.heap o (other_first s) w
  pub free : (renamed Y h w f).free ≡ other_first s + length (packed (cells Y s.heap) o)
  pub mid : Midway Y s o p (renamed Y h w f).heap
  -- one object more is copied where the order grew, and one address more is met where w is one
  pub copied : (t : Tally) → t.copied ≡ length o₀ → (counted t (renamed Y h w f).met).copied ≡ length o
  pub met : (t : Tally) → addresses_met (counted t (renamed Y h w f).met) ≡ addresses_met t + meets (word_leads Y w)

module _ (Y : Layout) (K : Marks Y) (s : State) (v : SoundTests Y s) (o : List ℕ) (p : ℕ) (h : List ℕ)
    (M : Midway Y s o p h) (w : ℕ) where
  abbrev H : List ℕ
  H = s.heap

  abbrev t : ℕ
  t = other_first s

  abbrev f : ℕ
  f = other_first s + length (packed (cells Y s.heap) o)

  near : f ≤ max_words
  near = omega (arith, distinct_fits Y s v o M.heads M.once, other_in s v.shape, v.shape.odd, v.shape.small)

  of_plain : is_address w ≡ false → Renames Y s o o p h w f
  of_plain q = record {
    may = λ e. never e q;
    word = rw (renamed-plain Y h w f q, rename-plain Y w H o t q);
    free = rw (renamed-plain Y h w f q);
    mid = rw (renamed-plain Y h w f q) M;
    copied = λ t e. rw (renamed-plain Y h w f q) e;
    met = λ t. rw (renamed-plain Y h w f q, plain_meets Y w q) (omega arith);
  }

  module _ (q : is_address w ≡ true) where
    abbrev k : ℕ
    k = index Y w

    -- an object that was copied: its header is the mark
    of_found : In (index Y w) o → Renames Y s o o p h w f
    of_found m = record {
      may = λ e. record {
        within = omega (arith, header-within Y s v k (M.heads k m), M.same);
        whole = λ a. never a marked;
        fits = λ a. never a marked;
        apart = λ a. never a marked;
        near = near;
      };
      word = rw (is, rename-address Y w H o t q) (ap Y.unmark (M.mark k m) ∙ K.unmarks (t + words_before (cells Y H) o k + Y.ahead));
      free = rw is;
      mid = rw is M;
      copied = λ t e. rw is e;
      met = λ t. rw (is, address_meets Y w q) (omega arith);
    }
      where
        marked : Y.is_header (at h k) ≡ false
        marked = ap Y.is_header (M.mark k m) ∙ K.marks (t + words_before (cells Y H) o k + Y.ahead)

        is : renamed Y h w f ≡ left h (Y.unmark (at h k)) f Found
        is = renamed-address Y h w f q ∙ relocated-found Y h k f marked

    -- one that was not
    of_copied : In (index Y w) (headers Y s) → Out (index Y w) o → Renames Y s o (o ++ (index Y w ∷ [])) p h w f
    of_copied hk m = record {
      may = λ e. record {
        within = omega (arith, header-within Y s v k hk, M.same);
        whole = λ a. omega (arith, sz, header-within Y s v k hk, M.same);
        fits = λ a. copy_within Y s v o p h M k hk m;
        apart = λ a. runs_apart Y s v o p h M k hk m;
        near = near;
      };
      word = rw (is, rename-address Y w H (o ++ (k ∷ [])) t q, words_before_last (cells Y H) o [] k m);
      free = rw is (omega (arith, sz, more-words Y s v o p h M k hk m));
      mid = rw is (moved_midway Y s v o p h M k hk m);
      copied = λ t e. rw is (omega (arith, length-append o (k ∷ [])));
      met = λ t. rw (is, address_meets Y w q) (omega arith);
    }
      where
        sz : size Y h k ≡ size Y H k
        sz = same_size Y s v o p h M k hk m

        clear : Y.is_header (at h k) ≡ true
        clear = ap Y.is_header (header-kept Y s v o p h M k hk m) ∙ (tile Y s v k hk).clear

        is : renamed Y h w f ≡ left (moved Y h k f) (address Y f) (f + size Y h k) Copied
        is = renamed-address Y h w f q ∙ relocated-copied Y h k f clear

  pub renames : ((i : ℕ) → word_leads Y w ≡ some i → In i (headers Y s)) → Renames Y s o (visit o (word_leads Y w)) p h w f
  renames g =
      ⊎_elim
      (λ (q : is_address w ≡ true).
      ⊎_elim
      (λ (m : In (index Y w) o). rw (address-leads Y w q, visit-again o (index Y w) m) (of_found q m))
      (λ (m : Out (index Y w) o). rw (address-leads Y w q, visit_new o (index Y w) m) (of_copied q (g (index Y w) (address-leads Y w q)) m))
      (by_test (mem (index Y w) o)))
      (λ (q : is_address w ≡ false). rw (plain-leads Y w q, visit-none o) (of_plain q))
      (by_test (is_address w))
