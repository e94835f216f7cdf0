-- What the parts of `collect_sound` ask and leave, from what its calls answer; for any lawful layout.
use Prim.Native.Nat.{ℕ, ◌+◌, ◌-◌, ◌≤◌}
use native.Mathlib.Omega.{arith}
use mathlib.Core.Path.{◌≡◌, sym, ap, ◌∙◌}
use mathlib.Core.Bool.{true}
use mathlib.Core.List.{List}
use lib.ListN.{length}
use Rattle.model.specs.declared.Half.{Half}
use Rattle.model.specs.declared.Counts.{Counts}
use Rattle.model.specs.declared.Answer.TheVariants as Says
use Rattle.model.specs.Limits.{max_half, max_roots}
use Rattle.model.specs.Words.{State, with_heap, with_roots, with_free, half_words, other, first_of, first_word, other_first, free}
use Rattle.model.specs.Headers.{Layout, Marks}
use Rattle.model.specs.Soundness.{sound}
use Rattle.model.specs.Collection.{live, counts, collected}
use Rattle.model.specs.Answers.{says}
use Rattle.theory.proofs.Shape.{Shaped}
use Rattle.theory.proofs.Soundness.{SoundTests, sound_parts}
use Rattle.theory.proofs.Order.{order-fits}
use Rattle.theory.proofs.Collected.{live-is, addresses-few}
use Rattle.words.proofs.FirstWords.{first_by_length}
use Rattle.engine_moving.specs.declared.Tally.{Tally}
use Rattle.engine_moving.specs.Moving.{addresses_met}
use Rattle.engine.specs.Evacuation.{Emptied, emptied, moved_to, evacuated, SafeEvacuation}
use Rattle.engine.proofs.End.{safe, leaves, ended_is, free-is, objects-is, addresses-is}

module _ {Y : Layout} (K : Marks Y) (s : State) (e : sound Y s ≡ true) where
  v : SoundTests Y s
  v = sound_parts Y s e

  pub shape : Shaped s
  shape = v.shape

  module _ {S old new : ℕ} {half : Half} (h : S ≡ half_words s.heap) (i : half ≡ other s.«record».half)
      (o : old ≡ first_of S s.«record».half) (n : new ≡ first_of S half) where
    old_is : old ≡ first_word s
    old_is = first_by_length (length s.heap) s.«record».half o h

    new_is : new ≡ other_first s
    new_is = first_by_length (length s.heap) half n h ∙ ap (first_of (half_words s.heap)) i

    pub old_low : old ≤ free s
    old_low = omega (arith, old_is, v.shape.low)

    pub may_evacuate : SafeEvacuation Y s.heap s.roots old (free s - old) new
    may_evacuate = rw (old_is, new_is) (safe Y K s v)

    module _ {h' rs' : List ℕ} {end : ℕ} {m : Tally}
        (q : emptied h' rs' end m ≡ evacuated Y s.heap s.roots old (free s - old) new) where
      there : emptied h' rs' end m ≡ leaves Y K s v
      there =
          q ∙ ap (λ (x : ℕ). evacuated Y s.heap s.roots x (free s - x) new) old_is
          ∙ ap (evacuated Y s.heap s.roots (first_word s) (free s - first_word s)) new_is

      end_is : end ≡ new + live Y s
      end_is = ap (λ (u : Emptied). u.free) there ∙ free-is Y K s v ∙ ap (λ (x : ℕ). x + live Y s) (sym new_is)

      live-met : end - new ≡ live Y s
      live-met = omega (arith, end_is)

      pub end_low : new ≤ end
      end_low = omega (arith, end_is)

      pub end-high : end - new ≤ max_half
      end-high = omega (arith, end_is, live-is Y s v, order-fits Y s v, v.shape.small)

      objects-met : m.copied ≡ (counts Y s).objects
      objects-met = ap (λ (u : Emptied). u.tally.copied) there ∙ objects-is Y K s v

      all-addresses : addresses_met m ≡ (counts Y s).addresses
      all-addresses = ap (λ (u : Emptied). addresses_met u.tally) there ∙ addresses-is Y K s v

      -- no more of them than roots and words
      pub met-few : addresses_met m ≤ max_roots + max_half
      met-few = omega (arith, all-addresses, addresses-few Y s v)

      abbrev left : Half → State
      left x = with_free x end (with_roots rs' (with_heap h' s))

      -- from what the three numbers come to
      module _ {live' objects' addresses' : ℕ} (l : live' ≡ end - new) (c : objects' ≡ m.copied)
          (a : addresses' ≡ addresses_met m) where
        numbers_are : record { live = live'; objects = objects'; addresses = addresses' } ≡ counts Y s
        unfolding counts
        numbers_are = λ k. record {
          live = (l ∙ live-met) k;
          objects = (c ∙ objects-met) k;
          addresses = (a ∙ all-addresses) k;
        }

        pub collect-is : says (Says.Live (record { live = live'; objects = objects'; addresses = addresses' })) (left half)
            ≡ says (Says.Live (counts Y s)) (collected Y s)
        collect-is =
            ap (λ (x : Counts). says (Says.Live x) (left half)) numbers_are
            ∙ ap (λ (x : State). says (Says.Live (counts Y s)) x) (ap left i ∙ ap (moved_to s) there ∙ ended_is Y K s v)
