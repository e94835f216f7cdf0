-- Demand 2, of any layout and any sound state: proofs of its parts, and the theorem.
use Prim.Native.Nat.{ℕ, ◌+◌}
use native.Mathlib.Omega.{arith}
use mathlib.Core.Path.{◌≡◌, refl, sym, ap, ◌∙◌, subst}
use mathlib.Core.List.{List, [], ◌∷◌, map, Memᴰ}
use lib.ListN.{length, take, length-append}
use Rattle.model.specs.declared.Answer.TheVariants as Says
use Rattle.model.specs.declared.Call.TheVariants as Ask
use Rattle.model.specs.Calls as Calls
use Rattle.model.specs.Answers.{says, refuse}
use Rattle.model.specs.Collection.{still, field_cell, addresses_in, cells, word_leads, cell_leads, order_at, order, live}
use Rattle.model.specs.Collection.{addresses_of, addresses_among, counts, settle, collected}
use Rattle.model.specs.Demand2 as D
use Rattle.model.specs.Discovery.{packed}
use Rattle.model.specs.Headers.{Layout}
use Rattle.model.specs.Objects.{size}
use Rattle.model.specs.Sessions.{step, machine}
use Rattle.model.specs.Words.{State, at, half_words, other_first}
use Rattle.theory.proofs.Collected.{new_text, live-is, new_length, new_first, new_half, new_free, order_tile, new_header}
use Rattle.theory.proofs.Collected.{new_field, new_root, new_roots}
use Rattle.theory.proofs.CollectedSound.{new_tiled, becomes, reach_order, order_reach, traced-field, new_sound}
use Rattle.theory.proofs.Copies.{words_before-nth}
use Rattle.theory.proofs.Counting.{sums_same}
use Rattle.theory.proofs.Deciding.{tests_sound, sound_tests}
use Rattle.demands.proofs.Meetings.{met, only}
use Rattle.theory.proofs.Members.{In, in_tail, in_self, in_take, distinct_once, mem_in, in_mem}
use Rattle.theory.proofs.Objects.{cells-length}
use Rattle.theory.proofs.Order.{order_at_distinct, order-fits, reach_reached, order-breadth}
use Rattle.theory.proofs.Packed.{words_before-apart}
use Rattle.theory.proofs.Shape.{unshaped}
use Rattle.theory.proofs.Soundness.{SoundTests, sound-whole, sound-zero}

module _ (Y : Layout) (s : State) (h : SoundTests Y s) where
  abbrev s' : State
  s' = collected Y s

  sizes-packed : (o : List ℕ) → ((x : ℕ) → In x o → In x (order Y s))
      → length (packed (cells Y s.heap) o) ≡ D.sizes Y s.heap o
  unfolding packed
  sizes-packed [] f = refl
  sizes-packed (i ∷ o) f =
      let ih = sizes-packed o (λ x m. f x (in_tail x i o m)) in
      let c = cells-length Y s.heap i (order_tile Y s h i (f i (in_self i o))).0 in
      length-append (cells Y s.heap i) (packed (cells Y s.heap) o) ∙ omega arith

  -- the order lists exactly the reachable objects, each once; it is the first meetings, and alone is
  order-lists : D.Lists (D.Reach Y s) (order Y s)
  order-lists = record {
    once = distinct_once (order Y s) (order_at_distinct Y s h (half_words s.heap));
    listed = λ i m. order_reach Y s h i (mem_in i (order Y s) m);
    reached = λ i r. in_mem i (order Y s) (reach_order Y s h i r);
  }

  order-met : D.FirstMeetings Y s (order Y s)
  unfolding order_at
  order-met =
      met (cells Y s.heap) (still 0) (cell_leads Y) (map (word_leads Y) s.roots) refl
      (half_words s.heap) (order-fits Y s h)

  order-only : (o : List ℕ) → D.FirstMeetings Y s o → ((i : ℕ) → Memᴰ i o → D.Reach Y s i) → o ≡ order Y s
  unfolding order_at
  order-only o e r =
      only (cells Y s.heap) (still 0) (cell_leads Y) (map (word_leads Y) s.roots) refl (half_words s.heap)
      (order-fits Y s h) o e
      (λ i m. reach_reached Y s h i (r i (in_mem i o m)))

  pub collects : D.Collects Y s s' (counts Y s)
  unfolding counts addresses_among
  collects = record {
    lists = order-lists;
    met = order-met;
    only = order-only;
    breadth = order-breadth Y s h;
    copies = (new_tiled Y s h).1;
    packs = λ k l.
        ap (λ x. other_first s + x)
        (words_before-nth Y s.heap (order Y s) k (order_at_distinct Y s h (half_words s.heap)) l
        ∙ sizes-packed (take k (order Y s)) (λ x m. in_take x k (order Y s) m));
    header = λ i r. new_header Y s h i (reach_order Y s h i r);
    raw_field = λ i f r k l.
        new_field Y s h i f (reach_order Y s h i r) l
        ∙ ap (λ z. settle Y s.heap (order Y s) (other_first s) (field_cell z (at s.heap (i + 1 + f)))) k;
    value_field =
        λ i f r k l. rw (traced-field Y s h i f (reach_order Y s h i r) k l) (becomes Y s h (at s.heap (i + 1 + f)));
    root_count = new_roots Y s h;
    root = λ r l. rw (new_root Y s h r l) (becomes Y s h (at s.roots r));
    shared = λ i j a b e.
        words_before-apart (cells Y s.heap) (λ x. omega arith) (order Y s) i j (reach_order Y s h i a)
        (reach_order Y s h j b)
        (omega arith);
    same_length = new_length Y s h;
    other_half = new_half Y s h;
    cleared = sound-zero Y s' (new_sound Y s h);
    same_text = new_text Y s;
    live = λ o l.
        live-is Y s h ∙ sizes-packed (order Y s) (λ x m. m)
        ∙ sums_same (D.sizes Y s.heap) (size Y s.heap) refl (λ i x. refl) (order Y s) o order-lists l;
    objects = λ o l. sums_same length (λ i. 1) refl (λ i x. omega arith) (order Y s) o order-lists l;
    addresses = λ o l.
        ap (λ (n : ℕ). addresses_in s.roots + n)
        (sums_same (addresses_among Y s.heap) (addresses_of Y s.heap) refl (λ i x. refl) (order Y s) o order-lists l);
    used = new_free Y s h ∙ ap (λ x. x + live Y s) (sym (new_first Y s h));
    again = tests_sound Y s' (new_sound Y s h);
  }

-- of a sound state the call answers the numbers and leaves it collected
pub collect-sound : (Y : Layout) (s : State) → SoundTests Y s → step Y Ask.Collect s ≡ says (Says.Live (counts Y s)) (collected Y s)
unfolding step Calls.collect refuse
collect-sound Y s h = rw (unshaped s h.shape, sound-whole Y s h)

pub demand2 : (Y : Layout) → D.Demand2 Y (machine Y)
demand2 Y s ok =
    let h = sound_tests Y s ok in
    let o = collect-sound Y s h in
    record {
      counts = counts Y s;
      answers = ap (λ z. z.answer) o;
      leaves = subst (λ z. D.Collects Y s z.left (counts Y s)) (sym o) (collects Y s h);
    }
