-- What the readers of a value and of a tuple are lent, from what the tuple around it was lent, and what they leave of it.
use Prim.Native.Nat.{ℕ, zero, suc, ◌+◌, ◌-◌, ◌*◌, ◌≤◌, ◌<◌}
use native.Mathlib.Omega.{arith}
use native.Mathlib.Numerals.{sub-one}
use mathlib.Core.Path.{◌≡◌, refl, sym, ap, ◌∙◌}
use mathlib.Core.Bool.{true, false}
use mathlib.Core.List.{List, ◌∷◌, ◌++◌, append_assoc}
use lib.IntN.{ℤ}
use lib.ListN.{length, get_or, drop, set, length-append, length-set}
use lib.Seq.{drop-set-lt}
use native.Mathlib.Nat.{pos_of_ne-zero}
use Rattle.model.specs.declared.Kind.TheVariants.{Traced}
use Rattle.model.specs.Headers.{tuple}
use Rattle.model.specs.Objects.{address}
use Rattle.model.specs.Trees.{Forest, end, leaf_then, node_then, Tree, leaf, node, count, forest_words, tree_words, tree_text, texts, ForestFits, TreeFits}
use Rattle.model.specs.Texts.{enclosed}
use Rattle.model.specs.Reading.{is_digit}
use Rattle.model.specs.ReadFaults as Faults
use Rattle.theory.proofs.Tests.{never}
use Rattle.reader_placing.specs.Numerals.{IntegerAt, IntegerRead}
use Rattle.reader_placing.specs.Counting.{forest_counts, tree_counts}
use Rattle.reader_placing.specs.Placing.{placed_in, object_at, value_in, opener_width, Room, TupleAt, TupleLaid, ValueAt, ValueLaid}
use Rattle.reader_placing.proofs.Bytes.{First, first_of_lem, after, after-mark, part-within}
use Rattle.reader_placing.proofs.Trails.{mark_of, trail, close_of, no_digit_close, no_digit-mark, Lead, tuple-lead, no_fields, node_opens, leaf-opens-not}
use Rattle.reader_placing.proofs.Frames.{counts-few, tree-counts-few, length-value, drop-value}

-- ---- a value: a tuple, or an integer

pub record NodeCase (H T : List ℕ) (field at free slot d w : ℕ) (t : Tree) : Type 0 where
  pub fields : Forest
  pub is : t ≡ node fields
  pub deep : 1 ≤ d
  pub tuple_at : TupleAt (set H field w) T at free slot (d - 1) fields

pub record LeafCase (T : List ℕ) (at : ℕ) (t : Tree) : Type 0 where
  pub number : ℤ
  pub is : t ≡ leaf number
  pub integer_at : IntegerAt T at number

module _ (H T : List ℕ) (field at free slot : ℕ) where
  pub free_slot : (t : Tree) (d : ℕ) → ValueAt H T field at free slot d t → free ≤ slot
  free_slot t d a = omega (arith, a.room.apart, tree-counts-few t)

  pub field_inside : (t : Tree) (d : ℕ) → ValueAt H T field at free slot d t → field < length H
  field_inside t d a = omega (arith, a.room.within, a.below, free_slot t d a)

  pub value_inside : (t : Tree) (d : ℕ) → ValueAt H T field at free slot d t → at < length T
  value_inside t d a = omega (arith, part-within T at (tree_text t) a.part.mark a.part.rest a.part.spelt)

  pub node-case : (t : Tree) (d w : ℕ) → ValueAt H T field at free slot d t → Faults.opens (get_or T at 0) ≡ true
      → NodeCase H T field at free slot d w t
  node-case (leaf v) d w a o = never o (leaf-opens-not v (a.part.mark ∷ a.part.rest) T at a.part.spelt)
  node-case (node g) zero w a o = absurd a.fits
  node-case (node g) (suc d) w a o = record {
    fields = g;
    is = refl;
    deep = omega arith;
    tuple_at = rw (sub-one (suc d)) (record {
      rest = a.part.mark ∷ a.part.rest;
      spelt = a.part.spelt;
      fits = a.fits;
      room = record {
        more = a.room.more;
        told = drop-set-lt slot H field w (omega (arith, a.below, free_slot (node g) (suc d) a)) ∙ a.room.told;
        within = omega (arith, a.room.within, length-set H field w);
        apart = a.room.apart;
        most = omega (arith, a.room.most, length-set H field w);
      };
    });
  }

  pub leaf-case : (t : Tree) (d : ℕ) → ValueAt H T field at free slot d t → Faults.opens (get_or T at 0) ≡ false → LeafCase T at t
  leaf-case (leaf v) d a o = record { number = v; is = refl; integer_at = record { part = a.part; fits = a.fits } }
  leaf-case (node g) d a o = never (node_opens g (a.part.mark ∷ a.part.rest) T at a.part.spelt) o

  module _ (at' free' slot' : ℕ) (H' : List ℕ) where
    pub node-laid : (t : Tree) (d w : ℕ) (n : NodeCase H T field at free slot d w t) → w ≡ address tuple free
        → TupleLaid (set H field w) at free slot n.fields at' free' slot' H'
        → ValueLaid H field at free slot t at' free' slot' H'
    unfolding tuple
    node-laid t d w n e l =
        rw n.is (record {
          laid = l.laid ∙ ap (λ (x : ℕ). object_at n.fields free (set H field x)) (e ∙ omega arith);
          read = l.read;
          filled = l.filled;
          used = l.used;
        })

  pub leaf-laid : (t : Tree) (n : LeafCase T at t) (at' : ℕ) (H' : List ℕ) → IntegerRead H field at n.number at' H'
      → ValueLaid H field at free slot t at' free slot H'
  leaf-laid t n at' H' l =
      rw n.is (record { laid = l.stored; read = l.behind; filled = omega arith; used = omega arith })

-- ---- values side by side

pub record FieldsAt (H T : List ℕ) (c field at free slot d : ℕ) (f : Forest) : Type 0 where
  pub rest : List ℕ
  pub spelt : drop at T ≡ trail c f ++ rest
  pub ends : is_digit c ≡ false
  pub fits : ForestFits d f
  pub room : Room H free slot (forest_counts f) (forest_words f)
  pub below : field + count f ≤ free

-- the first of them, and the others
pub record Apart (c d : ℕ) (f : Forest) : Type 0 where
  pub first : Tree
  pub others : Forest
  pub counted : count f ≡ count others + 1
  pub words : forest_words f ≡ tree_words first + forest_words others
  pub counts : forest_counts f ≡ tree_counts first ++ forest_counts others
  pub text : trail c f ≡ tree_text first ++ (mark_of c others ∷ trail c others)
  pub placed : (i k : ℕ) (H : List ℕ) → placed_in f i k H ≡ placed_in others (i + 1) (k + tree_words first) (value_in first i k H)
  pub first_fits : TreeFits d first
  pub others_fit : ForestFits d others

apart_of : (c d : ℕ) (f : Forest) → 1 ≤ count f → ForestFits d f → Apart c d f
unfolding count forest_words forest_counts trail placed_in
apart_of c d end h a = absurd (omega arith)
apart_of c d (leaf_then v f) h a = record {
  first = leaf v;
  others = f;
  counted = refl;
  words = omega arith;
  counts = refl;
  text = refl;
  placed = λ i k H. ap (λ (n : ℕ). placed_in f (i + 1) n _) (omega arith);
  first_fits = a.0;
  others_fit = a.1;
}
apart_of c zero (node_then g f) h a = absurd a
apart_of c (suc d) (node_then g f) h a = record {
  first = node g;
  others = f;
  counted = refl;
  words = omega arith;
  counts = refl;
  text = refl;
  placed = λ i k H. refl;
  first_fits = a.0;
  others_fit = a.1;
}

module _ (H T : List ℕ) (c field at free slot d : ℕ) (f : Forest) (a : FieldsAt H T c field at free slot d f) (p : Apart c d f) where
  spelt-first : drop at T ≡ tree_text p.first ++ (mark_of c p.others ∷ (trail c p.others ++ a.rest))
  spelt-first =
      a.spelt ∙ ap (λ (l : List ℕ). l ++ a.rest) p.text
      ∙ append_assoc (tree_text p.first) (mark_of c p.others ∷ trail c p.others) a.rest

  counts-length : length (forest_counts f) ≡ length (tree_counts p.first) + length (forest_counts p.others)
  counts-length = ap length p.counts ∙ length-append (tree_counts p.first) (forest_counts p.others)

  told-first : drop slot H ≡ tree_counts p.first ++ (forest_counts p.others ++ a.room.more)
  told-first =
      a.room.told ∙ ap (λ (l : List ℕ). l ++ a.room.more) p.counts
      ∙ append_assoc (tree_counts p.first) (forest_counts p.others) a.room.more

  room-first : free + tree_words p.first ≤ slot + length (tree_counts p.first)
  room-first = omega (arith, a.room.apart, p.words, counts-length, counts-few p.others)

  pub first-at : ValueAt H T field at free slot d p.first
  first-at = record {
    part = record {
      mark = mark_of c p.others;
      rest = trail c p.others ++ a.rest;
      spelt = spelt-first;
      ends = no_digit-mark c p.others a.ends;
    };
    fits = p.first_fits;
    room = record {
      more = forest_counts p.others ++ a.room.more;
      told = told-first;
      within = omega (arith, a.room.within, counts-length);
      apart = room-first;
      most = a.room.most;
    };
    below = omega (arith, a.below, p.counted);
  }

  -- what is left once the first is laid
  pub others-at : FieldsAt (value_in p.first field free H) T c (field + 1) (at + length (tree_text p.first) + 1)
      (free + tree_words p.first) (slot + length (tree_counts p.first)) d p.others
  others-at = record {
    rest = a.rest;
    spelt = after-mark T at (tree_text p.first) (mark_of c p.others) (trail c p.others ++ a.rest) spelt-first;
    ends = a.ends;
    fits = p.others_fit;
    room = record {
      more = a.room.more;
      told =
          drop-value (slot + length (tree_counts p.first)) p.first field free H
          (omega (arith, a.below, p.counted, room-first, tree-counts-few p.first)) room-first
          ∙ after H slot (tree_counts p.first) (forest_counts p.others ++ a.room.more) told-first;
      within = omega (arith, a.room.within, counts-length, length-value p.first field free H);
      apart = omega (arith, a.room.apart, p.words, counts-length);
      most = omega (arith, a.room.most, length-value p.first field free H);
    };
    below = omega (arith, a.below, p.counted);
  }

-- ---- what is left of values side by side

pub record Going (T : List ℕ) (c d : ℕ) (g : Forest) (H₀ : List ℕ) (field₀ at₀ free₀ slot₀ : ℕ) (H : List ℕ) (field at free slot : ℕ) : Type 0 where
  pub left : Forest
  pub here : FieldsAt H T c field at free slot d left
  pub lays : placed_in left field free H ≡ placed_in g field₀ free₀ H₀
  pub fields : field + count left ≡ field₀ + count g
  pub words : free + forest_words left ≡ free₀ + forest_words g
  pub counts : slot + length (forest_counts left) ≡ slot₀ + length (forest_counts g)
  pub bytes : at + length (trail c left) ≡ at₀ + length (trail c g)
  pub kept : length H ≡ length H₀

module _ (T : List ℕ) (c d : ℕ) (g : Forest) (H₀ : List ℕ) (field₀ at₀ free₀ slot₀ : ℕ) (H : List ℕ) (field at free slot : ℕ)
    (s : Going T c d g H₀ field₀ at₀ free₀ slot₀ H field at free slot) where
  pub record Turn : Type 0 where
    pub value : Tree
    pub value_at : ValueAt H T field at free slot d value
    pub again : (at' free' slot' : ℕ) (H' : List ℕ) → ValueLaid H field at free slot value at' free' slot' H'
        → Going T c d g H₀ field₀ at₀ free₀ slot₀ H' (field + 1) (at' + 1) free' slot'
    pub behind : (at' free' slot' : ℕ) (H' : List ℕ) → ValueLaid H field at free slot value at' free' slot' H' → at' < length T

  again_by : (p : Apart c d s.left) (at' free' slot' : ℕ) (H' : List ℕ)
      → ValueLaid H field at free slot p.first at' free' slot' H'
      → Going T c d g H₀ field₀ at₀ free₀ slot₀ H' (field + 1) (at' + 1) free' slot'
  again_by p at' free' slot' H' v =
      rw (v.laid, v.read, v.filled, v.used)
      (record {
        left = p.others;
        here = others-at H T c field at free slot d s.left s.here p;
        lays = sym (p.placed field free H) ∙ s.lays;
        fields = omega (arith, s.fields, p.counted);
        words = omega (arith, s.words, p.words);
        counts = omega (arith, s.counts, counts-length H T c field at free slot d s.left s.here p);
        bytes =
            omega (
              arith,
              s.bytes,
              ap length p.text,
              length-append (tree_text p.first) (mark_of c p.others ∷ trail c p.others),
            );
        kept = length-value p.first field free H ∙ s.kept;
      })

  pub turn : field < field₀ + count g → Turn
  turn h =
      let p = apart_of c d s.left (omega (arith, s.fields)) s.here.fits in
      let a = first-at H T c field at free slot d s.left s.here p in
      record {
        value = p.first;
        value_at = a;
        again = again_by p;
        behind = λ at' free' slot' H' v.
            omega (arith, v.read, part-within T at (tree_text p.first) a.part.mark a.part.rest a.part.spelt);
      }

  pub record Stop : Type 0 where
    pub laid : H ≡ placed_in g field₀ free₀ H₀
    pub read : at ≡ at₀ + length (trail c g)
    pub filled : free ≡ free₀ + forest_words g
    pub used : slot ≡ slot₀ + length (forest_counts g)

  pub stop : field₀ + count g ≤ field → Stop
  unfolding placed_in forest_words forest_counts count trail
  stop h =
      let z : s.left ≡ end = no_fields s.left (omega (arith, s.fields)) in
      record {
        laid = sym (ap (λ (f : Forest). placed_in f field free H) z) ∙ s.lays;
        read = omega (arith, s.bytes, ap (λ (f : Forest). length (trail c f)) z);
        filled = omega (arith, s.words, ap forest_words z);
        used = omega (arith, s.counts, ap (λ (f : Forest). length (forest_counts f)) z);
      }

-- ---- a tuple

module _ (H₀ T : List ℕ) (at₀ free₀ slot₀ d : ℕ) (g : Forest) (a : TupleAt H₀ T at₀ free₀ slot₀ d g) where
  pub told-count : First H₀ slot₀ (count g) (forest_counts g ++ a.room.more)
  told-count = first_of_lem H₀ slot₀ (count g) (forest_counts g ++ a.room.more) a.room.told

  pub free-below : free₀ + count g ≤ slot₀
  free-below = omega (arith, a.room.apart, counts-few g)

  pub header_is : (w : ℕ) → w ≡ tuple.header Traced (get_or H₀ slot₀ 0) → w ≡ 2 * count g
  unfolding tuple
  header_is w h = omega (arith, h, told-count.is)

  pub no_field-laid : (w : ℕ) → w ≡ tuple.header Traced (get_or H₀ slot₀ 0) → get_or H₀ slot₀ 0 ≡ 0
      → TupleLaid H₀ at₀ free₀ slot₀ g (at₀ + 2) (free₀ + 1) (slot₀ + 1) (set H₀ free₀ w)
  unfolding placed_in texts enclosed forest_counts forest_words count
  no_field-laid w h z =
      let e = no_fields g (sym told-count.is ∙ z) in
      rw (header_is w h, e)
      (record { laid = refl; read = refl; filled = omega arith; used = omega arith })

  pub two_bytes : get_or H₀ slot₀ 0 ≡ 0 → at₀ + 1 < length T
  unfolding texts enclosed
  two_bytes z =
      let y = no_fields g (sym told-count.is ∙ z) in
      let e : drop at₀ T ≡ 40 ∷ 41 ∷ a.rest = a.spelt ∙ ap (λ (f : Forest). tree_text (node f) ++ a.rest) y in
      (first_of_lem T (at₀ + 1) 41 a.rest (first_of_lem T at₀ 40 (41 ∷ a.rest) e).rest).inside

  module _ (w b : ℕ) (v : w ≡ tuple.header Traced (get_or H₀ slot₀ 0)) (o : b ≡ opener_width (get_or H₀ slot₀ 0)) (z : get_or H₀ slot₀ 0 ≡ 0 → ⊥) where
    some : 1 ≤ count g
    some = omega (arith, told-count.is, pos_of_ne-zero z)

    width : b ≡ opener_width (count g)
    width = o ∙ ap opener_width told-count.is

    lead-spelt : (l : Lead (tree_text (node g)) (count g) (trail (close_of (count g)) g))
        → drop (at₀ + b) T ≡ trail (close_of (count g)) g ++ a.rest
    lead-spelt l =
        ap (λ (n : ℕ). drop (at₀ + n) T) (width ∙ sym l.width)
        ∙ after T at₀ l.lead (trail (close_of (count g)) g ++ a.rest)
        (a.spelt ∙ ap (λ (t : List ℕ). t ++ a.rest) l.is ∙ append_assoc l.lead (trail (close_of (count g)) g) a.rest)

    pub begins : FieldsAt (set H₀ free₀ w) T (close_of (count g)) (free₀ + 1) (at₀ + b) (free₀ + 1 + get_or H₀ slot₀ 0) (slot₀ + 1) d g
    begins =
        record {
          rest = a.rest;
          spelt = lead-spelt (tuple-lead g some);
          ends = no_digit_close (count g);
          fits = a.fits;
          room = record {
            more = a.room.more;
            told = drop-set-lt (slot₀ + 1) H₀ free₀ w (omega (arith, free-below)) ∙ told-count.rest;
            within = omega (arith, a.room.within, length-set H₀ free₀ w);
            apart = omega (arith, a.room.apart, told-count.is);
            most = omega (arith, a.room.most, length-set H₀ free₀ w);
          };
          below = omega (arith, told-count.is);
        }

    -- the place of its first value
    pub lead_inside : at₀ + b < length T
    lead_inside =
        let p = apart_of (close_of (count g)) d g some a.fits in
        value_inside _ T _ (at₀ + b) _ _ p.first d
        (first-at (set H₀ free₀ w) T (close_of (count g)) (free₀ + 1) (at₀ + b) (free₀ + 1 + get_or H₀ slot₀ 0) (slot₀ + 1) d g begins p)

    -- all its values are laid
    pub ends : (H : List ℕ) (field at free slot : ℕ)
        → Going T (close_of (count g)) d g (set H₀ free₀ w) (free₀ + 1) (at₀ + b) (free₀ + 1 + get_or H₀ slot₀ 0) (slot₀ + 1) H field at free slot
        → free₀ + 1 + get_or H₀ slot₀ 0 ≤ field → TupleLaid H₀ at₀ free₀ slot₀ g at free slot H
    ends H field at free slot s h =
        let l = tuple-lead g some in
        let e = stop T (close_of (count g)) d g (set H₀ free₀ w) (free₀ + 1) (at₀ + b) (free₀ + 1 + get_or H₀ slot₀ 0) (slot₀ + 1) H field at free slot s
        (omega (arith, h, told-count.is)) in
        record {
          laid =
              e.laid ∙ ap (λ (x : ℕ). placed_in g (free₀ + 1) (free₀ + 1 + get_or H₀ slot₀ 0) (set H₀ free₀ x)) (header_is w v)
              ∙ ap (λ (n : ℕ). placed_in g (free₀ + 1) (free₀ + 1 + n) (set H₀ free₀ (2 * count g))) told-count.is;
          read = omega (arith, e.read, width, l.width, ap length l.is, length-append l.lead (trail (close_of (count g)) g));
          filled = omega (arith, e.filled, told-count.is);
          used = omega (arith, e.used);
        }
