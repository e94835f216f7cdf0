-- Placing as `model` has it: with zeros in each new object, which its fields' words replace, and with no counts in the words that
-- are still to be filled. What stands in a word that is to be filled does not matter.
use Prim.Native.Nat.{ℕ, suc, ◌+◌, ◌*◌, ◌≤◌, ◌<◌}
use native.Mathlib.Omega.{arith}
use mathlib.Core.Path.{◌≡◌, sym, ap, ◌∙◌}
use mathlib.Core.Logic.{⊎_elim}
use mathlib.Core.List.{List, [], ◌∷◌, ◌++◌, append_assoc, append-nil}
use lib.ListN.{length, set, drop, take, replicate, length-set, length-replicate}
use lib.Seq.{sets, length-sets, sets-eq, set_comm, get_or-set_same, get_or-set_other, ext_get_or, drop_at, length-take-le}
use Rattle.model.specs.declared.Kind.TheVariants.{Traced}
use Rattle.model.specs.Words.{State, with_heap, with_free, at, free}
use Rattle.model.specs.Values.{tag}
use Rattle.model.specs.Headers.{tuple}
use Rattle.model.specs.Objects.{address}
use Rattle.model.specs.Trees.{Forest, end, leaf_then, node_then, node, count, forest_words, tree_text}
use Rattle.model.specs.Changes.{appended, laid, with_word}
use Rattle.theory.proofs.Tests.{decide, same?}
use Rattle.theory.proofs.Lists.{sets-before, sets-past}
use Rattle.reader_placing.specs.Counting.{tree_counts, Countable, CountsKept}
use Rattle.reader_placing.specs.Placing.{placed_in, object_at, TupleAt, TupleLaid}
use Rattle.reader_placing.specs.Laying.{LaysOut, LaidFrom}
use Rattle.reader_placing.proofs.Frames.{tree-counts-few, length-placed, length-object}

-- ---- two heaps that differ only in words that are to be filled

-- word j is a field that is to be filled, or one of an object that is to be placed, or the same in both
pub data Filled (f : Forest) (i k j : ℕ) (H M : List ℕ) : Type 0 where
  in_fields : i ≤ j → j < i + count f → Filled f i k j H M
  in_objects : k ≤ j → j < k + forest_words f → Filled f i k j H M
  alike : at H j ≡ at M j → Filled f i k j H M

set_both : (H M : List ℕ) (i v j : ℕ) → length H ≡ length M → i < length H → at H j ≡ at M j → at (set H i v) j ≡ at (set M i v) j
set_both H M i v j l h e =
    ⊎_elim
    (λ (z : j ≡ i). rw z (get_or-set_same H i v 0 h ∙ sym (get_or-set_same M i v 0 (omega (arith, l)))))
    (λ (z : j ≡ i → ⊥). get_or-set_other H i j v 0 z ∙ e ∙ sym (get_or-set_other M i j v 0 z))
    (same? j i)

set_there : (H M : List ℕ) (i v j : ℕ) → length H ≡ length M → i < length H → j ≡ i → at (set H i v) j ≡ at (set M i v) j
set_there H M i v j l h z = rw z (get_or-set_same H i v 0 h ∙ sym (get_or-set_same M i v 0 (omega (arith, l))))

length_both : (H M : List ℕ) (i v : ℕ) → length H ≡ length M → length (set H i v) ≡ length (set M i v)
length_both H M i v l = length-set H i v ∙ l ∙ sym (length-set M i v)

-- once a tuple is laid, of the values beside it
beside : (g f : Forest) (i k : ℕ) (H M : List ℕ) (j : ℕ) → length H ≡ length M → i + (count f + 1) ≤ length H
    → k + (count g + 1 + forest_words g + forest_words f) ≤ length H
    → (Filled g (k + 1) (k + 1 + count g) j (set (set H i (4 * k)) k (2 * count g)) (set (set M i (4 * k)) k (2 * count g))
    → at (object_at g k (set H i (4 * k))) j ≡ at (object_at g k (set M i (4 * k))) j)
    → Filled (node_then g f) i k j H M
    → Filled f (i + 1) (k + (count g + 1 + forest_words g)) j (object_at g k (set H i (4 * k))) (object_at g k (set M i (4 * k)))
unfolding count forest_words
beside g f i k H M j l a b inner (in_fields x y) =
    ⊎_elim
    (λ (z : j ≡ i).
    alike (inner (alike (set_both (set H i (4 * k)) (set M i (4 * k)) k (2 * count g) j (length_both H M i (4 * k) l)
    (omega (arith, length-set H i (4 * k))) (set_there H M i (4 * k) j l (omega arith) z)))))
    (λ (z : j ≡ i → ⊥). in_fields (omega arith) (omega arith)) (same? j i)
beside g f i k H M j l a b inner (in_objects x y) =
    ⊎_elim
    (λ (z : j < k + 1).
    alike (inner (alike (set_there (set H i (4 * k)) (set M i (4 * k)) k (2 * count g) j (length_both H M i (4 * k) l)
    (omega (arith, length-set H i (4 * k))) (omega arith)))))
    (λ (z : k + 1 ≤ j).
    ⊎_elim (λ (u : j < k + 1 + count g). alike (inner (in_fields z u)))
    (λ (u : k + 1 + count g ≤ j).
    ⊎_elim (λ (q : j < k + 1 + count g + forest_words g). alike (inner (in_objects u q)))
    (λ (q : k + 1 + count g + forest_words g ≤ j). in_objects (omega arith) (omega arith))
    (decide j (k + 1 + count g + forest_words g)))
    (decide j (k + 1 + count g)))
    (decide j (k + 1))
beside g f i k H M j l a b inner (alike e) =
    alike (inner (alike (set_both (set H i (4 * k)) (set M i (4 * k)) k (2 * count g) j (length_both H M i (4 * k) l)
    (omega (arith, length-set H i (4 * k))) (set_both H M i (4 * k) j l (omega arith) e))))

agree : (f : Forest) (i k : ℕ) (H M : List ℕ) (j : ℕ) → length H ≡ length M → i + count f ≤ length H → k + forest_words f ≤ length H
    → Filled f i k j H M → at (placed_in f i k H) j ≡ at (placed_in f i k M) j
unfolding placed_in count forest_words
agree end i k H M j l a b (in_fields x y) = absurd (omega arith)
agree end i k H M j l a b (in_objects x y) = absurd (omega arith)
agree end i k H M j l a b (alike e) = e
agree (leaf_then v f) i k H M j l a b w =
    let m = length-set H i (tag v) in
    agree f (i + 1) k (set H i (tag v)) (set M i (tag v)) j (length_both H M i (tag v) l) (omega arith) (omega arith) (next w)
  where
    next : Filled (leaf_then v f) i k j H M → Filled f (i + 1) k j (set H i (tag v)) (set M i (tag v))
    next (in_fields x y) =
        ⊎_elim (λ (z : j ≡ i). alike (set_there H M i (tag v) j l (omega arith) z))
        (λ (z : j ≡ i → ⊥). in_fields (omega arith) (omega arith)) (same? j i)
    next (in_objects x y) = in_objects x y
    next (alike e) = alike (set_both H M i (tag v) j l (omega arith) e)
agree (node_then g f) i k H M j l a b w =
    let m = length_both H M i (4 * k) l in
    let n = length_both (set H i (4 * k)) (set M i (4 * k)) k (2 * count g) m in
    let u : length (set (set H i (4 * k)) k (2 * count g)) ≡ length H = length-set (set H i (4 * k)) k (2 * count g) ∙ length-set H i (4 * k) in
    let o = length-object g k (set H i (4 * k)) in
    let o' = length-object g k (set M i (4 * k)) in
    agree f (i + 1) (k + (count g + 1 + forest_words g)) (object_at g k (set H i (4 * k))) (object_at g k (set M i (4 * k))) j
    (o ∙ m ∙ sym o') (omega (arith, o, length-set H i (4 * k))) (omega (arith, o, length-set H i (4 * k)))
    (beside g f i k H M j l a b
    (λ x. agree g (k + 1) (k + 1 + count g) (set (set H i (4 * k)) k (2 * count g)) (set (set M i (4 * k)) k (2 * count g)) j n (omega arith) (omega arith) x)
    w)

pub placed_alike : (f : Forest) (i k : ℕ) (H M : List ℕ) → length H ≡ length M → i + count f ≤ length H → k + forest_words f ≤ length H
    → ((j : ℕ) → j < length H → Filled f i k j H M) → placed_in f i k H ≡ placed_in f i k M
placed_alike f i k H M l a b w =
    ext_get_or 0 (placed_in f i k H) (placed_in f i k M) (length-placed f i k H ∙ l ∙ sym (length-placed f i k M))
    (λ j h. agree f i k H M j l a b (w j (omega (arith, h, length-placed f i k H))))

-- ---- with zeros in the new object

-- a header and zeros at k, and a word of an earlier field
zeros_alike : (g : Forest) (H : List ℕ) (i k w h j : ℕ) → i < k → k + 1 + count g ≤ length H
    → Filled g (k + 1) (k + 1 + count g) j (set (sets H k (h ∷ replicate (count g) 0)) i w) (set (set H i w) k h)
zeros_alike g H i k w h j a b =
    let z : List ℕ = replicate (count g) 0 in
    let r : length z ≡ count g = length-replicate (count g) 0 in
    let s = length-sets (set H k h) (suc k) z in
    let t = length-set H k h in
    let keep : at (sets (set H k h) (suc k) z) j ≡ at (set H k h) j
    → at (set (sets (set H k h) (suc k) z) i w) j ≡ at (set (set H i w) k h) j =
    λ e. set_both (sets (set H k h) (suc k) z) (set H k h) i w j s (omega (arith, s, t)) e
    ∙ ap (λ (l : List ℕ). at l j) (set_comm H k i h w (λ y. omega arith)) in
    ⊎_elim
    (λ (x : j < suc k). alike (keep (sets-before (set H k h) (suc k) z j x)))
    (λ (x : suc k ≤ j).
    ⊎_elim
    (λ (y : j < k + 1 + count g). in_fields (omega arith) y)
    (λ (y : k + 1 + count g ≤ j). alike (keep (sets-past (set H k h) (suc k) z j (omega (arith, r)))))
    (decide j (k + 1 + count g)))
    (decide j (suc k))

zeros-laid : (g : Forest) (H : List ℕ) (i k h : ℕ) (w : ℕ) → i < k → h ≡ 2 * count g → w ≡ 4 * k → k + (count g + 1 + forest_words g) ≤ length H
    → placed_in g (k + 1) (k + (count g + 1)) (set (sets H k (h ∷ replicate (count g) 0)) i w) ≡ object_at g k (set H i (4 * k))
zeros-laid g H i k h w a e e' b =
    let M = set (sets H k (h ∷ replicate (count g) 0)) i w in
    let c : k + (count g + 1) ≡ k + 1 + count g = omega arith in
    let s : length M ≡ length H = length-set (sets H k (h ∷ replicate (count g) 0)) i w ∙ length-sets H k (h ∷ replicate (count g) 0) in
    let t : length (set (set H i w) k h) ≡ length H = length-set (set H i w) k h ∙ length-set H i w in
    ap (λ (n : ℕ). placed_in g (k + 1) n M) c
    ∙ placed_alike g (k + 1) (k + 1 + count g) M (set (set H i w) k h) (s ∙ sym t) (omega (arith, s)) (omega (arith, s))
    (λ j l. zeros_alike g H i k w h j a (omega arith))
    ∙ ap (λ (x : ℕ). placed_in g (k + 1) (k + 1 + count g) (set (set H i w) k x)) e
    ∙ ap (λ (x : ℕ). placed_in g (k + 1) (k + 1 + count g) (set (set H i x) k (2 * count g))) e'

-- values laid in a state: its heap with them placed, and its free index behind them
pub laid-is : (f : Forest) (i : ℕ) (s : State) → i + count f ≤ free s → free s + forest_words f ≤ length s.heap
    → laid tuple f i s ≡ with_free s.«record».half (free s + forest_words f) (with_heap (placed_in f i (free s) s.heap) s)
unfolding laid placed_in count forest_words tuple
laid-is end i s a b = ap (λ (n : ℕ). with_free s.«record».half n s) (omega arith)
laid-is (leaf_then v f) i s a b =
    laid-is f (i + 1) (with_word s i (tag v)) (omega arith) (omega (arith, length-set s.heap i (tag v)))
laid-is (node_then g f) i s a b =
    let H = s.heap in
    let k = free s in
    let h = tuple.header Traced (count g) in
    let w = address tuple k in
    let s₁ = with_word (appended tuple Traced (count g) s) i w in
    let l₁ : length s₁.heap ≡ length H =
    length-set (sets H k (h ∷ replicate (count g) 0)) i w ∙ length-sets H k (h ∷ replicate (count g) 0) in
    let p = laid-is g (k + 1) s₁ (omega arith) (omega (arith, l₁)) in
    let M = placed_in g (k + 1) (k + (count g + 1)) s₁.heap in
    let l₂ : length M ≡ length H = length-placed g (k + 1) (k + (count g + 1)) s₁.heap ∙ l₁ in
    let s₂ = with_free s.«record».half (k + (count g + 1) + forest_words g) (with_heap M s) in
    let e : M ≡ object_at g k (set H i (4 * k)) = zeros-laid g H i k h w (omega arith) (omega arith) (omega arith) (omega arith) in
    let c : k + (count g + 1) + forest_words g ≡ k + (count g + 1 + forest_words g) = omega arith in
    let d : k + (count g + 1) + forest_words g + forest_words f ≡ k + (count g + 1 + forest_words g + forest_words f) = omega arith in
    ap (λ (x : State). laid tuple f (i + 1) x) p
    ∙ laid-is f (i + 1) s₂ (omega arith) (omega (arith, l₂))
    ∙ ap (λ (n : ℕ). with_free s.«record».half n (with_heap (placed_in f (i + 1) (k + (count g + 1) + forest_words g) M) s)) d
    ∙ ap (λ (n : ℕ). with_free s.«record».half (k + (count g + 1 + forest_words g + forest_words f)) (with_heap (placed_in f (i + 1) n M) s)) c
    ∙ ap (λ (x : List ℕ). with_free s.«record».half (k + (count g + 1 + forest_words g + forest_words f))
    (with_heap (placed_in f (i + 1) (k + (count g + 1 + forest_words g)) x) s)) e

-- ---- a text laid out

pub lays_counted : (H T : List ℕ) (first words : ℕ) (g : Forest) → LaysOut H T first words g → Countable H T (first + words) g
lays_counted H T first words g a = record {
  spelt = a.spelt;
  fits = a.fits;
  few = omega (arith, a.filled, a.room, a.most);
  room = omega (arith, a.filled, tree-counts-few (node g));
  within = a.room;
}

module _ (H T : List ℕ) (first words : ℕ) (g : Forest) (a : LaysOut H T first words g) (slot : ℕ) (H₁ : List ℕ)
    (c : CountsKept H (first + words) g slot H₁) where
  sized : length H₁ ≡ length H
  sized = ap length c.kept ∙ length-sets H slot (tree_counts (node g))

  pub lays_tuple : TupleAt H₁ T 0 first slot 63 g
  lays_tuple =
      let cs = tree_counts (node g) in
      let m = drop (slot + length cs) H in
      record {
        rest = [];
        spelt = a.spelt ∙ sym (append-nil (tree_text (node g)));
        fits = a.fits;
        room = record {
          more = m;
          told =
              ap (λ (l : List ℕ). drop slot l) (c.kept ∙ sets-eq cs H slot (omega (arith, c.begins, a.room)) ∙ append_assoc (take slot H) cs m)
              ∙ drop_at (take slot H) (cs ++ m) slot (length-take-le slot H (omega (arith, c.begins, a.room)));
          within = omega (arith, c.begins, a.room, sized);
          apart = omega (arith, c.begins, a.filled);
          most = omega (arith, a.most, sized);
        };
      }

  -- the heap with the counts, and the one with zeros
  counts_alike : (h j : ℕ)
      → Filled g (first + 1) (first + 1 + count g) j (set H₁ first h) (sets H first (h ∷ replicate (count g) 0))
  counts_alike h j =
      let z : List ℕ = replicate (count g) 0 in
      let r : length z ≡ count g = length-replicate (count g) 0 in
      let cs = tree_counts (node g) in
      let f = tree-counts-few (node g) in
      let w = a.filled in
      ⊎_elim
      (λ (x : j < first).
      alike (get_or-set_other H₁ first j h 0 (λ y. omega arith)
      ∙ ap (λ (l : List ℕ). at l j) c.kept ∙ sets-before H slot cs j (omega (arith, c.begins, f, w))
      ∙ sym (sets-before H first (h ∷ z) j x)))
      (λ (x : first ≤ j).
      ⊎_elim
      (λ (y : j < first + 1).
      let e : j ≡ first = omega arith in
      alike (rw e (get_or-set_same H₁ first h 0 (omega (arith, sized, a.room, w))
      ∙ sym (sets-before (set H first h) (suc first) z first (omega arith) ∙ get_or-set_same H first h 0 (omega (arith, a.room, w))))))
      (λ (y : first + 1 ≤ j).
      ⊎_elim
      (λ (u : j < first + 1 + count g). in_fields y u)
      (λ (u : first + 1 + count g ≤ j).
      ⊎_elim
      (λ (v : j < first + 1 + count g + forest_words g). in_objects u v)
      (λ (v : first + 1 + count g + forest_words g ≤ j).
      alike (get_or-set_other H₁ first j h 0 (λ q. omega arith)
      ∙ ap (λ (l : List ℕ). at l j) c.kept ∙ sets-past H slot cs j (omega (arith, c.begins, w))
      ∙ sym (sets-past H first (h ∷ z) j (omega (arith, r)))))
      (decide j (first + 1 + count g + forest_words g)))
      (decide j (first + 1 + count g)))
      (decide j (first + 1)))
      (decide j first)

  pub lays_laid : (at' free' slot' : ℕ) (H' : List ℕ) → TupleLaid H₁ 0 first slot g at' free' slot' H' → LaidFrom H first words g H'
  unfolding tuple
  lays_laid at' free' slot' H' l s e f =
      let h = tuple.header Traced (count g) in
      let h' : 2 * count g ≡ h = omega arith in
      let n : first + 1 + count g ≡ first + (count g + 1) = omega arith in
      let w : first + words ≡ free s + (count g + 1) + forest_words g = omega (arith, a.filled, f) in
      let s₁ = appended tuple Traced (count g) s in
      let m : length s₁.heap ≡ length H = length-sets s.heap (free s) (h ∷ replicate (count g) 0) ∙ ap length e in
      let p : H' ≡ placed_in g (first + 1) (free s + (count g + 1)) s₁.heap =
      l.laid
      ∙ ap (λ (x : ℕ). placed_in g (first + 1) (first + 1 + count g) (set H₁ first x)) h'
      ∙ placed_alike g (first + 1) (first + 1 + count g) (set H₁ first h) (sets H first (h ∷ replicate (count g) 0))
      (length-set H₁ first h ∙ sized ∙ sym (length-sets H first (h ∷ replicate (count g) 0)))
      (omega (arith, length-set H₁ first h, sized, a.room, a.filled)) (omega (arith, length-set H₁ first h, sized, a.room, a.filled))
      (λ j b. counts_alike h j)
      ∙ ap (λ (x : ℕ). placed_in g (first + 1) x (sets H first (h ∷ replicate (count g) 0))) n
      ∙ ap (λ (x : List ℕ). placed_in g (first + 1) (first + (count g + 1)) (sets x first (h ∷ replicate (count g) 0))) (sym e)
      ∙ ap (λ (x : ℕ). placed_in g (first + 1) (x + (count g + 1)) (sets s.heap x (h ∷ replicate (count g) 0))) (sym f) in
      ap (λ (x : ℕ). with_free s.«record».half x (with_heap H' s)) w
      ∙ ap (λ (x : List ℕ). with_free s.«record».half (free s + (count g + 1) + forest_words g) (with_heap x s)) p
      ∙ sym (laid-is g (first + 1) s₁ (omega (arith, f)) (omega (arith, m, w, a.room)))
