-- A tree that stands in a heap has its text again: the round trip of read and write.
use Prim.Native.Nat.{ℕ, zero, suc, ◌+◌, ◌≤◌, ◌<◌}
use native.Mathlib.Omega.{arith}
use mathlib.Core.Path.{◌≡◌, refl, sym, ap, ◌∙◌, subst}
use mathlib.Core.Logic.{⊎_elim}
use mathlib.Core.List.{List, [], ◌∷◌, map}
use lib.ListN.{length, get_or, length-append}
use lib.IntN.{ℤ}
use Rattle.std.specs.Prelude.{Ok}
use Rattle.model.specs.declared.Half.{Half}
use Rattle.model.specs.declared.Kind.TheVariants.{Traced}
use Rattle.model.specs.declared.Answer.TheVariants as Says
use Rattle.model.specs.declared.Call.TheVariants as Ask
use Rattle.model.specs.Answers.{refuse}
use Rattle.model.specs.Calls as Calls
use Rattle.model.specs.Changes.{root_word, spare}
use Rattle.model.specs.Collection.{collected}
use Rattle.model.specs.Effects as E
use Rattle.model.specs.Headers.{Layout, WritesBoth, Adjacent, tuple}
use Rattle.model.specs.Limits.{max_fields}
use Rattle.model.specs.Objects.{address, field_index}
use Rattle.model.specs.ReadFaults.{IsText}
use Rattle.model.specs.Sessions.{step, machine}
use Rattle.model.specs.TextFaults as T
use Rattle.model.specs.TextLaws.{RoundTrip, FewWords}
use Rattle.model.specs.Texts.{integer_text, one_closer, joined, enclosed, byte, max_depth, whole, behind, spelled}
use Rattle.model.specs.Trees.{Forest, end, leaf_then, node_then, Tree, leaf, node, count, forest_words, tree_words, texts, tree_text}
use Rattle.model.specs.Trees.{ForestFits, TreeFits}
use Rattle.model.specs.Values.{tag}
use Rattle.model.specs.Words.{State, with_text, at, half_words_of, half_words, first_of, first_word, free}
use borrow.Author.Tests.{lt-leb}
use Rattle.demands.proofs.CallsPass.{good_shape}
use Rattle.theory.proofs.Collected.{new_roots}
use Rattle.theory.proofs.CollectedSound.{new_shape}
use Rattle.demands.proofs.Demand1.{demand1}
use Rattle.theory.proofs.Headers.{tuple_lawful, tuple_adjacent}
use Rattle.demands.proofs.Integers.{tag-odd, untag-tag}
use Rattle.theory.proofs.Laying.{laid_end}
use Rattle.theory.proofs.Objects.{index-address, address_below}
use Rattle.theory.proofs.PlainAnswers.{plainly}
use Rattle.theory.proofs.Shape.{Shaped, first_in, unshaped}
use Rattle.theory.proofs.Tests.{decide}
use Rattle.demands.proofs.TextFaults.{text_pieces}
use Rattle.demands.proofs.TextWritten.{text-written}
use Rattle.demands.proofs.TreeRead.{read-text, root_is, is-sound, fits-then, reads_now, reads_then}

texts-length : (f : Forest) → length (texts f) ≡ count f
unfolding texts count
texts-length end = refl
texts-length (leaf_then v f) = let z = texts-length f in omega arith
texts-length (node_then g f) = let z = texts-length f in omega arith

module _ (Y : Layout) (law : WritesBoth Y) (near : Adjacent Y) (u : State) (h : Shaped u) where
  -- an object whose header and words lie in the used part
  module _ (b n : ℕ) (low : first_word u ≤ b) (high : b + (n + 1) ≤ free u) (head : at u.heap b ≡ Y.header Traced n) where
    few : n ≤ max_fields
    few = let z = first_in u h in omega (arith, h.high, h.small)

    counted : Y.count_of (at u.heap b) ≡ n
    counted = ap (λ w. Y.count_of w) head ∙ (law Traced).counts n few

    object-tuple : T.Tuple Y u (address Y b)
    object-tuple =
        let e = index-address Y b in
        let z = first_in u h in
        record {
          named = record {
            even = omega arith;
            not_null = λ q. omega arith;
            below_floor = address_below Y near u h b (omega (arith, h.high));
            multiple = omega arith;
            in_half = rw e low;
            below_free = rw e (omega arith);
            clear = rw e (ap (λ w. Y.is_header w) head ∙ (law Traced).clear n few);
            ends = rw e (omega (arith, counted));
          };
          traced = rw e (ap (λ w. Y.kind_of w) head ∙ (law Traced).kinds n few);
        }

    object-fields : T.fields_of Y u (address Y b) ≡ n
    object-fields = rw (index-address Y b) counted

    object-field : (f : ℕ) → T.field_of Y u (address Y b) f ≡ at u.heap (b + 1 + f)
    object-field f = ap (λ i. at u.heap (field_index i f)) (index-address Y b)

  integer_has : (d : ℕ) (v : ℤ) (w : ℕ) → TreeFits d (leaf v) → w ≡ tag v → T.HasText Y u d w (integer_text v)
  integer_has d v w f e =
      subst (λ x. T.HasText Y u d x (integer_text v)) (sym e)
      (subst (λ x. T.HasText Y u d (tag v) (integer_text x)) (untag-tag v f) (T.integer (tag-odd v f)))

  -- the values of a tuple
  forest_has : (f : Forest) (d i b e : ℕ) → ForestFits d f → E.Laid Y u.heap f i b e → first_word u ≤ b → e ≤ free u
      → (k : ℕ) → k < count f → T.HasText Y u d (at u.heap (i + k)) (get_or (texts f) k [])
  unfolding texts count
  forest_has end d i b e a l low high k m = absurd (omega arith)
  forest_has (leaf_then v f) d i b e a l low high zero m =
      integer_has d v (at u.heap (i + 0)) a.0 (ap (λ j. at u.heap j) (omega arith) ∙ l.0)
  forest_has (leaf_then v f) d i b e a l low high (suc k) m =
      subst (λ j. T.HasText Y u d (at u.heap j) (get_or (texts f) k [])) (omega arith)
      (forest_has f d (i + 1) b e a.1 l.1 low high k (omega arith))
  forest_has (node_then g f) zero i b e a l low high k m = absurd a
  forest_has (node_then g f) (suc d) i b e a l low high zero m =
      let c = l.2.0 in
      let p = laid_end Y u.heap g (b + 1) (b + (count g + 1)) c l.2.1 in
      let q = laid_end Y u.heap f (i + 1) c e l.2.2 in
      let w : at u.heap (i + 0) ≡ address Y b = ap (λ j. at u.heap j) (omega arith) ∙ l.0 in
      let t = object-tuple b (count g) low (omega arith) l.1 in
      let n = object-fields b (count g) low (omega arith) l.1 in
      subst (λ x. T.HasText Y u (suc d) x (enclosed (λ y. y) (texts g))) (sym w)
      (T.tuple (texts g) t (texts-length g ∙ sym n) (λ x y.
      subst (λ z. T.HasText Y u d z (get_or (texts g) x [])) (sym (object-field b (count g) low (omega arith) l.1 x))
      (forest_has g d (b + 1) (b + (count g + 1)) c a.0 l.2.1 (omega arith) (omega arith) x (omega arith))))
  forest_has (node_then g f) (suc d) i b e a l low high (suc k) m =
      let c = l.2.0 in
      let p = laid_end Y u.heap g (b + 1) (b + (count g + 1)) c l.2.1 in
      subst (λ j. T.HasText Y u (suc d) (at u.heap j) (get_or (texts f) k [])) (omega arith)
      (forest_has f (suc d) (i + 1) c e a.1 l.2.2 (omega arith) high k (omega arith))

  pub tree_has : (t : Tree) (d w b e : ℕ) → TreeFits d t → E.Planted Y u.heap t w b e → first_word u ≤ b → e ≤ free u
      → T.HasText Y u d w (tree_text t)
  tree_has (leaf v) d w b e a l low high = integer_has d v w a l.0
  tree_has (node g) zero w b e a l low high = absurd a
  tree_has (node g) (suc d) w b e a l low high =
      let p = laid_end Y u.heap g (b + 1) (b + (count g + 1)) e l.2 in
      let t = object-tuple b (count g) low (omega arith) l.1 in
      let n = object-fields b (count g) low (omega arith) l.1 in
      subst (λ x. T.HasText Y u (suc d) x (enclosed (λ y. y) (texts g))) (sym l.0)
      (T.tuple (texts g) t (texts-length g ∙ sym n) (λ x y.
      subst (λ z. T.HasText Y u d z (get_or (texts g) x [])) (sym (object-field b (count g) low (omega arith) l.1 x))
      (forest_has g d (b + 1) (b + (count g + 1)) e a l.2 (omega arith) high x (omega arith))))

  -- ---- written into bytes that have room for it

  bytes_whole : (n : ℕ) (bs : List ℕ) → length bs ≤ n → spelled n (map byte bs) ≡ whole bs
  unfolding spelled
  bytes_whole n [] l = refl
  bytes_whole zero (b ∷ bs) l = absurd (omega arith)
  bytes_whole (suc n) (b ∷ bs) l = ap (behind b) (bytes_whole n bs (omega arith))

  written : (r : ℕ) (bs : List ℕ) → r < length u.roots → T.HasText Y u max_depth (root_word u r) bs → length bs ≤ length u.text
      → ((step Y (Ask.Write r) u).answer ≡ Ok (Says.Written (length bs))) × E.TextWritten u bs (step Y (Ask.Write r) u).left
  unfolding step Calls.write refuse
  written r bs l t room =
      rw (unshaped u h, lt-leb (length u.roots) r l, text_pieces Y u h t, bytes_whole (length u.text) bs room)
      (refl, text-written u bs room)

planted-end : (Y : Layout) (H : List ℕ) (t : Tree) (w b e : ℕ) → E.Planted Y H t w b e → e ≡ b + tree_words t
planted-end Y H (leaf v) w b e p = omega (arith, p.1)
planted-end Y H (node g) w b e p = let z = laid_end Y H g (b + 1) (b + (count g + 1)) e p.2 in omega arith

-- what a tree leaves that fitted has a heap's shape, whatever bytes it is lent
lent-shape : (Y : Layout) (t : Tree) (r : ℕ) (s u : State) (bs : List ℕ) → Shaped s → tree_words t ≤ spare s → E.NewTree Y t r s u
    → Shaped (with_text bs u) × (first_word u ≡ first_word s)
lent-shape Y t r s u bs h fit n =
    let e = planted-end Y u.heap t (root_word u r) (free s) (free u) n.planted in
    let half : half_words u.heap ≡ half_words s.heap = ap half_words_of n.same_length in
    let first : first_word u ≡ first_word s =
    (ap (λ x. first_of x u.«record».half) half ∙ ap (λ (x : Half). first_of (half_words s.heap) x) n.same_half) in (
      record {
        odd = omega (arith, h.odd, n.same_length);
        pos = omega (arith, h.pos);
        small = omega (arith, h.small);
        few = omega (arith, h.few, n.root_count);
        low = omega (arith, h.low);
        high = omega (arith, h.high);
      },
      first,
    )

-- a root that has got a tree is written as the tree's text
tree-written : (t : Tree) (r : ℕ) (s u : State) (bs lent : List ℕ) → Shaped s → r < length s.roots → tree_words t ≤ spare s
    → E.NewTree tuple t r s u → IsText bs t → length bs ≤ length lent
    → let v = with_text lent u in
    ((step tuple (Ask.Write r) v).answer ≡ Ok (Says.Written (length bs))) × E.TextWritten v bs (step tuple (Ask.Write r) v).left
tree-written t r s u bs lent h l fit n i room =
    let v = with_text lent u in
    let k = lent-shape tuple t r s u lent h fit n in
    let has = tree_has tuple tuple_lawful.writes tuple_adjacent v k.0 t max_depth (root_word v r) (free s) (free u) i.fits n.planted
    (omega (arith, h.low, k.1)) (omega arith) in
    written tuple tuple_lawful.writes tuple_adjacent v k.0 r bs (omega (arith, n.root_count))
    (subst (T.HasText tuple v max_depth (root_word v r)) (sym i.spelled) has) room

pub round_trip : RoundTrip (machine tuple)
round_trip to s lent a room =
    let p : E.Passes tuple (Ask.Read to) s = ((demand1 tuple).session (Ask.Read to) s).none.0 (λ k e. plainly Says.Done k (sym a ∙ e)) in
    let q = read-text tuple to s p in
    let t = q.0 in
    let i = q.1 in
    let l = root_is tuple to s t p i in
    ⊎_elim
    (λ (c : spare s < tree_words t).
    let x = is-sound tuple to s t p i c in
    tree-written t to (collected tuple s) _ s.text lent (new_shape tuple s x) (omega (arith, new_roots tuple s x))
    (fits-then tuple to s t p i c) (reads_then tuple to s t p i c).1 i room)
    (λ (c : tree_words t ≤ spare s).
    tree-written t to s _ s.text lent (good_shape tuple s p.0) l c (reads_now tuple to s t p i c).1 i room)
    (decide (spare s) (tree_words t))

-- ---- words and bytes

-- the bytes of texts
abbrev bytes : List (List ℕ) → ℕ
bytes [] = 0
bytes (t ∷ ts) = length t + bytes ts

joined_bytes : (ts : List (List ℕ)) → length (joined (λ b. b) ts) ≡ bytes ts + length ts + 1
unfolding joined
joined_bytes [] = refl
joined_bytes (t ∷ ts) = let z = joined_bytes ts in let m = length-append t (joined (λ b. b) ts) in omega arith

enclosed-bytes : (ts : List (List ℕ)) → length ts + 1 + bytes ts ≤ length (enclosed (λ b. b) ts)
unfolding enclosed
enclosed-bytes [] = omega arith
enclosed-bytes (t ∷ []) = let m = length-append t (one_closer ∷ []) in omega arith
enclosed-bytes (t ∷ v ∷ ts) =
    let z = joined_bytes (v ∷ ts) in let m = length-append t (joined (λ b. b) (v ∷ ts)) in omega arith

few_forest : (f : Forest) → forest_words f ≤ bytes (texts f)
unfolding texts forest_words
few_forest end = omega arith
few_forest (leaf_then v f) = let z = few_forest f in omega arith
few_forest (node_then g f) =
    let y = few_forest g in let z = few_forest f in let e = enclosed-bytes (texts g) in let n = texts-length g in omega arith

pub few_words : FewWords
few_words (leaf v) = omega arith
few_words (node g) = let y = few_forest g in let e = enclosed-bytes (texts g) in let n = texts-length g in omega arith
