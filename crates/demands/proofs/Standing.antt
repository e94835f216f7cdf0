-- Every sound state of 32-bit words stands for a graph: an object for each header of the tiling, in that order.
use Prim.Native.Nat.{ℕ, zero, suc, ◌+◌, ◌-◌, ◌%◌, ◌<◌}
use native.Mathlib.Omega.{arith}
use mathlib.Core.Path.{◌≡◌, refl, sym, ap, ◌∙◌}
use mathlib.Core.Logic.{⊎_elim}
use mathlib.Core.Bool.{true, false, cond}
use mathlib.Core.List.{List, [], map}
use lib.Dec.{ltb}
use lib.ListN.{length, get_or, length-map}
use borrow.Author.Tests.{ltb-true, ne_eqb}
use Rattle.model.specs.declared.Kind.{Kind}
use Rattle.model.specs.declared.Kind.TheVariants.{Traced, Untraced}
use Rattle.model.specs.Conditions as C
use Rattle.model.specs.Demand3 as D3
use Rattle.model.specs.Discovery.{mem}
use Rattle.model.specs.Graph.{integer, null, code, Value, plain, object, Object, traced, untraced, Graph}
use Rattle.model.specs.Headers.{Layout, Adjacent}
use Rattle.model.specs.Objects.{address, index, kind, field_count, size, field_words}
use Rattle.model.specs.Represents.{Encodes, Holds, Represents}
use Rattle.model.specs.Soundness.{tiles, headers_from, headers}
use Rattle.model.specs.Values.{is_null, is_address, is_code, untag}
use Rattle.model.specs.Words.{State, at, first_word, free}
use Rattle.theory.proofs.Deciding.{headers_valid, tests_sound}
use Rattle.demands.proofs.GraphWords.{below, in_below, below_in}
use Rattle.theory.proofs.Keeping.{tile}
use Rattle.demands.proofs.Laws.{integer_law}
use Rattle.theory.proofs.Lists.{get_d_map}
use Rattle.theory.proofs.Members.{place, place_at, In, Distinct, distinct_once, at_in, mem_in, Out}
use Rattle.theory.proofs.Objects.{index-address, field_at, fields-length}
use Rattle.theory.proofs.Order.{free_in}
use Rattle.demands.proofs.Represents.{header-is-address}
use Rattle.theory.proofs.Soundness.{SoundTests}
use Rattle.theory.proofs.Tests.{by_test}
use Rattle.theory.proofs.Tiling.{tiles-step, headers-more, headers-end, headers_tile}
use Rattle.theory.proofs.WordSorts.{parts_code, code_no_address}

module _ (Y : Layout) where
  -- no header of a tiling stands twice
  headers_distinct : (H : List ℕ) (e n i : ℕ) → tiles Y H e n i ≡ true → Distinct (headers_from Y H e n i)
  unfolding headers_from
  headers_distinct H e zero i t = tt
  headers_distinct H e (suc n) i t =
      ⊎_elim
      (λ (l : ltb i e ≡ true).
      let a = tiles-step Y H e n i t (ltb-true i e l) in
      let rest = headers_from Y H e n (i + size Y H i) in
      rw (headers-more Y H e n i l) (
        ⊎_elim
            (λ (m : In i rest). let f = (headers_tile Y H e n (i + size Y H i) i a.1 m).from in absurd (omega arith))
            (λ (m : Out i rest). m)
            (by_test (mem i rest)),
        headers_distinct H e n (i + size Y H i) a.1,
      ))
      (λ (l : ltb i e ≡ false). rw (headers-end Y H e n i l) tt)
      (by_test (ltb i e))

  module _ (near : Adjacent Y) (s : State) (h : SoundTests Y s) (words : D3.OfWords s) where
    abbrev hs : List ℕ
    hs = headers Y s

    abbrev kept : List ℕ
    kept = below (length (headers Y s))

    abbrev header_of : ℕ → ℕ
    header_of x = get_or (headers Y s) x 0

    unfoldable pub value_of : ℕ → Value
    value_of w =
        cond (is_address w) (object (place (index Y w) hs))
        (cond (is_null w) (plain null) (cond (is_code w) (plain (code w)) (plain (integer (untag w)))))

    abbrev object_of : Kind → List ℕ → Object
    object_of Traced ws = traced (map value_of ws)
    object_of Untraced ws = untraced ws

    abbrev object_at : ℕ → Object
    object_at i = object_of (kind Y s.heap i) (field_words Y s.heap i)

    abbrev graph : Graph
    graph = record { objects = map object_at hs; roots = map value_of s.roots; text = s.text }

    -- a value's word is that of the value
    encodes : (w : ℕ) → w < 4_294_967_296 → C.Valid Y hs w → Encodes Y kept header_of (value_of w) w
    unfolding value_of
    encodes w l (C.odd o) =
        let z = integer_law.held w l o in
        rw (ne_eqb (w % 2) 0 (λ e. omega arith), ne_eqb w 0 (λ e. omega arith)) (z.0, sym z.1)
    encodes w l (C.null e) = rw e (refl, refl)
    encodes w l (C.code e f) =
        let c = parts_code w e f in
        rw (code_no_address w c, ne_eqb w 0 (λ z. omega arith), c) (c, refl)
    encodes w l (C.header i m e) =
        let n = mem_in i hs m in
        let p = place_at i hs n in
        rw (e, header-is-address Y s h i n near, index-address Y i)
        (in_below (place i hs) (length hs) p.0, ap (address Y) (sym p.1))

    field_encodes : (i f : ℕ) → In i hs → kind Y s.heap i ≡ Traced → f < field_count Y s.heap i
        → Encodes Y kept header_of (value_of (at s.heap (i + 1 + f))) (at s.heap (i + 1 + f))
    field_encodes i f m k l =
        encodes (at s.heap (i + 1 + f)) (words.heap (i + 1 + f))
        (headers_valid Y s h (at s.heap (i + 1 + f)) (h.values i f m k l))

    -- an object holds what stands from its header on
    object-holds : (i : ℕ) (k : Kind) → kind Y s.heap i ≡ k → In i hs
        → Holds Y kept header_of s.heap (object_of k (field_words Y s.heap i)) i
    object-holds i Traced e m =
        let t = (tile Y s h i m).within in
        let n = fields-length Y s.heap i (omega (arith, free_in Y s h)) in
        let z = length-map (field_words Y s.heap i) value_of in (
          e,
          sym n ∙ sym z,
          λ f l.
              rw (get_d_map value_of (field_words Y s.heap i) f 0 (plain null) (omega arith), field_at Y s.heap i f (omega arith))
              (field_encodes i f m e (omega arith)),
        )
    object-holds i Untraced e m =
        let t = (tile Y s h i m).within in
        let n = fields-length Y s.heap i (omega (arith, free_in Y s h)) in
        (e, sym n, λ f l. sym (field_at Y s.heap i f (omega arith)))

    header_in : (x : ℕ) → In x kept → In (header_of x) hs
    header_in x i = at_in hs x (below_in x (length hs) i)

    pub sound_represents : Represents Y s graph
    sound_represents = record {
      ok = tests_sound Y s h;
      kept = kept;
      header_of = header_of;
      known = λ x i. let l = below_in x (length hs) i in let z = length-map hs object_at in omega arith;
      head = header_in;
      text = refl;
      apart = λ x y i j e.
          distinct_once hs (headers_distinct s.heap (free s) (free s - first_word s) (first_word s) h.tiled) x y
          (below_in x (length hs) i) (below_in y (length hs) j) e;
      count = sym (length-map s.roots value_of);
      roots = λ r l.
          let n : r < length s.roots = let z = length-map s.roots value_of in omega arith in
          rw (get_d_map value_of s.roots r 0 (plain null) n)
          (encodes (at s.roots r) (words.roots r) (headers_valid Y s h (at s.roots r) (h.roots r n)));
      holds = λ x i.
          rw (get_d_map object_at hs x 0 (traced []) (below_in x (length hs) i))
          (object-holds (header_of x) (kind Y s.heap (header_of x)) refl (header_in x i));
    }
