-- The tests of the definitions decide document 01's conditions: SHAPE, naming an object, soundness.
use Prim.Native.Nat.{ℕ, zero, suc, ◌+◌, ◌-◌, ◌%◌, ◌≤◌, ◌<◌}
use native.Mathlib.Omega.{arith}
use mathlib.Core.Path.{◌≡◌, refl, sym, subst}
use mathlib.Core.Logic.{⊎_elim}
use mathlib.Core.Bool.{true, false, not, ◌&&◌}
use mathlib.Core.List.{List, []}
use lib.Dec.{ltb, leb, eqb}
use lib.ListN.{length}
use borrow.Author.Tests.{ltb-true, ltb-false, leb-true, eqb-true, eq-eqb, lt-ltb, le-leb}
use Rattle.model.specs.Conditions as C
use Rattle.model.specs.Conditions.{Decides}
use Rattle.model.specs.Discovery.{mem}
use Rattle.model.specs.Headers.{Layout}
use Rattle.model.specs.Limits.{max_words, max_roots, code_floor}
use Rattle.model.specs.Objects.{index, size, names}
use Rattle.model.specs.Shape.{bad_length, bad_shape_of, bad_shape}
use Rattle.model.specs.Soundness.{tiles, headers_from, headers, is_value, sound}
use Rattle.model.specs.Values.{is_address}
use Rattle.model.specs.Words.{State, at, half_words, first_word, free}
use Rattle.theory.proofs.Keeping.{tile}
use Rattle.theory.proofs.Members.{In, mem_in, in_mem}
use Rattle.theory.proofs.Shape.{Shaped, GoodLength, good_length, shaped, unshaped, first_in}
use Rattle.theory.proofs.Soundness.{SoundTests, sound_parts, sound-whole}
use Rattle.theory.proofs.Tests.{by_test, never, decide, same?, or_cases, and_both}
use Rattle.theory.proofs.Tiling.{tiles-step, tiles_le, tiles_more, tiles_here, headers-more, headers-end}
use Rattle.theory.proofs.Tiling.{headers_here}
use Rattle.theory.proofs.Values.{value-header, address-value, plain_value}
use Rattle.theory.proofs.WordSorts.{address_parts, parts_address, odd_no_address, parts_code, code_no_address}

-- ---- SHAPE

pub length_decides : (s : State) → Decides (bad_length (length s.heap)) (C.BadLength s)
length_decides s = record {
  holds = λ e.
      ⊎_elim
      (λ x. ⊎_elim (λ y. C.even (eqb-true (length s.heap % 2) 0 y)) (λ y. C.short (ltb-true (length s.heap) 3 y))
      (or_cases (eqb (length s.heap % 2) 0) (ltb (length s.heap) 3) x))
      (λ x. C.long (ltb-true max_words (length s.heap) x))
      (or_cases _ (ltb max_words (length s.heap)) e);
  fails = λ e. not-bad (good_length (length s.heap) e);
}
  where
    not-bad : GoodLength (length s.heap) → C.BadLength s → ⊥
    not-bad g (C.even x) = omega (arith, g.odd)
    not-bad g (C.short x) = omega (arith, g.odd, g.least)
    not-bad g (C.long x) = omega (arith, g.odd, g.most)

pub shape_decides : (s : State) → Decides (bad_shape s) (C.BadShape s)
unfolding bad_shape_of
shape_decides s = record { holds = bad; fails = λ e. not-bad (shaped s e) }
  where
    bad : bad_shape s ≡ true → C.BadShape s
    bad e =
        ⊎_elim
        (λ x. ⊎_elim
        (λ y. ⊎_elim
        (λ z. C.wrong_length ((length_decides s).holds z))
        (λ z. C.many_roots (ltb-true max_roots (length s.roots) z))
        (or_cases (bad_length (length s.heap)) (ltb max_roots (length s.roots)) y))
        (λ y. C.free_before (ltb-true (free s) (first_word s) y))
        (or_cases _ (ltb (free s) (first_word s)) x))
        (λ x. C.free_past (ltb-true (first_word s + half_words s.heap) (free s) x))
        (or_cases _ (ltb (first_word s + half_words s.heap) (free s)) e)

    not-bad : Shaped s → C.BadShape s → ⊥
    not-bad h (C.wrong_length (C.even x)) = omega (arith, h.odd)
    not-bad h (C.wrong_length (C.short x)) = omega (arith, h.odd, h.pos)
    not-bad h (C.wrong_length (C.long x)) = omega (arith, h.odd, h.small)
    not-bad h (C.many_roots x) = omega (arith, h.few)
    not-bad h (C.free_before x) = omega (arith, h.low)
    not-bad h (C.free_past x) = omega (arith, h.high)

module _ (Y : Layout) where
  -- ---- naming an object

  named : (s : State) (w : ℕ) → names Y s w ≡ true → C.Names Y s w
  unfolding names
  named s w e =
      let i = index Y w in
      let p₅ = and_both _ (leb (i + size Y s.heap i) (free s)) e in
      let p₄ = and_both _ (Y.is_header (at s.heap i)) p₅.0 in
      let p₃ = and_both _ (ltb i (free s)) p₄.0 in
      let p₂ = and_both _ (leb (first_word s) i) p₃.0 in
      let p₁ = and_both (is_address w) (eqb (w % 4) 0) p₂.0 in
      record {
        even = (address_parts w p₁.0).0;
        not_null = (address_parts w p₁.0).1;
        below_floor = (address_parts w p₁.0).2;
        multiple = eqb-true (w % 4) 0 p₁.1;
        in_half = leb-true (first_word s) i p₂.1;
        below_free = ltb-true i (free s) p₃.1;
        clear = p₄.1;
        ends = leb-true (i + size Y s.heap i) (free s) p₅.1;
      }

  -- an object is named by an address
  pub named-address : (s : State) (w : ℕ) → C.Names Y s w → is_address w ≡ true
  named-address s w n = parts_address w n.even n.not_null n.below_floor

  pub names_true : (s : State) (w : ℕ) → C.Names Y s w → names Y s w ≡ true
  unfolding names
  names_true s w n =
      rw (
        named-address s w n,
        eq-eqb (w % 4) 0 n.multiple,
        le-leb (first_word s) (index Y w) n.in_half,
        lt-ltb (index Y w) (free s) n.below_free,
        n.clear,
        le-leb (index Y w + size Y s.heap (index Y w)) (free s) n.ends,
      )

  pub names_decides : (s : State) (w : ℕ) → Decides (names Y s w) (C.Names Y s w)
  names_decides s w = record { holds = named s w; fails = λ e n. never (names_true s w n) e }

  -- ---- a tiling

  pub tiling_le : {H : List ℕ} {e i : ℕ} {hs : List ℕ} → C.Tiling Y H e i hs → i ≤ e
  tiling_le C.done = omega arith
  tiling_le (C.object i hs l c t) = omega arith

  pub tiles_tiling : (H : List ℕ) (e n i : ℕ) → tiles Y H e n i ≡ true → C.Tiling Y H e i (headers_from Y H e n i)
  unfolding tiles headers_from
  tiles_tiling H e zero i t = subst (λ z. C.Tiling Y H e z []) (sym (eqb-true i e t)) C.done
  tiles_tiling H e (suc n) i t =
      ⊎_elim
      (λ (l : ltb i e ≡ true).
      let a = tiles-step Y H e n i t (ltb-true i e l) in
      rw (headers-more Y H e n i l)
      (C.object i (headers_from Y H e n (i + size Y H i)) (ltb-true i e l) a.0 (tiles_tiling H e n (i + size Y H i) a.1)))
      (λ (l : ltb i e ≡ false).
      let b = tiles_le Y H e (suc n) i t in
      let g = ltb-false i e l in
      rw (headers-end Y H e n i l) (subst (λ z. C.Tiling Y H e z []) (let q : e ≡ i = omega arith in q) C.done))
      (by_test (ltb i e))

  tiling_tiles : {H : List ℕ} {e i : ℕ} {hs : List ℕ} (n : ℕ) → C.Tiling Y H e i hs → e - i ≤ n
      → (tiles Y H e n i ≡ true) × (headers_from Y H e n i ≡ hs)
  tiling_tiles {H} {e} n C.done l = (tiles_here Y H e n, headers_here Y H e n)
  tiling_tiles {H} {e} zero (C.object i hs b c t) l = absurd (omega arith)
  tiling_tiles {H} {e} (suc n) (C.object i hs b c t) l =
      let m = tiling_le t in
      let ih = tiling_tiles n t (omega arith) in
      (tiles_more Y H e n i b c ih.0, rw (headers-more Y H e n i (lt-ltb i e b), ih.1))

  -- ---- values among the headers of a tiling

  value_valid : (hs : List ℕ) (w : ℕ) → ((i : ℕ) → In i hs → 1 ≤ i) → is_value Y hs w ≡ true → C.Valid Y hs w
  unfolding is_value
  value_valid hs w low v =
      ⊎_elim
      (λ (p : is_address w ≡ true).
      let m = value-header Y hs w v p in
      let q = multiple p in
      let l = low (index Y w) m in
      C.header (index Y w) (in_mem (index Y w) hs m) (omega arith))
      (λ (p : is_address w ≡ false).
      ⊎_elim
      (λ (z : w ≡ 0). C.null z)
      (λ (z : w ≡ 0 → ⊥).
      ⊎_elim
      (λ (o : w % 2 ≡ 0).
      ⊎_elim
      (λ (l : w < code_floor). never (parts_address w o z l) p)
      (λ (l : code_floor ≤ w). C.code o l)
      (decide w code_floor))
      (λ (o : w % 2 ≡ 0 → ⊥). C.odd (omega arith))
      (same? (w % 2) 0))
      (same? w 0))
      (by_test (is_address w))
    where
      multiple : is_address w ≡ true → w % 4 ≡ 0
      multiple p =
          ⊎_elim (λ (q : not (is_address w) ≡ true). never refl (sym (rw p at q)))
          (λ q. eqb-true (w % 4) 0 (and_both (eqb (w % 4) 0) (mem (index Y w) hs) q).0)
          (or_cases (not (is_address w)) (eqb (w % 4) 0 && mem (index Y w) hs) v)

  valid_value : (hs : List ℕ) (w : ℕ) → C.Valid Y hs w → is_value Y hs w ≡ true
  valid_value hs w (C.odd o) = plain_value Y hs w (odd_no_address w o)
  valid_value hs w (C.null z) = plain_value Y hs w (rw z)
  valid_value hs w (C.code e l) = plain_value Y hs w (code_no_address w (parts_code w e l))
  valid_value hs w (C.header i m e) = rw e (address-value Y hs i (mem_in i hs m))

  -- ---- soundness

  -- a value among the headers of a sound state: none of them stands at word 0
  pub headers_valid : (s : State) → SoundTests Y s → (w : ℕ) → is_value Y (headers Y s) w ≡ true → C.Valid Y (headers Y s) w
  headers_valid s h w v =
      value_valid (headers Y s) w (λ i m. let a = (tile Y s h i m).from in let b = first_in s h.shape in omega arith) v

  pub tests_sound : (s : State) → SoundTests Y s → C.Sound Y s
  tests_sound s h =
      record {
        shape = (shape_decides s).fails (unshaped s h.shape);
        reserved = h.null;
        idle = h.idle;
        unused = h.rest;
        headers = headers Y s;
        tiled = tiles_tiling s.heap (free s) (free s - first_word s) (first_word s) h.tiled;
        roots = λ r l. headers_valid s h (at s.roots r) (h.roots r l);
        fields = λ i f m k l. headers_valid s h (at s.heap (i + 1 + f)) (h.values i f (mem_in i (headers Y s) m) k l);
      }

  pub sound_tests : (s : State) → C.Sound Y s → SoundTests Y s
  sound_tests s h =
      let t = tiling_tiles (free s - first_word s) h.tiled (omega arith) in
      let e : headers Y s ≡ h.headers = t.1 in
      record {
        shape = shaped s (⊎_elim (λ (b : bad_shape s ≡ true). absurd (h.shape ((shape_decides s).holds b)))
            (λ (b : bad_shape s ≡ false). b) (by_test (bad_shape s)));
        null = h.reserved;
        idle = h.idle;
        rest = h.unused;
        tiled = t.0;
        roots = λ r l. rw e (valid_value h.headers (at s.roots r) (h.roots r l));
        values = λ i f m k l.
            rw e (valid_value h.headers (at s.heap (i + 1 + f)) (h.fields i f (in_mem i h.headers (rw e at m)) k l));
      }

  pub sound_decides : (s : State) → Decides (sound Y s) (C.Sound Y s)
  sound_decides s = record {
    holds = λ e. tests_sound s (sound_parts Y s e);
    fails = λ e h. never (sound-whole Y s (sound_tests s h)) e;
  }

  pub tests_decide : C.TestsDecide Y
  tests_decide =
      record { of_length = length_decides; of_shape = shape_decides; of_names = names_decides; of_sound = sound_decides }
