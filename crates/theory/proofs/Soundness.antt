-- What `sound` says, each part by name, and back.
use Prim.Native.Nat.{ℕ, ◌+◌, ◌-◌, ◌≤◌, ◌<◌}
use native.Mathlib.Omega.{arith}
use mathlib.Core.Path.{◌≡◌, refl, ap, ◌∙◌}
use mathlib.Core.Logic.{◌⊎◌, inl, inr, ⊎_elim}
use mathlib.Core.Bool.{true, false, not}
use mathlib.Core.List.{List}
use lib.ListN.{length, get_or, drop, length-take, length-drop, get_or-eq_default}
use lib.Seq.{get_or-take, get_or-drop}
use borrow.Author.Tests.{eqb-true, eq-eqb, not-true}
use Rattle.model.specs.declared.Kind.TheVariants.{Traced}
use Rattle.model.specs.Headers.{Layout}
use Rattle.model.specs.Objects.{is_traced, kind, field_count, field_words}
use Rattle.model.specs.Shape.{bad_shape}
use Rattle.model.specs.Soundness.{all, span, tiles, headers, is_value, fields_are_values, sound}
use Rattle.model.specs.Values.{is_null}
use Rattle.model.specs.Words.{State, with_text, at, half_words, first_word, other_first, free}
use Rattle.theory.proofs.Members.{In, all_in, in_all}
use Rattle.theory.proofs.Objects.{kind-traced, field_at, fields-length}
use Rattle.theory.proofs.Shape.{Shaped, shaped, unshaped, first_in, other_in, halves_cover}
use Rattle.theory.proofs.Tests.{by_test, decide, and_both, all-at, at_all}
use Rattle.theory.proofs.Tiling.{headers_tile}

-- the words of a span
pub span-at : (H : List ℕ) (i e k : ℕ) → i + k < e → get_or (span H i e) k 0 ≡ at H (i + k)
span-at H i e k l = rw (get_or-take (e - i) (drop i H) k 0 (omega arith), get_or-drop)

pub span-length : (H : List ℕ) (i e : ℕ) → i ≤ e → e ≤ length H → length (span H i e) ≡ e - i
span-length H i e l m = rw (length-take, length-drop) (omega arith)

pub zeros-at : (H : List ℕ) (i e j : ℕ) → e ≤ length H → all is_null (span H i e) ≡ true → i ≤ j → j < e → at H j ≡ 0
zeros-at H i e j m h l n =
    let s : i + (j - i) ≡ j = omega arith in
    let w = span-length H i e (omega arith) m in
    let z = all-at is_null (span H i e) 0 (j - i) h (omega arith) in
    rw (span-at H i e (j - i) (omega arith), s) at (eqb-true (get_or (span H i e) (j - i) 0) 0 z)

pub at-zeros : (H : List ℕ) (i e : ℕ) → i ≤ e → e ≤ length H → ((j : ℕ) → i ≤ j → j < e → at H j ≡ 0)
    → all is_null (span H i e) ≡ true
at-zeros H i e l m f =
    let w = span-length H i e l m in
    at_all is_null (span H i e) 0
    (λ k n. rw (span-at H i e k (omega arith), f (i + k) (omega arith) (omega arith)))

module _ (Y : Layout) where
  -- what `sound` says, each part by name
  pub record SoundTests (s : State) : Type 0 where
    pub shape : Shaped s
    pub null : at s.heap 0 ≡ 0
    pub idle : (i : ℕ) → other_first s ≤ i → i < other_first s + half_words s.heap → at s.heap i ≡ 0
    pub rest : (i : ℕ) → free s ≤ i → i < first_word s + half_words s.heap → at s.heap i ≡ 0
    pub tiled : tiles Y s.heap (free s) (free s - first_word s) (first_word s) ≡ true
    pub roots : (r : ℕ) → r < length s.roots → is_value Y (headers Y s) (at s.roots r) ≡ true
    pub values : (i f : ℕ) → In i (headers Y s) → kind Y s.heap i ≡ Traced → f < field_count Y s.heap i
        → is_value Y (headers Y s) (at s.heap (i + 1 + f)) ≡ true

  pub sound_parts : (s : State) → sound Y s ≡ true → SoundTests s
  unfolding sound fields_are_values
  sound_parts s h =
      let H = s.heap in
      let hs = headers Y s in
      let p₆ = and_both _ (all (fields_are_values Y H hs) hs) h in
      let p₅ = and_both _ (all (is_value Y hs) s.roots) p₆.0 in
      let p₄ = and_both _ (tiles Y H (free s) (free s - first_word s) (first_word s)) p₅.0 in
      let p₃ = and_both _ (all is_null (span H (free s) (first_word s + half_words H))) p₄.0 in
      let p₂ = and_both _ (all is_null (span H (other_first s) (other_first s + half_words H))) p₃.0 in
      let p₁ = and_both (not (bad_shape s)) (is_null (at H 0)) p₂.0 in
      let sh : Shaped s = shaped s (not-true (bad_shape s) p₁.0) in
      let b = first_in s sh in
      let t = other_in s sh in
      record {
        shape = sh;
        null = eqb-true (at H 0) 0 p₁.1;
        idle = λ i l m. zeros-at H (other_first s) (other_first s + half_words H) i t.1 p₂.1 l m;
        rest = λ i l m. zeros-at H (free s) (first_word s + half_words H) i b.1 p₃.1 l m;
        tiled = p₄.1;
        roots = λ r l. all-at (is_value Y hs) s.roots 0 r p₅.1 l;
        values = λ i f m k l.
            let q = all_in (fields_are_values Y H hs) hs i p₆.1 m in
            let w = (headers_tile Y H (free s) (free s - first_word s) (first_word s) i p₄.1 m).within in
            let x = fields-length Y H i (omega (arith, sh.high)) in
            let v : all (is_value Y hs) (field_words Y H i) ≡ true = rw k at q in
            rw (field_at Y H i f l) at (all-at (is_value Y hs) (field_words Y H i) 0 f v (omega arith));
      }

  pub sound-whole : (s : State) → SoundTests s → sound Y s ≡ true
  unfolding sound fields_are_values
  sound-whole s h =
      let H = s.heap in
      let hs = headers Y s in
      let sh = h.shape in
      let b = first_in s sh in
      let t = other_in s sh in
      let okField : (i : ℕ) → In i hs → fields_are_values Y H hs i ≡ true = λ i m.
      let w = (headers_tile Y H (free s) (free s - first_word s) (first_word s) i h.tiled m).within in
      let x = fields-length Y H i (omega (arith, sh.high)) in
      ⊎_elim
      (λ (k : is_traced (kind Y H i) ≡ true).
      rw k (at_all (is_value Y hs) (field_words Y H i) 0
      (λ f l. rw (field_at Y H i f (omega arith)) (h.values i f m (kind-traced (kind Y H i) k) (omega arith)))))
      (λ (k : is_traced (kind Y H i) ≡ false). rw k refl)
      (by_test (is_traced (kind Y H i))) in
      rw (
        unshaped s sh,
        eq-eqb (at H 0) 0 h.null,
        at-zeros H (other_first s) (other_first s + half_words H) (omega arith) t.1 h.idle,
        at-zeros H (free s) (first_word s + half_words H) sh.high b.1 h.rest,
        h.tiled,
        at_all (is_value Y hs) s.roots 0 h.roots,
        in_all (fields_are_values Y H hs) hs okField,
      )

  -- all words outside the used part are 0
  pub sound-zero : (s : State) → SoundTests s → (i : ℕ) → (i < first_word s) ⊎ (free s ≤ i) → at s.heap i ≡ 0
  sound-zero s h i c =
      ⊎_elim
      (λ (l : i < length s.heap).
      ⊎_elim
      (λ (p : 1 ≤ i).
      ⊎_elim
      (λ u. ⊎_elim (λ (b : i < first_word s). let a = u.0 in absurd (omega arith)) (λ (b : free s ≤ i). h.rest i b u.1) c)
      (λ u. h.idle i u.0 u.1)
      (halves_cover s h.shape i p l))
      (λ (z : i < 1). ap (at s.heap) (omega arith) ∙ h.null)
      (⊎_elim (λ (z : i < 1). inr z) (λ (p : 1 ≤ i). inl p) (decide i 1)))
      (λ (l : length s.heap ≤ i). get_or-eq_default s.heap 0 l)
      (decide i (length s.heap))

-- ---- bytes that are lent

-- no clause of soundness sees them
pub text-sound : (Y : Layout) (s : State) (t : List ℕ) → SoundTests Y s → SoundTests Y (with_text t s)
text-sound Y s t h = record {
  shape = record {
    odd = h.shape.odd;
    pos = h.shape.pos;
    small = h.shape.small;
    few = h.shape.few;
    low = h.shape.low;
    high = h.shape.high;
  };
  null = h.null;
  idle = h.idle;
  rest = h.rest;
  tiled = h.tiled;
  roots = h.roots;
  values = h.values;
}
