-- Further laws: the window, integers and headers, objects' addresses and code words, lengths, and that a promise settles everything.
use Prim.Native.Nat.{ℕ, ◌%◌, ◌+◌, ◌-◌, ◌/◌, ◌≤◌, ◌<◌}
use native.Mathlib.Omega.{arith}
use mathlib.Core.Path.{◌≡◌, refl, sym, ap, ◌∙◌}
use mathlib.Core.Logic.{⊎_elim, ◌↔◌}
use mathlib.Core.Bool.{true, false}
use lib.Dec.{ltb}
use lib.ListN.{length, take, drop, length-take, length-drop, length-replicate}
use borrow.Author.Tests.{eqb-true, eq-eqb, ltb-true, ltb-false, le-leb}
use Rattle.model.specs.Agreements.{outcome_text, kept_text}
use Rattle.std.specs.Prelude.{Result, Ok, Err}
use Rattle.std.proofs.lemmas.Result.{IfOk-at_ok}
use Rattle.model.specs.declared.Kind.{Kind}
use Rattle.model.specs.declared.Kind.TheVariants.{Traced, Untraced}
use Rattle.model.specs.declared.Refusal.{Refusal}
use Rattle.model.specs.declared.Place.{Place}
use Rattle.model.specs.declared.Index.{Index}
use Rattle.model.specs.declared.Refusal.TheVariants as Why
use Rattle.model.specs.Answers.{refuse}
use Rattle.model.specs.Calls.{fresh}
use Rattle.model.specs.Changes.{no_root, root_word}
use Rattle.model.specs.Headers.{Layout, Adjacent, OneHeader, tuple}
use Rattle.model.specs.Laws as Law
use Rattle.model.specs.Limits.{max_fields, max_integer}
use Rattle.model.specs.Objects.{address, index, field_count, names}
use Rattle.model.specs.Sessions.{machine}
use Rattle.model.specs.Shape.{bad_length, bad_shape}
use Rattle.model.specs.Values.{is_code, in_range, untag}
use Rattle.model.specs.Window.{window, place}
use Rattle.model.specs.Words.{State}
use Rattle.demands.proofs.CallsPass.{fails_test}
use Rattle.theory.proofs.Deciding.{shape_decides, names_decides}
use Rattle.theory.proofs.Headers.{tuple_lawful}
use Rattle.demands.proofs.Integers.{tag-is-odd, tag_word, untag-tag, tag-untag, tag-modulo}
use Rattle.demands.proofs.Lengths.{step_lengths}
use Rattle.theory.proofs.Objects.{address_below}
use Rattle.theory.proofs.Shape.{shaped, first_in}
use Rattle.theory.proofs.Tests.{by_test}
use Rattle.theory.proofs.Window.{word_from_count, word-itself, word_hidden}
use Rattle.theory.proofs.WordSorts.{code_parts}

-- ---- the window

object-at : (p : Place) (i : Index) (n : ℕ) → ◌≡◌ {A = Result Place Refusal} (Ok p) (Ok (place i n)) → (p.header ≡ i) × (p.count ≡ n)
object-at p i n e = (cc, cc)

-- a window that is open is on an object that is named, in a heap of good shape
window_open : (Y : Layout) (r : ℕ) (s : State) (i : Index) (n : ℕ) → window Y r s ≡ Ok (place i n)
    → (bad_shape s ≡ false) × (names Y s (root_word s r) ≡ true) × (record { 0 = index Y (root_word s r) } ≡ i)
    × (field_count Y s.heap (index Y (root_word s r)) ≡ n)
unfolding window
window_open Y r s i n e =
    ⊎_elim
    (λ (a : bad_shape s ≡ true). absurd (IfOk-at_ok (λ p. ⊥) {r = Err Why.Shape} (rw a at e) tt))
    (λ (a : bad_shape s ≡ false).
    ⊎_elim
    (λ (b : no_root s r ≡ true). absurd (IfOk-at_ok (λ p. ⊥) {r = Err Why.Root} (rw (a, b) at e) tt))
    (λ (b : no_root s r ≡ false).
    ⊎_elim
    (λ (c : names Y s (root_word s r) ≡ true).
    let o = object-at (place (record { 0 = index Y (root_word s r) }) (field_count Y s.heap (index Y (root_word s r)))) i n (rw (a, b, c) at e) in
    (a, c, o.0, o.1))
    (λ (c : names Y s (root_word s r) ≡ false). absurd (IfOk-at_ok (λ p. ⊥) {r = Err Why.Object} (rw (a, b, c) at e) tt))
    (by_test (names Y s (root_word s r))))
    (by_test (no_root s r)))
    (by_test (bad_shape s))

shows : (Y : Layout) (r : ℕ) (s : State) (i : Index) (n : ℕ) → window Y r s ≡ Ok (place i n) → Law.Shows Y s r i n
shows Y r s i n e =
    let o = window_open Y r s i n e in
    let h = shaped s o.0 in
    let at_i : index Y (root_word s r) ≡ i.0 = ap (λ z. z.0) o.2 in
    let w = ((names_decides Y s (root_word s r)).holds o.1).ends in
    let b = first_in s h in
    let long : i.0 + 1 + n ≤ length s.heap = omega (arith, o.3, h.high) in
    let x = length-take n (drop (i.0 + 1) s.heap) in
    let y = length-drop (i.0 + 1) s.heap in
    let len : length (take n (drop (i.0 + 1) s.heap)) ≡ n = omega arith in
    record {
      object = sym at_i;
      fields = sym o.3 ∙ ap (field_count Y s.heap) at_i;
      words = len;
      count = refl;
      word = λ f l. word-itself s.heap i n f l (omega (arith, long, l)) (i.0 + 1 + f) refl;
      past = word_from_count s.heap i n;
    }

hides : (s : State) (k : Refusal) → Law.Hides s k
hides s k = record { words = refl; count = refl; word = word_hidden s.heap k }

pub window_law : (Y : Layout) → Law.WindowLaw Y
window_law Y = record { shows = shows Y; hides = hides }

-- ---- words

untag_range : (w : ℕ) → w < 4294967296 → in_range (untag w) ≡ true
unfolding untag
untag_range w l =
    ⊎_elim
    (λ (e : ltb w 2147483648 ≡ true). let g = ltb-true w 2147483648 e in rw e (le-leb (w / 2) max_integer (omega arith)))
    (λ (e : ltb w 2147483648 ≡ false). let g = ltb-false w 2147483648 e in rw e (le-leb ((4294967295 - w) / 2) max_integer (omega arith)))
    (by_test (ltb w 2147483648))

pub integer_law : Law.IntegerLaw
integer_law =
    record {
      odd = tag-is-odd;
      fits = tag_word;
      modulo = tag-modulo;
      back = untag-tag;
      held = λ w l o. (untag_range w l, tag-untag w l o);
    }

header-fits : (k : Kind) (n : ℕ) → n ≤ max_fields → tuple.header k n < 4294967296
unfolding tuple
header-fits Traced n l = omega arith
header-fits Untraced n l = omega arith

header_bit : (h : ℕ) → (tuple.is_header h ≡ true) ↔ (h % 2 ≡ 0)
unfolding tuple
header_bit h = (λ e. eqb-true (h % 2) 0 e, λ e. eq-eqb (h % 2) 0 e)

header-bits : (h : ℕ) → h < 4294967296 → h % 2 ≡ 0 → tuple.header (tuple.kind_of h) (tuple.count_of h) ≡ h
unfolding tuple
header-bits h l e =
    ⊎_elim
    (λ (b : ltb h 2147483648 ≡ true). let g = ltb-true h 2147483648 b in rw b (omega arith))
    (λ (b : ltb h 2147483648 ≡ false). let g = ltb-false h 2147483648 b in rw b (omega arith))
    (by_test (ltb h 2147483648))

-- the tuple layout is one that the laws of images ask for
pub one-header : OneHeader tuple
one-header h l e = header-bits h l ((header_bit h).0 e)

pub header_law : Law.HeaderLaw
header_law = record { reads = tuple_lawful; fits = header-fits; bit0 = header_bit; bits = header-bits }

pub no_object-is-code : (Y : Layout) → Adjacent Y → Law.NoObjectIsCode Y
no_object-is-code Y near s n i l =
    let h = shaped s (fails_test (shape_decides s) n) in
    let b = address_below Y near s h i l in
    ⊎_elim
    (λ (c : is_code (address Y i) ≡ true). let p = (code_parts (address Y i) c).1 in absurd (omega arith))
    (λ (c : is_code (address Y i) ≡ false). c)
    (by_test (is_code (address Y i)))

-- ---- calls

fresh_lengths : (s : State)
    → (length (fresh s).left.heap ≡ length s.heap) × ((fresh s).left.roots ≡ s.roots) × ((fresh s).left.text ≡ s.text)
unfolding fresh refuse
fresh_lengths s =
    ⊎_elim
    (λ (e : bad_length (length s.heap) ≡ true). rw e (refl, refl, refl))
    (λ (e : bad_length (length s.heap) ≡ false). rw e (length-replicate (length s.heap) 0, refl, refl))
    (by_test (bad_length (length s.heap)))

pub keeps_lengths : (Y : Layout) → Law.KeepsLengths (machine Y)
keeps_lengths Y = record {
  heap = λ c s. (step_lengths Y s c).0;
  roots = λ c s. (step_lengths Y s c).1;
  text = λ c s. (step_lengths Y s c).2;
  fresh_heap = λ s. (fresh_lengths s).0;
  fresh_roots = λ s. (fresh_lengths s).1;
  fresh_text = λ s. (fresh_lengths s).2;
}

pub settles : Law.Settles
settles o a b H H' R R' T T' e f =
    let g : outcome_text a H R T ≡ outcome_text b H' R' T' = e ∙ sym f in (
      λ i. record { answer = ap (λ z. z.answer) g i; «record» = ap (λ z. z.left.«record») g i },
      ap (λ z. z.left.heap) g,
      ap (λ z. z.left.roots) g,
      ap (λ z. z.left.text) g,
    )

pub kept_settles : Law.KeptSettles
kept_settles o a b q q' H H' R R' T T' e f =
    let g : kept_text a H R q T ≡ kept_text b H' R' q' T' = e ∙ sym f in (
      ap (λ z. z.answer) g,
      ap (λ z. z.left.«record») g,
      ap (λ z. z.left.heap) g,
      ap (λ z. z.left.roots) g,
      ap (λ z. z.left.text) g,
    )
