-- Where the scan stands in the order of the copies, and how it goes on: past a header, a value, a raw word.
use Prim.Native.Nat.{ℕ, suc, ◌+◌, ◌-◌, ◌≤◌, ◌<◌}
use native.Mathlib.Omega.{arith}
use mathlib.Core.Path.{◌≡◌, refl, sym, ap, ◌∙◌}
use mathlib.Core.Logic.{⊎_elim}
use mathlib.Core.Bool.{true, false}
use mathlib.Core.List.{List, [], ◌∷◌, ◌++◌, append_assoc}
use lib.ListN.{length, get_or, length-append, get_or-append}
use lib.Seq.{get_or-append-add}
use Rattle.model.specs.declared.Kind.{Kind}
use Rattle.model.specs.Words.{at}
use Rattle.model.specs.Headers.{Layout}
use Rattle.model.specs.Objects.{is_traced, kind, field_count, size}
use Rattle.model.specs.Discovery.{packed}
use Rattle.model.specs.Collection.{Cell, still, value, field_cell, cells}
use Rattle.theory.proofs.Tests.{by_test}
use Rattle.theory.proofs.Packed.{packed-append, packed_starts, packed_grows}
use Rattle.theory.proofs.Objects.{kind-traced, kind-untraced, cells-length, field_cell_lem}
use Rattle.theory.proofs.Middle.{packed_snoc}
use Rattle.engine_scanning.specs.Scanning.{values_of, raws_of}

-- p words are passed; the next are the last values and then the last raw words of the objects in `gone`
pub record Cursor (Y : Layout) (H o : List ℕ) (p values raws : ℕ) (gone rest : List ℕ) : Type 0 where
  pub split : o ≡ gone ++ rest
  pub stands : p + (values + raws) ≡ length (packed (cells Y H) gone)
  pub fields : (d : ℕ) → d < values → (w : ℕ) × (get_or (packed (cells Y H) o) (p + d) (still 0) ≡ value w)
  pub others : (d : ℕ) → d < raws → (w : ℕ) × (get_or (packed (cells Y H) o) (p + values + d) (still 0) ≡ still w)

module _ (Y : Layout) (H : List ℕ) where
  abbrev P : List ℕ → List Cell
  P x = packed (cells Y H) x

  module _ (o : List ℕ) (p v r : ℕ) (gone rest : List ℕ) (C : Cursor Y H o p v r gone rest) where
    gone_within : p + (v + r) ≤ length (P o)
    gone_within = omega (arith, C.stands, packed_grows (cells Y H) gone o (rest, C.split))

    -- past a value, which may bring more objects
    pub past_value : (more : List ℕ) → (v ≡ 0 → ⊥) → Cursor Y H (o ++ more) (suc p) (v - 1) r gone (rest ++ more)
    past_value more z = record {
      split = ap (λ (y : List ℕ). y ++ more) C.split ∙ append_assoc gone rest more;
      stands = omega (arith, C.stands);
      fields = λ d l. let k = C.fields (suc d) (omega arith) in (
        k.0,
        ap (λ (y : ℕ). get_or (P (o ++ more)) y (still 0)) (omega arith)
            ∙ packed_starts (cells Y H) (still 0) o (o ++ more) (p + suc d) (more, refl) (omega (arith, gone_within))
            ∙ k.1,
      );
      others = λ d l. let k = C.others d l in (
        k.0,
        ap (λ (y : ℕ). get_or (P (o ++ more)) y (still 0)) (omega arith)
            ∙ packed_starts (cells Y H) (still 0) o (o ++ more) (p + v + d) (more, refl) (omega (arith, gone_within))
            ∙ k.1,
      );
    }

    pub past-raw : v ≡ 0 → (r ≡ 0 → ⊥) → Cursor Y H o (suc p) 0 (r - 1) gone rest
    past-raw z n = record {
      split = C.split;
      stands = omega (arith, C.stands);
      fields = λ d l. absurd (omega arith);
      others = λ d l. let k = C.others (suc d) (omega arith) in (k.0, ap (λ (y : ℕ). get_or (P o) y (still 0)) (omega arith) ∙ k.1);
    }

  -- between two objects, at the header of k
  module _ (o : List ℕ) (p : ℕ) (gone : List ℕ) (k : ℕ) (rest : List ℕ) (C : Cursor Y H o p 0 0 gone (k ∷ rest))
      (whole : k + size Y H k ≤ length H) where
    words : length (cells Y H k) ≡ size Y H k
    words = cells-length Y H k whole

    p_is : p ≡ length (P gone)
    p_is = omega (arith, C.stands)

    object_cell : (d : ℕ) → d < size Y H k → get_or (P o) (p + d) (still 0) ≡ get_or (cells Y H k) d (still 0)
    unfolding packed
    object_cell d l =
        ap (λ (y : List ℕ). get_or (P y) (p + d) (still 0)) C.split
        ∙ ap (λ (y : List Cell). get_or y (p + d) (still 0)) (packed-append (cells Y H) gone (k ∷ rest))
        ∙ ap (λ (y : ℕ). get_or (P gone ++ P (k ∷ rest)) (y + d) (still 0)) p_is
        ∙ get_or-append-add (P gone) (P (k ∷ rest)) d (still 0)
        ∙ get_or-append (cells Y H k) (P rest) (still 0) d (omega (arith, words))

    pub header_cell : get_or (P o) p (still 0) ≡ still (at H k)
    header_cell = ap (λ (y : ℕ). get_or (P o) y (still 0)) (omega arith) ∙ object_cell 0 (omega arith)

    field_here : (d : ℕ) → d < field_count Y H k
        → get_or (P o) (suc p + d) (still 0) ≡ field_cell (kind Y H k) (at H (k + 1 + d))
    field_here d l =
        ap (λ (y : ℕ). get_or (P o) y (still 0)) (omega arith) ∙ object_cell (suc d) (omega arith)
        ∙ field_cell_lem Y H k d whole l

    next_split : o ≡ (gone ++ (k ∷ [])) ++ rest
    next_split = C.split ∙ sym (append_assoc gone (k ∷ []) rest)

    next-words : p + size Y H k ≡ length (P (gone ++ (k ∷ [])))
    next-words = omega (arith, p_is, ap length (packed_snoc Y H gone k) ∙ length-append (P gone) (cells Y H k), words)

    pub object-fits : p + size Y H k ≤ length (P o)
    object-fits = omega (arith, next-words, packed_grows (cells Y H) (gone ++ (k ∷ [])) o (rest, next_split))

    pub past-header : Cursor Y H o (suc p) (values_of Y (at H k)) (raws_of Y (at H k)) (gone ++ (k ∷ [])) rest
    past-header =
        ⊎_elim
        (λ (t : is_traced (kind Y H k) ≡ true).
        rw t (record {
          split = next_split;
          stands = omega (arith, next-words);
          fields =
              λ d l. (
                at H (k + 1 + d),
                field_here d l ∙ ap (λ (x : Kind). field_cell x (at H (k + 1 + d))) (kind-traced (kind Y H k) t),
              );
          others = λ d l. absurd (omega arith);
        }))
        (λ (t : is_traced (kind Y H k) ≡ false).
        rw t (record {
          split = next_split;
          stands = omega (arith, next-words);
          fields = λ d l. absurd (omega arith);
          others = λ d l. (
            at H (k + 1 + d),
            ap (λ (y : ℕ). get_or (P o) y (still 0)) (omega arith) ∙ field_here d l
                ∙ ap (λ (x : Kind). field_cell x (at H (k + 1 + d))) (kind-untraced (kind Y H k) t),
          );
        }))
        (by_test (is_traced (kind Y H k)))
