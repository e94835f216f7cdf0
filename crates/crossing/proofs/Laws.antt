-- The laws of specs/Laws.
use Prim.Native.Nat.{◌+◌, ◌≤◌}
use native.Mathlib.Omega.{arith}
use mathlib.Core.Path.{◌≡◌, refl, sym, ap, ◌∙◌}
use mathlib.Core.Logic.{⊎_elim}
use mathlib.Core.Bool.{true, false}
use lib.Dec.{leb}
use lib.ListN.{length}
use borrow.Author.Tests.{leb-true, leb-false, le-leb, ltb-false, eq-eqb, ne_eqb}
use Rattle.model.specs.declared.Half.{Half}
use Rattle.model.specs.declared.Half.TheVariants.{A, B}
use Rattle.model.specs.declared.Index.{Index}
use Rattle.std.specs.Prelude.{Ok, Err}
use Rattle.theory.proofs.Tests.{by_test, same?}
use Rattle.theory.proofs.Window.{word_from_count, word-past-end, word-itself, word_hidden}
use Rattle.crossing.specs.declared.CRecord.{CRecord}
use Rattle.crossing.specs.Numbers.{Given, given_of, no_half, numbers_of, record_of, word_at}
use Rattle.crossing.specs.Laws as Law

pub settles : Law.Settles
settles T g a b H H' R R' t t' e f =
    let x : given_of a H R t ≡ given_of b H' R' t' = e ∙ sym f in (
      ap (λ (z : Given T). z.returned) x,
      ap (λ (z : Given T). z.heap) x,
      ap (λ (z : Given T). z.roots) x,
      ap (λ (z : Given T). z.text) x,
    )

record_half : (h : Half) (i : Index) → no_half (numbers_of (record { half = h; free = i })) ≡ false
record_half A i = refl
record_half B i = refl

record_there : (h : Half) (i : Index) → record_of (numbers_of (record { half = h; free = i })) ≡ record { half = h; free = i }
record_there A i = refl
record_there B i = refl

record_back : (c : CRecord) → no_half c ≡ false → numbers_of (record_of c) ≡ c
record_back c e =
    let l : c.half ≤ 1 = ltb-false 1 c.half e in
    ⊎_elim
    (λ (z : c.half ≡ 0). rw (eq-eqb c.half 0 z) (ap (λ h. record { half = h; free = c.free }) (sym z)))
    (λ (z : c.half ≡ 0 → ⊥).
    let o : 1 ≡ c.half = omega arith in
    rw (ne_eqb c.half 0 z) (ap (λ h. record { half = h; free = c.free }) o))
    (same? c.half 0)

pub record_law : Law.RecordLaw
record_law = record { half = λ q. record_half q.half q.free; there = λ q. record_there q.half q.free; back = record_back }

pub word_law : Law.WordLaw
unfolding word_at
word_law H (Err k) f = rw (le-leb 0 f (omega arith)) (sym (word_hidden H k f))
word_law H (Ok p) f =
    let i = p.header in
    let n = p.count in
    ⊎_elim
    (λ (b : leb n f ≡ true). rw b (sym (word_from_count H i n f (leb-true n f b))))
    (λ (b : leb n f ≡ false).
    ⊎_elim
    (λ (e : leb (length H) (i.0 + 1 + f) ≡ true). rw (b, e) (sym (word-past-end H i n f (leb-true _ _ e))))
    (λ (e : leb (length H) (i.0 + 1 + f) ≡ false).
    rw (b, e) (sym (word-itself H i n f (leb-false n f b) (leb-false _ _ e) (i.0 + 1 + f) refl)))
    (by_test (leb (length H) (i.0 + 1 + f))))
    (by_test (leb n f))
