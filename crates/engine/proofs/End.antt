-- THE END: once no word is left to pass and the used words are cleared, heap, roots and record are exactly
-- `collected`, and what was met is `counts`; of any lawful layout.
use Prim.Native.Nat.{ℕ, ◌+◌, ◌-◌, ◌≤◌, ◌<◌}
use native.Mathlib.Omega.{arith}
use mathlib.Core.Path.{◌≡◌, sym, ap, ◌∙◌, subst}
use mathlib.Core.Logic.{inl, inr, ⊎_elim}
use mathlib.Core.List.{List}
use lib.ListN.{length}
use lib.Seq.{ext_get_or}
use Rattle.model.specs.Words.{State, at, half_words, first_word, other_first, free}
use Rattle.model.specs.Headers.{Layout, Marks}
use Rattle.model.specs.Discovery.{mem, packed}
use Rattle.model.specs.Collection.{addresses_in, cells, order_at, order, live, addresses_among, counts, collected}
use Rattle.model.specs.During.{during}
use Rattle.theory.proofs.Tests.{by_test, decide}
use Rattle.theory.proofs.Members.{In, Out}
use Rattle.theory.proofs.Shape.{first_in, other_in, halves_cover}
use Rattle.theory.proofs.Soundness.{SoundTests}
use Rattle.theory.proofs.Keeping.{tile}
use Rattle.theory.proofs.Order.{free_in}
use Rattle.theory.proofs.Collected.{new_length, new_old, new_null, new_free, new_text}
use Rattle.theory.proofs.Stage.{stage-kept, stage-length}
use Rattle.theory.proofs.During.{order_heads, order-room, ended, end-word, end-roots, end_record}
use Rattle.theory.proofs.Middle.{halves-ordered, stage-null}
use Rattle.runs.specs.Runs.{cleared}
use Rattle.runs.proofs.RunLaws.{cleared-length, cleared_inside, cleared-outside}
use Rattle.theory.proofs.Counting.{all-met}
use Rattle.engine_moving.specs.Moving.{none_met, addresses_met}
use Rattle.engine_scanning.specs.Scanning.{between}
use Rattle.engine.specs.Evacuation.{Emptied, moved_to, rooted, scanned, evacuated, SafeEvacuation}
use Rattle.engine.specs.Middle.{state_after}
use Rattle.engine.proofs.Slices.{safe-roots, after-roots, scan_starts, safe_slice}
use Rattle.engine.proofs.Middle.{state-is, reached}

module _ (Y : Layout) (K : Marks Y) (s : State) (v : SoundTests Y s) where
  abbrev S : ℕ
  S = half_words s.heap

  abbrev t : ℕ
  t = other_first s

  abbrev used : ℕ
  used = free s - first_word s

  abbrev e : Emptied
  e = rooted Y s.heap s.roots (other_first s) none_met

  -- the fuel of the scan
  abbrev n : ℕ
  n = length (rooted Y s.heap s.roots (other_first s) none_met).heap - other_first s

  pub safe : SafeEvacuation Y s.heap s.roots (first_word s) (free s - first_word s) (other_first s)
  safe = record {
    roots = safe-roots Y K s v;
    scan = safe_slice Y K s v n 0 e.heap (between t e.free e.tally) (scan_starts Y K s v);
    within = omega (arith, v.shape.low, free_in Y s v);
  }

  over : length (packed (cells Y s.heap) (order_at Y s n)) ≤ n
  over = omega (arith, (after-roots Y K s v).mid.same, other_in s v.shape, order-room Y s v n)

  abbrev D : List ℕ
  D = (during Y s n).heap

  abbrev N : List ℕ
  N = (collected Y s).heap

  -- no object lies past the free index, where the old half is 0
  unused : (x : ℕ) → free s ≤ x → x < first_word s + S → at D x ≡ 0
  unused x a b =
      stage-kept Y s v (order_at Y s n) (order_heads Y s v n) (order-room Y s v n) n x (omega (arith, v.shape.low)) b
      (⊎_elim
      (λ (m : In x (order_at Y s n)). let w = (tile Y s v x (order_heads Y s v n x m)).within in absurd (omega arith))
      (λ (m : Out x (order_at Y s n)). m)
      (by_test (mem x (order_at Y s n))))
      ∙ v.rest x a b

  in_old : (x : ℕ) → first_word s ≤ x → x < first_word s + S → at (cleared D (first_word s) used) x ≡ 0
  in_old x a b =
      let q = stage-length Y s v (order_at Y s n) (order_heads Y s v n) (order-room Y s v n) n in
      ⊎_elim
      (λ (l : x < free s). cleared_inside D (first_word s) used x (omega (arith, free_in Y s v)) a (omega arith))
      (λ (l : free s ≤ x). cleared-outside D (first_word s) used x (inr (omega (arith, v.shape.low))) ∙ unused x l b)
      (decide x (free s))

  old_is : (x : ℕ) → first_word s ≤ x → x < first_word s + S → at (cleared D (first_word s) used) x ≡ at N x
  old_is x a b =
      let q : first_word s + (x - first_word s) ≡ x = omega arith in
      in_old x a b ∙ sym (ap (at N) (sym q) ∙ new_old Y s v (x - first_word s) (omega arith))

  new_is : (x : ℕ) → t ≤ x → x < t + S → at (cleared D (first_word s) used) x ≡ at N x
  new_is x a b =
      let q : t + (x - t) ≡ x = omega arith in
      cleared-outside D (first_word s) used x
      (⊎_elim (λ (d : first_word s + S ≤ t). inr (omega (arith, v.shape.high, v.shape.low)))
      (λ (d : t + S ≤ first_word s). inl (omega arith)) (halves-ordered s))
      ∙ subst (λ (y : ℕ). at D y ≡ at N y) q (end-word Y s v n over (x - t) (omega arith))

  null_is : at (cleared D (first_word s) used) 0 ≡ at N 0
  null_is =
      cleared-outside D (first_word s) used 0 (inl (omega (arith, first_in s v.shape))) ∙ stage-null Y s (order_at Y s n) n
      ∙ sym (new_null Y s v)

  at_each : (x : ℕ) → x < length s.heap → at (cleared D (first_word s) used) x ≡ at N x
  at_each x l =
      ⊎_elim
      (λ (z : x < 1). let q : x ≡ 0 = omega arith in rw q null_is)
      (λ (z : 1 ≤ x). ⊎_elim
      (λ (b : (first_word s ≤ x) × (x < first_word s + S)). old_is x b.0 b.1)
      (λ (b : (t ≤ x) × (x < t + S)). new_is x b.0 b.1)
      (halves_cover s v.shape x z l))
      (decide x 1)

  heap_is : cleared D (first_word s) used ≡ N
  heap_is =
      let q = cleared-length D (first_word s) used ∙ stage-length Y s v (order_at Y s n) (order_heads Y s v n) (order-room Y s v n) n in
      ext_get_or 0 (cleared D (first_word s) used) N (q ∙ sym (new_length Y s v)) (λ x l. at_each x (omega (arith, q)))

  last : state_after Y s n ≡ during Y s n
  last = state-is Y K s v n

  abbrev pub leaves : Emptied
  leaves = evacuated Y s.heap s.roots (first_word s) (free s - first_word s) (other_first s)

  -- THE END
  pub ended_is : moved_to s leaves ≡ collected Y s
  unfolding evacuated state_after
  ended_is =
      λ i. record {
        heap = (ap (λ (d : State). cleared d.heap (first_word s) used) last ∙ heap_is) i;
        roots = (ap (λ (d : State). d.roots) last ∙ end-roots Y s v n over) i;
        «record» = (ap (λ (d : State). d.«record») last ∙ end_record Y s v n over) i;
        text = sym (new_text Y s) i;
      }

  pub free-is : leaves.free ≡ other_first s + live Y s
  free-is = ap (λ (d : State). free d) ended_is ∙ new_free Y s v

  -- ---- what was met

  -- the scan's end: all words are passed, and the order is whole
  abbrev r : ℕ
  r = (reached Y K s v n).place

  passed-all : length (packed (cells Y s.heap) (order_at Y s r)) ≤ r
  passed-all =
      ⊎_elim
      (λ (q : r ≡ 0 + n). let z : r ≡ n = omega arith in rw z over)
      (λ (q : length (packed (cells Y s.heap) (order_at Y s r)) ≤ r). q)
      (reached Y K s v n).whole

  order-whole : order_at Y s r ≡ order Y s
  order-whole = ended Y s v r passed-all

  pub objects-is : leaves.tally.copied ≡ (counts Y s).objects
  unfolding evacuated scanned counts
  objects-is = (reached Y K s v n).scans.copied ∙ ap length order-whole

  -- THE LAW of the numbers: each address met was copied or found
  pub addresses-is : addresses_met leaves.tally ≡ (counts Y s).addresses
  unfolding evacuated scanned counts
  addresses-is =
      (reached Y K s v n).scans.met
      ∙ ap (λ (x : ℕ). addresses_in s.roots + x)
      (all-met Y s.heap (order_at Y s r) r passed-all ∙ ap (addresses_among Y s.heap) order-whole)
