-- THE MIDDLE: after the roots and at most p words of the copies, heap, roots and record are exactly
-- `during`; for every p, and of any lawful layout.
use Prim.Native.Nat.{ℕ, ◌+◌, ◌-◌, ◌≤◌, ◌<◌, min}
use native.Mathlib.Nat.{zero-add}
use native.Mathlib.Omega.{arith}
use mathlib.Core.Path.{◌≡◌, sym, ap, ◌∙◌, subst}
use mathlib.Core.Logic.{inl, inr, ⊎_elim}
use mathlib.Core.Bool.{true}
use mathlib.Core.List.{List}
use mathlib.Core.Option.{none}
use lib.ListN.{length, get_or-eq_default}
use lib.Seq.{ext_get_or}
use Rattle.model.specs.Words.{State, at, half_words, other, first_word, other_first}
use Rattle.model.specs.Headers.{Layout, Marks}
use Rattle.model.specs.Discovery.{mem, packed}
use Rattle.model.specs.Soundness.{sound}
use Rattle.model.specs.Collection.{Cell, still, cells, word_leads, order_at, order, live, rename}
use Rattle.model.specs.During.{old_word, stage, during}
use Rattle.theory.proofs.Tests.{by_test, decide}
use Rattle.theory.proofs.Members.{In, Out, map_in, position}
use Rattle.theory.proofs.Lists.{get_d_map}
use Rattle.theory.proofs.Packed.{packed_grows}
use Rattle.theory.proofs.Shape.{other_in, halves_cover}
use Rattle.theory.proofs.Soundness.{SoundTests, sound_parts}
use Rattle.theory.proofs.Collected.{live-is}
use Rattle.theory.proofs.Stage.{stage-passed, stage_coming, stage-rest, stage-header, stage-kept, stage-length}
use Rattle.theory.proofs.During.{rename_stable, order_heads, order-room, root-found, ended}
use Rattle.theory.proofs.Middle.{halves-ordered, stage-null, order_later, during-still}
use Rattle.engine_moving.specs.Moving.{none_met}
use Rattle.engine_scanning.specs.Scanning.{Scan, between, run}
use Rattle.engine.specs.Evacuation.{Emptied, emptied, moved_to, rooted, scanned}
use Rattle.engine.specs.Middle.{state_after, place_after, Middle}
use Rattle.engine.proofs.Midway.{Midway}
use Rattle.engine.proofs.Passing.{Scans}
use Rattle.engine.proofs.Slices.{Reached, after-roots, scan_starts, slice}

-- ---- the heap, word by word

module _ (Y : Layout) (s : State) (v : SoundTests Y s) (p : ℕ) (h : List ℕ) (M : Midway Y s (order_at Y s p) p h) where
  abbrev S : ℕ
  S = half_words s.heap

  abbrev t : ℕ
  t = other_first s

  abbrev O : List ℕ
  O = order_at Y s p

  abbrev P : List Cell
  P = packed (cells Y s.heap) (order_at Y s p)

  abbrev D : List ℕ
  D = (during Y s p).heap

  in_new : (j : ℕ) → j < S → at h (t + j) ≡ at D (t + j)
  in_new j l =
      ⊎_elim
      (λ (a : j < p). M.done j a ∙ sym (stage-passed Y s v O (order_heads Y s v p) (order-room Y s v p) p j a (omega (arith, M.ahead))))
      (λ (a : p ≤ j). ⊎_elim
      (λ (b : j < length P). M.todo j a l ∙ sym (stage_coming Y s v O (order_heads Y s v p) (order-room Y s v p) p j a b))
      (λ (b : length P ≤ j).
      M.todo j a l ∙ ap old_word (get_or-eq_default P (still 0) b)
      ∙ sym (stage-rest Y s v O (order_heads Y s v p) (order-room Y s v p) p j b l))
      (decide j (length P)))
      (decide j p)

  in_old : (x : ℕ) → first_word s ≤ x → x < first_word s + S → at h x ≡ at D x
  in_old x a b =
      ⊎_elim
      (λ (m : In x O). M.mark x m ∙ sym (stage-header Y s v O (order_heads Y s v p) (order-room Y s v p) p x m))
      (λ (m : Out x O).
      M.kept x (⊎_elim (λ (e : first_word s + S ≤ t). inl (omega arith)) (λ (e : t + S ≤ first_word s). inr (omega arith))
      (halves-ordered s)) m
      ∙ sym (stage-kept Y s v O (order_heads Y s v p) (order-room Y s v p) p x a b m))
      (by_test (mem x O))

  in_null : at h 0 ≡ at D 0
  in_null =
      ⊎_elim
      (λ (m : In 0 O). M.mark 0 m ∙ sym (stage-header Y s v O (order_heads Y s v p) (order-room Y s v p) p 0 m))
      (λ (m : Out 0 O). M.kept 0 (inl (omega (arith, other_in s v.shape))) m ∙ v.null ∙ sym (stage-null Y s O p))
      (by_test (mem 0 O))

  at_each : (x : ℕ) → x < length s.heap → at h x ≡ at D x
  at_each x l =
      ⊎_elim
      (λ (z : x < 1). let e : x ≡ 0 = omega arith in rw e in_null)
      (λ (z : 1 ≤ x). ⊎_elim
      (λ (b : (first_word s ≤ x) × (x < first_word s + S)). in_old x b.0 b.1)
      (λ (b : (t ≤ x) × (x < t + S)).
      let e : t + (x - t) ≡ x = omega (arith, b.0) in
      subst (λ (y : ℕ). at h y ≡ at D y) e (in_new (x - t) (omega (arith, b.0, b.1))))
      (halves_cover s v.shape x z l))
      (decide x 1)

  midway_heap : h ≡ (during Y s p).heap
  midway_heap =
      let n = stage-length Y s v O (order_heads Y s v p) (order-room Y s v p) p in
      ext_get_or 0 h D (M.same ∙ sym n) (λ x l. at_each x (omega (arith, M.same)))

-- ---- the state, and the scan's place

module _ (Y : Layout) (K : Marks Y) (s : State) (v : SoundTests Y s) where
  abbrev e : Emptied
  e = rooted Y s.heap s.roots (other_first s) none_met

  -- the roots keep their words as the order grows
  during-roots : (p : ℕ) → e.roots ≡ (during Y s p).roots
  unfolding stage
  during-roots p =
      (after-roots Y K s v).roots
      ∙ map_in (rename Y s.heap (order_at Y s 0) (other_first s)) (rename Y s.heap (order_at Y s p) (other_first s)) s.roots
      (λ w m. let r = position w s.roots m in
      sym (rename_stable Y s.heap (order_at Y s 0) (order_at Y s p) (other_first s) w (order_later Y s 0 p (omega arith))
      (λ i q. root-found Y s v 0 r.0 i (get_d_map (word_leads Y) s.roots r.0 0 none r.1 ∙ ap (word_leads Y) r.2 ∙ q))))

  -- a scan that stands after p words
  stands-is : (p : ℕ) (h : List ℕ) (c : Scan) → Scans Y s (order_at Y s p) p h c
      → moved_to s (emptied h e.roots c.free c.tally) ≡ during Y s p
  unfolding stage
  stands-is p h c I =
      λ i. record {
        heap = midway_heap Y s v p h I.mid i;
        roots = during-roots p i;
        «record» = record { half = other s.«record».half; free = record { 0 = I.free i } };
        text = s.text;
      }

  -- a slice: from the state after p words, at most n more give the state after p + n
  slice_is : (n p : ℕ) (h : List ℕ) (c : Scan) → Scans Y s (order_at Y s p) p h c
      → moved_to s (emptied (run Y n h c).heap e.roots (run Y n h c).scan.free (run Y n h c).scan.tally) ≡ during Y s (p + n)
  slice_is n p h c I =
      let r = slice Y K s v n p h c I in
      stands-is r.place (run Y n h c).heap (run Y n h c).scan r.scans
      ∙ ⊎_elim
      (λ (q : r.place ≡ p + n). ap (during Y s) q)
      (λ (q : length (packed (cells Y s.heap) (order_at Y s r.place)) ≤ r.place). during-still Y s r.place (p + n) q r.upto)
      r.whole

  pub state-is : (p : ℕ) → state_after Y s p ≡ during Y s p
  unfolding state_after scanned
  state-is p =
      slice_is p 0 e.heap (between (other_first s) e.free e.tally) (scan_starts Y K s v) ∙ ap (during Y s) (zero-add p)

  pub reached : (p : ℕ) → Reached Y s p 0 (run Y p e.heap (between (other_first s) e.free e.tally))
  reached p = slice Y K s v p 0 e.heap (between (other_first s) e.free e.tally) (scan_starts Y K s v)

  -- the words passed are p, or all that are live
  words-passed : (p : ℕ) → (reached p).place ≡ min p (live Y s)
  words-passed p =
      let q = (reached p).place in
      let n : live Y s ≡ length (packed (cells Y s.heap) (order Y s)) = live-is Y s v in
      let a : q ≤ length (packed (cells Y s.heap) (order_at Y s q)) = (reached p).scans.mid.ahead in
      let g : length (packed (cells Y s.heap) (order_at Y s q)) ≤ half_words s.heap = order-room Y s v q in
      let l : length (packed (cells Y s.heap) (order_at Y s q)) ≤ length (packed (cells Y s.heap) (order Y s)) =
      packed_grows (cells Y s.heap) (order_at Y s q) (order Y s)
      (order_later Y s q (half_words s.heap) (omega arith)) in
      ⊎_elim
      (λ (z : q ≡ 0 + p). omega arith)
      (λ (z : length (packed (cells Y s.heap) (order_at Y s q)) ≤ q).
      let w : length (packed (cells Y s.heap) (order_at Y s q)) ≡ length (packed (cells Y s.heap) (order Y s)) =
      ap (λ (o : List ℕ). length (packed (cells Y s.heap) o)) (ended Y s v q z) in
      omega (arith, (reached p).upto))
      (reached p).whole

  place_is : (p : ℕ) → place_after Y s p ≡ other_first s + min p (live Y s)
  unfolding place_after scanned
  place_is p = (reached p).scans.stands ∙ ap (λ (x : ℕ). other_first s + x) (words-passed p)

  midway : (p : ℕ) → Middle Y s p
  midway p = record { state = state-is p; place = place_is p }

-- THE MIDDLE STATE of any sound heap
pub in_the_middle : (Y : Layout) → Marks Y → (s : State) → sound Y s ≡ true → (p : ℕ) → Middle Y s p
in_the_middle Y K s e = midway Y K s (sound_parts Y s e)
