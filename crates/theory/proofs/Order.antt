-- The order of a sound state: its objects are headers of the tiling, exactly the reachable ones, each once.
use Prim.Native.Nat.{ℕ, suc, ◌+◌, ◌-◌, ◌≤◌, ◌<◌}
use native.Mathlib.Omega.{arith}
use mathlib.Core.Path.{◌≡◌, refl, sym, ◌∙◌, subst}
use mathlib.Core.Logic.{⊎_elim}
use mathlib.Core.Bool.{true, false}
use mathlib.Core.List.{map}
use mathlib.Core.Option.{none, some}
use lib.Dec.{ltb}
use lib.ListN.{length, get_or, length-map, get_or-eq_default}
use borrow.Author.Tests.{ltb-true, ltb-false}
use Rattle.model.specs.Collection.{still, cells, word_leads, cell_leads, order_at, order}
use Rattle.model.specs.Demand2 as D
use Rattle.model.specs.Discovery.{packed}
use Rattle.model.specs.Headers.{Layout}
use Rattle.model.specs.Objects.{index, size}
use Rattle.model.specs.Soundness.{headers}
use Rattle.model.specs.Values.{is_address}
use Rattle.model.specs.Words.{State, at, half_words, first_word, free}
use Rattle.theory.proofs.Breadth.{Near, near-root, near_cell, breadth}
use Rattle.theory.proofs.Discovery.{Reach, root, cell, found_distinct, found_reach, reach_found}
use Rattle.theory.proofs.Lists.{get_d_map}
use Rattle.theory.proofs.Members.{In, Distinct}
use Rattle.theory.proofs.Packed.{packed-within}
use Rattle.theory.proofs.Shape.{first_in}
use Rattle.theory.proofs.Soundness.{SoundTests}
use Rattle.theory.proofs.Tests.{by_test}
use Rattle.theory.proofs.Tiling.{headers_tile, headers-words}
use Rattle.theory.proofs.Values.{leads-address, address-leads, value-header, cell_leads_lem, field-leads}
use Rattle.theory.proofs.Visits.{no_some}

module _ (Y : Layout) (s : State) (h : SoundTests Y s) where
  abbrev pub Reached : ℕ → Type 0
  Reached = Reach (cells Y s.heap) (still 0) (cell_leads Y) (map (word_leads Y) s.roots)

  pub header_tile : (i : ℕ) → In i (headers Y s) → i + size Y s.heap i ≤ free s
  header_tile i m = (headers_tile Y s.heap (free s) (free s - first_word s) (first_word s) i h.tiled m).within

  pub free_in : free s ≤ length s.heap
  free_in = let b = first_in s h.shape in omega (arith, h.shape.high)

  -- a root that leads somewhere
  pub root-leads : (k j : ℕ) → get_or (map (word_leads Y) s.roots) k none ≡ some j
      → (k < length s.roots) × (is_address (at s.roots k) ≡ true) × (index Y (at s.roots k) ≡ j)
  root-leads k j e =
      ⊎_elim
      (λ (b : ltb k (length s.roots) ≡ true).
      let u : k < length s.roots = ltb-true _ _ b in
      let p = leads-address Y (at s.roots k) j (sym (get_d_map (word_leads Y) s.roots k 0 none u) ∙ e) in
      (u, p.0, p.1))
      (λ (b : ltb k (length s.roots) ≡ false).
      let m = length-map s.roots (word_leads Y) in
      absurd (no_some j
      (sym (get_or-eq_default (map (word_leads Y) s.roots) none (omega (arith, ltb-false k (length s.roots) b))) ∙ e)))
      (by_test (ltb k (length s.roots)))

  -- everything reachable is a header of the tiling
  pub reached-header : (j : ℕ) → Reached j → In j (headers Y s)
  reached-header j (root k e) =
      let p = root-leads k j e in
      rw (← p.2) (value-header Y (headers Y s) (at s.roots k) (h.roots k p.0) p.1)
  reached-header j (cell k {i} r e) =
      let m = reached-header i r in
      let t = header_tile i m in
      let c = cell_leads_lem Y s.heap i k j (omega (arith, free_in)) e in
      rw (← c.to)
      (value-header Y (headers Y s) (at s.heap (i + 1 + c.field)) (h.values i c.field m c.traced c.under)
      c.pointer)

  pub order_at_distinct : (p : ℕ) → Distinct (order_at Y s p)
  unfolding order_at
  order_at_distinct p = found_distinct (cells Y s.heap) (still 0) (cell_leads Y) (map (word_leads Y) s.roots) p

  pub order_at-reached : (p j : ℕ) → In j (order_at Y s p) → Reached j
  unfolding order_at
  order_at-reached p j m = found_reach (cells Y s.heap) (still 0) (cell_leads Y) (map (word_leads Y) s.roots) refl p j m

  -- at every moment what is found fits in the half
  pub order_at-fits : (p : ℕ) → length (packed (cells Y s.heap) (order_at Y s p)) ≤ free s - first_word s
  order_at-fits p =
      let w = headers-words Y s.heap (free s) (free s - first_word s) (first_word s) free_in h.tiled in
      let u = packed-within (cells Y s.heap) (order_at Y s p) (headers Y s) (order_at_distinct p)
      (λ j m. reached-header j (order_at-reached p j m)) in
      omega arith

  pub order-fits : length (packed (cells Y s.heap) (order Y s)) ≤ half_words s.heap
  order-fits = omega (arith, order_at-fits (half_words s.heap), h.shape.high)

  pub reached-order : (j : ℕ) → Reached j → In j (order Y s)
  unfolding order_at
  reached-order j r =
      reach_found (cells Y s.heap) (still 0) (cell_leads Y) (map (word_leads Y) s.roots) refl
      (half_words s.heap) order-fits j r

  pub order-header : (j : ℕ) → In j (order Y s) → In j (headers Y s)
  order-header j m = reached-header j (order_at-reached (half_words s.heap) j m)

  -- the demand's own words
  pub reached_reach : (j : ℕ) → Reached j → D.Reach Y s j
  reached_reach j (root k e) =
      let p = root-leads k j e in
      subst (D.Reach Y s) p.2 (D.from_root k p.0 p.1)
  reached_reach j (cell k {i} r e) =
      let t = header_tile i (reached-header i r) in
      let c = cell_leads_lem Y s.heap i k j (omega (arith, free_in)) e in
      subst (D.Reach Y s) c.to (D.from_field i c.field (reached_reach i r) c.traced c.under c.pointer)

  pub reach_reached : (j : ℕ) → D.Reach Y s j → Reached j
  reach_reached j (D.from_root r l p) =
      root r (get_d_map (word_leads Y) s.roots r 0 none l ∙ address-leads Y (at s.roots r) p)
  reach_reached j (D.from_field i f r k l p) =
      let m = reach_reached i r in
      let t = header_tile i (reached-header i m) in
      cell (suc f) m (field-leads Y s.heap i f (omega (arith, free_in)) k l p)

  -- at most d cells away is at most d fields away, and back
  abbrev pub Nearby : ℕ → ℕ → Type 0
  Nearby = Near (cells Y s.heap) (still 0) (cell_leads Y) (map (word_leads Y) s.roots)

  nearby_reached : (d j : ℕ) → Nearby d j → Reached j
  nearby_reached d j (near-root k d' e) = root k e
  nearby_reached d j (near_cell k d' {i} n e) = cell k (nearby_reached d' i n) e

  pub nearby_near : (d j : ℕ) → Nearby d j → D.Near Y s d j
  nearby_near d j (near-root k d' e) =
      let p = root-leads k j e in
      subst (D.Near Y s d') p.2 (D.by_root k d' p.0 p.1)
  nearby_near d j (near_cell k d' {i} n e) =
      let t = header_tile i (reached-header i (nearby_reached d' i n)) in
      let c = cell_leads_lem Y s.heap i k j (omega (arith, free_in)) e in
      subst (D.Near Y s (suc d')) c.to
      (D.by_field i c.field d' (nearby_near d' i n) c.traced c.under c.pointer)

  near_nearby : (d j : ℕ) → D.Near Y s d j → Nearby d j
  near_nearby d j (D.by_root r d' l p) =
      near-root r d' (get_d_map (word_leads Y) s.roots r 0 none l ∙ address-leads Y (at s.roots r) p)
  near_nearby d j (D.by_field i f d' n k l p) =
      let m = near_nearby d' i n in
      let t = header_tile i (reached-header i (nearby_reached d' i m)) in
      near_cell (suc f) d' m (field-leads Y s.heap i f (omega (arith, free_in)) k l p)

  pub order-breadth : (k l d : ℕ) → k ≤ l → l < length (order Y s) → D.Near Y s d (get_or (order Y s) l 0)
      → D.Near Y s d (get_or (order Y s) k 0)
  unfolding order_at
  order-breadth k l d a b n =
      nearby_near d (get_or (order Y s) k 0)
      (breadth (cells Y s.heap) (still 0) (cell_leads Y) (map (word_leads Y) s.roots) refl
      (half_words s.heap) order-fits d k l (get_or (order Y s) l 0) a b refl
      (near_nearby d (get_or (order Y s) l 0) n))
