-- The laws of discovery, for any cells and leads: what is found is reachable, and in the end all of it.
use Prim.Native.Nat.{ℕ, zero, suc, ◌+◌, ◌-◌, ◌≤◌, ◌<◌}
use native.Mathlib.Omega.{arith}
use native.Mathlib.Nat.{zero-add, suc-add}
use mathlib.Core.Path.{◌≡◌, sym, ap, ◌∙◌}
use mathlib.Core.Logic.{⊎_elim}
use mathlib.Core.Bool.{true, false}
use mathlib.Core.List.{List, []}
use mathlib.Core.Option.{Option, none, some}
use lib.Dec.{ltb}
use lib.ListN.{length, get_or, get_or-eq_default}
use borrow.Author.Tests.{ltb-true, ltb-false}
use Rattle.model.specs.Discovery.{visit, packed, words_before, found}
use Rattle.theory.proofs.Members.{In, in-nil, Distinct}
use Rattle.theory.proofs.Packed.{packed-at, words_before-fits, packed_starts, find}
use Rattle.theory.proofs.Tests.{by_test}
use Rattle.theory.proofs.Visits.{Starts, starts_refl, starts_trans, starts_in, no_some, visit_starts, visit_distinct}
use Rattle.theory.proofs.Visits.{visit_has, visit-only, visits_distinct, visits_has, visits-only}

-- reachable from the leads R, by cells
pub data Reach {C : Type 0} (cells : ℕ → List C) (blank : C) (leads : C → Option ℕ) (R : List (Option ℕ)) : ℕ → Type 0 where
  root : (k : ℕ) {i : ℕ} → get_or R k none ≡ some i → Reach cells blank leads R i
  cell : (k : ℕ) {i j : ℕ} → Reach cells blank leads R i → leads (get_or (cells i) k blank) ≡ some j
      → Reach cells blank leads R j

module _ {C : Type 0} (cells : ℕ → List C) (blank : C) (leads : C → Option ℕ) (R : List (Option ℕ)) where
  abbrev F : ℕ → List ℕ
  F p = found cells blank leads R p

  pub found-step : (p : ℕ) → Starts (F p) (F (suc p))
  unfolding found
  found-step p = visit_starts (F p) (leads (get_or (packed cells (F p)) p blank))

  pub found_starts : (p d : ℕ) → Starts (F p) (F (d + p))
  found_starts p zero = rw zero-add (starts_refl (F p))
  found_starts p (suc d) =
      rw suc-add (starts_trans (F p) (F (d + p)) (F (suc (d + p))) (found_starts p d) (found-step (d + p)))

  pub found_later : (p q : ℕ) → p ≤ q → Starts (F p) (F q)
  found_later p q l = let e : (q - p) + p ≡ q = omega arith in rw e at (found_starts p (q - p))

  pub found_distinct : (p : ℕ) → Distinct (F p)
  unfolding found
  found_distinct zero = visits_distinct [] R tt
  found_distinct (suc p) = visit_distinct (F p) (leads (get_or (packed cells (F p)) p blank)) (found_distinct p)

  -- what is found is reachable
  pub found_reach : leads blank ≡ none → (p j : ℕ) → In j (F p) → Reach cells blank leads R j
  unfolding found
  found_reach quiet zero j h = ⊎_elim (λ (m : In j []). in-nil j m) (λ t. root t.0 t.1) (visits-only [] R j h)
  found_reach quiet (suc p) j h =
      let c = get_or (packed cells (F p)) p blank in
      ⊎_elim
      (λ (m : In j (F p)). found_reach quiet p j m)
      (λ (e : leads c ≡ some j).
      ⊎_elim
      (λ (b : ltb p (length (packed cells (F p))) ≡ true).
      let f = find cells blank (F p) p (ltb-true _ _ b) in
      cell f.1 (found_reach quiet p f.0 f.2) (ap leads (sym f.4) ∙ e))
      (λ (b : ltb p (length (packed cells (F p))) ≡ false).
      let g : c ≡ blank = get_or-eq_default (packed cells (F p)) blank (ltb-false _ _ b) in
      let z : none ≡ some j = sym quiet ∙ ap leads (sym g) ∙ e in
      absurd (no_some j z))
      (by_test (ltb p (length (packed cells (F p))))))
      (visit-only (F p) (leads c) j h)

  -- once every cell of what is found is passed, nothing more is found
  pub found-still : leads blank ≡ none → (p d : ℕ) → length (packed cells (F p)) ≤ p → F (d + p) ≡ F p
  unfolding found visit
  found-still quiet p zero l = ap F (zero-add p)
  found-still quiet p (suc d) l =
      let ih : F (d + p) ≡ F p = found-still quiet p d l in
      let g : get_or (packed cells (F (d + p))) (d + p) blank ≡ blank =
      ap (λ x. get_or (packed cells x) (d + p) blank) ih ∙ get_or-eq_default (packed cells (F p)) blank (omega arith) in
      ap F (suc-add d p) ∙ ap (λ x. visit (F (d + p)) x) (ap leads g ∙ quiet) ∙ ih

  pub lead-short : leads blank ≡ none → (cs : List C) (k j : ℕ) → leads (get_or cs k blank) ≡ some j → k < length cs
  lead-short quiet cs k j e =
      ⊎_elim
      (λ (b : ltb k (length cs) ≡ true). ltb-true _ _ b)
      (λ (b : ltb k (length cs) ≡ false).
      absurd (no_some j (sym quiet ∙ ap leads (sym (get_or-eq_default cs blank (ltb-false _ _ b))) ∙ e)))
      (by_test (ltb k (length cs)))

  -- a cell that is packed in the end is packed by the time that it is passed
  pub found_passed : leads blank ≡ none → (m q : ℕ) → m ≤ q → m < length (packed cells (F q))
      → m < length (packed cells (F m))
  found_passed quiet m q l h =
      ⊎_elim
      (λ (b : ltb m (length (packed cells (F m))) ≡ true). ltb-true _ _ b)
      (λ (b : ltb m (length (packed cells (F m))) ≡ false).
      let g : length (packed cells (F m)) ≤ m = ltb-false _ _ b in
      let e : (q - m) + m ≡ q = omega arith in
      let s : F q ≡ F m = ap F (sym e) ∙ found-still quiet m (q - m) g in
      let z : length (packed cells (F q)) ≡ length (packed cells (F m)) = ap (λ x. length (packed cells x)) s in
      absurd (omega arith))
      (by_test (ltb m (length (packed cells (F m)))))

  -- what a cell leads to is found when it is passed
  pub found_takes : (m j : ℕ) → leads (get_or (packed cells (F m)) m blank) ≡ some j → In j (F (suc m))
  unfolding found
  found_takes m j e = rw e (visit_has (F m) j)

  -- and what the found ones lead to is found
  pub found_closed : leads blank ≡ none → (q : ℕ) → length (packed cells (F q)) ≤ q → (i k j : ℕ) → In i (F q)
      → leads (get_or (cells i) k blank) ≡ some j → In j (F q)
  found_closed quiet q l i k j h e =
      let short : k < length (cells i) = lead-short quiet (cells i) k j e in
      let m = words_before cells (F q) i + k in
      let fits = words_before-fits cells (F q) i h in
      let under : suc m ≤ q = omega arith in
      let passed : m < length (packed cells (F m)) = found_passed quiet m q (omega arith) (omega arith) in
      let same : get_or (packed cells (F m)) m blank ≡ get_or (cells i) k blank =
      sym (packed_starts cells blank (F m) (F q) m (found_later m q (omega arith)) passed)
      ∙ packed-at cells blank (F q) i k h short in
      starts_in j (F (suc m)) (F q) (found_later (suc m) q under) (found_takes m j (ap leads same ∙ e))

  -- so every reachable node is found
  pub reach_found : leads blank ≡ none → (q : ℕ) → length (packed cells (F q)) ≤ q → (j : ℕ) → Reach cells blank leads R j
      → In j (F q)
  unfolding found
  reach_found quiet q l j (root k e) = starts_in j (F 0) (F q) (found_later 0 q (omega arith)) (visits_has [] R k j e)
  reach_found quiet q l j (cell k {i} r e) = found_closed quiet q l i k j (reach_found quiet q l i r) e
