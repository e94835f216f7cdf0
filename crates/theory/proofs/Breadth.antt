-- The order of discovery is breadth-first: what stands earlier is no farther from the roots.
use Prim.Native.Nat.{ℕ, zero, suc, ◌+◌, ◌-◌, ◌≤◌, ◌<◌}
use native.Mathlib.Omega.{arith}
use native.Mathlib.Nat.{zero-add}
use mathlib.Core.Path.{◌≡◌, refl, sym, ap, ◌∙◌, subst}
use mathlib.Core.Logic.{◌⊎◌, inl, inr, ⊎_elim}
use mathlib.Core.List.{List, [], ◌∷◌}
use mathlib.Core.Option.{Option, none, some}
use lib.ListN.{length, get_or, length-append, get_or-append}
use borrow.Author.Tests.{eq-eqb, ne_eqb}
use Rattle.model.specs.Discovery.{packed, words_before, found}
use Rattle.theory.proofs.Discovery.{Reach, root, cell, found_later, found_distinct, lead-short, found_passed}
use Rattle.theory.proofs.Discovery.{found_takes, reach_found}
use Rattle.theory.proofs.Members.{In, in-nil, in_tail, in_self, in_out, Distinct, at_in, distinct_once, position}
use Rattle.theory.proofs.Packed.{packed-at, words_before-fits, words_before-append, packed_starts}
use Rattle.theory.proofs.Tests.{decide}
use Rattle.theory.proofs.Visits.{Starts, starts_in, visit-only, visits_has, visits-only}

pub prefix_at : (a b : List ℕ) (k : ℕ) → Starts a b → k < length a → get_or b k 0 ≡ get_or a k 0
prefix_at a b k t l = ap (λ z. get_or z k 0) t.1 ∙ get_or-append a t.0 0 k l

-- a member of the front part has its place there
pub prefix_place : (a b : List ℕ) (l x : ℕ) → Starts a b → Distinct b → l < length b → get_or b l 0 ≡ x → In x a
    → l < length a
prefix_place a b l x t u h e m =
    let p = position x a m in
    let w : length b ≡ length a + length t.0 = ap length t.1 ∙ length-append a t.0 in
    let q : p.0 ≡ l = distinct_once b u p.0 l (let z = p.1 in omega arith) h (prefix_at a b p.0 t p.1 ∙ p.2 ∙ sym e) in
    let z = p.1 in omega arith

module _ {C : Type 0} (cells : ℕ → List C) where
  -- of two nodes the one listed earlier has its cells before the other's
  pub words_before_rises : (o : List ℕ) (k l : ℕ) → Distinct o → k < l → l < length o
      → words_before cells o (get_or o k 0) + length (cells (get_or o k 0)) ≤ words_before cells o (get_or o l 0)
  unfolding words_before
  words_before_rises [] k l u a b = absurd (omega arith)
  words_before_rises (x ∷ o) k zero u a b = absurd (omega arith)
  words_before_rises (x ∷ o) zero (suc l) u a b =
      let n = at_in o l (omega arith) in
      rw (eq-eqb x x refl, ne_eqb (get_or o l 0) x (in_out (get_or o l 0) x o n u.0)) (omega arith)
  words_before_rises (x ∷ o) (suc k) (suc l) u a b =
      let n = at_in o l (omega arith) in
      let m = at_in o k (omega arith) in
      let ih = words_before_rises o k l u.1 (omega arith) (omega arith) in
      rw (ne_eqb (get_or o k 0) x (in_out (get_or o k 0) x o m u.0), ne_eqb (get_or o l 0) x (in_out (get_or o l 0) x o n u.0)) (omega arith)

  -- the node whose cell stands at p
  pub find_at : (d : C) (o : List ℕ) (p : ℕ) → Distinct o → p < length (packed cells o)
      → (i : ℕ) × (k : ℕ) × In i o × (k < length (cells i)) × (words_before cells o i + k ≡ p)
  unfolding packed words_before
  find_at d [] p u l = absurd (omega arith)
  find_at d (j ∷ o) p u l =
      ⊎_elim
      (λ (h : p < length (cells j)). (j, p, in_self j o, h, rw (eq-eqb j j refl, zero-add)))
      (λ (h : length (cells j) ≤ p).
      let a = length-append (cells j) (packed cells o) in
      let f = find_at d o (p - length (cells j)) u.1 (omega arith) in
      let q = f.4 in (
        f.0,
        f.1,
        in_tail f.0 j o f.2,
        f.3,
        rw (ne_eqb f.0 j (in_out f.0 j o f.2 u.0)) (omega arith),
      ))
      (decide p (length (cells j)))

-- within d steps of the roots
pub data Near {C : Type 0} (cells : ℕ → List C) (blank : C) (leads : C → Option ℕ) (R : List (Option ℕ)) : ℕ → ℕ → Type 0 where
  near-root : (k d : ℕ) {i : ℕ} → get_or R k none ≡ some i → Near cells blank leads R d i
  near_cell : (k d : ℕ) {i j : ℕ} → Near cells blank leads R d i → leads (get_or (cells i) k blank) ≡ some j
      → Near cells blank leads R (suc d) j

module _ {C : Type 0} (cells : ℕ → List C) (blank : C) (leads : C → Option ℕ) (R : List (Option ℕ))
    (quiet : leads blank ≡ none) where
  abbrev F : ℕ → List ℕ
  F p = found cells blank leads R p

  near_reach : (d i : ℕ) → Near cells blank leads R d i → Reach cells blank leads R i
  near_reach d i (near-root k d' e) = root k e
  near_reach d j (near_cell k d' {i} n e) = cell k (near_reach d' i n) e

  -- what is found by p comes from a root or from a cell passed before p
  pub found_from : (p x : ℕ) → In x (F p) → ((k : ℕ) × (get_or R k none ≡ some x)) ⊎
      ((m : ℕ) × (m < p) × (m < length (packed cells (F m))) × (leads (get_or (packed cells (F m)) m blank) ≡ some x))
  unfolding found
  found_from zero x h = ⊎_elim (λ (m : In x []). in-nil x m) inl (visits-only [] R x h)
  found_from (suc p) x h =
      ⊎_elim
      (λ (m : In x (F p)). ⊎_elim inl (λ t. inr (t.0, let l = t.1 in omega arith, t.2, t.3)) (found_from p x m))
      (λ (e : leads (get_or (packed cells (F p)) p blank) ≡ some x).
      inr (p, omega arith, lead-short cells blank leads R quiet (packed cells (F p)) p x e, e))
      (visit-only (F p) (leads (get_or (packed cells (F p)) p blank)) x h)

  module _ (q : ℕ) (closed : length (packed cells (F q)) ≤ q) where
    later : (m : ℕ) → m ≤ q → Starts (F m) (F q)
    later m l = found_later cells blank leads R m q l

    -- what the cell c of a node i leads to is found once that cell is passed
    takes : (i c j : ℕ) → In i (F q) → leads (get_or (cells i) c blank) ≡ some j
        → (c < length (cells i)) × (suc (words_before cells (F q) i + c) ≤ q)
        × In j (F (suc (words_before cells (F q) i + c)))
    takes i c j h e =
        let short = lead-short cells blank leads R quiet (cells i) c j e in
        let m = words_before cells (F q) i + c in
        let fits = words_before-fits cells (F q) i h in
        let under : suc m ≤ q = omega arith in
        let passed = found_passed cells blank leads R quiet m q (omega arith) (omega arith) in
        let same : get_or (packed cells (F m)) m blank ≡ get_or (cells i) c blank =
        sym (packed_starts cells blank (F m) (F q) m (later m (omega arith)) passed)
        ∙ packed-at cells blank (F q) i c h short in
        (short, under, found_takes cells blank leads R m j (ap leads same ∙ e))

    -- what a cell passed no later leads to is no farther
    child : (i c a d x m' : ℕ) → get_or (F q) a 0 ≡ i → a < length (F q) → c < length (cells i)
        → suc (words_before cells (F q) i + c) ≤ q
        → m' < suc (words_before cells (F q) i + c) → m' < length (packed cells (F m'))
        → leads (get_or (packed cells (F m')) m' blank) ≡ some x
        → ((k : ℕ) → k ≤ a → Near cells blank leads R d (get_or (F q) k 0)) → Near cells blank leads R (suc d) x
    child i c a d x m' pa la lc lq lm lp e ih =
        let u = found_distinct cells blank leads R q in
        let f = find_at cells blank (F m') m' (found_distinct cells blank leads R m') lp in
        let y = f.0 in
        let c' = f.1 in
        let at : get_or (packed cells (F m')) m' blank ≡ get_or (cells f.0) f.1 blank =
        ap (λ z. get_or (packed cells (F m')) z blank) (sym f.4)
        ∙ packed-at cells blank (F m') f.0 f.1 f.2 f.3 in
        let s : Starts (F m') (F q) = later m' (omega arith) in
        let b = position f.0 (F q) (starts_in f.0 (F m') (F q) s f.2) in
        let w : words_before cells (F q) f.0 ≡ words_before cells (F m') f.0 =
        ap (λ z. words_before cells z f.0) s.1 ∙ words_before-append cells (F m') s.0 f.0 f.2 in
        let near : b.0 ≤ a =
        ⊎_elim
        (λ (g : a < b.0).
        let r = words_before_rises cells (F q) a b.0 u g b.1 in
        let r' : words_before cells (F q) i + length (cells i) ≤ words_before cells (F q) f.0 = rw (pa, b.2) at r in
        absurd (let v = f.4 in omega arith))
        (λ (g : b.0 ≤ a). g)
        (decide a b.0) in
        near_cell f.1 d (subst (Near cells blank leads R d) b.2 (ih b.0 near)) (ap leads (sym at) ∙ e)

    pub breadth : (d k l x : ℕ) → k ≤ l → l < length (F q) → get_or (F q) l 0 ≡ x → Near cells blank leads R d x
        → Near cells blank leads R d (get_or (F q) k 0)
    unfolding found
    breadth d k l x a b e (near-root r d' f) =
        let u = found_distinct cells blank leads R q in
        let t = later 0 (omega arith) in
        let p : l < length (F 0) = prefix_place (F 0) (F q) l x t u b e (visits_has [] R r x f) in
        let y : get_or (F q) k 0 ≡ get_or (F 0) k 0 = prefix_at (F 0) (F q) k t (omega arith) in
        ⊎_elim
        (λ (z : In (get_or (F 0) k 0) []). in-nil (get_or (F 0) k 0) z)
        (λ (z : (c : ℕ) × (get_or R c none ≡ some (get_or (F 0) k 0))). rw y (near-root z.0 d' z.1))
        (visits-only [] R (get_or (F 0) k 0) (at_in (F 0) k (omega arith)))
    breadth d k l x a b e (near_cell c d' {i} n f) =
        let u = found_distinct cells blank leads R q in
        let i∈ = reach_found cells blank leads R quiet q closed i (near_reach d' i n) in
        let pi = position i (F q) i∈ in
        let t = takes i c x i∈ f in
        let m = words_before cells (F q) i + c in
        let s : Starts (F (suc m)) (F q) = later (suc m) t.1 in
        let p : l < length (F (suc m)) = prefix_place (F (suc m)) (F q) l x s u b e t.2 in
        let y : get_or (F q) k 0 ≡ get_or (F (suc m)) k 0 = prefix_at (F (suc m)) (F q) k s (omega arith) in
        ⊎_elim
        (λ (z : (r : ℕ) × (get_or R r none ≡ some (get_or (F (suc m)) k 0))). rw y (near-root z.0 (suc d') z.1))
        (λ (z : (m' : ℕ) × (m' < suc m) × (m' < length (packed cells (F m'))) × (leads (get_or (packed cells (F m')) m' blank)
        ≡ some (get_or (F (suc m)) k 0))).
        rw y (child i c pi.0 d' (get_or (F (suc m)) k 0) z.0 pi.2 pi.1 t.0 t.1 z.1 z.2 z.3
        (λ k' g. breadth d' k' pi.0 i g pi.1 pi.2 n)))
        (found_from (suc m) (get_or (F (suc m)) k 0) (at_in (F (suc m)) k (omega arith)))
