-- Two discoveries that go alike: one of the nodes `ids`, the other of their places.
use Prim.Native.Nat.{ℕ, zero, suc, ◌+◌, ◌-◌, ◌≤◌, ◌<◌}
use native.Mathlib.Omega.{arith}
use mathlib.Core.Path.{◌≡◌, refl, sym, ap, ◌∙◌}
use mathlib.Core.Logic.{⊎_elim}
use mathlib.Core.Bool.{true, false}
use mathlib.Core.List.{List, [], ◌∷◌, ◌++◌, map}
use mathlib.Core.Option.{Option, none, some}
use lib.Dec.{eqb}
use lib.ListN.{length, get_or, length-append, get_or-append}
use lib.Seq.{get_or-append-add}
use borrow.Author.Tests.{eq-eqb, ne_eqb}
use Rattle.model.specs.Collection.{cells}
use Rattle.model.specs.Discovery.{mem, visit, visits, packed, words_before, found}
use Rattle.theory.proofs.Discovery.{found-still}
use Rattle.theory.proofs.Lists.{map-append}
use Rattle.theory.proofs.Members.{In, in-nil, in_tail, in_self, in_snoc}
use Rattle.theory.proofs.Tests.{by_test, decide, same?}

module _ (ids : List ℕ) (pl : ℕ → ℕ) (apart : (x y : ℕ) → In x ids → In y ids → pl x ≡ pl y → x ≡ y) where
  -- a lead and the lead that stands for it
  abbrev pub Along : Option ℕ → Option ℕ → Type 0
  Along none l = l ≡ none
  Along (some x) l = In x ids × (l ≡ some (pl x))

  abbrev pub Inside : List ℕ → Type 0
  Inside o = (x : ℕ) → In x o → In x ids

  test_along : (x y : ℕ) → In x ids → In y ids → eqb (pl x) (pl y) ≡ eqb x y
  test_along x y i j =
      ⊎_elim
      (λ (q : x ≡ y). eq-eqb (pl x) (pl y) (ap pl q) ∙ sym (eq-eqb x y q))
      (λ (d : x ≡ y → ⊥). ne_eqb (pl x) (pl y) (λ q. d (apart x y i j q)) ∙ sym (ne_eqb x y d))
      (same? x y)

  mem_along : (x : ℕ) (o : List ℕ) → In x ids → Inside o → mem (pl x) (map pl o) ≡ mem x o
  unfolding mem
  mem_along x [] i n = refl
  mem_along x (y ∷ o) i n =
      rw (test_along x y i (n y (in_self y o)), mem_along x o i (λ z k. n z (in_tail z y o k)))

  pub visit_along : (o : List ℕ) (l l' : Option ℕ) → Inside o → Along l l'
      → (visit (map pl o) l' ≡ map pl (visit o l)) × Inside (visit o l)
  unfolding visit
  visit_along o none l' n a = (ap (λ z. visit (map pl o) z) a, n)
  visit_along o (some x) l' n a =
      ⊎_elim
      (λ (e : mem x o ≡ true).
      (rw (a.1, mem_along x o a.0 n, e), rw e n))
      (λ (e : mem x o ≡ false). (
        rw (a.1, mem_along x o a.0 n, e) (sym (map-append pl o (x ∷ []))),
        rw e (λ z k. ⊎_elim (λ (p : In z o). n z p) (λ (q : z ≡ x). rw q a.0) (in_snoc z x o k)),
      ))
      (by_test (mem x o))

  pub visits_along : (o : List ℕ) (ls ls' : List (Option ℕ)) → length ls ≡ length ls'
      → ((k : ℕ) → k < length ls → Along (get_or ls k none) (get_or ls' k none)) → Inside o
      → (visits (map pl o) ls' ≡ map pl (visits o ls)) × Inside (visits o ls)
  unfolding visits
  visits_along o [] [] e f n = (refl, n)
  visits_along o [] (l' ∷ ls') e f n = absurd (omega arith)
  visits_along o (l ∷ ls) [] e f n = absurd (omega arith)
  visits_along o (l ∷ ls) (l' ∷ ls') e f n =
      let v = visit_along o l l' n (f zero (omega arith)) in
      let ih = visits_along (visit o l) ls ls' (omega arith) (λ k a. f (suc k) (omega arith)) v.1 in
      (ap (λ z. visits z ls') v.0 ∙ ih.0, ih.1)

  module _ {C D : Type 0} (cells : ℕ → List C) (blank : C) (leads : C → Option ℕ) (cells' : ℕ → List D) (blank' : D)
      (leads' : D → Option ℕ)
      (quiet : leads blank ≡ none) (quiet' : leads' blank' ≡ none)
      (sizes : (x : ℕ) → In x ids → length (cells' (pl x)) ≡ length (cells x))
      (alike : (x k : ℕ) → In x ids → k < length (cells x)
      → Along (leads (get_or (cells x) k blank)) (leads' (get_or (cells' (pl x)) k blank'))) where
    pub packed-sizes : (o : List ℕ) → Inside o → length (packed cells' (map pl o)) ≡ length (packed cells o)
    unfolding packed
    packed-sizes [] n = refl
    packed-sizes (x ∷ o) n =
        let ih = packed-sizes o (λ z k. n z (in_tail z x o k)) in
        let s = sizes x (n x (in_self x o)) in
        rw (length-append (cells' (pl x)) (packed cells' (map pl o)), length-append (cells x) (packed cells o)) (omega arith)

    -- as many cells stand before a node's place as before the node
    pub before_along : (x : ℕ) (o : List ℕ) → In x ids → Inside o → words_before cells' (map pl o) (pl x) ≡ words_before cells o x
    unfolding words_before
    before_along x [] i n = refl
    before_along x (y ∷ o) i n =
        let j = n y (in_self y o) in
        rw (test_along x y i j, sizes y j, before_along x o i (λ z k. n z (in_tail z y o k)))

    packed_along : (o : List ℕ) (p : ℕ) → Inside o → Along (leads (get_or (packed cells o) p blank))
        (leads' (get_or (packed cells' (map pl o)) p blank'))
    unfolding packed
    packed_along [] p n = rw (quiet, quiet')
    packed_along (x ∷ o) p n =
        let i = n x (in_self x o) in
        let s = sizes x i in
        ⊎_elim
        (λ (l : p < length (cells x)).
        rw (
          get_or-append (cells x) (packed cells o) blank p l,
          get_or-append (cells' (pl x)) (packed cells' (map pl o)) blank' p (omega arith),
        )
        (alike x p i l))
        (λ (l : length (cells x) ≤ p).
        let q = p - length (cells x) in
        let e : p ≡ length (cells x) + q = omega arith in
        let e' : p ≡ length (cells' (pl x)) + q = omega arith in
        let a : get_or (cells x ++ packed cells o) p blank ≡ get_or (packed cells o) q blank =
        ap (λ z. get_or (cells x ++ packed cells o) z blank) e ∙ get_or-append-add (cells x) (packed cells o) q blank in
        let a' : get_or (cells' (pl x) ++ packed cells' (map pl o)) p blank' ≡ get_or (packed cells' (map pl o)) q blank' =
        ap (λ z. get_or (cells' (pl x) ++ packed cells' (map pl o)) z blank') e'
        ∙ get_or-append-add (cells' (pl x)) (packed cells' (map pl o)) q blank' in
        rw (a, a') (packed_along o q (λ z k. n z (in_tail z x o k))))
        (decide p (length (cells x)))

    module _ (R R' : List (Option ℕ)) (many : length R ≡ length R')
        (start : (k : ℕ) → k < length R → Along (get_or R k none) (get_or R' k none)) where
      pub found_along : (p : ℕ) → (found cells' blank' leads' R' p ≡ map pl (found cells blank leads R p))
          × Inside (found cells blank leads R p)
      unfolding found
      found_along zero = visits_along [] R R' many start (λ x m. in-nil x m)
      found_along (suc p) =
          let ih = found_along p in
          let o = found cells blank leads R p in
          let v = visit_along o (leads (get_or (packed cells o) p blank)) (leads' (get_or (packed cells' (map pl o)) p blank'))
          ih.1 (packed_along o p ih.1) in
          (ap (λ z. visit z (leads' (get_or (packed cells' z) p blank'))) ih.0 ∙ v.0, v.1)

-- where every cell is passed, more steps change nothing
pub found-settled : {C : Type 0} (cells : ℕ → List C) (blank : C) (leads : C → Option ℕ) (R : List (Option ℕ))
    → leads blank ≡ none → (p q : ℕ)
    → length (packed cells (found cells blank leads R p)) ≤ p → length (packed cells (found cells blank leads R q)) ≤ q
    → found cells blank leads R p ≡ found cells blank leads R q
found-settled cells blank leads R quiet p q a b =
    ⊎_elim
    (λ (l : p < q).
    let e : (q - p) + p ≡ q = omega arith in
    sym (ap (λ z. found cells blank leads R z) (sym e) ∙ found-still cells blank leads R quiet p (q - p) a))
    (λ (l : q ≤ p).
    let e : (p - q) + q ≡ p = omega arith in
    ap (λ z. found cells blank leads R z) (sym e) ∙ found-still cells blank leads R quiet q (p - q) b)
    (decide p q)
