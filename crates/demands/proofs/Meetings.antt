-- The order is the first meetings along the roots and then along the cells of the order itself, and the
-- only list of reachable nodes that is.
use Prim.Native.Nat.{ℕ, zero, suc, ◌+◌, ◌≤◌, ◌<◌}
use native.Mathlib.Omega.{arith}
use mathlib.Core.Path.{◌≡◌, refl, sym, ap, ◌∙◌, subst}
use mathlib.Core.Logic.{⊎_elim}
use mathlib.Core.Bool.{true, false}
use mathlib.Core.List.{List, [], ◌∷◌, ◌++◌, map, append_assoc, append-nil}
use mathlib.Core.Option.{Option, none}
use lib.Dec.{ltb}
use lib.ListN.{length, get_or, take, drop, take-append-drop}
use lib.Seq.{take-suc, take_all, take-append-le}
use borrow.Author.Tests.{ltb-true, ltb-false}
use Rattle.model.specs.Discovery.{visit, visits, packed, found}
use Rattle.theory.proofs.Discovery.{Reach, found-step, found-still, reach_found}
use Rattle.theory.proofs.Lists.{map-append}
use Rattle.theory.proofs.Members.{In, in-nil, in_self, in_cons, in_out, in_append_right, Distinct}
use Rattle.theory.proofs.Packed.{packed-append}
use Rattle.theory.proofs.Tests.{by_test}
use Rattle.theory.proofs.Visits.{Starts, visits_starts, visits_distinct}

pub visits-append : (o : List ℕ) (a b : List (Option ℕ)) → visits o (a ++ b) ≡ visits (visits o a) b
unfolding visits
visits-append o [] b = refl
visits-append o (l ∷ a) b = visits-append (visit o l) a b

clash : (a : List ℕ) (x : ℕ) (t : List ℕ) → Distinct (a ++ (x ∷ t)) → In x a → ⊥
clash [] x t u m = in-nil x m
clash (y ∷ a) x t u m =
    ⊎_elim
    (λ (e : x ≡ y). in_out x y (a ++ (x ∷ t)) (in_append_right x a (x ∷ t) (in_self x t)) u.0 e)
    (λ (n : In x a). clash a x t u.1 n)
    (in_cons x y a m)

-- a list with no number twice, that is a and more, of members of a: there is no more
pub no_more : (a t : List ℕ) → Distinct (a ++ t) → ((i : ℕ) → In i t → In i a) → t ≡ []
no_more a [] u h = refl
no_more a (x ∷ t) u h = absurd (clash a x t u (h x (in_self x t)))

module _ {C : Type 0} (cells : ℕ → List C) (blank : C) (leads : C → Option ℕ) (R : List (Option ℕ))
    (quiet : leads blank ≡ none) where
  abbrev F : ℕ → List ℕ
  F p = found cells blank leads R p

  -- the leads met: those of the roots, then those of the first p cells
  abbrev along : ℕ → List ℕ → List (Option ℕ)
  along p o = R ++ map leads (take p (packed cells o))

  still : (p : ℕ) → length (packed cells (F p)) ≤ p → F (suc p) ≡ F p
  still p l = let e : suc p ≡ 1 + p = omega arith in ap F e ∙ found-still cells blank leads R quiet p 1 l

  pub met-step : (p : ℕ) (o : List ℕ) → Starts (F p) o → p < length (packed cells (F p)) → F p ≡ visits [] (along p (F p))
      → visits [] (along (suc p) o) ≡ F (suc p)
  unfolding found visits
  met-step p o t l ih =
      let P = packed cells (F p) in
      let c = get_or P p blank in
      let a : packed cells o ≡ packed cells (F p) ++ packed cells t.0 = ap (packed cells) t.1 ∙ packed-append cells (F p) t.0 in
      let b : take (suc p) (packed cells o) ≡ take p (packed cells (F p)) ++ (get_or (packed cells (F p)) p blank ∷ []) =
      ap (take (suc p)) a ∙ take-append-le (suc p) (packed cells (F p)) (packed cells t.0) (omega arith)
      ∙ take-suc (packed cells (F p)) p blank l in
      let d : along (suc p) o ≡ along p (F p) ++ (leads (get_or (packed cells (F p)) p blank) ∷ []) =
      ap (λ z. R ++ map leads z) b
      ∙ ap (λ z. R ++ z) (map-append leads (take p (packed cells (F p))) (get_or (packed cells (F p)) p blank ∷ []))
      ∙ sym (append_assoc R (map leads (take p (packed cells (F p)))) (leads (get_or (packed cells (F p)) p blank) ∷ [])) in
      ap (visits []) d ∙ visits-append [] (along p (F p)) (leads (get_or (packed cells (F p)) p blank) ∷ [])
      ∙ ap (λ z. visit z (leads (get_or (packed cells (F p)) p blank))) (sym ih)

  pub met_at : (p : ℕ) → F p ≡ visits [] (along p (F p))
  unfolding found
  met_at zero = ap (visits []) (sym (append-nil R))
  met_at (suc p) =
      ⊎_elim
      (λ (b : ltb p (length (packed cells (F p))) ≡ true).
      sym (met-step p (F (suc p)) (found-step cells blank leads R p) (ltb-true _ _ b) (met_at p)))
      (λ (b : ltb p (length (packed cells (F p))) ≡ false).
      let e : F (suc p) ≡ F p = still p (ltb-false _ _ b) in
      let g : take (suc p) (packed cells (F (suc p))) ≡ take p (packed cells (F p)) =
      ap (λ z. take (suc p) (packed cells z)) e ∙ take_all (suc p) (packed cells (F p))
      (let z : length (packed cells (F p)) ≤ p = ltb-false _ _ b in omega arith)
      ∙ sym (take_all p (packed cells (F p)) (ltb-false _ _ b)) in
      e ∙ met_at p ∙ ap (λ z. visits [] (R ++ map leads z)) (sym g))
      (by_test (ltb p (length (packed cells (F p)))))

  -- the whole order, with no fuel
  pub met : (q : ℕ) → length (packed cells (F q)) ≤ q → F q ≡ visits [] (R ++ map leads (packed cells (F q)))
  met q l = met_at q ∙ ap (λ z. visits [] (R ++ map leads z)) (take_all q (packed cells (F q)) l)

  -- any list that is its own first meetings begins with what is found
  pub begins : (o : List ℕ) → o ≡ visits [] (R ++ map leads (packed cells o)) → (p : ℕ) → Starts (F p) o
  unfolding found
  begins o e zero =
      let s = visits_starts (visits [] R) (map leads (packed cells o)) in
      (s.0, e ∙ visits-append [] R (map leads (packed cells o)) ∙ s.1)
  begins o e (suc p) =
      let t = begins o e p in
      ⊎_elim
      (λ (b : ltb p (length (packed cells (F p))) ≡ true).
      let m = met-step p o t (ltb-true _ _ b) (met_at p) in
      let P = packed cells o in
      let g : R ++ map leads (packed cells o) ≡ along (suc p) o ++ map leads (drop (suc p) (packed cells o)) =
      ap (λ z. R ++ map leads z) (sym (take-append-drop (suc p) (packed cells o)))
      ∙ ap (λ z. R ++ z) (map-append leads (take (suc p) (packed cells o)) (drop (suc p) (packed cells o)))
      ∙ sym (append_assoc R (map leads (take (suc p) (packed cells o))) (map leads (drop (suc p) (packed cells o)))) in
      let s = visits_starts (F (suc p)) (map leads (drop (suc p) (packed cells o))) in (
        s.0,
        e ∙ ap (visits []) g ∙ visits-append [] (along (suc p) o) (map leads (drop (suc p) (packed cells o)))
            ∙ ap (λ z. visits z (map leads (drop (suc p) (packed cells o)))) m ∙ s.1,
      ))
      (λ (b : ltb p (length (packed cells (F p))) ≡ false).
      subst (λ z. Starts z o) (sym (still p (ltb-false _ _ b))) t)
      (by_test (ltb p (length (packed cells (F p)))))

  -- and is what is found, where all its members are reachable
  pub only : (q : ℕ) → length (packed cells (F q)) ≤ q → (o : List ℕ) → o ≡ visits [] (R ++ map leads (packed cells o))
      → ((i : ℕ) → In i o → Reach cells blank leads R i) → o ≡ F q
  only q l o e r =
      let t = begins o e q in
      let u : Distinct o = subst Distinct (sym e) (visits_distinct [] (R ++ map leads (packed cells o)) tt) in
      let n : t.0 ≡ [] = no_more (F q) t.0 (subst Distinct t.1 u)
      (λ i m. reach_found cells blank leads R quiet q l i (r i (subst (In i) (sym t.1) (in_append_right i (F q) t.0 m)))) in
      t.1 ∙ ap (λ z. F q ++ z) n ∙ append-nil (F q)
