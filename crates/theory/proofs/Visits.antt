-- Visits one after another: what an order begins with, that it names nothing twice, and what is in it.
use Prim.Native.Nat.{ℕ, zero, suc}
use native.Mathlib.Omega.{arith}
use mathlib.Core.Path.{◌≡◌, refl, sym, ap, ◌∙◌}
use mathlib.Core.Logic.{◌⊎◌, inl, inr, ⊎_elim}
use mathlib.Core.List.{List, [], ◌∷◌, ◌++◌, append_assoc, append-nil}
use mathlib.Core.Option.{Option, none, some}
use lib.ListN.{get_or}
use Rattle.model.specs.Discovery.{mem, visit, visits}
use Rattle.theory.proofs.Members.{In, in_self, in_append_left, in_append_right, in_snoc, Distinct, distinct_snoc}
use Rattle.theory.proofs.Tests.{by_test}

-- b is a and more after it
abbrev pub Starts : List ℕ → List ℕ → Type 0
Starts a b = (t : List ℕ) × (b ≡ a ++ t)

pub starts_refl : (a : List ℕ) → Starts a a
starts_refl a = ([], sym (append-nil a))

pub starts_trans : (a b c : List ℕ) → Starts a b → Starts b c → Starts a c
starts_trans a b c p q = (p.0 ++ q.0, q.1 ∙ ap (λ x. x ++ q.0) p.1 ∙ append_assoc a p.0 q.0)

pub starts_in : (i : ℕ) (a b : List ℕ) → Starts a b → In i a → In i b
starts_in i a b p h = rw p.1 (in_append_left i a p.0 h)

pub no_some : (i : ℕ) → none ≡ some i → ⊥
no_some i e = let z : ◌≡◌ {A = ℕ} 0 1 = cc in omega arith

-- one visit
pub visit_starts : (o : List ℕ) (l : Option ℕ) → Starts o (visit o l)
unfolding visit
visit_starts o none = starts_refl o
visit_starts o (some i) = ⊎_elim (λ e. rw e (starts_refl o)) (λ e. rw e ((i ∷ []), refl)) (by_test (mem i o))

pub visit_distinct : (o : List ℕ) (l : Option ℕ) → Distinct o → Distinct (visit o l)
unfolding visit
visit_distinct o none u = u
visit_distinct o (some i) u = ⊎_elim (λ e. rw e u) (λ e. rw e (distinct_snoc i o u e)) (by_test (mem i o))

pub visit_has : (o : List ℕ) (i : ℕ) → In i (visit o (some i))
unfolding visit
visit_has o i = ⊎_elim (λ e. rw e e) (λ e. rw e (in_append_right i o (i ∷ []) (in_self i []))) (by_test (mem i o))

pub visit-only : (o : List ℕ) (l : Option ℕ) (j : ℕ) → In j (visit o l) → In j o ⊎ (l ≡ some j)
unfolding visit
visit-only o none j h = inl h
visit-only o (some i) j h =
    ⊎_elim (λ e. inl (rw e at h))
    (λ e. ⊎_elim inl (λ q. inr (ap some (sym q))) (in_snoc j i o (rw e at h))) (by_test (mem i o))

-- many visits
pub visits_starts : (o : List ℕ) (ls : List (Option ℕ)) → Starts o (visits o ls)
unfolding visits
visits_starts o [] = starts_refl o
visits_starts o (l ∷ ls) =
    starts_trans o (visit o l) (visits (visit o l) ls) (visit_starts o l) (visits_starts (visit o l) ls)

pub visits_distinct : (o : List ℕ) (ls : List (Option ℕ)) → Distinct o → Distinct (visits o ls)
unfolding visits
visits_distinct o [] u = u
visits_distinct o (l ∷ ls) u = visits_distinct (visit o l) ls (visit_distinct o l u)

pub visits_has : (o : List ℕ) (ls : List (Option ℕ)) (k i : ℕ) → get_or ls k none ≡ some i → In i (visits o ls)
unfolding visits
visits_has o [] k i e = cc
visits_has o (l ∷ ls) zero i e =
    starts_in i (visit o l) (visits (visit o l) ls) (visits_starts (visit o l) ls) (rw e (visit_has o i))
visits_has o (l ∷ ls) (suc k) i e = visits_has (visit o l) ls k i e

pub visits-only : (o : List ℕ) (ls : List (Option ℕ)) (j : ℕ) → In j (visits o ls)
    → In j o ⊎ ((k : ℕ) × (get_or ls k none ≡ some j))
unfolding visits
visits-only o [] j h = inl h
visits-only o (l ∷ ls) j h =
    ⊎_elim (λ m. ⊎_elim inl (λ e. inr (zero, e)) (visit-only o l j m)) (λ t. inr (suc t.0, t.1))
    (visits-only (visit o l) ls j h)
