-- Cells end to end: where those of a node stand, that two nodes stand apart, and how many there are.
use Prim.Native.Nat.{ℕ, ◌+◌, ◌-◌, ◌≤◌, ◌<◌}
use native.Mathlib.Omega.{arith}
use native.Mathlib.Nat.{zero-add, add_assoc}
use mathlib.Core.Path.{◌≡◌, refl, sym, ap, ◌∙◌}
use mathlib.Core.Logic.{⊎_elim}
use mathlib.Core.Bool.{true, false, cond}
use mathlib.Core.List.{List, [], ◌∷◌, ◌++◌, map, append_assoc}
use lib.Dec.{ltb, eqb}
use lib.ListN.{length, get_or, length-append, get_or-append}
use lib.Seq.{get_or-append-add}
use borrow.Author.Tests.{ltb-true, ltb-false, eqb-true, eq-eqb, ne_eqb}
use Rattle.model.specs.Collection.{cells}
use Rattle.model.specs.Discovery.{packed, words_before}
use Rattle.theory.proofs.Lists.{map-append}
use Rattle.theory.proofs.Members.{In, Out, in-nil, in_head, in_tail, in_self, in_cons, in_other, out_cons, in_out}
use Rattle.theory.proofs.Members.{Distinct}
use Rattle.theory.proofs.Tests.{by_test}
use Rattle.theory.proofs.Visits.{Starts}

module _ {C : Type 0} (cells : ℕ → List C) where
  pub packed-append : (a b : List ℕ) → packed cells (a ++ b) ≡ packed cells a ++ packed cells b
  unfolding packed
  packed-append [] b = refl
  packed-append (i ∷ a) b = rw (packed-append a b, append_assoc (cells i) (packed cells a) (packed cells b))

  -- the cells of a node that is listed stand where `before` says
  pub packed-at : (d : C) (o : List ℕ) (i k : ℕ) → In i o → k < length (cells i)
      → get_or (packed cells o) (words_before cells o i + k) d ≡ get_or (cells i) k d
  unfolding packed words_before
  packed-at d [] i k h l = in-nil i h
  packed-at d (j ∷ o) i k h l =
      ⊎_elim
      (λ (e : eqb i j ≡ true).
      let q : i ≡ j = eqb-true i j e in
      rw (e, zero-add, ← q) (get_or-append (cells i) (packed cells o) d k l))
      (λ (e : eqb i j ≡ false). rw (e, add_assoc, get_or-append-add) (packed-at d o i k (in_other i j o h e) l))
      (by_test (eqb i j))

  -- and lie within
  pub words_before-fits : (o : List ℕ) (i : ℕ) → In i o → words_before cells o i + length (cells i) ≤ length (packed cells o)
  unfolding packed words_before
  words_before-fits [] i h = in-nil i h
  words_before-fits (j ∷ o) i h =
      ⊎_elim
      (λ (e : eqb i j ≡ true).
      let q : i ≡ j = eqb-true i j e in
      rw (e, ← q, length-append) (omega arith))
      (λ (e : eqb i j ≡ false).
      let ih = words_before-fits o i (in_other i j o h e) in
      rw (e, length-append) (omega arith))
      (by_test (eqb i j))

  -- no more cells stand before a node than there are, whether it is listed or not
  pub words_before-most : (o : List ℕ) (i : ℕ) → words_before cells o i ≤ length (packed cells o)
  unfolding packed words_before
  words_before-most [] i = omega arith
  words_before-most (j ∷ o) i =
      let ih = words_before-most o i in
      ⊎_elim
      (λ (e : eqb i j ≡ true). rw e (omega arith))
      (λ (e : eqb i j ≡ false). rw (e, length-append) (omega arith))
      (by_test (eqb i j))

  -- more nodes behind change no place
  pub words_before-append : (o t : List ℕ) (i : ℕ) → In i o → words_before cells (o ++ t) i ≡ words_before cells o i
  unfolding words_before
  words_before-append [] t i h = in-nil i h
  words_before-append (j ∷ o) t i h =
      ⊎_elim
      (λ (e : eqb i j ≡ true). rw e)
      (λ (e : eqb i j ≡ false). rw (e, words_before-append o t i (in_other i j o h e)))
      (by_test (eqb i j))

  -- a node that is not listed would come last
  pub words_before_last : (o t : List ℕ) (i : ℕ) → Out i o → words_before cells (o ++ (i ∷ t)) i ≡ length (packed cells o)
  unfolding words_before packed
  words_before_last [] t i h = rw (eq-eqb i i refl)
  words_before_last (j ∷ o) t i h =
      let p = out_cons i j o h in
      rw (ne_eqb i j p.0, words_before_last o t i p.1, length-append)

  -- two places are one only of one node, where each node has a cell
  pub words_before-apart : ((i : ℕ) → 0 < length (cells i)) → (o : List ℕ) (i j : ℕ) → In i o → In j o
      → words_before cells o i ≡ words_before cells o j → i ≡ j
  unfolding words_before
  words_before-apart full [] i j h g q = in-nil i h
  words_before-apart full (n ∷ o) i j h g q =
      ⊎_elim
      (λ (e : eqb i n ≡ true).
      ⊎_elim
      (λ (f : eqb j n ≡ true). eqb-true i n e ∙ sym (eqb-true j n f))
      (λ (f : eqb j n ≡ false).
      let w : 0 < length (cells n) = full n in
      let z : 0 ≡ length (cells n) + words_before cells o j = rw (e, f) at q in
      absurd (omega arith))
      (by_test (eqb j n)))
      (λ (e : eqb i n ≡ false).
      ⊎_elim
      (λ (f : eqb j n ≡ true).
      let w : 0 < length (cells n) = full n in
      let z : length (cells n) + words_before cells o i ≡ 0 = rw (e, f) at q in
      absurd (omega arith))
      (λ (f : eqb j n ≡ false).
      let z : length (cells n) + words_before cells o i ≡ length (cells n) + words_before cells o j = rw (e, f) at q in
      words_before-apart full o i j (in_other i n o h e) (in_other j n o g f) (omega arith))
      (by_test (eqb j n)))
      (by_test (eqb i n))

  -- a longer order packs more behind
  pub packed_starts : (d : C) (a b : List ℕ) (p : ℕ) → Starts a b → p < length (packed cells a)
      → get_or (packed cells b) p d ≡ get_or (packed cells a) p d
  packed_starts d a b p q l = rw (q.1, packed-append) (get_or-append (packed cells a) (packed cells q.0) d p l)

  pub packed_grows : (a b : List ℕ) → Starts a b → length (packed cells a) ≤ length (packed cells b)
  packed_grows a b q = rw (q.1, packed-append, length-append) (omega arith)

  -- a cell of the packed ones is a cell of a node listed
  pub find : (d : C) (o : List ℕ) (p : ℕ) → p < length (packed cells o)
      → (i : ℕ) × (k : ℕ) × In i o × (k < length (cells i)) × (get_or (packed cells o) p d ≡ get_or (cells i) k d)
  unfolding packed
  find d [] p l = absurd (omega arith)
  find d (j ∷ o) p l =
      ⊎_elim
      (λ (e : ltb p (length (cells j)) ≡ true).
      let h : p < length (cells j) = ltb-true _ _ e in
      (j, p, in_self j o, h, get_or-append (cells j) (packed cells o) d p h))
      (λ (e : ltb p (length (cells j)) ≡ false).
      let h : length (cells j) ≤ p = ltb-false _ _ e in
      let r = p - length (cells j) in
      let a : length (cells j) + length (packed cells o) ≡ length (cells j ++ packed cells o) =
      sym (length-append (cells j) (packed cells o)) in
      let f = find d o r (omega arith) in
      let s : length (cells j) + r ≡ p = omega arith in (
        f.0,
        f.1,
        in_tail f.0 j o f.2,
        f.3,
        ap (λ x. get_or (cells j ++ packed cells o) x d) (sym s) ∙ get_or-append-add (cells j) (packed cells o) r d ∙ f.4,
      ))
      (by_test (ltb p (length (cells j))))

-- nodes by other names
pub packed-named : {C : Type 0} (cells : ℕ → List C) (f : ℕ → ℕ) (o : List ℕ) → packed cells (map f o) ≡ packed (λ x. cells (f x)) o
unfolding packed
packed-named cells f [] = refl
packed-named cells f (x ∷ o) = rw (packed-named cells f o)

-- the same cells but for what f makes of each
pub packed-map : {C D : Type 0} (cells : ℕ → List C) (cells' : ℕ → List D) (f : C → D) (o : List ℕ)
    → ((x : ℕ) → In x o → cells' x ≡ map f (cells x)) → packed cells' o ≡ map f (packed cells o)
unfolding packed
packed-map cells cells' f [] e = refl
packed-map cells cells' f (x ∷ o) e =
    rw (e x (in_self x o), packed-map cells cells' f o (λ y m. e y (in_tail y x o m)))
    (sym (map-append f (cells x) (packed cells o)))

-- a list less the first place of i
unfoldable pub remove : ℕ → List ℕ → List ℕ
remove i [] = []
remove i (x ∷ xs) = cond (eqb i x) xs (x ∷ remove i xs)

pub in_remove : (i j : ℕ) (hs : List ℕ) → In j hs → (j ≡ i → ⊥) → In j (remove i hs)
unfolding remove
in_remove i j [] h n = h
in_remove i j (x ∷ xs) h n =
    ⊎_elim
    (λ (e : eqb i x ≡ true).
    rw e (in_other j x xs h (ne_eqb j x (λ q. n (q ∙ sym (eqb-true i x e))))))
    (λ (e : eqb i x ≡ false).
    rw e (⊎_elim (λ (q : j ≡ x). in_head j x (remove i xs) q)
    (λ (m : In j xs). in_tail j x (remove i xs) (in_remove i j xs m n)) (in_cons j x xs h)))
    (by_test (eqb i x))

module _ {C : Type 0} (cells : ℕ → List C) where
  pub packed_remove : (i : ℕ) (hs : List ℕ) → In i hs
      → length (packed cells hs) ≡ length (cells i) + length (packed cells (remove i hs))
  unfolding remove packed
  packed_remove i [] h = in-nil i h
  packed_remove i (x ∷ xs) h =
      ⊎_elim
      (λ (e : eqb i x ≡ true). rw (e, length-append, eqb-true i x e))
      (λ (e : eqb i x ≡ false).
      let ih = packed_remove i xs (in_other i x xs h e) in
      simp (e, length-append) (omega arith))
      (by_test (eqb i x))

  -- a list of distinct nodes of another packs no more cells than it
  pub packed-within : (o hs : List ℕ) → Distinct o → ((i : ℕ) → In i o → In i hs)
      → length (packed cells o) ≤ length (packed cells hs)
  unfolding packed
  packed-within [] hs u f = omega arith
  packed-within (i ∷ o) hs u f =
      let r = packed_remove i hs (f i (in_self i o)) in
      let ih = packed-within o (remove i hs) u.1
      (λ j m. in_remove i j hs (f j (in_tail j i o m)) (in_out j i o m u.0)) in
      rw length-append (omega arith)
