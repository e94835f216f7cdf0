-- A tuple's text as the readers come to it: what opens the tuple, then each value with one byte behind it.
use Prim.Native.Nat.{ℕ, ◌+◌, ◌≤◌}
use native.Mathlib.Omega.{arith}
use mathlib.Core.Path.{◌≡◌, refl, sym, ap}
use mathlib.Core.Bool.{Bool, true, false, cond}
use mathlib.Core.List.{List, [], ◌∷◌, ◌++◌}
use lib.Dec.{eqb}
use lib.IntN.{ℤ, pos, negsuc}
use lib.ListN.{length, get_or, drop}
use borrow.Author.Tests.{ne_eqb, leb-true, ltb-true}
use Rattle.model.specs.Texts.{integer_text, digits, joined, enclosed}
use Rattle.model.specs.Trees.{Forest, end, leaf_then, node_then, node, count, texts, tree_text}
use Rattle.model.specs.Reading.{is_digit}
use Rattle.model.specs.ReadFaults as Faults
use Rattle.theory.proofs.Tests.{and_both}
use Rattle.reader_placing.specs.Placing.{opener_width}
use Rattle.reader_placing.proofs.Bytes.{first_of_lem}
use Rattle.reader_placing.proofs.Signs.{begins-digit}

-- the byte before the values f: a comma, or the closer where there is none
abbrev pub mark_of : ℕ → Forest → ℕ
mark_of c end = c
mark_of c (leaf_then v f) = 44
mark_of c (node_then g f) = 44

-- the values f, each with the byte behind it
unfoldable pub trail : ℕ → Forest → List ℕ
trail c end = []
trail c (leaf_then v f) = integer_text v ++ (mark_of c f ∷ trail c f)
trail c (node_then g f) = tree_text (node g) ++ (mark_of c f ∷ trail c f)

pub joined_trail : (f : Forest) → joined (λ b. b) (texts f) ≡ mark_of 41 f ∷ trail 41 f
unfolding joined texts trail
joined_trail end = refl
joined_trail (leaf_then v f) = ap (λ (l : List ℕ). 44 ∷ integer_text v ++ l) (joined_trail f)
joined_trail (node_then g f) = ap (λ (l : List ℕ). 44 ∷ enclosed (λ b. b) (texts g) ++ l) (joined_trail f)

-- the closer of a tuple of n values
abbrev pub close_of : ℕ → ℕ
close_of n = cond (eqb n 1) 125 41

pub no_digit_close : (n : ℕ) → is_digit (close_of n) ≡ false
no_digit_close n = by (eqb n 1)
  where
    by : (b : Bool) → is_digit (cond b 125 41) ≡ false
    by true = refl
    by false = refl

pub no_digit-mark : (c : ℕ) (f : Forest) → is_digit c ≡ false → is_digit (mark_of c f) ≡ false
no_digit-mark c end h = h
no_digit-mark c (leaf_then v f) h = refl
no_digit-mark c (node_then g f) h = refl

-- a text with what opens it
pub record Lead (text : List ℕ) (n : ℕ) (inner : List ℕ) : Type 0 where
  pub lead : List ℕ
  pub is : text ≡ lead ++ inner
  pub width : length lead ≡ opener_width n

lead-more : (p : List ℕ) (n : ℕ) (f : Forest) (q : List ℕ) → joined (λ b. b) (texts f) ≡ q → mark_of 41 f ∷ trail 41 f ≡ q
    → Lead (40 ∷ p ++ q) (n + 1 + 1) (p ++ (mark_of (close_of (n + 1 + 1)) f ∷ trail (close_of (n + 1 + 1)) f))
lead-more p n f q e e' =
    simp (ne_eqb (n + 1 + 1) 1 (λ z. omega arith))
    (record { lead = 40 ∷ []; is = ap (λ (l : List ℕ). 40 ∷ p ++ l) (sym e'); width = simp (ne_eqb (n + 1 + 1) 1 (λ z. omega arith)) })

lead_of : (p : List ℕ) (f : Forest)
    → Lead (enclosed (λ b. b) (p ∷ texts f)) (count f + 1) (p ++ (mark_of (close_of (count f + 1)) f ∷ trail (close_of (count f + 1)) f))
unfolding enclosed texts count trail
lead_of p end = record { lead = 123 ∷ 49 ∷ 61 ∷ []; is = refl; width = refl }
lead_of p (leaf_then v f) = lead-more p (count f) (leaf_then v f) _ refl (sym (joined_trail (leaf_then v f)))
lead_of p (node_then g f) = lead-more p (count f) (node_then g f) _ refl (sym (joined_trail (node_then g f)))

pub tuple-lead : (g : Forest) → 1 ≤ count g → Lead (tree_text (node g)) (count g) (trail (close_of (count g)) g)
unfolding texts count trail
tuple-lead end h = absurd (omega arith)
tuple-lead (leaf_then v f) h = lead_of (integer_text v) f
tuple-lead (node_then g f) h = lead_of (tree_text (node g)) f

pub no_fields : (g : Forest) → count g ≡ 0 → g ≡ end
unfolding count
no_fields end h = refl
no_fields (leaf_then v f) h = absurd (omega arith)
no_fields (node_then g f) h = absurd (omega arith)

-- ---- how a value begins

opens_by : (ps : List (List ℕ)) (rest : List ℕ) (T : List ℕ) (at : ℕ) → drop at T ≡ enclosed (λ b. b) ps ++ rest
    → Faults.opens (get_or T at 0) ≡ true
unfolding enclosed
opens_by [] rest T at e = ap Faults.opens (first_of_lem T at 40 _ e).is
opens_by (p ∷ []) rest T at e = ap Faults.opens (first_of_lem T at 123 _ e).is
opens_by (p ∷ q ∷ ps) rest T at e = ap Faults.opens (first_of_lem T at 40 _ e).is

pub node_opens : (g : Forest) (rest : List ℕ) (T : List ℕ) (at : ℕ) → drop at T ≡ tree_text (node g) ++ rest
    → Faults.opens (get_or T at 0) ≡ true
node_opens g rest T at e = opens_by (texts g) rest T at e

digit_no_opener : (b : ℕ) → is_digit b ≡ true → Faults.opens b ≡ false
digit_no_opener b h =
    let a = and_both _ _ h in
    let l = leb-true 48 b a.0 in
    let u = ltb-true b 58 a.1 in
    simp (ne_eqb b 40 (λ z. omega arith), ne_eqb b 123 (λ z. omega arith))

pub leaf-opens-not : (v : ℤ) (rest : List ℕ) (T : List ℕ) (at : ℕ) → drop at T ≡ integer_text v ++ rest
    → Faults.opens (get_or T at 0) ≡ false
leaf-opens-not (pos n) rest T at e = digit_no_opener (get_or T at 0) (begins-digit T at n rest e)
leaf-opens-not (negsuc n) rest T at e = ap Faults.opens (first_of_lem T at 126 (digits (n + 1) ++ rest) e).is
