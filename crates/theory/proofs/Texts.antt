-- Texts: pieces read from the left, and the bytes that they come to.
use Prim.Native.Nat.{ℕ, zero, suc, ◌≤◌}
use native.Mathlib.Omega.{arith}
use mathlib.Core.Path.{◌≡◌, refl, ap, subst}
use mathlib.Core.List.{List, [], ◌∷◌, ◌++◌, map}
use lib.ListN.{length, length-append, length-drop}
use Rattle.model.specs.declared.Refusal.{Refusal}
use Rattle.model.specs.declared.Refusal.TheVariants as Why
use Rattle.model.specs.Texts.{Form, as_integer, as_tuple, textless, Piece, byte, fault, Spelled, whole, broken, behind}
use Rattle.model.specs.Texts.{one_closer, joined, enclosed, integer_text, form_pieces, tuple_pieces, value_pieces, spelled, over}

-- what is whole with a byte before it
pub behind-whole : (b : ℕ) (x : Spelled) (bs : List ℕ) → behind b x ≡ whole bs → (cs : List ℕ) × (x ≡ whole cs) × (bs ≡ b ∷ cs)
behind-whole b (whole cs) bs e = (cs, refl, cc)
behind-whole b (broken k) bs e = let z : ◌≡◌ {A = ℕ} 0 1 = cc in absurd (omega arith)

-- all bytes of a text have room
pub whole-fits : (n : ℕ) (ps : List Piece) (bs : List ℕ) → spelled n ps ≡ whole bs → length bs ≤ n
unfolding spelled
whole-fits n [] bs e = let z : bs ≡ [] = cc in omega (arith, ap length z)
whole-fits n (fault k ∷ ps) bs e = let z : ◌≡◌ {A = ℕ} 0 1 = cc in absurd (omega arith)
whole-fits zero (byte b ∷ ps) bs e = let z : ◌≡◌ {A = ℕ} 0 1 = cc in absurd (omega arith)
whole-fits (suc n) (byte b ∷ ps) bs e =
    let c = behind-whole b (spelled n ps) bs e in
    let l = whole-fits n ps c.0 c.1 in
    omega (arith, ap length c.2)

pub length_over : (bs t : List ℕ) → length bs ≤ length t → length (over bs t) ≡ length t
length_over bs t l = simp (length-append, length-drop) (omega arith)

-- ---- the faults among pieces

pub textless-same : {X : Type 0} (j k : Refusal) → ◌≡◌ {A = Form X} (textless j) (textless k) → j ≡ k
textless-same j k e = cc

broken-same : (j k : Refusal) → broken j ≡ broken k → j ≡ k
broken-same j k e = cc

pub behind-broken : (b : ℕ) (x : Spelled) (k : Refusal) → behind b x ≡ broken k → x ≡ broken k
behind-broken b (whole cs) k e = let z : ◌≡◌ {A = ℕ} 0 1 = cc in absurd (omega arith)
behind-broken b (broken j) k e = e

-- each of them has the property P
abbrev pub Faults : (Refusal → Type 0) → List Piece → Type 0
Faults P [] = Unit {0}
Faults P (byte b ∷ ps) = Faults P ps
Faults P (fault k ∷ ps) = P k × Faults P ps

module _ (P : Refusal → Type 0) where
  -- so has the one that decides, if TEXT has it
  pub broken-fault : P Why.Text → (n : ℕ) (ps : List Piece) (k : Refusal) → Faults P ps → spelled n ps ≡ broken k → P k
  unfolding spelled
  broken-fault t n [] k f e = let z : ◌≡◌ {A = ℕ} 0 1 = cc in absurd (omega arith)
  broken-fault t n (fault j ∷ ps) k f e = subst P (broken-same j k e) f.0
  broken-fault t zero (byte b ∷ ps) k f e = subst P (broken-same Why.Text k e) t
  broken-fault t (suc n) (byte b ∷ ps) k f e = broken-fault t n ps k f (behind-broken b (spelled n ps) k e)

  append_faults : (ps qs : List Piece) → Faults P ps → Faults P qs → Faults P (ps ++ qs)
  append_faults [] qs f g = g
  append_faults (byte b ∷ ps) qs f g = append_faults ps qs f g
  append_faults (fault k ∷ ps) qs f g = (f.0, append_faults ps qs f.1 g)

  bytes_faults : (bs : List ℕ) → Faults P (map byte bs)
  bytes_faults [] = tt
  bytes_faults (b ∷ bs) = bytes_faults bs

  -- each of several lists of pieces
  abbrev Each : List (List Piece) → Type 0
  Each [] = Unit {0}
  Each (p ∷ ps) = Faults P p × Each ps

  joined_faults : (ps : List (List Piece)) → Each ps → Faults P (joined byte ps)
  unfolding joined
  joined_faults [] f = tt
  joined_faults (p ∷ ps) f = append_faults p (joined byte ps) f.0 (joined_faults ps f.1)

  enclosed_faults : (ps : List (List Piece)) → Each ps → Faults P (enclosed byte ps)
  unfolding enclosed
  enclosed_faults [] f = tt
  enclosed_faults (p ∷ []) f = append_faults p (byte one_closer ∷ []) f.0 tt
  enclosed_faults (p ∷ q ∷ ps) f = append_faults p (joined byte (q ∷ ps)) f.0 (joined_faults (q ∷ ps) f.1)

module _ {X : Type 0} (form : X → Form X) (P : Refusal → Type 0) (deep : P Why.Deep)
    (bad : (v : X) (k : Refusal) → form v ≡ textless k → P k) where
  form_faults : (tuple : List X → List Piece) → ((vs : List X) → Faults P (tuple vs)) → (v : X) (x : Form X) → form v ≡ x
      → Faults P (form_pieces tuple x)
  form_faults tuple t v (as_integer z) e = bytes_faults P (integer_text z)
  form_faults tuple t v (as_tuple vs) e = t vs
  form_faults tuple t v (textless k) e = (bad v k e, tt)

  each_faults : (tuple : List X → List Piece) → ((vs : List X) → Faults P (tuple vs)) → (vs : List X)
      → Each P (map (λ v. form_pieces tuple (form v)) vs)
  each_faults tuple t [] = tt
  each_faults tuple t (v ∷ vs) = (form_faults tuple t v (form v) refl, each_faults tuple t vs)

  tuple_faults : (d : ℕ) (vs : List X) → Faults P (tuple_pieces form d vs)
  unfolding tuple_pieces
  tuple_faults zero vs = (deep, tt)
  tuple_faults (suc d) vs = enclosed_faults P _ (each_faults (tuple_pieces form d) (tuple_faults d) vs)

  pub pieces_faults : (d : ℕ) (v : X) → Faults P (value_pieces form d v)
  pieces_faults d v = form_faults (tuple_pieces form d) (tuple_faults d) v (form v) refl
