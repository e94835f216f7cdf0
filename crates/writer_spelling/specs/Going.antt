-- How a writer goes over pieces, from a place in the bytes that it is lent: to the place after them and the bytes with them,
-- or to the first that refuses. The pieces of a value and the bytes that they come to are defined in `model`; the law that
-- joins the two is in proofs/.
use Rattle.std.specs.Prelude.{ℕ, ◌+◌, cond, List, [], ◌∷◌, leb, length, set}
use Rattle.model.specs.declared.Refusal.{Refusal}
use Rattle.model.specs.declared.Refusal.TheVariants as Why
use Rattle.model.specs.Texts.{Piece, byte, fault}

pub data Walked : Type 0 where
  reached : ℕ → List ℕ → Walked
  stopped : Refusal → Walked

unfoldable pub goes : List Piece → ℕ → List ℕ → Walked
goes [] at t = reached at t
goes (fault k ∷ ps) at t = stopped k
goes (byte b ∷ ps) at t =
    let rest = goes ps (at + 1) (set t at b) in
    cond (leb (length t) at) (stopped Why.Text) rest

-- what follows the place that was reached
abbrev pub and_then : Walked → (ℕ → List ℕ → Walked) → Walked
and_then (reached n t) next = next n t
and_then (stopped k) next = stopped k

-- no piece refuses
abbrev pub Arrives : Walked → Type 0
Arrives (reached n t) = Unit {0}
Arrives (stopped k) = ⊥
