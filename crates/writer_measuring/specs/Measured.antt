-- What is left of so many bytes after pieces, or the first refusal that they come to; the law is in proofs/.
use Rattle.std.specs.Prelude.{ℕ, zero, suc, ◌-◌, cond, List, [], ◌∷◌, ltb, Result, Ok, Err}
use Rattle.model.specs.declared.Refusal.{Refusal}
use Rattle.model.specs.declared.Refusal.TheVariants as Why
use Rattle.model.specs.Texts.{Piece, byte, fault}

unfoldable pub measured : ℕ → List Piece → Result ℕ Refusal
measured n [] = Ok n
measured n (fault k ∷ ps) = Err k
measured zero (byte b ∷ ps) = Err Why.Text
measured (suc n) (byte b ∷ ps) = measured n ps

-- the same of k bytes
abbrev pub spent : ℕ → ℕ → Result ℕ Refusal
spent n k = cond (ltb n k) (Err Why.Text) (Ok (n - k))
