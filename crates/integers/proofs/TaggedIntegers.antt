-- An integer that was tagged, or is refused as out of range.
use native.Mathlib.Omega.{arith}
use Rattle.std.specs.Prelude.{ℕ, ◌≡◌, Bool, true, false, cond, ℤ, Some, None, Ok, Err}
use Rattle.std.specs.Option.{ok_or}
use Rattle.std.proofs.Common.{refl}
use Rattle.model.specs.declared.Refusal.{Refusal}
use Rattle.model.specs.Values.{in_range, tag}
use Rattle.integers.specs.Tagging.{tagged}

pub tagged_in : (v : ℤ) (k : Refusal) {w : ℕ} → ok_or (tagged v) k ≡ Ok w → (in_range v ≡ true) × (tag v ≡ w)
unfolding tagged
tagged_in v k {w} = go (in_range v)
  where
    go : (b : Bool) → ok_or (cond b (Some (tag v)) None) k ≡ Ok w → (b ≡ true) × (tag v ≡ w)
    go true e = (refl, cc e)
    go false e = absurd (let z : ◌≡◌ {A = ℕ} 0 1 = cc in omega arith)

pub tagged_out : (v : ℤ) (k : Refusal) {j : Refusal} → ok_or (tagged v) k ≡ Err j → (in_range v ≡ false) × (k ≡ j)
unfolding tagged
tagged_out v k {j} = go (in_range v)
  where
    go : (b : Bool) → ok_or (cond b (Some (tag v)) None) k ≡ Err j → (b ≡ false) × (k ≡ j)
    go true e = absurd (let z : ◌≡◌ {A = ℕ} 0 1 = cc in omega arith)
    go false e = (refl, cc e)
