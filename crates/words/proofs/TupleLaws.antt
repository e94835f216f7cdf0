-- Headers of the tuple layout as the code tests them.
use Rattle.std.proofs.Common.{◌≡◌, ℕ, Bool, true, false, cond, ltb, refl}
use Rattle.model.specs.declared.Kind.TheVariants.{Traced, Untraced}
use Rattle.model.specs.Objects.{is_traced}

-- a kind picked by a test is traced where the test holds
picked : (b : Bool) → is_traced (cond b Traced Untraced) ≡ b
picked true = refl
picked false = refl

pub traced-below : (h : ℕ) → is_traced (cond (ltb h 2147483648) Traced Untraced) ≡ ltb h 2147483648
traced-below h = picked (ltb h 2147483648)
