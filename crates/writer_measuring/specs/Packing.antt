-- What is left or why not, in one number.
use Rattle.std.specs.Prelude.{ℕ, ◌-◌, cond, ltb, eqb, Result, Ok, Err}
use Rattle.model.specs.declared.Refusal.{Refusal}
use Rattle.model.specs.declared.Refusal.TheVariants as Why

-- 2 ^ 63: no text is as long, and from here up a number says why
abbrev pub limit : ℕ
limit = 9_223_372_036_854_775_808

-- the refusal of a number
abbrev pub refusal_of : ℕ → Refusal
refusal_of n =
    cond (eqb n 1) Why.Shape
    (cond (eqb n 2) Why.Root
    (cond (eqb n 3) Why.Count
    (cond (eqb n 4) Why.Range
    (cond (eqb n 5) Why.Object
    (cond (eqb n 6) Why.Kind
    (cond (eqb n 7) Why.Field
    (cond (eqb n 8) Why.Damaged
    (cond (eqb n 9) Why.Room
    (cond (eqb n 10) Why.Value
    (cond (eqb n 11) Why.Deep Why.Text))))))))))

abbrev pub told_of : ℕ → Result ℕ Refusal
told_of n = cond (ltb n limit) (Ok n) (Err (refusal_of (n - limit)))
