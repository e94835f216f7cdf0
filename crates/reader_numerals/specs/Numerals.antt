-- What is read of an integer from a place in the bytes: its number, and the place behind it. Each is said by how the bytes are read,
-- as `model` defines it: what the bytes from the first place on come to is what those from the place behind come to.
use Rattle.std.specs.Prelude.{ℕ, ◌+◌, ◌-◌, ◌≤◌, ◌<◌, ◌≡◌, Bool, not, cond, ◌&&◌, List, ltb, eqb, length, get_or, drop}
use Rattle.model.specs.declared.Refusal.TheVariants as Why
use Rattle.model.specs.Texts.{minus, max_depth}
use Rattle.model.specs.Trees.{leaf}
use Rattle.model.specs.Reading.{Open, start, digits, whole, Next, go, bad, is_digit, signed, most_digits}
use Rattle.model.specs.Reading.{onward, stopped, Parsed, broken, parsed_from}

-- what the bytes t from a place on come to, by what was read before it
abbrev pub rest : List ℕ → Next → ℕ → Parsed
rest t x at = parsed_from max_depth x (drop at t)

-- a digit that may come first
abbrev pub is_first : ℕ → Type 0
is_first b = (48 < b) × (b < 58)

-- behind the digits of n, with no other to follow
abbrev pub of_digits : Bool → ℕ → Open → Next
of_digits neg n o = cond (ltb (most_digits neg) n) (bad Why.Value) (go (whole (leaf (signed neg n)) o))

-- the digits from a first one on, up to r, of the number n
pub record Counted (t : List ℕ) (from r n : ℕ) : Type 0 where
  pub beyond : from < r
  pub within : r ≤ length t
  pub leads : (neg : Bool) (o : Open) → rest t (go (digits neg (get_or t from 0 - 48) o)) (from + 1) ≡ rest t (of_digits neg n o) r

-- a first digit
abbrev pub first_digit : Bool → ℕ → Open → Next
first_digit neg b o = cond (is_digit b && not (eqb b 48)) (go (digits neg (b - 48) o)) (bad Why.Value)

-- where only a number with no leading zero may follow x
pub record Awaits (t : List ℕ) (from : ℕ) (neg : Bool) (o : Open) (x : Next) : Type 0 where
  pub begins : from < length t → onward max_depth x (get_or t from 0) ≡ first_digit neg (get_or t from 0) o
  pub ends : stopped x ≡ broken Why.Value

pub record NaturalRead (t : List ℕ) (from most r n : ℕ) : Type 0 where
  pub beyond : from < r
  pub within : r ≤ length t
  pub small : n ≤ most
  pub leads : (neg : Bool) → most ≡ most_digits neg → (o : Open) (x : Next) → Awaits t from neg o x
      → rest t x from ≡ rest t (go (whole (leaf (signed neg n)) o)) r

-- or why there is none
pub record NoNatural (t : List ℕ) (from most : ℕ) : Type 0 where
  pub stops : (neg : Bool) → most ≡ most_digits neg → (o : Open) (x : Next) → Awaits t from neg o x → rest t x from ≡ broken Why.Value

abbrev pub negative : List ℕ → ℕ → Bool
negative t at = eqb (get_or t at 0) minus

pub record NumeralRead (t : List ℕ) (at r n : ℕ) : Type 0 where
  pub beyond : at < r
  pub within : r ≤ length t
  pub small : n ≤ most_digits (negative t at)
  pub leads : (o : Open) → rest t (go (start o)) at ≡ rest t (go (whole (leaf (signed (negative t at) n)) o)) r

-- or why there is none
pub record NoNumeral (t : List ℕ) (at : ℕ) : Type 0 where
  pub stops : (o : Open) → rest t (go (start o)) at ≡ broken Why.Value
