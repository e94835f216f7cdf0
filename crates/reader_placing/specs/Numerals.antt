-- An integer that stands in a text, at a place. Some byte that is no digit follows it: a comma or a closer.
use Rattle.std.specs.Prelude.{ℕ, ◌+◌, ◌≤◌, ◌≡◌, true, false, List, ◌∷◌, ◌++◌, ℤ, length, drop, set}
use Rattle.model.specs.Values.{in_range, tag}
use Rattle.model.specs.Texts.{digits, integer_text}
use Rattle.model.specs.Reading.{is_digit}

-- the bytes from a place on: such a part, a byte that is no digit, and the rest
pub record PartAt (T : List ℕ) (at : ℕ) (part : List ℕ) : Type 0 where
  pub mark : ℕ
  pub rest : List ℕ
  pub spelt : drop at T ≡ part ++ (mark ∷ rest)
  pub ends : is_digit mark ≡ false

pub record DigitsAt (T : List ℕ) (at n : ℕ) : Type 0 where
  pub part : PartAt T at (digits n)
  pub small : n ≤ 1_073_741_824

-- the number, and the place behind it
pub record DigitsRead (at n number end : ℕ) : Type 0 where
  pub is : number ≡ n
  pub behind : end ≡ at + length (digits n)

pub record IntegerAt (T : List ℕ) (at : ℕ) (v : ℤ) : Type 0 where
  pub part : PartAt T at (integer_text v)
  pub fits : in_range v ≡ true

-- its word in a field, and the place behind it
pub record IntegerRead (H : List ℕ) (field at : ℕ) (v : ℤ) (end : ℕ) (H' : List ℕ) : Type 0 where
  pub stored : H' ≡ set H field (tag v)
  pub behind : end ≡ at + length (integer_text v)
