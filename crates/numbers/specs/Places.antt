-- What inspect tells, with a place of its own for each number. The numbers are the model's, `told`; a number that an answer does
-- not have is 0.
use Rattle.std.specs.Prelude.{ℕ, cond, eqb}
use Rattle.model.specs.declared.Told.{Told}
use Rattle.numbers.specs.declared.seen.Seen.{Seen}

-- what a root holds, as a number, where it is a code word
abbrev pub holds_code : ℕ
holds_code = 4

-- the value of an inspect is a code word or a count
abbrev pub seen_of : Told → Seen
seen_of t = record {
  refusal = t.refusal;
  holds = t.holds;
  integer = t.integer;
  count = cond (eqb t.holds holds_code) 0 t.value;
  code = cond (eqb t.holds holds_code) t.value 0;
}
