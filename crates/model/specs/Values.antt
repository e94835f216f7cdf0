-- What a word of a root or of a traced field holds. Document 01, "Values and objects", as document 02's Q-1 amends it.
--
--     odd                            an integer v, as 2v + 1 in two's complement
--     0                              null
--     even, from `code_floor` up      a code word
--     any other                      the address of an object's header
use Rattle.std.specs.Prelude.{ℕ, ◌+◌, ◌*◌, ◌-◌, ◌/◌, ◌%◌, Bool, not, cond, ◌&&◌, ltb, leb, eqb, ℤ, pos, negsuc}
use Rattle.model.specs.Limits.{max_integer, code_floor}

abbrev pub is_odd : ℕ → Bool
is_odd w = eqb (w % 2) 1

abbrev pub is_null : ℕ → Bool
is_null w = eqb w 0

-- even, not 0, below the floor. All that asks whether a word leads to an object asks this.
abbrev pub is_address : ℕ → Bool
is_address w = eqb (w % 2) 0 && not (is_null w) && ltb w code_floor

abbrev pub is_code : ℕ → Bool
is_code w = eqb (w % 2) 0 && leb code_floor w

-- -1,073,741,824 to 1,073,741,823; `negsuc n` is -(n + 1)
abbrev pub in_range : ℤ → Bool
in_range (pos n) = leb n max_integer
in_range (negsuc n) = leb n max_integer

-- 2v + 1 in two's complement: from -(2n + 1) up to 2 ^ 32 - (2n + 1)
abbrev pub tag : ℤ → ℕ
tag (pos n) = 2 * n + 1
tag (negsuc n) = 4_294_967_295 - 2 * n

-- the integer that an odd word holds: negative from 2 ^ 31 on
unfoldable pub untag : ℕ → ℤ
untag w = cond (ltb w 2_147_483_648) (pos (w / 2)) (negsuc ((4_294_967_295 - w) / 2))
