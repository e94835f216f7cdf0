-- The numbers that bound everything, each named once. Document 01, "Words, addresses and halves", "Values and objects", COUNT;
-- document 02, Q-1.
use Rattle.std.specs.Prelude.{ℕ}

-- words in a half, S, at most
abbrev pub max_half : ℕ
max_half = 1_048_576

-- words in a heap, 2S + 1, at most
abbrev pub max_words : ℕ
max_words = 2_097_153

abbrev pub max_roots : ℕ
max_roots = 65_536

-- fields of an object, at most
abbrev pub max_fields : ℕ
max_fields = 1_073_741_823

-- the largest integer; the smallest is -1 less it, -1,073,741,824
abbrev pub max_integer : ℕ
max_integer = 1_073_741_823

-- every even word from here up is a code word
abbrev pub code_floor : ℕ
code_floor = 16_777_216
