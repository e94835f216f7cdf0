-- How bytes are read: one after the other, from the left. Document 02, Q-2. What is accepted, and which byte is the first fault, is
-- said apart from this in `ReadFaults`.
use Rattle.std.specs.Prelude.{ℕ, zero, suc, ◌+◌, ◌*◌, ◌-◌, Bool, true, false, not, cond, ◌&&◌, ◌||◌, List, [], ◌∷◌, ◌++◌, ltb, leb, eqb, ℤ, pos, negsuc}
use Rattle.model.specs.declared.Refusal.{Refusal}
use Rattle.model.specs.declared.Refusal.TheVariants as Why
use Rattle.model.specs.Limits.{max_integer}
use Rattle.model.specs.Texts.{minus, opener, closer, comma, one_closer, max_depth}
use Rattle.model.specs.Trees.{Forest, end, Tree, leaf, node, then}

-- the tuples that stand open around a value: in each its values so far, or none after "{1="
pub data Open : Type 0 where
  outside : Open
  paren : List Tree → Open → Open
  brace : Open → Open

abbrev pub height : Open → ℕ
height outside = 0
height (paren ts o) = height o + 1
height (brace o) = height o + 1

abbrev pub forest_of : List Tree → Forest
forest_of [] = end
forest_of (t ∷ ts) = then t (forest_of ts)

-- what has been read so far
pub data Mode : Type 0 where
  -- a value is to begin
  start : Open → Mode
  -- "(", "{" and "{1"
  opened : Open → Mode
  braced : Open → Mode
  numbered : Open → Mode
  -- "~", and digits of the number n, after it or not
  negated : Open → Mode
  digits : Bool → ℕ → Open → Mode
  -- a value is whole
  whole : Tree → Open → Mode

pub data Next : Type 0 where
  go : Mode → Next
  bad : Refusal → Next

abbrev pub is_digit : ℕ → Bool
is_digit b = leb 48 b && ltb b 58

-- the integer of such digits
abbrev pub signed : Bool → ℕ → ℤ
signed false n = pos n
signed true zero = pos 0
signed true (suc n) = negsuc n

abbrev pub most_digits : Bool → ℕ
most_digits false = max_integer
most_digits true = max_integer + 1

-- one digit more: none after a 0, and none past the range
abbrev pub longer : Bool → ℕ → ℕ → Open → Next
longer neg n k o = cond (eqb n 0 || ltb (most_digits neg) (10 * n + k)) (bad Why.Value) (go (digits neg (10 * n + k) o))

abbrev pub none_yet : List Tree → Bool
none_yet [] = true
none_yet (t ∷ ts) = false

-- what may follow a value: a comma or the closer of the tuple that stands open, "}" after one value, ")" after two or more
abbrev pub follow : Tree → Open → ℕ → Next
follow t outside b = bad Why.Value
follow t (paren ts o) b =
    cond (eqb b comma) (go (start (paren (ts ++ (t ∷ [])) o)))
    (cond (eqb b closer && not (none_yet ts)) (go (whole (node (forest_of (ts ++ (t ∷ [])))) o)) (bad Why.Value))
follow t (brace o) b = cond (eqb b one_closer) (go (whole (node (then t end)) o)) (bad Why.Value)

-- with tuples that nest at most so deep
module _ (most : ℕ) where
  -- a tuple is opened: DEEP where as many stand open as may
  abbrev pub opening : Open → Mode → Next
  opening o m = cond (leb most (height o)) (bad Why.Deep) (go m)

  -- the first byte of a value
  abbrev pub begin : Open → ℕ → Next
  begin o b =
      cond (is_digit b) (go (digits false (b - 48) o))
      (cond (eqb b minus) (go (negated o))
      (cond (eqb b opener) (opening o (opened o))
      (cond (eqb b 123) (opening o (braced o)) (bad Why.Value))))

  abbrev pub next : Mode → ℕ → Next
  next (start o) b = begin o b
  next (opened o) b = cond (eqb b closer) (go (whole (node end) o)) (begin (paren [] o) b)
  next (braced o) b = cond (eqb b 49) (go (numbered o)) (bad Why.Value)
  next (numbered o) b = cond (eqb b 61) (go (start (brace o))) (bad Why.Value)
  next (negated o) b = cond (is_digit b && not (eqb b 48)) (go (digits true (b - 48) o)) (bad Why.Value)
  next (digits neg n o) b = cond (is_digit b) (longer neg n (b - 48) o) (follow (leaf (signed neg n)) o b)
  next (whole t o) b = follow t o b

-- a text's tree, or why there is none
pub data Parsed : Type 0 where
  tree : Tree → Parsed
  broken : Refusal → Parsed

-- the end of the bytes: a value is whole, and nothing stands open
abbrev pub ended : Tree → Open → Parsed
ended t outside = tree t
ended t (paren ts o) = broken Why.Value
ended t (brace o) = broken Why.Value

abbrev pub finish : Mode → Parsed
finish (start o) = broken Why.Value
finish (opened o) = broken Why.Value
finish (braced o) = broken Why.Value
finish (numbered o) = broken Why.Value
finish (negated o) = broken Why.Value
finish (digits neg n o) = ended (leaf (signed neg n)) o
finish (whole t o) = ended t o

-- the first fault decides
abbrev pub onward : ℕ → Next → ℕ → Next
onward most (go m) b = next most m b
onward most (bad k) b = bad k

abbrev pub stopped : Next → Parsed
stopped (go m) = finish m
stopped (bad k) = broken k

unfoldable pub parsed_from : ℕ → Next → List ℕ → Parsed
parsed_from most x [] = stopped x
parsed_from most x (b ∷ bs) = parsed_from most (onward most x b) bs

abbrev pub parsed : List ℕ → Parsed
parsed bs = parsed_from max_depth (go (start outside)) bs
