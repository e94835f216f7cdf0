-- What the readers of values and tuples answer, from a place in the bytes: the place behind, or why there is none. Each is said as
-- `reader_numerals` says it of integers.
use Rattle.std.specs.Prelude.{ℕ, zero, suc, ◌+◌, ◌-◌, ◌*◌, ◌≤◌, ◌<◌, ◌≡◌, Bool, true, false, List, length, get_or, Option, MatchOption}
use Rattle.model.specs.declared.Refusal.{Refusal}
use Rattle.model.specs.declared.Refusal.TheVariants as Why
use Rattle.model.specs.Texts.{closer, max_depth}
use Rattle.model.specs.Trees.{end, Tree, node, then, tree_words}
use Rattle.model.specs.ReadFaults as Faults
use Rattle.model.specs.Reading.{Open, brace, height, Mode, start, whole, go, broken}
use Rattle.reader_numerals.specs.Numerals.{rest}
use Rattle.reader_judging.specs.declared.values.Found.{Found}

-- before a place, behind s bytes that open a tuple, so many words may have been counted
pub record Room (s : ℕ) (t : List ℕ) (at w : ℕ) : Type 0 where
  pub within : at ≤ length t
  pub words : w + s ≤ at

-- a text that is a tuple, of which nothing was counted
pub record Tupled (t : List ℕ) (first w : ℕ) : Type 0 where
  pub some : 0 < length t
  pub begins : first ≡ get_or t 0 0
  pub opens : Faults.opens first ≡ true
  pub words : w ≡ 0

-- of a closer at a place, behind so many fields
pub record ClosesAt (t : List ℕ) (at fields w p w' : ℕ) : Type 0 where
  pub two : 2 ≤ fields
  pub within : at < length t
  pub is : get_or t at 0 ≡ closer
  pub behind : p ≡ at + 1
  pub words : w' ≡ w + (fields + 1)

pub record NoCloser (t : List ℕ) (at fields : ℕ) (why : Refusal) : Type 0 where
  pub none : (2 ≤ fields) → (at < length t) → (get_or t at 0 ≡ closer) → ⊥
  pub is : why ≡ Why.Value

abbrev pub Closes : List ℕ → ℕ → ℕ → ℕ → Option ℕ → Found → Type 0
Closes t at fields w r f = MatchOption r (NoCloser t at fields f.why) (λ p. ClosesAt t at fields w p f.words)

-- from what was read before, m, with d levels left behind s bytes that open a tuple
module _ (m : Open → Mode) (s d : ℕ) (t : List ℕ) (at : ℕ) where
  -- a tree, up to r; words counted before and after. It takes no more words than it has bytes; an integer, which takes none, has no
  -- opener.
  pub record Whole (w r w' : ℕ) : Type 0 where
    pub stood : Tree
    pub beyond : at < r
    pub within : r ≤ length t
    pub words : w' ≡ w + tree_words stood
    pub words_fit : w' + at ≤ w + r + s
    pub alone : tree_words stood ≡ 0 → (s ≡ 0) × (Faults.opens (get_or t at 0) ≡ false)
    pub leads : (o : Open) → height o + (d + s) ≡ max_depth → rest t (go (m o)) at ≡ rest t (go (whole stood o)) r

  -- or why there is none
  pub record Refuses (why : Refusal) : Type 0 where
    pub stops : (o : Open) → height o + (d + s) ≡ max_depth → rest t (go (m o)) at ≡ broken why

  abbrev pub Reads : ℕ → Option ℕ → Found → Type 0
  Reads w r f = MatchOption r (Refuses f.why) (λ p. Whole w p f.words)

-- ---- tuples of one field that stand in each other

unfoldable pub braces : ℕ → Open → Open
braces zero o = o
braces (suc k) o = brace (braces k o)

unfoldable pub wrapped : ℕ → Tree → Tree
wrapped zero x = x
wrapped (suc k) x = node (then (wrapped k x) end)

-- no such tuple begins at a place, though one may
pub record Stuck (t : List ℕ) (at d : ℕ) : Type 0 where
  pub stuck : 0 < d → at < length t → get_or t at 0 ≡ 123 → (o : Open) → height o < max_depth → rest t (go (start o)) at ≡ broken Why.Value

pub record OpensOne (t : List ℕ) (at : ℕ) (r : Bool) : Type 0 where
  pub within : r ≡ true → at + 3 ≤ length t
  pub leads : r ≡ true → (o : Open) → height o < max_depth → rest t (go (start o)) at ≡ rest t (go (start (brace o))) (at + 3)
  pub stuck : r ≡ false → at < length t → get_or t at 0 ≡ 123 → (o : Open) → height o < max_depth
      → rest t (go (start o)) at ≡ broken Why.Value

-- k of them from a place on, of d that may
pub record Opened (t : List ℕ) (at d k : ℕ) : Type 0 where
  pub most : k ≤ d
  pub within : at + 3 * k ≤ length t
  pub leads : (o : Open) → height o + d ≡ max_depth → rest t (go (start o)) at ≡ rest t (go (start (braces k o))) (at + 3 * k)
  pub stuck : Stuck t (at + 3 * k) (d - k)

-- whether the closers of k of them stand there
pub record Closed (t : List ℕ) (at k : ℕ) (r : Bool) : Type 0 where
  pub stops : r ≡ false → (x : Tree) (o : Open) → rest t (go (whole x (braces k o))) at ≡ broken Why.Value
  pub within : r ≡ true → at + k ≤ length t
  pub leads : r ≡ true → (x : Tree) (o : Open) → rest t (go (whole x (braces k o))) at ≡ rest t (go (whole (wrapped k x) o)) (at + k)
