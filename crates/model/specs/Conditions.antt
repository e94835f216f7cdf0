-- Document 01's conditions as types, apart from the tests that the definitions compute: when SHAPE applies, when a word names an
-- object, when a heap is sound. "Values and objects", and the row SHAPE of the table; for code words document 02's Q-1.
-- `TestsDecide` says that the tests decide them.
use Rattle.std.specs.Prelude.{ℕ, ◌+◌, ◌%◌, ◌≤◌, ◌<◌, ◌≡◌, Bool, true, false, length}
use mathlib.Core.List.{List, [], ◌∷◌, Memᴰ}
use Rattle.model.specs.declared.Kind.TheVariants.{Traced}
use Rattle.model.specs.Limits.{max_words, max_roots, code_floor}
use Rattle.model.specs.Words.{State, at, half_words, first_word, other_first, free}
use Rattle.model.specs.Headers.{Layout}
use Rattle.model.specs.Shape.{bad_length, bad_shape}
use Rattle.model.specs.Objects.{address, index, kind, field_count, size, field_index, names}
use Rattle.model.specs.Soundness.{sound}
use Rattle.model.specs.Changes.{root_word}

-- the heap's length is even, below 3 or above 2,097,153
pub data BadLength (s : State) : Type 0 where
  even : length s.heap % 2 ≡ 0 → BadLength s
  short : length s.heap < 3 → BadLength s
  long : max_words < length s.heap → BadLength s

-- or more than 65,536 roots; or the free index lies outside its range, from the half's first word to one past its last
pub data BadShape (s : State) : Type 0 where
  wrong_length : BadLength s → BadShape s
  many_roots : max_roots < length s.roots → BadShape s
  free_before : free s < first_word s → BadShape s
  free_past : first_word s + half_words s.heap < free s → BadShape s

module _ (Y : Layout) where
  -- a word names an object when it is
  pub record Names (s : State) (w : ℕ) : Type 0 where
    -- even, not 0, below the floor, a multiple of 4,
    pub even : w % 2 ≡ 0
    pub not_null : w ≡ 0 → ⊥
    pub below_floor : w < code_floor
    pub multiple : w % 4 ≡ 0
    -- its index lies in the current half below the free index,
    pub in_half : first_word s ≤ index Y w
    pub below_free : index Y w < free s
    -- the word there has bit 0 clear (in any layout: is a header that is not forwarded),
    pub clear : Y.is_header (at s.heap (index Y w)) ≡ true
    -- and n + 1 words from there end at or before the free index
    pub ends : index Y w + size Y s.heap (index Y w) ≤ free s

  -- objects with bit 0 clear tile the words from i to e exactly; their headers stand at hs
  pub data Tiling (H : List ℕ) (e : ℕ) : ℕ → List ℕ → Type 0 where
    done : Tiling H e e []
    object : (i : ℕ) (hs : List ℕ) → i < e → Y.is_header (at H i) ≡ true → Tiling H e (i + size Y H i) hs → Tiling H e i (i ∷ hs)

  -- odd, 0, a code word, or the address of a header of that tiling
  pub data Valid (hs : List ℕ) (w : ℕ) : Type 0 where
    odd : w % 2 ≡ 1 → Valid hs w
    null : w ≡ 0 → Valid hs w
    code : w % 2 ≡ 0 → code_floor ≤ w → Valid hs w
    header : (i : ℕ) → Memᴰ i hs → w ≡ address Y i → Valid hs w

  -- a heap is sound when
  pub record Sound (s : State) : Type 0 where
    -- SHAPE does not apply;
    pub shape : BadShape s → ⊥
    -- word 0 is 0;
    pub reserved : at s.heap 0 ≡ 0
    -- the idle half is all 0;
    pub idle : (i : ℕ) → other_first s ≤ i → i < other_first s + half_words s.heap → at s.heap i ≡ 0
    -- the current half from the free index on is 0;
    pub unused : (i : ℕ) → free s ≤ i → i < first_word s + half_words s.heap → at s.heap i ≡ 0
    -- objects with bit 0 clear tile the used part exactly;
    pub headers : List ℕ
    pub tiled : Tiling s.heap (free s) (first_word s) headers
    -- each root and each field of a traced object is odd, 0, a code word, or the address of a header of that tiling
    pub roots : (r : ℕ) → r < length s.roots → Valid headers (root_word s r)
    pub fields : (i f : ℕ) → Memᴰ i headers → kind Y s.heap i ≡ Traced → f < field_count Y s.heap i
        → Valid headers (at s.heap (field_index i f))

-- ---- tests

-- a test decides a condition
pub record Decides (b : Bool) (P : Type 0) : Type 0 where
  pub holds : b ≡ true → P
  pub fails : b ≡ false → P → ⊥

-- the tests of the definitions decide these
pub record TestsDecide (Y : Layout) : Type 0 where
  pub of_length : (s : State) → Decides (bad_length (length s.heap)) (BadLength s)
  pub of_shape : (s : State) → Decides (bad_shape s) (BadShape s)
  pub of_names : (s : State) (w : ℕ) → Decides (names Y s w) (Names Y s w)
  pub of_sound : (s : State) → Decides (sound Y s) (Sound Y s)
