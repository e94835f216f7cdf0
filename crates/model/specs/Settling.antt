-- Collecting twice settles: the second collection leaves the first's objects in the same order, S words on or back, and the third
-- exactly what the first left. Document 02, Q-5. And what images tell: an image is a matter of the graph alone, and says all of a heap
-- but its half and its size.
use Rattle.std.specs.Prelude.{ℕ, ◌+◌, ◌*◌, ◌≤◌, ◌<◌, ◌≡◌, ◌⊎◌, true, false, length, get_or, Ok}
use mathlib.Core.List.{Memᴰ}
use Rattle.model.specs.declared.Half.{Half}
use Rattle.model.specs.declared.Half.TheVariants.{A, B}
use Rattle.model.specs.declared.Kind.TheVariants.{Traced, Untraced}
use Rattle.model.specs.declared.Counts.{Counts}
use Rattle.model.specs.declared.Answer.TheVariants as Says
use Rattle.model.specs.declared.Call.TheVariants as Ask
use Rattle.model.specs.Words.{State, at, half_words, other, first_word, free}
use Rattle.model.specs.Values.{is_address}
use Rattle.model.specs.Headers.{Layout}
use Rattle.model.specs.Objects.{kind, field_count, field_index}
use Rattle.model.specs.Soundness.{headers}
use Rattle.model.specs.Changes.{root_word}
use Rattle.model.specs.Sessions.{Machine}
use Rattle.model.specs.Conditions.{Sound}
use Rattle.model.specs.Images.{Image, image}
use Rattle.model.specs.Graph.{Graph}
use Rattle.model.specs.Represents.{Represents}
use Rattle.model.specs.Demand3.{OfWords}

-- y is d on from x, out of half A; d back, out of half B
abbrev pub Across : Half → ℕ → ℕ → ℕ → Type 0
Across A d x y = y ≡ x + d
Across B d x y = x ≡ y + d

-- S words on or back, by the half of a state, and 4S: an address is 4 times an index
abbrev pub WordsAcross : State → ℕ → ℕ → Type 0
WordsAcross s = Across s.«record».half (half_words s.heap)

abbrev pub BytesAcross : State → ℕ → ℕ → Type 0
BytesAcross s = Across s.«record».half (4 * half_words s.heap)

-- what the first, the second and the third of three collections leaves
module _ (M : Machine) where
  abbrev pub once : State → State
  once s = (M.step Ask.Collect s).left

  abbrev pub twice : State → State
  twice s = once (once s)

  abbrev pub thrice : State → State
  thrice s = once (twice s)

-- a value of s and what it became: an object's address is changed by 4S, any other word is as it was
pub record ValueShifted (s : State) (w w' : ℕ) : Type 0 where
  pub moves : is_address w ≡ true → BytesAcross s w w'
  pub stays : is_address w ≡ false → w' ≡ w

module _ (Y : Layout) where
  -- an object of s stands at i, and j is S words on or back
  pub record Moved (s : State) (i j : ℕ) : Type 0 where
    pub object : Memᴰ i (headers Y s)
    pub across : WordsAcross s i j

  -- t has the objects of s and nothing else, each S words on or back
  pub record Shifted (s t : State) : Type 0 where
    -- as many, in the same order
    pub count : length (headers Y t) ≡ length (headers Y s)
    pub places : (k : ℕ) → k < length (headers Y s) → Moved s (get_or (headers Y s) k 0) (get_or (headers Y t) k 0)
    -- headers and raw words are equal, fields and roots shifted
    pub header : (i j : ℕ) → Moved s i j → at t.heap j ≡ at s.heap i
    pub raw_field : (i j f : ℕ) → Moved s i j → kind Y s.heap i ≡ Untraced → f < field_count Y s.heap i
        → at t.heap (field_index j f) ≡ at s.heap (field_index i f)
    pub value_field : (i j f : ℕ) → Moved s i j → kind Y s.heap i ≡ Traced → f < field_count Y s.heap i
        → ValueShifted s (at s.heap (field_index i f)) (at t.heap (field_index j f))
    pub root_count : length t.roots ≡ length s.roots
    pub root : (r : ℕ) → r < length s.roots → ValueShifted s (root_word s r) (root_word t r)
    -- the other half, its free index S words on or back, the same length, and all words but those of the objects 0
    pub other_half : t.«record».half ≡ other s.«record».half
    pub free_index : WordsAcross s (free s) (free t)
    pub same_length : length t.heap ≡ length s.heap
    pub cleared : (i : ℕ) → (i < first_word t) ⊎ (free t ≤ i) → at t.heap i ≡ 0
    pub same_text : t.text ≡ s.text

  -- this leaves no choice: of a sound state there is one such t
  abbrev pub OneShift : Type 0
  OneShift = (s t t' : State) → Sound Y s → Shifted s t → Shifted s t' → t ≡ t'

  -- of the call, three times:
  pub record SettlesBy (M : Machine) (s : State) : Type 0 where
    -- the second leaves the first's objects in the same order, S words on or back,
    pub shifts : Shifted (once M s) (twice M s)
    -- and with them the same image;
    pub same_image : image Y (twice M s) ≡ image Y (once M s)
    -- the third leaves exactly what the first left: heap, roots and record;
    pub returns : thrice M s ≡ once M s
    -- and all three answer the same three numbers
    pub counts : Counts
    pub first : (M.step Ask.Collect s).answer ≡ Ok (Says.Live counts)
    pub second : (M.step Ask.Collect (once M s)).answer ≡ Ok (Says.Live counts)
    pub third : (M.step Ask.Collect (twice M s)).answer ≡ Ok (Says.Live counts)

  -- for every sound state
  abbrev pub Settling : Machine → Type 0
  Settling M = (s : State) → Sound Y s → SettlesBy M s

  -- an image is a matter of the graph alone: two sound states, of whatever sizes, that stand for one graph have one image once they
  -- are collected
  abbrev pub SameImage : Machine → Type 0
  SameImage M = (s t : State) (g : Graph) → OfWords s → OfWords t → Represents Y s g → Represents Y t g
      → image Y (once M s) ≡ image Y (once M t)

  -- and an image tells all of a heap but its half, its size and the bytes that it is lent. Of any way to make an image, so that it
  -- can be held against a wrong one too: two sound states of one image are equal, where they are of one half and one length,
  abbrev pub TellsState : (State → Image) → Type 0
  TellsState image_of = (s t : State) → Sound Y s → Sound Y t → s.«record».half ≡ t.«record».half → length s.heap ≡ length t.heap
      → s.text ≡ t.text → image_of s ≡ image_of t → s ≡ t

  -- and, of whatever halves and lengths, stand for the same graphs
  abbrev pub TellsGraph : (State → Image) → Type 0
  TellsGraph image_of = (s t : State) (g : Graph) → Represents Y s g → Sound Y t → s.text ≡ t.text → image_of s ≡ image_of t
      → Represents Y t g
