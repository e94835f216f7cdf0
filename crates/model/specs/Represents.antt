-- When a heap stands for an object graph: the objects of the graph that it keeps have a header each, and fields and roots agree.
-- Where these lie, in which order, and what garbage lies between them is free.
use Rattle.std.specs.Prelude.{ℕ, ◌<◌, ◌≡◌, Bool, true, List, length, get_or}
use Rattle.model.specs.declared.Kind.TheVariants.{Traced, Untraced}
use Rattle.model.specs.Words.{State, at}
use Rattle.model.specs.Values.{is_code, in_range, tag}
use Rattle.model.specs.Headers.{Layout}
use Rattle.model.specs.Objects.{address, kind, field_count, field_index}
use Rattle.model.specs.Discovery.{mem}
use Rattle.model.specs.Soundness.{headers}
use Rattle.model.specs.Changes.{root_word}
use Rattle.model.specs.Conditions.{Sound}
use Rattle.model.specs.Graph.{Plain, integer, null, code, Value, plain, object, Object, traced, untraced, Graph, nth, root_value}

-- the word of a plain value, and which values have one
abbrev pub plain_word : Plain → ℕ
plain_word (integer v) = tag v
plain_word null = 0
plain_word (code w) = w

abbrev pub has_word : Plain → Bool
has_word (integer v) = in_range v
has_word null = true
has_word (code w) = is_code w

module _ (Y : Layout) where
  -- a value and its word, where the objects `kept` have their headers at the indexes that `header_of` gives
  abbrev pub Encodes : List ℕ → (ℕ → ℕ) → Value → ℕ → Type 0
  Encodes kept header_of (plain p) w = (has_word p ≡ true) × (w ≡ plain_word p)
  Encodes kept header_of (object x) w = (mem x kept ≡ true) × (w ≡ address Y (header_of x))

  -- an object, and the words from its header's index i on: its kind, its field count and each field
  abbrev pub Holds : List ℕ → (ℕ → ℕ) → List ℕ → Object → ℕ → Type 0
  Holds kept header_of H (traced vs) i =
      (kind Y H i ≡ Traced) × (field_count Y H i ≡ length vs)
      × ((f : ℕ) → f < length vs → Encodes kept header_of (get_or vs f (plain null)) (at H (field_index i f)))
  Holds kept header_of H (untraced ws) i =
      (kind Y H i ≡ Untraced) × (field_count Y H i ≡ length ws)
      × ((f : ℕ) → f < length ws → at H (field_index i f) ≡ get_or ws f 0)

  pub record Represents (s : State) (g : Graph) : Type 0 where
    pub ok : Sound Y s
    -- the objects of the graph that the heap keeps, the reachable ones among them, and the index of each one's header
    pub kept : List ℕ
    pub header_of : ℕ → ℕ
    pub known : (x : ℕ) → mem x kept ≡ true → x < length g.objects
    -- a header of the tiling each, and two objects have two
    pub head : (x : ℕ) → mem x kept ≡ true → mem (header_of x) (headers Y s) ≡ true
    pub apart : (x y : ℕ) → mem x kept ≡ true → mem y kept ≡ true → header_of x ≡ header_of y → x ≡ y
    -- roots and fields agree
    pub count : length s.roots ≡ length g.roots
    pub roots : (r : ℕ) → r < length g.roots → Encodes kept header_of (root_value g r) (root_word s r)
    pub holds : (x : ℕ) → mem x kept ≡ true → Holds kept header_of s.heap (nth g x) (header_of x)
    -- and so do the bytes that are lent
    pub text : s.text ≡ g.text
