-- The image of a heap: the words of its objects and its roots, apart from its half and its size. Document 02, Q-5: "people compare heap
-- images in tests".
use Rattle.std.specs.Prelude.{ℕ, ◌-◌, cond, List, map}
use Rattle.model.specs.Words.{State, first_word}
use Rattle.model.specs.Values.{is_address}
use Rattle.model.specs.Headers.{Layout}
use Rattle.model.specs.Objects.{index}
use Rattle.model.specs.Discovery.{packed}
use Rattle.model.specs.Soundness.{headers}
use Rattle.model.specs.Collection.{Cell, still, value, cells}

-- a word of an image: `word w`, a header, a raw word, or a value that is no address, as it stands in the heap; or `offset k`, the
-- address of the object whose header stands k words past the half's first word. So the half's first object is not taken for null.
pub data ImageWord : Type 0 where
  word : ℕ → ImageWord
  offset : ℕ → ImageWord

pub record Image : Type 0 where
  pub words : List ImageWord
  pub roots : List ImageWord

module _ (Y : Layout) where
  -- a value, and a word of an object, in a half whose first word is b
  unfoldable pub image_value : ℕ → ℕ → ImageWord
  image_value b w = cond (is_address w) (offset (index Y w - b)) (word w)

  abbrev pub image_cell : ℕ → Cell → ImageWord
  image_cell b (still w) = word w
  image_cell b (value w) = image_value b w

  -- the words of the used part, object by object, and the roots
  unfoldable pub image : State → Image
  image s = record {
    words = map (image_cell (first_word s)) (packed (cells Y s.heap) (headers Y s));
    roots = map (image_value (first_word s)) s.roots;
  }
