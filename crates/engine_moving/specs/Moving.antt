-- What the collector's first steps do, as functions: one object moved, one word renamed, and what it led to counted. For any layout.
use Rattle.std.specs.Prelude.{ℕ, ◌+◌, ◌≤◌, ◌<◌, ◌≡◌, true, cond, List, length, set}
use Rattle.model.specs.Limits.{max_words, max_half, max_roots}
use Rattle.model.specs.Words.{at}
use Rattle.model.specs.Values.{is_address}
use Rattle.model.specs.Headers.{Layout}
use Rattle.model.specs.Objects.{address, index, size}
use Rattle.runs.specs.Runs.{copied_run, Apart}
use Rattle.engine_moving.specs.declared.Met.{Met}
use Rattle.engine_moving.specs.declared.Met.TheVariants.{Plain, Copied, Found}
use Rattle.engine_moving.specs.declared.Tally.{Tally}

-- what renaming leaves: the heap, the new word, the next free index, and what the word led to
pub record Left : Type 0 where
  pub heap : List ℕ
  pub word : ℕ
  pub free : ℕ
  pub met : Met

abbrev pub left : List ℕ → ℕ → ℕ → Met → Left
left h w f m = record { heap = h; word = w; free = f; met = m }

-- nothing met
abbrev pub none_met : Tally
none_met = record { copied = 0; found = 0 }

-- and with what one more word led to
abbrev pub counted : Tally → Met → Tally
counted t Plain = t
counted t Copied = record { copied = t.copied + 1; found = t.found }
counted t Found = record { copied = t.copied; found = t.found + 1 }

-- the object addresses met: each was copied or found
abbrev pub addresses_met : Tally → ℕ
addresses_met t = t.copied + t.found

-- a collection meets no more of them than it is lent roots and passes words
abbrev pub MayCount : Tally → Type 0
MayCount t = addresses_met t < max_roots + max_half

module _ (Y : Layout) where
  -- the object at i copied to f, and its header the mark of the copy's address
  abbrev pub moved : List ℕ → ℕ → ℕ → List ℕ
  moved h i f = set (copied_run h i f (size Y h i)) i (Y.mark (address Y f))

  unfoldable pub relocated : List ℕ → ℕ → ℕ → Left
  relocated h i f =
      cond (Y.is_header (at h i))
      (left (moved h i f) (address Y f) (f + size Y h i) Copied)
      (left h (Y.unmark (at h i)) f Found)

  unfoldable pub renamed : List ℕ → ℕ → ℕ → Left
  renamed h w f = cond (is_address w) (relocated h (index Y w) f) (left h w f Plain)

  -- what keeps a move inside the heap and off the object, and the copy's address inside a word
  pub record MayMove (h : List ℕ) (i f : ℕ) : Type 0 where
    pub within : i < length h
    pub whole : Y.is_header (at h i) ≡ true → i + size Y h i ≤ length h
    pub fits : Y.is_header (at h i) ≡ true → f + size Y h i ≤ length h
    pub apart : Y.is_header (at h i) ≡ true → Apart i f (size Y h i)
    pub near : f ≤ max_words

  abbrev pub MayRename : List ℕ → ℕ → ℕ → Type 0
  MayRename h w f = is_address w ≡ true → MayMove h (index Y w) f
