-- The scan of the copies as a function of the heap, one word at a time. For any layout.
-- The code passes a whole object at once: that is as many words of this.
use Rattle.std.specs.Prelude.{ℕ, zero, suc, ◌+◌, ◌-◌, ◌≤◌, ◌<◌, ◌≡◌, cond, List, ltb, eqb, length, set}
use Rattle.model.specs.Words.{at}
use Rattle.model.specs.Headers.{Layout}
use Rattle.model.specs.Objects.{is_traced, size}
use Rattle.engine_moving.specs.declared.Met.{Met}
use Rattle.engine_moving.specs.declared.Met.TheVariants.{Plain}
use Rattle.engine_moving.specs.declared.Tally.{Tally}
use Rattle.engine_scanning.specs.declared.Passed.{Passed}
use Rattle.engine_moving.specs.Moving.{Left, counted, MayCount, renamed, MayRename}

-- where the scan stands: the next word; how many values, and then how many raw words, are left of the object that it is in;
-- the next free word; and what was met so far
pub record Scan : Type 0 where
  pub at : ℕ
  pub values : ℕ
  pub raws : ℕ
  pub free : ℕ
  pub tally : Tally

abbrev pub scan : ℕ → ℕ → ℕ → ℕ → Tally → Scan
scan i v r f t = record { at = i; values = v; raws = r; free = f; tally = t }

-- between two objects
abbrev pub between : ℕ → ℕ → Tally → Scan
between i f t = scan i 0 0 f t

abbrev pub stands : Passed → Scan
stands p = between p.next.0 p.swept.free.0 p.swept.tally

-- what passing leaves: the heap and where the scan stands
pub record After : Type 0 where
  pub heap : List ℕ
  pub scan : Scan

abbrev pub after : List ℕ → Scan → After
after h c = record { heap = h; scan = c }

-- the heap, the next free word and what was met alone
pub record Sweep : Type 0 where
  pub heap : List ℕ
  pub free : ℕ
  pub tally : Tally

abbrev pub swept : List ℕ → ℕ → Tally → Sweep
swept h f t = record { heap = h; free = f; tally = t }

abbrev pub ended : After → Sweep
ended a = swept a.heap a.scan.free a.scan.tally

-- what one word leaves: the heap, the next free word, and what it led to
pub record Step : Type 0 where
  pub heap : List ℕ
  pub free : ℕ
  pub met : Met

abbrev pub stepped : List ℕ → ℕ → Met → Step
stepped h f m = record { heap = h; free = f; met = m }

-- a word is written where it was read
abbrev pub stored : ℕ → Left → Step
stored i l = stepped (set l.heap i l.word) l.free l.met

-- a word that is no value leads to nothing
abbrev pub kept : List ℕ → Scan → Step
kept h c = stepped h c.free Plain

-- the scan goes one word on
abbrev pub onward : Scan → ℕ → ℕ → Step → After
onward c v r x = after x.heap (scan (c.at + 1) v r x.free (counted c.tally x.met))

module _ (Y : Layout) where
  -- the values and the raw words that follow a header
  abbrev pub values_of : ℕ → ℕ
  values_of w = cond (is_traced (Y.kind_of w)) (Y.count_of w) 0

  abbrev pub raws_of : ℕ → ℕ
  raws_of w = cond (is_traced (Y.kind_of w)) 0 (Y.count_of w)

  -- the field at i renamed
  abbrev pub field_passed : List ℕ → ℕ → ℕ → Step
  field_passed h i f = stored i (renamed Y h (at h i) f)

  -- one word passed: a value, a raw word, or the header of the next object
  unfoldable pub passed : List ℕ → Scan → After
  passed h c =
      cond (eqb c.values 0)
      (cond (eqb c.raws 0)
      (onward c (values_of (at h c.at)) (raws_of (at h c.at)) (kept h c))
      (onward c 0 (c.raws - 1) (kept h c)))
      (onward c (c.values - 1) c.raws (field_passed h c.at c.free))

  -- at most n words passed: the scan ends where it meets the free words
  unfoldable pub run : ℕ → List ℕ → Scan → After
  run zero h c = after h c
  run (suc n) h c = let r : After = run n (passed h c).heap (passed h c).scan in cond (ltb c.at c.free) r (after h c)

  -- what keeps a word's passing inside the heap
  pub record MayPass (h : List ℕ) (c : Scan) : Type 0 where
    -- an object that the scan comes to lies before the free words
    pub whole : c.values ≡ 0 → c.raws ≡ 0 → c.at + size Y h c.at ≤ c.free
    -- what a value leads to may be moved, and counted
    pub moves : (c.values ≡ 0 → ⊥) → MayRename Y h (at h c.at) c.free
    pub counts : (c.values ≡ 0 → ⊥) → MayCount c.tally

  -- the free words lie in the heap, and each word that is passed may be
  unfoldable pub SafeRun : ℕ → List ℕ → Scan → Type 0
  SafeRun zero h c = c.free ≤ length h
  SafeRun (suc n) h c = (c.free ≤ length h) × (c.at < c.free → MayPass h c × SafeRun n (passed h c).heap (passed h c).scan)

  -- the same for a field, for the n fields of an object, and for an object
  pub record MayPassField (h : List ℕ) (i f : ℕ) : Type 0 where
    pub within : i < length h
    pub moves : MayRename Y h (at h i) f

  pub record MayPassFields (h : List ℕ) (i n f : ℕ) (t : Tally) : Type 0 where
    pub whole : i + n ≤ f
    pub safe : SafeRun n h (scan i n 0 f t)

  pub record MayPassObject (h : List ℕ) (i f : ℕ) (t : Tally) : Type 0 where
    pub before : i < f
    pub safe : SafeRun (size Y h i) h (between i f t)
