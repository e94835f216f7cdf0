-- The roots renamed, and all of a collection, as functions of the heap and the roots. For any layout.
use Rattle.std.specs.Prelude.{ℕ, ◌+◌, ◌-◌, ◌≤◌, List, [], ◌∷◌, length}
use Rattle.model.specs.Words.{State, with_heap, with_roots, with_free, other}
use Rattle.model.specs.Headers.{Layout}
use Rattle.runs.specs.Runs.{cleared}
use Rattle.engine_moving.specs.declared.Tally.{Tally}
use Rattle.engine_moving.specs.Moving.{Left, none_met, counted, MayCount, renamed, MayRename}
use Rattle.engine_scanning.specs.Scanning.{After, between, run, SafeRun}

-- what is left: the heap, the roots, and the next free word; and what was met
pub record Emptied : Type 0 where
  pub heap : List ℕ
  pub roots : List ℕ
  pub free : ℕ
  pub tally : Tally

abbrev pub emptied : List ℕ → List ℕ → ℕ → Tally → Emptied
emptied h rs f t = record { heap = h; roots = rs; free = f; tally = t }

-- the state with that, in the other half
abbrev pub moved_to : State → Emptied → State
moved_to s e = with_free (other s.«record».half) e.free (with_roots e.roots (with_heap e.heap s))

-- a root more in front
abbrev pub root_first : ℕ → Emptied → Emptied
root_first w e = emptied e.heap (w ∷ e.roots) e.free e.tally

module _ (Y : Layout) where
  -- the roots renamed, by rising number
  unfoldable pub rooted : List ℕ → List ℕ → ℕ → Tally → Emptied
  rooted h [] f t = emptied h [] f t
  rooted h (w ∷ rs) f t =
      let l : Left = renamed Y h w f in
      root_first l.word (rooted l.heap rs l.free (counted t l.met))

  unfoldable pub SafeRoots : List ℕ → List ℕ → ℕ → Tally → Type 0
  SafeRoots h [] f t = Unit {0}
  SafeRoots h (w ∷ rs) f t =
      let l : Left = renamed Y h w f in
      MayRename Y h w f × MayCount t × SafeRoots l.heap rs l.free (counted t l.met)

  -- the roots renamed, then at most p words of the copies passed
  unfoldable pub scanned : ℕ → ℕ → Emptied → After
  scanned p new e = run Y p e.heap (between new e.free e.tally)

  -- all of it: roots, scan, the used words of the old half cleared. No scan is longer than the heap.
  unfoldable pub evacuated : List ℕ → List ℕ → ℕ → ℕ → ℕ → Emptied
  evacuated h rs old used new =
      let e = rooted h rs new none_met in
      let a = scanned (length e.heap - new) new e in
      emptied (cleared a.heap old used) e.roots a.scan.free a.scan.tally

  abbrev pub SafeScan : ℕ → Emptied → Type 0
  SafeScan new e = SafeRun Y (length e.heap - new) e.heap (between new e.free e.tally)

  pub record SafeEvacuation (h rs : List ℕ) (old used new : ℕ) : Type 0 where
    pub roots : SafeRoots h rs new none_met
    pub scan : SafeScan new (rooted h rs new none_met)
    pub within : old + used ≤ length h
