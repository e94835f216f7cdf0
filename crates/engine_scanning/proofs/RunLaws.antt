-- Words passed one after the other: how a run goes on, and that it may be cut where all of its first part is passed.
use Prim.Native.Nat.{ℕ, zero, suc, ◌+◌, ◌≤◌, ◌<◌}
use native.Mathlib.Nat.{zero-add, suc-add, add-zero}
use native.Mathlib.Omega.{arith}
use mathlib.Core.Path.{◌≡◌, refl, sym, ap, ◌∙◌, subst}
use mathlib.Core.Logic.{⊎_elim}
use mathlib.Core.List.{List}
use lib.ListN.{length}
use borrow.Author.Tests.{lt-ltb, le-ltb}
use Rattle.model.specs.Headers.{Layout}
use Rattle.theory.proofs.Tests.{decide}
use Rattle.engine_scanning.specs.Scanning.{Scan, After, after, passed, run, MayPass, SafeRun}
use Rattle.engine_scanning.proofs.PassingLaws.{passed-keeps}

module _ (Y : Layout) where
  pub run-done : (n : ℕ) (h : List ℕ) (c : Scan) → c.free ≤ c.at → run Y n h c ≡ after h c
  unfolding run
  run-done zero h c d = refl
  run-done (suc n) h c d = rw (le-ltb c.at c.free d)

  pub run_step : (n : ℕ) (h : List ℕ) (c : Scan) → c.at < c.free
      → run Y (suc n) h c ≡ run Y n (passed Y h c).heap (passed Y h c).scan
  unfolding run
  run_step n h c d = rw (lt-ltb c.at c.free d)

  pub safe-room : (n : ℕ) (h : List ℕ) (c : Scan) → SafeRun Y n h c → c.free ≤ length h
  unfolding SafeRun
  safe-room zero h c s = s
  safe-room (suc n) h c s = s.0

  safe-step : (n : ℕ) (h : List ℕ) (c : Scan) → c.at < c.free → SafeRun Y (suc n) h c
      → MayPass Y h c × SafeRun Y n (passed Y h c).heap (passed Y h c).scan
  unfolding SafeRun
  safe-step n h c d s = s.1 d

  -- a first word passed, from what it leaves
  module _ (h : List ℕ) (c : Scan) (more : c.at < c.free) (n k : ℕ) (first : n ≡ suc k) where
    pub turn_may : SafeRun Y n h c → MayPass Y h c
    turn_may s = (safe-step k h c more (rw first at s)).0

    module _ (a : After) (e : a ≡ passed Y h c) where
      pub turn_run : run Y k a.heap a.scan ≡ run Y n h c
      turn_run =
          ap (λ (x : After). run Y k x.heap x.scan) e ∙ sym (run_step k h c more)
          ∙ ap (λ (x : ℕ). run Y x h c) (sym first)

      pub turn_safe : SafeRun Y n h c → SafeRun Y k a.heap a.scan
      turn_safe s = subst (λ (x : After). SafeRun Y k x.heap x.scan) (sym e) (safe-step k h c more (rw first at s)).1

  -- ---- n words that lie before the free words are all passed

  still_before : (n : ℕ) (h : List ℕ) (c : Scan) → c.at + suc n ≤ c.free
      → (passed Y h c).scan.at + n ≤ (passed Y h c).scan.free
  still_before n h c l = let k = passed-keeps Y h c in omega (arith, k.next, k.grows)

  pub run_at : (n : ℕ) (h : List ℕ) (c : Scan) → c.at + n ≤ c.free → (run Y n h c).scan.at ≡ c.at + n
  unfolding run
  run_at zero h c l = sym (add-zero c.at)
  run_at (suc n) h c l =
      ap (λ (x : After). x.scan.at) (run_step n h c (omega arith))
      ∙ run_at n (passed Y h c).heap (passed Y h c).scan (still_before n h c l)
      ∙ omega (arith, (passed-keeps Y h c).next)

  -- a run is its first n words, then the others
  pub run-cut : (n m : ℕ) (h : List ℕ) (c : Scan) → c.at + n ≤ c.free
      → run Y (n + m) h c ≡ run Y m (run Y n h c).heap (run Y n h c).scan
  unfolding run
  run-cut zero m h c l = ap (λ (k : ℕ). run Y k h c) (zero-add m)
  run-cut (suc n) m h c l =
      ap (λ (k : ℕ). run Y k h c) (suc-add n m) ∙ run_step (n + m) h c (omega arith)
      ∙ run-cut n m (passed Y h c).heap (passed Y h c).scan (still_before n h c l)
      ∙ ap (λ (a : After). run Y m a.heap a.scan) (sym (run_step n h c (omega arith)))

  pub safe-first : (n m : ℕ) (h : List ℕ) (c : Scan) → SafeRun Y (n + m) h c → SafeRun Y n h c
  unfolding SafeRun
  safe-first zero m h c s = safe-room (0 + m) h c s
  safe-first (suc n) m h c s =
      let t : SafeRun Y (suc (n + m)) h c = rw suc-add at s in (
        safe-room (suc (n + m)) h c t,
        λ d. let u = safe-step (n + m) h c d t in
            (u.0, safe-first n m (passed Y h c).heap (passed Y h c).scan u.1),
      )

  pub safe-rest : (n m : ℕ) (h : List ℕ) (c : Scan) → c.at + n ≤ c.free → SafeRun Y (n + m) h c
      → SafeRun Y m (run Y n h c).heap (run Y n h c).scan
  unfolding run
  safe-rest zero m h c l s = subst (λ (k : ℕ). SafeRun Y k h c) (zero-add m) s
  safe-rest (suc n) m h c l s =
      let d : c.at < c.free = omega arith in
      let t : SafeRun Y (suc (n + m)) h c = subst (λ (k : ℕ). SafeRun Y k h c) (suc-add n m) s in
      subst (λ (a : After). SafeRun Y m a.heap a.scan) (sym (run_step n h c d))
      (safe-rest n m (passed Y h c).heap (passed Y h c).scan (still_before n h c l) (safe-step (n + m) h c d t).1)

  pub run_length : (n : ℕ) (h : List ℕ) (c : Scan) → length (run Y n h c).heap ≡ length h
  unfolding run
  run_length zero h c = refl
  run_length (suc n) h c =
      ⊎_elim
      (λ (d : c.at < c.free).
      ap (λ (a : After). length a.heap) (run_step n h c d) ∙ run_length n (passed Y h c).heap (passed Y h c).scan
      ∙ (passed-keeps Y h c).same)
      (λ (d : c.free ≤ c.at). ap (λ (a : After). length a.heap) (run-done (suc n) h c d))
      (decide c.at c.free)
