-- The roots renamed, then any number of words passed: each leaves a state midway in the collection, and is safe.
use Prim.Native.Nat.{ℕ, zero, suc, ◌+◌, ◌≤◌, ◌<◌, zero-le}
use native.Mathlib.Nat.{add-zero}
use native.Mathlib.Omega.{arith}
use mathlib.Core.Path.{◌≡◌, refl, sym, ap, subst}
use mathlib.Core.Logic.{◌⊎◌, inl, inr, ⊎_elim}
use mathlib.Core.Bool.{true}
use mathlib.Core.List.{List, [], ◌∷◌, map}
use mathlib.Core.Option.{Option}
use lib.ListN.{length}
use Rattle.model.specs.Limits.{max_roots}
use Rattle.model.specs.Words.{State, at, other_first}
use Rattle.model.specs.Headers.{Layout, Marks}
use Rattle.model.specs.Discovery.{visit, visits, packed, found}
use Rattle.model.specs.Soundness.{headers, is_value}
use Rattle.model.specs.Collection.{Cell, addresses_in, cells, word_leads, order_at, rename}
use Rattle.theory.proofs.Tests.{decide}
use Rattle.theory.proofs.Members.{In, in-nil}
use Rattle.theory.proofs.Visits.{visits_starts, visit_has}
use Rattle.theory.proofs.Counting.{meetings, meets_most, word_meets}
use Rattle.theory.proofs.Shape.{other_in}
use Rattle.theory.proofs.Soundness.{SoundTests}
use Rattle.theory.proofs.Values.{leads-address, value-header}
use Rattle.theory.proofs.During.{rename_stable, order-step}
use Rattle.theory.proofs.Middle.{distinct_fits}
use Rattle.engine_moving.specs.declared.Tally.{Tally}
use Rattle.engine_moving.specs.Moving.{none_met, counted, addresses_met, renamed}
use Rattle.engine_scanning.specs.Scanning.{Scan, between, After, passed, run, MayPass, SafeRun}
use Rattle.engine.specs.Evacuation.{Emptied, rooted, SafeRoots}
use Rattle.engine_scanning.proofs.RunLaws.{run-done, run_step}
use Rattle.engine.proofs.Midway.{Midway}
use Rattle.engine.proofs.Renaming.{renames}
use Rattle.engine.proofs.Passing.{Scans, turn}

-- what the roots' loop leaves, where o is then the order and t was met before it
pub record Rooted (Y : Layout) (s : State) (t : Tally) (o : List ℕ) (rs : List ℕ) (e : Emptied) : Type 0 where
  pub mid : Midway Y s o 0 e.heap
  pub free : e.free ≡ other_first s + length (packed (cells Y s.heap) o)
  pub roots : e.roots ≡ map (rename Y s.heap o (other_first s)) rs
  pub copied : e.tally.copied ≡ length o
  pub met : addresses_met e.tally ≡ addresses_met t + addresses_in rs

-- at most n words further than p: n words, or all that there are
pub record Reached (Y : Layout) (s : State) (n p : ℕ) (a : After) : Type 0 where
  pub place : ℕ
  pub upto : place ≤ p + n
  pub whole : (place ≡ p + n) ⊎ (length (packed (cells Y s.heap) (order_at Y s place)) ≤ place)
  pub scans : Scans Y s (order_at Y s place) place a.heap a.scan

module _ (Y : Layout) (K : Marks Y) (s : State) (v : SoundTests Y s) where
  abbrev H : List ℕ
  H = s.heap

  abbrev t : ℕ
  t = other_first s

  abbrev P : List ℕ → List Cell
  P o = packed (cells Y s.heap) o

  -- ---- the roots

  begins : Midway Y s [] 0 s.heap
  unfolding packed
  begins = record {
    same = refl;
    kept = λ x out m. refl;
    mark = λ x m. in-nil x m;
    done = λ j l. absurd (omega arith);
    todo = λ j l b. v.idle (t + j) (omega arith) (omega arith);
    named = λ j i l e. absurd (omega arith);
    heads = λ x m. in-nil x m;
    once = tt;
    ahead = zero-le;
  }

  roots-all : (rs o h : List ℕ) (m : Tally) → Midway Y s o 0 h → m.copied ≡ length o
      → addresses_met m + length rs ≤ max_roots
      → ((r : ℕ) → r < length rs → is_value Y (headers Y s) (at rs r) ≡ true)
      → SafeRoots Y h rs (t + length (P o)) m
      × Rooted Y s m (visits o (map (word_leads Y) rs)) rs (rooted Y h rs (t + length (P o)) m)
  unfolding SafeRoots rooted visits addresses_in
  roots-all [] o h m M c b g = (tt, record { mid = M; free = refl; roots = refl; copied = c; met = omega arith })
  roots-all (w ∷ rs) o h m M c b g =
      let o₁ = visit o (word_leads Y w) in
      let F = renames Y K s v o 0 h M w
      (λ i e. let q = leads-address Y w i e in subst (λ (x : ℕ). In x (headers Y s)) q.1
      (value-header Y (headers Y s) w (g 0 (omega arith)) q.0)) in
      let m₁ = counted m (renamed Y h w (t + length (P o))).met in
      let i = roots-all rs o₁ (renamed Y h w (t + length (P o))).heap m₁ F.mid (F.copied m c)
      (omega (arith, F.met m, meets_most (word_leads Y w))) (λ r l. g (suc r) (omega arith)) in
      let stay : rename Y H (visits o₁ (map (word_leads Y) rs)) t w ≡ rename Y H o₁ t w =
      rename_stable Y H o₁ (visits o₁ (map (word_leads Y) rs)) t w (visits_starts o₁ (map (word_leads Y) rs))
      (λ j e. subst (λ (l : Option ℕ). In j (visit o l)) (sym e) (visit_has o j)) in
      rw F.free (
        (F.may, omega arith, i.0),
        record {
          mid = i.1.mid;
          free = i.1.free;
          roots = rw (F.word, ← stay) (ap (λ (y : List ℕ). rename Y H (visits o₁ (map (word_leads Y) rs)) t w ∷ y) i.1.roots);
          copied = i.1.copied;
          met = omega (arith, i.1.met, F.met m, word_meets Y w);
        },
      )

  abbrev e : Emptied
  e = rooted Y s.heap s.roots (other_first s) none_met

  started : SafeRoots Y H s.roots t none_met × Rooted Y s none_met (visits [] (map (word_leads Y) s.roots)) s.roots
      (rooted Y s.heap s.roots (other_first s) none_met)
  unfolding packed
  started =
      subst (λ (f : ℕ). SafeRoots Y H s.roots f none_met
      × Rooted Y s none_met (visits [] (map (word_leads Y) s.roots)) s.roots (rooted Y H s.roots f none_met)) (add-zero t)
      (roots-all s.roots [] H none_met begins refl (omega (arith, v.shape.few)) v.roots)

  pub safe-roots : SafeRoots Y H s.roots t none_met
  safe-roots = started.0

  order-start : order_at Y s 0 ≡ visits [] (map (word_leads Y) s.roots)
  unfolding order_at found
  order-start = refl

  pub after-roots : Rooted Y s none_met (order_at Y s 0) s.roots e
  after-roots = subst (λ (o : List ℕ). Rooted Y s none_met o s.roots e) (sym order-start) started.1

  -- before any word is passed
  pub scan_starts : Scans Y s (order_at Y s 0) 0 e.heap (between t e.free e.tally)
  unfolding packed meetings
  scan_starts = record {
    mid = after-roots.mid;
    stands = sym (add-zero t);
    free = after-roots.free;
    gone = [];
    rest = order_at Y s 0;
    cursor =
        record { split = refl; stands = refl; fields = λ d l. absurd (omega arith); others = λ d l. absurd (omega arith) };
    copied = after-roots.copied;
    met = omega (arith, after-roots.met);
  }

  -- ---- the scan

  step : (p : ℕ) (h : List ℕ) (c : Scan) → Scans Y s (order_at Y s p) p h c → c.at < c.free
      → MayPass Y h c × Scans Y s (order_at Y s (suc p)) (suc p) (passed Y h c).heap (passed Y h c).scan
  step p h c I m =
      let u = turn Y K s v (order_at Y s p) p h c I m in
      (u.0, subst (λ (o : List ℕ). Scans Y s o (suc p) (passed Y h c).heap (passed Y h c).scan) (sym (order-step Y s v p)) u.1)

  -- a slice of n words, from any place
  pub slice : (n p : ℕ) (h : List ℕ) (c : Scan) → Scans Y s (order_at Y s p) p h c → Reached Y s n p (run Y n h c)
  unfolding run
  slice zero p h c I = record { place = p; upto = omega arith; whole = inl (sym (add-zero p)); scans = I }
  slice (suc n) p h c I =
      ⊎_elim
      (λ (m : c.at < c.free).
      let r = slice n (suc p) (passed Y h c).heap (passed Y h c).scan (step p h c I m).1 in
      subst (Reached Y s (suc n) p) (sym (run_step Y n h c m))
      (record {
        place = r.place;
        upto = omega (arith, r.upto);
        whole =
            ⊎_elim (λ (q : r.place ≡ suc p + n). inl (omega arith))
            (λ (q : length (packed (cells Y s.heap) (order_at Y s r.place)) ≤ r.place). inr q) r.whole;
        scans = r.scans;
      }))
      (λ (m : c.free ≤ c.at).
      subst (Reached Y s (suc n) p) (sym (run-done Y (suc n) h c m))
      (record { place = p; upto = omega arith; whole = inr (omega (arith, I.stands, I.free)); scans = I }))
      (decide c.at c.free)

  room : (p : ℕ) (h : List ℕ) (c : Scan) → Scans Y s (order_at Y s p) p h c → c.free ≤ length h
  room p h c I =
      omega (
        arith,
        I.free,
        distinct_fits Y s v (order_at Y s p) I.mid.heads I.mid.once,
        I.mid.same,
        other_in s v.shape,
      )

  pub safe_slice : (n p : ℕ) (h : List ℕ) (c : Scan) → Scans Y s (order_at Y s p) p h c → SafeRun Y n h c
  unfolding SafeRun
  safe_slice zero p h c I = room p h c I
  safe_slice (suc n) p h c I = (
    room p h c I,
    λ m. let u = step p h c I m in (u.0, safe_slice n (suc p) (passed Y h c).heap (passed Y h c).scan u.1),
  )
