-- One word passed: its three cases, and what each keeps.
use Prim.Native.Nat.{ℕ, ◌+◌, ◌-◌, ◌≤◌}
use native.Mathlib.Omega.{arith}
use mathlib.Core.Path.{◌≡◌, refl, sym, ap, ◌∙◌}
use mathlib.Core.List.{List}
use lib.ListN.{length, length-set}
use lib.Seq.{set-get_or}
use lib.Dec.{eqb}
use borrow.Author.Tests.{eq-eqb, ne_eqb}
use Rattle.model.specs.Words.{at}
use Rattle.model.specs.Headers.{Layout}
use Rattle.std.proofs.lemmas.Bool.{cond_both}
use Rattle.engine_moving.specs.declared.Met.TheVariants.{Plain}
use Rattle.engine_moving.specs.Moving.{Left, left, renamed}
use Rattle.engine_scanning.specs.Scanning.{Scan, After, stepped, kept, onward, values_of, raws_of, field_passed, passed}
use Rattle.engine_moving.proofs.MovingLaws.{renamed-length, renamed-free, renamed_nothing}

module _ (Y : Layout) where
  -- ---- the field at i

  module _ (h : List ℕ) (i f : ℕ) where
    -- a field that named no object need not be written
    pub field_plain : (l : Left) → l ≡ renamed Y h (at h i) f → l.met ≡ Plain
        → stepped l.heap l.free l.met ≡ field_passed Y h i f
    field_plain l e p =
        let n : renamed Y h (at h i) f ≡ left h (at h i) f Plain = renamed_nothing Y h (at h i) f (ap (λ (x : Left). x.met) (sym e) ∙ p) in
        rw (e, n) (ap (λ (x : List ℕ). stepped x f Plain) (sym (set-get_or h i 0)))

  -- ---- the word at the scan's place

  module _ (h : List ℕ) (c : Scan) where
    pub passed-header : c.values ≡ 0 → c.raws ≡ 0
        → passed Y h c ≡ onward c (values_of Y (at h c.at)) (raws_of Y (at h c.at)) (kept h c)
    unfolding passed
    passed-header v r = rw (eq-eqb c.values 0 v, eq-eqb c.raws 0 r)

    pub passed-raw : c.values ≡ 0 → (c.raws ≡ 0 → ⊥) → passed Y h c ≡ onward c 0 (c.raws - 1) (kept h c)
    unfolding passed
    passed-raw v r = rw (eq-eqb c.values 0 v, ne_eqb c.raws 0 r)

    pub passed-value : (c.values ≡ 0 → ⊥)
        → passed Y h c ≡ onward c (c.values - 1) c.raws (field_passed Y h c.at c.free)
    unfolding passed
    passed-value v = rw (ne_eqb c.values 0 v)

  -- what every word's passing keeps
  pub record Keeps (h : List ℕ) (c : Scan) (a : After) : Type 0 where
    pub same : length a.heap ≡ length h
    pub next : a.scan.at ≡ c.at + 1
    pub grows : c.free ≤ a.scan.free

  pub passed-keeps : (h : List ℕ) (c : Scan) → Keeps h c (passed Y h c)
  unfolding passed
  passed-keeps h c =
      cond_both (eqb c.values 0) _ _ (Keeps h c)
      (λ v. cond_both (eqb c.raws 0) _ _ (Keeps h c)
      (λ r. record { same = refl; next = refl; grows = omega arith })
      (λ r. record { same = refl; next = refl; grows = omega arith }))
      (λ v. record {
        same = simp length-set (renamed-length Y h (at h c.at) c.free);
        next = refl;
        grows = renamed-free Y h (at h c.at) c.free;
      })
