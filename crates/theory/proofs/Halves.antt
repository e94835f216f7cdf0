-- The halves put together again, and a run with zeros after it, word by word.
use Prim.Native.Nat.{ℕ, suc, ◌+◌, ◌-◌, ◌≤◌, ◌<◌}
use native.Mathlib.Omega.{arith}
use native.Mathlib.Nat.{add_comm}
use native.Mathlib.Numerals.{one-add}
use mathlib.Core.Path.{◌≡◌, refl, sym, ap, ◌∙◌}
use mathlib.Core.List.{List}
use lib.ListN.{length, replicate, length-append, length-replicate, get_or-replicate, get_or-append}
use lib.Seq.{get_or-append-add}
use Rattle.model.specs.declared.Half.{Half}
use Rattle.model.specs.declared.Half.TheVariants.{A, B}
use Rattle.model.specs.Collection.{build, filled}
use Rattle.model.specs.Words.{at, other, first_of}

-- the halves of a heap that is put together
pub other-other : (h : Half) → other (other h) ≡ h
other-other A = refl
other-other B = refl

pub build-length : (h : Half) (new old : List ℕ) → length (build h new old) ≡ suc (length new + length old)
build-length A new old = ap suc (length-append new old)
build-length B new old = ap suc (length-append old new ∙ add_comm (length old) (length new))

pub build_new : (h : Half) (S m : ℕ) (new old : List ℕ) → length new ≡ S → length old ≡ S → m < S
    → at (build h new old) (first_of S h + m) ≡ at new m
build_new A S m new old n o l = rw one-add (get_or-append new old 0 m (omega arith))
build_new B S m new old n o l =
    let e : S + 1 + m ≡ suc (length old + m) = omega arith in
    rw e (get_or-append-add old new m 0)

pub build_old : (h : Half) (S m : ℕ) (new old : List ℕ) → length new ≡ S → length old ≡ S → m < S
    → at (build h new old) (first_of S (other h) + m) ≡ at old m
build_old A S m new old n o l =
    let e : S + 1 + m ≡ suc (length new + m) = omega arith in
    rw e (get_or-append-add new old m 0)
build_old B S m new old n o l = rw one-add (get_or-append old new 0 m (omega arith))

pub filled-length : (S : ℕ) (ws : List ℕ) → length ws ≤ S → length (filled S ws) ≡ S
filled-length S ws l = rw (length-append, length-replicate) (omega arith)

pub filled_in : (S m : ℕ) (ws : List ℕ) → m < length ws → at (filled S ws) m ≡ at ws m
filled_in S m ws l = get_or-append ws (replicate (S - length ws) 0) 0 m l

pub filled_out : (S m : ℕ) (ws : List ℕ) → length ws ≤ m → m < S → at (filled S ws) m ≡ 0
filled_out S m ws l k =
    let e : length ws + (m - length ws) ≡ m = omega arith in
    ap (λ x. at (filled S ws) x) (sym e) ∙ get_or-append-add ws (replicate (S - length ws) 0) (m - length ws) 0
    ∙ get_or-replicate (S - length ws) (m - length ws) 0 0 (omega arith)
