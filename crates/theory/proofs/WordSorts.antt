-- Words by their tests: every word is an integer's, null, a code word or an address, and no word is two of these.
use Prim.Native.Nat.{ℕ, ◌%◌, ◌≤◌, ◌<◌}
use native.Mathlib.Omega.{arith}
use mathlib.Core.Path.{◌≡◌}
use mathlib.Core.Logic.{⊎_elim}
use mathlib.Core.Bool.{true, false, not, ◌&&◌}
use lib.Dec.{ltb, leb, eqb}
use borrow.Author.Tests.{ltb-true, leb-true, eqb-true, eqb-false, eq-eqb, ne_eqb, lt-ltb, le-ltb, le-leb, not-true}
use Rattle.model.specs.Demand2 as D
use Rattle.model.specs.Headers.{Layout}
use Rattle.model.specs.Limits.{code_floor}
use Rattle.model.specs.Values.{is_odd, is_null, is_address, is_code}
use Rattle.model.specs.Words.{State}
use Rattle.theory.proofs.Tests.{by_test, never, and_both, decide}

-- ---- addresses: even, not 0, below the floor

pub address_parts : (w : ℕ) → is_address w ≡ true → (w % 2 ≡ 0) × (w ≡ 0 → ⊥) × (w < code_floor)
address_parts w e =
    let b = and_both (eqb (w % 2) 0 && not (is_null w)) (ltb w code_floor) e in
    let a = and_both (eqb (w % 2) 0) (not (is_null w)) b.0 in
    (eqb-true (w % 2) 0 a.0, eqb-false w 0 (not-true (is_null w) a.1), ltb-true w code_floor b.1)

pub parts_address : (w : ℕ) → w % 2 ≡ 0 → (w ≡ 0 → ⊥) → w < code_floor → is_address w ≡ true
parts_address w e n l = rw (eq-eqb (w % 2) 0 e, ne_eqb w 0 n, lt-ltb w code_floor l)

pub odd_no_address : (w : ℕ) → w % 2 ≡ 1 → is_address w ≡ false
odd_no_address w o = rw (ne_eqb (w % 2) 0 (λ e. omega arith))

-- ---- code words: even, from the floor up

pub code_parts : (w : ℕ) → is_code w ≡ true → (w % 2 ≡ 0) × (code_floor ≤ w)
code_parts w e =
    let a = and_both (eqb (w % 2) 0) (leb code_floor w) e in
    (eqb-true (w % 2) 0 a.0, leb-true code_floor w a.1)

pub parts_code : (w : ℕ) → w % 2 ≡ 0 → code_floor ≤ w → is_code w ≡ true
parts_code w e l = rw (eq-eqb (w % 2) 0 e, le-leb code_floor w l)

pub code_no_address : (w : ℕ) → is_code w ≡ true → is_address w ≡ false
code_no_address w c =
    let p = code_parts w c in
    rw (eq-eqb (w % 2) 0 p.0, ne_eqb w 0 (λ e. let l = p.1 in omega arith), le-ltb w code_floor p.1)

pub address_no_code : (w : ℕ) → is_address w ≡ true → is_code w ≡ false
address_no_code w a =
    ⊎_elim (λ (c : is_code w ≡ true). never a (code_no_address w c)) (λ (c : is_code w ≡ false). c) (by_test (is_code w))

-- ---- each word is one of the four

pub other-address : (w : ℕ) → is_odd w ≡ false → is_null w ≡ false → is_code w ≡ false → is_address w ≡ true
other-address w e f c =
    let o : w % 2 ≡ 1 → ⊥ = eqb-false (w % 2) 1 e in
    let even : w % 2 ≡ 0 = omega arith in
    ⊎_elim
    (λ (l : w < code_floor). parts_address w even (eqb-false w 0 f) l)
    (λ (l : code_floor ≤ w). never (parts_code w even l) c)
    (decide w code_floor)

-- a word that is no address stays in a collection
pub became_stays : (Y : Layout) (s : State) (w w' : ℕ) → D.Became Y s w w' → is_address w ≡ false → w' ≡ w
became_stays Y s w w' b p =
    ⊎_elim (λ (o : is_odd w ≡ true). b.integer o)
    (λ (o : is_odd w ≡ false).
    ⊎_elim (λ (n : is_null w ≡ true). b.null n)
    (λ (n : is_null w ≡ false).
    ⊎_elim (λ (c : is_code w ≡ true). b.code c)
    (λ (c : is_code w ≡ false). never (other-address w o n c) p)
    (by_test (is_code w)))
    (by_test (is_null w)))
    (by_test (is_odd w))
