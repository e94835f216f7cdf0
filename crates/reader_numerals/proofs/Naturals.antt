-- A number with no leading zero, and an integer: from the bytes before their digits to the place behind them.
use Prim.Native.Nat.{ℕ, ◌+◌, ◌-◌, ◌≤◌, ◌<◌}
use native.Mathlib.Omega.{arith}
use mathlib.Core.Path.{◌≡◌, refl, sym, ap, ◌∙◌}
use mathlib.Core.Logic.{⊎_elim}
use mathlib.Core.Bool.{Bool, true, false, cond}
use mathlib.Core.List.{List}
use lib.Dec.{eqb}
use lib.IntN.{ℤ, pos}
use lib.ListN.{length, get_or}
use borrow.Author.Tests.{lt-ltb, le-ltb, le-leb, lt-leb, ne_eqb, eq-eqb}
use Rattle.model.specs.declared.Refusal.TheVariants as Why
use Rattle.model.specs.Texts.{minus}
use Rattle.model.specs.Trees.{leaf}
use Rattle.model.specs.ReadFaults as Faults
use Rattle.model.specs.Reading.{Open, start, negated, digits, whole, Next, go, bad, is_digit, signed, most_digits}
use Rattle.theory.proofs.Tests.{by_test, decide, or-none}
use Rattle.reader_numerals.specs.Numerals.{rest, is_first, of_digits, Counted, first_digit, Awaits, NaturalRead, NoNatural, negative}
use Rattle.reader_numerals.specs.Numerals.{NumeralRead, NoNumeral}
use Rattle.reader_numerals.proofs.Steps.{step_to, step-bad, at-end, bad-stays}
use Rattle.reader_numerals.proofs.DigitRuns.{no_more, first_so_far}

-- ---- the first digit

first_low : (neg : Bool) (b : ℕ) (o : Open) → b ≤ 48 → first_digit neg b o ≡ bad Why.Value
first_low neg b o h =
    ⊎_elim
    (λ (l : b < 48). simp (lt-leb 48 b l))
    (λ (l : 48 ≤ b). let e : b ≡ 48 = omega arith in rw e)
    (decide b 48)

first-high : (neg : Bool) (b : ℕ) (o : Open) → 58 ≤ b → first_digit neg b o ≡ bad Why.Value
first-high neg b o h = simp (le-leb 48 b (omega arith), le-ltb b 58 h)

first_good : (neg : Bool) (b : ℕ) (o : Open) → is_first b → first_digit neg b o ≡ go (digits neg (b - 48) o)
first_good neg b o h =
    simp (le-leb 48 b (omega (arith, h.0)), lt-ltb b 58 h.1, ne_eqb b 48 (λ e. omega (arith, h.0)))

-- ---- a number with no leading zero

module _ (t : List ℕ) (from most : ℕ) where
  pub none_left : from ≡ length t → NoNatural t from most
  none_left e = record { stops = λ neg _ o x a. at-end t x from e ∙ a.ends }

  pub none_low : from < length t → get_or t from 0 ≤ 48 → NoNatural t from most
  none_low h l = record { stops = λ neg _ o x a. step-bad t x Why.Value from h (a.begins h ∙ first_low neg _ o l) }

  pub none-high : from < length t → 58 ≤ get_or t from 0 → NoNatural t from most
  none-high h l = record { stops = λ neg _ o x a. step-bad t x Why.Value from h (a.begins h ∙ first-high neg _ o l) }

  module _ (r n : ℕ) (h : from < length t) (l : is_first (get_or t from 0)) (counted : Counted t from r n) where
    on : (neg : Bool) (o : Open) (x : Next) → Awaits t from neg o x → rest t x from ≡ rest t (of_digits neg n o) r
    on neg o x a = step_to t x _ from h (a.begins h ∙ first_good neg _ o l) ∙ counted.leads neg o

    pub too_large : most < n → NoNatural t from most
    too_large big = record {
      stops = λ neg m o x a.
          on neg o x a
          ∙ ap (λ (q : Bool). rest t (cond q (bad Why.Value) (go (whole (leaf (signed neg n)) o))) r)
          (lt-ltb (most_digits neg) n (omega arith))
          ∙ bad-stays Why.Value _;
    }

    pub in_range : n ≤ most → NaturalRead t from most r n
    in_range small = record {
      beyond = counted.beyond;
      within = counted.within;
      small = small;
      leads = λ neg m o x a.
          on neg o x a
          ∙ ap (λ (q : Bool). rest t (cond q (bad Why.Value) (go (whole (leaf (signed neg n)) o))) r)
          (le-ltb (most_digits neg) n (omega arith));
    }

-- ---- an integer

pub signed-zero : (neg : Bool) → signed neg 0 ≡ pos 0
signed-zero true = refl
signed-zero false = refl

module _ (t : List ℕ) (at : ℕ) (h : at < length t) where
  -- no digit follows 0
  pub just_zero : (r : ℕ) → get_or t at 0 ≡ 48 → r ≡ at + 1 → NumeralRead t at r 0
  just_zero r e f = record {
    beyond = omega arith;
    within = omega arith;
    small = omega arith;
    leads = λ o.
        step_to t (go (start o)) (go (digits false 0 o)) at h (rw e)
        ∙ ap (λ (x : Next). rest t x (at + 1)) (first_so_far false 0 o (omega arith))
        ∙ no_more false 0 o t (at + 1) (omega arith) (λ _ _. refl)
        ∙ ap (λ (v : ℤ). rest t (go (whole (leaf v) o)) (at + 1)) (sym (signed-zero (negative t at)))
        ∙ ap (λ (i : ℕ). rest t (go (whole (leaf (signed (negative t at) 0)) o)) i) (sym f);
  }

  -- behind a sign or none
  module _ (from most : ℕ) (neg : Bool) (is : negative t at ≡ neg) (m : most ≡ most_digits neg)
      (behind : (o : Open) → (x : Next) × (Awaits t from neg o x) × (rest t (go (start o)) at ≡ rest t x from)) where
    none_behind : NoNatural t from most → NoNumeral t at
    none_behind none = record { stops = λ o. let b = behind o in b.2 ∙ none.stops neg m o b.0 b.1 }

    read_behind : at ≤ from → (r n : ℕ) → NaturalRead t from most r n → NumeralRead t at r n
    read_behind l r n q = record {
      beyond = omega (arith, q.beyond);
      within = q.within;
      small = rw (is, ← m) q.small;
      leads = λ o. let b = behind o in
          b.2 ∙ q.leads neg m o b.0 b.1
          ∙ ap (λ (s : Bool). rest t (go (whole (leaf (signed s n)) o)) r) (sym is);
    }

  module _ (p : (get_or t at 0 ≡ 126 → ⊥)) (z : get_or t at 0 ≡ 48 → ⊥) (k : Faults.opens (get_or t at 0) ≡ false) where
    plain : negative t at ≡ false
    plain = ne_eqb (get_or t at 0) minus p

    first : (o : Open) → (x : Next) × (Awaits t at false o x) × (rest t (go (start o)) at ≡ rest t x at)
    first o =
        let two = or-none (eqb (get_or t at 0) 40) (eqb (get_or t at 0) 123) k in (
          go (start o),
          record {
            begins = λ l.
                ⊎_elim
                (λ (d : is_digit (get_or t at 0) ≡ true). simp (d, ne_eqb (get_or t at 0) 48 z))
                (λ (d : is_digit (get_or t at 0) ≡ false). simp (d, plain, two.0, two.1))
                (by_test (is_digit (get_or t at 0)));
            ends = refl;
          },
          refl,
        )

    pub none_plain : NoNatural t at 1073741823 → NoNumeral t at
    none_plain = none_behind at 1073741823 false plain refl first

    pub read_plain : (r n : ℕ) → NaturalRead t at 1073741823 r n → NumeralRead t at r n
    read_plain = read_behind at 1073741823 false plain refl first (omega arith)

  module _ (p : get_or t at 0 ≡ 126) where
    signs : negative t at ≡ true
    signs = eq-eqb (get_or t at 0) minus p

    second : (o : Open) → (x : Next) × (Awaits t (at + 1) true o x) × (rest t (go (start o)) at ≡ rest t x (at + 1))
    second o = (
      go (negated o),
      record { begins = λ l. refl; ends = refl },
      step_to t (go (start o)) (go (negated o)) at h (rw p),
    )

    pub none_negative : NoNatural t (at + 1) 1073741824 → NoNumeral t at
    none_negative = none_behind (at + 1) 1073741824 true signs refl second

    pub read_negative : (r n : ℕ) → NaturalRead t (at + 1) 1073741824 r n → NumeralRead t at r n
    read_negative = read_behind (at + 1) 1073741824 true signs refl second (omega arith)
