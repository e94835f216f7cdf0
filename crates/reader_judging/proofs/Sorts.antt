-- How a value is read by its first byte: nothing, an integer, a tuple that may be opened or not.
use Prim.Native.Nat.{ℕ, ◌+◌, ◌-◌, ◌≤◌, ◌<◌}
use native.Mathlib.Omega.{arith}
use native.Mathlib.Nat.{pos_of_ne-zero}
use mathlib.Core.Path.{◌≡◌, refl, sym, subst, ◌∙◌}
use mathlib.Core.Logic.{⊎_elim}
use mathlib.Core.Bool.{true, false}
use mathlib.Core.List.{List}
use lib.Dec.{eqb}
use lib.ListN.{length, get_or}
use borrow.Author.Tests.{le-leb, lt-leb, eqb-true}
use Rattle.model.specs.declared.Refusal.{Refusal}
use Rattle.model.specs.declared.Refusal.TheVariants as Why
use Rattle.model.specs.Texts.{max_depth}
use Rattle.model.specs.Trees.{leaf}
use Rattle.model.specs.ReadFaults as Faults
use Rattle.model.specs.Reading.{Open, height, Mode, start, opened, Next, go, bad, signed}
use Rattle.model.specs.Reading.{begin, onward, stopped, broken}
use Rattle.theory.proofs.Tests.{decide, or_cases}
use Rattle.std.specs.Prelude.{Option, Some, None, MatchOption}
use Rattle.reader_numerals.specs.Numerals.{rest, negative, NumeralRead, NoNumeral}
use Rattle.reader_judging.specs.declared.values.Found.{Found}
use Rattle.reader_judging.specs.Places.{Stuck, Whole, Refuses, Reads}
use Rattle.reader_numerals.proofs.Steps.{step_to, step-bad, at-end}

-- what no byte that stands at a place may follow
pub missing : (t : List ℕ) (x : Next) (at : ℕ) → at ≤ length t → stopped x ≡ broken Why.Value
    → (at < length t → onward max_depth x (get_or t at 0) ≡ bad Why.Value) → rest t x at ≡ broken Why.Value
missing t x at within e f =
    ⊎_elim
    (λ (h : at < length t). step-bad t x Why.Value at h (f h))
    (λ (h : length t ≤ at). at-end t x at (omega arith) ∙ e)
    (decide at (length t))

-- one answer's promise from another's
pub answered : {A : Type 0} {P P' : Type 0} {Q Q' : A → Type 0} (r : Option A) → (P → P') → ((x : A) → Q x → Q' x) → MatchOption r P Q → MatchOption r P' Q'
answered None f g h = f h
answered (Some x) f g h = g x h

-- nothing was answered, and why is noted
pub refused : (m : Open → Mode) (s d : ℕ) (t : List ℕ) (at w : ℕ) (r : Option ℕ) (f : Found) (k : Refusal) → Refuses m s d t at k → r ≡ None
    → f.why ≡ k → Reads m s d t at w r f
refused m s d t at w r f k none e g =
    let noted = subst (λ (j : Refusal). Refuses m s d t at j) (sym g) none in
    rw e noted

begin-deep : (o : Open) (b : ℕ) → Faults.opens b ≡ true → max_depth ≤ height o → begin max_depth o b ≡ bad Why.Deep
begin-deep o b e h =
    ⊎_elim
    (λ (p : eqb b 40 ≡ true). rw (eqb-true b 40 p, le-leb max_depth (height o) h))
    (λ (p : eqb b 123 ≡ true). rw (eqb-true b 123 p, le-leb max_depth (height o) h))
    (or_cases (eqb b 40) (eqb b 123) e)

begin-paren : (o : Open) (b : ℕ) → b ≡ 40 → height o < max_depth → begin max_depth o b ≡ go (opened o)
begin-paren o b e h = rw (e, lt-leb max_depth (height o) h)

-- of the two openers, the other
pub opener-brace : (b : ℕ) → Faults.opens b ≡ true → (b ≡ 40 → ⊥) → b ≡ 123
opener-brace b k z =
    ⊎_elim
    (λ (p : eqb b 40 ≡ true). absurd (z (eqb-true b 40 p)))
    (λ (p : eqb b 123 ≡ true). eqb-true b 123 p)
    (or_cases (eqb b 40) (eqb b 123) k)

module _ (d : ℕ) (t : List ℕ) (at : ℕ) where
  pub nothing : at ≡ length t → Refuses start 0 d t at Why.Value
  nothing e = record { stops = λ o q. at-end t (go (start o)) at e }

  pub no_integer : NoNumeral t at → Refuses start 0 d t at Why.Value
  no_integer none = record { stops = λ o q. none.stops o }

  pub an_integer : (w r n : ℕ) → Faults.opens (get_or t at 0) ≡ false → NumeralRead t at r n → Whole start 0 d t at w r w
  an_integer w r n k q = record {
    stood = leaf (signed (negative t at) n);
    beyond = q.beyond;
    within = q.within;
    words = omega arith;
    words_fit = omega (arith, q.beyond);
    alone = λ _. (refl, k);
    leads = λ o _. q.leads o;
  }

  pub too_deep : at < length t → Faults.opens (get_or t at 0) ≡ true → d ≡ 0 → Refuses start 0 d t at Why.Deep
  too_deep h k e = record {
    stops = λ o q. step-bad t (go (start o)) Why.Deep at h (begin-deep o (get_or t at 0) k (omega arith));
  }

  -- "{" where no tuple of one field begins
  pub stuck : at < length t → Faults.opens (get_or t at 0) ≡ true → (get_or t at 0 ≡ 40 → ⊥) → (d ≡ 0 → ⊥) → Stuck t at d
      → Refuses start 0 d t at Why.Value
  stuck h k z some s =
      let more = pos_of_ne-zero some in
      record { stops = λ o q. s.stuck more h (opener-brace (get_or t at 0) k z) o (omega arith) }

  -- what is opened is a tuple, by its first byte
  pub a_tuple : at < length t → (d ≡ 0 → ⊥) → get_or t at 0 ≡ 40 → (w : ℕ) (r : Option ℕ) (f : Found) → Reads opened 1 (d - 1) t (at + 1) w r f
      → Reads start 0 d t at w r f
  a_tuple h some b w r f =
      let more = pos_of_ne-zero some in
      answered r
      (λ read. record { stops = λ o q. step_to t (go (start o)) (go (opened o)) at h (begin-paren o _ b (omega arith)) ∙ read.stops o (omega arith) })
      (λ p y. record {
        stood = y.stood;
        beyond = omega (arith, y.beyond);
        within = y.within;
        words = y.words;
        words_fit = omega (arith, y.words_fit);
        alone = λ e. absurd (omega (arith, (y.alone e).0));
        leads = λ o q. step_to t (go (start o)) (go (opened o)) at h (begin-paren o _ b (omega arith)) ∙ y.leads o (omega arith);
      })
