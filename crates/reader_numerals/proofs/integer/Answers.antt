-- `reader_numerals::integer` meets its contract.
use native.Mathlib.Omega.{arith}
use Rattle.reader_numerals.proofs.Naturals.{just_zero, none_plain, read_plain, none_negative, read_negative}
use Rattle.std.specs.Prelude.{Option, Some, None, MatchOption}
use Rattle.reader_numerals.proofs.integer.Goals as goal

-- one answer's promise from another's
answered : {A : Type 0} {P P' : Type 0} {Q Q' : A → Type 0} (o : Option A) → (P → P') → ((x : A) → Q x → Q' x) → MatchOption o P Q → MatchOption o P' Q'
answered None f g h = f h
answered (Some x) f g h = g x h

pub returns-in-48 : goal.returns-in-48
returns-in-48 c = just_zero _ _ c.requires.0 _ c.in-48.is (omega arith)

pub returns-in-126 : goal.returns-in-126
returns-in-126 c =
    answered c.natural.result (none_negative _ _ c.requires.0 c.in-126.is)
    (λ r. read_negative _ _ c.requires.0 c.in-126.is r.end r.number) c.natural.ensures

pub returns-in_default : goal.returns-in_default
returns-in_default c =
    answered c.natural-in_default.result (none_plain _ _ c.requires.0 (λ e. omega arith) (λ e. omega arith) c.requires.1)
    (λ r. read_plain _ _ c.requires.0 (λ e. omega arith) (λ e. omega arith) c.requires.1 r.end r.number) c.natural-in_default.ensures
