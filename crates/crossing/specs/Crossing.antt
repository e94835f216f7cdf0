-- How numbers cross to the calls and back: what the helpers that every exported call shares answer.
-- The laws that join this to Numbers are in proofs/.
use Rattle.std.specs.Prelude.{ℕ, ◌+◌, ◌<◌, cond, eqb, Result, Ok, Err}
use Rattle.model.specs.declared.Half.TheVariants.{B}
use Rattle.model.specs.declared.Record.{Record}
use Rattle.model.specs.declared.Place.{Place}
use Rattle.model.specs.declared.Refusal.{Refusal}
use Rattle.model.specs.declared.Told.{Told}
use Rattle.numbers.specs.declared.seen.Seen.{Seen}
use Rattle.crossing.specs.declared.CRecord.{CRecord}
use Rattle.crossing.specs.Numbers.{no_half, numbers_of, record_of}

-- a record that no heap has: the free index 0 lies in no half, so that every call answers SHAPE
abbrev pub nowhere : Record
nowhere = record { half = B; free = record { 0 = 0 } }

-- the record to call with
abbrev pub taken : CRecord → Record
taken c = cond (no_half c) nowhere (record_of c)

-- the record to hand back, of the one that came and the one that the call returned
abbrev pub back : CRecord → Record → CRecord
back c q = cond (no_half c) c (numbers_of q)

-- and of fresh: where it refuses, the one that came, whatever its half
abbrev pub fresh_back : Told → CRecord → Record → CRecord
fresh_back t c q = cond (eqb t.refusal 0) (numbers_of q) c

-- a number that C's 32 bits hold
abbrev pub Narrow : ℕ → Type 0
Narrow n = n < 4_294_967_296

abbrev pub NarrowPlace : Result Place Refusal → Type 0
NarrowPlace (Ok p) = Narrow (p.header.0 + 1)
NarrowPlace (Err k) = Unit {0}

-- the two numbers that C gets in 16 bits each
abbrev pub NarrowSeen : Seen → Type 0
NarrowSeen s = (s.refusal < 65_536) × (s.holds < 65_536)
