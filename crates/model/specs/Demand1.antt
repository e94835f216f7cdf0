-- Demand 1: every public call answers on any words, roots and record; bad input gets the numbered refusal of document 01, in its
-- order; a refused call changes nothing, and only ROOM leaves the heap collected. The conditions are in Refusals.
-- That every call answers and ends is no statement here: the definitions are functions, and the code is proved to return.
use Rattle.std.specs.Prelude.{ℕ, ◌+◌, ◌≤◌, ◌≡◌, ◌⊎◌, ◌↔◌, List, [], ◌∷◌, Err}
use Rattle.model.specs.declared.Refusal.{Refusal}
use Rattle.model.specs.declared.Refusal.TheVariants as Why
use Rattle.model.specs.declared.Call.{Call}
use Rattle.model.specs.Words.{State}
use Rattle.model.specs.Headers.{Layout}
use Rattle.model.specs.Collection.{collected}
use Rattle.model.specs.Answers.{Outcome}
use Rattle.model.specs.Window.{window}
use Rattle.model.specs.Sessions.{Machine}
use Rattle.model.specs.Refusals.{Row, rank, fresh_rows, rows, window_rows}

-- k is the refusal of the first row that applies
abbrev pub First : List Row → Refusal → Type 0
First [] k = ⊥
First (q ∷ qs) k = (q.applies × (q.refusal ≡ k)) ⊎ ((q.applies → ⊥) × First qs k)

abbrev pub None : List Row → Type 0
None [] = Unit {0}
None (q ∷ qs) = (q.applies → ⊥) × None qs

-- the ranks rise along the rows, from n on, so that the first that applies is the one of the lowest rank
abbrev pub RisingFrom : ℕ → List Row → Type 0
RisingFrom n [] = Unit {0}
RisingFrom n (q ∷ qs) = (n ≤ rank q.refusal) × RisingFrom (rank q.refusal + 1) qs

-- what is answered, by whether it is the refusal k: the refusal of the first row that applies, and none exactly when none does
pub record Refuses (qs : List Row) (Answers : Refusal → Type 0) : Type 0 where
  pub exactly : (k : Refusal) → Answers k ↔ First qs k
  pub none : ((k : Refusal) → Answers k → ⊥) ↔ None qs

abbrev pub Refused : Outcome State → Refusal → Type 0
Refused o k = o.answer ≡ Err k

pub record Demand1 (Y : Layout) (M : Machine) : Type 0 where
  -- each session call, fresh, and the window
  pub session : (c : Call) (s : State) → Refuses (rows Y c s) (Refused (M.step c s))
  pub fresh : (s : State) → Refuses (fresh_rows s) (Refused (M.fresh s))
  pub opened : (r : ℕ) (s : State) → Refuses (window_rows Y r s) (λ k. window Y r s ≡ Err k)
  -- in the order of their ranks
  pub in_order : (c : Call) (s : State) → RisingFrom 0 (rows Y c s)
  pub in_order_opened : (r : ℕ) (s : State) → RisingFrom 0 (window_rows Y r s)
  -- what a refused call leaves
  pub keeps : (c : Call) (s : State) (k : Refusal) → Refused (M.step c s) k → (k ≡ Why.Room → ⊥) → (M.step c s).left ≡ s
  pub fresh_keeps : (s : State) (k : Refusal) → Refused (M.fresh s) k → (M.fresh s).left ≡ s
  pub collects : (c : Call) (s : State) → Refused (M.step c s) Why.Room → (M.step c s).left ≡ collected Y s
