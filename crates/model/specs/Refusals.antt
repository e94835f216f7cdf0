-- Document 01's table of refusals, with document 02's rows: each row with its condition, stated apart from the calls' definitions,
-- and for each call the rows that it can meet, in their order. Demand1 says that a call gives the first that applies. The numbers
-- are names; the order is by `rank`.
use Rattle.std.specs.Prelude.{ℕ, ◌+◌, ◌%◌, ◌≤◌, ◌<◌, ◌≡◌, ◌⊎◌, length, ℤ, pos, negsuc}
use mathlib.Core.List.{List, [], ◌∷◌, Memᴰ}
use Rattle.model.specs.declared.Kind.{Kind}
use Rattle.model.specs.declared.Kind.TheVariants.{Traced, Untraced}
use Rattle.model.specs.declared.Refusal.{Refusal}
use Rattle.model.specs.declared.Refusal.TheVariants as Why
use Rattle.model.specs.declared.Call.{Call}
use Rattle.model.specs.declared.Call.TheVariants as Ask
use Rattle.model.specs.Limits.{max_fields, max_integer, code_floor}
use Rattle.model.specs.Words.{State}
use Rattle.model.specs.Headers.{Layout}
use Rattle.model.specs.Objects.{index, kind, field_count}
use Rattle.model.specs.Collection.{collected}
use Rattle.model.specs.Changes.{root_word, spare}
use Rattle.model.specs.Conditions.{BadLength, BadShape, Names, Sound}
use Rattle.model.specs.TextFaults.{Fault}
use Rattle.model.specs.Trees.{Tree, tree_words}
use Rattle.model.specs.ReadFaults.{IsText, ReadFault}

-- a refusal, and when it applies
pub record Row : Type 1 where
  pub refusal : Refusal
  pub applies : Type 0

abbrev pub row : Refusal → Type 0 → Row
row k p = record { refusal = k; applies = p }

-- the order in which refusals are given: of several that apply, the one of the lowest rank
abbrev pub rank : Refusal → ℕ
rank Why.Shape = 0
rank Why.Root = 1
rank Why.Count = 2
rank Why.Range = 3
rank Why.Object = 4
rank Why.Kind = 5
rank Why.Field = 6
rank Why.Value = 7
rank Why.Deep = 8
rank Why.Text = 9
rank Why.Damaged = 10
rank Why.Room = 11

-- ---- the conditions: those of SHAPE, `Names` and `Sound` are in Conditions

-- 2: a root number named is not below the number of roots
abbrev pub NoRoot : State → List ℕ → Type 0
NoRoot s named = (r : ℕ) × Memᴰ r named × (length s.roots ≤ r)

-- 4: an integer lies outside the range
abbrev pub OutOfRange : ℤ → Type 0
OutOfRange (pos n) = max_integer < n
OutOfRange (negsuc n) = max_integer < n

-- or a word to be set as a code word is odd or below the floor
abbrev pub NoCode : ℕ → Type 0
NoCode w = (w % 2 ≡ 1) ⊎ (w < code_floor)

-- 8 and 9: a collection is called for, where the words needed do not fit: n + 1 for an object of n fields
abbrev pub Short : ℕ → State → Type 0
Short n s = spare s < n

abbrev pub CalledFor : ℕ → State → Type 0
CalledFor n s = Short (n + 1) s

module _ (Y : Layout) (s : State) where
  -- 5: the root that must name an object does not; for inspect, its word is even, not 0, below the floor and names none
  abbrev pub NoObject : ℕ → Type 0
  NoObject r = Names Y s (root_word s r) → ⊥

  pub record NoValue (r : ℕ) : Type 0 where
    pub even : root_word s r % 2 ≡ 0
    pub not_null : root_word s r ≡ 0 → ⊥
    pub below_floor : root_word s r < code_floor
    pub names_none : NoObject r

  -- 6: a traced call on an untraced object, or the reverse
  abbrev pub OtherKind : Kind → ℕ → Type 0
  OtherKind k r = Names Y s (root_word s r) × (kind Y s.heap (index Y (root_word s r)) ≡ k → ⊥)

  -- 7: the field number is n or more
  abbrev pub NoField : ℕ → ℕ → Type 0
  NoField r f = Names Y s (root_word s r) × (field_count Y s.heap (index Y (root_word s r)) ≤ f)

  abbrev pub Unsound : Type 0
  Unsound = Sound Y s → ⊥

-- of faults that have places: the one at the least place, and at that place of the lowest rank
pub record FirstFault (Faults : ℕ → Refusal → Type 0) (k : Refusal) : Type 0 where
  pub place : ℕ
  pub is_fault : Faults place k
  pub first : (p : ℕ) (j : Refusal) → Faults p j → (place < p) ⊎ ((place ≡ p) × (rank k ≤ rank j))

abbrev pub fault_row : (ℕ → Refusal → Type 0) → Refusal → Row
fault_row Faults k = row k (FirstFault Faults k)

-- ---- the rows of each call

-- the root numbers that a call names
abbrev pub roots_named : Call → List ℕ
roots_named Ask.Collect = []
roots_named Ask.Check = []
roots_named (Ask.Allocate kind fields to) = to ∷ []
roots_named (Ask.SetInteger to value) = to ∷ []
roots_named (Ask.SetNull to) = to ∷ []
roots_named (Ask.SetCode to word) = to ∷ []
roots_named (Ask.Copy from to) = from ∷ to ∷ []
roots_named (Ask.Load object field to) = object ∷ to ∷ []
roots_named (Ask.Store object field from) = object ∷ from ∷ []
roots_named (Ask.RawRead object field) = object ∷ []
roots_named (Ask.RawWrite object field number) = object ∷ []
roots_named (Ask.Same one other) = one ∷ other ∷ []
roots_named (Ask.Inspect root) = root ∷ []
roots_named (Ask.Write root) = root ∷ []
roots_named (Ask.Read to) = to ∷ []

-- fresh, which gives only the heap-length part of SHAPE
abbrev pub fresh_rows : State → List Row
fresh_rows s = row Why.Shape (BadLength s) ∷ []

-- every other call gives SHAPE and ROOT first, and then its own
abbrev pub admitted_rows : List ℕ → State → List Row → List Row
admitted_rows named s own = row Why.Shape (BadShape s) ∷ row Why.Root (NoRoot s named) ∷ own

module _ (Y : Layout) where
  abbrev pub field_rows : Kind → ℕ → ℕ → State → List Row
  field_rows k r f s =
      row Why.Object (NoObject Y s r) ∷ row Why.Kind (OtherKind Y s k r) ∷ row Why.Field (NoField Y s r f) ∷ []

  abbrev pub own_rows : Call → State → List Row
  own_rows Ask.Collect s = row Why.Damaged (Unsound Y s) ∷ []
  own_rows Ask.Check s = []
  own_rows (Ask.Allocate kind fields to) s =
      row Why.Count (max_fields < fields) ∷ row Why.Damaged (CalledFor fields s × Unsound Y s)
      ∷ row Why.Room (CalledFor fields s × CalledFor fields (collected Y s)) ∷ []
  own_rows (Ask.SetInteger to value) s = row Why.Range (OutOfRange value) ∷ []
  own_rows (Ask.SetNull to) s = []
  own_rows (Ask.SetCode to word) s = row Why.Range (NoCode word) ∷ []
  own_rows (Ask.Copy from to) s = []
  own_rows (Ask.Load object field to) s = field_rows Traced object field s
  own_rows (Ask.Store object field from) s = field_rows Traced object field s
  own_rows (Ask.RawRead object field) s = field_rows Untraced object field s
  own_rows (Ask.RawWrite object field number) s = field_rows Untraced object field s
  own_rows (Ask.Same one other) s = []
  own_rows (Ask.Inspect root) s = row Why.Object (NoValue Y s root) ∷ []
  own_rows (Ask.Read to) s =
      fault_row (ReadFault s.text) Why.Value ∷ fault_row (ReadFault s.text) Why.Deep
      ∷ row Why.Damaged ((t : Tree) × IsText s.text t × Short (tree_words t) s × Unsound Y s)
      ∷ row Why.Room ((t : Tree) × IsText s.text t × Short (tree_words t) s × Short (tree_words t) (collected Y s)) ∷ []
  own_rows (Ask.Write root) s =
      fault_row (Fault Y s root) Why.Object ∷ fault_row (Fault Y s root) Why.Value
      ∷ fault_row (Fault Y s root) Why.Deep ∷ fault_row (Fault Y s root) Why.Text ∷ []

  abbrev pub rows : Call → State → List Row
  rows c s = admitted_rows (roots_named c) s (own_rows c s)

  -- the window, which beside the session names a root too
  abbrev pub window_rows : ℕ → State → List Row
  window_rows r s = admitted_rows (r ∷ []) s (row Why.Object (NoObject Y s r) ∷ [])
