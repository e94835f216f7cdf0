-- Demand 2: a collection keeps exactly one copy of each reachable object and of nothing else; fields and sharing agree; the
-- copies are packed in the order in which they are met; the answer is the words of the reachable objects, their number, and that of
-- the object addresses in roots and in their fields.
use Rattle.std.specs.Prelude.{ℕ, suc, ◌+◌, ◌≤◌, ◌<◌, ◌≡◌, ◌⊎◌, true, length, get_or, take, Ok}
use mathlib.Core.List.{List, [], ◌∷◌, ◌++◌, map, Memᴰ}
use Rattle.model.specs.declared.Kind.TheVariants.{Traced, Untraced}
use Rattle.model.specs.declared.Counts.{Counts}
use Rattle.model.specs.declared.Answer.TheVariants as Says
use Rattle.model.specs.declared.Call.TheVariants as Ask
use Rattle.model.specs.Words.{State, at, other, first_word, other_first, free}
use Rattle.model.specs.Values.{is_odd, is_null, is_address, is_code}
use Rattle.model.specs.Headers.{Layout}
use Rattle.model.specs.Objects.{address, index, kind, field_count, size, field_index}
use Rattle.model.specs.Discovery.{visits, packed, words_before}
use Rattle.model.specs.Soundness.{headers}
use Rattle.model.specs.Collection.{addresses_in, cells, word_leads, cell_leads, order, addresses_among}
use Rattle.model.specs.Changes.{root_word}
use Rattle.model.specs.Sessions.{Machine}
use Rattle.model.specs.Conditions.{Sound}

-- no number twice: two places that hold the same are one
abbrev pub EachOnce : List ℕ → Type 0
EachOnce o = (k l : ℕ) → k < length o → l < length o → get_or o k 0 ≡ get_or o l 0 → k ≡ l

-- a list of exactly the numbers that are P, each once
pub record Lists (P : ℕ → Type 0) (o : List ℕ) : Type 0 where
  pub once : EachOnce o
  pub listed : (i : ℕ) → Memᴰ i o → P i
  pub reached : (i : ℕ) → P i → Memᴰ i o

module _ (Y : Layout) where
  -- an object is reachable: a root holds its address, or a field of a reachable traced object does
  pub data Reach (s : State) : ℕ → Type 0 where
    from_root : (r : ℕ) → r < length s.roots → is_address (root_word s r) ≡ true → Reach s (index Y (root_word s r))
    from_field : (i f : ℕ) → Reach s i → kind Y s.heap i ≡ Traced → f < field_count Y s.heap i
        → is_address (at s.heap (field_index i f)) ≡ true → Reach s (index Y (at s.heap (field_index i f)))

  -- at most d fields away from a root
  pub data Near (s : State) : ℕ → ℕ → Type 0 where
    by_root : (r d : ℕ) → r < length s.roots → is_address (root_word s r) ≡ true → Near s d (index Y (root_word s r))
    by_field : (i f d : ℕ) → Near s d i → kind Y s.heap i ≡ Traced → f < field_count Y s.heap i
        → is_address (at s.heap (field_index i f)) ≡ true → Near s (suc d) (index Y (at s.heap (field_index i f)))

  -- the sum of n + 1
  abbrev pub sizes : List ℕ → List ℕ → ℕ
  sizes H [] = 0
  sizes H (i ∷ o) = size Y H i + sizes H o

  -- a list of objects is that of the first meetings, along the roots by rising number and then along the fields of the objects
  -- of that very list
  abbrev pub FirstMeetings : State → List ℕ → Type 0
  FirstMeetings s o = o ≡ visits [] (map (word_leads Y) s.roots ++ map (cell_leads Y) (packed (cells Y s.heap) o))

  -- the index of the copy of the object at i
  abbrev pub copy_index : State → ℕ → ℕ
  copy_index s i = other_first s + words_before (cells Y s.heap) (order Y s) i

  -- a word and what it became: integers, null and code words stay, an object's address is its copy's
  pub record Became (s : State) (w w' : ℕ) : Type 0 where
    pub integer : is_odd w ≡ true → w' ≡ w
    pub null : is_null w ≡ true → w' ≡ w
    pub code : is_code w ≡ true → w' ≡ w
    pub moves : is_address w ≡ true → w' ≡ address Y (copy_index s (index Y w))

  -- a state, and what its collection leaves with the numbers that it answers
  pub record Collects (s s' : State) (n : Counts) : Type 0 where
    -- the order lists exactly the reachable objects, each once
    pub lists : Lists (Reach s) (order Y s)
    -- it is the first meetings, and no other list of reachable objects is
    pub met : FirstMeetings s (order Y s)
    pub only : (o : List ℕ) → FirstMeetings s o → ((i : ℕ) → Memᴰ i o → Reach s i) → o ≡ order Y s
    -- it is breadth-first: what stands earlier is no farther from the roots
    pub breadth : (k l d : ℕ) → k ≤ l → l < length (order Y s) → Near s d (get_or (order Y s) l 0) → Near s d (get_or (order Y s) k 0)
    -- the objects of the new half are exactly their copies, packed in that order
    pub copies : headers Y s' ≡ map (copy_index s) (order Y s)
    pub packs : (k : ℕ) → k < length (order Y s)
        → copy_index s (get_or (order Y s) k 0) ≡ other_first s + sizes s.heap (take k (order Y s))
    -- headers, fields and roots agree
    pub header : (i : ℕ) → Reach s i → at s'.heap (copy_index s i) ≡ at s.heap i
    pub raw_field : (i f : ℕ) → Reach s i → kind Y s.heap i ≡ Untraced → f < field_count Y s.heap i
        → at s'.heap (field_index (copy_index s i) f) ≡ at s.heap (field_index i f)
    pub value_field : (i f : ℕ) → Reach s i → kind Y s.heap i ≡ Traced → f < field_count Y s.heap i
        → Became s (at s.heap (field_index i f)) (at s'.heap (field_index (copy_index s i) f))
    pub root_count : length s'.roots ≡ length s.roots
    pub root : (r : ℕ) → r < length s.roots → Became s (root_word s r) (root_word s' r)
    -- and so does sharing: two copies are one only of one object
    pub shared : (i j : ℕ) → Reach s i → Reach s j → copy_index s i ≡ copy_index s j → i ≡ j
    -- the same length, the other half, and all words but the copies 0
    pub same_length : length s'.heap ≡ length s.heap
    pub other_half : s'.«record».half ≡ other s.«record».half
    pub cleared : (i : ℕ) → (i < first_word s') ⊎ (free s' ≤ i) → at s'.heap i ≡ 0
    -- and no byte of a text that is lent
    pub same_text : s'.text ≡ s.text
    -- of whatever list of exactly the reachable objects, each once: L is the sum of n + 1, the objects are its length, and the
    -- addresses are those in the fields of its traced objects and in the roots
    pub live : (o : List ℕ) → Lists (Reach s) o → n.live ≡ sizes s.heap o
    pub objects : (o : List ℕ) → Lists (Reach s) o → n.objects ≡ length o
    pub addresses : (o : List ℕ) → Lists (Reach s) o → n.addresses ≡ addresses_in s.roots + addresses_among Y s.heap o
    -- L is the free index less the half's first word
    pub used : free s' ≡ first_word s' + n.live
    -- and it can be collected again
    pub again : Sound Y s'

  -- of the call: its answer is these numbers, and it leaves that
  pub record CollectsBy (M : Machine) (s : State) : Type 0 where
    pub counts : Counts
    pub answers : (M.step Ask.Collect s).answer ≡ Ok (Says.Live counts)
    pub leaves : Collects s (M.step Ask.Collect s).left counts

  -- for every sound state
  abbrev pub Demand2 : Machine → Type 0
  Demand2 M = (s : State) → Sound Y s → CollectsBy M s

  -- and this leaves no choice: what meets it is one state and the same three numbers
  abbrev pub NoChoice : Type 0
  NoChoice = (s t t' : State) (n n' : Counts) → Collects s t n → Collects s t' n' → (t ≡ t') × (n ≡ n')
