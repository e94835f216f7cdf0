-- What a call may look at, of any machine. Document 01: same, set and copy look at no heap word; a load or store looks only at the
-- object it names; raw words never enter a root.
use Rattle.std.specs.Prelude.{ℕ, ◌<◌, ◌≡◌, true, ℤ, length}
use mathlib.Core.List.{List, Memᴰ}
use Rattle.model.specs.declared.Kind.TheVariants.{Traced}
use Rattle.model.specs.declared.Call.{Call}
use Rattle.model.specs.declared.Call.TheVariants as Ask
use Rattle.model.specs.Words.{State, with_heap, at, free}
use Rattle.model.specs.Values.{is_code, in_range, tag}
use Rattle.model.specs.Headers.{Layout}
use Rattle.model.specs.Objects.{address, index, kind, field_count, field_index}
use Rattle.model.specs.Soundness.{headers}
use Rattle.model.specs.Collection.{collected}
use Rattle.model.specs.Answers.{Outcome}
use Rattle.model.specs.Changes.{root_word}
use Rattle.model.specs.Window.{window, shown}
use Rattle.model.specs.Sessions.{Machine}
use Rattle.model.specs.Conditions.{Sound}
use Rattle.model.specs.Demand2.{Became}
use Rattle.model.specs.Trees.{leaf}
use Rattle.model.specs.ReadFaults.{IsText}

-- what a call looks at of the heap: no word, the object that a root names, or any word
pub data Sight : Type 0 where
  no_word : Sight
  object_of : ℕ → Sight
  any_word : Sight

abbrev pub sight : Call → Sight
sight Ask.Collect = any_word
sight Ask.Check = any_word
sight (Ask.Allocate _ _ _) = any_word
sight (Ask.SetInteger _ _) = no_word
sight (Ask.SetNull _) = no_word
sight (Ask.SetCode _ _) = no_word
sight (Ask.Copy _ _) = no_word
sight (Ask.Load object _ _) = object_of object
sight (Ask.Store object _ _) = object_of object
sight (Ask.RawRead object _) = object_of object
sight (Ask.RawWrite object _ _) = object_of object
sight (Ask.Same _ _) = no_word
sight (Ask.Inspect root) = object_of root
sight (Ask.Write _) = any_word
sight (Ask.Read _) = any_word

-- the same answer, roots, record and bytes
pub record Alike (o o' : Outcome State) : Type 0 where
  pub answer : o.answer ≡ o'.answer
  pub roots : o.left.roots ≡ o'.left.roots
  pub «record» : o.left.«record» ≡ o'.left.«record»
  pub text : o.left.text ≡ o'.left.text

module _ (Y : Layout) where
  -- another heap agrees with that of s on the object whose header stands at i: its header and its fields
  pub record AgreeAt (s : State) (H : List ℕ) (i : ℕ) : Type 0 where
    pub header : at H i ≡ at s.heap i
    pub fields : (f : ℕ) → f < field_count Y s.heap i → at H (field_index i f) ≡ at s.heap (field_index i f)

  -- and on all that is looked at
  abbrev pub Agrees : State → List ℕ → Sight → Type 0
  Agrees s H no_word = Unit {0}
  Agrees s H (object_of r) = AgreeAt s H (index Y (root_word s r))
  Agrees s H any_word = H ≡ s.heap

  -- where a word of a root may come from, after a call c on a sound state
  pub data Origin (s : State) (c : Call) : ℕ → Type 0 where
    -- an old root's word, and what a collection makes of it
    old_root : (r : ℕ) → r < length s.roots → Origin s c (root_word s r)
    renamed : (r w : ℕ) → r < length s.roots → Became Y s (root_word s r) w → Origin s c w
    -- a field of a traced object of the tiling
    field : (i f : ℕ) → Memᴰ i (headers Y s) → kind Y s.heap i ≡ Traced → f < field_count Y s.heap i
        → Origin s c (at s.heap (field_index i f))
    -- an integer's word, null or a code word, where the call sets a root to it
    integer : (to : ℕ) (v : ℤ) → c ≡ Ask.SetInteger to v → in_range v ≡ true → Origin s c (tag v)
    null : (to : ℕ) → c ≡ Ask.SetNull to → Origin s c 0
    code : (to w : ℕ) → c ≡ Ask.SetCode to w → is_code w ≡ true → Origin s c w
    -- that of an integer whose text the call reads
    text : (to : ℕ) (v : ℤ) → c ≡ Ask.Read to → IsText s.text (leaf v) → Origin s c (tag v)
    -- the address of a new object, at the free index before or after a collection
    placed : Origin s c (address Y (free s))
    placed_then : Origin s c (address Y (free (collected Y s)))

  pub record Looks (M : Machine) : Type 0 where
    -- two heaps of one length that agree on what the call looks at: the same answer, roots, record and bytes
    pub sees : (c : Call) (s : State) (H : List ℕ) → length H ≡ length s.heap → Agrees s H (sight c)
        → Alike (M.step c (with_heap H s)) (M.step c s)
    -- the window too, and it shows the same words
    pub opens : (r : ℕ) (s : State) (H : List ℕ) → length H ≡ length s.heap → Agrees s H (object_of r)
        → window Y r (with_heap H s) ≡ window Y r s
    pub shows : (r : ℕ) (s : State) (H : List ℕ) → length H ≡ length s.heap → Agrees s H (object_of r)
        → shown H (window Y r s) ≡ shown s.heap (window Y r s)
    -- raw words never enter a root
    pub enters : (c : Call) (s : State) (r : ℕ) → Sound Y s → r < length s.roots → Origin s c (root_word (M.step c s).left r)
