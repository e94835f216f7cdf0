-- What each call does where nothing refuses it: a field a sentence of document 01's "The calls" or of document 02's Q-1, of any
-- machine. What a refused call leaves is demand 1's, what collect leaves demand 2's. The three together leave no machine a choice:
-- `Pinned`.
use Rattle.std.specs.Prelude.{ℕ, ◌+◌, ◌%◌, ◌≤◌, ◌<◌, ◌≡◌, ◌⊎◌, ◌↔◌, List, ℤ, length, Ok}
use Rattle.model.specs.declared.Half.TheVariants.{A}
use Rattle.model.specs.declared.Kind.{Kind}
use Rattle.model.specs.declared.Kind.TheVariants.{Traced}
use Rattle.model.specs.declared.Answer.TheVariants as Says
use Rattle.model.specs.declared.Call.{Call}
use Rattle.model.specs.declared.Call.TheVariants as Ask
use Rattle.model.specs.Limits.{code_floor}
use Rattle.model.specs.Words.{State, at, free}
use Rattle.model.specs.Values.{tag, untag}
use Rattle.model.specs.Headers.{Layout}
use Rattle.model.specs.Objects.{address, index, kind, field_count, field_index}
use Rattle.model.specs.Collection.{collected}
use Rattle.model.specs.Answers.{Outcome}
use Rattle.model.specs.Changes.{root_word, spare}
use Rattle.model.specs.Sessions.{Machine}
use Rattle.model.specs.Conditions.{BadLength, Names, Sound}
use Rattle.model.specs.Texts.{max_depth}
use Rattle.model.specs.TextFaults.{HasText}
use Rattle.model.specs.Trees.{Forest, end, leaf_then, node_then, Tree, leaf, node, count, tree_words}
use Rattle.model.specs.ReadFaults.{IsText}
use Rattle.model.specs.Refusals.{Short, CalledFor, rows}
use Rattle.model.specs.Demand1.{None, Demand1}
use Rattle.model.specs.Demand2.{Demand2}

-- ---- changes, word by word

-- one root changes, to the word w
pub record RootChanged (s : State) (r w : ℕ) (t : State) : Type 0 where
  pub word : root_word t r ≡ w
  pub others : (q : ℕ) → (q ≡ r → ⊥) → root_word t q ≡ root_word s q
  pub count : length t.roots ≡ length s.roots
  pub same_heap : t.heap ≡ s.heap
  pub same_record : t.«record» ≡ s.«record»
  pub same_text : t.text ≡ s.text

-- one word of the heap changes, to w
pub record WordChanged (s : State) (i w : ℕ) (t : State) : Type 0 where
  pub word : at t.heap i ≡ w
  pub others : (j : ℕ) → (j ≡ i → ⊥) → at t.heap j ≡ at s.heap j
  pub same_length : length t.heap ≡ length s.heap
  pub same_roots : t.roots ≡ s.roots
  pub same_record : t.«record» ≡ s.«record»
  pub same_text : t.text ≡ s.text

-- a header and n zeros stand at the free index of s, and root r has got the address
pub record NewObject (Y : Layout) (k : Kind) (n r : ℕ) (s t : State) : Type 0 where
  pub header : at t.heap (free s) ≡ Y.header k n
  pub zeros : (f : ℕ) → f < n → at t.heap (field_index (free s) f) ≡ 0
  pub others : (i : ℕ) → (i < free s) ⊎ (free s + (n + 1) ≤ i) → at t.heap i ≡ at s.heap i
  pub same_length : length t.heap ≡ length s.heap
  pub root : root_word t r ≡ address Y (free s)
  pub other_roots : (q : ℕ) → (q ≡ r → ⊥) → root_word t q ≡ root_word s q
  pub root_count : length t.roots ≡ length s.roots
  pub same_half : t.«record».half ≡ s.«record».half
  pub free_is : free t ≡ free s + (n + 1)
  pub same_text : t.text ≡ s.text

-- the first bytes are those of bs, and the others as they were
pub record TextWritten (s : State) (bs : List ℕ) (t : State) : Type 0 where
  pub room : length bs ≤ length s.text
  pub bytes : (i : ℕ) → i < length bs → at t.text i ≡ at bs i
  pub others : (i : ℕ) → length bs ≤ i → at t.text i ≡ at s.text i
  pub same_length : length t.text ≡ length s.text
  pub same_heap : t.heap ≡ s.heap
  pub same_roots : t.roots ≡ s.roots
  pub same_record : t.«record» ≡ s.«record»

-- the values of a tuple stand from index i on, integers as their words and tuples as the addresses of their objects; these stand from
-- index b to index e in the order in which they are met, each with its header and all its fields before the objects that these name
abbrev pub Laid : Layout → List ℕ → Forest → ℕ → ℕ → ℕ → Type 0
Laid Y H end i b e = e ≡ b
Laid Y H (leaf_then v f) i b e = (at H i ≡ tag v) × Laid Y H f (i + 1) b e
Laid Y H (node_then g f) i b e =
    (at H i ≡ address Y b) × (at H b ≡ Y.header Traced (count g))
    × ((c : ℕ) × Laid Y H g (b + 1) (b + (count g + 1)) c × Laid Y H f (i + 1) c e)

-- so does a tree, of which a root holds the word w
abbrev pub Planted : Layout → List ℕ → Tree → ℕ → ℕ → ℕ → Type 0
Planted Y H (leaf v) w b e = (w ≡ tag v) × (e ≡ b)
Planted Y H (node g) w b e = (w ≡ address Y b) × (at H b ≡ Y.header Traced (count g)) × Laid Y H g (b + 1) (b + (count g + 1)) e

-- a tree stands at the free index of s, and root r has got it
pub record NewTree (Y : Layout) (t : Tree) (r : ℕ) (s t' : State) : Type 0 where
  pub planted : Planted Y t'.heap t (root_word t' r) (free s) (free t')
  pub others : (i : ℕ) → (i < free s) ⊎ (free t' ≤ i) → at t'.heap i ≡ at s.heap i
  pub same_length : length t'.heap ≡ length s.heap
  pub other_roots : (q : ℕ) → (q ≡ r → ⊥) → root_word t' q ≡ root_word s q
  pub root_count : length t'.roots ≡ length s.roots
  pub same_half : t'.«record».half ≡ s.«record».half
  pub same_text : t'.text ≡ s.text

-- all heap words are 0; half A, free index 1; the roots as they were
pub record Cleared (s t : State) : Type 0 where
  pub zeros : (i : ℕ) → at t.heap i ≡ 0
  pub same_length : length t.heap ≡ length s.heap
  pub same_roots : t.roots ≡ s.roots
  pub half_a : t.«record».half ≡ A
  pub free_is : free t ≡ 1
  pub same_text : t.text ≡ s.text

-- ---- the calls

-- "done", and what is left
abbrev pub Done : Outcome State → (State → Type 0) → Type 0
Done o P = (o.answer ≡ Ok Says.Done) × P o.left

-- everything is as it was
abbrev pub Leaves : Outcome State → State → Type 0
Leaves o s = o.left ≡ s

module _ (Y : Layout) where
  -- nothing refuses the call
  abbrev pub Passes : Call → State → Type 0
  Passes c s = None (rows Y c s)

  -- field f of the object that root r names
  abbrev pub field_at : State → ℕ → ℕ → ℕ
  field_at s r f = field_index (index Y (root_word s r)) f

  pub record Effects (M : Machine) : Type 0 where
    -- fresh clears all heap words; half A, free index 1
    pub fresh : (s : State) → (BadLength s → ⊥) → Done (M.fresh s) (Cleared s)
    -- check: sound or not; no word differs afterwards
    pub check_sound : (s : State) → Passes Ask.Check s → ((M.step Ask.Check s).answer ≡ Ok Says.Sound) ↔ Sound Y s
    pub check_unsound : (s : State) → Passes Ask.Check s → ((M.step Ask.Check s).answer ≡ Ok Says.Unsound) ↔ (Sound Y s → ⊥)
    pub check_leaves : (s : State) → Passes Ask.Check s → Leaves (M.step Ask.Check s) s
    -- an allocation that fits places the object; one that does not collects first and tries again
    pub allocate_now : (kind : Kind) (fields to : ℕ) (s : State) → Passes (Ask.Allocate kind fields to) s → fields + 1 ≤ spare s
        → Done (M.step (Ask.Allocate kind fields to) s) (NewObject Y kind fields to s)
    pub allocate_then : (kind : Kind) (fields to : ℕ) (s : State) → Passes (Ask.Allocate kind fields to) s → CalledFor fields s
        → Done (M.step (Ask.Allocate kind fields to) s) (NewObject Y kind fields to (collected Y s))
    -- set root to an integer; set root to null; set root to a code word; copy root to root
    pub set_integer : (to : ℕ) (value : ℤ) (s : State) → Passes (Ask.SetInteger to value) s
        → Done (M.step (Ask.SetInteger to value) s) (RootChanged s to (tag value))
    pub set_null : (to : ℕ) (s : State) → Passes (Ask.SetNull to) s → Done (M.step (Ask.SetNull to) s) (RootChanged s to 0)
    pub set_code : (to word : ℕ) (s : State) → Passes (Ask.SetCode to word) s
        → Done (M.step (Ask.SetCode to word) s) (RootChanged s to word)
    pub copy : (from to : ℕ) (s : State) → Passes (Ask.Copy from to) s
        → Done (M.step (Ask.Copy from to) s) (RootChanged s to (root_word s from))
    -- load: field of a traced object into a root; store: a root's word into a field of a traced object
    pub load : (object field to : ℕ) (s : State) → Passes (Ask.Load object field to) s
        → Done (M.step (Ask.Load object field to) s) (RootChanged s to (at s.heap (field_at s object field)))
    pub store : (object field from : ℕ) (s : State) → Passes (Ask.Store object field from) s
        → Done (M.step (Ask.Store object field from) s) (WordChanged s (field_at s object field) (root_word s from))
    -- raw read and raw write: the same for an untraced object and a plain number
    pub raw_read : (object field : ℕ) (s : State) → Passes (Ask.RawRead object field) s
        → (M.step (Ask.RawRead object field) s).answer ≡ Ok (Says.Number (at s.heap (field_at s object field)))
    pub raw_read_leaves : (object field : ℕ) (s : State) → Passes (Ask.RawRead object field) s
        → Leaves (M.step (Ask.RawRead object field) s) s
    pub raw_write : (object field number : ℕ) (s : State) → Passes (Ask.RawWrite object field number) s
        → Done (M.step (Ask.RawWrite object field number) s) (WordChanged s (field_at s object field) number)
    -- same: yes exactly when two roots hold equal words
    pub same_yes : (one other : ℕ) (s : State) → Passes (Ask.Same one other) s
        → ((M.step (Ask.Same one other) s).answer ≡ Ok Says.Yes) ↔ (root_word s one ≡ root_word s other)
    pub same_no : (one other : ℕ) (s : State) → Passes (Ask.Same one other) s
        → ((M.step (Ask.Same one other) s).answer ≡ Ok Says.No) ↔ (root_word s one ≡ root_word s other → ⊥)
    pub same_leaves : (one other : ℕ) (s : State) → Passes (Ask.Same one other) s → Leaves (M.step (Ask.Same one other) s) s
    -- inspect: a root holds null, an integer with its value, a code word, or an object, traced or untraced, with its field count
    pub inspect_null : (root : ℕ) (s : State) → Passes (Ask.Inspect root) s → root_word s root ≡ 0
        → (M.step (Ask.Inspect root) s).answer ≡ Ok Says.Null
    pub inspect_integer : (root : ℕ) (s : State) → Passes (Ask.Inspect root) s → root_word s root % 2 ≡ 1
        → (M.step (Ask.Inspect root) s).answer ≡ Ok (Says.Integer (untag (root_word s root)))
    pub inspect_code : (root : ℕ) (s : State) → Passes (Ask.Inspect root) s → root_word s root % 2 ≡ 0 → code_floor ≤ root_word s root
        → (M.step (Ask.Inspect root) s).answer ≡ Ok (Says.Code (root_word s root))
    pub inspect_object : (root : ℕ) (s : State) → Passes (Ask.Inspect root) s → Names Y s (root_word s root)
        → (M.step (Ask.Inspect root) s).answer
        ≡ Ok (Says.Object (kind Y s.heap (index Y (root_word s root))) (field_count Y s.heap (index Y (root_word s root))))
    pub inspect_leaves : (root : ℕ) (s : State) → Passes (Ask.Inspect root) s → Leaves (M.step (Ask.Inspect root) s) s
    -- write: the text of the root's value; its answer is the text's length, and no byte past the text changes
    pub write : (root : ℕ) (s : State) → Passes (Ask.Write root) s
        → (bs : List ℕ) × HasText Y s max_depth (root_word s root) bs × ((M.step (Ask.Write root) s).answer ≡ Ok (Says.Written (length bs)))
        × TextWritten s bs (M.step (Ask.Write root) s).left
    -- read: a tree whose words fit is placed; if they do not, it collects first and tries again
    pub read_now : (to : ℕ) (s : State) (t : Tree) → Passes (Ask.Read to) s → IsText s.text t → tree_words t ≤ spare s
        → Done (M.step (Ask.Read to) s) (NewTree Y t to s)
    pub read_then : (to : ℕ) (s : State) (t : Tree) → Passes (Ask.Read to) s → IsText s.text t → Short (tree_words t) s
        → Done (M.step (Ask.Read to) s) (NewTree Y t to (collected Y s))

  -- ---- no machine has a choice

  pub record Meets (M : Machine) : Type 0 where
    pub one : Demand1 Y M
    pub two : Demand2 Y M
    pub effects : Effects M

  -- two machines that meet demand 1, demand 2 and these sentences answer every call alike and leave the same
  pub record Same (M N : Machine) : Type 0 where
    pub step : (c : Call) (s : State) → M.step c s ≡ N.step c s
    pub fresh : (s : State) → M.fresh s ≡ N.fresh s

  abbrev pub Pinned : Type 0
  Pinned = (M N : Machine) → Meets M → Meets N → Same M N
