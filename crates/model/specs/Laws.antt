-- Further laws, as types: the record that most calls leave alone, what a window shows, integers and headers written and read
-- back, objects' addresses and code words, lengths, that answers in numbers can be told apart, and that a promise settles
-- everything.
use Rattle.std.specs.Prelude.{ℕ, ◌*◌, ◌%◌, ◌≤◌, ◌<◌, ◌≡◌, ◌↔◌, Bool, true, false, List, [], length, ℤ, pos, ◌+ℤ◌, ◌*ℤ◌}
use Rattle.std.specs.Prelude.{Err, Ok, Result}
use Rattle.model.specs.declared.Index.{Index}
use Rattle.model.specs.declared.Kind.{Kind}
use Rattle.model.specs.declared.Refusal.{Refusal}
use Rattle.model.specs.declared.Refusal.TheVariants as Why
use Rattle.model.specs.declared.Answer.TheVariants as Says
use Rattle.model.specs.declared.Record.{Record}
use Rattle.model.specs.declared.Answer.{Answer}
use Rattle.model.specs.declared.Answered.{Answered}
use Rattle.model.specs.Agreements.{outcome_text, kept_text}
use Rattle.model.specs.declared.Call.{Call}
use Rattle.model.specs.declared.Call.TheVariants as Ask
use Rattle.model.specs.declared.Place.{Place}
use Rattle.model.specs.Limits.{max_fields}
use Rattle.model.specs.Words.{State, at}
use Rattle.model.specs.Values.{is_odd, is_code, in_range, tag, untag}
use Rattle.model.specs.Headers.{Layout, Lawful, tuple}
use Rattle.model.specs.Objects.{address, index, field_count, field_index}
use Rattle.model.specs.Answers.{Outcome, told}
use Rattle.model.specs.Changes.{root_word}
use Rattle.model.specs.Window.{window, shown, window_count, window_word, place}
use Rattle.model.specs.Sessions.{Machine}
use Rattle.model.specs.Conditions.{BadShape}

-- ---- the record

-- the calls that may leave another record than they were given
abbrev pub changes_record : Call → Bool
changes_record Ask.Collect = true
changes_record Ask.Check = false
changes_record (Ask.Allocate kind fields to) = true
changes_record (Ask.SetInteger to value) = false
changes_record (Ask.SetNull to) = false
changes_record (Ask.SetCode to word) = false
changes_record (Ask.Copy from to) = false
changes_record (Ask.Load object field to) = false
changes_record (Ask.Store object field from) = false
changes_record (Ask.RawRead object field) = false
changes_record (Ask.RawWrite object field number) = false
changes_record (Ask.Same one other) = false
changes_record (Ask.Inspect root) = false
changes_record (Ask.Write root) = false
changes_record (Ask.Read to) = true

-- every other leaves it as it was, refused or not: a host that keeps its own has the one that the next call wants
abbrev pub RecordStays : Machine → Type 0
RecordStays M = (c : Call) (s : State) → changes_record c ≡ false → (M.step c s).left.«record» ≡ s.«record»

-- ---- the window

-- on the object at i with n fields it shows exactly the n words after the header, as that part of the heap
pub record Shows (Y : Layout) (s : State) (r : ℕ) (i : Index) (n : ℕ) : Type 0 where
  pub object : i.0 ≡ index Y (root_word s r)
  pub fields : n ≡ field_count Y s.heap i.0
  pub words : length (shown s.heap (Ok (place i n))) ≡ n
  pub count : window_count (Ok (place i n)) ≡ n
  pub word : (f : ℕ) → f < n → window_word s.heap (Ok (place i n)) f ≡ Ok (Says.Number (at s.heap (field_index i.0 f)))
  pub past : (f : ℕ) → n ≤ f → window_word s.heap (Ok (place i n)) f ≡ Err Why.Field

-- refused, it shows no words
pub record Hides (s : State) (k : Refusal) : Type 0 where
  pub words : shown s.heap (Err k) ≡ []
  pub count : window_count (Err k) ≡ 0
  pub word : (f : ℕ) → window_word s.heap (Err k) f ≡ Err Why.Field

pub record WindowLaw (Y : Layout) : Type 0 where
  pub shows : (r : ℕ) (s : State) (i : Index) (n : ℕ) → window Y r s ≡ Ok (place i n) → Shows Y s r i n
  pub hides : (s : State) (k : Refusal) → Hides s k

-- ---- words

pub record IntegerLaw : Type 0 where
  -- the word of an integer in range is odd, 2v + 1 modulo 2 ^ 32, and holds it
  pub odd : (v : ℤ) → in_range v ≡ true → is_odd (tag v) ≡ true
  pub fits : (v : ℤ) → in_range v ≡ true → tag v < 4_294_967_296
  pub modulo : (v : ℤ) → in_range v ≡ true → (m : ℕ) × (pos (tag v) ≡ pos 2 *ℤ v +ℤ pos 1 +ℤ pos (4_294_967_296 * m))
  pub back : (v : ℤ) → in_range v ≡ true → untag (tag v) ≡ v
  -- and every odd word is that of an integer in range
  pub held : (w : ℕ) → w < 4_294_967_296 → w % 2 ≡ 1 → (in_range (untag w) ≡ true) × (tag (untag w) ≡ w)

pub record HeaderLaw : Type 0 where
  pub reads : Lawful tuple
  pub fits : (k : Kind) (n : ℕ) → n ≤ max_fields → tuple.header k n < 4_294_967_296
  -- a word is a header exactly when bit 0 is clear, and then it is that of its kind and count: bit 31, and bits 1 to 30
  pub bit0 : (h : ℕ) → (tuple.is_header h ≡ true) ↔ (h % 2 ≡ 0)
  pub bits : (h : ℕ) → h < 4_294_967_296 → h % 2 ≡ 0 → tuple.header (tuple.kind_of h) (tuple.count_of h) ≡ h

-- no object's address is a code word: the largest of any heap lies below the floor, in every layout that is `Adjacent`. Demand 3
-- stands on it: what a root holds is told as an object or as a code word, never as both.
abbrev pub NoObjectIsCode : Layout → Type 0
NoObjectIsCode Y = (s : State) → (BadShape s → ⊥) → (i : ℕ) → i < length s.heap → is_code (address Y i) ≡ false

-- ---- calls

pub record KeepsLengths (M : Machine) : Type 0 where
  pub heap : (c : Call) (s : State) → length (M.step c s).left.heap ≡ length s.heap
  pub roots : (c : Call) (s : State) → length (M.step c s).left.roots ≡ length s.roots
  pub text : (c : Call) (s : State) → length (M.step c s).left.text ≡ length s.text
  pub fresh_heap : (s : State) → length (M.fresh s).left.heap ≡ length s.heap
  pub fresh_roots : (s : State) → (M.fresh s).left.roots ≡ s.roots
  pub fresh_text : (s : State) → (M.fresh s).left.text ≡ s.text

-- answers in numbers can be told apart: two answers of one call with equal numbers are equal
pub record ToldApart (M : Machine) : Type 0 where
  pub session : (c : Call) (s s' : State) → told (M.step c s).answer ≡ told (M.step c s').answer
      → (M.step c s).answer ≡ (M.step c s').answer
  pub fresh : (s s' : State) → told (M.fresh s).answer ≡ told (M.fresh s').answer → (M.fresh s).answer ≡ (M.fresh s').answer
  -- and a window's word
  pub word : (H H' : List ℕ) (p p' : Result Place Refusal) (f f' : ℕ) → told (window_word H p f) ≡ told (window_word H' p' f')
      → window_word H p f ≡ window_word H' p' f'

-- a promise is an equation `outcome .. ≡ o` or `kept .. ≡ o`, of no bytes, or `outcome_text .. ≡ o` or `kept_text .. ≡ o`: any two
-- outcomes that it allows have equal answers, records, words, roots and bytes
abbrev pub Settles : Type 0
Settles = (o : Outcome State) (a b : Answered) (H H' R R' T T' : List ℕ) → outcome_text a H R T ≡ o → outcome_text b H' R' T' ≡ o
    → (a ≡ b) × (H ≡ H') × (R ≡ R') × (T ≡ T')

abbrev pub KeptSettles : Type 0
KeptSettles = (o : Outcome State) (a b : Result Answer Refusal) (q q' : Record) (H H' R R' T T' : List ℕ)
    → kept_text a H R q T ≡ o → kept_text b H' R' q' T' ≡ o → (a ≡ b) × (q ≡ q') × (H ≡ H') × (R ≡ R') × (T ≡ T')
