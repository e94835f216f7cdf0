-- The calls, each with its refusals in their order. Document 01, "The calls" and "Refusals and their order"; document 02, Q-1 to Q-3.
-- SHAPE and ROOT come first in each but fresh, by `on_roots` of Admission. The session of the calls is in Sessions, the window
-- in Window.
use Rattle.std.specs.Prelude.{ℕ, ◌+◌, Bool, not, cond, ◌||◌, [], ◌∷◌, ltb, leb, eqb, length, replicate, ℤ}
use Rattle.model.specs.declared.Half.TheVariants.{A}
use Rattle.model.specs.declared.Record.{Record}
use Rattle.model.specs.declared.Kind.{Kind}
use Rattle.model.specs.declared.Kind.TheVariants.{Traced, Untraced}
use Rattle.model.specs.declared.Refusal.TheVariants as Why
use Rattle.model.specs.declared.Answer.TheVariants as Says
use Rattle.model.specs.Limits.{max_fields}
use Rattle.model.specs.Words.{State, with_heap, with_record, with_text, at}
use Rattle.model.specs.Values.{is_odd, is_null, is_code, in_range, tag, untag}
use Rattle.model.specs.Headers.{Layout}
use Rattle.model.specs.Shape.{bad_length}
use Rattle.model.specs.Objects.{is_traced, index, kind, field_count, field_index, field_words, names}
use Rattle.model.specs.Soundness.{sound}
use Rattle.model.specs.Collection.{counts, collected}
use Rattle.model.specs.Answers.{Outcome, says, refused, refuse}
use Rattle.model.specs.Texts.{Form, as_integer, as_tuple, textless, max_depth, value_pieces, Spelled, spelled, writes}
use Rattle.model.specs.Admission.{on_roots}
use Rattle.model.specs.Trees.{tree_words}
use Rattle.model.specs.Reading.{Parsed, tree, broken, parsed}
use Rattle.model.specs.Changes.{root_word, with_root, with_word, fits, placed, planted}

-- half A, free index 1
abbrev pub fresh_record : Record
fresh_record = record { half = A; free = record { 0 = 1 } }

-- clears all heap words; half A, free index 1. It gives only the heap-length part of SHAPE, and does not look at the roots.
unfoldable pub fresh : State → Outcome State
fresh s =
    refuse (bad_length (length s.heap)) Why.Shape s
    (says Says.Done (with_record fresh_record (with_heap (replicate (length s.heap) 0) s)))

-- set, copy and same look at no heap word

unfoldable pub set_integer : ℕ → ℤ → State → Outcome State
set_integer to value s =
    on_roots (to ∷ []) s
    (refuse (not (in_range value)) Why.Range s
    (says Says.Done (with_root s to (tag value))))

unfoldable pub set_null : ℕ → State → Outcome State
set_null to s =
    on_roots (to ∷ []) s
    (says Says.Done (with_root s to 0))

-- RANGE where the word is odd or below the floor
unfoldable pub set_code : ℕ → ℕ → State → Outcome State
set_code to word s =
    on_roots (to ∷ []) s
    (refuse (not (is_code word)) Why.Range s
    (says Says.Done (with_root s to word)))

unfoldable pub copy : ℕ → ℕ → State → Outcome State
copy from to s =
    on_roots (from ∷ to ∷ []) s
    (says Says.Done (with_root s to (root_word s from)))

unfoldable pub same : ℕ → ℕ → State → Outcome State
same one other s =
    on_roots (one ∷ other ∷ []) s
    (says (cond (eqb (root_word s one) (root_word s other)) Says.Yes Says.No) s)

abbrev pub is_of_kind : Kind → Kind → Bool
is_of_kind Traced k = is_traced k
is_of_kind Untraced k = not (is_traced k)

module _ (Y : Layout) where
  unfoldable pub check : State → Outcome State
  check s =
      on_roots [] s
      (says (cond (sound Y s) Says.Sound Says.Unsound) s)

  unfoldable pub collect : State → Outcome State
  collect s =
      on_roots [] s
      (refuse (not (sound Y s)) Why.Damaged s
      (says (Says.Live (counts Y s)) (collected Y s)))

  -- a change that needs n words: if they fit, it is made; if not, it collects first and tries again
  abbrev pub with_room : ℕ → (State → State) → State → Outcome State
  with_room n change s =
      let changedNow = change s in
      let s' = collected Y s in
      let changedThen = change s' in
      cond (fits n s) (says Says.Done changedNow)
      (refuse (not (sound Y s)) Why.Damaged s
      (refuse (not (fits n s')) Why.Room s'
      (says Says.Done changedThen)))

  -- a new object of n fields, n + 1 words, into the root `to`
  unfoldable pub allocate : Kind → ℕ → ℕ → State → Outcome State
  allocate kind fields to s =
      on_roots (to ∷ []) s
      (refuse (ltb max_fields fields) Why.Count s
      (with_room (fields + 1) (placed Y kind fields to) s))

  -- OBJECT, KIND and FIELD in order: the word w names an object of kind k that has a field f
  abbrev pub on_field : Kind → ℕ → ℕ → State → Outcome State → Outcome State
  on_field k w f s next =
      refuse (not (names Y s w)) Why.Object s
      (refuse (not (is_of_kind k (kind Y s.heap (index Y w)))) Why.Kind s
      (refuse (leb (field_count Y s.heap (index Y w)) f) Why.Field s
      next))

  -- a field of the object that the root `object` names, into the root `to`
  unfoldable pub load : ℕ → ℕ → ℕ → State → Outcome State
  load object field to s =
      on_roots (object ∷ to ∷ []) s
      (on_field Traced (root_word s object) field s
      (says Says.Done (with_root s to (at s.heap (field_index (index Y (root_word s object)) field)))))

  -- the word of the root `from` into a field of the object that the root `object` names
  unfoldable pub store : ℕ → ℕ → ℕ → State → Outcome State
  store object field from s =
      on_roots (object ∷ from ∷ []) s
      (on_field Traced (root_word s object) field s
      (says Says.Done (with_word s (field_index (index Y (root_word s object)) field) (root_word s from))))

  unfoldable pub raw_read : ℕ → ℕ → State → Outcome State
  raw_read object field s =
      on_roots (object ∷ []) s
      (on_field Untraced (root_word s object) field s
      (says (Says.Number (at s.heap (field_index (index Y (root_word s object)) field))) s))

  unfoldable pub raw_write : ℕ → ℕ → ℕ → State → Outcome State
  raw_write object field number s =
      on_roots (object ∷ []) s
      (on_field Untraced (root_word s object) field s
      (says Says.Done (with_word s (field_index (index Y (root_word s object)) field) number)))

  unfoldable pub inspect : ℕ → State → Outcome State
  inspect root s =
      let w = root_word s root in
      on_roots (root ∷ []) s
      (cond (is_odd w) (says (Says.Integer (untag w)) s)
      (cond (is_null w) (says Says.Null s)
      (cond (is_code w) (says (Says.Code w) s)
      (refuse (not (names Y s w)) Why.Object s
      (says (Says.Object (kind Y s.heap (index Y w)) (field_count Y s.heap (index Y w))) s)))))

  -- what a word is to its text: VALUE where it is null, a code word or an untraced object, OBJECT where it is of no kind
  unfoldable pub word_form : State → ℕ → Form ℕ
  word_form s w =
      cond (is_odd w) (as_integer (untag w))
      (cond (is_null w || is_code w) (textless Why.Value)
      (cond (not (names Y s w)) (textless Why.Object)
      (cond (is_traced (kind Y s.heap (index Y w))) (as_tuple (field_words Y s.heap (index Y w))) (textless Why.Value))))

  -- the text of what a root holds, into the bytes that are lent
  abbrev pub root_spelled : ℕ → State → Spelled
  root_spelled root s = spelled (length s.text) (value_pieces (word_form s) max_depth (root_word s root))

  unfoldable pub write : ℕ → State → Outcome State
  write root s =
      on_roots (root ∷ []) s
      (writes (λ t. with_text t s) s s.text (root_spelled root s))

  -- the tree of a text, into the root `to`
  abbrev pub reads : ℕ → State → Parsed → Outcome State
  reads to s (tree t) = with_room (tree_words t) (planted Y t to) s
  reads to s (broken k) = refused k s

  unfoldable pub read : ℕ → State → Outcome State
  read to s = on_roots (to ∷ []) s (reads to s (parsed s.text))
