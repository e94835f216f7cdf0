-- What a text of a word is, and where writing it goes wrong, as types: document 02's Q-2, apart from the pieces by which `Texts` and
-- `Calls.write` say it. Places count bytes from 0. A value whose text begins at a place with d levels left is one that would be the
-- (65 - d)th nested, if it is an object.
use Rattle.std.specs.Prelude.{ℕ, zero, suc, ◌+◌, ◌%◌, ◌≤◌, ◌<◌, ◌≡◌, List, [], ◌∷◌, length, get_or}
use Rattle.model.specs.declared.Kind.TheVariants.{Traced, Untraced}
use Rattle.model.specs.declared.Refusal.{Refusal}
use Rattle.model.specs.declared.Refusal.TheVariants as Why
use Rattle.model.specs.Limits.{code_floor}
use Rattle.model.specs.Words.{State, at}
use Rattle.model.specs.Values.{untag}
use Rattle.model.specs.Headers.{Layout}
use Rattle.model.specs.Objects.{index, kind, field_count, field_index}
use Rattle.model.specs.Texts.{integer_text, enclosed, max_depth}
use Rattle.model.specs.Changes.{root_word}
use Rattle.model.specs.Conditions.{Names}

-- the bytes before a tuple's first field: "(", or "{1=" of one field
abbrev pub lead : ℕ → ℕ
lead zero = 1
lead (suc zero) = 3
lead (suc (suc n)) = 1

-- the bytes of texts with one byte after each, a comma or the closer
abbrev pub spread : List (List ℕ) → ℕ
spread [] = 0
spread (t ∷ ts) = length t + 1 + spread ts

module _ (Y : Layout) (s : State) where
  -- a traced object; and its field f
  pub record Tuple (w : ℕ) : Type 0 where
    pub named : Names Y s w
    pub traced : kind Y s.heap (index Y w) ≡ Traced

  abbrev pub fields_of : ℕ → ℕ
  fields_of w = field_count Y s.heap (index Y w)

  abbrev pub field_of : ℕ → ℕ → ℕ
  field_of w f = at s.heap (field_index (index Y w) f)

  -- the word w has the text t, with d levels left
  pub data HasText : ℕ → ℕ → List ℕ → Type 0 where
    integer : {d w : ℕ} → w % 2 ≡ 1 → HasText d w (integer_text (untag w))
    tuple : {d w : ℕ} (ts : List (List ℕ)) → Tuple w → length ts ≡ fields_of w
        → ((f : ℕ) → f < fields_of w → HasText d (field_of w f) (get_or ts f [])) → HasText (suc d) w (enclosed (λ b. b) ts)

  -- the first fields of a tuple have the texts ts
  pub record Before (d w : ℕ) (ts : List (List ℕ)) : Type 0 where
    pub is_tuple : Tuple w
    pub within : length ts ≤ fields_of w
    pub each : (f : ℕ) → f < length ts → HasText d (field_of w f) (get_or ts f [])

  -- the text of a word w, with d levels left, begins at a place of the text of the root r: that of the root itself, or of a field once
  -- those before it have a text
  pub data Begins (r : ℕ) : ℕ → ℕ → ℕ → Type 0 where
    root : Begins r (root_word s r) max_depth 0
    field : {w d p : ℕ} (ts : List (List ℕ)) → Begins r w (suc d) p → Before d w ts → length ts < fields_of w
        → Begins r (field_of w (length ts)) d (p + lead (fields_of w) + spread ts)

  -- a byte of the text of the root r stands at a place: of an integer; of a tuple's opener; after a field's text; the closer of ()
  pub data Stands (r : ℕ) : ℕ → Type 0 where
    digit : {w d p : ℕ} (i : ℕ) → Begins r w d p → w % 2 ≡ 1 → i < length (integer_text (untag w)) → Stands r (p + i)
    opener : {w d p : ℕ} (i : ℕ) → Begins r w (suc d) p → Tuple w → i < lead (fields_of w) → Stands r (p + i)
    after : {w d p : ℕ} (ts : List (List ℕ)) (i : ℕ) → Begins r w (suc d) p → Before d w ts → i + 1 ≡ spread ts
        → Stands r (p + lead (fields_of w) + i)
    closer : {w d p : ℕ} → Begins r w (suc d) p → Tuple w → fields_of w ≡ 0 → Stands r (p + 1)

  -- OBJECT: a word of no kind
  pub record NoKind (w : ℕ) : Type 0 where
    pub even : w % 2 ≡ 0
    pub not_null : w ≡ 0 → ⊥
    pub below_floor : w < code_floor
    pub names_none : Names Y s w → ⊥

  -- VALUE: null, a code word, or an untraced object
  pub data NoText (w : ℕ) : Type 0 where
    null : w ≡ 0 → NoText w
    code : w % 2 ≡ 0 → code_floor ≤ w → NoText w
    raw : Names Y s w → kind Y s.heap (index Y w) ≡ Untraced → NoText w

  -- a fault of the writer, of the root r, at a place
  pub data Fault (r : ℕ) : ℕ → Refusal → Type 0 where
    object : {w d p : ℕ} → Begins r w d p → NoKind w → Fault r p Why.Object
    value : {w d p : ℕ} → Begins r w d p → NoText w → Fault r p Why.Value
    deep : {w p : ℕ} → Begins r w 0 p → Names Y s w → Fault r p Why.Deep
    text : Stands r (length s.text) → Fault r (length s.text) Why.Text
