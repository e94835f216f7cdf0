-- The field that a call names, or why there is none: OBJECT, KIND and FIELD. The calls themselves are defined in `model`; the laws
-- that join the two are in proofs/ here and in `objects`.
use Rattle.std.specs.Prelude.{ℕ, ◌≤◌, not, cond, List, leb, length, Result, Ok, Err}
use Rattle.model.specs.declared.Index.{Index}
use Rattle.model.specs.declared.Kind.{Kind}
use Rattle.model.specs.declared.Record.{Record}
use Rattle.model.specs.declared.Refusal.{Refusal}
use Rattle.model.specs.declared.Refusal.TheVariants as Why
use Rattle.model.specs.Limits.{max_words}
use Rattle.model.specs.Words.{State, half_words, first_of}
use Rattle.model.specs.Headers.{Layout}
use Rattle.model.specs.Objects.{index, kind, field_count, field_index, names}
use Rattle.model.specs.Calls.{is_of_kind}

-- what SHAPE leaves for a test of heap words: the used part begins past the reserved word, and each index below the free one
-- is that of a word
pub record FreeInHeap (H : List ℕ) (q : Record) : Type 0 where
  pub least : 1 ≤ first_of (half_words H) q.half
  pub begins : first_of (half_words H) q.half ≤ q.free.0
  pub within : q.free.0 ≤ length H
  pub most : length H ≤ max_words

module _ (Y : Layout) where
  -- the chain of OBJECT, KIND and FIELD, by itself
  unfoldable pub field_of : Kind → ℕ → ℕ → State → Result Index Refusal
  field_of k w f s =
      let i = index Y w in
      cond (not (names Y s w)) (Err Why.Object)
      (cond (not (is_of_kind k (kind Y s.heap i))) (Err Why.Kind)
      (cond (leb (field_count Y s.heap i) f) (Err Why.Field)
      (Ok (record { 0 = field_index i f }))))
