-- The field that a call on objects reaches, or why it reaches none: SHAPE and ROOT, and then what the word names.
use Rattle.std.specs.Prelude.{ℕ, cond, [], ◌∷◌, Result, Err}
use Rattle.model.specs.declared.Index.{Index}
use Rattle.model.specs.declared.Kind.{Kind}
use Rattle.model.specs.declared.Refusal.{Refusal}
use Rattle.model.specs.Words.{State}
use Rattle.model.specs.Headers.{Layout}
use Rattle.model.specs.Admission.{admitted}
use Rattle.model.specs.Changes.{root_word}
use Rattle.naming.specs.Named.{field_of}

-- field f of the object that root r names, and another root q
unfoldable pub reached : Layout → Kind → ℕ → ℕ → ℕ → State → Result Index Refusal
reached Y k r f q s = admitted (λ b k next. cond b (Err k) next) (r ∷ q ∷ []) s (field_of Y k (root_word s r) f s)
