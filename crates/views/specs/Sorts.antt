-- What a root holds, by its sort, or why inspect is refused: SHAPE, ROOT and OBJECT. Objects are met most often and come before
-- code words, which name none. The call itself is defined in `model`; the law that joins the two is in proofs/.
use Rattle.std.specs.Prelude.{ℕ, cond, [], ◌∷◌, Result, Ok, Err}
use Rattle.model.specs.declared.Refusal.{Refusal}
use Rattle.model.specs.declared.Refusal.TheVariants as Why
use Rattle.model.specs.Words.{State}
use Rattle.model.specs.Values.{is_odd, is_null, is_code}
use Rattle.model.specs.Headers.{Layout}
use Rattle.model.specs.Objects.{names}
use Rattle.model.specs.Changes.{root_word}
use Rattle.model.specs.Admission.{admitted}
use Rattle.views.specs.declared.contents.Sort.{Sort}
use Rattle.views.specs.declared.contents.Sort.TheVariants.{Null, Integer, Code, Object}

module _ (Y : Layout) where
  unfoldable pub sort_of : ℕ → State → Result Sort Refusal
  sort_of root s =
      let w = root_word s root in
      admitted (λ b k next. cond b (Err k) next) (root ∷ []) s
      (cond (is_odd w) (Ok Integer)
      (cond (is_null w) (Ok Null)
      (cond (names Y s w) (Ok Object)
      (cond (is_code w) (Ok Code) (Err Why.Object)))))
