-- The first row that applies is one at most, and none applies exactly when there is no first.
use mathlib.Core.Path.{◌≡◌, sym, ◌∙◌, subst}
use mathlib.Core.Logic.{inl, inr}
use mathlib.Core.List.{List, [], ◌∷◌}
use Rattle.model.specs.declared.Refusal.{Refusal}
use Rattle.model.specs.Demand1 as D1
use Rattle.model.specs.Refusals as Row

pub first_unique : (qs : List Row.Row) (j k : Refusal) → D1.First qs j → D1.First qs k → j ≡ k
first_unique [] j k a b = absurd a
first_unique (q ∷ qs) j k (inl a) (inl b) = sym a.1 ∙ b.1
first_unique (q ∷ qs) j k (inl a) (inr b) = absurd (b.0 a.0)
first_unique (q ∷ qs) j k (inr a) (inl b) = absurd (a.0 b.0)
first_unique (q ∷ qs) j k (inr a) (inr b) = first_unique qs j k a.1 b.1

pub first_some : (qs : List Row.Row) (k : Refusal) → D1.First qs k → D1.None qs → ⊥
first_some [] k a n = a
first_some (q ∷ qs) k (inl a) n = n.0 a.0
first_some (q ∷ qs) k (inr a) n = first_some qs k a.1 n.1

-- what is answered is the refusal of the first row that applies, or none applies and it is no refusal
pub data Settled (qs : List Row.Row) (Answers : Refusal → Type 0) : Type 0 where
  refused : (k : Refusal) → D1.First qs k → Answers k → Settled qs Answers
  passed : D1.None qs → ((k : Refusal) → Answers k → ⊥) → Settled qs Answers

pub settled_refuses : (qs : List Row.Row) (Answers : Refusal → Type 0) → ((j k : Refusal) → Answers j → Answers k → j ≡ k)
    → Settled qs Answers → D1.Refuses qs Answers
settled_refuses qs Answers one (refused k f a) = record {
  exactly = λ j. (λ b. subst (D1.First qs) (one k j a b) f, λ g. subst Answers (first_unique qs k j f g) a);
  none = (λ n. absurd (n k a), λ n. absurd (first_some qs k f n));
}
settled_refuses qs Answers one (passed n p) = record {
  exactly = λ j. (λ b. absurd (p j b), λ g. absurd (first_some qs j g n));
  none = (λ x. n, λ x. p);
}
