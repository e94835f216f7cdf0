-- How a tuple of no field, or of two or more, is read from behind "(".
use Prim.Native.Nat.{ℕ, ◌+◌, ◌≤◌, ◌<◌}
use native.Mathlib.Omega.{arith}
use mathlib.Core.Path.{◌≡◌, refl, sym, ap, ◌∙◌}
use mathlib.Core.Logic.{⊎_elim}
use mathlib.Core.Bool.{true, false}
use mathlib.Core.List.{List, [], ◌∷◌, ◌++◌}
use lib.ListN.{length, get_or}
use borrow.Author.Tests.{ne_eqb}
use Rattle.model.specs.declared.Refusal.TheVariants as Why
use Rattle.model.specs.Texts.{max_depth}
use Rattle.model.specs.Trees.{Tree, node, end, count, forest_words}
use Rattle.model.specs.Reading.{Open, paren, height, forest_of, none_yet, start, opened, whole, go, bad, follow, broken}
use Rattle.theory.proofs.Tests.{by_test, decide, same?}
use Rattle.reader_numerals.specs.Numerals.{rest}
use Rattle.std.specs.Prelude.{Option}
use Rattle.model.specs.declared.Refusal.{Refusal}
use Rattle.reader_judging.specs.declared.values.Found.{Found}
use Rattle.reader_judging.specs.Places.{Closes, NoCloser, Reads, Whole}
use Rattle.reader_numerals.proofs.Steps.{step_to, at-end}
use Rattle.reader_judging.proofs.Forests.{count-more, words_more, none-counts, some_yet, not-none_yet}
use Rattle.reader_judging.proofs.Sorts.{missing, answered}

-- the fields up to a place where one is to begin, behind "(" at `at`, with d levels left
pub record Fields (d : ℕ) (t : List ℕ) (at w₀ w place fields : ℕ) : Type 0 where
  pub so_far : List Tree
  pub beyond : at ≤ place
  pub within : place ≤ length t
  pub counted : fields ≡ count (forest_of so_far)
  pub words : w ≡ w₀ + forest_words (forest_of so_far)
  pub words_fit : w + fields + at ≤ w₀ + place
  pub leads : (o : Open) → height o + (d + 1) ≡ max_depth → rest t (go (opened o)) at ≡ rest t (go (start (paren so_far o))) place

module _ (d : ℕ) (t : List ℕ) (at w : ℕ) where
  pub no_fields : at < length t → get_or t at 0 ≡ 41 → Whole opened 1 d t at w (at + 1) (w + 1)
  no_fields h e = record {
    stood = node end;
    beyond = omega arith;
    within = omega arith;
    words = omega (arith, none-counts);
    words_fit = omega arith;
    alone = λ z. absurd (omega (arith, none-counts));
    leads = λ o q. step_to t (go (opened o)) (go (whole (node end) o)) at h (rw e);
  }

  -- no closer: a field is to begin
  pub first_field : at ≤ length t → (at < length t → get_or t at 0 ≡ 41 → ⊥) → Fields d t at w w at 0
  first_field within z = record {
    so_far = [];
    beyond = omega arith;
    within = within;
    counted = sym none-counts.0;
    words = omega (arith, none-counts);
    words_fit = omega arith;
    leads = λ o q.
        ⊎_elim
        (λ (h : at < length t).
        step_to t (go (opened o)) _ at h (simp (ne_eqb (get_or t at 0) 41 (z h)))
        ∙ sym (step_to t (go (start (paren [] o))) _ at h refl))
        (λ (h : length t ≤ at).
        let e : at ≡ length t = omega arith in
        at-end t (go (opened o)) at e ∙ sym (at-end t (go (start (paren [] o))) at e))
        (decide at (length t));
  }

-- what may follow a field
follow-comma : (x : Tree) (ts : List Tree) (o : Open) (b : ℕ) → b ≡ 44 → follow x (paren ts o) b ≡ go (start (paren (ts ++ (x ∷ [])) o))
follow-comma x ts o b e = rw e

follow-closer : (x : Tree) (ts : List Tree) (o : Open) (b : ℕ) → b ≡ 41 → none_yet ts ≡ false
    → follow x (paren ts o) b ≡ go (whole (node (forest_of (ts ++ (x ∷ [])))) o)
follow-closer x ts o b e f = rw (e, f)

follow-none : (x : Tree) (ts : List Tree) (o : Open) (b : ℕ) → (b ≡ 44 → ⊥) → (b ≡ 41 → none_yet ts ≡ true)
    → follow x (paren ts o) b ≡ bad Why.Value
follow-none x ts o b z f =
    ⊎_elim
    (λ (e : b ≡ 41). rw (e, f e))
    (λ (e : b ≡ 41 → ⊥). simp (ne_eqb b 44 z, ne_eqb b 41 e))
    (same? b 41)

module _ (d : ℕ) (t : List ℕ) (at w₀ w place fields : ℕ) (so : Fields d t at w₀ w place fields) where
  module _ (p u : ℕ) (y : Whole start 0 d t place w p u) where
    on : (o : Open) → height o + (d + 1) ≡ max_depth
        → rest t (go (opened o)) at ≡ rest t (go (whole y.stood (paren so.so_far o))) p
    on o q = so.leads o q ∙ y.leads (paren so.so_far o) (omega arith)

    pub more-fields : (q : ℕ) → p < length t → get_or t p 0 ≡ 44 → q ≡ p + 1 → Fields d t at w₀ u q (fields + 1)
    more-fields i h e f =
        record {
          so_far = so.so_far ++ (y.stood ∷ []);
          beyond = omega (arith, so.beyond, y.beyond);
          within = omega arith;
          counted = omega (arith, so.counted, count-more so.so_far y.stood);
          words = omega (arith, so.words, y.words, words_more so.so_far y.stood);
          words_fit = omega (arith, so.words_fit, y.words_fit);
          leads = λ o q. on o q ∙ step_to t _ _ p h (follow-comma y.stood so.so_far o (get_or t p 0) e)
              ∙ ap (λ (j : ℕ). rest t (go (start (paren (so.so_far ++ (y.stood ∷ [])) o))) j) (sym f);
        }

    module _ (c : p < length t → get_or t p 0 ≡ 44 → ⊥) where
      -- one field alone has no parentheses
      alone : (k : Refusal) → NoCloser t p (fields + 1) k → p < length t → get_or t p 0 ≡ 41 → none_yet so.so_far ≡ true
      alone k lacks h b =
          ⊎_elim
          (λ (e : none_yet so.so_far ≡ true). e)
          (λ (e : none_yet so.so_far ≡ false).
          absurd (lacks.none (omega (arith, so.counted, some_yet so.so_far e)) h b))
          (by_test (none_yet so.so_far))

      pub closed : (r : Option ℕ) (f : Found) → Closes t p (fields + 1) u r f → Reads opened 1 d t at w₀ r f
      closed r f =
          answered r
          (λ lacks. record {
            stops = λ o q.
                on o q
                ∙ missing t (go (whole y.stood (paren so.so_far o))) p y.within refl
                (λ h. follow-none y.stood so.so_far o (get_or t p 0) (c h) (λ b. alone _ lacks h b))
                ∙ ap broken (sym lacks.is);
          })
          (λ e s. record {
            stood = node (forest_of (so.so_far ++ (y.stood ∷ [])));
            beyond = omega (arith, s.behind, so.beyond, y.beyond);
            within = omega (arith, s.within, s.behind);
            words = omega (arith, s.words, so.counted, so.words, y.words, count-more so.so_far y.stood, words_more so.so_far y.stood);
            words_fit = omega (arith, s.behind, s.words, so.words_fit, y.words_fit);
            alone = λ e. absurd (omega (arith, count-more so.so_far y.stood));
            leads = λ o q.
                on o q
                ∙ step_to t _ _ p s.within
                (follow-closer y.stood so.so_far o (get_or t p 0) s.is
                (not-none_yet so.so_far (omega (arith, s.two, so.counted))))
                ∙ ap (λ (i : ℕ). rest t (go (whole (node (forest_of (so.so_far ++ (y.stood ∷ [])))) o)) i) (sym s.behind);
          })
