-- Tuples of one field that stand in each other: what opens them, what closes them, and what they count.
use Prim.Native.Nat.{ℕ, zero, suc, ◌+◌, ◌-◌, ◌*◌, ◌≤◌, ◌<◌}
use native.Mathlib.Omega.{arith}
use native.Mathlib.Numerals.{add-one}
use mathlib.Core.Path.{◌≡◌, refl, sym, ap, ◌∙◌}
use mathlib.Core.Bool.{Bool, true, false}
use mathlib.Core.List.{List}
use lib.ListN.{length, get_or}
use borrow.Author.Tests.{lt-leb, ne_eqb}
use Rattle.model.specs.Texts.{max_depth}
use Rattle.model.specs.Trees.{Tree, node, then, end, tree_words}
use Rattle.model.specs.ReadFaults as Faults
use Rattle.model.specs.Reading.{Open, brace, height, start, braced, numbered, whole, go, begin}
use Rattle.theory.proofs.Tests.{never}
use Rattle.reader_numerals.specs.Numerals.{rest}
use Rattle.model.specs.declared.Refusal.{Refusal}
use Rattle.model.specs.declared.Refusal.TheVariants as Why
use Rattle.reader_judging.specs.Places.{braces, wrapped, OpensOne, Opened, Closed, Refuses, Whole}
use Rattle.reader_numerals.proofs.Steps.{step_to}
use Rattle.reader_judging.proofs.Forests.{one-words}
use Rattle.reader_judging.proofs.Sorts.{missing}

begin-brace : (o : Open) (b : ℕ) → b ≡ 123 → height o < max_depth → begin max_depth o b ≡ go (braced o)
begin-brace o b e h = rw (e, lt-leb max_depth (height o) h)

-- ---- "{1="

module _ (t : List ℕ) (at : ℕ) where
  -- "{" is not
  pub no_brace : (r : Bool) → r ≡ false → (at < length t → get_or t at 0 ≡ 123 → ⊥) → OpensOne t at r
  no_brace r f z = record {
    within = λ e. never e f;
    leads = λ e. never e f;
    stuck = λ _ h b o l. absurd (z h b);
  }

  module _ (h : at < length t) (b : get_or t at 0 ≡ 123) where
    -- "1" is not
    pub no_one : (r : Bool) → r ≡ false → (at + 1 < length t → get_or t (at + 1) 0 ≡ 49 → ⊥) → OpensOne t at r
    no_one r f z = record {
      within = λ e. never e f;
      leads = λ e. never e f;
      stuck = λ _ _ _ o l.
          step_to t (go (start o)) (go (braced o)) at h (begin-brace o _ b l)
          ∙ missing t (go (braced o)) (at + 1) (omega arith) refl (λ i. simp (ne_eqb (get_or t (at + 1) 0) 49 (z i)));
    }

    -- "=" is, or is not
    pub equals : (r : Bool) → at + 1 < length t → get_or t (at + 1) 0 ≡ 49 → (r ≡ true → (at + 2 < length t) × (get_or t (at + 2) 0 ≡ 61))
        → (r ≡ false → at + 2 < length t → get_or t (at + 2) 0 ≡ 61 → ⊥) → OpensOne t at r
    equals r i one is not =
        let s : at + 1 + 1 ≡ at + 2 = omega arith in
        let u : at + 2 + 1 ≡ at + 3 = omega arith in
        let into : (o : Open) → height o < max_depth → rest t (go (start o)) at ≡ rest t (go (numbered o)) (at + 2) = λ o l.
        step_to t (go (start o)) (go (braced o)) at h (begin-brace o _ b l)
        ∙ step_to t (go (braced o)) (go (numbered o)) (at + 1) i (rw one)
        ∙ ap (λ (k : ℕ). rest t (go (numbered o)) k) s
        in
        record {
          within = λ e. omega (arith, (is e).0);
          leads = λ e o l.
              into o l
              ∙ step_to t (go (numbered o)) (go (start (brace o))) (at + 2) (is e).0 (rw (is e).1)
              ∙ ap (λ (k : ℕ). rest t (go (start (brace o))) k) u;
          stuck = λ e _ _ o l.
              into o l
              ∙ missing t (go (numbered o)) (at + 2) (omega arith) refl (λ j. simp (ne_eqb (get_or t (at + 2) 0) 61 (not e j)));
        }

-- ---- several of them

height-braces : (k : ℕ) (o : Open) → height (braces k o) ≡ height o + k
unfolding braces
height-braces zero o = omega arith
height-braces (suc k) o = omega (arith, height-braces k o)

braces-next : (k j : ℕ) (o : Open) → j ≡ suc k → braces j o ≡ brace (braces k o)
unfolding braces
braces-next k j o e = rw e

wrapped-next : (k j : ℕ) (x : Tree) → j ≡ suc k → wrapped j x ≡ node (then (wrapped k x) end)
unfolding wrapped
wrapped-next k j x e = rw e

-- k of them so far
pub record Opening (t : List ℕ) (at d k : ℕ) : Type 0 where
  pub most : k ≤ d
  pub within : at + 3 * k ≤ length t
  pub leads : (o : Open) → height o + d ≡ max_depth → rest t (go (start o)) at ≡ rest t (go (start (braces k o))) (at + 3 * k)

module _ (t : List ℕ) (at d : ℕ) where
  pub none-opened : at ≤ length t → Opening t at d 0
  unfolding braces
  none-opened h =
      let e : at + 3 * 0 ≡ at = omega arith in
      record { most = omega arith; within = omega arith; leads = λ o q. ap (λ (i : ℕ). rest t (go (start o)) i) (sym e) }

  module _ (k : ℕ) (so : Opening t at d k) where
    pub one-opened : (r : Bool) → OpensOne t (at + 3 * k) r → r ≡ true → k < d → Opening t at d (k + 1)
    one-opened r one e m = record {
      most = omega arith;
      within = omega (arith, one.within e);
      leads = λ o q.
          so.leads o q
          ∙ one.leads e (braces k o) (omega (arith, height-braces k o))
          ∙ ap (λ (p : Open). rest t (go (start p)) (at + 3 * k + 3)) (sym (braces-next k (k + 1) o (add-one k)))
          ∙ ap (λ (i : ℕ). rest t (go (start (braces (k + 1) o))) i) (let f : at + 3 * k + 3 ≡ at + 3 * (k + 1) = omega arith in f);
    }

    pub no_more-opened : OpensOne t (at + 3 * k) false → Opened t at d k
    no_more-opened one = record {
      most = so.most;
      within = so.within;
      leads = so.leads;
      stuck = record { stuck = λ _ h b o l. one.stuck refl h b o l };
    }

    pub all-opened : k ≡ d → Opened t at d k
    all-opened e = record {
      most = so.most;
      within = so.within;
      leads = so.leads;
      stuck = record { stuck = λ more _ _ _ _. absurd (omega arith) };
    }

-- ---- "}"

-- j of k closers
pub record Closing (t : List ℕ) (at k j : ℕ) : Type 0 where
  pub within : at + j ≤ length t
  pub leads : (x : Tree) (o : Open)
      → rest t (go (whole x (braces k o))) at ≡ rest t (go (whole (wrapped j x) (braces (k - j) o))) (at + j)

module _ (t : List ℕ) (at k : ℕ) where
  pub none_closed : at ≤ length t → Closing t at k 0
  unfolding wrapped
  none_closed h =
      let e : at + 0 ≡ at = omega arith in
      let f : k - 0 ≡ k = omega arith in
      record {
        within = omega arith;
        leads = λ x o.
            ap (λ (i : ℕ). rest t (go (whole x (braces k o))) i) (sym e)
            ∙ ap (λ (i : ℕ). rest t (go (whole x (braces i o))) (at + 0)) (sym f);
      }

  module _ (j : ℕ) (so : Closing t at k j) where
    next : (x : Tree) (o : Open) → j < k
        → rest t (go (whole (wrapped j x) (braces (k - j) o))) (at + j) ≡ rest t (go (whole (wrapped j x) (brace (braces (k - (j + 1)) o)))) (at + j)
    next x o m =
        ap (λ (p : Open). rest t (go (whole (wrapped j x) p)) (at + j)) (braces-next (k - (j + 1)) (k - j) o (omega arith))

    pub no_closer : j < k → (at + j < length t → get_or t (at + j) 0 ≡ 125 → ⊥) → Closed t at k false
    no_closer m z = record {
      stops = λ _ x o.
          so.leads x o ∙ next x o m
          ∙ missing t (go (whole (wrapped j x) (brace (braces (k - (j + 1)) o)))) (at + j) so.within refl
          (λ h. simp (ne_eqb (get_or t (at + j) 0) 125 (z h)));
      within = λ e. never e refl;
      leads = λ e. never e refl;
    }

    pub one_closed : j < k → at + j < length t → get_or t (at + j) 0 ≡ 125 → Closing t at k (j + 1)
    one_closed m h b = record {
      within = omega arith;
      leads = λ x o.
          so.leads x o ∙ next x o m
          ∙ step_to t (go (whole (wrapped j x) (brace (braces (k - (j + 1)) o)))) _ (at + j) h (rw b)
          ∙ ap (λ (y : Tree). rest t (go (whole y (braces (k - (j + 1)) o))) (at + j + 1)) (sym (wrapped-next j (j + 1) x (add-one j)))
          ∙ ap (λ (i : ℕ). rest t (go (whole (wrapped (j + 1) x) (braces (k - (j + 1)) o))) i) (let e : at + j + 1 ≡ at + (j + 1) = omega arith in e);
    }

    pub all_closed : j ≡ k → Closed t at k true
    unfolding braces
    all_closed e =
        let f : k - j ≡ 0 = omega arith in
        record {
          stops = λ z. never refl z;
          within = λ _. omega (arith, so.within);
          leads = λ _ x o.
              so.leads x o
              ∙ ap (λ (i : ℕ). rest t (go (whole (wrapped j x) (braces i o))) (at + j)) f
              ∙ ap (λ (i : ℕ). rest t (go (whole (wrapped i x) o)) (at + i)) e;
        }

-- ---- all of it

wrapped-words : (k : ℕ) (x : Tree) → tree_words (wrapped k x) ≡ tree_words x + 2 * k
unfolding wrapped
wrapped-words zero x = omega arith
wrapped-words (suc k) x = omega (arith, one-words (wrapped k x), wrapped-words k x)

module _ (d : ℕ) (t : List ℕ) (at w k : ℕ) (opened : Opened t at d k) where
  inside : (o : Open) → height o + (d + 0) ≡ max_depth → height (braces k o) + (d - k + 0) ≡ max_depth
  inside o q = omega (arith, opened.most, height-braces k o)

  into : (o : Open) → height o + (d + 0) ≡ max_depth → rest t (go (start o)) at ≡ rest t (go (start (braces k o))) (at + 3 * k)
  into o q = opened.leads o (omega arith)

  pub no_inner : (why : Refusal) → Refuses start 0 (d - k) t (at + 3 * k) why → Refuses start 0 d t at why
  no_inner why read = record { stops = λ o q. into o q ∙ read.stops (braces k o) (inside o q) }

  module _ (p u : ℕ) (y : Whole start 0 (d - k) t (at + 3 * k) w p u) where
    pub not_closed : (b : Bool) → Closed t p k b → b ≡ false → Refuses start 0 d t at Why.Value
    not_closed b closed e = record { stops = λ o q. into o q ∙ y.leads (braces k o) (inside o q) ∙ closed.stops e y.stood o }

    pub a_chain : (b : Bool) → Closed t p k b → b ≡ true → (r w' : ℕ) → r ≡ p + k → w' ≡ u + 2 * k → Whole start 0 d t at w r w'
    a_chain b closed e r w' g f =
        let ww = wrapped-words k y.stood in
        record {
          stood = wrapped k y.stood;
          beyond = omega (arith, y.beyond);
          within = omega (arith, closed.within e);
          words = omega (arith, y.words);
          words_fit = omega (arith, y.words_fit);
          alone = λ q.
              let none : k ≡ 0 = omega arith in
              let here : at + 3 * k ≡ at = omega arith in
              (refl, ap (λ (i : ℕ). Faults.opens (get_or t i 0)) (sym here) ∙ (y.alone (omega arith)).1);
          leads = λ o q. into o q ∙ y.leads (braces k o) (inside o q) ∙ closed.leads e y.stood o
              ∙ ap (λ (i : ℕ). rest t (go (whole (wrapped k y.stood) o)) i) (sym g);
        }
