-- The values of a tuple laid out: what changes and what does not, word by word.
use Prim.Native.Nat.{ℕ, ◌+◌, ◌≤◌, ◌<◌}
use native.Mathlib.Omega.{arith}
use native.Mathlib.Nat.{add-zero}
use mathlib.Core.Path.{◌≡◌, refl, sym, ap, ◌∙◌, subst}
use mathlib.Core.Logic.{⊎_elim}
use mathlib.Core.List.{List, ◌∷◌}
use lib.ListN.{length, replicate, length-set, length-replicate}
use lib.Seq.{length-sets, get_or-set_same, get_or-set_other}
use Rattle.model.specs.declared.Kind.TheVariants.{Traced}
use Rattle.model.specs.Changes.{with_word, appended, laid}
use Rattle.model.specs.Effects.{Laid}
use Rattle.model.specs.Headers.{Layout}
use Rattle.model.specs.Objects.{address}
use Rattle.model.specs.Trees.{Forest, end, leaf_then, node_then, count, forest_words}
use Rattle.model.specs.Values.{tag}
use Rattle.model.specs.Words.{State, at, free}
use Rattle.theory.proofs.Lists.{sets-before, sets_in, sets-past}
use Rattle.theory.proofs.Tests.{decide}

-- all but the heap's words and the free index is as it was
pub record Lays (n : ℕ) (s t : State) : Type 0 where
  pub free_is : free t ≡ free s + n
  pub same_half : t.«record».half ≡ s.«record».half
  pub same_roots : t.roots ≡ s.roots
  pub same_text : t.text ≡ s.text
  pub same_length : length t.heap ≡ length s.heap

pub lays_then : {m n : ℕ} {s t u : State} → Lays m s t → Lays n t u → Lays (m + n) s u
lays_then a b = record {
  free_is = b.free_is ∙ omega (arith, a.free_is);
  same_half = b.same_half ∙ a.same_half;
  same_roots = b.same_roots ∙ a.same_roots;
  same_text = b.same_text ∙ a.same_text;
  same_length = b.same_length ∙ a.same_length;
}

-- a word is outside n words from i on
pub data Out (j i n : ℕ) : Type 0 where
  before : j < i → Out j i n
  past : i + n ≤ j → Out j i n

out_less : {j i n : ℕ} (i' n' : ℕ) → Out j i n → i ≤ i' → i' + n' ≤ i + n → Out j i' n'
out_less i' n' (before a) l u = before (omega arith)
out_less i' n' (past a) l u = past (omega arith)

out_one : {j i n : ℕ} (k : ℕ) → Out j i n → i ≤ k → k < i + n → j ≡ k → ⊥
out_one k (before a) l u e = omega arith
out_one k (past a) l u e = omega arith

module _ (Y : Layout) where
  -- one word, and one object
  pub word_lays : (s : State) (i w : ℕ) → Lays 0 s (with_word s i w)
  word_lays s i w = record {
    free_is = omega arith;
    same_half = refl;
    same_roots = refl;
    same_text = refl;
    same_length = length-set s.heap i w;
  }

  pub append_lays : (s : State) (n : ℕ) → Lays (n + 1) s (appended Y Traced n s)
  append_lays s n = record {
    free_is = refl;
    same_half = refl;
    same_roots = refl;
    same_text = refl;
    same_length = length-sets s.heap (free s) (Y.header Traced n ∷ replicate n 0);
  }

  lays_by : {m n : ℕ} {s t : State} → m ≡ n → Lays m s t → Lays n s t
  lays_by {m} {n} {s} {t} e a = subst (λ z. Lays z s t) e a

  pub laid_lays : (f : Forest) (i : ℕ) (s : State) → Lays (forest_words f) s (laid Y f i s)
  unfolding laid forest_words
  laid_lays end i s =
      record { free_is = omega arith; same_half = refl; same_roots = refl; same_text = refl; same_length = refl }
  laid_lays (leaf_then v f) i s =
      lays_by (omega arith) (lays_then (word_lays s i (tag v)) (laid_lays f (i + 1) (with_word s i (tag v))))
  laid_lays (node_then g f) i s =
      let s₁ = with_word (appended Y Traced (count g) s) i (address Y (free s)) in
      let s₂ = laid Y g (free s + 1) s₁ in
      lays_by (omega arith)
      (lays_then (lays_then (lays_then (append_lays s (count g)) (word_lays (appended Y Traced (count g) s) i (address Y (free s))))
      (laid_lays g (free s + 1) s₁)) (laid_lays f (i + 1) s₂))

  -- ---- no other word changes

  append_frame : (s : State) (n j : ℕ) → Out j (free s) (n + 1) → at (appended Y Traced n s).heap j ≡ at s.heap j
  append_frame s n j (before a) = sets-before s.heap (free s) (Y.header Traced n ∷ replicate n 0) j a
  append_frame s n j (past a) =
      let z : length {A = ℕ} (replicate n 0) ≡ n = length-replicate n 0 in
      sets-past s.heap (free s) (Y.header Traced n ∷ replicate n 0) j (omega arith)

  pub laid_frame : (f : Forest) (i : ℕ) (s : State) (j : ℕ) → Out j i (count f) → Out j (free s) (forest_words f)
      → at (laid Y f i s).heap j ≡ at s.heap j
  unfolding laid forest_words count
  laid_frame end i s j a b = refl
  laid_frame (leaf_then v f) i s j a b =
      laid_frame f (i + 1) (with_word s i (tag v)) j (out_less (i + 1) (count f) a (omega arith) (omega arith)) b
      ∙ get_or-set_other s.heap i j (tag v) 0 (out_one i a (omega arith) (omega arith))
  laid_frame (node_then g f) i s j a b =
      let s₁ = with_word (appended Y Traced (count g) s) i (address Y (free s)) in
      let s₂ = laid Y g (free s + 1) s₁ in
      let l = (laid_lays g (free s + 1) s₁).free_is in
      laid_frame f (i + 1) s₂ j (out_less (i + 1) (count f) a (omega arith) (omega arith))
      (out_less (free s₂) (forest_words f) b (omega arith) (omega arith))
      ∙ laid_frame g (free s + 1) s₁ j (out_less (free s + 1) (count g) b (omega arith) (omega arith))
      (out_less (free s + (count g + 1)) (forest_words g) b (omega arith) (omega arith))
      ∙ get_or-set_other (appended Y Traced (count g) s).heap i j (address Y (free s)) 0 (out_one i a (omega arith) (omega arith))
      ∙ append_frame s (count g) j (out_less (free s) (count g + 1) b (omega arith) (omega arith))

  -- ---- and these are the words

  pub laid_end : (H : List ℕ) (f : Forest) (i b e : ℕ) → Laid Y H f i b e → e ≡ b + forest_words f
  unfolding forest_words
  laid_end H end i b e l = omega arith
  laid_end H (leaf_then v f) i b e l = laid_end H f (i + 1) b e l.1
  laid_end H (node_then g f) i b e l =
      let c = l.2.0 in
      let x = laid_end H g (b + 1) (b + (count g + 1)) c l.2.1 in
      let y = laid_end H f (i + 1) c e l.2.2 in
      omega arith

  -- two heaps that agree on them
  abbrev Agree : List ℕ → List ℕ → ℕ → ℕ → Type 0
  Agree H H' i n = (j : ℕ) → i ≤ j → j < i + n → at H' j ≡ at H j

  laid_agree : (H H' : List ℕ) (f : Forest) (i b e : ℕ) → Laid Y H f i b e → Agree H H' i (count f) → Agree H H' b (forest_words f)
      → Laid Y H' f i b e
  unfolding forest_words count
  laid_agree H H' end i b e l a c = l
  laid_agree H H' (leaf_then v f) i b e l a c =
      (a i (omega arith) (omega arith) ∙ l.0, laid_agree H H' f (i + 1) b e l.1 (λ j x y. a j (omega arith) (omega arith)) c)
  laid_agree H H' (node_then g f) i b e l a c =
      let d = l.2.0 in
      let x = laid_end H g (b + 1) (b + (count g + 1)) d l.2.1 in (
        a i (omega arith) (omega arith) ∙ l.0,
        c b (omega arith) (omega arith) ∙ l.1,
        (
          d,
          laid_agree H H' g (b + 1) (b + (count g + 1)) d l.2.1 (λ j u v. c j (omega arith) (omega arith)) (λ j u v. c j (omega arith) (omega arith)),
          laid_agree H H' f (i + 1) d e l.2.2 (λ j u v. a j (omega arith) (omega arith)) (λ j u v. c j (omega arith) (omega arith)),
        ),
      )

  -- which leave no choice
  abbrev pub Same : List ℕ → List ℕ → ℕ → ℕ → Type 0
  Same H H' i e = (j : ℕ) → i ≤ j → j < e → at H j ≡ at H' j

  pub laid_same : (H H' : List ℕ) (f : Forest) (i b e e' : ℕ) → Laid Y H f i b e → Laid Y H' f i b e'
      → (e ≡ e') × Same H H' i (i + count f) × Same H H' b e
  unfolding count
  laid_same H H' end i b e e' l m = (l ∙ sym m, (λ j x y. absurd (omega arith)), (λ j x y. absurd (omega arith)))
  laid_same H H' (leaf_then v f) i b e e' l m =
      let ih = laid_same H H' f (i + 1) b e e' l.1 m.1 in (
        ih.0,
        λ j x y.
            ⊎_elim (λ (a : i < j). ih.1 j (omega arith) (omega arith))
            (λ (a : j ≤ i). let z : j ≡ i = omega arith in ap (λ n. at H n) z ∙ l.0 ∙ sym m.0 ∙ sym (ap (λ n. at H' n) z))
            (decide i j),
        ih.2,
      )
  laid_same H H' (node_then g f) i b e e' l m =
      let c = l.2.0 in
      let p = laid_same H H' g (b + 1) (b + (count g + 1)) c m.2.0 l.2.1 m.2.1 in
      let q = laid_same H H' f (i + 1) c e e' l.2.2 (subst (λ n. Laid Y H' f (i + 1) n e') (sym p.0) m.2.2) in (
        q.0,
        λ j x y.
            ⊎_elim (λ (a : i < j). q.1 j (omega arith) (omega arith))
            (λ (a : j ≤ i). let z : j ≡ i = omega arith in ap (λ n. at H n) z ∙ l.0 ∙ sym m.0 ∙ sym (ap (λ n. at H' n) z))
            (decide i j),
        λ j x y.
            ⊎_elim
            (λ (a : j < c).
            ⊎_elim
            (λ (u : j < b + (count g + 1)).
            ⊎_elim (λ (w : b < j). p.1 j (omega arith) (omega arith))
            (λ (w : j ≤ b). let z : j ≡ b = omega arith in ap (λ n. at H n) z ∙ l.1 ∙ sym m.1 ∙ sym (ap (λ n. at H' n) z))
            (decide b j))
            (λ (u : b + (count g + 1) ≤ j). p.2 j u a)
            (decide j (b + (count g + 1))))
            (λ (a : c ≤ j). q.2 j a y)
            (decide j c),
      )

  pub laid-laid : (f : Forest) (i : ℕ) (s : State) → i + count f ≤ free s → free s + forest_words f ≤ length s.heap
      → Laid Y (laid Y f i s).heap f i (free s) (free (laid Y f i s))
  unfolding laid forest_words count
  laid-laid end i s l r = refl
  laid-laid (leaf_then v f) i s l r =
      let s₁ = with_word s i (tag v) in
      let n = length-set s.heap i (tag v) in (
        laid_frame f (i + 1) s₁ i (before (omega arith)) (before (omega arith)) ∙ get_or-set_same s.heap i (tag v) 0 (omega arith),
        laid-laid f (i + 1) s₁ (omega arith) (omega arith),
      )
  laid-laid (node_then g f) i s l r =
      let b = free s in
      let s₀ = appended Y Traced (count g) s in
      let s₁ = with_word s₀ i (address Y (free s)) in
      let s₂ = laid Y g (free s + 1) s₁ in
      let q = laid_lays g (free s + 1) s₁ in
      let w = length-sets s.heap (free s) (Y.header Traced (count g) ∷ replicate (count g) 0) in
      let n = length-set s₀.heap i (address Y (free s)) in
      let z : length {A = ℕ} (replicate (count g) 0) ≡ count g = length-replicate (count g) 0 in (
        laid_frame f (i + 1) s₂ i (before (omega arith)) (before (omega (arith, q.free_is)))
            ∙ laid_frame g (free s + 1) s₁ i (before (omega arith)) (before (omega arith))
            ∙ get_or-set_same s₀.heap i (address Y (free s)) 0 (omega arith),
        laid_frame f (i + 1) s₂ (free s) (past (omega arith)) (before (omega (arith, q.free_is)))
            ∙ laid_frame g (free s + 1) s₁ (free s) (before (omega arith)) (before (omega arith))
            ∙ get_or-set_other s₀.heap i (free s) (address Y (free s)) 0 (λ e. omega arith)
            ∙ ap (λ x. at s₀.heap x) (sym (add-zero (free s)))
            ∙ sets_in s.heap (free s) (Y.header Traced (count g) ∷ replicate (count g) 0) 0 (omega arith) (omega arith),
        (
          free s₂,
          laid_agree s₂.heap _ g (free s + 1) (free s + (count g + 1)) (free s₂)
              (laid-laid g (free s + 1) s₁ (omega arith) (omega arith))
              (λ j u v. laid_frame f (i + 1) s₂ j (past (omega arith)) (before (omega (arith, q.free_is))))
              (λ j u v. laid_frame f (i + 1) s₂ j (past (omega arith)) (before (omega (arith, q.free_is)))),
          laid-laid f (i + 1) s₂ (omega (arith, q.free_is)) (omega (arith, q.free_is, q.same_length)),
        ),
      )
