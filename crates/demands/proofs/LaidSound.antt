-- The values of a tuple laid out in a sound state leave it sound.
use Prim.Native.Nat.{ℕ, zero, suc, ◌+◌, ◌-◌, ◌≤◌}
use native.Mathlib.Omega.{arith}
use mathlib.Core.Path.{◌≡◌, refl, sym, ap, ◌∙◌, subst}
use mathlib.Core.List.{[], ◌∷◌}
use lib.Seq.{get_or-set_other}
use Rattle.model.specs.declared.Half.{Half}
use Rattle.model.specs.declared.Kind.TheVariants.{Traced}
use Rattle.model.specs.Changes.{with_word, spare, appended, placed, laid, planted}
use Rattle.model.specs.Headers.{Layout, WritesBoth}
use Rattle.model.specs.Limits.{max_fields}
use Rattle.model.specs.Objects.{address, kind, field_count}
use Rattle.model.specs.Soundness.{headers}
use Rattle.model.specs.Trees.{Forest, end, leaf_then, node_then, Tree, leaf, node, count, forest_words, tree_words, ForestFits, TreeFits}
use Rattle.model.specs.Values.{tag}
use Rattle.model.specs.Words.{State, at, half_words_of, half_words, first_of, first_word, free}
use Rattle.demands.proofs.Integers.{tag_no_address}
use Rattle.theory.proofs.Keeping.{tile, field_no_header, root-sound, word_sound, word-headers}
use Rattle.theory.proofs.Laying.{Lays, lays_then, laid_lays, append_lays, word_lays}
use Rattle.theory.proofs.Members.{In, in_append_left, in_last}
use Rattle.demands.proofs.Placing.{append-header, append-other, append-headers, append-sound, place-sound}
use Rattle.theory.proofs.ReadThrough.{node-fits}
use Rattle.theory.proofs.Soundness.{SoundTests}
use Rattle.theory.proofs.Values.{address-value, plain_value}

pub inner_fits : (d : ℕ) (g : Forest) → TreeFits d (node g) → (e : ℕ) × ForestFits e g
inner_fits zero g a = absurd a
inner_fits (suc d) g a = (d, a)

-- of three runs of words that fit, the second fits behind the first and the third behind both
pub rest-fits : (a b c S T U : ℕ) → a + b + c ≤ S → T ≡ S - (a + 0) → U ≡ S - (a + 0 + b) → (a ≤ S) × (b ≤ T) × (c ≤ U)
rest-fits a b c S T U l e f = (omega arith, omega arith, omega arith)

-- the words that are left free
pub lays_spare : {n : ℕ} {s t : State} → Lays n s t → spare t ≡ spare s - n
lays_spare {n} {s} {t} l =
    let h : half_words t.heap ≡ half_words s.heap = ap half_words_of l.same_length in
    let f : first_word t ≡ first_word s =
    (ap (λ x. first_of x t.«record».half) h ∙ ap (λ (x : Half). first_of (half_words s.heap) x) l.same_half) in
    omega (arith, l.free_is)

module _ (Y : Layout) (law : WritesBoth Y) where
  -- the objects of s are objects of t, with the same headers
  pub record Grows (s t : State) : Type 0 where
    pub header : (y : ℕ) → In y (headers Y s) → In y (headers Y t)
    pub word : (y : ℕ) → In y (headers Y s) → at t.heap y ≡ at s.heap y

  grows_then : {s t u : State} → Grows s t → Grows t u → Grows s u
  grows_then a b = record {
    header = λ y i. b.header y (a.header y i);
    word = λ y i. b.word y (a.header y i) ∙ a.word y i;
  }

  -- a traced object at x, with room for n values from field k on
  pub record Holder (s : State) (x k n : ℕ) : Type 0 where
    pub header : In x (headers Y s)
    pub traced : kind Y s.heap x ≡ Traced
    pub room : k + n ≤ field_count Y s.heap x

  holder_grown : {s t : State} {x k n : ℕ} → Grows s t → Holder s x k n → Holder t x k n
  holder_grown {s} {t} {x} {k} {n} g h =
      let e = g.word x h.header in
      let c = ap (λ w. Y.count_of w) e in
      let r = h.room in
      record { header = g.header x h.header; traced = ap (λ w. Y.kind_of w) e ∙ h.traced; room = omega arith }

  holder_later : {s t : State} {x k n : ℕ} → Grows s t → Holder s x k (n + 1) → Holder t x (k + 1) n
  holder_later g h =
      let q = holder_grown g h in
      let r = q.room in
      record { header = q.header; traced = q.traced; room = omega arith }

  module _ (s : State) (h : SoundTests Y s) where
    -- one field's word
    word_grows : (x k i w : ℕ) → Holder s x k 1 → i ≡ x + 1 + k → Grows s (with_word s i w)
    word_grows x k i w o e =
        let r = o.room in
        subst (λ z. Grows s (with_word s z w)) (sym e) (record {
          header = λ y m. rw (word-headers Y s h x k w o.header (omega arith)) m;
          word = λ y m. get_or-set_other s.heap (x + 1 + k) y w 0 (field_no_header Y s h x k y o.header (omega arith) m);
        })

    append_grows : (n : ℕ) → n ≤ max_fields → n + 1 ≤ spare s → Grows s (appended Y Traced n s)
    append_grows n l f = record {
      header = λ y m. rw (append-headers Y law s h Traced n l f) (in_append_left y (headers Y s) (free s ∷ []) m);
      word = λ y m. append-other Y law s h Traced n l f y (λ e. let t = (tile Y s h y m).within in omega arith);
    }

    pub few : (n : ℕ) → n + 1 ≤ spare s → n ≤ max_fields
    few n f = omega (arith, h.shape.low, h.shape.small)

  -- the object that was placed last
  module _ (s : State) (h : SoundTests Y s) (n r : ℕ) (small : n ≤ max_fields) (fit : n + 1 ≤ spare s) where
    pub placed_holder : Holder (placed Y Traced n r s) (free s) 0 n
    unfolding placed
    placed_holder =
        let w = append-header Y law s h Traced n small fit in
        let c = ap (λ z. Y.count_of z) w ∙ (law Traced).counts n small in
        record {
          header = rw (append-headers Y law s h Traced n small fit) (in_last (free s) (headers Y s));
          traced = ap (λ z. Y.kind_of z) w ∙ (law Traced).kinds n small;
          room = omega arith;
        }

  pub placed-spare : (s : State) (n r : ℕ) → spare (placed Y Traced n r s) ≡ spare s - (n + 1)
  unfolding placed
  placed-spare s n r = lays_spare (append_lays Y s n)

  pub laid-sound : (f : Forest) (d x k i : ℕ) (s : State) → SoundTests Y s → Holder s x k (count f) → i ≡ x + 1 + k → ForestFits d f
      → forest_words f ≤ spare s → SoundTests Y (laid Y f i s) × Grows s (laid Y f i s)
  unfolding laid forest_words count
  laid-sound end d x k i s h o e a r = (h, record { header = λ y m. m; word = λ y m. refl })
  laid-sound (leaf_then v f) d x k i s h o e a r =
      let u = o.room in
      let o₁ : Holder s x k 1 = record { header = o.header; traced = o.traced; room = omega arith } in
      let s₁ = with_word s i (tag v) in
      let h₁ : SoundTests Y (with_word s i (tag v)) =
      subst (λ z. SoundTests Y (with_word s z (tag v))) (sym e)
      (word_sound Y s h x k (tag v) o.header (omega arith)
      (λ q. plain_value Y (headers Y s) (tag v) (tag_no_address v a.0))) in
      let g₁ = word_grows s h x k i (tag v) o₁ e in
      let ih = laid-sound f d x (k + 1) (i + 1) s₁ h₁ (holder_later g₁ o) (omega arith) a.1
      (omega (arith, lays_spare (word_lays Y s i (tag v)))) in
      (ih.0, grows_then g₁ ih.1)
  laid-sound (node_then g f) d x k i s h o e a r =
      let u = o.room in
      let n = count g in
      let b = node-fits d g f a in
      let s₀ = appended Y Traced (count g) s in
      let l₁ = lays_then (append_lays Y s (count g)) (word_lays Y s₀ i (address Y (free s))) in
      let fitting = rest-fits (count g + 1) (forest_words g) (forest_words f) (spare s) _ _ r (lays_spare l₁)
      (lays_spare (lays_then l₁ (laid_lays Y g (free s + 1) (with_word s₀ i (address Y (free s)))))) in
      let fit = fitting.0 in
      let small = few s h (count g) fit in
      let h₀ = append-sound Y law s h Traced (count g) small fit in
      let g₀ = append_grows s h (count g) small fit in
      let o₀ = holder_grown g₀ o in
      let u₀ = o₀.room in
      let in₀ : In (free s) (headers Y s₀) =
      rw (append-headers Y law s h Traced (count g) small fit) (in_last (free s) (headers Y s)) in
      let s₁ = with_word s₀ i (address Y (free s)) in
      let h₁ : SoundTests Y s₁ =
      subst (λ z. SoundTests Y (with_word s₀ z (address Y (free s)))) (sym e)
      (word_sound Y s₀ h₀ x k (address Y (free s)) o₀.header (omega arith)
      (λ q. address-value Y (headers Y s₀) (free s) in₀)) in
      let g₁ = word_grows s₀ h₀ x k i (address Y (free s))
      (record { header = o₀.header; traced = o₀.traced; room = omega arith }) e in
      let w = g₁.word (free s) in₀ ∙ append-header Y law s h Traced (count g) small fit in
      let c = ap (λ z. Y.count_of z) w ∙ (law Traced).counts (count g) small in
      let inner = inner_fits d g b.0 in
      let ih₂ = laid-sound g inner.0 (free s) 0 (free s + 1) s₁ h₁
      (record {
        header = g₁.header (free s) in₀;
        traced = ap (λ z. Y.kind_of z) w ∙ (law Traced).kinds (count g) small;
        room = omega arith;
      }) (omega arith) inner.1 fitting.1 in
      let s₂ = laid Y g (free s + 1) s₁ in
      let g₂ = grows_then g₁ ih₂.1 in
      let ih₃ = laid-sound f d x (k + 1) (i + 1) s₂ ih₂.0 (holder_later g₂ o₀) (omega arith) b.1 fitting.2 in
      (ih₃.0, grows_then (grows_then g₀ g₂) ih₃.1)

  -- a tree
  pub planted-sound : (t : Tree) (d r : ℕ) (s : State) → SoundTests Y s → TreeFits d t → tree_words t ≤ spare s
      → SoundTests Y (planted Y t r s)
  unfolding planted
  planted-sound (leaf v) d r s h a f = root-sound Y s h r (tag v) (plain_value Y (headers Y s) (tag v) (tag_no_address v a))
  planted-sound (node g) d r s h a f =
      let fit : count g + 1 ≤ spare s = omega arith in
      let small = few s h (count g) fit in
      let inner = inner_fits d g a in
      let s₁ = placed Y Traced (count g) r s in
      (laid-sound g inner.0 (free s) 0 (free s + 1) s₁ (place-sound Y law s h Traced (count g) small fit r)
      (placed_holder s h (count g) r small fit) (omega arith) inner.1
      (omega (arith, placed-spare s (count g) r))).0
