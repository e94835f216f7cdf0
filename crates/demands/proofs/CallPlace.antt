-- A new object in the heap and in the graph that it stands for.
use Prim.Native.Nat.{ℕ, ◌+◌, ◌≤◌, ◌<◌}
use native.Mathlib.Omega.{arith}
use mathlib.Core.Path.{◌≡◌, refl, sym, ap, ◌∙◌, subst}
use mathlib.Core.Logic.{⊎_elim}
use mathlib.Core.Bool.{cond}
use mathlib.Core.List.{List, [], ◌∷◌, ◌++◌}
use lib.Dec.{eqb}
use lib.ListN.{length, get_or, replicate, length-append, length-replicate, get_or-replicate, get_or-append}
use lib.Seq.{get_or-append_seam}
use borrow.Author.Tests.{eq-eqb, ne_eqb}
use Rattle.model.specs.declared.Kind.{Kind}
use Rattle.model.specs.declared.Kind.TheVariants.{Traced, Untraced}
use Rattle.model.specs.Changes.{spare, appended, placed}
use Rattle.model.specs.Graph.{null, Value, plain, object, Object, traced, untraced, Graph, nth, root_value}
use Rattle.model.specs.GraphCalls.{blank_object, with_blank, grown}
use Rattle.model.specs.Headers.{Layout, WritesBoth}
use Rattle.model.specs.Limits.{max_fields}
use Rattle.model.specs.Objects.{address, size}
use Rattle.model.specs.Soundness.{headers}
use Rattle.model.specs.Words.{State, at, free}
use Rattle.demands.proofs.CallsOnFields.{holds_kept}
use Rattle.demands.proofs.CallsOnRoots.{root_represents, root_kept, root-place}
use Rattle.theory.proofs.Deciding.{tests_sound}
use Rattle.theory.proofs.Keeping.{tile}
use Rattle.theory.proofs.Members.{In, in_append_left, in_snoc, in_last}
use Rattle.demands.proofs.Placing.{append-header, append-other, append-headers, append-sound}
use Rattle.model.specs.Represents.{Encodes, Holds, Represents}
use Rattle.demands.proofs.Represents.{parts}

module _ (Y : Layout) (law : WritesBoth Y) where
  module _ (s : State) (g : Graph) (m : Represents Y s g) (k : Kind) (n : ℕ) (small : n ≤ max_fields)
      (fit : n + 1 ≤ spare s) where
    abbrev N : ℕ
    N = length g.objects

    abbrev kept⁺ : List ℕ
    kept⁺ = m.kept ++ (length g.objects ∷ [])

    abbrev header_of⁺ : ℕ → ℕ
    header_of⁺ x = cond (eqb x (length g.objects)) (free s) (m.header_of x)

    abbrev g⁺ : Graph
    g⁺ = with_blank k n g

    abbrev s⁺ : State
    s⁺ = appended Y k n s

    old_pl : (x : ℕ) → In x m.kept → header_of⁺ x ≡ m.header_of x
    old_pl x i = rw (ne_eqb x (length g.objects) (λ e. let z = m.known x i in omega arith))

    new_pl : header_of⁺ (length g.objects) ≡ free s
    new_pl = rw (eq-eqb (length g.objects) (length g.objects) refl)

    under : (x : ℕ) → In x m.kept → m.header_of x + size Y s.heap (m.header_of x) ≤ free s
    under x i = (tile Y s (parts m) (m.header_of x) (m.head x i)).within

    rep_more : (v : Value) (w : ℕ) → Encodes Y m.kept m.header_of v w → Encodes Y kept⁺ header_of⁺ v w
    rep_more (plain p) w e = e
    rep_more (object x) w e =
        (in_append_left x m.kept (length g.objects ∷ []) e.0, e.1 ∙ ap (address Y) (sym (old_pl x e.0)))

    holds_more : (b : Object) (i : ℕ) → Holds Y m.kept m.header_of s.heap b i
        → Holds Y kept⁺ header_of⁺ s.heap b i
    holds_more (traced vs) i h =
        (h.0, h.1, λ f l. rep_more (get_or vs f (plain null)) (at s.heap (i + 1 + f)) (h.2 f l))
    holds_more (untraced ws) i h = h

    old_holds : (x : ℕ) → In x m.kept → Holds Y kept⁺ header_of⁺ s⁺.heap (nth g x) (m.header_of x)
    old_holds x i =
        let u = under x i in
        holds_kept Y kept⁺ header_of⁺ s.heap s⁺.heap (nth g x) (m.header_of x)
        (append-other Y law s (parts m) k n small fit (m.header_of x) (λ e. omega arith))
        (λ f l. append-other Y law s (parts m) k n small fit (m.header_of x + 1 + f) (λ e. omega arith))
        (holds_more (nth g x) (m.header_of x) (m.holds x i))

    -- the new object's words
    field-zero : (f : ℕ) → f < n → at s⁺.heap (free s + 1 + f) ≡ 0
    field-zero f l =
        append-other Y law s (parts m) k n small fit (free s + 1 + f) (λ e. omega arith)
        ∙ (parts m).rest (free s + 1 + f) (omega arith) (omega (arith, (parts m).shape.low))

    new_holds : (j : Kind) → k ≡ j → Holds Y kept⁺ header_of⁺ s⁺.heap (blank_object j n) (free s)
    new_holds Traced e =
        let h = append-header Y law s (parts m) k n small fit in
        let z : length {A = Value} (replicate n (plain null)) ≡ n = length-replicate n (plain null) in (
          ap (λ w. Y.kind_of w) h ∙ (law k).kinds n small ∙ e,
          ap (λ w. Y.count_of w) h ∙ (law k).counts n small ∙ sym z,
          λ f l. rw (get_or-replicate n f (plain null) (plain null) (omega arith)) (refl, field-zero f (omega arith)),
        )
    new_holds Untraced e =
        let h = append-header Y law s (parts m) k n small fit in
        let z : length {A = ℕ} (replicate n 0) ≡ n = length-replicate n 0 in (
          ap (λ w. Y.kind_of w) h ∙ (law k).kinds n small ∙ e,
          ap (λ w. Y.count_of w) h ∙ (law k).counts n small ∙ sym z,
          λ f l. field-zero f (omega arith) ∙ sym (get_or-replicate n f 0 0 (omega arith)),
        )

    pub append_represents : Represents Y s⁺ g⁺
    append_represents = record {
      ok = tests_sound Y s⁺ (append-sound Y law s (parts m) k n small fit);
      kept = kept⁺;
      header_of = header_of⁺;
      text = m.text;
      known = λ x i.
          let a = length-append g.objects (blank_object k n ∷ []) in
          ⊎_elim (λ (j : In x m.kept). omega (arith, m.known x j)) (λ (e : x ≡ length g.objects). omega arith)
          (in_snoc x (length g.objects) m.kept i);
      head = λ x i.
          rw (append-headers Y law s (parts m) k n small fit)
          (⊎_elim
          (λ (j : In x m.kept). rw (old_pl x j) (in_append_left (m.header_of x) (headers Y s) (free s ∷ []) (m.head x j)))
          (λ (e : x ≡ length g.objects). rw (e, new_pl) (in_last (free s) (headers Y s)))
          (in_snoc x (length g.objects) m.kept i));
      apart = λ x y i j e.
          ⊎_elim
          (λ (a : In x m.kept).
          ⊎_elim
          (λ (b : In y m.kept). m.apart x y a b (sym (old_pl x a) ∙ e ∙ old_pl y b))
          (λ (b : y ≡ length g.objects).
          let q : m.header_of x ≡ free s = sym (old_pl x a) ∙ e ∙ ap header_of⁺ b ∙ new_pl in
          let u = under x a in absurd (omega arith))
          (in_snoc y (length g.objects) m.kept j))
          (λ (a : x ≡ length g.objects).
          ⊎_elim
          (λ (b : In y m.kept).
          let q : m.header_of y ≡ free s = sym (old_pl y b) ∙ sym e ∙ ap header_of⁺ a ∙ new_pl in
          let u = under y b in absurd (omega arith))
          (λ (b : y ≡ length g.objects). a ∙ sym b)
          (in_snoc y (length g.objects) m.kept j))
          (in_snoc x (length g.objects) m.kept i);
      count = m.count;
      roots = λ q l. rep_more (root_value g q) (at s.roots q) (m.roots q l);
      holds = λ x i.
          ⊎_elim
          (λ (j : In x m.kept).
          rw (old_pl x j, get_or-append g.objects (blank_object k n ∷ []) (traced []) x (m.known x j)) (old_holds x j))
          (λ (e : x ≡ length g.objects).
          subst (λ z. Holds Y kept⁺ header_of⁺ s⁺.heap (get_or (g.objects ++ (blank_object k n ∷ [])) z (traced [])) (header_of⁺ z)) (sym e)
          (rw (new_pl, get_or-append_seam g.objects (blank_object k n) [] (traced [])) (new_holds k refl)))
          (in_snoc x (length g.objects) m.kept i);
    }

    -- what was kept is kept where it was, and the new object at the free index
    pub append-kept : (x : ℕ) → In x m.kept → In x append_represents.kept
    unfolding append_represents
    append-kept x i = in_append_left x m.kept (length g.objects ∷ []) i

    pub append-place : (x : ℕ) → In x m.kept → append_represents.header_of x ≡ m.header_of x
    unfolding append_represents
    append-place x i = old_pl x i

    pub new_kept : In (length g.objects) append_represents.kept
    unfolding append_represents
    new_kept = in_last (length g.objects) m.kept

    pub new_place : append_represents.header_of (length g.objects) ≡ free s
    unfolding append_represents
    new_place = new_pl

    -- and a root names it
    pub place_represents : (r : ℕ) → Represents Y (placed Y k n r s) (grown k n r g)
    unfolding placed
    place_represents r =
        root_represents Y s⁺ g⁺ append_represents r (address Y (free s)) (object (length g.objects))
        (new_kept, ap (address Y) (sym new_place))

    pub placed-kept : (r : ℕ) → In (length g.objects) (place_represents r).kept
    unfolding place_represents
    placed-kept r = root_kept Y s⁺ g⁺ append_represents r (address Y (free s)) (object (length g.objects)) _ (length g.objects) new_kept

    pub placed-place : (r : ℕ) → (place_represents r).header_of (length g.objects) ≡ free s
    unfolding place_represents
    placed-place r =
        root-place Y s⁺ g⁺ append_represents r (address Y (free s)) (object (length g.objects)) _ (length g.objects) ∙ new_place
