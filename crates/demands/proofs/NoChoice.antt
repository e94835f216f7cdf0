-- Demand 2 leaves no choice: what a collection may leave of a state is one state, and what it answers the same three numbers.
use Prim.Native.Nat.{ℕ, ◌+◌, ◌-◌, ◌≤◌, ◌<◌}
use native.Mathlib.Omega.{arith}
use mathlib.Core.Path.{◌≡◌, sym, ap, ◌∙◌, subst}
use mathlib.Core.Logic.{⊎_elim}
use mathlib.Core.Bool.{true, false}
use lib.ListN.{length}
use lib.Seq.{ext_get_or}
use Rattle.model.specs.declared.Counts.{Counts}
use Rattle.model.specs.Collection.{order}
use Rattle.model.specs.Demand2 as D
use Rattle.model.specs.Headers.{Layout}
use Rattle.model.specs.Objects.{kind, field_count, size, field_index}
use Rattle.model.specs.Values.{is_address}
use Rattle.model.specs.Words.{State, at, first_word, free}
use Rattle.theory.proofs.Deciding.{sound_tests}
use Rattle.theory.proofs.Members.{In, map_in_out, in_mem}
use Rattle.demands.proofs.Same.{same_record_lem, same-counts, same-state, first-same, object-words, words_same}
use Rattle.theory.proofs.Tests.{by_test}
use Rattle.theory.proofs.Tiling.{headers_cover}
use Rattle.theory.proofs.WordSorts.{became_stays}

module _ (Y : Layout) (s : State) where
  became_same : (w a b : ℕ) → D.Became Y s w a → D.Became Y s w b → a ≡ b
  became_same w a b x y =
      ⊎_elim
      (λ (p : is_address w ≡ true). x.moves p ∙ sym (y.moves p))
      (λ (p : is_address w ≡ false). became_stays Y s w a x p ∙ sym (became_stays Y s w b y p))
      (by_test (is_address w))

  module _ (t t' : State) (n n' : Counts) (c : D.Collects Y s t n) (c' : D.Collects Y s t' n') where
    -- each number is said of every list of the reachable objects, and so of the order
    same_live : n.live ≡ n'.live
    same_live = c.live (order Y s) c.lists ∙ sym (c'.live (order Y s) c.lists)

    one-counts : n ≡ n'
    one-counts =
        same-counts n n' same_live
        (c.objects (order Y s) c.lists ∙ sym (c'.objects (order Y s) c.lists))
        (c.addresses (order Y s) c.lists ∙ sym (c'.addresses (order Y s) c.lists))

    same_half : t.«record».half ≡ t'.«record».half
    same_half = c.other_half ∙ sym c'.other_half

    same_length : length t.heap ≡ length t'.heap
    same_length = c.same_length ∙ sym c'.same_length

    same_first : first_word t ≡ first_word t'
    same_first = first-same t t' same_half same_length

    same-free : free t ≡ free t'
    same-free = omega (arith, c.used, c'.used, same_first, same_live)

    -- a word of the copy of x
    copy-same : (x m : ℕ) → D.Reach Y s x → m < size Y s.heap x
        → at t.heap (D.copy_index Y s x + m) ≡ at t'.heap (D.copy_index Y s x + m)
    copy-same x m r l =
        object-words t.heap t'.heap (kind Y s.heap x) (D.copy_index Y s x) (field_count Y s.heap x)
        (c.header x r ∙ sym (c'.header x r))
        (λ e f u. c.raw_field x f r e u ∙ sym (c'.raw_field x f r e u))
        (λ e f u. became_same (at s.heap (field_index x f)) _ _ (c.value_field x f r e u) (c'.value_field x f r e u))
        m l

    -- a word of the used part is one of some copy
    used-same : (i : ℕ) → first_word t ≤ i → i < free t → at t.heap i ≡ at t'.heap i
    used-same i l u =
        let v = headers_cover Y t.heap (free t) (free t - first_word t) (first_word t) i (sound_tests Y t c.again).tiled l u in
        let k = v.0 in
        let q = map_in_out (D.copy_index Y s) k (order Y s) (subst (In k) c.copies v.1) in
        let x = q.0 in
        let r : D.Reach Y s x = c.lists.listed x (in_mem x (order Y s) q.1) in
        let e : D.copy_index Y s x ≡ k = q.2 in
        let z : size Y t.heap k ≡ size Y s.heap x =
        ap (λ j. size Y t.heap j) (sym e) ∙ ap (λ w. Y.count_of w + 1) (c.header x r) in
        let a = v.2 in
        let b = v.3 in
        let d : D.copy_index Y s x + (i - k) ≡ i = omega arith in
        subst (λ j. at t.heap j ≡ at t'.heap j) d (copy-same x (i - k) r (omega arith))

    one_state : t ≡ t'
    one_state =
        same-state t t'
        (ext_get_or 0 t.heap t'.heap same_length (λ i l. words_same t t' same_first same-free c.cleared c'.cleared used-same i))
        (ext_get_or 0 t.roots t'.roots (c.root_count ∙ sym c'.root_count)
        (λ r l. let n : r < length s.roots = omega (arith, c.root_count) in
        became_same (at s.roots r) _ _ (c.root r n) (c'.root r n)))
        (same_record_lem t.«record» t'.«record» same_half same-free)
        (c.same_text ∙ sym c'.same_text)

pub no_choice : (Y : Layout) → D.NoChoice Y
no_choice Y s t t' n n' c c' = (one_state Y s t t' n n' c c', one-counts Y s t t' n n' c c')
