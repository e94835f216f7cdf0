-- The state midway in a collection, word by word, and that a new object moved keeps it.
use Prim.Native.Nat.{ℕ, ◌+◌, ◌-◌, ◌≤◌, ◌<◌}
use native.Mathlib.Nat.{add-zero}
use native.Mathlib.Omega.{arith}
use mathlib.Core.Path.{◌≡◌, refl, sym, ap, ◌∙◌, subst}
use mathlib.Core.Logic.{inl, inr, ⊎_elim}
use mathlib.Core.List.{List, [], ◌∷◌, ◌++◌}
use mathlib.Core.Option.{some}
use lib.ListN.{length, get_or, length-append, length-set, get_or-append, get_or-eq_default}
use lib.Seq.{get_or-append-add, get_or-set_same, get_or-set_other}
use Rattle.model.specs.Words.{State, at, half_words, first_word, other_first}
use Rattle.model.specs.Headers.{Layout}
use Rattle.model.specs.Objects.{address, size}
use Rattle.model.specs.Discovery.{mem, packed, words_before}
use Rattle.model.specs.Soundness.{headers}
use Rattle.model.specs.Collection.{Cell, still, cells, cell_leads, settle}
use Rattle.model.specs.During.{old_word}
use Rattle.theory.proofs.Tests.{by_test, never, decide}
use Rattle.theory.proofs.Members.{In, Out, in_append_left, in_snoc, in_last, in_out, Distinct, distinct_snoc}
use Rattle.theory.proofs.Packed.{words_before-append, words_before_last}
use Rattle.theory.proofs.Objects.{cells-length}
use Rattle.theory.proofs.Shape.{other_in}
use Rattle.theory.proofs.Soundness.{SoundTests}
use Rattle.theory.proofs.During.{settle_stable}
use Rattle.theory.proofs.Middle.{halves-ordered, cell_word, packed_snoc, header-within, header-half, header-outside}
use Rattle.theory.proofs.Middle.{header-alone, distinct_fits}
use Rattle.runs.specs.Runs.{copied_run, Apart}
use Rattle.runs.proofs.RunLaws.{Outside, copied-outside, copied_inside, copied-length}
use Rattle.engine_moving.specs.Moving.{moved}

-- midway in a collection of s: the objects of the order o are copied, p words of the copies are passed, and the heap is h
pub record Midway (Y : Layout) (s : State) (o : List ℕ) (p : ℕ) (h : List ℕ) : Type 0 where
  pub same : length h ≡ length s.heap
  -- outside the new half all is as it was, but each copied object's header is a mark
  pub kept : (x : ℕ) → Outside (other_first s) (half_words s.heap) x → Out x o → at h x ≡ at s.heap x
  pub mark : (x : ℕ) → In x o → at h x ≡ Y.mark (address Y (other_first s + words_before (cells Y s.heap) o x))
  -- the new half: words passed are final, the others as the old objects hold them
  pub done : (j : ℕ) → j < p → at h (other_first s + j)
      ≡ settle Y s.heap o (other_first s) (get_or (packed (cells Y s.heap) o) j (still 0))
  pub todo : (j : ℕ) → p ≤ j → j < half_words s.heap
      → at h (other_first s + j) ≡ old_word (get_or (packed (cells Y s.heap) o) j (still 0))
  -- what the words passed lead to is copied
  pub named : (j i : ℕ) → j < p → cell_leads Y (get_or (packed (cells Y s.heap) o) j (still 0)) ≡ some i → In i o
  -- the order names objects, each once, and the words passed are theirs
  pub heads : (x : ℕ) → In x o → In x (headers Y s)
  pub once : Distinct o
  pub ahead : p ≤ length (packed (cells Y s.heap) o)

-- ---- an object moved, word by word

module _ (Y : Layout) (h : List ℕ) (k f : ℕ) where
  moved_at : k < length h → at (moved Y h k f) k ≡ Y.mark (address Y f)
  moved_at l =
      get_or-set_same (copied_run h k f (size Y h k)) k (Y.mark (address Y f)) 0 (rw (copied-length h k f (size Y h k)) l)

  moved_other : (x : ℕ) → (x ≡ k → ⊥) → Outside f (size Y h k) x → at (moved Y h k f) x ≡ at h x
  moved_other x d o =
      get_or-set_other (copied_run h k f (size Y h k)) k x (Y.mark (address Y f)) 0 d ∙ copied-outside h k f (size Y h k) x o

  moved-copy : (d : ℕ) → Apart k f (size Y h k) → f + size Y h k ≤ length h → (f + d ≡ k → ⊥) → d < size Y h k
      → at (moved Y h k f) (f + d) ≡ at h (k + d)
  moved-copy d a l e b =
      get_or-set_other (copied_run h k f (size Y h k)) k (f + d) (Y.mark (address Y f)) 0 e
      ∙ copied_inside h k f (size Y h k) d a l b

-- ---- a new object moved to the free words

module _ (Y : Layout) (s : State) (v : SoundTests Y s) (o : List ℕ) (p : ℕ) (h : List ℕ) (M : Midway Y s o p h) (k : ℕ)
    (hk : In k (headers Y s)) (new : Out k o) where
  abbrev H : List ℕ
  H = s.heap

  abbrev S : ℕ
  S = half_words s.heap

  abbrev t : ℕ
  t = other_first s

  abbrev P : List ℕ → List Cell
  P x = packed (cells Y s.heap) x

  abbrev o' : List ℕ
  o' = o ++ (k ∷ [])

  abbrev f : ℕ
  f = t + length (packed (cells Y s.heap) o)

  abbrev h' : List ℕ
  h' = moved Y h k f

  k_out : Outside t S k
  k_out = subst (Outside t S) (add-zero k) (header-outside Y s v k 0 hk (omega arith))

  pub header-kept : at h k ≡ at H k
  header-kept = M.kept k k_out new

  pub same_size : size Y h k ≡ size Y H k
  same_size = ap (λ (x : ℕ). Y.count_of x + 1) header-kept

  heads' : (x : ℕ) → In x o' → In x (headers Y s)
  heads' x m = ⊎_elim (λ (n : In x o). M.heads x n) (λ (e : x ≡ k). rw e hk) (in_snoc x k o m)

  once' : Distinct o'
  once' = distinct_snoc k o M.once new

  pub more-words : length (P o') ≡ length (P o) + size Y H k
  more-words =
      ap length (packed_snoc Y H o k) ∙ length-append (P o) (cells Y H k)
      ∙ ap (λ (y : ℕ). length (P o) + y) (cells-length Y H k (header-within Y s v k hk))

  space : length (P o) + size Y H k ≤ S
  space =
      let a : length (P o') ≤ S = distinct_fits Y s v o' heads' once' in
      let b : length (P o') ≡ length (P o) + size Y H k = more-words in
      omega arith

  -- no word of k is the header of a copied object
  k_words : (d : ℕ) → d < size Y H k → Out (k + d) o
  k_words d l =
      ⊎_elim
      (λ (m : In (k + d) o).
      let z = header-alone Y s v k d hk (M.heads (k + d) m) l in
      never m (ap (λ (x : ℕ). mem x o) (omega arith) ∙ new))
      (λ (m : Out (k + d) o). m)
      (by_test (mem (k + d) o))

  held : (d : ℕ) → d < size Y H k → at h (k + d) ≡ at H (k + d)
  held d l = M.kept (k + d) (header-outside Y s v k d hk l) (k_words d l)

  pub runs_apart : Apart k f (size Y h k)
  runs_apart =
      let b = header-half Y s v k (Y.count_of (at H k)) hk (omega arith) in
      let a = header-half Y s v k 0 hk (omega arith) in
      ⊎_elim (λ (e : first_word s + S ≤ t). inl (omega (arith, same_size, b.1)))
      (λ (e : t + S ≤ first_word s). inr (omega (arith, same_size, space, a.0))) (halves-ordered s)

  not_new : (j : ℕ) → j < S → t + j ≡ k → ⊥
  not_new j l e = ⊎_elim (λ (a : k < t). omega arith) (λ (a : t + S ≤ k). omega arith) k_out

  pub copy_within : f + size Y h k ≤ length h
  copy_within = omega (arith, same_size, space, M.same, other_in s v.shape)

  -- a word outside the new half is outside the copy
  copy-outside : (x : ℕ) → Outside t S x → Outside f (size Y h k) x
  copy-outside x out =
      ⊎_elim (λ (a : x < t). inl (omega arith)) (λ (a : t + S ≤ x). inr (omega (arith, same_size, space))) out

  kept' : (x : ℕ) → Outside t S x → Out x o' → at h' x ≡ at H x
  kept' x out m =
      let e : x ≡ k → ⊥ = λ q. in_out k x o' (in_last k o) m (sym q) in
      moved_other Y h k f x e (copy-outside x out)
      ∙ M.kept x out (⊎_elim (λ (n : In x o). never (in_append_left x o (k ∷ []) n) m) (λ (n : Out x o). n) (by_test (mem x o)))

  mark' : (x : ℕ) → In x o' → at h' x ≡ Y.mark (address Y (t + words_before (cells Y H) o' x))
  mark' x m =
      ⊎_elim
      (λ (n : In x o).
      moved_other Y h k f x (in_out x k o n new)
      (copy-outside x (subst (Outside t S) (add-zero x) (header-outside Y s v x 0 (M.heads x n) (omega arith))))
      ∙ M.mark x n
      ∙ ap (λ (y : ℕ). Y.mark (address Y (t + y))) (sym (words_before-append (cells Y H) o (k ∷ []) x n)))
      (λ (e : x ≡ k).
      subst (λ (y : ℕ). at h' y ≡ Y.mark (address Y (t + words_before (cells Y H) o' y))) (sym e)
      (moved_at Y h k f (omega (arith, M.same, header-within Y s v k hk))
      ∙ ap (λ (y : ℕ). Y.mark (address Y (t + y))) (sym (words_before_last (cells Y H) o [] k new))))
      (in_snoc x k o m)

  cell_before : (j : ℕ) → j < length (P o) → get_or (P o') j (still 0) ≡ get_or (P o) j (still 0)
  cell_before j l =
      ap (λ (c : List Cell). get_or c j (still 0)) (packed_snoc Y H o k) ∙ get_or-append (P o) (cells Y H k) (still 0) j l

  cell_new : (d : ℕ) → get_or (P o') (length (P o) + d) (still 0) ≡ get_or (cells Y H k) d (still 0)
  cell_new d =
      ap (λ (c : List Cell). get_or c (length (P o) + d) (still 0)) (packed_snoc Y H o k)
      ∙ get_or-append-add (P o) (cells Y H k) d (still 0)

  done' : (j : ℕ) → j < p → at h' (t + j) ≡ settle Y H o' t (get_or (P o') j (still 0))
  done' j l =
      let a : p ≤ length (P o) = M.ahead in
      let r : length (P o) + size Y H k ≤ S = space in
      moved_other Y h k f (t + j) (not_new j (omega arith)) (inl (omega arith))
      ∙ M.done j l
      ∙ sym (settle_stable Y H o o' t (get_or (P o) j (still 0)) (k ∷ [], refl) (λ i e. M.named j i l e))
      ∙ ap (settle Y H o' t) (sym (cell_before j (omega arith)))

  named' : (j i : ℕ) → j < p → cell_leads Y (get_or (P o') j (still 0)) ≡ some i → In i o'
  named' j i l e =
      let a : p ≤ length (P o) = M.ahead in
      in_append_left i o (k ∷ []) (M.named j i l (ap (cell_leads Y) (sym (cell_before j (omega arith))) ∙ e))

  new_word : (d : ℕ) → d < size Y H k → at h' (f + d) ≡ old_word (get_or (P o') (length (P o) + d) (still 0))
  new_word d l =
      let r : length (P o) + size Y H k ≤ S = space in
      moved-copy Y h k f d runs_apart copy_within (λ q. not_new (length (P o) + d) (omega arith) (omega arith))
      (omega (arith, same_size))
      ∙ held d l
      ∙ sym (cell_word Y H k d (header-within Y s v k hk) l)
      ∙ ap old_word (sym (cell_new d))

  past_new : (j : ℕ) → p ≤ j → j < S → length (P o) + size Y H k ≤ j → at h' (t + j) ≡ old_word (get_or (P o') j (still 0))
  past_new j l b c =
      moved_other Y h k f (t + j) (not_new j b) (inr (omega (arith, same_size)))
      ∙ M.todo j l b
      ∙ ap old_word (get_or-eq_default (P o) (still 0) (omega arith))
      ∙ ap old_word (sym (get_or-eq_default (P o') (still 0) (omega (arith, more-words))))

  todo' : (j : ℕ) → p ≤ j → j < S → at h' (t + j) ≡ old_word (get_or (P o') j (still 0))
  todo' j l b =
      ⊎_elim
      (λ (a : j < length (P o)).
      moved_other Y h k f (t + j) (not_new j b) (inl (omega arith)) ∙ M.todo j l b ∙ ap old_word (sym (cell_before j a)))
      (λ (a : length (P o) ≤ j). ⊎_elim
      (λ (c : j < length (P o) + size Y H k).
      let d : ℕ = j - length (P o) in
      let e : length (P o) + d ≡ j = omega arith in
      let e' : f + d ≡ t + j = omega arith in
      ap (λ (x : ℕ). at h' x) (sym e') ∙ new_word d (omega arith) ∙ ap (λ (x : ℕ). old_word (get_or (P o') x (still 0))) e)
      (λ (c : length (P o) + size Y H k ≤ j). past_new j l b c)
      (decide j (length (P o) + size Y H k)))
      (decide j (length (P o)))

  pub moved_midway : Midway Y s o' p h'
  moved_midway = record {
    same = simp length-set (copied-length h k f (size Y h k) ∙ M.same);
    kept = kept';
    mark = mark';
    done = done';
    todo = todo';
    named = named';
    heads = heads';
    once = once';
    ahead = omega (arith, M.ahead, more-words);
  }
