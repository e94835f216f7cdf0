-- A new object at the free index keeps a state sound.
use Prim.Native.Nat.{ℕ, suc, ◌+◌, ◌*◌, ◌-◌, ◌%◌, ◌≤◌, ◌<◌}
use native.Mathlib.Omega.{arith}
use native.Mathlib.Nat.{add-zero}
use mathlib.Core.Path.{◌≡◌, refl, sym, ap, ◌∙◌, subst}
use mathlib.Core.Logic.{⊎_elim}
use mathlib.Core.Bool.{true, not, ◌&&◌}
use mathlib.Core.List.{List, [], ◌∷◌, ◌++◌}
use lib.Dec.{eqb}
use lib.ListN.{length, replicate, length-replicate, get_or-replicate}
use lib.Seq.{sets, length-sets}
use Rattle.model.specs.declared.Kind.{Kind}
use Rattle.model.specs.declared.Kind.TheVariants.{Traced}
use Rattle.model.specs.Changes.{spare, appended, placed}
use Rattle.model.specs.Discovery.{mem}
use Rattle.model.specs.Headers.{Layout, WritesBoth}
use Rattle.model.specs.Limits.{max_fields}
use Rattle.model.specs.Objects.{address, index, kind, field_count, size}
use Rattle.model.specs.Soundness.{tiles, headers_from, headers, is_value}
use Rattle.model.specs.Values.{is_address}
use Rattle.model.specs.Words.{State, at, half_words_of, half_words, other, first_of, first_word, other_first, free}
use Rattle.theory.proofs.Keeping.{tile, root-sound}
use Rattle.theory.proofs.Lists.{sets-before, sets_in, sets-past}
use Rattle.theory.proofs.Members.{In, in_append_left, in_snoc, in_last}
use Rattle.theory.proofs.Retiling.{tiles_snoc}
use Rattle.theory.proofs.Shape.{first_in, halves-apart}
use Rattle.theory.proofs.Soundness.{SoundTests}
use Rattle.theory.proofs.Tests.{decide, or_cases, or_left, or_right, and_both, both_and}
use Rattle.theory.proofs.Values.{address-value}

module _ (Y : Layout) where
  -- a value stays one where there are more headers
  pub value-more : (hs ks : List ℕ) (w : ℕ) → is_value Y hs w ≡ true → is_value Y (hs ++ ks) w ≡ true
  unfolding is_value
  value-more hs ks w v =
      ⊎_elim
      (λ (p : not (is_address w) ≡ true). or_left (not (is_address w)) (eqb (w % 4) 0 && mem (index Y w) (hs ++ ks)) p)
      (λ (p : (eqb (w % 4) 0 && mem (index Y w) hs) ≡ true).
      let a = and_both (eqb (w % 4) 0) (mem (index Y w) hs) p in
      or_right (not (is_address w)) (eqb (w % 4) 0 && mem (index Y w) (hs ++ ks))
      (both_and (eqb (w % 4) 0) (mem (index Y w) (hs ++ ks)) a.0 (in_append_left (index Y w) hs ks a.1)))
      (or_cases (not (is_address w)) (eqb (w % 4) 0 && mem (index Y w) hs) v)

  pub zero-value : (hs : List ℕ) → is_value Y hs 0 ≡ true
  unfolding is_value
  zero-value hs = refl

module _ (Y : Layout) (law : WritesBoth Y) (s : State) (h : SoundTests Y s) (k : Kind) (n : ℕ) (small : n ≤ max_fields)
    (fit : n + 1 ≤ spare s) where
  abbrev s⁺ : State
  s⁺ = appended Y k n s

  abbrev vs : List ℕ
  vs = Y.header k n ∷ replicate n 0

  fits : free s + (n + 1) ≤ first_word s + half_words s.heap
  fits = omega (arith, h.shape.low)

  vs_length : length vs ≡ n + 1
  vs_length = let z : length {A = ℕ} (replicate n 0) ≡ n = length-replicate n 0 in omega arith

  in_heap : free s + length vs ≤ length s.heap
  in_heap = let b = first_in s h.shape in omega (arith, fits, vs_length)

  pub append-length : length s⁺.heap ≡ length s.heap
  append-length = length-sets s.heap (free s) vs

  append-room : half_words s⁺.heap ≡ half_words s.heap
  append-room = ap half_words_of append-length

  append-first : first_word s⁺ ≡ first_word s
  append-first = ap (λ x. first_of x s.«record».half) append-room

  append-other-first : other_first s⁺ ≡ other_first s
  append-other-first = ap (λ x. first_of x (other s.«record».half)) append-room

  pub append-header : at s⁺.heap (free s) ≡ Y.header k n
  append-header =
      ap (λ x. at (sets s.heap (free s) vs) x) (sym (add-zero (free s)))
      ∙ sets_in s.heap (free s) vs 0 in_heap (omega (arith, vs_length))

  append-zero : (f : ℕ) → f < n → at (sets s.heap (free s) vs) (free s + suc f) ≡ 0
  append-zero f l = sets_in s.heap (free s) vs (suc f) in_heap (omega (arith, vs_length)) ∙ get_or-replicate n f 0 0 l

  -- no other word changes
  pub append-other : (j : ℕ) → (j ≡ free s → ⊥) → at s⁺.heap j ≡ at s.heap j
  append-other j d =
      ⊎_elim
      (λ (l : j < free s). sets-before s.heap (free s) vs j l)
      (λ (l : free s ≤ j).
      ⊎_elim
      (λ (m : j < free s + length vs).
      let e : free s + suc (j - free s - 1) ≡ j = omega arith in
      subst (λ x. at (sets s.heap (free s) vs) x ≡ 0) e (append-zero (j - free s - 1) (omega (arith, vs_length)))
      ∙ sym (h.rest j l (omega (arith, fits, vs_length))))
      (λ (m : free s + length vs ≤ j). sets-past s.heap (free s) vs j m)
      (decide j (free s + length vs)))
      (decide j (free s))

  pub append-size : size Y s⁺.heap (free s) ≡ n + 1
  append-size = ap (λ x. Y.count_of x + 1) append-header ∙ ap (λ x. x + 1) ((law k).counts n small)

  append_both : (tiles Y s⁺.heap (free s + (n + 1)) (free s + (n + 1) - first_word s) (first_word s) ≡ true)
      × (headers_from Y s⁺.heap (free s + (n + 1)) (free s + (n + 1) - first_word s) (first_word s) ≡ headers Y s ++ (free s ∷ []))
  append_both =
      tiles_snoc Y s.heap s⁺.heap (free s) (free s + (n + 1)) (free s - first_word s) (free s + (n + 1) - first_word s)
      (first_word s) h.tiled
      (λ j m. append-other j (λ e. let t = (tile Y s h j m).within in omega arith))
      (ap (λ x. Y.is_header x) append-header ∙ (law k).clear n small)
      (ap (λ x. free s + x) (sym append-size))
      (omega (arith, h.shape.low))

  pub append-free : free s⁺ ≡ free s + (n + 1)
  append-free = refl

  pub append-headers : headers Y s⁺ ≡ headers Y s ++ (free s ∷ [])
  append-headers = rw (append-first, append-free) append_both.1

  append-value : (i f : ℕ) → In i (headers Y s ++ (free s ∷ [])) → kind Y s⁺.heap i ≡ Traced
      → f < field_count Y s⁺.heap i
      → is_value Y (headers Y s ++ (free s ∷ [])) (at s⁺.heap (i + 1 + f)) ≡ true
  append-value i f m q l =
      ⊎_elim
      (λ (a : In i (headers Y s)).
      let t = (tile Y s h i a).within in
      let e = append-other i (λ z. omega arith) in
      let c = ap (λ x. Y.count_of x) e in
      rw (append-other (i + 1 + f) (λ z. omega arith))
      (value-more Y (headers Y s) (free s ∷ []) (at s.heap (i + 1 + f))
      (h.values i f a (sym (ap (λ x. Y.kind_of x) e) ∙ q) (omega arith))))
      (λ (a : i ≡ free s).
      let c = append-size in
      let d : field_count Y s⁺.heap i ≡ field_count Y s⁺.heap (free s) = ap (λ x. field_count Y s⁺.heap x) a in
      let z : f < n = omega arith in
      rw (append-other (i + 1 + f) (λ y. omega arith), h.rest (i + 1 + f) (omega arith) (omega (arith, fits)))
      (zero-value Y (headers Y s ++ (free s ∷ []))))
      (in_snoc i (free s) (headers Y s) m)

  pub append-sound : SoundTests Y s⁺
  append-sound = record {
    shape = record {
      odd = append-length ∙ h.shape.odd ∙ ap (λ x. 2 * x + 1) (sym append-room);
      pos = rw append-room h.shape.pos;
      small = rw append-room h.shape.small;
      few = h.shape.few;
      low = rw (append-first, append-free) (omega (arith, h.shape.low));
      high = rw (append-first, append-room, append-free) fits;
    };
    null = append-other 0 (λ e. let b = first_in s h.shape in omega (arith, h.shape.low)) ∙ h.null;
    idle = λ i l m.
        let l' : other_first s ≤ i = rw append-other-first at l in
        let m' : i < other_first s + half_words s.heap = rw (append-other-first, append-room) at m in
        append-other i
        (λ e. ⊎_elim (λ (x : i < first_word s). omega (arith, h.shape.low))
        (λ (x : first_word s + half_words s.heap ≤ i). omega (arith, fits)) (halves-apart s i l' m')) ∙ h.idle i l' m';
    rest = λ i l m.
        let m' : i < first_word s + half_words s.heap = rw (append-first, append-room) at m in
        let l' : free s + (n + 1) ≤ i = rw append-free at l in
        append-other i (λ e. omega arith) ∙ h.rest i (omega arith) m';
    tiled = rw (append-first, append-free) append_both.0;
    roots = λ q l. rw append-headers (value-more Y (headers Y s) (free s ∷ []) (at s.roots q) (h.roots q l));
    values = λ i f m q l. rw append-headers (append-value i f (rw append-headers at m) q l);
  }

  -- and a root may get its address
  pub place-sound : (r : ℕ) → SoundTests Y (placed Y k n r s)
  unfolding placed
  place-sound r =
      root-sound Y s⁺ append-sound r (address Y (free s))
      (rw append-headers (address-value Y (headers Y s ++ (free s ∷ [])) (free s) (in_last (free s) (headers Y s))))
