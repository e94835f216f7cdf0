-- The changes that calls make, word by word.
use Prim.Native.Nat.{ℕ, ◌+◌, ◌≤◌, ◌<◌}
use native.Mathlib.Omega.{arith}
use native.Mathlib.Nat.{add-zero}
use mathlib.Core.Path.{◌≡◌, refl, sym, ap, ◌∙◌}
use mathlib.Core.Logic.{⊎_elim}
use mathlib.Core.List.{◌∷◌}
use lib.ListN.{length, replicate, length-set, length-replicate, get_or-replicate}
use lib.Seq.{sets, length-sets, get_or-set_same, get_or-set_other}
use native.Mathlib.Numerals.{add-one}
use Rattle.model.specs.declared.Kind.{Kind}
use Rattle.model.specs.Changes.{with_root, with_word, spare, placed}
use Rattle.model.specs.Effects as E
use Rattle.model.specs.Headers.{Layout}
use Rattle.model.specs.Objects.{address}
use Rattle.model.specs.Words.{State, at, free}
use Rattle.theory.proofs.Lists.{sets-before, sets_in, sets-past}
use Rattle.theory.proofs.Shape.{Shaped, first_in}

pub root_changed : (s : State) (r w : ℕ) → r < length s.roots → E.RootChanged s r w (with_root s r w)
root_changed s r w l = record {
  word = get_or-set_same s.roots r w 0 l;
  others = λ q n. get_or-set_other s.roots r q w 0 n;
  count = length-set s.roots r w;
  same_heap = refl;
  same_record = refl;
  same_text = refl;
}

pub word_changed : (s : State) (i w : ℕ) → i < length s.heap → E.WordChanged s i w (with_word s i w)
word_changed s i w l = record {
  word = get_or-set_same s.heap i w 0 l;
  others = λ j n. get_or-set_other s.heap i j w 0 n;
  same_length = length-set s.heap i w;
  same_roots = refl;
  same_record = refl;
  same_text = refl;
}

pub new_object : (Y : Layout) (k : Kind) (n r : ℕ) (s : State) → Shaped s → r < length s.roots → n + 1 ≤ spare s
    → E.NewObject Y k n r s (placed Y k n r s)
unfolding placed
new_object Y k n r s h l f =
    let ws = Y.header k n ∷ replicate n 0 in
    let z : length {A = ℕ} (replicate n 0) ≡ n = length-replicate n 0 in
    let b = first_in s h in
    let fit : free s + length ws ≤ length s.heap = omega (arith, h.low) in
    record {
      header = ap (λ x. at (sets s.heap (free s) ws) x) (sym (add-zero (free s))) ∙ sets_in s.heap (free s) ws 0 fit (omega arith);
      zeros = λ f m.
          let e : free s + 1 + f ≡ free s + (f + 1) = omega arith in
          ap (λ x. at (sets s.heap (free s) ws) x) e
          ∙ sets_in s.heap (free s) ws (f + 1) fit (omega arith)
          ∙ later n f m;
      others = λ i c.
          ⊎_elim (λ (a : i < free s). sets-before s.heap (free s) ws i a)
          (λ (a : free s + (n + 1) ≤ i). sets-past s.heap (free s) ws i (omega arith)) c;
      same_length = length-sets s.heap (free s) ws;
      root = get_or-set_same s.roots r (address Y (free s)) 0 l;
      other_roots = λ q d. get_or-set_other s.roots r q (address Y (free s)) 0 d;
      root_count = length-set s.roots r (address Y (free s));
      same_half = refl;
      same_text = refl;
      free_is = refl;
    }
  where
    later : (n f : ℕ) → f < n → at (Y.header k n ∷ replicate n 0) (f + 1) ≡ 0
    later n f m = ap (λ x. at (Y.header k n ∷ replicate n 0) x) (add-one f) ∙ get_or-replicate n f 0 0 m
