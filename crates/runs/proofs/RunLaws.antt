-- Runs of words: what clearing and copying leave at each index. Words of a list: when all are 0, or pass another test.
use Prim.Native.Nat.{ℕ, zero, suc, ◌+◌, ◌≤◌, ◌<◌}
use native.Mathlib.Nat.{add-zero}
use native.Mathlib.Omega.{arith}
use mathlib.Core.Path.{◌≡◌, refl, sym, ap, ◌∙◌}
use mathlib.Core.Logic.{◌⊎◌, inl, inr, ⊎_elim}
use mathlib.Core.Bool.{Bool, ◌&&◌, and-true, and_assoc}
use mathlib.Core.List.{List, [], ◌∷◌, ◌++◌}
use lib.Bits.{bit_or, or_add_and, and_le_l, and_le_r, or_zero_l}
use lib.Dec.{eqb}
use lib.ListN.{length, take, drop, set, replicate, length-set, drop_of_length-le}
use lib.Seq.{get_or-set_same, get_or-set_other, set-get_or, sets, take-length}
use borrow.Rule.Slice.PartMut.{put_mid}
use Rattle.std.specs.List.{fold}
use Rattle.std.proofs.lemmas.List.{length-replicate, take-append-drop, append-nil}
use Rattle.std.proofs.lemmas.List.Edits.{sets-eq}
use Rattle.std.proofs.lemmas.Slice.{put_mid-paste}
use borrow.Author.Tests.{ne_eqb}
use Rattle.model.specs.Words.{at}
use Rattle.model.specs.Values.{is_null}
use Rattle.model.specs.Soundness.{all}
use Rattle.theory.proofs.Tests.{same?}
use Rattle.runs.specs.Runs.{cleared, copied_run, Apart}

-- ---- what lies outside a run

-- k is not one of the n indexes from `from` on
abbrev pub Outside : ℕ → ℕ → ℕ → Type 0
Outside from n k = (k < from) ⊎ (from + n ≤ k)

outside_last : (from n k : ℕ) → Outside from (suc n) k → k ≡ from + n → ⊥
outside_last from n k o e = ⊎_elim (λ l. omega arith) (λ l. omega arith) o

outside_less : (from n k : ℕ) → Outside from (suc n) k → Outside from n k
outside_less from n k o = ⊎_elim (λ l. inl l) (λ l. inr (omega arith)) o

-- ---- runs apart

pub apart_less : (from to m n : ℕ) → m ≤ n → Apart from to n → Apart from to m
apart_less from to m n l o = ⊎_elim (λ a. inl (omega arith)) (λ a. inr (omega arith)) o

apart-outside : (from to i n j : ℕ) → i ≤ n → j < n → Apart from to n → Outside to i (from + j)
apart-outside from to i n j l b o = ⊎_elim (λ a. inl (omega arith)) (λ a. inr (omega arith)) o

-- ---- cleared

pub cleared-length : (h : List ℕ) (from n : ℕ) → length (cleared h from n) ≡ length h
unfolding cleared
cleared-length h from zero = refl
cleared-length h from (suc n) = simp length-set (cleared-length h from n)

pub cleared-outside : (h : List ℕ) (from n k : ℕ) → Outside from n k → at (cleared h from n) k ≡ at h k
unfolding cleared
cleared-outside h from zero k o = refl
cleared-outside h from (suc n) k o =
    get_or-set_other (cleared h from n) (from + n) k 0 0 (outside_last from n k o)
    ∙ cleared-outside h from n k (outside_less from n k o)

pub cleared_inside : (h : List ℕ) (from n k : ℕ) → from + n ≤ length h → from ≤ k → k < from + n
    → at (cleared h from n) k ≡ 0
unfolding cleared
cleared_inside h from zero k a b c = absurd (omega arith)
cleared_inside h from (suc n) k a b c =
    let s = cleared-length h from n in
    ⊎_elim
    (λ (e : k ≡ from + n). rw e (get_or-set_same (cleared h from n) (from + n) 0 0 (omega arith)))
    (λ (e : k ≡ from + n → ⊥).
    get_or-set_other (cleared h from n) (from + n) k 0 0 e ∙ cleared_inside h from n k (omega arith) b (omega arith))
    (same? k (from + n))

-- the model writes a run of zeros from the front
cleared_front : (h : List ℕ) (i n : ℕ) → cleared (set h i 0) (suc i) n ≡ cleared h i (suc n)
unfolding cleared
cleared_front h i zero = ap (λ (x : ℕ). set h x 0) (sym (add-zero i))
cleared_front h i (suc n) =
    ap (λ (x : List ℕ). set x (suc i + n) 0) (cleared_front h i n)
    ∙ ap (λ (x : ℕ). set (cleared h i (suc n)) x 0) (omega arith)

pub cleared-sets : (h : List ℕ) (i n : ℕ) → cleared h i n ≡ sets h i (replicate n 0)
unfolding cleared
cleared-sets h i zero = refl
cleared-sets h i (suc n) = sym (cleared_front h i n) ∙ cleared-sets (set h i 0) (suc i) n

-- m words of n, all that were to be written, written with 0
pub cleared-filled : (h : List ℕ) (from n k m : ℕ) (ws zs : List ℕ) → from + n ≤ length h → k ≡ n → m ≡ n → length ws ≤ m
    → zs ≡ replicate m 0 ++ drop m ws → put_mid from k h zs ≡ cleared h from n
cleared-filled h from n k m ws zs l e f done z =
    let all : List ℕ = replicate n 0 in
    let long : length all ≡ n = length-replicate {A = ℕ} n 0 in
    let filled : zs ≡ all = z ∙ ap (λ (t : List ℕ). replicate m 0 ++ t) (drop_of_length-le ws done)
    ∙ append-nil (replicate m 0) ∙ ap (λ (i : ℕ). replicate i 0) f in
    put_mid-paste from k h zs all (length all) filled (omega (arith, long)) refl
    ∙ ap (λ (t : List ℕ). take from h ++ t ++ drop (from + length all) h) (take-length all)
    ∙ sym (sets-eq all h from (omega (arith, long)))
    ∙ sym (cleared-sets h from n)

-- ---- copied

pub copied-length : (h : List ℕ) (from to n : ℕ) → length (copied_run h from to n) ≡ length h
unfolding copied_run
copied-length h from to zero = refl
copied-length h from to (suc n) = simp length-set (copied-length h from to n)

pub copied-outside : (h : List ℕ) (from to n k : ℕ) → Outside to n k → at (copied_run h from to n) k ≡ at h k
unfolding copied_run
copied-outside h from to zero k o = refl
copied-outside h from to (suc n) k o =
    get_or-set_other (copied_run h from to n) (to + n) k _ 0 (outside_last to n k o)
    ∙ copied-outside h from to n k (outside_less to n k o)

pub copied_inside : (h : List ℕ) (from to n j : ℕ) → Apart from to n → to + n ≤ length h → j < n
    → at (copied_run h from to n) (to + j) ≡ at h (from + j)
unfolding copied_run
copied_inside h from to zero j o a b = absurd (omega arith)
copied_inside h from to (suc n) j o a b =
    let s = copied-length h from to n in
    ⊎_elim
    (λ (e : j ≡ n).
    rw e (get_or-set_same (copied_run h from to n) (to + n) _ 0 (omega arith)
    ∙ copied-outside h from to n (from + n) (apart-outside from to n (suc n) n (omega arith) (omega arith) o)))
    (λ (e : j ≡ n → ⊥).
    get_or-set_other (copied_run h from to n) (to + n) (to + j) _ 0 (λ z. e (omega arith))
    ∙ copied_inside h from to n j (apart_less from to n (suc n) (omega arith) o) (omega arith) (omega arith))
    (same? j n)

-- one word more, read before any was written
copied-read : (h : List ℕ) (from to n : ℕ) → Apart from to (suc n)
    → set (copied_run h from to n) (to + n) (at h (from + n)) ≡ copied_run h from to (suc n)
unfolding copied_run
copied-read h from to n o =
    ap (set (copied_run h from to n) (to + n))
    (sym (copied-outside h from to n (from + n) (apart-outside from to n (suc n) n (omega arith) (omega arith) o)))

pub copied_four : (h : List ℕ) (from to : ℕ) → Apart from to 4
    → set (set (set (set h to (at h from)) (to + 1) (at h (from + 1))) (to + 2) (at h (from + 2)))
    (to + 3) (at h (from + 3)) ≡ copied_run h from to 4
unfolding copied_run
copied_four h from to o =
    let first : set h to (at h from) ≡ copied_run h from to 1 = simp add-zero in
    rw (
      first,
      copied-read h from to 1 (apart_less from to 2 4 (omega arith) o),
      copied-read h from to 2 (apart_less from to 3 4 (omega arith) o),
      copied-read h from to 3 o,
    )

-- a word that is copied stands in both runs
copied_both : (h : List ℕ) (from to i j : ℕ) → Apart from to i → to + i ≤ length h → j < i
    → at (copied_run h from to i) (from + j) ≡ at (copied_run h from to i) (to + j)
copied_both h from to i j o l b =
    copied-outside h from to i (from + j) (apart-outside from to i i j (omega arith) b o)
    ∙ sym (copied_inside h from to i j o l b)

-- words that are copied may be copied again
copied-there : (h : List ℕ) (from to i m k : ℕ) → Apart from to i → to + i ≤ length h → m + k ≤ i
    → copied_run (copied_run h from to i) (from + m) (to + m) k ≡ copied_run h from to i
unfolding copied_run
copied-there h from to i m zero o l b = refl
copied-there h from to i m (suc k) o l b =
    let f : from + m + k ≡ from + (m + k) = omega arith in
    let t : to + m + k ≡ to + (m + k) = omega arith in
    rw (copied-there h from to i m k o l (omega arith), f, t, copied_both h from to i (m + k) o l (omega arith))
    (set-get_or (copied_run h from to i) (to + (m + k)) 0)

-- the last k words of n, of which i are copied
copied-again : (h : List ℕ) (from to i m k n : ℕ) → Apart from to n → to + n ≤ length h → m ≤ i → i ≤ n → m + k ≡ n
    → copied_run (copied_run h from to i) (from + m) (to + m) k ≡ copied_run h from to n
unfolding copied_run
copied-again h from to i m zero n o l a b e = let q : i ≡ n = omega arith in ap (copied_run h from to) q
copied-again h from to i m (suc k) zero o l a b e = absurd (omega arith)
copied-again h from to i m (suc k) (suc n) o l a b e =
    ⊎_elim
    (λ (q : i ≡ suc n).
    copied-there h from to i m (suc k) (apart_less from to i (suc n) b o) (omega arith) (omega arith)
    ∙ ap (copied_run h from to) q)
    (λ (q : i ≡ suc n → ⊥).
    let less : Apart from to n = apart_less from to n (suc n) (omega arith) o in
    let f : from + m + k ≡ from + n = omega arith in
    let t : to + m + k ≡ to + n = omega arith in
    rw (copied-again h from to i m k n less (omega arith) a (omega arith) (omega arith), f, t))
    (same? i (suc n))

-- from what two calls leave, the second of the last k words
pub copied_parts : (h h₁ h₂ : List ℕ) (from to i m k n : ℕ)
    → h₁ ≡ copied_run h from to i → h₂ ≡ copied_run h₁ (from + m) (to + m) k
    → Apart from to n → to + n ≤ length h → m ≤ i → i ≤ n → m + k ≡ n → h₂ ≡ copied_run h from to n
copied_parts h h₁ h₂ from to i m k n p q o l a b e =
    q ∙ ap (λ (x : List ℕ). copied_run x (from + m) (to + m) k) p ∙ copied-again h from to i m k n o l a b e

-- the first word may be stored by itself
pub copied_front : (h : List ℕ) (from to n : ℕ)
    → copied_run (set h to (at h from)) (from + 1) (to + 1) n ≡ copied_run h from to (suc n)
unfolding copied_run
copied_front h from to zero =
    ap (λ (x : ℕ). set h x (at h from)) (sym (add-zero to)) ∙ ap (λ (x : ℕ). set h (to + 0) (at h x)) (sym (add-zero from))
copied_front h from to (suc n) =
    ap (λ (x : List ℕ). set x (to + 1 + n) (at x (from + 1 + n))) (copied_front h from to n)
    ∙ ap (λ (x : ℕ). set (copied_run h from to (suc n)) x (at (copied_run h from to (suc n)) (from + 1 + n))) (omega arith)
    ∙ ap (λ (x : ℕ). set (copied_run h from to (suc n)) (to + suc n) (at (copied_run h from to (suc n)) x)) (omega arith)

-- ---- a test of every word of a list

pub all_append : {A : Type 0} (p : A → Bool) (xs ys : List A) → all p (xs ++ ys) ≡ (all p xs && all p ys)
all_append p [] ys = refl
all_append p (x ∷ xs) ys = ap (λ (b : Bool). p x && b) (all_append p xs ys) ∙ sym (and_assoc (p x) (all p xs) (all p ys))

pub or-zero : (a b : ℕ) → eqb (bit_or a b) 0 ≡ (eqb a 0 && eqb b 0)
or-zero a b =
    let s = or_add_and a b in
    let l = and_le_l a b in
    let r = and_le_r a b in
    ⊎_elim
    (λ (e : a ≡ 0). rw (e, or_zero_l b))
    (λ (n : a ≡ 0 → ⊥). rw (ne_eqb (bit_or a b) 0 (λ z. n (omega arith)), ne_eqb a 0 n))
    (same? a 0)

-- the bits that any of the words has, besides those of b
bits-from : (b : ℕ) (ws : List ℕ) → eqb (fold bit_or b ws) 0 ≡ (eqb b 0 && all is_null ws)
bits-from b [] = sym (and-true (eqb b 0))
bits-from b (w ∷ ws) =
    bits-from (bit_or b w) ws ∙ ap (λ (x : Bool). x && all is_null ws) (or-zero b w) ∙ and_assoc (eqb b 0) (eqb w 0) (all is_null ws)

pub bits-null : (ws : List ℕ) → eqb (fold bit_or 0 ws) 0 ≡ all is_null ws
bits-null ws = bits-from 0 ws

-- the first n words of a list and the others
pub all_rest : (q : ℕ → Bool) (ws : List ℕ) (n : ℕ) → all q ws ≡ (all q (take n ws) && all q (drop n ws))
all_rest q ws n = ap (all q) (sym (take-append-drop n ws)) ∙ all_append q (take n ws) (drop n ws)
