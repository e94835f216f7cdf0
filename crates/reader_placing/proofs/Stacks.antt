-- The tally of the bytes that were passed, in the array of open counts and in the words before the last.
use Prim.Native.Nat.{ℕ, zero, suc, ◌+◌, ◌-◌, ◌≤◌, ◌<◌}
use native.Mathlib.Omega.{arith}
use native.Mathlib.Numerals.{add-one, sub-one}
use mathlib.Core.Path.{◌≡◌, refl, sym, ap, ◌∙◌}
use mathlib.Core.Bool.{true, false, cond}
use mathlib.Core.List.{List, [], ◌∷◌}
use lib.Dec.{eqb}
use lib.ListN.{length, drop, get_or, set, length-set, length-drop}
use lib.Seq.{sets, length-sets, set_comm, get_or-set_same, get_or-set_other, drop-cons, drop-length}
use borrow.Author.Tests.{ne_eqb, eq-eqb}
use Rattle.model.specs.Limits.{max_words}
use Rattle.model.specs.Trees.{Forest, node}
use Rattle.model.specs.Reading.{is_digit}
use Rattle.model.specs.ReadFaults as Faults
use Rattle.reader_placing.specs.Counting.{tree_counts, Countable, CountsKept}
use Rattle.reader_placing.proofs.Tallies.{Tally, top, under, grown, tallied, tally, SafeStep, Safe, safe-drop, plain-tally, digit-plain, text-told}

-- ---- the array's first n as a stack, the last on top

unfoldable pub stack_of : List ℕ → ℕ → List ℕ
stack_of A zero = []
stack_of A (suc n) = get_or A n 0 ∷ stack_of A n

pub length_stack : (A : List ℕ) (n : ℕ) → length (stack_of A n) ≡ n
unfolding stack_of
length_stack A zero = refl
length_stack A (suc n) = ap suc (length_stack A n)

pub top_stack : (A : List ℕ) (n : ℕ) → 1 ≤ n → top (stack_of A n) ≡ get_or A (n - 1) 0
unfolding stack_of
top_stack A zero h = absurd (omega arith)
top_stack A (suc n) h = rw (sub-one (suc n))

pub under_stack : (A : List ℕ) (n : ℕ) → under (stack_of A n) ≡ stack_of A (n - 1)
unfolding stack_of
under_stack A zero = refl
under_stack A (suc n) = rw (sub-one (suc n))

stack_below : (A : List ℕ) (n i v : ℕ) → n ≤ i → stack_of (set A i v) n ≡ stack_of A n
unfolding stack_of
stack_below A zero i v h = refl
stack_below A (suc n) i v h =
    ap (λ (x : ℕ). x ∷ stack_of (set A i v) n) (get_or-set_other A i n v 0 (λ z. omega arith))
    ∙ ap (λ (s : List ℕ). get_or A n 0 ∷ s) (stack_below A n i v (omega arith))

pub stack_pushed : (A : List ℕ) (n v : ℕ) → n < length A → stack_of (set A n v) (n + 1) ≡ v ∷ stack_of A n
unfolding stack_of
stack_pushed A n v h =
    rw (add-one n)
    (ap (λ (x : ℕ). x ∷ stack_of (set A n v) n) (get_or-set_same A n v 0 h) ∙ ap (λ (s : List ℕ). v ∷ s) (stack_below A n n v (omega arith)))

pub stack_grown : (A : List ℕ) (n : ℕ) → 1 ≤ n → n ≤ length A
    → stack_of (set A (n - 1) (get_or A (n - 1) 0 + 1)) n ≡ grown (stack_of A n)
unfolding stack_of
stack_grown A zero h l = absurd (omega arith)
stack_grown A (suc n) h l =
    let e : suc n - 1 ≡ n = omega arith in
    ap (λ (m : ℕ). stack_of (set A m (get_or A m 0 + 1)) (suc n)) e
    ∙ (ap (λ (x : ℕ). x ∷ stack_of (set A n (get_or A n 0 + 1)) n) (get_or-set_same A n (get_or A n 0 + 1) 0 (omega arith))
    ∙ ap (λ (s : List ℕ). (get_or A n 0 + 1) ∷ s) (stack_below A n n (get_or A n 0 + 1) (omega arith)))

-- ---- one more in front of words that are stored

sets_later : (l : List ℕ) (j : ℕ) (vs : List ℕ) (i v : ℕ) → i < j → set (sets l j vs) i v ≡ sets (set l i v) j vs
sets_later l j [] i v h = refl
sets_later l j (a ∷ vs) i v h =
    sets_later (set l j a) (suc j) vs i v (omega arith)
    ∙ ap (λ (m : List ℕ). sets m (suc j) vs) (set_comm l j i a v (λ z. omega arith))

pub sets_front : (l : List ℕ) (j : ℕ) (vs : List ℕ) (v : ℕ) → 1 ≤ j → set (sets l j vs) (j - 1) v ≡ sets l (j - 1) (v ∷ vs)
sets_front l j vs v h =
    let e : suc (j - 1) ≡ j = omega arith in
    sets_later l j vs (j - 1) v (omega arith) ∙ ap (λ (n : ℕ). sets (set l (j - 1) v) n vs) (sym e)

-- ---- at a place

pub record Counting (H₀ T : List ℕ) (last : ℕ) (H A : List ℕ) (n slot place : ℕ) : Type 0 where
  pub stack : stack_of A n ≡ (tally (drop place T)).stack
  pub kept : H ≡ sets H₀ slot (tally (drop place T)).counts
  pub begins : slot + length (tally (drop place T)).counts ≡ last
  pub inside : place ≤ length T
  pub size : length A ≡ 64
  pub few : n ≤ 64

pub at-end : (H T : List ℕ) (last : ℕ) (A : List ℕ) → length A ≡ 64 → Counting H T last H A 0 last (length T)
unfolding stack_of tally
at-end H T last A h =
    let e : drop (length T) T ≡ [] = drop-length T in
    record {
      stack = sym (ap (λ (l : List ℕ). (tally l).stack) e);
      kept = sym (ap (λ (l : List ℕ). sets H last (tally l).counts) e);
      begins = ap (λ (l : List ℕ). last + length (tally l).counts) e ∙ omega arith;
      inside = omega arith;
      size = h;
      few = omega arith;
    }

module _ (H₀ T : List ℕ) (last : ℕ) (H A : List ℕ) (n slot place : ℕ) (s : Counting H₀ T last H A n slot place) where
  abbrev bytes : List ℕ
  bytes = drop place T

  stack_size : length (tally (drop place T)).stack ≡ n
  stack_size = sym (ap length s.stack) ∙ length_stack A n

  pub heap-size : length H ≡ length H₀
  heap-size = ap length s.kept ∙ length-sets H₀ slot (tally (drop place T)).counts

  module _ (p : 1 ≤ place) where
    abbrev byte : ℕ
    byte = get_or T (place - 1) 0

    pub one_more : drop (place - 1) T ≡ get_or T (place - 1) 0 ∷ drop place T
    one_more =
        let e : suc (place - 1) ≡ place = omega arith in
        drop-cons T (place - 1) 0 (omega (arith, s.inside))
        ∙ ap (λ (m : ℕ). get_or T (place - 1) 0 ∷ drop m T) e

    -- the tally there
    tally-more : tally (drop (place - 1) T) ≡ tallied (get_or T (place - 1) 0) (drop place T) (tally (drop place T))
    unfolding tally
    tally-more = ap tally one_more

    pub safe-step : (g : Forest) → Countable H₀ T last g
        → SafeStep max_words (length (tree_counts (node g))) (get_or T (place - 1) 0) (drop place T) (tally (drop place T))
    safe-step g c =
        let t = text-told max_words (length (tree_counts (node g))) g c.fits c.few (omega arith) in
        let u : Safe max_words (length (tree_counts (node g))) T = rw c.spelt t.safe in
        let v : Safe max_words (length (tree_counts (node g))) (get_or T (place - 1) 0 ∷ drop place T) =
        rw one_more at (safe-drop max_words (length (tree_counts (node g))) (place - 1) T u) in
        v.1

    -- a byte that says nothing
    same-tally : tallied (get_or T (place - 1) 0) (drop place T) (tally (drop place T)) ≡ tally (drop place T)
        → Counting H₀ T last H A n slot (place - 1)
    same-tally e =
        let f = tally-more ∙ e in
        record {
          stack = s.stack ∙ sym (ap (λ (t : Tally). t.stack) f);
          kept = s.kept ∙ sym (ap (λ (t : Tally). sets H₀ slot t.counts) f);
          begins = ap (λ (t : Tally). slot + length t.counts) f ∙ s.begins;
          inside = omega (arith, s.inside);
          size = s.size;
          few = s.few;
        }

    pub digit-passed : is_digit (get_or T (place - 1) 0) ≡ true → Counting H₀ T last H A n slot (place - 1)
    digit-passed h = same-tally (plain-tally max_words 0 _ _ _ (digit-plain max_words 0 _ h))

    pub other-passed : (get_or T (place - 1) 0 ≡ 44 → ⊥) → Faults.closes (get_or T (place - 1) 0) ≡ false → Faults.opens (get_or T (place - 1) 0) ≡ false
        → Counting H₀ T last H A n slot (place - 1)
    other-passed a b c =
        same-tally (plain-tally max_words 0 _ _ _ (record { comma = ne_eqb _ _ a; closer = b; opener = c }))

    -- ---- a comma

    pub record Grows : Type 0 where
      pub some : 1 ≤ n
      pub small : get_or A (n - 1) 0 < max_words
      pub again : Counting H₀ T last H (set A (n - 1) (get_or A (n - 1) 0 + 1)) n slot (place - 1)

    comma-tally : get_or T (place - 1) 0 ≡ 44
        → tally (drop (place - 1) T) ≡ record { stack = grown (tally (drop place T)).stack; counts = (tally (drop place T)).counts }
    unfolding tallied
    comma-tally e = tally-more ∙ simp (eq-eqb (get_or T (place - 1) 0) 44 e)

    pub grows : (g : Forest) → Countable H₀ T last g → get_or T (place - 1) 0 ≡ 44 → Grows
    grows g c e =
        let f = (safe-step g c).comma e in
        let h : 1 ≤ n = omega (arith, f.0, stack_size) in
        let t = comma-tally e in
        record {
          some = h;
          small = omega (arith, f.1, ap top s.stack, top_stack A n h);
          again = record {
            stack =
                stack_grown A n h (omega (arith, s.size, s.few)) ∙ ap grown s.stack
                ∙ sym (ap (λ (x : Tally). x.stack) t);
            kept = s.kept ∙ sym (ap (λ (x : Tally). sets H₀ slot x.counts) t);
            begins = ap (λ (x : Tally). slot + length x.counts) t ∙ s.begins;
            inside = omega (arith, s.inside);
            size = length-set A (n - 1) (get_or A (n - 1) 0 + 1) ∙ s.size;
            few = s.few;
          };
        }

    -- ---- a closer

    pub record Opens : Type 0 where
      pub few : n < 64
      pub again : Counting H₀ T last H (set A n 1) (n + 1) slot (place - 1)

    closer-tally : (get_or T (place - 1) 0 ≡ 44 → ⊥) → Faults.closes (get_or T (place - 1) 0) ≡ true
        → tally (drop (place - 1) T) ≡ record { stack = 1 ∷ (tally (drop place T)).stack; counts = (tally (drop place T)).counts }
    unfolding tallied
    closer-tally a b = tally-more ∙ simp (ne_eqb (get_or T (place - 1) 0) 44 a, b)

    pub opens : (g : Forest) → Countable H₀ T last g → (get_or T (place - 1) 0 ≡ 44 → ⊥) → Faults.closes (get_or T (place - 1) 0) ≡ true → Opens
    opens g c a b =
        let f : n < 64 = omega (arith, (safe-step g c).closer b, stack_size) in
        let t = closer-tally a b in
        record {
          few = f;
          again = record {
            stack =
                stack_pushed A n 1 (omega (arith, s.size)) ∙ ap (λ (l : List ℕ). 1 ∷ l) s.stack
                ∙ sym (ap (λ (x : Tally). x.stack) t);
            kept = s.kept ∙ sym (ap (λ (x : Tally). sets H₀ slot x.counts) t);
            begins = ap (λ (x : Tally). slot + length x.counts) t ∙ s.begins;
            inside = omega (arith, s.inside);
            size = length-set A n 1 ∙ s.size;
            few = omega arith;
          };
        }

    -- ---- an opener

    pub record Closes : Type 0 where
      pub some : 1 ≤ n
      pub room : 1 ≤ slot
      pub behind : place < length T
      pub none : get_or T (place - 1 + 1) 0 ≡ 41 → Counting H₀ T last (set H (slot - 1) 0) A (n - 1) (slot - 1) (place - 1)
      pub again : (get_or T (place - 1 + 1) 0 ≡ 41 → ⊥)
          → Counting H₀ T last (set H (slot - 1) (get_or A (n - 1) 0)) A (n - 1) (slot - 1) (place - 1)

    opener-tally : (v : ℕ) → (get_or T (place - 1) 0 ≡ 44 → ⊥) → Faults.closes (get_or T (place - 1) 0) ≡ false → Faults.opens (get_or T (place - 1) 0) ≡ true
        → cond (eqb (top (drop place T)) 41) 0 (top (tally (drop place T)).stack) ≡ v
        → tally (drop (place - 1) T) ≡ record { stack = under (tally (drop place T)).stack; counts = v ∷ (tally (drop place T)).counts }
    unfolding tallied
    opener-tally v a b o e =
        tally-more ∙ simp (ne_eqb (get_or T (place - 1) 0) 44 a, b, o)
        (ap (λ (x : ℕ). record { stack = under (tally (drop place T)).stack; counts = x ∷ (tally (drop place T)).counts }) e)

    stored : (v : ℕ) → 1 ≤ slot
        → tally (drop (place - 1) T) ≡ record { stack = under (tally (drop place T)).stack; counts = v ∷ (tally (drop place T)).counts }
        → Counting H₀ T last (set H (slot - 1) v) A (n - 1) (slot - 1) (place - 1)
    stored v r t = record {
      stack = sym (under_stack A n) ∙ ap under s.stack ∙ sym (ap (λ (x : Tally). x.stack) t);
      kept =
          ap (λ (l : List ℕ). set l (slot - 1) v) s.kept ∙ sets_front H₀ slot (tally (drop place T)).counts v r
          ∙ sym (ap (λ (x : Tally). sets H₀ (slot - 1) x.counts) t);
      begins = ap (λ (x : Tally). slot - 1 + length x.counts) t ∙ omega (arith, s.begins);
      inside = omega (arith, s.inside);
      size = s.size;
      few = omega (arith, s.few);
    }

    head-is : place < length T → top (drop place T) ≡ get_or T (place - 1 + 1) 0
    head-is h =
        let e : place ≡ place - 1 + 1 = omega arith in
        ap top (drop-cons T place 0 h) ∙ ap (λ (m : ℕ). get_or T m 0) e

    pub closes : (g : Forest) → Countable H₀ T last g → (get_or T (place - 1) 0 ≡ 44 → ⊥) → Faults.closes (get_or T (place - 1) 0) ≡ false
        → Faults.opens (get_or T (place - 1) 0) ≡ true → Closes
    closes g c a b o =
        let f = (safe-step g c).opener o in
        let h : 1 ≤ n = omega (arith, f.0, stack_size) in
        let r : 1 ≤ slot = omega (arith, f.1, s.begins, c.room) in
        let q : place < length T = omega (arith, f.2, length-drop place T) in
        record {
          some = h;
          room = r;
          behind = q;
          none = λ z. stored 0 r (opener-tally 0 a b o (simp (eq-eqb (top (drop place T)) 41 (head-is q ∙ z))));
          again = λ z. stored (get_or A (n - 1) 0) r
              (opener-tally (get_or A (n - 1) 0) a b o
              (simp (ne_eqb (top (drop place T)) 41 (λ y. z (sym (head-is q) ∙ y))) (sym (ap top s.stack) ∙ top_stack A n h)));
        }

  pub all-passed : (g : Forest) → Countable H₀ T last g → place ≤ 0 → CountsKept H₀ last g slot H
  all-passed g c h =
      let z : place ≡ 0 = omega arith in
      let t = text-told max_words (length (tree_counts (node g))) g c.fits c.few (omega arith) in
      let e : (tally (drop place T)).counts ≡ tree_counts (node g) =
      ap (λ (m : ℕ). (tally (drop m T)).counts) z ∙ ap (λ (l : List ℕ). (tally l).counts) c.spelt ∙ t.counts in
      record {
        begins = ap (λ (l : List ℕ). slot + length l) (sym e) ∙ s.begins;
        kept = s.kept ∙ ap (λ (l : List ℕ). sets H₀ slot l) e;
      }
