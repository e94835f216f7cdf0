-- What the loop over the text from its end knows of the bytes that it has passed: the tuples that stand open, each with its values
-- so far, the last opened first, and the counts of those that do not.
use Prim.Native.Nat.{ℕ, zero, suc, ◌+◌, ◌≤◌, ◌<◌}
use native.Mathlib.Omega.{arith}
use mathlib.Core.Path.{◌≡◌, refl, sym, ap, ◌∙◌}
use mathlib.Core.Bool.{true, false, cond}
use mathlib.Core.List.{List, [], ◌∷◌, ◌++◌, append_assoc, append-nil}
use lib.Dec.{eqb}
use lib.IntN.{ℤ, pos, negsuc}
use lib.ListN.{length, drop, length-append}
use borrow.Author.Tests.{eqb-false, ne_eqb, leb-true, ltb-true}
use Rattle.model.specs.Texts.{digits, joined, enclosed}
use Rattle.model.specs.Trees.{Forest, end, leaf_then, node_then, Tree, leaf, node, then, count, forest_words, tree_words, texts, tree_text, ForestFits, TreeFits}
use Rattle.model.specs.Reading.{is_digit}
use Rattle.model.specs.ReadFaults as Faults
use Rattle.theory.proofs.Tests.{never, and_both}
use Rattle.reader_placing.specs.Counting.{forest_counts, tree_counts}
use Rattle.reader_placing.proofs.Digits.{AllDigits, digits-all}
use Rattle.reader_placing.proofs.Signs.{some-digit}

pub record Tally : Type 0 where
  pub stack : List ℕ
  pub counts : List ℕ

abbrev pub top : List ℕ → ℕ
top [] = 0
top (n ∷ st) = n

abbrev pub under : List ℕ → List ℕ
under [] = []
under (n ∷ st) = st

abbrev pub grown : List ℕ → List ℕ
grown [] = []
grown (n ∷ st) = (n + 1) ∷ st

-- an opener, of the bytes behind it
abbrev pub closed : List ℕ → Tally → Tally
closed bs t = record { stack = under t.stack; counts = cond (eqb (top bs) 41) 0 (top t.stack) ∷ t.counts }

unfoldable pub tallied : ℕ → List ℕ → Tally → Tally
tallied b bs t =
    cond (eqb b 44) (record { stack = grown t.stack; counts = t.counts })
    (cond (Faults.closes b) (record { stack = 1 ∷ t.stack; counts = t.counts }) (cond (Faults.opens b) (closed bs t) t))

unfoldable pub tally : List ℕ → Tally
tally [] = record { stack = []; counts = [] }
tally (b ∷ bs) = tallied b bs (tally bs)

-- with counts up to M and so many of them at most, and 64 tuples that stand open
module _ (M C : ℕ) where
  pub record SafeStep (b : ℕ) (bs : List ℕ) (t : Tally) : Type 0 where
    pub comma : b ≡ 44 → (1 ≤ length t.stack) × (top t.stack < M)
    pub closer : Faults.closes b ≡ true → length t.stack < 64
    pub opener : Faults.opens b ≡ true → (1 ≤ length t.stack) × (length t.counts < C) × (1 ≤ length bs)

  abbrev pub Safe : List ℕ → Type 0
  Safe [] = Unit {0}
  Safe (b ∷ bs) = Safe bs × SafeStep b bs (tally bs)

  pub safe-drop : (n : ℕ) (bs : List ℕ) → Safe bs → Safe (drop n bs)
  safe-drop zero bs s = s
  safe-drop (suc n) [] s = tt
  safe-drop (suc n) (b ∷ bs) s = safe-drop n bs s.0

  -- the bytes l leave this much
  pub record Told (l : List ℕ) (st cs : List ℕ) : Type 0 where
    pub safe : Safe l
    pub stack : (tally l).stack ≡ st
    pub counts : (tally l).counts ≡ cs

  -- ---- bytes that say nothing

  pub record Plain (b : ℕ) : Type 0 where
    pub comma : eqb b 44 ≡ false
    pub closer : Faults.closes b ≡ false
    pub opener : Faults.opens b ≡ false

  pub plain-tally : (b : ℕ) (bs : List ℕ) (t : Tally) → Plain b → tallied b bs t ≡ t
  unfolding tallied
  plain-tally b bs t p = simp (p.comma, p.closer, p.opener)

  plain-safe : (b : ℕ) (bs : List ℕ) (t : Tally) → Plain b → SafeStep b bs t
  plain-safe b bs t p = record {
    comma = λ e. absurd (eqb-false b 44 p.comma e);
    closer = λ e. never e p.closer;
    opener = λ e. never e p.opener;
  }

  plain-told : (b : ℕ) (l st cs : List ℕ) → Plain b → Told l st cs → Told (b ∷ l) st cs
  unfolding tally
  plain-told b l st cs p t = record {
    safe = (t.safe, plain-safe b l (tally l) p);
    stack = ap (λ (x : Tally). x.stack) (plain-tally b l (tally l) p) ∙ t.stack;
    counts = ap (λ (x : Tally). x.counts) (plain-tally b l (tally l) p) ∙ t.counts;
  }

  pub digit-plain : (b : ℕ) → is_digit b ≡ true → Plain b
  digit-plain b h =
      let a = and_both _ _ h in
      let l = leb-true 48 b a.0 in
      let u = ltb-true b 58 a.1 in
      record {
        comma = ne_eqb b 44 (λ z. omega arith);
        closer = simp (ne_eqb b 41 (λ z. omega arith), ne_eqb b 125 (λ z. omega arith));
        opener = simp (ne_eqb b 40 (λ z. omega arith), ne_eqb b 123 (λ z. omega arith));
      }

  digits-told : (ds l st cs : List ℕ) → AllDigits ds → Told l st cs → Told (ds ++ l) st cs
  digits-told [] l st cs a t = t
  digits-told (d ∷ ds) l st cs a t = plain-told d (ds ++ l) st cs (digit-plain d a.0) (digits-told ds l st cs a.1 t)

  -- ---- values and what stands between them

  abbrev ValueTold : Tree → Type 0
  ValueTold v =
      (d : ℕ) (l st cs : List ℕ) → TreeFits d v → Told l st cs → length st + d ≤ 64 → tree_words v ≤ M
      → length cs + length (tree_counts v) ≤ C → Told (tree_text v ++ l) st (tree_counts v ++ cs)

  abbrev JoinedTold : Forest → Type 0
  JoinedTold f =
      (d : ℕ) (l st cs : List ℕ) → ForestFits d f → Told l st cs → length st + 1 + d ≤ 64 → forest_words f ≤ M → count f < M
      → length cs + length (forest_counts f) ≤ C → Told (joined (λ b. b) (texts f) ++ l) ((count f + 1) ∷ st) (forest_counts f ++ cs)

  leaf-told : (v : ℤ) → ValueTold (leaf v)
  leaf-told (pos n) d l st cs a t h m r = digits-told (digits n) l st cs (digits-all n n (omega arith)) t
  leaf-told (negsuc n) d l st cs a t h m r =
      plain-told 126 (digits (n + 1) ++ l) st cs (record { comma = refl; closer = refl; opener = refl })
      (digits-told (digits (n + 1)) l st cs (digits-all (n + 1) (n + 1) (omega arith)) t)

  closer-told : (b : ℕ) (l st cs : List ℕ) → eqb b 44 ≡ false → Faults.closes b ≡ true → Faults.opens b ≡ false → length st < 64 → Told l st cs
      → Told (b ∷ l) (1 ∷ st) cs
  unfolding tally tallied
  closer-told b l st cs e c o h t = record {
    safe = (
      t.safe,
      record {
        comma = λ z. absurd (eqb-false b 44 e z);
        closer = λ z. omega (arith, ap length t.stack);
        opener = λ z. never z o;
      },
    );
    stack = simp (e, c) (ap (λ (s : List ℕ). 1 ∷ s) t.stack);
    counts = simp (e, c) t.counts;
  }

  comma-told : (n : ℕ) (l st cs : List ℕ) → n < M → Told l (n ∷ st) cs → Told (44 ∷ l) ((n + 1) ∷ st) cs
  unfolding tally tallied
  comma-told n l st cs h t = record {
    safe = (
      t.safe,
      record {
        comma = λ z. (omega (arith, ap length t.stack), omega (arith, ap top t.stack));
        closer = λ z. never z refl;
        opener = λ z. never z refl;
      },
    );
    stack = ap grown t.stack;
    counts = t.counts;
  }

  opener-told : (b n m : ℕ) (l st cs : List ℕ) → eqb b 44 ≡ false → Faults.closes b ≡ false → Faults.opens b ≡ true → 1 ≤ length l
      → cond (eqb (top l) 41) 0 n ≡ m → length cs < C → Told l (n ∷ st) cs → Told (b ∷ l) st (m ∷ cs)
  unfolding tally tallied
  opener-told b n m l st cs e c o s w h t = record {
    safe = (
      t.safe,
      record {
        comma = λ z. absurd (eqb-false b 44 e z);
        closer = λ z. never z c;
        opener = λ z. (omega (arith, ap length t.stack), omega (arith, ap length t.counts), s);
      },
    );
    stack = simp (e, c, o) (ap under t.stack);
    counts = simp (e, c, o) (cc (ap top t.stack, t.counts, w));
  }

  -- ---- a value and others

  texts-then : (v : Tree) (f : Forest) → texts (then v f) ≡ tree_text v ∷ texts f
  unfolding texts
  texts-then (leaf v) f = refl
  texts-then (node g) f = refl

  count-then : (v : Tree) (f : Forest) → count (then v f) ≡ count f + 1
  unfolding count
  count-then (leaf v) f = refl
  count-then (node g) f = refl

  words-then : (v : Tree) (f : Forest) → forest_words (then v f) ≡ tree_words v + forest_words f
  unfolding forest_words
  words-then (leaf v) f = omega arith
  words-then (node g) f = omega arith

  counts-then : (v : Tree) (f : Forest) → forest_counts (then v f) ≡ tree_counts v ++ forest_counts f
  unfolding forest_counts
  counts-then (leaf v) f = refl
  counts-then (node g) f = refl

  fits-then : (v : Tree) (f : Forest) (d : ℕ) → ForestFits d (then v f) → TreeFits d v × ForestFits d f
  fits-then (leaf v) f d a = a
  fits-then (node g) f zero a = absurd a
  fits-then (node g) f (suc d) a = a

  counts_of : (v : Tree) (f : Forest) (cs : List ℕ) → tree_counts v ++ (forest_counts f ++ cs) ≡ forest_counts (then v f) ++ cs
  counts_of v f cs =
      sym (append_assoc (tree_counts v) (forest_counts f) cs) ∙ ap (λ (l : List ℕ). l ++ cs) (sym (counts-then v f))

  length-counts : (v : Tree) (f : Forest) → length (forest_counts (then v f)) ≡ length (tree_counts v) + length (forest_counts f)
  length-counts v f = ap length (counts-then v f) ∙ length-append (tree_counts v) (forest_counts f)

  -- a value before others that are told
  before : (v : Tree) (f : Forest) → ValueTold v → JoinedTold f → (d : ℕ) (l st cs : List ℕ) → ForestFits d (then v f) → Told l st cs
      → length st + 1 + d ≤ 64 → forest_words (then v f) ≤ M → count f < M → length cs + length (forest_counts (then v f)) ≤ C
      → Told (tree_text v ++ (joined (λ b. b) (texts f) ++ l)) ((count f + 1) ∷ st) (forest_counts (then v f) ++ cs)
  before v f vt ft d l st cs a t h m n r =
      let x = fits-then v f d a in
      let y = ft d l st cs x.1 t h (omega (arith, words-then v f)) n (omega (arith, length-counts v f)) in
      rw (counts_of v f cs) at
      (vt d (joined (λ b. b) (texts f) ++ l) ((count f + 1) ∷ st) (forest_counts f ++ cs) x.0 y (omega arith)
      (omega (arith, words-then v f))
      (omega (arith, length-counts v f, length-append (forest_counts f) cs)))

  joined-then : (v : Tree) (f : Forest) → ValueTold v → JoinedTold f → JoinedTold (then v f)
  unfolding joined
  joined-then v f vt ft d l st cs a t h m n r =
      let c = count-then v f in
      let y = before v f vt ft d l st cs a t h m (omega (arith, c)) r in
      let z = comma-told (count f + 1) (tree_text v ++ (joined (λ b. b) (texts f) ++ l)) st (forest_counts (then v f) ++ cs) (omega (arith, c)) y in
      rw (c, texts-then v f, append_assoc (tree_text v) (joined (λ b. b) (texts f)) l) z

  joined_end : JoinedTold end
  unfolding joined texts count forest_counts
  joined_end d l st cs a t h m n r = closer-told 41 l st cs refl refl refl (omega arith) t

  -- ---- tuples

  node_end : ValueTold (node end)
  unfolding texts enclosed count forest_counts
  node_end zero l st cs a t h m r = absurd a
  node_end (suc d) l st cs a t h m r =
      opener-told 40 1 0 (41 ∷ l) st cs refl refl refl (omega arith) refl (omega arith)
      (closer-told 41 l st cs refl refl refl (omega arith) t)

  count-end : count end + 1 ≡ 1
  unfolding count
  count-end = refl

  counts_end : forest_counts end ≡ []
  unfolding forest_counts
  counts_end = refl

  texts-end : texts end ≡ []
  unfolding texts
  texts-end = refl

  node-one : (v : Tree) → ValueTold v → ValueTold (node (then v end))
  unfolding enclosed
  node-one v vt zero l st cs a t h m r = absurd a
  node-one v vt (suc d) l st cs a t h m r =
      let x = fits-then v end d a in
      let c : count (then v end) ≡ 1 = count-then v end ∙ count-end in
      let e = tree_text v ++ (125 ∷ l) in
      let p : Told e (1 ∷ st) (tree_counts v ++ cs) =
      vt d (125 ∷ l) (1 ∷ st) cs x.0 (closer-told 125 l st cs refl refl refl (omega arith) t) (omega arith)
      (omega (arith, words-then v end)) (omega (arith, length-counts v end)) in
      let q = plain-told 49 (61 ∷ e) (1 ∷ st) _ (record { comma = refl; closer = refl; opener = refl })
      (plain-told 61 e (1 ∷ st) _ (record { comma = refl; closer = refl; opener = refl }) p) in
      let k : tree_counts v ++ cs ≡ forest_counts (then v end) ++ cs =
      ap (λ (y : List ℕ). tree_counts v ++ (y ++ cs)) (sym counts_end) ∙ counts_of v end cs in
      let z = opener-told 123 1 1 (49 ∷ 61 ∷ e) st (tree_counts v ++ cs) refl refl refl (omega arith) refl
      (omega (arith, ap length k, length-append (forest_counts (then v end)) cs)) q in
      rw (c, texts-then v end, texts-end, ← k, append_assoc (tree_text v) (125 ∷ []) l) z

  head_of : (l bs : List ℕ) → AllDigits l → 1 ≤ length l → eqb (top (l ++ bs)) 41 ≡ false
  head_of [] bs a h = absurd (omega arith)
  head_of (d ∷ ds) bs a h = let p = digit-plain d a.0 in ne_eqb d 41 (λ z. never (ap Faults.closes z) p.closer)

  enclosed-head : (ps : List (List ℕ)) (bs : List ℕ) → eqb (top (enclosed (λ b. b) ps ++ bs)) 41 ≡ false
  unfolding enclosed
  enclosed-head [] bs = refl
  enclosed-head (p ∷ []) bs = refl
  enclosed-head (p ∷ q ∷ ps) bs = refl

  -- no value begins with a closer
  value-head : (v : Tree) (bs : List ℕ) → eqb (top (tree_text v ++ bs)) 41 ≡ false
  value-head (leaf (pos n)) bs = head_of (digits n) bs (digits-all n n (omega arith)) (some-digit n n)
  value-head (leaf (negsuc n)) bs = refl
  value-head (node g) bs = enclosed-head (texts g) bs

  enclosed-some : (ps : List (List ℕ)) → 1 ≤ length (enclosed (λ b. b) ps)
  unfolding enclosed
  enclosed-some [] = omega arith
  enclosed-some (p ∷ []) = omega arith
  enclosed-some (p ∷ q ∷ ps) = omega arith

  value-some : (v : Tree) → 1 ≤ length (tree_text v)
  value-some (leaf (pos n)) = some-digit n n
  value-some (leaf (negsuc n)) = omega arith
  value-some (node g) = enclosed-some (texts g)

  enclosed-more : (p : List ℕ) (u : Tree) (f : Forest)
      → enclosed (λ b. b) (p ∷ texts (then u f)) ≡ 40 ∷ p ++ joined (λ b. b) (texts (then u f))
  unfolding enclosed texts
  enclosed-more p (leaf v) f = refl
  enclosed-more p (node g) f = refl

  node-more : (v u : Tree) (f : Forest) → ValueTold v → JoinedTold (then u f) → ValueTold (node (then v (then u f)))
  node-more v u f vt ft zero l st cs a t h m r = absurd a
  node-more v u f vt ft (suc d) l st cs a t h m r =
      let c = count-then v (then u f) in
      let y = before v (then u f) vt ft d l st cs a t (omega arith) (omega arith) (omega (arith, c)) (omega arith) in
      let e = tree_text v ++ (joined (λ b. b) (texts (then u f)) ++ l) in
      let z = opener-told 40 (count (then u f) + 1) (count (then u f) + 1) e st (forest_counts (then v (then u f)) ++ cs) refl refl refl
      (omega (arith, value-some v, length-append (tree_text v) (joined (λ b. b) (texts (then u f)) ++ l)))
      (simp (value-head v (joined (λ b. b) (texts (then u f)) ++ l)))
      (omega (arith, length-append (forest_counts (then v (then u f))) cs)) y in
      rw (c, texts-then v (then u f), enclosed-more (tree_text v) u f, append_assoc (tree_text v) (joined (λ b. b) (texts (then u f))) l) z

  node-then : (v : Tree) (f : Forest) → ValueTold v → JoinedTold f → ValueTold (node (then v f))
  node-then v end vt ft = node-one v vt
  node-then v (leaf_then u f) vt ft = node-more v (leaf u) f vt ft
  node-then v (node_then g f) vt ft = node-more v (node g) f vt ft

  all_told : (f : Forest) → JoinedTold f × ValueTold (node f)
  all_told end = (joined_end, node_end)
  all_told (leaf_then v f) =
      let r = all_told f in (joined-then (leaf v) f (leaf-told v) r.0, node-then (leaf v) f (leaf-told v) r.0)
  all_told (node_then g f) =
      let r = all_told f in
      let q = all_told g in
      (joined-then (node g) f q.1 r.0, node-then (node g) f q.1 r.0)

  -- a tuple's text, of which nothing follows
  pub text-told : (g : Forest) → ForestFits 63 g → tree_words (node g) ≤ M → length (tree_counts (node g)) ≤ C
      → Told (tree_text (node g)) [] (tree_counts (node g))
  unfolding tally
  text-told g a m r =
      let t = (all_told g).1 64 [] [] [] a (record { safe = tt; stack = refl; counts = refl }) (omega arith) m (omega arith) in
      rw (append-nil (tree_text (node g)), append-nil (tree_counts (node g))) at t
