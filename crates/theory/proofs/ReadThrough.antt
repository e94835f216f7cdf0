-- Bytes read through: what is read can go on to a text; the text of a tree is read to its end; and where as many tuples may stand open
-- as one likes, nothing else changes.
use Prim.Native.Nat.{ℕ, zero, suc, ◌+◌, ◌*◌, ◌-◌, ◌/◌, ◌%◌, ◌≤◌, ◌<◌}
use native.Mathlib.Omega.{arith}
use mathlib.Core.Path.{◌≡◌, refl, sym, ap, ◌∙◌, subst}
use mathlib.Core.Logic.{⊎_elim}
use mathlib.Core.Bool.{Bool, true, false}
use mathlib.Core.List.{List, [], ◌∷◌, ◌++◌, append-nil, append_assoc}
use lib.Dec.{eqb}
use lib.IntN.{ℤ, pos, negsuc}
use borrow.Author.Tests.{leb-true, le-leb, lt-leb, le-ltb, lt-ltb, ne_eqb}
use Rattle.model.specs.declared.Refusal.{Refusal}
use Rattle.model.specs.Limits.{max_integer}
use Rattle.model.specs.Reading.{Open, outside, paren, brace, height, forest_of, Mode, start, opened, braced, numbered, negated}
use Rattle.model.specs.Reading.{digits, whole, Next, go, bad, is_digit, signed, most_digits, none_yet, follow}
use Rattle.model.specs.Reading.{opening, next, onward, stopped, parsed_from}
use Rattle.model.specs.ReadFaults.{Begins}
use Rattle.model.specs.Texts as T
use Rattle.model.specs.Texts.{integer_text, minus, opener, closer, comma, one_opener, one_closer, joined, enclosed}
use Rattle.model.specs.Trees.{Forest, end, leaf_then, node_then, Tree, leaf, node, then, texts, tree_text, ForestFits, TreeFits}
use Rattle.model.specs.Values.{in_range}
use Rattle.theory.proofs.Numerals.{digits-small, digits_more, digits-first}
use Rattle.theory.proofs.Reading.{shown, digits_fit, Good, Kept, next-kept}
use Rattle.theory.proofs.Tests.{decide}

go_same : (m m' : Mode) → go m ≡ go m' → m ≡ m'
go_same m m' e = cc

pub bad-go : {A : Type 0} (k : Refusal) (m : Mode) → bad k ≡ go m → A
bad-go k m e = let z : ◌≡◌ {A = ℕ} 0 1 = cc in absurd (omega arith)

no_end : {v : ℤ} {f : Forest} → leaf_then v f ≡ end → ⊥
no_end e = let z : ◌≡◌ {A = ℕ} 0 1 = cc in omega arith

no_end' : {g f : Forest} → node_then g f ≡ end → ⊥
no_end' e = let z : ◌≡◌ {A = ℕ} 0 1 = cc in omega arith

pub node-fits : (r : ℕ) (g f : Forest) → ForestFits r (node_then g f) → TreeFits r (node g) × ForestFits r f
node-fits zero g f a = absurd a
node-fits (suc r) g f a = (a.0, a.1)

module _ (most : ℕ) where
  -- ---- several bytes

  unfoldable pub through : Next → List ℕ → Next
  through x [] = x
  through x (b ∷ bs) = through (onward most x b) bs

  pub parsed_through : (x : Next) (bs : List ℕ) → parsed_from most x bs ≡ stopped (through x bs)
  unfolding parsed_from through
  parsed_through x [] = refl
  parsed_through x (b ∷ bs) = parsed_through (onward most x b) bs

  pub through_bad : (k : Refusal) (bs : List ℕ) → through (bad k) bs ≡ bad k
  unfolding through
  through_bad k [] = refl
  through_bad k (b ∷ bs) = through_bad k bs

  pub through_append : (x : Next) (a b : List ℕ) → through x (a ++ b) ≡ through (through x a) b
  unfolding through
  through_append x [] b = refl
  through_append x (c ∷ a) b = through_append (onward most x c) a b

  -- what has been read is what is shown
  pub next-shown : (m : Mode) (b : ℕ) (n : Mode) → Good most m → next most m b ≡ go n → (shown n ≡ shown m ++ (b ∷ [])) × Good most n
  next-shown m b n g e = subst (λ x. Kept most m b x) e (next-kept most m b g)

  pub through_kept : (bs : List ℕ) (m m' : Mode) → Good most m → through (go m) bs ≡ go m'
      → (shown m' ≡ shown m ++ bs) × Good most m'
  unfolding through
  through_kept [] m m' g e =
      let q = go_same m m' e in
      (sym (ap shown q) ∙ sym (append-nil (shown m)), subst (Good most) q g)
  through_kept (b ∷ bs) m m' g e = by (λ n h f. through_kept bs n m' h f) (next most m b) refl e
    where
      by : ((n : Mode) → Good most n → through (go n) bs ≡ go m' → (shown m' ≡ shown n ++ bs) × Good most m')
          → (x : Next) → next most m b ≡ x → through x bs ≡ go m' → (shown m' ≡ shown m ++ (b ∷ bs)) × Good most m'
      by ih (bad k) q f = bad-go k m' (sym (through_bad k bs) ∙ f)
      by ih (go n) q f =
          let k = next-shown m b n g q in
          let r = ih n k.1 f in
          (r.0 ∙ ap (λ x. x ++ bs) k.0 ∙ append_assoc (shown m) (b ∷ []) bs, r.1)

  -- ---- it can go on to a text

  -- so can what led to it
  before : (m : Mode) (b : ℕ) (n : Mode) → Good most m → next most m b ≡ go n → (Good most n → Begins (shown n)) → Begins (shown m)
  before m b n g e f =
      let k = next-shown m b n g e in
      let v = f k.1 in
      record {
        tree = v.tree;
        depth = v.depth;
        fits = v.fits;
        rest = b ∷ v.rest;
        spelled = v.spelled ∙ ap (λ x. x ++ v.rest) k.0 ∙ append_assoc (shown m) (b ∷ []) v.rest;
      }

  -- a value that is whole: what stands open is closed, after one value more where that is asked for
  whole-begins : (o : Open) (t : Tree) → Good most (whole t o) → Begins (shown (whole t o))
  whole-begins outside t g = record {
    tree = t;
    depth = g.0;
    fits = g.2;
    rest = [];
    spelled = sym (append-nil (tree_text t));
  }
  whole-begins (paren [] o) t g =
      before (whole t (paren [] o)) comma (start (paren (t ∷ []) o)) g refl (λ h.
      before (start (paren (t ∷ []) o)) 48 (digits false 0 (paren (t ∷ []) o)) h refl (λ i.
      before (digits false 0 (paren (t ∷ []) o)) closer (whole (node (forest_of (t ∷ leaf (pos 0) ∷ []))) o) i refl (λ j.
      whole-begins o (node (forest_of (t ∷ leaf (pos 0) ∷ []))) j)))
  whole-begins (paren (u ∷ ts) o) t g =
      before (whole t (paren (u ∷ ts) o)) closer (whole (node (forest_of (u ∷ (ts ++ (t ∷ []))))) o) g refl (λ h.
      whole-begins o (node (forest_of (u ∷ (ts ++ (t ∷ []))))) h)
  whole-begins (brace o) t g =
      before (whole t (brace o)) one_closer (whole (node (then t end)) o) g refl (λ h. whole-begins o (node (then t end)) h)

  digits-begin : (neg : Bool) (n : ℕ) (o : Open) → Good most (digits neg n o) → Begins (shown (digits neg n o))
  digits-begin neg n o g = whole-begins o (leaf (signed neg n)) (g.0, g.1, digits_fit neg n g.2)

  start-begins : (o : Open) → Good most (start o) → Begins (shown (start o))
  start-begins o g = before (start o) 48 (digits false 0 o) g refl (λ h. digits-begin false 0 o h)

  pub mode_begins : (m : Mode) → Good most m → Begins (shown m)
  mode_begins (start o) g = start-begins o g
  mode_begins (opened o) g = before (opened o) closer (whole (node end) o) g refl (λ h. whole-begins o (node end) h)
  mode_begins (braced o) g =
      before (braced o) 49 (numbered o) g refl (λ h. before (numbered o) 61 (start (brace o)) h refl (λ i. start-begins (brace o) i))
  mode_begins (numbered o) g = before (numbered o) 61 (start (brace o)) g refl (λ i. start-begins (brace o) i)
  mode_begins (negated o) g = before (negated o) 49 (digits true 1 o) g refl (λ h. digits-begin true 1 o h)
  mode_begins (digits neg n o) g = digits-begin neg n o g
  mode_begins (whole t o) g = whole-begins o t g

  -- ---- the text of a tree is read to its end

  -- the mode in which a tree has been read
  abbrev pub after_tree : Tree → Open → Mode
  after_tree (leaf (pos n)) o = digits false n o
  after_tree (leaf (negsuc n)) o = digits true (suc n) o
  after_tree (node g) o = whole (node g) o

  -- a byte that is no digit follows it
  follows : (t : Tree) (o : Open) (b : ℕ) → is_digit b ≡ false → next most (after_tree t o) b ≡ follow t o b
  follows (leaf (pos n)) o b e = rw e
  follows (leaf (negsuc n)) o b e = rw e
  follows (node g) o b e = refl

  digit-byte : (k : ℕ) → k < 10 → is_digit (48 + k) ≡ true
  digit-byte k l = rw (le-leb 48 (48 + k) (omega arith), lt-ltb (48 + k) 58 (omega arith))

  -- digits, whose first leads to mode `digits`
  module _ (neg : Bool) (o : Open) (x : Next)
      (first : (k : ℕ) → 1 ≤ k → k < 10 → onward most x (48 + k) ≡ go (digits neg k o)) where
    through_digits : (f n : ℕ) → n ≤ f → 1 ≤ n → n ≤ most_digits neg → through x (T.digits n) ≡ go (digits neg n o)
    unfolding through
    through_digits zero n l p u = absurd (omega arith)
    through_digits (suc f) n l p u =
        ⊎_elim
        (λ (s : n < 10). ap (through x) (digits-small n s) ∙ first n p s)
        (λ (s : 10 ≤ n).
        let q : 1 ≤ n / 10 = omega arith in
        let k : n % 10 < 10 = omega arith in
        let e : 10 * (n / 10) + n % 10 ≡ n = omega arith in
        ap (through x) (ap T.digits (sym e) ∙ digits_more (n / 10) (n % 10) q k)
        ∙ through_append x (T.digits (n / 10)) ((48 + n % 10) ∷ [])
        ∙ ap (λ y. through y ((48 + n % 10) ∷ [])) (through_digits f (n / 10) (omega arith) q (omega arith))
        ∙ longer-digit (n / 10) (n % 10) q k (omega arith) ∙ ap (λ y. go (digits neg y o)) e)
        (decide n 10)
      where
        longer-digit : (q k : ℕ) → 1 ≤ q → k < 10 → 10 * q + k ≤ most_digits neg
            → through (go (digits neg q o)) ((48 + k) ∷ []) ≡ go (digits neg (10 * q + k) o)
        longer-digit q k a b c =
            let z : 48 + k - 48 ≡ k = omega arith in
            rw (digit-byte k b, z, ne_eqb q 0 (λ y. omega arith), le-ltb (most_digits neg) (10 * q + k) c)

  through_leaf : (v : ℤ) (o : Open) → in_range v ≡ true → through (go (start o)) (integer_text v) ≡ go (after_tree (leaf v) o)
  unfolding through
  through_leaf (pos zero) o e = rw (digits-small 0 (omega arith))
  through_leaf (pos (suc n)) o e =
      through_digits false o (go (start o))
      (λ k a b. let z : 48 + k - 48 ≡ k = omega arith in rw (digit-byte k b, z)) (suc n) (suc n) (omega arith) (omega arith)
      (leb-true (suc n) max_integer e)
  through_leaf (negsuc n) o e =
      let l = leb-true n max_integer e in
      ap (λ x. through (go (negated o)) (T.digits x)) (omega arith)
      ∙ through_digits true o (go (negated o))
      (λ k a b. let z : 48 + k - 48 ≡ k = omega arith in rw (digit-byte k b, z, ne_eqb (48 + k) 48 (λ y. omega arith)))
      (suc n) (suc n) (omega arith) (omega arith) (omega arith)

  -- trees, and a forest behind them
  abbrev chain : List Tree → Forest → Forest
  chain [] f = f
  chain (t ∷ ts) f = then t (chain ts f)

  chain_forest : (ts : List Tree) → chain ts end ≡ forest_of ts
  chain_forest [] = refl
  chain_forest (t ∷ ts) = ap (then t) (chain_forest ts)

  chain_snoc : (ts : List Tree) (t : Tree) (f : Forest) → chain (ts ++ (t ∷ [])) f ≡ chain ts (then t f)
  chain_snoc [] t f = refl
  chain_snoc (u ∷ ts) t f = ap (then u) (chain_snoc ts t f)

  -- the first byte of a value closes nothing
  first_byte : (t : Tree) → (b : ℕ) × (bs : List ℕ) × (tree_text t ≡ b ∷ bs) × (eqb b closer ≡ false)
  unfolding enclosed
  first_byte (leaf (pos n)) =
      let r = digits-first n n in
      let l = r.3 in
      (r.0, r.1, r.2, ne_eqb r.0 closer (λ e. omega arith))
  first_byte (leaf (negsuc n)) = (minus, T.digits (n + 1), refl, refl)
  first_byte (node g) = of_texts (texts g)
    where
      of_texts : (ts : List (List ℕ)) → (b : ℕ) × (bs : List ℕ) × (enclosed (λ b. b) ts ≡ b ∷ bs) × (eqb b closer ≡ false)
      of_texts [] = (opener, _, refl, refl)
      of_texts (t ∷ []) = (123, _, refl, refl)
      of_texts (t ∷ u ∷ ts) = (opener, _, refl, refl)

  -- so that it is read behind "(" as a first value is
  through_opened : (t : Tree) (o : Open) (rest : List ℕ)
      → through (go (opened o)) (tree_text t ++ rest) ≡ through (go (start (paren [] o))) (tree_text t ++ rest)
  unfolding through
  through_opened t o rest =
      let r = first_byte t in
      ap (λ x. through (go (opened o)) (x ++ rest)) r.2
      ∙ ap (λ x. through x (r.1 ++ rest)) (rw r.3)
      ∙ ap (λ x. through (go (start (paren [] o))) (x ++ rest)) (sym r.2)

  opening-go : (o : Open) (m : Mode) → height o < most → opening most o m ≡ go m
  opening-go o m l = rw (lt-leb most (height o) l)

  -- a tuple with values ts, of which t is the last that was read, and f those to come
  module _ (r : ℕ) (o : Open) (deep : suc r + height o ≡ most)
      (value : (t : Tree) (p : Open) → r + height p ≡ most → TreeFits r t → through (go (start p)) (tree_text t) ≡ go (after_tree t p)) where
    closes : (ts : List Tree) (t : Tree) → none_yet ts ≡ false → follow t (paren ts o) closer ≡ go (whole (node (forest_of (ts ++ (t ∷ [])))) o)
    closes ts t e = rw e

    snoc_some : (ts : List Tree) (t : Tree) → none_yet (ts ++ (t ∷ [])) ≡ false
    snoc_some [] t = refl
    snoc_some (u ∷ ts) t = refl

    -- a value behind a comma
    one_more : (ts : List Tree) (t u : Tree) (rest : List ℕ) → TreeFits r u
        → through (go (after_tree t (paren ts o))) (comma ∷ (tree_text u ++ rest)) ≡ through (go (after_tree u (paren (ts ++ (t ∷ [])) o))) rest
    unfolding through
    one_more ts t u rest f =
        ap (λ x. through x (tree_text u ++ rest)) (follows t (paren ts o) comma refl)
        ∙ through_append (go (start (paren (ts ++ (t ∷ [])) o))) (tree_text u) rest
        ∙ ap (λ x. through x rest) (value u (paren (ts ++ (t ∷ [])) o) (omega arith) f)

    through_joined : (f : Forest) (ts : List Tree) (t : Tree) → ForestFits r f
        → (f ≡ end → none_yet ts ≡ false)
        → through (go (after_tree t (paren ts o))) (joined (λ b. b) (texts f)) ≡ go (whole (node (chain (ts ++ (t ∷ [])) f)) o)
    unfolding through texts joined
    through_joined end ts t a s =
        follows t (paren ts o) closer refl ∙ closes ts t (s refl)
        ∙ ap (λ x. go (whole (node x) o)) (sym (chain_forest (ts ++ (t ∷ []))))
    through_joined (leaf_then v f) ts t a s =
        one_more ts t (leaf v) (joined (λ b. b) (texts f)) a.0
        ∙ through_joined f (ts ++ (t ∷ [])) (leaf v) a.1 (λ e. snoc_some ts t)
        ∙ ap (λ x. go (whole (node x) o)) (chain_snoc (ts ++ (t ∷ [])) (leaf v) f)
    through_joined (node_then g f) ts t a s =
        let b = node-fits r g f a in
        one_more ts t (node g) (joined (λ b. b) (texts f)) b.0
        ∙ through_joined f (ts ++ (t ∷ [])) (node g) b.1 (λ e. snoc_some ts t)
        ∙ ap (λ x. go (whole (node x) o)) (chain_snoc (ts ++ (t ∷ [])) (node g) f)

    -- "(" and a first value, with others behind it
    through_several : (t : Tree) (f : Forest) → TreeFits r t → ForestFits r f → (f ≡ end → ⊥)
        → through (go (start o)) (opener ∷ (tree_text t ++ joined (λ b. b) (texts f))) ≡ go (whole (node (then t f)) o)
    unfolding through
    through_several t f a b n =
        ap (λ x. through x (tree_text t ++ joined (λ b. b) (texts f))) (opening-go o (opened o) (omega arith))
        ∙ through_opened t o (joined (λ b. b) (texts f))
        ∙ through_append (go (start (paren [] o))) (tree_text t) (joined (λ b. b) (texts f))
        ∙ ap (λ x. through x (joined (λ b. b) (texts f))) (value t (paren [] o) (omega arith) a)
        ∙ through_joined f [] t b (λ e. absurd (n e))

    -- "{1=" and a value alone
    through_one : (t : Tree) → TreeFits r t
        → through (go (start o)) (one_opener ++ tree_text t ++ (one_closer ∷ [])) ≡ go (whole (node (then t end)) o)
    unfolding through
    through_one t a =
        ap (λ x. through (onward most (onward most x 49) 61) (tree_text t ++ (one_closer ∷ []))) (opening-go o (braced o) (omega arith))
        ∙ through_append (go (start (brace o))) (tree_text t) (one_closer ∷ [])
        ∙ ap (λ x. through x (one_closer ∷ [])) (value t (brace o) (omega arith) a)
        ∙ follows t (brace o) one_closer refl

    through_node : (g : Forest) → ForestFits r g → through (go (start o)) (tree_text (node g)) ≡ go (whole (node g) o)
    unfolding through texts enclosed
    through_node end a = ap (λ x. through x (closer ∷ [])) (opening-go o (opened o) (omega arith))
    through_node (leaf_then v end) a = through_one (leaf v) a.0
    through_node (leaf_then v (leaf_then w f)) a = through_several (leaf v) (leaf_then w f) a.0 a.1 (λ e. no_end e)
    through_node (leaf_then v (node_then h f)) a = through_several (leaf v) (node_then h f) a.0 a.1 (λ e. no_end' e)
    through_node (node_then g end) a = through_one (node g) (node-fits r g end a).0
    through_node (node_then g (leaf_then w f)) a =
        let b = node-fits r g (leaf_then w f) a in through_several (node g) (leaf_then w f) b.0 b.1 (λ e. no_end e)
    through_node (node_then g (node_then h f)) a =
        let b = node-fits r g (node_then h f) a in through_several (node g) (node_then h f) b.0 b.1 (λ e. no_end' e)

  pub through_tree : (r : ℕ) (t : Tree) (o : Open) → r + height o ≡ most → TreeFits r t
      → through (go (start o)) (tree_text t) ≡ go (after_tree t o)
  through_tree zero (leaf v) o e f = through_leaf v o f
  through_tree zero (node g) o e f = absurd f
  through_tree (suc r) (leaf v) o e f = through_leaf v o f
  through_tree (suc r) (node g) o e f = through_node r o e (λ t p q a. through_tree r t p q a) g f
