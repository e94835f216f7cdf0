-- Bytes read from the left: what has been read, and that it can always go on to a text.
use Prim.Native.Nat.{ℕ, zero, suc, ◌+◌, ◌*◌, ◌-◌, ◌≤◌, ◌<◌}
use native.Mathlib.Omega.{arith}
use mathlib.Core.Path.{◌≡◌, refl, sym, ap, ◌∙◌}
use mathlib.Core.Bool.{Bool, true, false, not, ◌&&◌, ◌||◌}
use mathlib.Core.List.{List, [], ◌∷◌, ◌++◌, map, append_assoc}
use lib.Dec.{ltb, leb, eqb}
use borrow.Author.Tests.{ltb-true, ltb-false, leb-true, leb-false, eqb-true, eqb-false, le-leb, not-true}
use Rattle.model.specs.Limits.{max_integer}
use Rattle.model.specs.Reading.{Open, outside, paren, brace, height, forest_of, Mode, start, opened, braced, numbered, negated}
use Rattle.model.specs.Reading.{digits, whole, Next, go, bad, is_digit, signed, most_digits, longer, none_yet, follow}
use Rattle.model.specs.Reading.{opening, begin, next}
use Rattle.model.specs.Texts as T
use Rattle.model.specs.Texts.{integer_text, minus, opener, closer, comma, one_opener, one_closer, joined, enclosed}
use Rattle.model.specs.Trees.{Forest, end, Tree, leaf, node, then, texts, tree_text, ForestFits, TreeFits}
use Rattle.model.specs.Values.{in_range}
use Rattle.theory.proofs.Numerals.{digits-small, digits_more}
use Rattle.theory.proofs.Tests.{cond-holds, and_both, or-none}

-- ---- the bytes that have been read

-- values, each with a comma behind it
abbrev pub commaed : List Tree → List ℕ
commaed [] = []
commaed (t ∷ ts) = tree_text t ++ (comma ∷ commaed ts)

abbrev pub shown_open : Open → List ℕ
shown_open outside = []
shown_open (paren ts o) = shown_open o ++ (opener ∷ commaed ts)
shown_open (brace o) = shown_open o ++ one_opener

abbrev pub shown : Mode → List ℕ
shown (start o) = shown_open o
shown (opened o) = shown_open o ++ (opener ∷ [])
shown (braced o) = shown_open o ++ (123 ∷ [])
shown (numbered o) = shown_open o ++ (123 ∷ 49 ∷ [])
shown (negated o) = shown_open o ++ (minus ∷ [])
shown (digits neg n o) = shown_open o ++ integer_text (signed neg n)
shown (whole t o) = shown_open o ++ tree_text t

commaed_snoc : (ts : List Tree) (t : Tree) → commaed (ts ++ (t ∷ [])) ≡ commaed ts ++ (tree_text t ++ (comma ∷ []))
commaed_snoc [] t = refl
commaed_snoc (u ∷ ts) t =
    ap (λ x. tree_text u ++ (comma ∷ x)) (commaed_snoc ts t)
    ∙ sym (append_assoc (tree_text u) (comma ∷ commaed ts) (tree_text t ++ (comma ∷ [])))

texts_forest : (ts : List Tree) → texts (forest_of ts) ≡ map tree_text ts
unfolding texts
texts_forest [] = refl
texts_forest (leaf v ∷ ts) = ap (λ x. integer_text v ∷ x) (texts_forest ts)
texts_forest (node g ∷ ts) = ap (λ x. tree_text (node g) ∷ x) (texts_forest ts)

-- a tuple of two values or more is closed
joined_snoc : (ts : List Tree) (t : Tree)
    → joined (λ b. b) (map tree_text (ts ++ (t ∷ []))) ≡ comma ∷ (commaed ts ++ (tree_text t ++ (closer ∷ [])))
unfolding joined
joined_snoc [] t = refl
joined_snoc (u ∷ ts) t =
    ap (λ x. comma ∷ (tree_text u ++ x)) (joined_snoc ts t)
    ∙ ap (λ x. comma ∷ x) (sym (append_assoc (tree_text u) (comma ∷ commaed ts) (tree_text t ++ (closer ∷ []))))

closed_text : (u : Tree) (ts : List Tree) (t : Tree)
    → tree_text (node (forest_of (u ∷ (ts ++ (t ∷ []))))) ≡ opener ∷ (commaed (u ∷ ts) ++ (tree_text t ++ (closer ∷ [])))
unfolding enclosed
closed_text u ts t =
    ap (enclosed (λ b. b)) (texts_forest (u ∷ (ts ++ (t ∷ [])))) ∙ enclosed-two (tree_text u) (map tree_text (ts ++ (t ∷ []))) ts t refl
    ∙ ap (λ x. opener ∷ (tree_text u ++ x)) (joined_snoc ts t)
    ∙ ap (λ x. opener ∷ x) (sym (append_assoc (tree_text u) (comma ∷ commaed ts) (tree_text t ++ (closer ∷ []))))
  where
    enclosed-two : (a : List ℕ) (bs : List (List ℕ)) (ts : List Tree) (t : Tree) → bs ≡ map tree_text (ts ++ (t ∷ []))
        → enclosed (λ b. b) (a ∷ bs) ≡ opener ∷ (a ++ joined (λ b. b) bs)
    enclosed-two a bs [] t e = rw e
    enclosed-two a bs (u ∷ ts) t e = rw e

-- ---- values in range, and tuples no deeper than may be

abbrev pub AllFit : ℕ → List Tree → Type 0
AllFit r [] = Unit {0}
AllFit r (t ∷ ts) = TreeFits r t × AllFit r ts

snoc_fit : (r : ℕ) (ts : List Tree) (t : Tree) → AllFit r ts → TreeFits r t → AllFit r (ts ++ (t ∷ []))
snoc_fit r [] t a f = (f, tt)
snoc_fit r (u ∷ ts) t a f = (a.0, snoc_fit r ts t a.1 f)

then-fits : (r : ℕ) (t : Tree) (f : Forest) → TreeFits r t → ForestFits r f → ForestFits r (then t f)
then-fits r (leaf v) f a b = (a, b)
then-fits zero (node g) f a b = a
then-fits (suc r) (node g) f a b = (a, b)

forest_fits : (r : ℕ) (ts : List Tree) → AllFit r ts → ForestFits r (forest_of ts)
forest_fits r [] a = tt
forest_fits r (t ∷ ts) a = then-fits r t (forest_of ts) a.0 (forest_fits r ts a.1)

abbrev pub InDigits : Bool → ℕ → Type 0
InDigits false n = n ≤ max_integer
InDigits true n = (1 ≤ n) × (n ≤ max_integer + 1)

pub digits_fit : (neg : Bool) (n : ℕ) → InDigits neg n → in_range (signed neg n) ≡ true
digits_fit false n l = le-leb n max_integer l
digits_fit true zero l = absurd (let z = l.0 in omega arith)
digits_fit true (suc n) l = le-leb n max_integer (let z = l.1 in omega arith)

unit_text : tree_text (node end) ≡ opener ∷ closer ∷ []
unfolding texts enclosed
unit_text = refl

signed-negative : (n : ℕ) → 1 ≤ n → integer_text (signed true n) ≡ minus ∷ T.digits n
signed-negative zero l = absurd (omega arith)
signed-negative (suc n) l = ap (λ x. minus ∷ T.digits x) (omega arith)

one-text : (t : Tree) → tree_text (node (then t end)) ≡ one_opener ++ tree_text t ++ (one_closer ∷ [])
unfolding texts enclosed
one-text (leaf v) = refl
one-text (node g) = refl

-- so deep may what stands inside nest
module _ (most : ℕ) where
  abbrev pub GoodOpen : ℕ → Open → Type 0
  GoodOpen r outside = r ≡ most
  GoodOpen r (paren ts o) = AllFit r ts × GoodOpen (suc r) o
  GoodOpen r (brace o) = GoodOpen (suc r) o

  pub good_height : (r : ℕ) (o : Open) → GoodOpen r o → r + height o ≡ most
  good_height r outside e = omega arith
  good_height r (paren ts o) g = let z = good_height (suc r) o g.1 in omega arith
  good_height r (brace o) g = let z = good_height (suc r) o g in omega arith

  abbrev pub Good : Mode → Type 0
  Good (start o) = (r : ℕ) × GoodOpen r o
  Good (opened o) = (r : ℕ) × GoodOpen (suc r) o
  Good (braced o) = (r : ℕ) × GoodOpen (suc r) o
  Good (numbered o) = (r : ℕ) × GoodOpen (suc r) o
  Good (negated o) = (r : ℕ) × GoodOpen r o
  Good (digits neg n o) = (r : ℕ) × GoodOpen r o × InDigits neg n
  Good (whole t o) = (r : ℕ) × GoodOpen r o × TreeFits r t

  -- one byte more has been read
  abbrev pub Kept : Mode → ℕ → Next → Type 0
  Kept m b (go m') = (shown m' ≡ shown m ++ (b ∷ [])) × Good m'
  Kept m b (bad k) = Unit {0}

  digit-shown : (b : ℕ) → is_digit b ≡ true → T.digits (b - 48) ≡ b ∷ []
  digit-shown b e =
      let a = and_both (leb 48 b) (ltb b 58) e in
      let l = leb-true 48 b a.0 in
      let u = ltb-true b 58 a.1 in
      digits-small (b - 48) (omega arith) ∙ ap (λ x. x ∷ []) (omega arith)

  opening-kept : (m : Mode) (b : ℕ) (o : Open) (m' : Mode) (r : ℕ) → GoodOpen r o
      → ((q : ℕ) → GoodOpen (suc q) o → Kept m b (go m')) → Kept m b (opening most o m')
  opening-kept m b o m' r g f =
      cond-holds (Kept m b) (leb most (height o)) _ _ (λ e. tt)
      (λ e. pick r g (leb-false most (height o) e))
    where
      pick : (r : ℕ) → GoodOpen r o → height o < most → Kept m b (go m')
      pick zero g l = absurd (let z = good_height 0 o g in omega arith)
      pick (suc q) g l = f q g

  -- of a mode whose bytes are those of what stands open
  begin-kept : (m : Mode) (b r : ℕ) (o : Open) → GoodOpen r o → shown m ≡ shown_open o → Kept m b (begin most o b)
  begin-kept m b r o g e =
      cond-holds (Kept m b) (is_digit b) _ _
      (λ a. (
        ap (λ x. shown_open o ++ x) (digit-shown b a) ∙ ap (λ x. x ++ (b ∷ [])) (sym e),
        (r, g, (let c = and_both (leb 48 b) (ltb b 58) a in let u = ltb-true b 58 c.1 in omega arith)),
      ))
      (λ a.
      cond-holds (Kept m b) (eqb b minus) _ _
      (λ c. (behind minus (eqb-true b minus c), (r, g)))
      (λ c.
      cond-holds (Kept m b) (eqb b opener) _ _
      (λ d. opening-kept m b o (opened o) r g (λ q h. (behind opener (eqb-true b opener d), (q, h))))
      (λ d.
      cond-holds (Kept m b) (eqb b 123) _ _
      (λ f. opening-kept m b o (braced o) r g (λ q h. (behind 123 (eqb-true b 123 f), (q, h))))
      (λ f. tt))))
    where
      behind : (c : ℕ) → b ≡ c → shown_open o ++ (c ∷ []) ≡ shown m ++ (b ∷ [])
      behind c q = ap (λ x. shown_open o ++ (x ∷ [])) (sym q) ∙ ap (λ x. x ++ (b ∷ [])) (sym e)

  comma-shown : (ts : List Tree) (t : Tree) (o : Open)
      → shown_open (paren (ts ++ (t ∷ [])) o) ≡ shown_open (paren ts o) ++ tree_text t ++ (comma ∷ [])
  comma-shown ts t o = ap (λ x. shown_open o ++ (opener ∷ x)) (commaed_snoc ts t) ∙ simp append_assoc

  close_shown : (u : Tree) (ts : List Tree) (t : Tree) (o : Open)
      → shown_open o ++ tree_text (node (forest_of (u ∷ (ts ++ (t ∷ []))))) ≡ shown_open (paren (u ∷ ts) o) ++ tree_text t ++ (closer ∷ [])
  close_shown u ts t o = ap (λ x. shown_open o ++ x) (closed_text u ts t) ∙ simp append_assoc

  one-shown : (t : Tree) (o : Open) → shown_open o ++ tree_text (node (then t end)) ≡ shown_open (brace o) ++ tree_text t ++ (one_closer ∷ [])
  one-shown t o = ap (λ x. shown_open o ++ x) (one-text t) ∙ simp append_assoc

  no_false : {A : Type 0} → false ≡ true → A
  no_false x = let z : ◌≡◌ {A = ℕ} 0 1 = cc in absurd (omega arith)

  -- of a mode in which a value is whole
  follow-kept : (m : Mode) (b r : ℕ) (t : Tree) (o : Open) → GoodOpen r o → TreeFits r t → shown m ≡ shown_open o ++ tree_text t
      → Kept m b (follow t o b)
  follow-kept m b r t outside g f e = tt
  follow-kept m b r t (paren ts o) g f e =
      cond-holds (Kept m b) (eqb b comma) _ _
      (λ a. (comma-shown ts t o ∙ last comma (eqb-true b comma a), (r, (snoc_fit r ts t g.0 f, g.1))))
      (λ a. cond-holds (Kept m b) (eqb b closer && not (none_yet ts)) _ _ (λ c. closes ts g.0 e c) (λ c. tt))
    where
      last : (c : ℕ) → b ≡ c → shown_open (paren ts o) ++ tree_text t ++ (c ∷ []) ≡ shown m ++ (b ∷ [])
      last c q = ap (λ x. shown_open (paren ts o) ++ tree_text t ++ (x ∷ [])) (sym q) ∙ ap (λ x. x ++ (b ∷ [])) (sym e)

      closes : (ts : List Tree) → AllFit r ts → shown m ≡ shown_open (paren ts o) ++ tree_text t → (eqb b closer && not (none_yet ts)) ≡ true
          → Kept m b (go (whole (node (forest_of (ts ++ (t ∷ [])))) o))
      closes [] a e c = no_false (and_both (eqb b closer) false c).1
      closes (u ∷ ts) a e c = (
        close_shown u ts t o
            ∙ ap (λ x. shown_open (paren (u ∷ ts) o) ++ tree_text t ++ (x ∷ [])) (sym (eqb-true b closer (and_both (eqb b closer) true c).0))
            ∙ ap (λ x. x ++ (b ∷ [])) (sym e),
        (suc r, g.1, forest_fits r (u ∷ (ts ++ (t ∷ []))) (snoc_fit r (u ∷ ts) t a f)),
      )
  follow-kept m b r t (brace o) g f e =
      cond-holds (Kept m b) (eqb b one_closer) _ _
      (λ a. (
        one-shown t o ∙ ap (λ x. shown_open (brace o) ++ tree_text t ++ (x ∷ [])) (sym (eqb-true b one_closer a))
            ∙ ap (λ x. x ++ (b ∷ [])) (sym e),
        (suc r, g, then-fits r t end f tt),
      ))
      (λ a. tt)

  longer-kept : (neg : Bool) (n b : ℕ) (o : Open) (r : ℕ) → GoodOpen r o → InDigits neg n → is_digit b ≡ true
      → Kept (digits neg n o) b (longer neg n (b - 48) o)
  longer-kept neg n b o r g l d =
      cond-holds (Kept (digits neg n o) b) (eqb n 0 || ltb (most_digits neg) (10 * n + (b - 48))) _ _ (λ e. tt)
      (λ e.
      let c = and_both (leb 48 b) (ltb b 58) d in
      let x = leb-true 48 b c.0 in
      let y = ltb-true b 58 c.1 in
      let z = or-none (eqb n 0) (ltb (most_digits neg) (10 * n + (b - 48))) e in
      let p : 1 ≤ n = some n (eqb-false n 0 z.0) in
      let q = ltb-false (most_digits neg) (10 * n + (b - 48)) z.1 in (
        ap (λ w. shown_open o ++ w) (signed-more neg n (b - 48) p (omega arith) ∙ ap (λ w. integer_text (signed neg n) ++ (w ∷ [])) (omega arith))
            ∙ sym (append_assoc (shown_open o) (integer_text (signed neg n)) (b ∷ [])),
        (r, g, within neg (10 * n + (b - 48)) q (omega arith)),
      ))
    where
      some : (n : ℕ) → (n ≡ 0 → ⊥) → 1 ≤ n
      some n f = omega arith

      signed-more : (neg : Bool) (n k : ℕ) → 1 ≤ n → k < 10
          → integer_text (signed neg (10 * n + k)) ≡ integer_text (signed neg n) ++ ((48 + k) ∷ [])
      signed-more false n k l m = digits_more n k l m
      signed-more true n k l m =
          signed-negative (10 * n + k) (omega arith) ∙ ap (λ w. minus ∷ w) (digits_more n k l m)
          ∙ ap (λ w. w ++ ((48 + k) ∷ [])) (sym (signed-negative n l))

      within : (neg : Bool) (n : ℕ) → n ≤ most_digits neg → 1 ≤ n → InDigits neg n
      within false n l p = l
      within true n l p = (p, l)

  pub next-kept : (m : Mode) (b : ℕ) → Good m → Kept m b (next most m b)
  next-kept (start o) b g = begin-kept (start o) b g.0 o g.1 refl
  next-kept (opened o) b g =
      cond-holds (Kept (opened o) b) (eqb b closer) _ _
      (λ e. (
        ap (λ x. shown_open o ++ x) unit_text ∙ ap (λ x. shown_open o ++ (opener ∷ x ∷ [])) (sym (eqb-true b closer e))
            ∙ sym (append_assoc (shown_open o) (opener ∷ []) (b ∷ [])),
        (suc g.0, g.1, tt),
      ))
      (λ e. begin-kept (opened o) b g.0 (paren [] o) (tt, g.1) refl)
  next-kept (braced o) b g =
      cond-holds (Kept (braced o) b) (eqb b 49) _ _
      (λ e. (ap (λ x. shown_open o ++ (123 ∷ x ∷ [])) (sym (eqb-true b 49 e)) ∙ sym (append_assoc (shown_open o) (123 ∷ []) (b ∷ [])), g))
      (λ e. tt)
  next-kept (numbered o) b g =
      cond-holds (Kept (numbered o) b) (eqb b 61) _ _
      (λ e. (
        ap (λ x. shown_open o ++ (123 ∷ 49 ∷ x ∷ [])) (sym (eqb-true b 61 e)) ∙ sym (append_assoc (shown_open o) (123 ∷ 49 ∷ []) (b ∷ [])),
        (g.0, g.1),
      ))
      (λ e. tt)
  next-kept (negated o) b g =
      cond-holds (Kept (negated o) b) (is_digit b && not (eqb b 48)) _ _
      (λ e.
      let a = and_both (is_digit b) (not (eqb b 48)) e in
      let c = and_both (leb 48 b) (ltb b 58) a.0 in
      let x = leb-true 48 b c.0 in
      let y = ltb-true b 58 c.1 in
      let z : b ≡ 48 → ⊥ = eqb-false b 48 (not-true (eqb b 48) a.1) in
      let l : 1 ≤ b - 48 = omega arith in (
        ap (λ w. shown_open o ++ w) (signed-negative (b - 48) l ∙ ap (λ w. minus ∷ w) (digit-shown b a.0))
            ∙ sym (append_assoc (shown_open o) (minus ∷ []) (b ∷ [])),
        (g.0, g.1, (l, omega arith)),
      ))
      (λ e. tt)
  next-kept (digits neg n o) b g =
      cond-holds (Kept (digits neg n o) b) (is_digit b) _ _
      (λ e. longer-kept neg n b o g.0 g.1 g.2 e)
      (λ e. follow-kept (digits neg n o) b g.0 (leaf (signed neg n)) o g.1 (digits_fit neg n g.2) refl)
  next-kept (whole t o) b g = follow-kept (whole t o) b g.0 t o g.1 g.2 refl
