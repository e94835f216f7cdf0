-- The reader's refusals: what is accepted is the text of a tree, and the first fault is the first byte at which no text goes on, or the
-- end; or before that the byte that opens one tuple too many.
use Prim.Native.Nat.{ℕ, zero, suc, ◌+◌, ◌*◌, ◌-◌, ◌/◌, ◌%◌, ◌≤◌, ◌<◌}
use native.Mathlib.Omega.{arith}
use native.Mathlib.Numerals.{add-one}
use mathlib.Core.Path.{◌≡◌, refl, sym, ap, ◌∙◌, subst}
use mathlib.Core.Logic.{◌⊎◌, inl, inr, ⊎_elim}
use mathlib.Core.Bool.{Bool, true, false, not, cond, ◌&&◌, ◌||◌}
use mathlib.Core.List.{List, [], ◌∷◌, ◌++◌, append-nil, append_assoc}
use lib.Dec.{ltb, leb, eqb}
use lib.IntN.{ℤ, pos, negsuc}
use lib.ListN.{length, take, drop, length-append, take-append-drop}
use lib.Seq.{take-length, take-suc, take-take, take-append_seam, get_or-append_seam}
use borrow.Author.Tests.{leb-true, leb-false, lt-leb, le-ltb, lt-ltb, eqb-true, ne_eqb}
use Rattle.model.specs.declared.Refusal.{Refusal}
use Rattle.model.specs.declared.Refusal.TheVariants as Why
use Rattle.model.specs.Reading.{Open, outside, paren, brace, height, Mode, start, opened, braced, numbered, negated, digits, whole}
use Rattle.model.specs.Reading.{Next, go, bad, is_digit, signed, most_digits, none_yet, follow, opening, begin, next}
use Rattle.model.specs.Reading.{tree, broken, ended, finish, stopped, parsed}
use Rattle.model.specs.ReadFaults.{IsText, Begins, Completes, opens, closes, how_many, ReadFault, breach, cut, deep}
use Rattle.model.specs.Refusals.{rank, FirstFault}
use Rattle.model.specs.Texts as T
use Rattle.model.specs.Texts.{integer_text, minus, opener, closer, comma, one_opener, one_closer, joined, enclosed, max_depth}
use Rattle.model.specs.Trees.{Forest, end, leaf_then, node_then, Tree, leaf, node, texts, tree_text, ForestFits, TreeFits}
use Rattle.model.specs.Words.{at}
use Rattle.theory.proofs.Reading.{commaed, shown, shown_open, Good, GoodOpen, good_height, digits_fit}
use Rattle.theory.proofs.ReadThrough.{bad-go, through, parsed_through, through_bad, through_append, through_kept, mode_begins, through_tree}
use Rattle.theory.proofs.ReadThrough.{after_tree}
use Rattle.theory.proofs.Tests.{by_test, decide, cond-holds, or_cases}

-- ---- with more depth nothing but DEEP changes

data Alike (x y : Next) : Type 0 where
  same : x ≡ y → Alike x y
  deeper : x ≡ bad Why.Deep → Alike x y

either : (b : Bool) (x x' y y' : Next) → Alike x x' → Alike y y' → Alike (cond b x y) (cond b x' y')
either true x x' y y' a c = a
either false x x' y y' a c = c

module _ (few many : ℕ) (l : few ≤ many) where
  opening_alike : (o : Open) (m : Mode) → Alike (opening few o m) (opening many o m)
  opening_alike o m =
      ⊎_elim
      (λ (e : leb few (height o) ≡ true). deeper (rw e))
      (λ (e : leb few (height o) ≡ false).
      let u = leb-false few (height o) e in
      same (rw (e, lt-leb many (height o) (omega arith))))
      (by_test (leb few (height o)))

  begin_alike : (o : Open) (b : ℕ) → Alike (begin few o b) (begin many o b)
  begin_alike o b =
      either (is_digit b) _ _ _ _ (same refl) (either (eqb b minus) _ _ _ _ (same refl)
      (either (eqb b opener) _ _ _ _ (opening_alike o (opened o)) (either (eqb b 123) _ _ _ _ (opening_alike o (braced o)) (same refl))))

  next_alike : (m : Mode) (b : ℕ) → Alike (next few m b) (next many m b)
  next_alike (start o) b = begin_alike o b
  next_alike (opened o) b = either (eqb b closer) _ _ _ _ (same refl) (begin_alike (paren [] o) b)
  next_alike (braced o) b = same refl
  next_alike (numbered o) b = same refl
  next_alike (negated o) b = same refl
  next_alike (digits neg n o) b = same refl
  next_alike (whole t o) b = same refl

  next-go : (m n : Mode) (b : ℕ) → next few m b ≡ go n → next many m b ≡ go n
  next-go m n b e = by (next_alike m b)
    where
      by : Alike (next few m b) (next many m b) → next many m b ≡ go n
      by (same q) = sym q ∙ e
      by (deeper q) = bad-go Why.Deep n (sym q ∙ e)

  next-value : (m : Mode) (b : ℕ) → next few m b ≡ bad Why.Value → next many m b ≡ bad Why.Value
  next-value m b e = by (next_alike m b)
    where
      by : Alike (next few m b) (next many m b) → next many m b ≡ bad Why.Value
      by (same q) = sym q ∙ e
      by (deeper q) = let z : ◌≡◌ {A = ℕ} 0 1 = cc in absurd (omega arith)

  through_go : (bs : List ℕ) (m n : Mode) → through few (go m) bs ≡ go n → through many (go m) bs ≡ go n
  unfolding through
  through_go [] m n e = e
  through_go (b ∷ bs) m n e = by (λ m' f. through_go bs m' n f) (next few m b) refl e
    where
      by : ((m' : Mode) → through few (go m') bs ≡ go n → through many (go m') bs ≡ go n) → (x : Next) → next few m b ≡ x
          → through few x bs ≡ go n → through many (next many m b) bs ≡ go n
      by ih (go m') q f = ap (λ x. through many x bs) (next-go m m' b q) ∙ ih m' f
      by ih (bad k) q f = bad-go k n (sym (through_bad few k bs) ∙ f)

-- ---- where reading stops

abbrev first : Next
first = go (start outside)

good_first : (most : ℕ) → Good most (start outside)
good_first most = (most, refl)

-- after p bytes without a fault: the next is one, or the end is
pub data Stop (bs : List ℕ) (k : Refusal) : Type 0 where
  at_byte : (p : ℕ) (m : Mode) → p < length bs → through max_depth first (take p bs) ≡ go m → next max_depth m (at bs p) ≡ bad k → Stop bs k
  at_end : (m : Mode) → through max_depth first bs ≡ go m → finish m ≡ broken k → Stop bs k

broken-kind : (j k : Refusal) → broken j ≡ broken k → j ≡ k
broken-kind j k e = cc

stop_from : (done rest : List ℕ) (m : Mode) (k : Refusal) → through max_depth first done ≡ go m
    → stopped (through max_depth (go m) rest) ≡ broken k → Stop (done ++ rest) k
unfolding through
stop_from done [] m k e f = at_end m (ap (through max_depth first) (append-nil done) ∙ e) f
stop_from done (b ∷ rest) m k e f = by (λ n a c. stop_from (done ++ (b ∷ [])) rest n k a c) (next max_depth m b) refl f
  where
    by : ((n : Mode) → through max_depth first (done ++ (b ∷ [])) ≡ go n → stopped (through max_depth (go n) rest) ≡ broken k
        → Stop (done ++ (b ∷ []) ++ rest) k)
        → (x : Next) → next max_depth m b ≡ x → stopped (through max_depth x rest) ≡ broken k → Stop (done ++ (b ∷ rest)) k
    by ih (go n) q g =
        subst (λ z. Stop z k) (append_assoc done (b ∷ []) rest)
        (ih n (through_append max_depth first done (b ∷ []) ∙ ap (λ x. through max_depth x (b ∷ [])) e ∙ q) g)
    by ih (bad j) q g =
        at_byte (length done) m (let a = length-append done (b ∷ rest) in omega arith)
        (ap (through max_depth first) (take-append_seam done (b ∷ rest)) ∙ e)
        (ap (next max_depth m) (get_or-append_seam done b rest 0) ∙ q
        ∙ ap bad (broken-kind j k (ap stopped (sym (through_bad max_depth j rest)) ∙ g)))

pub stops_at : (bs : List ℕ) (k : Refusal) → parsed bs ≡ broken k → Stop bs k
unfolding through
stops_at bs k e = stop_from [] bs (start outside) k refl (sym (parsed_through max_depth first bs) ∙ e)

-- ---- tuples that stand open, by bytes

how_many-append : (p : ℕ → Bool) (a b : List ℕ) → how_many p (a ++ b) ≡ how_many p a + how_many p b
how_many-append p [] b = omega arith
how_many-append p (c ∷ a) b = let z = how_many-append p a b in omega arith

-- digits open and close nothing
digits-none : (p : ℕ → Bool) → ((b : ℕ) → 48 ≤ b → b < 58 → p b ≡ false) → (f n : ℕ) → n ≤ f → how_many p (T.digits_to f n) ≡ 0
unfolding T.digits_to
digits-none p h zero n l = rw (h (48 + n) (omega arith) (omega arith))
digits-none p h (suc f) n l =
    ⊎_elim
    (λ (s : n < 10). rw (lt-ltb n 10 s, h (48 + n) (omega arith) (omega arith)))
    (λ (s : 10 ≤ n).
    rw (le-ltb n 10 s)
    (how_many-append p (T.digits_to f (n / 10)) ((48 + n % 10) ∷ [])
    ∙ (let a = digits-none p h f (n / 10) (omega arith) in
    let b : ◌≡◌ {A = ℕ} (cond (p (48 + n % 10)) 1 0) 0 = rw (h (48 + n % 10) (omega arith) (omega arith)) in
    omega arith)))
    (decide n 10)

no_opener : (b : ℕ) → 48 ≤ b → b < 58 → opens b ≡ false
no_opener b l u = rw (ne_eqb b opener (λ e. omega arith), ne_eqb b 123 (λ e. omega arith))

no_closer : (b : ℕ) → 48 ≤ b → b < 58 → closes b ≡ false
no_closer b l u = rw (ne_eqb b closer (λ e. omega arith), ne_eqb b one_closer (λ e. omega arith))

leaf-none : (p : ℕ → Bool) → ((b : ℕ) → 48 ≤ b → b < 58 → p b ≡ false) → p minus ≡ false → (v : ℤ) → how_many p (integer_text v) ≡ 0
leaf-none p h m (pos n) = digits-none p h n n (omega arith)
leaf-none p h m (negsuc n) = let z = digits-none p h (n + 1) (n + 1) (omega arith) in rw m (omega arith)

-- as many open as close in texts, and behind them
abbrev Even : List ℕ → Type 0
Even t = how_many opens t ≡ how_many closes t

even-append : (a b : List ℕ) → Even a → Even b → Even (a ++ b)
even-append a b e f =
    let x = how_many-append opens a b in let y = how_many-append closes a b in omega arith

abbrev AllEven : List (List ℕ) → Type 0
AllEven [] = Unit {0}
AllEven (t ∷ ts) = Even t × AllEven ts

joined-even : (ts : List (List ℕ)) → AllEven ts → how_many opens (joined (λ b. b) ts) + 1 ≡ how_many closes (joined (λ b. b) ts)
unfolding joined
joined-even [] e = refl
joined-even (t ∷ ts) e =
    let x = how_many-append opens t (joined (λ b. b) ts) in
    let y = how_many-append closes t (joined (λ b. b) ts) in
    let z = joined-even ts e.1 in
    let w = e.0 in
    omega arith

enclosed-even : (ts : List (List ℕ)) → AllEven ts → Even (enclosed (λ b. b) ts)
unfolding enclosed
enclosed-even [] e = refl
enclosed-even (t ∷ []) e =
    let x = how_many-append opens t (one_closer ∷ []) in
    let y = how_many-append closes t (one_closer ∷ []) in
    let w = e.0 in
    omega arith
enclosed-even (t ∷ u ∷ ts) e =
    let x = how_many-append opens t (joined (λ b. b) (u ∷ ts)) in
    let y = how_many-append closes t (joined (λ b. b) (u ∷ ts)) in
    let z = joined-even (u ∷ ts) e.1 in
    let w = e.0 in
    omega arith

leaf-even : (v : ℤ) → Even (integer_text v)
leaf-even v = leaf-none opens no_opener refl v ∙ sym (leaf-none closes no_closer refl v)

forest_even : (f : Forest) → AllEven (texts f)
unfolding texts
forest_even end = tt
forest_even (leaf_then v f) = (leaf-even v, forest_even f)
forest_even (node_then g f) = (enclosed-even (texts g) (forest_even g), forest_even f)

tree-even : (t : Tree) → Even (tree_text t)
tree-even (leaf v) = leaf-even v
tree-even (node g) = enclosed-even (texts g) (forest_even g)

commaed_even : (ts : List Tree) → Even (commaed ts)
commaed_even [] = refl
commaed_even (t ∷ ts) =
    even-append (tree_text t) (comma ∷ commaed ts) (tree-even t) (let z = commaed_even ts in omega arith)

-- those that stand open in a mode
abbrev pub standing : Mode → ℕ
standing (start o) = height o
standing (opened o) = height o + 1
standing (braced o) = height o + 1
standing (numbered o) = height o + 1
standing (negated o) = height o
standing (digits neg n o) = height o
standing (whole t o) = height o

open_count : (o : Open) → how_many opens (shown_open o) ≡ how_many closes (shown_open o) + height o
open_count outside = refl
open_count (paren ts o) =
    let x = how_many-append opens (shown_open o) (opener ∷ commaed ts) in
    let y = how_many-append closes (shown_open o) (opener ∷ commaed ts) in
    let z = open_count o in
    let w = commaed_even ts in
    omega arith
open_count (brace o) =
    let x = how_many-append opens (shown_open o) one_opener in
    let y = how_many-append closes (shown_open o) one_opener in
    let z = open_count o in
    omega arith

behind-count : (o : Open) (t : List ℕ) (n : ℕ) → how_many opens t ≡ how_many closes t + n
    → how_many opens (shown_open o ++ t) ≡ how_many closes (shown_open o ++ t) + (height o + n)
behind-count o t n e =
    let x = how_many-append opens (shown_open o) t in
    let y = how_many-append closes (shown_open o) t in
    let z = open_count o in
    omega arith

mode_count : (m : Mode) → how_many opens (shown m) ≡ how_many closes (shown m) + standing m
mode_count (start o) = open_count o
mode_count (opened o) = behind-count o (opener ∷ []) 1 refl
mode_count (braced o) = behind-count o (123 ∷ []) 1 refl
mode_count (numbered o) = behind-count o (123 ∷ 49 ∷ []) 1 refl
mode_count (negated o) = behind-count o (minus ∷ []) 0 refl ∙ omega arith
mode_count (digits neg n o) = behind-count o (integer_text (signed neg n)) 0 (leaf-even (signed neg n) ∙ omega arith) ∙ omega arith
mode_count (whole t o) = behind-count o (tree_text t) 0 (tree-even t ∙ omega arith) ∙ omega arith

-- ---- a byte that opens

-- nothing opens behind a value
follow-opener : (t : Tree) (o : Open) → follow t o opener ≡ bad Why.Value
follow-opener t outside = refl
follow-opener t (paren ts o) = refl
follow-opener t (brace o) = refl

follow-brace : (t : Tree) (o : Open) → follow t o 123 ≡ bad Why.Value
follow-brace t outside = refl
follow-brace t (paren ts o) = refl
follow-brace t (brace o) = refl

module _ (most : ℕ) where
  opening-room : (o : Open) (m n : Mode) → opening most o m ≡ go n → height o < most
  opening-room o m n e =
      ⊎_elim (λ (b : leb most (height o) ≡ true). bad-go Why.Deep n (sym (rw b) ∙ e)) (λ (b : leb most (height o) ≡ false). leb-false most (height o) b)
      (by_test (leb most (height o)))

  paren-room : (m n : Mode) → next most m opener ≡ go n → standing m < most
  paren-room (start o) n e = opening-room o (opened o) n e
  paren-room (opened o) n e = opening-room (paren [] o) (opened (paren [] o)) n e
  paren-room (braced o) n e = bad-go Why.Value n e
  paren-room (numbered o) n e = bad-go Why.Value n e
  paren-room (negated o) n e = bad-go Why.Value n e
  paren-room (digits neg k o) n e = bad-go Why.Value n (sym (follow-opener (leaf (signed neg k)) o) ∙ e)
  paren-room (whole t o) n e = bad-go Why.Value n (sym (follow-opener t o) ∙ e)

  brace-room : (m n : Mode) → next most m 123 ≡ go n → standing m < most
  brace-room (start o) n e = opening-room o (braced o) n e
  brace-room (opened o) n e = opening-room (paren [] o) (braced (paren [] o)) n e
  brace-room (braced o) n e = bad-go Why.Value n e
  brace-room (numbered o) n e = bad-go Why.Value n e
  brace-room (negated o) n e = bad-go Why.Value n e
  brace-room (digits neg k o) n e = bad-go Why.Value n (sym (follow-brace (leaf (signed neg k)) o) ∙ e)
  brace-room (whole t o) n e = bad-go Why.Value n (sym (follow-brace t o) ∙ e)

  -- where one is opened, fewer stand open than may
  opens-room : (m n : Mode) (b : ℕ) → opens b ≡ true → next most m b ≡ go n → standing m < most
  opens-room m n b o e =
      ⊎_elim
      (λ (a : eqb b opener ≡ true). paren-room m n (ap (next most m) (sym (eqb-true b opener a)) ∙ e))
      (λ (a : eqb b 123 ≡ true). brace-room m n (ap (next most m) (sym (eqb-true b 123 a)) ∙ e))
      (or_cases (eqb b opener) (eqb b 123) o)

  -- what DEEP says: the byte opens one, as many stand open as may, and with more depth it would go on
  abbrev TooDeep : ℕ → ℕ → (ℕ → Next) → Type 0
  TooDeep b n at-depth = (opens b ≡ true) × (most ≤ n) × ((m : Mode) × (at-depth (n + 1) ≡ go m))

  -- of an outcome that is DEEP
  abbrev IfDeep : ℕ → ℕ → (ℕ → Next) → Next → Type 0
  IfDeep b n at-depth x = x ≡ bad Why.Deep → TooDeep b n at-depth

  go-deep : {A : Type 0} (m : Mode) → go m ≡ bad Why.Deep → A
  go-deep m e = let z : ◌≡◌ {A = ℕ} 0 1 = cc in absurd (omega arith)

  value-deep : {A : Type 0} → bad Why.Value ≡ bad Why.Deep → A
  value-deep e = let z : ◌≡◌ {A = ℕ} 0 1 = cc in absurd (omega arith)

  opening-deep : (o : Open) (m : Mode) (b : ℕ) (f : ℕ → Next) → opens b ≡ true → f (height o + 1) ≡ opening (height o + 1) o m
      → IfDeep b (height o) f (opening most o m)
  opening-deep o m b f q r e =
      ⊎_elim
      (λ (c : leb most (height o) ≡ true).
      (q, leb-true most (height o) c, (m, r ∙ rw (lt-leb (height o + 1) (height o) (omega arith)))))
      (λ (c : leb most (height o) ≡ false). go-deep m (sym (rw c) ∙ e))
      (by_test (leb most (height o)))

  begin-deep : (o : Open) (b : ℕ) (f : ℕ → Next) → f (height o + 1) ≡ begin (height o + 1) o b → IfDeep b (height o) f (begin most o b)
  begin-deep o b f r =
      ⊎_elim
      (λ (a : eqb b opener ≡ true).
      let q = eqb-true b opener a in
      subst (λ z. f (height o + 1) ≡ begin (height o + 1) o z → IfDeep z (height o) f (begin most o z)) (sym q)
      (λ s. opening-deep o (opened o) opener f refl s) r)
      (λ (a : eqb b opener ≡ false).
      ⊎_elim
      (λ (c : eqb b 123 ≡ true).
      let q = eqb-true b 123 c in
      subst (λ z. f (height o + 1) ≡ begin (height o + 1) o z → IfDeep z (height o) f (begin most o z)) (sym q)
      (λ s. opening-deep o (braced o) 123 f refl s) r)
      (λ (c : eqb b 123 ≡ false).
      cond-holds (IfDeep b (height o) f) (is_digit b) _ _ (λ x e. go-deep _ e)
      (λ x. cond-holds (IfDeep b (height o) f) (eqb b minus) _ _ (λ y e. go-deep _ e)
      (λ y. rw (a, c) (λ e. value-deep e))))
      (by_test (eqb b 123)))
      (by_test (eqb b opener))

  follow-deep : (t : Tree) (o : Open) (b n : ℕ) (f : ℕ → Next) → IfDeep b n f (follow t o b)
  follow-deep t outside b n f = λ e. value-deep e
  follow-deep t (paren ts o) b n f =
      cond-holds (IfDeep b n f) (eqb b comma) _ _ (λ x e. go-deep _ e)
      (λ x. cond-holds (IfDeep b n f) (eqb b closer && not (none_yet ts)) _ _ (λ y e. go-deep _ e) (λ y e. value-deep e))
  follow-deep t (brace o) b n f = cond-holds (IfDeep b n f) (eqb b one_closer) _ _ (λ x e. go-deep _ e) (λ x e. value-deep e)

  next-deep : (m : Mode) (b : ℕ) → IfDeep b (standing m) (λ d. next d m b) (next most m b)
  next-deep (start o) b = begin-deep o b (λ d. next d (start o) b) refl
  next-deep (opened o) b =
      ⊎_elim
      (λ (c : eqb b closer ≡ true). rw c (λ e. go-deep _ e))
      (λ (c : eqb b closer ≡ false).
      rw c (begin-deep (paren [] o) b (λ d. cond false (go (whole (node end) o)) (begin d (paren [] o) b)) refl))
      (by_test (eqb b closer))
  next-deep (braced o) b = cond-holds (IfDeep b (height o + 1) (λ d. next d (braced o) b)) (eqb b 49) _ _ (λ x e. go-deep _ e) (λ x e. value-deep e)
  next-deep (numbered o) b =
      cond-holds (IfDeep b (height o + 1) (λ d. next d (numbered o) b)) (eqb b 61) _ _ (λ x e. go-deep _ e) (λ x e. value-deep e)
  next-deep (negated o) b =
      cond-holds (IfDeep b (height o) (λ d. next d (negated o) b)) (is_digit b && not (eqb b 48)) _ _ (λ x e. go-deep _ e) (λ x e. value-deep e)
  next-deep (digits neg n o) b =
      cond-holds (IfDeep b (height o) (λ d. next d (digits neg n o) b)) (is_digit b) _ _
      (λ x. cond-holds (IfDeep b (height o) (λ d. next d (digits neg n o) b)) (eqb n 0 || ltb (most_digits neg) (10 * n + (b - 48))) _ _
      (λ y e. value-deep e) (λ y e. go-deep _ e))
      (λ x. follow-deep (leaf (signed neg n)) o b (height o) (λ d. next d (digits neg n o) b))
  next-deep (whole t o) b = follow-deep t o b (height o) (λ d. next d (whole t o) b)

-- ---- trees that fit less depth fit more

forest_more : (d e : ℕ) (f : Forest) → d ≤ e → ForestFits d f → ForestFits e f
forest_more d e end l a = tt
forest_more d e (leaf_then v f) l a = (a.0, forest_more d e f l a.1)
forest_more zero e (node_then g f) l a = absurd a
forest_more (suc d) zero (node_then g f) l a = absurd (omega arith)
forest_more (suc d) (suc e) (node_then g f) l a = (forest_more d e g (omega arith) a.0, forest_more (suc d) (suc e) f l a.1)

tree-more : (d e : ℕ) (t : Tree) → d ≤ e → TreeFits d t → TreeFits e t
tree-more d e (leaf v) l a = a
tree-more zero e (node g) l a = absurd a
tree-more (suc d) zero (node g) l a = absurd (omega arith)
tree-more (suc d) (suc e) (node g) l a = forest_more d e g (omega arith) a

through_fits : (most : ℕ) (t : Tree) (d : ℕ) → d ≤ most → TreeFits d t → through most first (tree_text t) ≡ go (after_tree most t outside)
through_fits most t d l f = through_tree most most t outside (omega arith) (tree-more d most t l f)

-- ---- the end

tree-broken : {A : Type 0} (t : Tree) (k : Refusal) → tree t ≡ broken k → A
tree-broken t k e = let z : ◌≡◌ {A = ℕ} 0 1 = cc in absurd (omega arith)

finish-after : (most : ℕ) (t : Tree) → finish (after_tree most t outside) ≡ tree t
finish-after most (leaf (pos n)) = refl
finish-after most (leaf (negsuc n)) = refl
finish-after most (node g) = refl

-- what is not ended is VALUE
ended-value : (t : Tree) (o : Open) (k : Refusal) → ended t o ≡ broken k → Why.Value ≡ k
ended-value t outside k e = tree-broken t k e
ended-value t (paren ts o) k e = broken-kind Why.Value k e
ended-value t (brace o) k e = broken-kind Why.Value k e

finish-value : (m : Mode) (k : Refusal) → finish m ≡ broken k → Why.Value ≡ k
finish-value (start o) k e = broken-kind Why.Value k e
finish-value (opened o) k e = broken-kind Why.Value k e
finish-value (braced o) k e = broken-kind Why.Value k e
finish-value (numbered o) k e = broken-kind Why.Value k e
finish-value (negated o) k e = broken-kind Why.Value k e
finish-value (digits neg n o) k e = ended-value (leaf (signed neg n)) o k e
finish-value (whole t o) k e = ended-value t o k e

pub tree-same : (t u : Tree) → tree t ≡ tree u → t ≡ u
tree-same t u e = cc

-- what is ended has the text that has been read
ended-tree : (most r : ℕ) (u : Tree) (o : Open) (t : Tree) → GoodOpen most r o → TreeFits r u → ended u o ≡ tree t
    → (shown_open o ++ tree_text u ≡ tree_text t) × TreeFits most t
ended-tree most r u outside t g f e =
    let q = tree-same u t e in (ap tree_text q, subst (λ n. TreeFits n t) g (subst (TreeFits r) q f))
ended-tree most r u (paren ts o) t g f e = tree-broken t Why.Value (sym e)
ended-tree most r u (brace o) t g f e = tree-broken t Why.Value (sym e)

finish-tree : (most : ℕ) (m : Mode) (t : Tree) → Good most m → finish m ≡ tree t → (shown m ≡ tree_text t) × TreeFits most t
finish-tree most (start o) t g e = tree-broken t Why.Value (sym e)
finish-tree most (opened o) t g e = tree-broken t Why.Value (sym e)
finish-tree most (braced o) t g e = tree-broken t Why.Value (sym e)
finish-tree most (numbered o) t g e = tree-broken t Why.Value (sym e)
finish-tree most (negated o) t g e = tree-broken t Why.Value (sym e)
finish-tree most (digits neg n o) t g e = ended-tree most g.0 (leaf (signed neg n)) o t g.1 (digits_fit neg n g.2) e
finish-tree most (whole u o) t g e = ended-tree most g.0 u o t g.1 g.2 e

-- a byte's fault is VALUE or DEEP
abbrev Bads : Next → Type 0
Bads (go m) = Unit {0}
Bads (bad k) = (k ≡ Why.Value) ⊎ (k ≡ Why.Deep)

follow_bads : (t : Tree) (o : Open) (b : ℕ) → Bads (follow t o b)
follow_bads t outside b = inl refl
follow_bads t (paren ts o) b =
    cond-holds Bads (eqb b comma) _ _ (λ e. tt) (λ e. cond-holds Bads (eqb b closer && not (none_yet ts)) _ _ (λ f. tt) (λ f. inl refl))
follow_bads t (brace o) b = cond-holds Bads (eqb b one_closer) _ _ (λ e. tt) (λ e. inl refl)

module _ (most : ℕ) where
  opening_bads : (o : Open) (m : Mode) → Bads (opening most o m)
  opening_bads o m = cond-holds Bads (leb most (height o)) _ _ (λ e. inr refl) (λ e. tt)

  begin_bads : (o : Open) (b : ℕ) → Bads (begin most o b)
  begin_bads o b =
      cond-holds Bads (is_digit b) _ _ (λ e. tt) (λ e. cond-holds Bads (eqb b minus) _ _ (λ f. tt) (λ f.
      cond-holds Bads (eqb b opener) _ _ (λ g. opening_bads o (opened o)) (λ g.
      cond-holds Bads (eqb b 123) _ _ (λ h. opening_bads o (braced o)) (λ h. inl refl))))

  mode_bads : (m : Mode) (b : ℕ) → Bads (next most m b)
  mode_bads (start o) b = begin_bads o b
  mode_bads (opened o) b = cond-holds Bads (eqb b closer) _ _ (λ e. tt) (λ e. begin_bads (paren [] o) b)
  mode_bads (braced o) b = cond-holds Bads (eqb b 49) _ _ (λ e. tt) (λ e. inl refl)
  mode_bads (numbered o) b = cond-holds Bads (eqb b 61) _ _ (λ e. tt) (λ e. inl refl)
  mode_bads (negated o) b = cond-holds Bads (is_digit b && not (eqb b 48)) _ _ (λ e. tt) (λ e. inl refl)
  mode_bads (digits neg n o) b =
      cond-holds Bads (is_digit b) _ _
      (λ e. cond-holds Bads (eqb n 0 || ltb (most_digits neg) (10 * n + (b - 48))) _ _ (λ f. inl refl) (λ f. tt))
      (λ e. follow_bads (leaf (signed neg n)) o b)
  mode_bads (whole t o) b = follow_bads t o b

  next_bads : (m : Mode) (b : ℕ) (k : Refusal) → next most m b ≡ bad k → (k ≡ Why.Value) ⊎ (k ≡ Why.Deep)
  next_bads m b k e = subst Bads e (mode_bads m b)

-- ---- the bytes that have been read without a fault

prefix_goes : (most : ℕ) (x : Next) (a b : List ℕ) (m : Mode) → through most x (a ++ b) ≡ go m → (n : Mode) × (through most x a ≡ go n)
prefix_goes most x a b m e = by (through most x a) refl
  where
    by : (y : Next) → through most x a ≡ y → (n : Mode) × (through most x a ≡ go n)
    by (go n) q = (n, q)
    by (bad k) q =
        bad-go k m (sym (through_bad most k b) ∙ ap (λ z. through most z b) (sym q) ∙ sym (through_append most x a b) ∙ e)

module _ (bs : List ℕ) where
  abbrev Reached : ℕ → ℕ → Type 0
  Reached most p = (m : Mode) × (through most first (take p bs) ≡ go m)

  -- earlier places were reached
  reached-before : (most p q : ℕ) → Reached most p → q ≤ p → Reached most q
  reached-before most p q r l =
      let e = take-append-drop q (take p bs) in
      let n = prefix_goes most first (take q (take p bs)) (drop q (take p bs)) r.0 (ap (through most first) e ∙ r.1) in
      (n.0, ap (through most first) (sym (take-take q p bs l)) ∙ n.1)

  reached-begins : (most p : ℕ) → Reached most p → Begins (take p bs)
  reached-begins most p r =
      let k = through_kept most (take p bs) (start outside) r.0 (good_first most) r.1 in
      subst Begins k.0 (mode_begins most r.0 k.1)

  -- one byte more
  reached-next : (most p : ℕ) (m : Mode) → p < length bs → through most first (take p bs) ≡ go m
      → through most first (take (p + 1) bs) ≡ next most m (at bs p)
  unfolding through
  reached-next most p m l e =
      ap (λ n. through most first (take n bs)) (add-one p)
      ∙ ap (through most first) (take-suc bs p 0 l) ∙ through_append most first (take p bs) (at bs p ∷ [])
      ∙ ap (λ x. through most x (at bs p ∷ [])) e

  reached-count : (most p : ℕ) (m : Mode) → through most first (take p bs) ≡ go m
      → how_many opens (take p bs) ≡ how_many closes (take p bs) + standing m
  reached-count most p m e =
      let k = through_kept most (take p bs) (start outside) m (good_first most) e in
      subst (λ t. how_many opens t ≡ how_many closes t + standing m) k.0 (mode_count m)

  -- so that no fault lies before them
  no_breach : (most p q : ℕ) → Reached most p → q + 1 ≤ p → (Begins (take (q + 1) bs) → ⊥) → ⊥
  no_breach most p q r l f = f (reached-begins most (q + 1) (reached-before most p (q + 1) r l))

  no_deep : (p q : ℕ) → Reached max_depth p → q + 1 ≤ p → q < length bs → opens (at bs q) ≡ true
      → how_many opens (take q bs) ≡ how_many closes (take q bs) + max_depth → ⊥
  no_deep p q r l u o h =
      let m = reached-before max_depth p q r (omega arith) in
      let n = reached-before max_depth p (q + 1) r l in
      let s = opens-room max_depth m.0 n.0 (at bs q) o (sym (reached-next max_depth q m.0 u m.1) ∙ n.1) in
      let c = reached-count max_depth q m.0 m.1 in
      omega arith

  -- what lies at a place is no earlier than where reading stopped, and there VALUE comes first
  abbrev Later : ℕ → Refusal → ℕ → Refusal → Type 0
  Later p k q j = (p < q) ⊎ ((p ≡ q) × (rank k ≤ rank j))

  later : (p q : ℕ) (k j : Refusal) → (q + 1 ≤ p → ⊥) → (p ≡ q → rank k ≤ rank j) → Later p k q j
  later p q k j f g =
      ⊎_elim (λ (a : p < q). inl a)
      (λ (a : q ≤ p).
      ⊎_elim (λ (b : q < p). absurd (f (omega arith))) (λ (b : p ≤ q). let e : p ≡ q = omega arith in inr (e, g e)) (decide q p))
      (decide p q)

  value_later : (p : ℕ) {q : ℕ} {j : Refusal} → Reached max_depth p → p ≤ length bs → ReadFault bs q j → Later p Why.Value q j
  value_later p r l (breach q u f) = later p q Why.Value Why.Value (λ a. no_breach max_depth p q r a f) (λ e. omega arith)
  value_later p r l (cut f) = later p (length bs) Why.Value Why.Value (λ a. omega arith) (λ e. omega arith)
  value_later p r l (deep q u o h) = later p q Why.Value Why.Deep (λ a. no_deep p q r a u o h) (λ e. omega arith)

  deep_later : (p : ℕ) {q : ℕ} {j : Refusal} → Reached max_depth p → p < length bs → Begins (take (p + 1) bs) → ReadFault bs q j
      → Later p Why.Deep q j
  deep_later p r l v (breach q u f) =
      later p q Why.Deep Why.Value (λ a. no_breach max_depth p q r a f)
      (λ e. absurd (f (subst (λ z. Begins (take (z + 1) bs)) e v)))
  deep_later p r l v (cut f) = inl l
  deep_later p r l v (deep q u o h) = later p q Why.Deep Why.Deep (λ a. no_deep p q r a u o h) (λ e. omega arith)

  -- ---- a text of any depth is read by as much depth

  longest : (a b : ℕ) → (c : ℕ) × (a ≤ c) × (b ≤ c)
  longest a b = (a + b, omega arith, omega arith)

  -- a text that begins so goes on past any byte at which VALUE would be given
  no_value : (p : ℕ) (m : Mode) → p < length bs → through max_depth first (take p bs) ≡ go m → next max_depth m (at bs p) ≡ bad Why.Value
      → Begins (take (p + 1) bs) → ⊥
  no_value p m l t n v =
      let c = longest max_depth v.depth in
      let z = through_go max_depth c.0 c.1 (take p bs) (start outside) m t in
      let w = next-value max_depth c.0 c.1 m (at bs p) n in
      let y = reached-next c.0 p m l z in
      let a = through_fits c.0 v.tree v.depth c.2 v.fits in
      bad-go Why.Value (after_tree c.0 v.tree outside)
      (sym (through_bad c.0 Why.Value v.rest) ∙ ap (λ x. through c.0 x v.rest) (sym (y ∙ w))
      ∙ sym (through_append c.0 first (take (p + 1) bs) v.rest) ∙ ap (through c.0 first) (sym v.spelled) ∙ a)

  -- nor does it end where it is no text
  no_end-there : (m : Mode) (k : Refusal) → through max_depth first bs ≡ go m → finish m ≡ broken k → Completes bs → ⊥
  no_end-there m k t n v =
      let c = longest max_depth v.depth in
      let z = through_go max_depth c.0 c.1 bs (start outside) m t in
      let a = through_fits c.0 v.tree v.depth c.2 v.fits in
      tree-broken v.tree k
      (sym (finish-after c.0 v.tree) ∙ ap stopped (sym a ∙ ap (through c.0 first) (sym v.spelled) ∙ z) ∙ n)

  -- ---- the first fault

  deep-begins : (p : ℕ) (m : Mode) → p < length bs → through max_depth first (take p bs) ≡ go m → next max_depth m (at bs p) ≡ bad Why.Deep
      → Begins (take (p + 1) bs)
  deep-begins p m l t n =
      let d = next-deep max_depth m (at bs p) n in
      let c = d.1 in
      let z = through_go max_depth (standing m + 1) (omega arith) (take p bs) (start outside) m t in
      reached-begins (standing m + 1) (p + 1) (d.2.0, reached-next (standing m + 1) p m l z ∙ d.2.1)

  -- no deeper stand open than may
  standing_most : (m : Mode) → Good max_depth m → standing m ≤ max_depth
  standing_most (start o) g = let z = good_height max_depth g.0 o g.1 in omega arith
  standing_most (opened o) g = let z = good_height max_depth (suc g.0) o g.1 in omega arith
  standing_most (braced o) g = let z = good_height max_depth (suc g.0) o g.1 in omega arith
  standing_most (numbered o) g = let z = good_height max_depth (suc g.0) o g.1 in omega arith
  standing_most (negated o) g = let z = good_height max_depth g.0 o g.1 in omega arith
  standing_most (digits neg n o) g = let z = good_height max_depth g.0 o g.1 in omega arith
  standing_most (whole t o) g = let z = good_height max_depth g.0 o g.1 in omega arith

  stop-first : (k : Refusal) → Stop bs k → FirstFault (ReadFault bs) k
  stop-first k (at_byte p m l t n) = by (next_bads max_depth m (at bs p) k n)
    where
      by : (k ≡ Why.Value) ⊎ (k ≡ Why.Deep) → FirstFault (ReadFault bs) k
      by (inl e) = subst (FirstFault (ReadFault bs)) (sym e) (record {
        place = p;
        is_fault = breach p l (no_value p m l t (n ∙ ap bad e));
        first = λ q j f. value_later p (m, t) (omega arith) f;
      })
      by (inr e) =
          let d = next-deep max_depth m (at bs p) (n ∙ ap bad e) in
          let c = reached-count max_depth p m t in
          let u = standing_most m (through_kept max_depth (take p bs) (start outside) m (good_first max_depth) t).1 in
          let v = d.1 in
          subst (FirstFault (ReadFault bs)) (sym e) (record {
            place = p;
            is_fault = deep p l d.0 (omega arith);
            first = λ q j f. deep_later p (m, t) l (deep-begins p m l t (n ∙ ap bad e)) f;
          })
  stop-first k (at_end m t n) = subst (FirstFault (ReadFault bs)) (finish-value m k n) (record {
    place = length bs;
    is_fault = cut (no_end-there m k t n);
    first = λ q j f. value_later (length bs) (m, ap (through max_depth first) (take-length bs) ∙ t) (omega arith) f;
  })

  pub first-read-fault : (k : Refusal) → parsed bs ≡ broken k → FirstFault (ReadFault bs) k
  first-read-fault k e = stop-first k (stops_at bs k e)

  -- ---- what is accepted

  pub parsed-text : (t : Tree) → parsed bs ≡ tree t → IsText bs t
  parsed-text t e = by (through max_depth first bs) refl (sym (parsed_through max_depth first bs) ∙ e)
    where
      by : (x : Next) → through max_depth first bs ≡ x → stopped x ≡ tree t → IsText bs t
      by (bad k) q f = tree-broken t k (sym f)
      by (go m) q f =
          let k = through_kept max_depth bs (start outside) m (good_first max_depth) q in
          let r = finish-tree max_depth m t k.1 f in
          record { spelled = sym k.0 ∙ r.0; fits = r.1 }

  pub text-parsed : (t : Tree) → IsText bs t → parsed bs ≡ tree t
  text-parsed t e =
      parsed_through max_depth first bs
      ∙ ap stopped (ap (through max_depth first) e.spelled ∙ through_fits max_depth t max_depth (omega arith) e.fits)
      ∙ finish-after max_depth t

  -- then there is no fault
  pub no_read-fault : (t : Tree) → parsed bs ≡ tree t → {q : ℕ} {j : Refusal} → ReadFault bs q j → ⊥
  no_read-fault t e f = by (through max_depth first bs) refl (sym (parsed_through max_depth first bs) ∙ e) f
    where
      by : (x : Next) → through max_depth first bs ≡ x → stopped x ≡ tree t → {q : ℕ} {j : Refusal} → ReadFault bs q j → ⊥
      by (bad k) q f g = tree-broken t k (sym f)
      by (go m) q f (breach p l v) =
          no_breach max_depth (length bs) p (m, ap (through max_depth first) (take-length bs) ∙ q) (omega arith) v
      by (go m) q f (cut v) =
          let i = parsed-text t e in
          v (record { tree = t; depth = max_depth; fits = i.fits; spelled = i.spelled })
      by (go m) q f (deep p l o h) =
          no_deep (length bs) p (m, ap (through max_depth first) (take-length bs) ∙ q) (omega arith) l o h
