-- Write in the heap and in the graph that it stands for: a word and its value have the same pieces.
use Prim.Native.Nat.{ℕ, zero, suc, ◌%◌, ◌<◌}
use native.Mathlib.Omega.{arith}
use mathlib.Core.Path.{◌≡◌, refl, sym, ap, ◌∙◌, subst}
use mathlib.Core.Bool.{true, cond}
use mathlib.Core.List.{List, [], ◌∷◌, map}
use lib.ListN.{length, get_or, length-map}
use lib.Seq.{ext_get_or}
use borrow.Author.Tests.{ne_eqb}
use Rattle.model.specs.declared.Refusal.TheVariants as Why
use Rattle.model.specs.declared.Call.TheVariants as Ask
use Rattle.model.specs.Calls as Calls
use Rattle.model.specs.Calls.{word_form}
use Rattle.model.specs.Changes.{root_word}
use Rattle.model.specs.Graph.{Plain, integer, null, code, Value, plain, object, Object, traced, untraced, Graph, nth, root_value}
use Rattle.model.specs.GraphCalls.{graph_with_text, plain_form, object_form, value_form, graph_step}
use Rattle.model.specs.Headers.{Layout, Adjacent}
use Rattle.model.specs.Objects.{is_traced, address, kind, field_count, field_index, field_words}
use Rattle.model.specs.Represents.{plain_word, has_word, Encodes, Holds, Represents}
use Rattle.model.specs.Sessions.{step}
use Rattle.model.specs.Texts.{Form, as_integer, as_tuple, textless, Piece, byte, enclosed, form_pieces, max_depth, tuple_pieces, value_pieces}
use Rattle.model.specs.Texts.{Spelled, whole, broken, spelled, over, writes}
use Rattle.model.specs.Words.{State, with_text, at}
use Rattle.demands.proofs.CallsOnRoots.{has_root}
use Rattle.demands.proofs.Integers.{tag-is-odd, untag-tag}
use Rattle.theory.proofs.Keeping.{tile}
use Rattle.theory.proofs.Lists.{get_d_map}
use Rattle.theory.proofs.Members.{In}
use Rattle.theory.proofs.Objects.{index-address, field_at, fields-length}
use Rattle.demands.proofs.Represents.{parts, Agrees, roots_agree, text_represents}
use Rattle.demands.proofs.Represents.{header-not-null, header-not-odd, header_no_code, header-names}
use Rattle.theory.proofs.Shape.{first_in}
use Rattle.theory.proofs.WordSorts.{code_parts}

module _ (Y : Layout) (near : Adjacent Y) (s : State) (g : Graph) (m : Represents Y s g) where
  abbrev heap_pieces : ℕ → ℕ → List Piece
  heap_pieces d w = value_pieces (word_form Y s) d w

  abbrev graph_pieces : ℕ → Value → List Piece
  graph_pieces d v = value_pieces (value_form g) d v

  -- what a word is to its text, of a plain value's and of an object's
  abbrev word_form_of : Plain → Form ℕ
  word_form_of (integer v) = as_integer v
  word_form_of null = textless Why.Value
  word_form_of (code w) = textless Why.Value

  plain_pieces : (t : List ℕ → List Piece) (u : List Value → List Piece) (p : Plain) → form_pieces t (word_form_of p) ≡ form_pieces u (plain_form p)
  plain_pieces t u (integer v) = refl
  plain_pieces t u null = refl
  plain_pieces t u (code w) = refl

  plain_form_lem : (p : Plain) → has_word p ≡ true → word_form Y s (plain_word p) ≡ word_form_of p
  unfolding word_form
  plain_form_lem (integer v) h = rw (tag-is-odd v h, untag-tag v h)
  plain_form_lem null h = refl
  plain_form_lem (code x) h =
      let p = code_parts x h in
      rw (ne_eqb (x % 2) 1 (λ o. let z = p.0 in omega arith), ne_eqb x 0 (λ n. let z = p.1 in omega arith), h)

  module _ (x : ℕ) (i : In x m.kept) where
    object_form_lem : word_form Y s (address Y (m.header_of x))
        ≡ cond (is_traced (kind Y s.heap (m.header_of x))) (as_tuple (field_words Y s.heap (m.header_of x))) (textless Why.Value)
    unfolding word_form
    object_form_lem =
        let hd = m.head x i in
        rw (
          header-not-odd Y s (parts m) (m.header_of x) hd,
          header-not-null Y s (parts m) (m.header_of x) hd,
          header_no_code Y s (parts m) (m.header_of x) hd near,
          header-names Y s (parts m) (m.header_of x) hd near,
          index-address Y (m.header_of x),
        )

    words-length : length (field_words Y s.heap (m.header_of x)) ≡ field_count Y s.heap (m.header_of x)
    words-length =
        let b = first_in s (parts m).shape in
        fields-length Y s.heap (m.header_of x)
        (omega (arith, (tile Y s (parts m) (m.header_of x) (m.head x i)).within, (parts m).shape.high))

    -- the fields of an object, where the pieces of words and their values are the same
    fields-same : (d : ℕ) (vs : List Value) → field_count Y s.heap (m.header_of x) ≡ length vs
        → ((f : ℕ) → f < length vs
        → Encodes Y m.kept m.header_of (get_or vs f (plain null)) (at s.heap (field_index (m.header_of x) f)))
        → ((v : Value) (w : ℕ) → Encodes Y m.kept m.header_of v w → heap_pieces d w ≡ graph_pieces d v)
        → map (heap_pieces d) (field_words Y s.heap (m.header_of x)) ≡ map (graph_pieces d) vs
    fields-same d vs n e ih =
        let a = length-map (field_words Y s.heap (m.header_of x)) (heap_pieces d) in
        let b = length-map vs (graph_pieces d) in
        ext_get_or [] _ _ (omega (arith, words-length))
        (λ f l.
        let k : f < length vs = omega (arith, words-length) in
        get_d_map (heap_pieces d) (field_words Y s.heap (m.header_of x)) f 0 [] (omega arith)
        ∙ ap (heap_pieces d) (field_at Y s.heap (m.header_of x) f (omega arith))
        ∙ ih (get_or vs f (plain null)) (at s.heap (field_index (m.header_of x) f)) (e f k)
        ∙ sym (get_d_map (graph_pieces d) vs f (plain null) [] k))

    object-same : (d : ℕ) (b : Object) → Holds Y m.kept m.header_of s.heap b (m.header_of x)
        → ((vs : List Value) → b ≡ traced vs → field_count Y s.heap (m.header_of x) ≡ length vs
        → ((f : ℕ) → f < length vs
        → Encodes Y m.kept m.header_of (get_or vs f (plain null)) (at s.heap (field_index (m.header_of x) f)))
        → tuple_pieces (word_form Y s) d (field_words Y s.heap (m.header_of x)) ≡ tuple_pieces (value_form g) d vs)
        → form_pieces (tuple_pieces (word_form Y s) d)
        (cond (is_traced (kind Y s.heap (m.header_of x))) (as_tuple (field_words Y s.heap (m.header_of x))) (textless Why.Value))
        ≡ form_pieces (tuple_pieces (value_form g) d) (object_form b)
    object-same d (traced vs) h t = rw h.0 (t vs refl h.1 h.2)
    object-same d (untraced ws) h t = rw h.0

  -- a word and its value have the same pieces
  pub pieces_same : (d : ℕ) (v : Value) (w : ℕ) → Encodes Y m.kept m.header_of v w → heap_pieces d w ≡ graph_pieces d v
  unfolding tuple_pieces
  pieces_same zero (plain p) w e = ap (form_pieces (tuple_pieces (word_form Y s) 0)) (ap (word_form Y s) e.1 ∙ plain_form_lem p e.0) ∙ plain_pieces _ _ p
  pieces_same zero (object x) w e =
      ap (form_pieces (tuple_pieces (word_form Y s) 0)) (ap (word_form Y s) e.1 ∙ object_form_lem x e.0)
      ∙ object-same x e.0 0 (nth g x) (m.holds x e.0) (λ vs b n f. refl)
  pieces_same (suc d) (plain p) w e =
      ap (form_pieces (tuple_pieces (word_form Y s) (suc d))) (ap (word_form Y s) e.1 ∙ plain_form_lem p e.0) ∙ plain_pieces _ _ p
  pieces_same (suc d) (object x) w e =
      let ih = pieces_same d in
      ap (form_pieces (tuple_pieces (word_form Y s) (suc d))) (ap (word_form Y s) e.1 ∙ object_form_lem x e.0)
      ∙ object-same x e.0 (suc d) (nth g x) (m.holds x e.0) (λ vs b n f. ap (enclosed byte) (fields-same x e.0 d vs n f ih))

  -- what is written into the bytes that are lent
  writes_agree : (x y : Spelled) → x ≡ y
      → Agrees Y (writes (λ t. with_text t s) s s.text x) (writes (λ t. graph_with_text t g) g g.text y)
  writes_agree x y e = subst (λ z. Agrees Y (writes (λ t. with_text t s) s s.text x) (writes (λ t. graph_with_text t g) g g.text z)) e (one x)
    where
      one : (x : Spelled) → Agrees Y (writes (λ t. with_text t s) s s.text x) (writes (λ t. graph_with_text t g) g g.text x)
      one (whole bs) = (
        refl,
        subst (λ t. Represents Y (with_text (over bs s.text) s) (graph_with_text (over bs t) g)) m.text
            (text_represents Y s g m (over bs s.text)),
      )
      one (broken k) = (refl, m)

pub write_agrees : (Y : Layout) → Adjacent Y → (r : ℕ) (s : State) (g : Graph) → Represents Y s g
    → Agrees Y (step Y (Ask.Write r) s) (graph_step (Ask.Write r) g)
unfolding step Calls.write graph_step
write_agrees Y near r s g m =
    roots_agree Y (r ∷ []) s g _ _ m (λ a.
    writes_agree Y near s g m _ _
    (ap (λ n. spelled n (value_pieces (word_form Y s) max_depth (root_word s r))) (ap length m.text)
    ∙ ap (spelled (length g.text))
    (pieces_same Y near s g m max_depth (root_value g r) (root_word s r) (m.roots r (has_root Y s g m r a)))))
