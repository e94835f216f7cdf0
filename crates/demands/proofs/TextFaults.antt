-- The writer's faults by their places, and the pieces of a word: what `TextFaults` says apart from the pieces is what they say.
use Prim.Native.Nat.{ℕ, zero, suc, ◌+◌, ◌%◌, ◌≤◌, ◌<◌}
use native.Mathlib.Omega.{arith}
use mathlib.Core.Path.{◌≡◌, refl, sym, ap, ◌∙◌, subst}
use mathlib.Core.Logic.{⊎_elim}
use mathlib.Core.Bool.{true, false}
use mathlib.Core.List.{List, [], ◌∷◌, ◌++◌, map, append-nil, append_assoc}
use lib.ListN.{length, get_or, take, drop, length-append, length-take, length-drop, take-append-drop, drop_of_length-le, length-map, get_or-append}
use lib.Seq.{ext_get_or, get_or-take, get_or-append_seam, drop-cons}
use borrow.Author.Tests.{eq-eqb, ne_eqb, eqb-true}
use Rattle.model.specs.declared.Kind.{Kind}
use Rattle.model.specs.declared.Kind.TheVariants.{Traced, Untraced}
use Rattle.model.specs.declared.Refusal.{Refusal}
use Rattle.model.specs.declared.Refusal.TheVariants as Why
use Rattle.model.specs.Calls.{word_form}
use Rattle.model.specs.Changes.{root_word}
use Rattle.model.specs.Conditions as C
use Rattle.model.specs.Headers.{Layout}
use Rattle.model.specs.Objects.{index, kind, field_words, names}
use Rattle.model.specs.Texts.{as_tuple, Piece, byte, fault, integer_text, closer, enclosed, max_depth, tuple_pieces}
use Rattle.model.specs.Texts.{value_pieces}
use Rattle.model.specs.TextFaults as T
use Rattle.model.specs.TextFaults.{lead, spread}
use Rattle.model.specs.Values.{is_odd, is_null, is_code, untag}
use Rattle.model.specs.Words.{State, at}
use Rattle.demands.proofs.CallsPass.{fails_test}
use Rattle.theory.proofs.Deciding.{names_decides, names_true, named-address}
use Rattle.theory.proofs.Lists.{get_d_map}
use Rattle.theory.proofs.Objects.{field_at, fields-length}
use Rattle.theory.proofs.Shape.{Shaped, first_in}
use Rattle.theory.proofs.Tests.{by_test}
use Rattle.demands.proofs.TextPlaces.{no_fault, spelt, Cut, cut-then, cut-more, before-part, after-part, opener-part, unit_closer}
use Rattle.demands.proofs.TextPlaces.{IsByte, Where, in_opener, in_part, after_part, in_unit, located, spelt-same, spelt-cut}
use Rattle.demands.proofs.TextPlaces.{enclosed-spelt, spelt-enclosed, fault-cut, digit-cut, no_length}
use Rattle.theory.proofs.WordSorts.{code_parts, parts_code, address_parts, parts_address, other-address, address_no_code}

-- what a word is to the writer
data Sort (Y : Layout) (s : State) (w : ℕ) : Type 0 where
  integer : w % 2 ≡ 1 → Sort Y s w
  tuple : T.Tuple Y s w → Sort Y s w
  no_text : T.NoText Y s w → Sort Y s w
  no_kind : T.NoKind Y s w → Sort Y s w

module _ (Y : Layout) (s : State) where
  sort_kind : (w : ℕ) → C.Names Y s w → (k : Kind) → kind Y s.heap (index Y w) ≡ k → Sort Y s w
  sort_kind w n Traced e = tuple (record { named = n; traced = e })
  sort_kind w n Untraced e = no_text (T.raw n e)

  sorts : (w : ℕ) → Sort Y s w
  sorts w =
      ⊎_elim
      (λ (a : is_odd w ≡ true). integer (eqb-true (w % 2) 1 a))
      (λ (a : is_odd w ≡ false).
      ⊎_elim
      (λ (b : is_null w ≡ true). no_text (T.null (eqb-true w 0 b)))
      (λ (b : is_null w ≡ false).
      ⊎_elim
      (λ (c : is_code w ≡ true). let p = code_parts w c in no_text (T.code p.0 p.1))
      (λ (c : is_code w ≡ false).
      ⊎_elim
      (λ (d : names Y s w ≡ true). sort_kind w ((names_decides Y s w).holds d) _ refl)
      (λ (d : names Y s w ≡ false).
      let p = address_parts w (other-address w a b c) in
      no_kind (record { even = p.0; not_null = p.1; below_floor = p.2; names_none = (names_decides Y s w).fails d }))
      (by_test (names Y s w)))
      (by_test (is_code w)))
      (by_test (is_null w)))
      (by_test (is_odd w))

  -- ---- the pieces of a word, by what it is

  abbrev pub pieces : ℕ → ℕ → List Piece
  pieces d w = value_pieces (word_form Y s) d w

  abbrev parts : ℕ → ℕ → List (List Piece)
  parts d w = map (pieces d) (field_words Y s.heap (index Y w))

  pieces_integer : (d w : ℕ) → w % 2 ≡ 1 → pieces d w ≡ spelt (integer_text (untag w))
  unfolding word_form
  pieces_integer d w e = rw (eq-eqb (w % 2) 1 e)

  module _ (w : ℕ) (n : C.Names Y s w) where
    no_odd : is_odd w ≡ false
    no_odd = ne_eqb (w % 2) 1 (λ e. omega (arith, n.even))

    no_null : is_null w ≡ false
    no_null = ne_eqb w 0 n.not_null

    no_code : is_code w ≡ false
    no_code = address_no_code w (named-address Y s w n)

  tuple_form : (w : ℕ) → T.Tuple Y s w → word_form Y s w ≡ as_tuple (field_words Y s.heap (index Y w))
  unfolding word_form
  tuple_form w t =
      let n = t.named in
      rw (no_odd w n, no_null w n, no_code w n, names_true Y s w n, t.traced)

  pub pieces_deep : (w : ℕ) → T.Tuple Y s w → pieces 0 w ≡ fault Why.Deep ∷ []
  unfolding tuple_pieces
  pieces_deep w t = rw (tuple_form w t)

  pieces_tuple : (d w : ℕ) → T.Tuple Y s w → pieces (suc d) w ≡ enclosed byte (parts d w)
  unfolding tuple_pieces
  pieces_tuple d w t = rw (tuple_form w t)

  pub pieces_raw : (d w : ℕ) → C.Names Y s w → kind Y s.heap (index Y w) ≡ Untraced → pieces d w ≡ fault Why.Value ∷ []
  unfolding word_form
  pieces_raw d w n e = rw (no_odd w n, no_null w n, no_code w n, names_true Y s w n, e)

  pub pieces_no_text : (d w : ℕ) → T.NoText Y s w → pieces d w ≡ fault Why.Value ∷ []
  unfolding word_form
  pieces_no_text d w (T.null e) = rw e
  pieces_no_text d w (T.code e l) =
      rw (ne_eqb (w % 2) 1 (λ o. omega arith), ne_eqb w 0 (λ z. omega arith), parts_code w e l)
  pieces_no_text d w (T.raw n e) = pieces_raw d w n e

  pub pieces_no_kind : (d w : ℕ) → T.NoKind Y s w → pieces d w ≡ fault Why.Object ∷ []
  unfolding word_form
  pieces_no_kind d w n =
      let a = address_no_code w (parts_address w n.even n.not_null n.below_floor) in
      rw (
        ne_eqb (w % 2) 1 (λ o. omega (arith, n.even)),
        ne_eqb w 0 n.not_null,
        a,
        fails_test (names_decides Y s w) n.names_none,
      )

  -- ---- of a state whose lengths are those of a heap

  module _ (h : Shaped s) where
    module _ (d w : ℕ) (t : T.Tuple Y s w) where
      words-length : length (field_words Y s.heap (index Y w)) ≡ T.fields_of Y s w
      words-length =
          let b = first_in s h in
          fields-length Y s.heap (index Y w) (omega (arith, t.named.ends, h.high))

      parts_length : length (parts d w) ≡ T.fields_of Y s w
      parts_length = length-map (field_words Y s.heap (index Y w)) (pieces d) ∙ words-length

      part_at : (f : ℕ) → f < T.fields_of Y s w → get_or (parts d w) f [] ≡ pieces d (T.field_of Y s w f)
      part_at f l =
          get_d_map (pieces d) (field_words Y s.heap (index Y w)) f 0 [] (omega (arith, words-length))
          ∙ ap (pieces d) (field_at Y s.heap (index Y w) f l)

      -- parts that begin with texts
      parts_begin : (ts : List (List ℕ)) → length ts ≤ T.fields_of Y s w
          → ((f : ℕ) → f < length ts → pieces d (T.field_of Y s w f) ≡ spelt (get_or ts f []))
          → parts d w ≡ map spelt ts ++ drop (length ts) (parts d w)
      parts_begin ts l e =
          let m = length-map ts spelt in
          sym (take-append-drop (length ts) (parts d w))
          ∙ ap (λ x. x ++ drop (length ts) (parts d w))
          (ext_get_or [] (take (length ts) (parts d w)) (map spelt ts)
          (length-take (length ts) (parts d w) ∙ omega (arith, parts_length))
          (λ f k.
          let z = length-take (length ts) (parts d w) in
          let j : f < length ts = omega (arith, parts_length) in
          get_or-take (length ts) (parts d w) f [] j ∙ part_at f (omega arith) ∙ e f j
          ∙ sym (get_d_map spelt ts f [] [] j)))

      parts_of : (ts : List (List ℕ)) (qs : List (List Piece)) → parts d w ≡ map spelt ts ++ qs → (f : ℕ) → f < length ts
          → pieces d (T.field_of Y s w f) ≡ spelt (get_or ts f [])
      parts_of ts qs e f l =
          let m = length-map ts spelt in
          let n = ap length e in
          let k = length-append (map spelt ts) qs in
          sym (part_at f (omega (arith, parts_length))) ∙ ap (λ x. get_or x f []) e
          ∙ get_or-append (map spelt ts) qs [] f (omega arith) ∙ get_d_map spelt ts f [] [] l

    -- ---- a word has a text where its pieces are bytes

    pub text_pieces : {d w : ℕ} {t : List ℕ} → T.HasText Y s d w t → pieces d w ≡ spelt t
    text_pieces (T.integer {d} {w} e) = pieces_integer d w e
    text_pieces (T.tuple {d} {w} ts t n e) =
        pieces_tuple d w t
        ∙ ap (enclosed byte)
        (parts_begin d w t ts (omega arith) (λ f l. text_pieces (e f (omega arith)))
        ∙ ap (λ x. map spelt ts ++ x) (drop_of_length-le (parts d w) {i = length ts} (omega (arith, parts_length d w t))) ∙ append-nil (map spelt ts))
        ∙ enclosed-spelt ts

    integer-text : (d w : ℕ) (t : List ℕ) → w % 2 ≡ 1 → pieces d w ≡ spelt t → T.HasText Y s d w t
    integer-text d w t o e =
        subst (T.HasText Y s d w) (spelt-same (integer_text (untag w)) t (sym (pieces_integer d w o) ∙ e)) (T.integer o)

    pub pieces_text : (d w : ℕ) (t : List ℕ) → pieces d w ≡ spelt t → T.HasText Y s d w t
    pieces_text zero w t e = shallow (sorts w)
      where
        shallow : Sort Y s w → T.HasText Y s 0 w t
        shallow (integer o) = integer-text 0 w t o e
        shallow (tuple u) = no_fault Why.Deep t (sym (pieces_deep w u) ∙ e)
        shallow (no_text u) = no_fault Why.Value t (sym (pieces_no_text 0 w u) ∙ e)
        shallow (no_kind u) = no_fault Why.Object t (sym (pieces_no_kind 0 w u) ∙ e)
    pieces_text (suc d) w t e = deeper (pieces_text d) (sorts w)
      where
        deeper : ((v : ℕ) (u : List ℕ) → pieces d v ≡ spelt u → T.HasText Y s d v u) → Sort Y s w → T.HasText Y s (suc d) w t
        deeper ih (integer o) = integer-text (suc d) w t o e
        deeper ih (tuple u) =
            let p = spelt-enclosed (parts d w) t (sym (pieces_tuple d w u) ∙ e) in
            let ts = p.0 in
            let n : length ts ≡ T.fields_of Y s w =
            sym (length-map ts spelt) ∙ ap length (sym p.1) ∙ parts_length d w u in
            subst (T.HasText Y s (suc d) w)
            (spelt-same (enclosed (λ b. b) ts) t (sym (enclosed-spelt ts) ∙ ap (enclosed byte) (sym p.1) ∙ sym (pieces_tuple d w u) ∙ e))
            (T.tuple ts u n (λ f l.
            ih (T.field_of Y s w f) (get_or ts f [])
            (parts_of d w u ts [] (p.1 ∙ sym (append-nil (map spelt ts))) f (omega arith))))
        deeper ih (no_text u) = no_fault Why.Value t (sym (pieces_no_text (suc d) w u) ∙ e)
        deeper ih (no_kind u) = no_fault Why.Object t (sym (pieces_no_kind (suc d) w u) ∙ e)

    -- one text at most
    pub one-text : {d w : ℕ} {t u : List ℕ} → T.HasText Y s d w t → T.HasText Y s d w u → t ≡ u
    one-text {d} {w} {t} {u} a b = spelt-same t u (sym (text_pieces a) ∙ text_pieces b)

    -- ---- from pieces to places

    module _ (r : ℕ) where
      -- what a piece is at a place
      abbrev Here : ℕ → Piece → Type 0
      Here p (byte b) = T.Stands Y s r p
      Here p (fault k) = T.Fault Y s r p k

      here_byte : (p : ℕ) (x : Piece) → IsByte x → T.Stands Y s r p → Here p x
      here_byte p (byte b) i u = u
      here_byte p (fault k) i u = absurd i

      here_fault : (p : ℕ) (k : Refusal) (bs : List ℕ) (x : Piece) (ys : List Piece) → fault k ∷ [] ≡ spelt bs ++ (x ∷ ys)
          → T.Fault Y s r p k → Here (p + length bs) x
      here_fault p k bs x ys e u =
          let c = fault-cut k bs x ys e in
          subst (Here (p + length bs)) (sym c.0) (subst (λ n. T.Fault Y s r n k) (omega (arith, c.1)) u)

      here_integer : {w d p : ℕ} → T.Begins Y s r w d p → w % 2 ≡ 1 → (bs : List ℕ) (x : Piece) (ys : List Piece)
          → pieces d w ≡ spelt bs ++ (x ∷ ys) → Here (p + length bs) x
      here_integer {w} {d} {p} b o bs x ys e =
          let c = spelt-cut (integer_text (untag w)) bs x ys (sym (pieces_integer d w o) ∙ e) in
          here_byte (p + length bs) x c.0 (T.digit (length bs) b o c.1)

      -- the fields whose texts come first
      before : (d w : ℕ) (u : T.Tuple Y s w) (ts : List (List ℕ)) (qs : List (List Piece)) → parts d w ≡ map spelt ts ++ qs
          → T.Before Y s d w ts
      before d w u ts qs e = record {
        is_tuple = u;
        within = let m = length-map ts spelt in let n = ap length e in let k = length-append (map spelt ts) qs in
            omega (arith, parts_length d w u);
        each = λ f l. pieces_text d (T.field_of Y s w f) (get_or ts f []) (parts_of d w u ts qs e f l);
      }

      here_tuple : (d w p : ℕ) → T.Begins Y s r w (suc d) p → (u : T.Tuple Y s w) → (bs : List ℕ) (x : Piece)
          → ((v q : ℕ) → T.Begins Y s r v d q → (cs : List ℕ) (zs : List Piece) → pieces d v ≡ spelt cs ++ (x ∷ zs) → Here (q + length cs) x)
          → Where (parts d w) x (length bs) → Here (p + length bs) x
      here_tuple d w p b u bs x ih (in_opener l i) =
          here_byte (p + length bs) x i (T.opener (length bs) b u (subst (λ n. length bs < lead n) (parts_length d w u) l))
      here_tuple d w p b u bs x ih (in_part ts q qs cs zs a c n) =
          let l : length ts < T.fields_of Y s w =
          (let m = length-map ts spelt in let z = ap length a in let k = length-append (map spelt ts) (q ∷ qs) in
          omega (arith, parts_length d w u)) in
          let e : pieces d (T.field_of Y s w (length ts)) ≡ q =
          (sym (part_at d w u (length ts) l) ∙ ap (λ z. get_or z (length ts) []) a
          ∙ ap (λ z. get_or (map spelt ts ++ (q ∷ qs)) z []) (sym (length-map ts spelt)) ∙ get_or-append_seam (map spelt ts) q qs []) in
          subst (λ z. Here z x) (omega (arith, n, ap lead (parts_length d w u)))
          (ih (T.field_of Y s w (length ts)) (p + lead (T.fields_of Y s w) + spread ts)
          (T.field ts b (before d w u ts (q ∷ qs) a) l) cs zs (e ∙ c))
      here_tuple d w p b u bs x ih (after_part t ts qs a n i) =
          here_byte (p + length bs) x i
          (subst (T.Stands Y s r) (omega (arith, n, ap lead (parts_length d w u)))
          (T.after (t ∷ ts) (length t + spread ts) b (before d w u (t ∷ ts) qs a) (omega arith)))
      here_tuple d w p b u bs x ih (in_unit a n i) =
          here_byte (p + length bs) x i
          (subst (T.Stands Y s r) (omega (arith, n)) (T.closer b u (sym (parts_length d w u) ∙ ap length a)))

      pub here : (d w p : ℕ) → T.Begins Y s r w d p → (bs : List ℕ) (x : Piece) (ys : List Piece)
          → pieces d w ≡ spelt bs ++ (x ∷ ys) → Here (p + length bs) x
      here zero w p b bs x ys e = shallow (sorts w)
        where
          shallow : Sort Y s w → Here (p + length bs) x
          shallow (integer o) = here_integer b o bs x ys e
          shallow (tuple u) = here_fault p Why.Deep bs x ys (sym (pieces_deep w u) ∙ e) (T.deep b u.named)
          shallow (no_text u) = here_fault p Why.Value bs x ys (sym (pieces_no_text 0 w u) ∙ e) (T.value b u)
          shallow (no_kind u) = here_fault p Why.Object bs x ys (sym (pieces_no_kind 0 w u) ∙ e) (T.object b u)
      here (suc d) w p b bs x ys e = deeper (λ v q c cs zs. here d v q c cs x zs) (sorts w)
        where
          deeper : ((v q : ℕ) → T.Begins Y s r v d q → (cs : List ℕ) (zs : List Piece) → pieces d v ≡ spelt cs ++ (x ∷ zs)
              → Here (q + length cs) x)
              → Sort Y s w → Here (p + length bs) x
          deeper ih (integer o) = here_integer b o bs x ys e
          deeper ih (tuple u) = here_tuple d w p b u bs x ih (located (parts d w) bs x ys (sym (pieces_tuple d w u) ∙ e))
          deeper ih (no_text u) =
              here_fault p Why.Value bs x ys (sym (pieces_no_text (suc d) w u) ∙ e) (T.value b u)
          deeper ih (no_kind u) =
              here_fault p Why.Object bs x ys (sym (pieces_no_kind (suc d) w u) ∙ e) (T.object b u)

      -- ---- from places to pieces

      abbrev pub all : List Piece
      all = pieces max_depth (root_word s r)

      cut_at : {ps qs : List Piece} {m n : ℕ} → m ≡ n → Cut ps m qs → Cut ps n qs
      cut_at {ps} {qs} e c = subst (λ z. Cut ps z qs) e c

      cut_of : {ps ps' qs : List Piece} {n : ℕ} → ps' ≡ ps → Cut ps n qs → Cut ps' n qs
      cut_of {ps} {ps'} {qs} {n} e c = subst (λ z. Cut z n qs) (sym e) c

      -- the pieces of a field behind the texts before it
      field_cut : (d w : ℕ) (ts : List (List ℕ)) → T.Before Y s d w ts → length ts < T.fields_of Y s w
          → (ys : List Piece) × Cut (pieces (suc d) w) (lead (T.fields_of Y s w) + spread ts) (pieces d (T.field_of Y s w (length ts)) ++ ys)
      field_cut d w ts b l =
          let u = b.is_tuple in
          let e = parts_begin d w u ts b.within (λ f k. text_pieces (b.each f k)) in
          let n = parts_length d w u in
          let c : drop (length ts) (parts d w) ≡ pieces d (T.field_of Y s w (length ts)) ∷ drop (suc (length ts)) (parts d w) =
          (drop-cons (parts d w) (length ts) [] (omega arith)
          ∙ ap (λ z. z ∷ drop (suc (length ts)) (parts d w)) (part_at d w u (length ts) l)) in
          let q = before-part ts (pieces d (T.field_of Y s w (length ts))) (drop (suc (length ts)) (parts d w)) in
          let total : length ts + suc (length (drop (suc (length ts)) (parts d w))) ≡ T.fields_of Y s w =
          (let m = length-drop (suc (length ts)) (parts d w) in omega arith) in (
            q.0,
            cut_of (pieces_tuple d w u ∙ ap (enclosed byte) (e ∙ ap (λ z. map spelt ts ++ z) c))
                (cut_at (ap (λ z. lead z + spread ts) total) q.1),
          )

      begins-cut : {w d p : ℕ} → T.Begins Y s r w d p → (ys : List Piece) × Cut all p (pieces d w ++ ys)
      begins-cut T.root = ([], record { bytes = []; is = sym (append-nil all); count = refl })
      begins-cut (T.field {w} {d} {p} ts b f l) =
          let c = begins-cut b in
          let q = field_cut d w ts f l in (
            q.0 ++ c.0,
            cut_at (omega arith)
                (subst (λ z. Cut all (p + (lead (T.fields_of Y s w) + spread ts)) z)
                (append_assoc (pieces d (T.field_of Y s w (length ts))) q.0 c.0)
                (cut-then c.1 (cut-more c.0 q.1))),
          )

      -- a piece among those of a value that begins at a place
      pub inside_cut : {w d p n : ℕ} {x : Piece} {zs : List Piece} → T.Begins Y s r w d p → Cut (pieces d w) n (x ∷ zs)
          → (ys : List Piece) × Cut all (p + n) (x ∷ ys)
      inside_cut {w} {d} {p} {n} {x} {zs} b c =
          let q = begins-cut b in
          (zs ++ q.0, cut-then q.1 (cut-more q.0 c))

      pub stands-cut : {p : ℕ} → T.Stands Y s r p → (b : ℕ) × (ys : List Piece) × Cut all p (byte b ∷ ys)
      stands-cut (T.digit {w} {d} i b o l) =
          let c = inside_cut b (digit-cut (integer_text (untag w)) i l (pieces_integer d w o)) in
          (at (integer_text (untag w)) i, c.0, c.1)
      stands-cut (T.opener {w} {d} i b u l) =
          let q = opener-part (parts d w) i (subst (λ n. i < lead n) (sym (parts_length d w u)) l) in
          let c = inside_cut b (cut_of (pieces_tuple d w u) q.2) in
          (q.0, c.0, c.1)
      stands-cut (T.after {w} {d} {p} [] i b f e) = absurd (omega arith)
      stands-cut (T.after {w} {d} {p} (t ∷ ts) i b f e) =
          let u = f.is_tuple in
          let g = parts_begin d w u (t ∷ ts) f.within (λ n k. text_pieces (f.each n k)) in
          let q = after-part t ts (drop (suc (length ts)) (parts d w)) in
          let n = parts_length d w u in
          let m = length-drop (suc (length ts)) (parts d w) in
          let v = f.within in
          let z : suc (length ts) + length (drop (suc (length ts)) (parts d w)) ≡ T.fields_of Y s w = omega arith in
          let c = inside_cut b (cut_of (pieces_tuple d w u ∙ ap (enclosed byte) g) q.2) in
          (q.0, c.0, cut_at (omega (arith, ap lead z)) c.1)
      stands-cut (T.closer {w} {d} b u e) =
          let n : parts d w ≡ [] = no_length (parts d w) (parts_length d w u ∙ e) in
          let c = inside_cut b (cut_of (pieces_tuple d w u ∙ ap (enclosed byte) n) unit_closer) in
          (closer, c.0, c.1)
