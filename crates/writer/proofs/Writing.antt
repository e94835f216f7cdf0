-- The call: what is measured and spelled is what the root's word is to its text, and what that leaves is the call's outcome.
use Prim.Native.Nat.{ℕ, ◌+◌, ◌-◌, ◌≤◌}
use native.Mathlib.Omega.{arith}
use mathlib.Core.Path.{◌≡◌, refl, sym, ap, ◌∙◌, subst, fun_ext}
use mathlib.Core.Bool.{Bool, true, false, not, cond, ◌&&◌, ◌||◌}
use mathlib.Core.List.{List, ◌++◌}
use lib.Dec.{leb, ltb}
use lib.IntN.{ℤ}
use lib.ListN.{length, drop}
use lib.Seq.{sets, sets-eq}
use borrow.Author.Tests.{ne_eqb}
use Rattle.std.specs.Prelude.{Ok, Err, Result, ⊤}
use Rattle.model.specs.declared.Refusal.{Refusal}
use Rattle.model.specs.declared.Refusal.TheVariants as Why
use Rattle.model.specs.declared.Answer.TheVariants as Says
use Rattle.model.specs.Words.{State, with_text, first_word, free}
use Rattle.model.specs.Values.{is_odd, is_address, is_null, is_code, untag}
use Rattle.model.specs.Headers.{tuple}
use Rattle.model.specs.Objects.{index, is_traced, kind, field_words, names}
use Rattle.model.specs.Shape.{bad_shape}
use mathlib.Core.List.{[], ◌∷◌}
use Rattle.model.specs.Answers as Answers
use Rattle.model.specs.Answers.{Outcome, says}
use Rattle.words.specs.Admits.{admits}
use Rattle.words.proofs.Admitted.{not_admitted}
use Rattle.model.specs.Texts.{Form, as_integer, as_tuple, textless, Piece, max_depth, value_pieces, Spelled, whole, broken}
use Rattle.model.specs.Texts.{writes}
use Rattle.model.specs.Changes.{root_word}
use Rattle.model.specs.Calls.{word_form, root_spelled, write}
use Rattle.theory.proofs.Headers.{tuple_adjacent}
use Rattle.theory.proofs.Tests.{never}
use Rattle.theory.proofs.Deciding.{named-address, names_decides}
use Rattle.theory.proofs.WordSorts.{address_parts, address_no_code}
use Rattle.theory.proofs.Refusing.{passes}
use Rattle.theory.proofs.Texts.{whole-fits}
use Rattle.naming.specs.Named.{FreeInHeap}
use Rattle.naming.proofs.NamedObjects.{names_tests, free_in_heap}
use Rattle.writer_measuring.specs.Measured.{measured}
use Rattle.writer_measuring.specs.Forms.{named_in, why_unnamed, form_in}
use Rattle.writer_measuring.proofs.Rooms.{left_of, measured-spelled}
use Rattle.writer_spelling.specs.Going.{reached, goes, Arrives}
use Rattle.writer_spelling.proofs.Steps.{comes, goes-spelled}

-- ---- a word's form

-- the tests in the writer's order and in the model's: what is named is neither null nor a code word
forms : (odd null code named traced : Bool) (v : ℤ) (vs : List ℕ) → (named ≡ true → null ≡ false) →
    (named ≡ true → code ≡ false)
    → cond odd (as_integer v) (cond named (cond traced (as_tuple vs) (textless Why.Value))
    (textless (cond null Why.Value (cond code Why.Value Why.Object))))
    ≡ cond odd (as_integer v) (cond (null || code) (textless Why.Value)
    (cond (not named) (textless Why.Object) (cond traced (as_tuple vs) (textless Why.Value))))
forms true _ _ _ _ v vs n c = refl
forms false true _ true _ v vs n c = never refl (n refl)
forms false true _ false _ v vs n c = refl
forms false false true true _ v vs n c = never refl (c refl)
forms false false true false _ v vs n c = refl
forms false false false true _ v vs n c = refl
forms false false false false _ v vs n c = refl

module _ (s : State) (fits : FreeInHeap s.heap s.«record») (first : ℕ) (e : first ≡ first_word s) where
  named-names : (w : ℕ) → named_in first (free s) s.heap w ≡ names tuple s w
  unfolding named_in
  named-names w =
      let end : first + (free s - first) ≡ free s = omega (arith, fits) in
      names_tests tuple tuple_adjacent s w (index tuple w) first fits refl e refl
      (ap (λ (last : ℕ). leb first (index tuple w) && ltb (index tuple w) last) end) refl refl

  form_word : (w : ℕ) → form_in first (free s) s.heap w ≡ word_form tuple s w
  unfolding form_in word_form why_unnamed
  form_word w =
      let address : names tuple s w ≡ true → is_address w ≡ true = λ n. named-address tuple s w
      ((names_decides tuple s w).holds n) in
      rw (named-names w) (
      forms (is_odd w) (is_null w) (is_code w) (names tuple s w) (is_traced (kind tuple s.heap (index tuple w))) (untag w)
      (field_words tuple s.heap (index tuple w))
      (λ n. ne_eqb w 0 (address_parts w (address n)).1)
      (λ n. address_no_code w (address n)))

  -- the pieces of a word's value
  word_pieces : (d w : ℕ) → value_pieces (form_in first (free s) s.heap) d w ≡ value_pieces (word_form tuple s) d w
  word_pieces d w = ap (λ (form : ℕ → Form ℕ). value_pieces form d w) (fun_ext form_word)

-- ---- measured and spelled

module _ {L : Type 0} (with : List ℕ → L) (t : List ℕ) where
  refused : (k : Refusal) (x : Spelled) → Err k ≡ left_of (length t) x
      → Answers.refused k (with t) ≡ writes with (with t) t x
  refused k (whole bs) e = cc
  refused k (broken j) e = let g : k ≡ j = cc in ap (λ (i : Refusal). Answers.refused i (with t)) g

  spelt : (n : ℕ) (u : List ℕ) (x : Spelled) → ((bs : List ℕ) → x ≡ whole bs → length bs ≤ length t) → reached n u
      ≡ comes 0 t x
      → says (Says.Written n) (with u) ≡ writes with (with t) t x
  spelt n u (broken k) fits e = let z : ◌≡◌ {A = ℕ} 0 1 = cc in absurd (omega arith)
  spelt n u (whole bs) fits e =
      let a : n ≡ 0 + length bs = cc in
      let b : u ≡ sets t 0 bs = cc in
      let l : 0 + length bs ≤ length t = omega (arith, fits bs refl) in
      let o : 0 + length bs ≡ length bs = omega arith in
      ap (λ (k : ℕ). says (Says.Written k) (with u)) (a ∙ o)
      ∙ ap (λ (v : List ℕ). says (Says.Written (length bs)) (with v))
      (b ∙ sets-eq bs t 0 l ∙ ap (λ (k : ℕ). bs ++ drop k t) o)

arrived : (m : ℕ) (t : List ℕ) (x : Spelled) → Ok m ≡ left_of (length t) x → Arrives (comes 0 t x)
arrived m t (whole bs) e = tt
arrived m t (broken k) e = let z : ◌≡◌ {A = ℕ} 0 1 = cc in absurd (omega arith)

-- ---- the call

module _ (root : ℕ) (s : State) where
  -- whatever `admit` says against it
  pub write_unadmitted : {x : Result ⊤ Refusal} {k : Refusal} → x ≡ admits (root ∷ []) s → x ≡ Err k → Answers.refused k s ≡ write tuple root s
  unfolding write
  write_unadmitted e h = not_admitted (root ∷ []) s e _ h

  module _ (shape : bad_shape s ≡ false) where
    module _ (there : leb (length s.roots) root ≡ false) (first : ℕ) (e : first ≡ first_word s) where
      -- what is gone over
      abbrev pub root_pieces : List Piece
      root_pieces = value_pieces (form_in first (free s) s.heap) max_depth (root_word s root)

      same_pieces : root_pieces ≡ value_pieces (word_form tuple s) max_depth (root_word s root)
      same_pieces = word_pieces s (free_in_heap s shape) first e max_depth (root_word s root)

      spelling : goes root_pieces 0 s.text ≡ comes 0 s.text (root_spelled tuple root s)
      spelling =
          ap (λ (ps : List Piece). goes ps 0 s.text) same_pieces ∙ goes-spelled _ 0 (length s.text) s.text
          (omega arith)

      called : (o : Outcome State) → o ≡ writes (λ t. with_text t s) s s.text (root_spelled tuple root s) → o
          ≡ write tuple root s
      unfolding write
      called o f = passes _ _ shape (passes _ _ there f)

      measuring : measured (length s.text) root_pieces ≡ left_of (length s.text) (root_spelled tuple root s)
      measuring = ap (measured (length s.text)) same_pieces ∙ measured-spelled _ (length s.text)

      pub write-refused : (k : Refusal) → Err k ≡ measured (length s.text) root_pieces
          → Answers.refused k s ≡ write tuple root s
      write-refused k r =
          called _ (refused (λ t. with_text t s) s.text k (root_spelled tuple root s) (r ∙ measuring))

      pub write_arrives : (m : ℕ) → Ok m ≡ measured (length s.text) root_pieces → Arrives (goes root_pieces 0 s.text)
      write_arrives m r = subst Arrives (sym spelling) (arrived m s.text (root_spelled tuple root s) (r ∙ measuring))

      pub write-spelt : (n : ℕ) (u : List ℕ) → reached n u ≡ goes root_pieces 0 s.text
          → says (Says.Written n) (with_text u s) ≡ write tuple root s
      write-spelt n u g =
          called _
          (spelt (λ t. with_text t s) s.text n u (root_spelled tuple root s)
          (λ bs h. whole-fits (length s.text) _ bs h)
          (g ∙ spelling))
