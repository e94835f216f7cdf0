-- Every session call by the rows of its refusals: the first that applies is given, and what it then leaves.
use Prim.Native.Nat.{ℕ, ◌+◌, ◌%◌}
use native.Mathlib.Omega.{arith}
use mathlib.Core.Path.{◌≡◌, refl, sym, ap, ◌∙◌}
use mathlib.Core.Logic.{inl, inr}
use mathlib.Core.Bool.{Bool, true, false}
use mathlib.Core.List.{List, [], ◌∷◌}
use lib.Dec.{leb, eqb}
use lib.ListN.{length}
use borrow.Author.Tests.{leb-true, leb-false, eqb-true, not-false, not-true}
use Rattle.std.specs.Prelude.{Err}
use Rattle.model.specs.declared.Kind.{Kind}
use Rattle.model.specs.declared.Kind.TheVariants.{Traced, Untraced}
use Rattle.model.specs.declared.Refusal.{Refusal}
use Rattle.model.specs.declared.Answer.{Answer}
use Rattle.model.specs.declared.Call.{Call}
use Rattle.model.specs.declared.Refusal.TheVariants as Why
use Rattle.model.specs.declared.Answer.TheVariants as Says
use Rattle.model.specs.declared.Call.TheVariants as Ask
use Rattle.model.specs.Calls as Calls
use Rattle.model.specs.Answers.{Outcome, says, refuse, number, refused}
use Rattle.model.specs.Calls.{on_field}
use Rattle.model.specs.Admission.{no_roots, on_roots}
use Rattle.model.specs.Changes.{root_word, spare, fits}
use Rattle.model.specs.Collection.{collected}
use Rattle.model.specs.Conditions.{Decides, BadShape}
use Rattle.model.specs.Demand1 as D1
use Rattle.model.specs.Headers.{Layout}
use Rattle.model.specs.Objects.{names}
use Rattle.model.specs.Refusals as Row
use Rattle.model.specs.Sessions.{step}
use Rattle.model.specs.Shape.{bad_shape}
use Rattle.model.specs.Values.{is_odd, is_null, is_code}
use Rattle.model.specs.Texts.{Spelled, whole, broken, writes}
use Rattle.model.specs.Trees.{Tree, tree_words}
use Rattle.model.specs.Reading as Reading
use Rattle.model.specs.Reading.{Parsed, tree, parsed}
use Rattle.model.specs.ReadFaults.{IsText, ReadFault, breach, cut, deep}
use Rattle.model.specs.Words.{State, with_text}
use Rattle.theory.proofs.PlainAnswers.{not-room, Plainly, plainly}
use Rattle.demands.proofs.Conditions.{roots_decide, count_decides, range_decides, code_decides, object_decides, value_decides}
use Rattle.demands.proofs.Conditions.{kind_decides, field_decides, unsound_decides, called, uncalled, damaged_decides}
use Rattle.demands.proofs.Conditions.{room_decides}
use Rattle.theory.proofs.Deciding.{shape_decides}
use Rattle.theory.proofs.Shape.{Shaped, shaped}
use Rattle.theory.proofs.Tests.{cond-holds}
use Rattle.theory.proofs.ReadJudged.{tree-same, first-read-fault, parsed-text, text-parsed, no_read-fault}
use Rattle.demands.proofs.TextJudged.{first-rank, whole-none, broken-row, broken-not-room}
use Rattle.theory.proofs.WordSorts.{code_parts, other-address}

-- what a call refused with k leaves: what it was lent, or the collection for ROOM
pub data Left (Y : Layout) (s : State) (k : Refusal) (t : State) : Type 0 where
  unchanged : (k ≡ Why.Room → ⊥) → t ≡ s → Left Y s k t
  recollected : k ≡ Why.Room → t ≡ collected Y s → Left Y s k t

-- an outcome by the rows of its call
pub data Judged (Y : Layout) (s : State) (qs : List Row.Row) : Outcome State → Type 0 where
  by_row : {o : Outcome State} (k : Refusal) → D1.First qs k → o.answer ≡ Err k → Left Y s k o.left
      → Judged Y s qs o
  by_none : {o : Outcome State} → D1.None qs → Plainly o.answer → Judged Y s qs o

module _ (Y : Layout) (s : State) where
  judged-after : (q : Row.Row) (qs : List Row.Row) (o : Outcome State) → (q.applies → ⊥) → Judged Y s qs o
      → Judged Y s (q ∷ qs) o
  judged-after q qs o n (by_row k f e l) = by_row k (inr (n, f)) e l
  judged-after q qs o n (by_none m p) = by_none (n, m) p

  pub judged_refuse : (b : Bool) (k : Refusal) (P : Type 0) (qs : List Row.Row) (o : Outcome State)
      → eqb (number k) 9 ≡ false → Decides b P
      → (b ≡ false → Judged Y s qs o)
      → Judged Y s (Row.row k P ∷ qs) (refuse b k s o)
  unfolding refuse
  judged_refuse true k P qs o e d f = by_row k (inl (d.holds refl, refl)) refl (unchanged (not-room k e) refl)
  judged_refuse false k P qs o e d f = judged-after (Row.row k P) qs o (d.fails refl) (f refl)

  judged-room : (b : Bool) (P : Type 0) (a : Answer) (t : State) → Decides b P
      → Judged Y s (Row.row Why.Room P ∷ []) (refuse b Why.Room (collected Y s) (says a t))
  unfolding refuse
  judged-room true P a t d = by_row Why.Room (inl (d.holds refl, refl)) refl (recollected refl refl)
  judged-room false P a t d = by_none (d.fails refl, tt) (plainly a)

  pub judged_says : (a : Answer) (t : State) → Judged Y s [] (says a t)
  judged_says a t = by_none tt (plainly a)

  -- SHAPE first, then ROOT
  judged_shaped : (named : List ℕ) (qs : List Row.Row) (o : Outcome State) → (bad_shape s ≡ false → Judged Y s qs o)
      → Judged Y s (Row.admitted_rows named s qs) (on_roots named s o)
  judged_shaped named qs o t =
      judged_refuse (bad_shape s) Why.Shape (BadShape s) _ _ refl (shape_decides s) (λ e.
      judged_refuse (no_roots (length s.roots) named) Why.Root (Row.NoRoot s named) qs o refl
      (roots_decide s named) (λ f. t e))

  judged-roots : (named : List ℕ) (qs : List Row.Row) (o : Outcome State) → Judged Y s qs o
      → Judged Y s (Row.admitted_rows named s qs) (on_roots named s o)
  judged-roots named qs o t = judged_shaped named qs o (λ e. t)

  -- OBJECT, KIND, FIELD
  judged-field : (k : Kind) (r f : ℕ) (v : Answer) (t : State)
      → Judged Y s (Row.field_rows Y k r f s) (on_field Y k (root_word s r) f s (says v t))
  judged-field k r f v t =
      judged_refuse _ Why.Object _ _ _ refl (object_decides Y s r) (λ a.
      let n = not-false (names Y s (root_word s r)) a in
      judged_refuse _ Why.Kind _ _ _ refl (kind_decides Y s r n k) (λ b.
      judged_refuse _ Why.Field _ _ _ refl (field_decides Y s r n f) (λ c. judged_says v t)))

  -- inspect: a word that is odd, 0 or a code word is no address
  odd_no_value : (r : ℕ) → is_odd (root_word s r) ≡ true → Row.NoValue Y s r → ⊥
  odd_no_value r e v = let o = eqb-true (root_word s r % 2) 1 e in omega (arith, v.even)

  null_no_value : (r : ℕ) → is_null (root_word s r) ≡ true → Row.NoValue Y s r → ⊥
  null_no_value r e v = v.not_null (eqb-true (root_word s r) 0 e)

  code_no_value : (r : ℕ) → is_code (root_word s r) ≡ true → Row.NoValue Y s r → ⊥
  code_no_value r e v = let l = (code_parts (root_word s r) e).1 in omega (arith, v.below_floor)

  -- write: the first fault, or none
  judged-text : (r : ℕ) (h : Shaped s) (x : Spelled) → Calls.root_spelled Y r s ≡ x
      → Judged Y s (Row.own_rows Y (Ask.Write r) s) (writes (λ t. with_text t s) s s.text x)
  judged-text r h (whole bs) e = by_none (whole-none Y s h r bs e) (plainly (Says.Written (length bs)))
  judged-text r h (broken k) e = by_row k (broken-row Y s h r k e) refl (unchanged (broken-not-room Y s h r k e) refl)

  -- read: the first fault; of the text of a tree, a change that needs its words
  judged-broken : (r : ℕ) (k : Refusal) → parsed s.text ≡ Reading.broken k
      → Judged Y s (Row.own_rows Y (Ask.Read r) s) (refused k s)
  judged-broken r k e = let f = first-read-fault s.text k e in by_fault f f.is_fault
    where
      by_fault : {p : ℕ} {k : Refusal} → Row.FirstFault (ReadFault s.text) k → ReadFault s.text p k
          → Judged Y s (Row.own_rows Y (Ask.Read r) s) (refused k s)
      by_fault f (breach p l v) = by_row Why.Value (inl (f, refl)) refl (unchanged (not-room Why.Value refl) refl)
      by_fault f (cut v) = by_row Why.Value (inl (f, refl)) refl (unchanged (not-room Why.Value refl) refl)
      by_fault f (deep p l o h) =
          by_row Why.Deep
          (inr ((λ g. let z = first-rank (ReadFault s.text) Why.Value Why.Deep g f in omega arith), inl (f, refl))) refl
          (unchanged (not-room Why.Deep refl) refl)

  judged-tree : (r : ℕ) (t : Tree) → parsed s.text ≡ tree t → Judged Y s (Row.own_rows Y (Ask.Read r) s) (Calls.reads Y r s (tree t))
  judged-tree r t e =
      let i = parsed-text s.text t e in
      let one : (u : Tree) → IsText s.text u → u ≡ t = λ u q. tree-same u t (sym (text-parsed s.text u q) ∙ e) in
      let none : (k : Refusal) → Row.FirstFault (ReadFault s.text) k → ⊥ = λ k f. no_read-fault s.text t e f.is_fault in
      judged-after _ _ _ (none Why.Value) (judged-after _ _ _ (none Why.Deep)
      (cond-holds (Judged Y s _) (leb (tree_words t) (spare s)) _ _
      (λ b.
      let l = leb-true (tree_words t) (spare s) b in
      let fits : (u : Tree) → IsText s.text u → Row.Short (tree_words u) s → ⊥ =
      λ u q x. let z = ap tree_words (one u q) in omega arith in
      by_none ((λ x. fits x.0 x.1 x.2), ((λ x. fits x.0 x.1 x.2), tt)) (plainly Says.Done))
      (λ b.
      let l = leb-false (tree_words t) (spare s) b in
      judged_refuse _ Why.Damaged _ _ _ refl
      (record {
        holds = λ x. (t, i, l, (unsound_decides Y s).holds x);
        fails = λ x u. (unsound_decides Y s).fails x u.3;
      })
      (λ d.
      judged-room _ _ _ _
      (record {
        holds = λ x. (t, i, l, leb-false (tree_words t) (spare (collected Y s)) (not-true (leb (tree_words t) (spare (collected Y s))) x));
        fails = λ x u.
            let y = leb-true (tree_words t) (spare (collected Y s)) (not-false (leb (tree_words t) (spare (collected Y s))) x) in
            let z = ap tree_words (one u.0 u.1) in
            let w = u.3 in
            omega arith;
      })))))

  judged-read : (r : ℕ) (x : Parsed) → parsed s.text ≡ x → Judged Y s (Row.own_rows Y (Ask.Read r) s) (Calls.reads Y r s x)
  judged-read r (tree t) e = judged-tree r t e
  judged-read r (Reading.broken k) e = judged-broken r k e

  pub step-judged : (c : Call) → Judged Y s (Row.rows Y c s) (step Y c s)
  unfolding step Calls.collect Calls.check Calls.allocate Calls.set_integer Calls.set_null Calls.set_code Calls.copy Calls.load Calls.store
      Calls.raw_read Calls.raw_write Calls.same Calls.inspect Calls.write Calls.read
  step-judged Ask.Collect =
      judged-roots [] _ _
      (judged_refuse _ Why.Damaged _ _ _ refl (unsound_decides Y s) (λ e. judged_says _ _))
  step-judged Ask.Check = judged-roots [] _ _ (judged_says _ _)
  step-judged (Ask.Allocate k n r) =
      judged-roots (r ∷ []) _ _ (judged_refuse _ Why.Count _ _ _ refl (count_decides n) (λ a.
      cond-holds (Judged Y s _) (fits (n + 1) s) _ _
      (λ b. by_none ((λ c. uncalled n s b c.0), ((λ c. uncalled n s b c.0), tt)) (plainly Says.Done))
      (λ b.
      let c = called n s b in
      judged_refuse _ Why.Damaged _ _ _ refl (damaged_decides Y n s c) (λ d.
      judged-room _ _ _ _ (room_decides n s (collected Y s) c)))))
  step-judged (Ask.SetInteger r v) =
      judged-roots (r ∷ []) _ _ (judged_refuse _ Why.Range _ _ _ refl (range_decides v) (λ e. judged_says _ _))
  step-judged (Ask.SetNull r) = judged-roots (r ∷ []) _ _ (judged_says _ _)
  step-judged (Ask.SetCode r w) =
      judged-roots (r ∷ []) _ _ (judged_refuse _ Why.Range _ _ _ refl (code_decides w) (λ e. judged_says _ _))
  step-judged (Ask.Copy p q) = judged-roots (p ∷ q ∷ []) _ _ (judged_says _ _)
  step-judged (Ask.Load r f q) = judged-roots (r ∷ q ∷ []) _ _ (judged-field Traced r f _ _)
  step-judged (Ask.Store r f q) = judged-roots (r ∷ q ∷ []) _ _ (judged-field Traced r f _ _)
  step-judged (Ask.RawRead r f) = judged-roots (r ∷ []) _ _ (judged-field Untraced r f _ _)
  step-judged (Ask.RawWrite r f n) = judged-roots (r ∷ []) _ _ (judged-field Untraced r f _ _)
  step-judged (Ask.Same p q) = judged-roots (p ∷ q ∷ []) _ _ (judged_says _ _)
  step-judged (Ask.Inspect r) =
      judged-roots (r ∷ []) _ _
      (cond-holds (Judged Y s _) (is_odd (root_word s r)) _ _ (λ a. by_none (odd_no_value r a, tt) (plainly (Says.Integer _))) (λ a.
      cond-holds (Judged Y s _) (is_null (root_word s r)) _ _
      (λ b. by_none (null_no_value r b, tt) (plainly Says.Null)) (λ b.
      cond-holds (Judged Y s _) (is_code (root_word s r)) _ _
      (λ c. by_none (code_no_value r c, tt) (plainly (Says.Code _))) (λ c.
      judged_refuse _ Why.Object _ _ _ refl (value_decides Y s r (other-address (root_word s r) a b c))
      (λ d. judged_says _ _)))))
  step-judged (Ask.Read r) = judged-roots (r ∷ []) _ _ (judged-read r (parsed s.text) refl)
  step-judged (Ask.Write r) =
      judged_shaped (r ∷ []) _ _ (λ e. judged-text r (shaped s e) (Calls.root_spelled Y r s) refl)
