-- Answers are read back from their numbers, so that equal numbers are equal answers.
use Prim.Native.Nat.{ℕ, ◌+◌}
use mathlib.Core.Path.{◌≡◌, refl, sym, ap, ◌∙◌}
use mathlib.Core.Bool.{Bool, true, false, cond}
use mathlib.Core.List.{List, [], ◌∷◌}
use lib.Dec.{leb, eqb}
use lib.ListN.{length}
use borrow.Author.Tests.{ne_eqb}
use Rattle.std.specs.Prelude.{Result, Ok, Err}
use Rattle.model.specs.declared.Kind.{Kind}
use Rattle.model.specs.declared.Kind.TheVariants.{Traced, Untraced}
use Rattle.model.specs.declared.Refusal.{Refusal}
use Rattle.model.specs.declared.Refusal.TheVariants as Why
use Rattle.model.specs.declared.Answer.{Answer}
use Rattle.model.specs.declared.Answer.TheVariants as Says
use Rattle.model.specs.declared.Call.{Call}
use Rattle.model.specs.declared.Call.TheVariants as Ask
use Rattle.model.specs.declared.Place.{Place}
use Rattle.model.specs.declared.Told.{Told}
use Rattle.model.specs.Admission.{on_roots}
use Rattle.model.specs.Answers.{Outcome, says, refuse, number, tells, told}
use Rattle.model.specs.Calls as Calls
use Rattle.model.specs.Calls.{on_field, fresh, with_room, reads}
use Rattle.model.specs.Changes.{root_word, spare, placed, planted}
use Rattle.model.specs.Trees.{tree_words}
use Rattle.model.specs.Reading.{Parsed, tree, parsed}
use Rattle.model.specs.Reading as Reading
use Rattle.model.specs.Headers.{Layout}
use Rattle.model.specs.Laws as Law
use Rattle.model.specs.Objects.{index, field_index}
use Rattle.model.specs.Sessions.{step, machine}
use Rattle.model.specs.Shape.{bad_length}
use Rattle.model.specs.Soundness.{sound}
use Rattle.model.specs.Values.{is_odd, is_null, is_code, untag}
use Rattle.model.specs.Window.{shown, window_word}
use Rattle.model.specs.Texts.{Spelled, whole, broken, writes}
use Rattle.model.specs.Words.{State, with_text, at}
use Rattle.theory.proofs.PlainAnswers.{no_zero}
use Rattle.theory.proofs.Tests.{cond-holds}

-- the refusal of a number
abbrev pub refusal_of : ℕ → Refusal
refusal_of n =
    cond (eqb n 1) Why.Shape
    (cond (eqb n 2) Why.Root (cond (eqb n 3) Why.Count (cond (eqb n 4) Why.Range (cond (eqb n 5) Why.Object
    (cond (eqb n 6) Why.Kind (cond (eqb n 7) Why.Field (cond (eqb n 8) Why.Damaged (cond (eqb n 9) Why.Room
    (cond (eqb n 10) Why.Value (cond (eqb n 11) Why.Deep Why.Text))))))))))

-- what the numbers of a call say, where it is not refused
abbrev pub own : Call → Told → Answer
own Ask.Collect t = Says.Live (record { live = t.value; objects = t.objects; addresses = t.addresses })
own Ask.Check t = cond (eqb t.value 1) Says.Sound Says.Unsound
own (Ask.Allocate k n r) t = Says.Done
own (Ask.SetInteger r v) t = Says.Done
own (Ask.SetNull r) t = Says.Done
own (Ask.SetCode r w) t = Says.Done
own (Ask.Copy from to) t = Says.Done
own (Ask.Load r f to) t = Says.Done
own (Ask.Store r f from) t = Says.Done
own (Ask.RawRead r f) t = Says.Number t.value
own (Ask.RawWrite r f x) t = Says.Done
own (Ask.Same r q) t = cond (eqb t.value 1) Says.Yes Says.No
own (Ask.Inspect r) t =
    cond (eqb t.holds 0) Says.Null (cond (eqb t.holds 1) (Says.Integer t.integer)
    (cond (eqb t.holds 4) (Says.Code t.value)
    (Says.Object (cond (eqb t.holds 2) Traced Untraced) t.value)))
own (Ask.Write r) t = Says.Written t.length
own (Ask.Read r) t = Says.Done

abbrev pub heard : Call → Told → Result Answer Refusal
heard c t = cond (eqb t.refusal 0) (Ok (own c t)) (Err (refusal_of t.refusal))

-- refusal and value are enough, but for collect, inspect and write
abbrev pub Simple : Call → Type 0
Simple c = (c ≡ Ask.Collect → ⊥) × ((r : ℕ) → c ≡ Ask.Inspect r → ⊥) × ((r : ℕ) → c ≡ Ask.Write r → ⊥)

pub plain_heard : (c : Call) → Simple c → (t : Told) → heard c t ≡ heard c (tells t.refusal 0 t.value)
plain_heard Ask.Collect n t = absurd (n.0 refl)
plain_heard Ask.Check n t = refl
plain_heard (Ask.Allocate k m r) n t = refl
plain_heard (Ask.SetInteger r v) n t = refl
plain_heard (Ask.SetNull r) n t = refl
plain_heard (Ask.SetCode r w) n t = refl
plain_heard (Ask.Copy from to) n t = refl
plain_heard (Ask.Load r f to) n t = refl
plain_heard (Ask.Store r f from) n t = refl
plain_heard (Ask.RawRead r f) n t = refl
plain_heard (Ask.RawWrite r f x) n t = refl
plain_heard (Ask.Same r q) n t = refl
plain_heard (Ask.Inspect r) n t = absurd (n.1 r refl)
plain_heard (Ask.Write r) n t = absurd (n.2 r refl)
plain_heard (Ask.Read r) n t = refl

-- a number is that of one refusal
numbered : (k : Refusal) → refusal_of (number k) ≡ k
numbered Why.Shape = refl
numbered Why.Root = refl
numbered Why.Count = refl
numbered Why.Range = refl
numbered Why.Object = refl
numbered Why.Kind = refl
numbered Why.Field = refl
numbered Why.Damaged = refl
numbered Why.Room = refl
numbered Why.Value = refl
numbered Why.Deep = refl
numbered Why.Text = refl

pub numbers_apart : (j k : Refusal) → number j ≡ number k → j ≡ k
numbers_apart j k e = sym (numbered j) ∙ ap refusal_of e ∙ numbered k

-- an answer of the call c is read back
data Back (c : Call) : Outcome State → Type 0 where
  back : {o : Outcome State} → heard c (told o.answer) ≡ o.answer → Back c o

-- an answer that is read back, whatever is left
says_back : (c : Call) (x : Answer) (t : State) → heard c (told (Ok x)) ≡ Ok x → Back c (says x t)
says_back c x t e = back {o = says x t} e

refused-back : (c : Call) (k : Refusal) → heard c (told (Err k)) ≡ Err k
refused-back c k =
    rw (ne_eqb (number k) 0 (no_zero k)) (ap Err (numbered k))

object-back : (r n : ℕ) (k : Kind) → heard (Ask.Inspect r) (told (Ok (Says.Object k n))) ≡ Ok (Says.Object k n)
object-back r n Traced = refl
object-back r n Untraced = refl

module _ (Y : Layout) (s : State) where
  refuse_back : (c : Call) (b : Bool) (k : Refusal) (t : State) (o : Outcome State) → Back c o → Back c (refuse b k t o)
  unfolding refuse
  refuse_back c b k t o h = cond-holds (Back c) b _ o (λ e. back (refused-back c k)) (λ e. h)

  on_roots_lem : (c : Call) (named : List ℕ) (o : Outcome State) → Back c o → Back c (on_roots named s o)
  on_roots_lem c named o h = refuse_back c _ Why.Shape s _ (refuse_back c _ Why.Root s o h)

  on_field_lem : (c : Call) (k : Kind) (r f : ℕ) (o : Outcome State) → Back c o → Back c (on_field Y k (root_word s r) f s o)
  on_field_lem c k r f o h = refuse_back c _ Why.Object s _ (refuse_back c _ Why.Kind s _ (refuse_back c _ Why.Field s o h))

  either : (c : Call) (b : Bool) (x y : Answer) → heard c (told (Ok x)) ≡ Ok x → heard c (told (Ok y)) ≡ Ok y → Back c (says (cond b x y) s)
  either c b x y e f = back (cond-holds (λ (a : Answer). heard c (told (Ok a)) ≡ Ok a) b x y (λ t. e) (λ t. f))

  -- a change that needs words, of a call that answers "done"
  room_back : (c : Call) (n : ℕ) (change : State → State) → heard c (told (Ok Says.Done)) ≡ Ok Says.Done → Back c (with_room Y n change s)
  room_back c n change e =
      cond-holds (Back c) (leb n (spare s)) _ _ (λ f. back e)
      (λ f. refuse_back c _ Why.Damaged s _ (refuse_back c _ Why.Room _ _ (back e)))

  reads-back : (r : ℕ) (x : Parsed) → Back (Ask.Read r) (reads Y r s x)
  reads-back r (tree t) = room_back (Ask.Read r) (tree_words t) (planted Y t r) refl
  reads-back r (Reading.broken k) = back (refused-back (Ask.Read r) k)

  writes-back : (r : ℕ) (x : Spelled) → Back (Ask.Write r) (writes (λ t. with_text t s) s s.text x)
  writes-back r (whole bs) = says_back (Ask.Write r) (Says.Written (length bs)) _ refl
  writes-back r (broken k) = back (refused-back (Ask.Write r) k)

  step_back : (c : Call) → Back c (step Y c s)
  unfolding step Calls.collect Calls.check Calls.allocate Calls.set_integer Calls.set_null Calls.set_code Calls.copy Calls.load
      Calls.store Calls.raw_read Calls.raw_write Calls.same Calls.inspect Calls.write Calls.read
  step_back Ask.Collect = on_roots_lem Ask.Collect [] _ (refuse_back Ask.Collect _ Why.Damaged s _ (back refl))
  step_back Ask.Check = on_roots_lem Ask.Check [] _ (either Ask.Check (sound Y s) Says.Sound Says.Unsound refl refl)
  step_back (Ask.Allocate k n r) =
      on_roots_lem (Ask.Allocate k n r) (r ∷ []) _
      (refuse_back (Ask.Allocate k n r) _ Why.Count s _ (room_back (Ask.Allocate k n r) (n + 1) (placed Y k n r) refl))
  step_back (Ask.Read r) = on_roots_lem (Ask.Read r) (r ∷ []) _ (reads-back r (parsed s.text))
  step_back (Ask.SetInteger r v) =
      on_roots_lem (Ask.SetInteger r v) (r ∷ []) _ (refuse_back (Ask.SetInteger r v) _ Why.Range s _ (back refl))
  step_back (Ask.SetNull r) = on_roots_lem (Ask.SetNull r) (r ∷ []) _ (back refl)
  step_back (Ask.SetCode r w) =
      on_roots_lem (Ask.SetCode r w) (r ∷ []) _ (refuse_back (Ask.SetCode r w) _ Why.Range s _ (back refl))
  step_back (Ask.Copy from to) = on_roots_lem (Ask.Copy from to) (from ∷ to ∷ []) _ (back refl)
  step_back (Ask.Load r f to) =
      on_roots_lem (Ask.Load r f to) (r ∷ to ∷ []) _ (on_field_lem (Ask.Load r f to) Traced r f _ (back refl))
  step_back (Ask.Store r f from) =
      on_roots_lem (Ask.Store r f from) (r ∷ from ∷ []) _ (on_field_lem (Ask.Store r f from) Traced r f _ (back refl))
  step_back (Ask.RawRead r f) =
      on_roots_lem (Ask.RawRead r f) (r ∷ []) _ (on_field_lem (Ask.RawRead r f) Untraced r f _
      (says_back (Ask.RawRead r f) (Says.Number (at s.heap (field_index (index Y (root_word s r)) f))) s refl))
  step_back (Ask.RawWrite r f x) =
      on_roots_lem (Ask.RawWrite r f x) (r ∷ []) _ (on_field_lem (Ask.RawWrite r f x) Untraced r f _ (back refl))
  step_back (Ask.Same r q) =
      on_roots_lem (Ask.Same r q) (r ∷ q ∷ []) _
      (either (Ask.Same r q) (eqb (root_word s r) (root_word s q)) Says.Yes Says.No refl refl)
  step_back (Ask.Inspect r) =
      on_roots_lem (Ask.Inspect r) (r ∷ []) _
      (cond-holds (Back (Ask.Inspect r)) (is_odd (root_word s r)) _ _
      (λ e. says_back (Ask.Inspect r) (Says.Integer (untag (root_word s r))) s refl) (λ e.
      cond-holds (Back (Ask.Inspect r)) (is_null (root_word s r)) _ _ (λ f. says_back (Ask.Inspect r) Says.Null s refl) (λ f.
      cond-holds (Back (Ask.Inspect r)) (is_code (root_word s r)) _ _
      (λ g. says_back (Ask.Inspect r) (Says.Code (root_word s r)) s refl) (λ g.
      refuse_back (Ask.Inspect r) _ Why.Object s _ (says_back (Ask.Inspect r) _ s (object-back r _ _))))))
  step_back (Ask.Write r) = on_roots_lem (Ask.Write r) (r ∷ []) _ (writes-back r (Calls.root_spelled Y r s))

  pub read_back : (c : Call) → heard c (told (step Y c s).answer) ≡ (step Y c s).answer
  read_back c = go (step Y c s) (step_back c)
    where
      go : (o : Outcome State) → Back c o → heard c (told o.answer) ≡ o.answer
      go o (back e) = e

-- fresh says "done" or SHAPE, as set null does; a window's word is a number or FIELD, as raw read's answer is
pub fresh-back : (s : State) → heard (Ask.SetNull 0) (told (fresh s).answer) ≡ (fresh s).answer
unfolding fresh refuse
fresh-back s =
    cond-holds (λ (o : Outcome State). heard (Ask.SetNull 0) (told o.answer) ≡ o.answer)
    (bad_length (length s.heap)) _ _
    (λ e. refl) (λ e. refl)

pub number_back : (b : Bool) (k : Refusal) (w : ℕ)
    → heard (Ask.RawRead 0 0) (told (cond b (Err k) (Ok (Says.Number w)))) ≡ cond b (Err k) (Ok (Says.Number w))
number_back true k w = refused-back (Ask.RawRead 0 0) k
number_back false k w = refl

word_back : (H : List ℕ) (p : Result Place Refusal) (f : ℕ) → heard (Ask.RawRead 0 0) (told (window_word H p f)) ≡ window_word H p f
unfolding window_word
word_back H p f = number_back (leb (length (shown H p)) f) Why.Field (at (shown H p) f)

-- what is read back from equal numbers is equal
apart : (c : Call) (a b : Result Answer Refusal) → heard c (told a) ≡ a → heard c (told b) ≡ b → told a ≡ told b → a ≡ b
apart c a b e f q = sym e ∙ ap (heard c) q ∙ f

-- of refusal and value alone, but for collect, inspect and write
pub apart_by_two : (c : Call) (a b : Result Answer Refusal) → Simple c → heard c (told a) ≡ a
    → heard c (told b) ≡ b
    → (told a).refusal ≡ (told b).refusal → (told a).value ≡ (told b).value → a ≡ b
apart_by_two c a b n e f q v =
    sym e ∙ plain_heard c n (told a) ∙ ap (λ k. heard c (tells k 0 (told a).value)) q
    ∙ ap (λ z. heard c (tells (told b).refusal 0 z)) v ∙ sym (plain_heard c n (told b)) ∙ f

pub told-apart : (Y : Layout) → Law.ToldApart (machine Y)
told-apart Y = record {
  session = λ c s s' e. apart c (step Y c s).answer (step Y c s').answer (read_back Y s c) (read_back Y s' c) e;
  fresh = λ s s' e. apart (Ask.SetNull 0) (fresh s).answer (fresh s').answer (fresh-back s) (fresh-back s') e;
  word = λ H H' p p' f f' e.
      apart (Ask.RawRead 0 0) (window_word H p f) (window_word H' p' f') (word_back H p f) (word_back H' p' f') e;
}
