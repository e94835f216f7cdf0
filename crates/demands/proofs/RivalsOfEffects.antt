-- Wrong machines that meet the demands' older sentences, and the field of Effects, or the law of the record, that each breaks.
use Prim.Native.Nat.{ℕ, ◌+◌}
use native.Mathlib.Omega.{arith}
use mathlib.Core.Path.{◌≡◌, refl, ap}
use mathlib.Core.Bool.{false, cond, not, ◌||◌, ◌&&◌}
use mathlib.Core.List.{[], ◌∷◌}
use lib.ListN.{length, replicate}
use Rattle.model.specs.declared.Half.TheVariants.{A, B}
use Rattle.model.specs.declared.Call.TheVariants as Ask
use Rattle.model.specs.declared.Refusal.TheVariants as Why
use Rattle.model.specs.declared.Answer.TheVariants as Says
use Rattle.model.specs.Answers.{says, refuse}
use Rattle.model.specs.Calls as Calls
use Rattle.model.specs.Collection.{copied, collected}
use Rattle.model.specs.Conditions as C
use Rattle.model.specs.Discovery.{mem}
use Rattle.model.specs.Effects as E
use Rattle.model.specs.Headers.{tuple}
use Rattle.model.specs.Laws.{RecordStays}
use Rattle.model.specs.Sessions.{step, Machine}
use Rattle.model.specs.Shape.{bad_length, bad_shape_of, bad_shape}
use Rattle.model.specs.Soundness.{tiles, headers_from, is_value, fields_are_values, sound}
use Rattle.model.specs.Words.{State, state_of, with_heap, with_record, with_free, half_words, first_of, free}
use Rattle.model.specs.Worked as Worked
use Rattle.demands.proofs.CallsPass.{same-answer}
use Rattle.demands.proofs.Conditions.{roots_decide}
use Rattle.theory.proofs.Deciding.{length_decides, shape_decides}
use Rattle.demands.proofs.Rivals.{changed, but_left, collects, checks, is, is_refusal, p5}

-- a heap of good shape, in which nothing refuses a check
check_passes : (s : State) → bad_shape s ≡ false → E.Passes tuple Ask.Check s
check_passes s e = ((shape_decides s).fails e, ((roots_decide s []).fails refl, tt))

-- ---- restless: it collects once more after every call that is not refused and is no collect

abbrev pub restless : Machine
restless = changed (λ c s o. cond (is collects c || is_refusal o.answer) o (but_left o (collected tuple o.left)))

pub restless_breaks_check_leaves : E.Effects tuple restless → ⊥
unfolding tuple step refuse Calls.check bad_shape_of sound tiles headers_from is_value fields_are_values mem copied
restless_breaks_check_leaves e =
    let z : ◌≡◌ {A = ℕ} 2 1 = ap (λ t. first_of 1 t.«record».half) (e.check_leaves p5 (check_passes p5 refl)) in
    omega arith

pub restless_breaks_record_stays : RecordStays restless → ⊥
unfolding tuple step refuse Calls.check bad_shape_of sound tiles headers_from is_value fields_are_values mem copied
restless_breaks_record_stays e =
    let z : ◌≡◌ {A = ℕ} 2 1 = ap (λ q. first_of 1 q.half) (e Ask.Check p5 refl) in
    omega arith

-- ---- forgetful: where it refuses, it leaves the record of an empty heap

abbrev pub forgetful : Machine
forgetful = changed (λ c s o. cond (is_refusal o.answer) (but_left o (with_record Calls.fresh_record o.left)) o)

pub forgetful_breaks_record_stays : RecordStays forgetful → ⊥
unfolding tuple step refuse Calls.set_null bad_shape_of
forgetful_breaks_record_stays e =
    let z : ◌≡◌ {A = ℕ} 1 (free p5) = ap (λ q. q.free.0) (e (Ask.SetNull (length p5.roots)) p5 refl) in
    omega arith

-- ---- careless: on a heap that is not sound it answers "sound" and clears all words and roots

abbrev pub careless : Machine
careless = changed (λ c s o. cond (sound tuple s || is_refusal o.answer) o
    (says Says.Sound (state_of (replicate (length s.heap) 0) (replicate (length s.roots) 0) s.«record»)))

-- word 0 is w, all else is as it should be
abbrev pub word0 : ℕ → State
word0 w = Worked.state A 1 (w ∷ 0 ∷ 0 ∷ []) []

abbrev seven : State
seven = word0 7

seven_unsound : C.Sound tuple seven → ⊥
seven_unsound h = let z : ◌≡◌ {A = ℕ} 7 0 = h.reserved in omega arith

pub careless_breaks_check_sound : E.Effects tuple careless → ⊥
unfolding tuple step refuse Calls.check bad_shape_of sound
careless_breaks_check_sound e = seven_unsound ((e.check_sound seven (check_passes seven refl)).0 refl)

-- ---- always sound: its check says "sound" to every heap of good shape

abbrev pub always_sound : Machine
always_sound = changed (λ c s o. cond (is checks c && not (is_refusal o.answer)) (says Says.Sound s) o)

pub always_sound_breaks_check_sound : E.Effects tuple always_sound → ⊥
unfolding tuple step refuse Calls.check bad_shape_of sound
always_sound_breaks_check_sound e = seven_unsound ((e.check_sound seven (check_passes seven refl)).0 refl)

-- ---- fresh leaves half B

abbrev pub fresh_in_b : Machine
fresh_in_b = record {
  fresh = λ s. refuse (bad_length (length s.heap)) Why.Shape s
      (says Says.Done (with_free B (half_words s.heap + 1) (with_heap (replicate (length s.heap) 0) s)));
  step = step tuple;
}

pub fresh_in_b_breaks_fresh : E.Effects tuple fresh_in_b → ⊥
unfolding refuse
fresh_in_b_breaks_fresh e =
    let z : ◌≡◌ {A = ℕ} 2 1 = ap (λ h. first_of 1 h) (e.fresh seven ((length_decides seven).fails refl)).1.half_a in
    omega arith

-- ---- fresh answers "no"

abbrev pub fresh_says_no : Machine
fresh_says_no = record {
  fresh = λ s. refuse (bad_length (length s.heap)) Why.Shape s
      (says Says.No (with_record Calls.fresh_record (with_heap (replicate (length s.heap) 0) s)));
  step = step tuple;
}

no_done : Says.No ≡ Says.Done → ⊥
no_done e = let z : ◌≡◌ {A = ℕ} 0 1 = cc in omega arith

pub fresh_says_no_breaks_fresh : E.Effects tuple fresh_says_no → ⊥
unfolding refuse
fresh_says_no_breaks_fresh e = no_done (same-answer Says.No Says.Done (e.fresh seven ((length_decides seven).fails refl)).0)
