-- Wrong machines and layouts that take code words for something else, and the sentence that each of them breaks.
use Prim.Native.Nat.{ℕ, ◌+◌, ◌*◌}
use native.Mathlib.Omega.{arith}
use mathlib.Core.Path.{◌≡◌, refl, ◌∙◌}
use mathlib.Core.Logic.{inl, inr}
use mathlib.Core.Bool.{true, false, cond, ◌&&◌}
use mathlib.Core.List.{List, [], ◌∷◌, map}
use lib.Dec.{eqb}
use lib.ListN.{length, replicate}
use Rattle.std.specs.Prelude.{Ok, Result}
use Rattle.model.specs.declared.Half.TheVariants.{A}
use Rattle.model.specs.declared.Call.TheVariants as Ask
use Rattle.model.specs.declared.Refusal.{Refusal}
use Rattle.model.specs.declared.Refusal.TheVariants as Why
use Rattle.model.specs.declared.Answer.{Answer}
use Rattle.model.specs.declared.Answer.TheVariants as Says
use Rattle.model.specs.Answers.{says, refuse, told, refused}
use Rattle.model.specs.Calls as Calls
use Rattle.model.specs.Changes.{with_root}
use Rattle.model.specs.Collection.{copied, rename, word_leads, order_at}
use Rattle.model.specs.Conditions.{Sound}
use Rattle.model.specs.Demand1 as D1
use Rattle.model.specs.Demand2 as D
use Rattle.model.specs.Discovery.{mem, visit, visits, packed, words_before, found}
use Rattle.model.specs.Effects as E
use Rattle.model.specs.Headers.{Layout, tuple}
use Rattle.model.specs.Laws.{NoObjectIsCode}
use Rattle.model.specs.Limits.{code_floor}
use Rattle.model.specs.Refusals as Row
use Rattle.model.specs.Sessions.{step, Machine}
use Rattle.model.specs.Shape.{bad_shape_of}
use Rattle.model.specs.Soundness.{tiles, headers_from, is_value, fields_are_values, sound}
use Rattle.model.specs.Values.{is_code}
use Rattle.model.specs.Words.{State, with_roots, half_words}
use Rattle.model.specs.Worked as Worked
use Rattle.demands.proofs.CallsPass.{same-answer}
use Rattle.demands.proofs.Conditions.{roots_decide, code_decides}
use Rattle.theory.proofs.Deciding.{shape_decides, sound_decides}
use Rattle.theory.proofs.PlainAnswers.{plainly}
use Rattle.demands.proofs.Rivals.{changed, but_left, is, collects, sets_code, inspects}
use Rattle.theory.proofs.Shape.{Shaped, unshaped}
use Rattle.theory.proofs.Tests.{never}

-- an empty heap of one word a half, and a root that holds w
abbrev holding : ℕ → State
holding w = Worked.state A 1 (replicate 3 0) (w ∷ [])

-- ---- demand 1

-- inspect gives OBJECT for a code word, as before document 02
abbrev pub refuses_code : Machine
refuses_code = changed (λ c s o. cond (is inspects c && eqb (told o.answer).holds 4) (refused Why.Object s) o)

floor_refused : D1.First (Row.rows tuple (Ask.Inspect 0) (holding code_floor)) Why.Object → ⊥
unfolding bad_shape_of
floor_refused (inl a) = (shape_decides (holding code_floor)).fails refl a.0
floor_refused (inr (n, inl a)) = (roots_decide (holding code_floor) (0 ∷ [])).fails refl a.0
floor_refused (inr (n, inr (m, inl a))) = let l = a.0.below_floor in omega arith
floor_refused (inr (n, inr (m, inr a))) = a.1

pub refuses_code_breaks_1 : D1.Demand1 tuple refuses_code → ⊥
unfolding step refuse Calls.inspect bad_shape_of
refuses_code_breaks_1 d = floor_refused (((d.session (Ask.Inspect 0) (holding code_floor)).exactly Why.Object).0 refl)

-- set code takes any word that a root is there for: odd ones, and those below the floor
abbrev pub takes_any_word : Machine
takes_any_word = changed (λ c s o. cond (is sets_code c && eqb (told o.answer).refusal 4) (says Says.Done s) o)

takes : (w : ℕ) → is_code w ≡ false → D1.Demand1 tuple takes_any_word → ⊥
unfolding step refuse Calls.set_code bad_shape_of
takes w e d =
    plainly Says.Done Why.Range (said ∙ ((d.session (Ask.SetCode 0 w) (holding 0)).exactly Why.Range).1
    (inr (
      (shape_decides (holding 0)).fails refl,
      inr (
        (roots_decide (holding 0) (0 ∷ [])).fails refl,
        inl ((code_decides w).holds (rw e), refl),
      ),
    )))
  where
    said : Ok Says.Done ≡ (takes_any_word.step (Ask.SetCode 0 w) (holding 0)).answer
    said = rw e

pub takes_odd_breaks_1 : D1.Demand1 tuple takes_any_word → ⊥
takes_odd_breaks_1 = takes 16777217 refl

pub takes_below_the_floor_breaks_1 : D1.Demand1 tuple takes_any_word → ⊥
takes_below_the_floor_breaks_1 = takes 16777214 refl

-- ---- demand 2

holding-sound : Sound tuple (holding code_floor)
unfolding tuple sound bad_shape_of tiles headers_from is_value fields_are_values mem
holding-sound = (sound_decides tuple (holding code_floor)).holds refl

-- a collection makes something else of the code words in roots
abbrev collects_to : (State → ℕ → ℕ) → Machine
collects_to f = changed (λ c s o. cond (is collects c)
    (but_left o (with_roots (map (λ w. cond (is_code w) (f s w) w) o.left.roots) o.left)) o)

collects_to_lem : (f : State → ℕ → ℕ) → (f (holding code_floor) code_floor ≡ code_floor → ⊥) → D.Demand2 tuple (collects_to f) → ⊥
unfolding tuple step refuse Calls.collect sound bad_shape_of tiles headers_from is_value fields_are_values mem
    copied rename order_at found visits visit packed words_before word_leads
collects_to_lem f n d = n (((d (holding code_floor) holding-sound).leaves.root 0 (omega arith)).code refl)

-- it takes them for addresses of nothing, and leaves null; or moves them by a half as if they were addresses
abbrev pub forgets_code : Machine
forgets_code = collects_to (λ s w. 0)

pub forgets_code_breaks_2 : D.Demand2 tuple forgets_code → ⊥
forgets_code_breaks_2 = collects_to_lem (λ s w. 0) (λ e. omega arith)

abbrev pub moves_code : Machine
moves_code = collects_to (λ s w. w + 4 * half_words s.heap)

pub moves-code_breaks_2 : D.Demand2 tuple moves_code → ⊥
moves-code_breaks_2 = collects_to_lem (λ s w. w + 4 * half_words s.heap) (λ e. omega arith)

-- ---- effects

set_passes : (w : ℕ) → is_code w ≡ true → E.Passes tuple (Ask.SetCode 0 w) (holding 0)
unfolding bad_shape_of
set_passes w e =
    ((shape_decides (holding 0)).fails refl, ((roots_decide (holding 0) (0 ∷ [])).fails refl, ((code_decides w).fails (rw e), tt)))

-- set code sets the root to something else
abbrev sets_to : ℕ → Machine
sets_to v = changed (λ c s o. cond (is sets_code c && eqb (told o.answer).refusal 0) (says Says.Done (with_root s 0 v)) o)

sets_to_lem : (v : ℕ) → (v ≡ 16777218 → ⊥) → E.Effects tuple (sets_to v) → ⊥
unfolding step refuse Calls.set_code bad_shape_of
sets_to_lem v n e = n (e.set_code 0 16777218 (holding 0) (set_passes 16777218 refl)).1.word

-- the floor, whatever the word; or null
abbrev pub sets_floor : Machine
sets_floor = sets_to code_floor

pub sets_floor_breaks_set_code : E.Effects tuple sets_floor → ⊥
sets_floor_breaks_set_code = sets_to_lem code_floor (λ e. omega arith)

abbrev pub sets_null : Machine
sets_null = sets_to 0

pub sets-null_breaks_set_code : E.Effects tuple sets_null → ⊥
sets-null_breaks_set_code = sets_to_lem 0 (λ e. omega arith)

inspect_passes : E.Passes tuple (Ask.Inspect 0) (holding code_floor)
unfolding bad_shape_of
inspect_passes = (
  (shape_decides (holding code_floor)).fails refl,
  ((roots_decide (holding code_floor) (0 ∷ [])).fails refl, ((λ v. let l = v.below_floor in omega arith), tt)),
)

-- inspect says something else of a code word
abbrev says_of_code : Result Answer Refusal → Machine
says_of_code a = changed (λ c s o. cond (is inspects c && eqb (told o.answer).holds 4) (record { answer = a; left = s }) o)

says_of_code_lem : (a : Result Answer Refusal) → (a ≡ Ok (Says.Code code_floor) → ⊥) → E.Effects tuple (says_of_code a) → ⊥
unfolding step refuse Calls.inspect bad_shape_of
says_of_code_lem a n e = n (e.inspect_code 0 (holding code_floor) inspect_passes refl (omega arith))

-- null; or a code word, and not which
abbrev pub says_null : Machine
says_null = says_of_code (Ok Says.Null)

pub says_null_breaks_inspect_code : E.Effects tuple says_null → ⊥
says_null_breaks_inspect_code = says_of_code_lem (Ok Says.Null) (λ e.
    let f = same-answer Says.Null (Says.Code code_floor) e in
    let z : ◌≡◌ {A = ℕ} 0 1 = cc in omega arith)

abbrev pub says_not_which : Machine
says_not_which = says_of_code (Ok (Says.Code 0))

pub says_not_which_breaks_inspect_code : E.Effects tuple says_not_which → ⊥
says_not_which_breaks_inspect_code = says_of_code_lem (Ok (Says.Code 0)) (λ e.
    let f = same-answer (Says.Code 0) (Says.Code code_floor) e in
    let z : 0 ≡ code_floor = cc in omega arith)

-- ---- layouts

-- an address is that of a word so far past the header
abbrev pub far : ℕ → Layout
far n = record {
  header = tuple.header;
  is_header = tuple.is_header;
  kind_of = tuple.kind_of;
  count_of = tuple.count_of;
  ahead = n;
  mark = tuple.mark;
  unmark = tuple.unmark;
}

-- so far that every object's address is a code word
pub far_breaks_no_object-is-code : NoObjectIsCode (far 4194304) → ⊥
unfolding bad_shape_of
far_breaks_no_object-is-code l =
    never refl (l (holding 0) ((shape_decides (holding 0)).fails refl) 1 (omega arith))

-- or just so far that one is: that of the last word of a largest heap
pub just_too_far_breaks_no_object-is-code : (heap : List ℕ) → length heap ≡ 2097153 → NoObjectIsCode (far 2097152) → ⊥
just_too_far_breaks_no_object-is-code heap e l =
    let s = Worked.state A 1 heap [] in
    let h : Shaped (Worked.state A 1 heap []) =
    record {
      odd = omega arith;
      pos = omega arith;
      small = omega arith;
      few = omega arith;
      low = omega arith;
      high = omega arith;
    } in
    never refl (l s ((shape_decides s).fails (unshaped s h)) 2097152 (omega arith))
