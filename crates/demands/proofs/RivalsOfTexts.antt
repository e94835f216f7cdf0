-- Wrong machines that have to do with texts, and the sentence that each of them breaks.
use Prim.Native.Nat.{ℕ, ◌≤◌, ◌<◌}
use native.Mathlib.Omega.{arith}
use mathlib.Core.Path.{◌≡◌, refl, ap}
use mathlib.Core.Logic.{inl, inr, ⊎_elim}
use mathlib.Core.Bool.{cond, ◌&&◌}
use mathlib.Core.List.{List, [], ◌∷◌}
use lib.Dec.{eqb}
use lib.IntN.{pos}
use lib.ListN.{length, get_or, set, replicate}
use Rattle.std.specs.Prelude.{Ok}
use Rattle.model.specs.declared.Refusal.TheVariants as Why
use Rattle.model.specs.declared.Answer.TheVariants as Says
use Rattle.model.specs.declared.Call.TheVariants as Ask
use Rattle.model.specs.Answers.{says, number, told, refused}
use Rattle.model.specs.Calls as Calls
use Rattle.model.specs.Demand1 as D1
use Rattle.model.specs.Demand3 as D3
use Rattle.model.specs.Effects as E
use Rattle.model.specs.GraphCalls.{graph_step, graph_replies}
use Rattle.model.specs.Headers.{tuple}
use Rattle.model.specs.Refusals as Row
use Rattle.model.specs.Sessions.{Machine, Asked, Reply, alone}
use Rattle.model.specs.Shape.{bad_shape_of}
use Rattle.model.specs.TextCases.{holding, dots}
use Rattle.model.specs.TextFaults as T
use Rattle.model.specs.Texts.{max_depth, broken}
use Rattle.model.specs.Words.{State, with_text, at}
use Rattle.model.specs.Worked.{ran, p5_with}
use Rattle.demands.proofs.CallsPass.{same-answer}
use Rattle.demands.proofs.Conditions.{roots_decide}
use Rattle.theory.proofs.Deciding.{shape_decides}
use Rattle.demands.proofs.Demand1.{demand1}
use Rattle.theory.proofs.PlainAnswers.{plainly}
use Rattle.demands.proofs.Rivals.{changed, but_left, writes, is, three_words, no_room_lem}
use Rattle.theory.proofs.Shape.{Shaped, shaped}
use Rattle.demands.proofs.TextFaults.{one-text, pieces_text}
use Rattle.demands.proofs.TextJudged.{broken-row}

-- ---- demand 1

-- says TEXT before it looks at the value that stands where the bytes run out
abbrev pub text_first : Machine
text_first = changed (λ c s o. cond (is writes c && eqb (length s.text) 0) (refused Why.Text s) o)

-- a null root, and no bytes
abbrev null_root : State
null_root = holding [] 0

null-not-text : Row.FirstFault (T.Fault tuple null_root 0) Why.Text → ⊥
null-not-text f =
    ⊎_elim (λ (l : f.place < 0). omega arith) (λ (e : (f.place ≡ 0) × (9 ≤ 7)). let l = e.1 in omega arith)
    (f.first 0 Why.Value (T.value T.root (T.null refl)))

text-row : D1.First (Row.rows tuple (Ask.Write 0) null_root) Why.Text → Row.FirstFault (T.Fault tuple null_root 0) Why.Text
text-row (inl a) = let z : ◌≡◌ {A = ℕ} 0 1 = cc in absurd (omega arith)
text-row (inr (n, inl a)) = let z : ◌≡◌ {A = ℕ} 0 1 = cc in absurd (omega arith)
text-row (inr (n, inr (m, inl a))) = let z : ◌≡◌ {A = ℕ} 0 1 = cc in absurd (omega arith)
text-row (inr (n, inr (m, inr (o, inl a)))) = let z : ◌≡◌ {A = ℕ} 0 1 = cc in absurd (omega arith)
text-row (inr (n, inr (m, inr (o, inr (p, inl a))))) = let z : ◌≡◌ {A = ℕ} 0 1 = cc in absurd (omega arith)
text-row (inr (n, inr (m, inr (o, inr (p, inr (q, inl a)))))) = a.0
text-row (inr (n, inr (m, inr (o, inr (p, inr (q, inr a)))))) = absurd a.1

pub text-first_breaks_1 : D1.Demand1 tuple text_first → ⊥
text-first_breaks_1 d = null-not-text (text-row (((d.session (Ask.Write 0) null_root).exactly Why.Text).0 refl))

-- writes nothing where an object would be the 65th nested, and says that it has
abbrev pub never_deep : Machine
never_deep = changed (λ c s o. cond (is writes c && eqb (told o.answer).refusal (number Why.Deep)) (says (Says.Written 0) s) o)

-- P5's start, whose root 1 holds itself, and 400 bytes
abbrev self_held : State
self_held = with_text (dots 400) (p5_with 24 12)

self_shaped : Shaped self_held
unfolding bad_shape_of
self_shaped = shaped self_held refl

self_deep : Calls.root_spelled tuple 1 self_held ≡ broken Why.Deep
unfolding ran
self_deep = refl

deep-row : D1.First (Row.rows tuple (Ask.Write 1) self_held) Why.Deep
unfolding bad_shape_of
deep-row =
    inr ((shape_decides self_held).fails refl, inr ((roots_decide self_held (1 ∷ [])).fails refl, broken-row tuple self_held self_shaped 1 Why.Deep self_deep))

pub never_deep_breaks_1 : D1.Demand1 tuple never_deep → ⊥
unfolding ran
never_deep_breaks_1 d = plainly (Says.Written 0) Why.Deep (((d.session (Ask.Write 1) self_held).exactly Why.Deep).1 deep-row)

-- ---- what a write does

-- P5's start, whose root 0 is (), and five bytes
abbrev unit_root : State
unit_root = with_text (dots 5) (p5_with 24 12)

unit_passes : E.Passes tuple (Ask.Write 0) unit_root
unfolding ran
unit_passes = ((demand1 tuple).session (Ask.Write 0) unit_root).none.0 (plainly (Says.Written 2))

written_same : (m n : ℕ) → Says.Written m ≡ Says.Written n → m ≡ n
written_same m n e = cc

-- writes one byte past the text
abbrev pub one_past : Machine
one_past = changed (λ c s o. cond (is writes c) (but_left o (with_text (set o.left.text 2 33) o.left)) o)

pub one-past_breaks_write : E.Effects tuple one_past → ⊥
unfolding ran
one-past_breaks_write x =
    let w = x.write 0 unit_root unit_passes in
    let n : 2 ≡ length w.0 = written_same 2 (length w.0) (same-answer _ _ w.2) in
    let b : ◌≡◌ {A = ℕ} 33 46 = w.3.others 2 (omega arith) in
    omega arith

-- answers how many bytes it was lent
abbrev pub answers_room : Machine
answers_room = changed (λ c s o. cond (is writes c) (says (Says.Written (length s.text)) o.left) o)

unit_shaped : Shaped unit_root
unfolding bad_shape_of
unit_shaped = shaped unit_root refl

unit_text : T.HasText tuple unit_root max_depth 24 (40 ∷ 41 ∷ [])
unfolding ran
unit_text = pieces_text tuple unit_root unit_shaped max_depth 24 (40 ∷ 41 ∷ []) refl

pub answers-room_breaks_write : E.Effects tuple answers_room → ⊥
answers-room_breaks_write x =
    let w = x.write 0 unit_root unit_passes in
    let n : 5 ≡ length w.0 = written_same 5 (length w.0) (same-answer _ _ w.2) in
    let e = one-text tuple unit_root unit_shaped w.1 unit_text in
    let l = ap length e in
    omega arith

-- ---- demand 3

-- root 0 is set to 7 and written into one byte
abbrev seven_written : List Asked
seven_written = alone (Ask.SetInteger 0 (pos 7)) ∷ record { call = Ask.Write 0; text = 46 ∷ [] } ∷ []

abbrev second_byte : List Reply → ℕ
second_byte l = at (get_or l 1 (record { answer = Ok Says.Done; text = [] })).text 0

-- answers the length and leaves the bytes as they were
abbrev pub leaves_bytes : Machine
leaves_bytes = changed (λ c s o. but_left o (with_text s.text o.left))

pub leaves-bytes_breaks_3 : D3.Demand3 tuple leaves_bytes → ⊥
unfolding ran graph_replies graph_step
leaves-bytes_breaks_3 d =
    let b : ◌≡◌ {A = ℕ} 46 55 =
    ap second_byte (d.fresh_answers (three_words 0 1 (omega arith)) (three_words 0 1 (omega arith)) refl (omega arith) seven_written 2
    (no_room_lem (Ok Says.Done ∷ Ok (Says.Written 1) ∷ []) refl)).1 in
    omega arith

-- a call that is no write clears the bytes that it is lent
abbrev pub clears_bytes : Machine
clears_bytes = changed (λ c s o. cond (is writes c) o (but_left o (with_text (replicate (length s.text) 0) o.left)))

abbrev checked_lent : List Asked
checked_lent = alone Ask.Check ∷ record { call = Ask.Check; text = 46 ∷ [] } ∷ []

pub clears_bytes_breaks_3 : D3.Demand3 tuple clears_bytes → ⊥
unfolding ran graph_replies graph_step
clears_bytes_breaks_3 d =
    let b : ◌≡◌ {A = ℕ} 0 46 =
    ap second_byte (d.fresh_answers (three_words 0 1 (omega arith)) (three_words 0 1 (omega arith)) refl (omega arith) checked_lent 2
    (no_room_lem (Ok Says.Sound ∷ Ok Says.Sound ∷ []) refl)).1 in
    omega arith
