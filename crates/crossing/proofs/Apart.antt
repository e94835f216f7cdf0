-- Answers and windows can be told apart in what C gets.
use Prim.Native.Nat.{ℕ, ◌+◌}
use native.Mathlib.Omega.{arith}
use mathlib.Core.Path.{◌≡◌, refl, sym, ap, ◌∙◌}
use mathlib.Core.Bool.{Bool, true, false, cond, ◌||◌}
use mathlib.Core.List.{List}
use lib.Dec.{leb, eqb}
use lib.IntN.{pos}
use lib.ListN.{length}
use Rattle.std.specs.Prelude.{Result, Ok, Err}
use Rattle.model.specs.declared.Refusal.{Refusal}
use Rattle.model.specs.declared.Refusal.TheVariants as Why
use Rattle.model.specs.declared.Answer.{Answer}
use Rattle.model.specs.declared.Call.{Call}
use Rattle.model.specs.declared.Call.TheVariants as Ask
use Rattle.model.specs.declared.Place.{Place}
use Rattle.model.specs.declared.Told.{Told}
use Rattle.model.specs.Words.{State, at}
use Rattle.model.specs.Headers.{Layout}
use Rattle.model.specs.Answers.{told}
use Rattle.model.specs.Window.{place}
use Rattle.model.specs.Calls.{fresh}
use Rattle.model.specs.Sessions.{step}
use Rattle.theory.proofs.PlainAnswers.{no_zero}
use Rattle.theory.proofs.Telling.{heard, numbers_apart, read_back, fresh-back, number_back, apart_by_two}
use Rattle.numbers.specs.Places.{holds_code}
use Rattle.crossing.specs.declared.CCollected.{CCollected}
use Rattle.crossing.specs.declared.CSeen.{CSeen}
use Rattle.crossing.specs.declared.CWritten.{CWritten}
use Rattle.crossing.specs.declared.CWindow.{CWindow}
use Rattle.crossing.specs.Numbers.{collected_of, seen_of, written_of, window_of, word_at}
use Rattle.crossing.specs.Laws as Law

null_simple : Law.Simple (Ask.SetNull 0)
null_simple = (
  λ e. let z : ◌≡◌ {A = ℕ} 0 1 = cc in omega arith,
  λ r e. let z : ◌≡◌ {A = ℕ} 0 1 = cc in omega arith,
  λ r e. let z : ◌≡◌ {A = ℕ} 0 1 = cc in omega arith,
)

read_simple : Law.Simple (Ask.RawRead 0 0)
read_simple = (
  λ e. let z : ◌≡◌ {A = ℕ} 0 1 = cc in omega arith,
  λ r e. let z : ◌≡◌ {A = ℕ} 0 1 = cc in omega arith,
  λ r e. let z : ◌≡◌ {A = ℕ} 0 1 = cc in omega arith,
)

-- by a struct of its own, from which the call's answer is heard as from all its numbers
by_struct : {Z : Type 0} (Y : Layout) (c : Call) (s s' : State) (struct : Told → Z) (hears : Z → Result Answer Refusal)
    → ((t : Told) → hears (struct t) ≡ heard c t)
    → struct (told (step Y c s).answer) ≡ struct (told (step Y c s').answer) → (step Y c s).answer ≡ (step Y c s').answer
by_struct Y c s s' struct hears same e =
    let a = (step Y c s).answer in
    let b = (step Y c s').answer in
    sym (read_back Y s c) ∙ sym (same (told a)) ∙ ap hears e ∙ same (told b) ∙ read_back Y s' c

-- the value of an inspect, from the place that it has
abbrev seen_value : CSeen → ℕ
seen_value z = cond (eqb z.kind holds_code) z.code z.count

seen_value_lem : (t : Told) → seen_value (seen_of t) ≡ t.value
seen_value_lem t = go (eqb t.holds holds_code)
  where
    go : (b : Bool) → cond b (cond b t.value 0) (cond b 0 t.value) ≡ t.value
    go true = refl
    go false = refl

-- what is heard, with 0 for each number that the struct does not have
abbrev seen_told : CSeen → ℕ → Told
seen_told z v = record {
  refusal = z.refusal;
  holds = z.kind;
  integer = z.integer;
  value = v;
  length = 0;
  objects = 0;
  addresses = 0;
}

abbrev written_told : CWritten → Told
written_told z = record {
  refusal = z.refusal;
  holds = 0;
  integer = pos 0;
  value = 0;
  length = z.length;
  objects = 0;
  addresses = 0;
}

abbrev collected_told : CCollected → Told
collected_told z = record {
  refusal = z.refusal;
  holds = 0;
  integer = pos 0;
  value = z.live;
  length = 0;
  objects = z.objects;
  addresses = z.addresses;
}

window-apart : (p p' : Result Place Refusal) → window_of p ≡ window_of p' → p ≡ p'
window-apart (Ok p) (Ok q) e =
    let a : p.header.0 + 1 ≡ q.header.0 + 1 = ap (λ w. w.first) e in
    let b : p.header.0 ≡ q.header.0 = omega arith in
    λ k. Ok (place (record { 0 = b k }) (ap (λ w. w.count) e k))
window-apart (Ok p) (Err k) e = absurd (no_zero k (sym (ap (λ w. w.refusal) e)))
window-apart (Err k) (Ok p) e = absurd (no_zero k (ap (λ w. w.refusal) e))
window-apart (Err j) (Err k) e = ap Err (numbers_apart j k (ap (λ w. w.refusal) e))

word_back : (H : List ℕ) (w : CWindow) (f : ℕ) → heard (Ask.RawRead 0 0) (told (word_at H w f)) ≡ word_at H w f
unfolding word_at
word_back H w f = number_back (leb w.count f || leb (length H) (w.first + f)) Why.Field (at H (w.first + f))

-- by refusal and value alone
by_two : (Y : Layout) (c : Call) (s s' : State) → Law.Simple c
    → (told (step Y c s).answer).refusal ≡ (told (step Y c s').answer).refusal
    → (told (step Y c s).answer).value ≡ (told (step Y c s').answer).value → (step Y c s).answer ≡ (step Y c s').answer
by_two Y c s s' n = apart_by_two c (step Y c s).answer (step Y c s').answer n (read_back Y s c) (read_back Y s' c)

pub answers-apart : (Y : Layout) → Law.AnswersApart Y
answers-apart Y = record {
  in_result = λ c s s' q q' n e. by_two Y c s s' n (ap (λ z. z.refusal) e) (ap (λ z. z.value) e);
  in_answer = λ c s s' n e. by_two Y c s s' n (ap (λ z. z.refusal) e) (ap (λ z. z.value) e);
  in_collected = λ s s' q q' e.
      by_struct Y Ask.Collect s s' (λ t. collected_of t q) (λ z. heard Ask.Collect (collected_told z)) (λ t. refl)
      (λ k. record {
        refusal = (e k).refusal;
        live = (e k).live;
        objects = (e k).objects;
        addresses = (e k).addresses;
        «record» = q;
      });
  in_seen = λ r s s' e.
      by_struct Y (Ask.Inspect r) s s' seen_of (λ z. heard (Ask.Inspect r) (seen_told z (seen_value z)))
      (λ t. ap (λ v. heard (Ask.Inspect r) (seen_told (seen_of t) v)) (seen_value_lem t)) e;
  in_written = λ r s s' e.
      by_struct Y (Ask.Write r) s s' written_of (λ z. heard (Ask.Write r) (written_told z)) (λ t. refl) e;
  in_fresh = λ s s' q q' e.
      apart_by_two (Ask.SetNull 0) (fresh s).answer (fresh s').answer null_simple (fresh-back s) (fresh-back s')
      (ap (λ z. z.refusal) e) (ap (λ z. z.value) e);
  in_word = λ H H' w w' f f' e.
      apart_by_two (Ask.RawRead 0 0) (word_at H w f) (word_at H' w' f') read_simple (word_back H w f) (word_back H' w' f')
      (ap (λ z. z.refusal) e) (ap (λ z. z.value) e);
  in_window = window-apart;
}
