-- Wrong machines, and the demand that each of them breaks: no demand holds of everything.
use Prim.Native.Nat.{ℕ, zero, suc, ◌+◌, ◌-◌, ◌≤◌, ◌<◌}
use native.Mathlib.Omega.{arith}
use mathlib.Core.Path.{◌≡◌, refl, ap, ◌∙◌}
use mathlib.Core.Logic.{inl, inr, ⊎_elim}
use mathlib.Core.Bool.{Bool, true, false, not, cond}
use mathlib.Core.List.Memᴰ
use mathlib.Core.List.{List, [], ◌∷◌, ◌++◌, map, Memᴰ}
use mathlib.Core.Option.{Option, none, some}
use lib.Dec.{ltb, eqb}
use lib.ListN.{length, get_or, replicate}
use Rattle.std.specs.Prelude.{Result, Ok}
use Rattle.model.specs.declared.Half.TheVariants.{A}
use Rattle.model.specs.declared.Kind.TheVariants.{Traced}
use Rattle.model.specs.declared.Call.{Call}
use Rattle.model.specs.declared.Refusal.TheVariants as Why
use Rattle.model.specs.declared.Counts.{Counts}
use Rattle.model.specs.declared.Answer.{Answer}
use Rattle.model.specs.declared.Answer.TheVariants as Says
use Rattle.model.specs.declared.Call.TheVariants as Ask
use Rattle.model.specs.declared.Refusal.{Refusal}
use Rattle.model.specs.Limits.{max_roots}
use Rattle.model.specs.Calls as Calls
use Rattle.model.specs.Answers.{Outcome, says, refuse, told, refused}
use Rattle.model.specs.Calls.{fresh, fresh_record}
use Rattle.model.specs.Changes.{fits, placed}
use Rattle.model.specs.Collection.{addresses_in, cells, word_leads, cell_leads, order_at, order, live, addresses_among, counts}
use Rattle.model.specs.Collection.{rename, copied}
use Rattle.model.specs.Conditions.{Sound}
use Rattle.model.specs.Demand1 as D1
use Rattle.model.specs.Demand2 as D
use Rattle.model.specs.Demand3 as D3
use Rattle.model.specs.Discovery.{mem, visit, visits, packed, words_before, found}
use Rattle.model.specs.Graph.{total_words, graph_order, graph_counts}
use Rattle.model.specs.GraphCalls.{inspected, graph_step, graph_replies, graph_after}
use Rattle.model.specs.Headers.{tuple}
use Rattle.model.specs.Refusals as Row
use Rattle.model.specs.Sessions.{step, Machine, Reply, alone, replies, after}
use Rattle.model.specs.Shape.{bad_shape_of, bad_shape}
use Rattle.model.specs.Soundness.{all, tiles, headers_from, headers, is_value, fields_are_values, sound}
use Rattle.model.specs.Words.{State, state_of, half_words, first_of, first_word, free}
use Rattle.model.specs.Worked as Worked
use Rattle.demands.proofs.CallsPass.{same-answer}
use Rattle.demands.proofs.Conditions.{roots_decide}
use Rattle.theory.proofs.Deciding.{shape_decides, sound_decides}
use Rattle.theory.proofs.Shape.{Shaped, unshaped}
use Rattle.theory.proofs.Tests.{never, and_both}
use Rattle.theory.proofs.Values.{some_same}

-- a machine that changes what the library's comes to
abbrev pub changed : (Call → State → Outcome State → Outcome State) → Machine
changed f = record { fresh = fresh; step = λ c s. f c s (step tuple c s) }

-- the same answer, and something else left
abbrev pub but_left : Outcome State → State → Outcome State
but_left o s = record { answer = o.answer; left = s }

-- calls told apart by what a wrong machine does with them
pub data Sort : Type 0 where
  collects : Sort
  checks : Sort
  compares : Sort
  loads : Sort
  sets_code : Sort
  inspects : Sort
  writes : Sort
  reads : Sort
  others : Sort

abbrev pub sort : Call → Sort
sort Ask.Collect = collects
sort Ask.Check = checks
sort (Ask.Same r q) = compares
sort (Ask.Load r f to) = loads
sort (Ask.Allocate k n r) = others
sort (Ask.SetInteger r v) = others
sort (Ask.SetNull r) = others
sort (Ask.Copy from to) = others
sort (Ask.Store r f from) = others
sort (Ask.RawRead r f) = others
sort (Ask.RawWrite r f x) = others
sort (Ask.SetCode r w) = sets_code
sort (Ask.Inspect r) = inspects
sort (Ask.Write r) = writes
sort (Ask.Read r) = reads

abbrev number : Sort → ℕ
number collects = 0
number checks = 1
number compares = 2
number loads = 3
number sets_code = 4
number inspects = 5
number writes = 6
number reads = 7
number others = 8

abbrev pub is : Sort → Call → Bool
is k c = eqb (number (sort c)) (number k)

abbrev pub is_refusal : Result Answer Refusal → Bool
is_refusal a = ltb 0 (told a).refusal

-- ---- demand 1

-- refuses everything
abbrev pub refuses_all : Machine
refuses_all = changed (λ c s o. refused Why.Shape s)

check-refused : (s : State) → bad_shape s ≡ false → D1.First (Row.rows tuple Ask.Check s) Why.Shape → ⊥
check-refused s e (inl a) = (shape_decides s).fails e a.0
check-refused s e (inr (n, inl a)) = (roots_decide s []).fails refl a.0
check-refused s e (inr (n, inr a)) = a.1

pub refuses_all_breaks_1 : D1.Demand1 tuple refuses_all → ⊥
unfolding bad_shape_of
refuses_all_breaks_1 d = check-refused Worked.one_null refl (((d.session Ask.Check Worked.one_null).exactly Why.Shape).0 refl)

-- takes no half beyond sixteen bits, as version three
abbrev pub sixteen_bits : Machine
sixteen_bits = changed (λ c s o. refuse (ltb 65535 (half_words s.heap)) Why.Shape s o)

-- on any words with halves of 65,536
pub sixteen_bits_breaks_1 : (heap : List ℕ) → D3.Halves heap 65536 → D1.Demand1 tuple sixteen_bits → ⊥
unfolding refuse
sixteen_bits_breaks_1 heap v d =
    let s = Worked.state A 1 heap [] in
    let half : half_words heap ≡ 65536 = omega (arith, v.length-is) in
    let h : Shaped (Worked.state A 1 heap []) =
    record {
      odd = omega (arith, v.length-is);
      pos = omega arith;
      small = omega arith;
      few = omega arith;
      low = omega arith;
      high = omega arith;
    } in
    check-refused (Worked.state A 1 heap []) (unshaped (Worked.state A 1 heap []) h)
    (((d.session Ask.Check (Worked.state A 1 heap [])).exactly Why.Shape).0 (rw half))

-- ---- demand 2

-- P5's heap, and one with a root that names a, whose fields name b and c, and b's field d
abbrev pub p5 : State
p5 = Worked.state A 7 Worked.p5 (24 ∷ 12 ∷ [])

pub p5-sound : Sound tuple p5
unfolding tuple sound bad_shape_of tiles headers_from is_value fields_are_values mem
p5-sound = (sound_decides tuple p5).holds refl

abbrev four : State
four = Worked.state A 9 (0 ∷ 4 ∷ 16 ∷ 24 ∷ 2 ∷ 32 ∷ 2 ∷ 1 ∷ 0 ∷ replicate 8 0) (4 ∷ [])

four_sound : Sound tuple four
unfolding tuple sound bad_shape_of tiles headers_from is_value fields_are_values mem
four_sound = (sound_decides tuple four).holds refl

-- answers other numbers to every collection, made of the state and of the right ones
abbrev pub miscounts : (State → Counts → Counts) → Machine
miscounts f = changed (λ c s o. cond (is collects c) (says (Says.Live (f s (counts tuple s))) o.left) o)

-- a made-up L, one too many
abbrev pub made_up : Machine
made_up = miscounts (λ s n. record { live = n.live + 1; objects = n.objects; addresses = n.addresses })

pub made_up_breaks_2 : D.Demand2 tuple made_up → ⊥
unfolding tuple counts live order_at found visits visit mem packed word_leads
made_up_breaks_2 d =
    let z = d p5 p5-sound in
    let a : 5 ≡ z.counts.live = ap (λ x. (told x).value) z.answers in
    let b : z.counts.live ≡ 4 = z.leaves.live (order tuple p5) z.leaves.lists in
    omega arith

-- moves nothing
abbrev pub moves_nothing : Machine
moves_nothing = changed (λ c s o. but_left o s)

pub moves_nothing_breaks_2 : D.Demand2 tuple moves_nothing → ⊥
moves_nothing_breaks_2 d =
    let z : ◌≡◌ {A = ℕ} 1 2 = ap (λ h. first_of 1 h) (d p5 p5-sound).leaves.other_half in
    omega arith

-- goes depth-first: an object's fields before the objects met beside it
unfoldable pub deep : ℕ → State → List ℕ → List (Option ℕ) → List ℕ
deep zero s o ls = o
deep (suc n) s o [] = o
deep (suc n) s o (none ∷ ls) = deep n s o ls
deep (suc n) s o (some i ∷ ls) =
    cond (mem i o) (deep n s o ls) (deep n s (o ++ (i ∷ [])) (map (cell_leads tuple) (cells tuple s.heap i) ++ ls))

abbrev pub depth_first : Machine
depth_first = changed (λ c s o. but_left o (copied tuple (deep 20 s [] (map (word_leads tuple) s.roots)) s))

pub depth-first_breaks_2 : D.Demand2 tuple depth_first → ⊥
unfolding tuple deep copied rename headers_from order_at found visits visit mem packed words_before word_leads
depth-first_breaks_2 d =
    let z : ◌≡◌ {A = ℕ} 15 16 = ap (λ l. get_or l 3 0) (d four four_sound).leaves.copies in
    omega arith

-- ---- demand 3

-- its fresh keeps the words
abbrev pub keeps_words : Machine
keeps_words =
    record {
      fresh = λ s. says Says.Done (state_of s.heap s.roots fresh_record);
      step = step tuple;
    }

-- three words, any record, and n null roots
abbrev pub three_words : (w n : ℕ) → n ≤ max_roots → D3.Session
three_words w n few = record {
  heap = replicate 3 w;
  S = 1;
  halves = record { length-is = refl; least = omega arith; most = omega arith };
  null_roots = n;
  few = few;
  «record» = fresh_record;
}

pub keeps-words_breaks_3 : D3.Demand3 tuple keeps_words → ⊥
unfolding replies step Calls.collect refuse sound bad_shape_of
keeps-words_breaks_3 d = d.fresh_never_damaged (three_words 7 0 (omega arith)) (alone Ask.Collect ∷ []) (Memᴰ.head refl)

-- answers each of which is something else than "no room"
pub no_room_lem : (l : List (Result Answer Refusal)) → all (λ a. not (D3.is_no_room a)) l ≡ true → Memᴰ D3.no_room l → ⊥
no_room_lem [] e m = Memᴰ.not-nil m
no_room_lem (a ∷ l) e m =
    let t = and_both (not (D3.is_no_room a)) (all (λ x. not (D3.is_no_room x)) l) e in
    ⊎_elim (λ (q : D3.no_room ≡ a). never (ap (λ x. not (D3.is_no_room x)) q ∙ t.0) refl) (λ x. no_room_lem l t.1 x)
    (Memᴰ.cases_cons m)

-- answers "done" to everything
abbrev pub constant : Machine
constant = changed (λ c s o. says Says.Done s)

done-null : Says.Done ≡ Says.Null → ⊥
done-null e = let z : ◌≡◌ {A = ℕ} 0 1 = cc in omega arith

pub constant_breaks_3 : D3.Demand3 tuple constant → ⊥
unfolding replies graph_replies graph_step refuse inspected
constant_breaks_3 d =
    done-null (same-answer Says.Done Says.Null (ap (λ (l : List Reply). (get_or l 0 (record { answer = Ok Says.Done; text = [] })).answer)
    (d.fresh_answers (three_words 0 1 (omega arith)) (three_words 0 1 (omega arith)) refl (omega arith) (alone (Ask.Inspect 0) ∷ []) 1
    (no_room_lem (Ok Says.Done ∷ []) refl)).1))

-- what a collection would count if every object were reachable
abbrev pub all_used : State → Counts
all_used s = record {
  live = free s - first_word s;
  objects = length (headers tuple s);
  addresses = addresses_in s.roots + addresses_among tuple s.heap (headers tuple s);
}

-- collects once, from half A, and pretends later: in half B it says that every object is live, and an allocation that does
-- not fit is "no room"
abbrev in_b : State → Bool
in_b s = eqb (first_of 1 s.«record».half) 2

unfoldable pub pretends : Call → State → Outcome State → Outcome State
pretends Ask.Collect s o = says (Says.Live (all_used s)) s
pretends (Ask.Allocate k n r) s o = cond (fits (n + 1) s) o (refused Why.Room s)
pretends Ask.Check s o = o
pretends (Ask.SetInteger r v) s o = o
pretends (Ask.SetNull r) s o = o
pretends (Ask.SetCode r w) s o = o
pretends (Ask.Copy from to) s o = o
pretends (Ask.Load r f to) s o = o
pretends (Ask.Store r f from) s o = o
pretends (Ask.RawRead r f) s o = o
pretends (Ask.RawWrite r f x) s o = o
pretends (Ask.Same r q) s o = o
pretends (Ask.Inspect r) s o = o
pretends (Ask.Write r) s o = o
pretends (Ask.Read r) s o = o

abbrev pub only_once : Machine
only_once = changed (λ c s o. cond (in_b s) (pretends c s o) o)

pub only-once_breaks_3 : D3.Demand3 tuple only_once → ⊥
unfolding pretends step fresh replies after graph_step graph_after D3.carried_out graph_counts graph_order total_words refuse inspected
    Calls.collect Calls.allocate Calls.set_null tuple sound bad_shape_of tiles headers_from is_value fields_are_values mem visit visits packed
    words_before found word_leads order_at live rename copied placed
only-once_breaks_3 d =
    let calls = map alone (Ask.Allocate Traced 0 0 ∷ Ask.Collect ∷ Ask.SetNull 0 ∷ []) in
    let x = (d.fresh_room (three_words 0 1 (omega arith)) calls (alone (Ask.Allocate Traced 0 0))).0 refl in
    let w : 1 ≡ x.words = some_same 1 x.words x.needs in
    let e : 1 < 0 + x.words = x.exceed in
    omega arith
