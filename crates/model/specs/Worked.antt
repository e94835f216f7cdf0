-- The worked heaps of document 01, P1 to P10 and the Fresh cases: one table and one statement, computed by
-- the checker. A case is a run of session calls, with its answers in the paper's numbers. CodeWords, TextCases,
-- Counting, Repeating, Unnamed, Unsound and EachCall have further tables of cases, and Edges has the limits. The programs
-- `cases` and `text_cases` run every case of these tables but those of Repeating and Edges.
use Rattle.std.specs.Prelude.{ℕ, ◌+◌, ◌*◌, ◌≡◌, refl, List, [], ◌∷◌, ◌++◌, map, set, replicate, ℤ, pos, negsuc, Ok}
use Rattle.model.specs.declared.Half.{Half}
use Rattle.model.specs.declared.Half.TheVariants.{A, B}
use Rattle.model.specs.declared.Kind.TheVariants.{Traced, Untraced}
use Rattle.model.specs.declared.Call.{Call}
use Rattle.model.specs.declared.Answer.TheVariants as Says
use Rattle.model.specs.declared.Call.TheVariants as Ask
use Rattle.model.specs.declared.Told.{Told}
use Rattle.model.specs.Words.{State, state_of, with_free}
use Rattle.model.specs.Values.{untag}
use Rattle.model.specs.Headers.{tuple}
use Rattle.model.specs.Shape.{bad_shape_of}
use Rattle.model.specs.Objects.{names}
use Rattle.model.specs.Discovery.{mem, visit, visits, packed, words_before, found}
use Rattle.model.specs.Soundness.{tiles, headers_from, is_value, fields_are_values, sound}
use Rattle.model.specs.Collection.{addresses_in, word_leads, order_at, live, addresses_among, counts, rename, copied}
use Rattle.model.specs.Answers.{Outcome, refuse, tells, tells_integer, told}
use Rattle.model.specs.Changes.{placed, laid, planted}
use Rattle.model.specs.Calls.{fresh, fresh_record, check, collect, allocate, set_integer, set_null, set_code, copy, load, store}
use Rattle.model.specs.Calls.{raw_read, raw_write, same, inspect, word_form, write, read}
use Rattle.model.specs.Texts.{digits_to, joined, enclosed, tuple_pieces, spelled}
use Rattle.model.specs.Trees.{count, forest_words}
use Rattle.model.specs.Reading.{parsed_from}
use Rattle.model.specs.Sessions.{step, machine, Asked, alone, replies, answers, after}

-- ---- cases, and what it is that they run as they say

-- a start and a list of calls with the bytes lent to each; the answers in numbers, these bytes afterwards, and what is left
pub record Case : Type 0 where
  pub start : State
  pub calls : List Asked
  pub answered : List Told
  pub texts : List (List ℕ)
  pub left : State

-- calls that are lent no bytes
abbrev pub case : State → List Call → List Told → State → Case
case s cs a e = record { start = s; calls = map alone cs; answered = a; texts = map (λ c. []) cs; left = e }

-- one call; and calls that change nothing
abbrev pub one : State → Call → Told → State → Case
one s c a e = case s (c ∷ []) (a ∷ []) e

abbrev pub unchanged : State → List Call → List Told → Case
unchanged s cs a = case s cs a s

-- the answers and what is left, as they should be and as they come
pub record Ending : Type 0 where
  pub answered : List Told
  pub texts : List (List ℕ)
  pub left : State

abbrev pub expected : Case → Ending
expected c = record { answered = c.answered; texts = c.texts; left = c.left }

-- whoever unfolds it unfolds all that a call computes with
unfoldable pub ran : Case → Ending
unfolding tuple untag bad_shape_of names mem visit visits packed words_before found
    tiles headers_from is_value fields_are_values sound addresses_in word_leads order_at live addresses_among counts rename
    copied refuse placed fresh check collect allocate set_integer set_null set_code copy load store raw_read raw_write same inspect
    word_form digits_to joined enclosed tuple_pieces spelled write parsed_from count forest_words laid planted read step replies after
ran c = record {
  answered = map told (answers (machine tuple) c.calls c.start);
  texts = map (λ r. r.text) (replies (machine tuple) c.calls c.start);
  left = after (machine tuple) c.calls c.start;
}

-- ---- the words that cases are written in

-- "done", refusal k, and an answer with the value v: a raw word, or 1 for sound and for yes
abbrev pub done : Told
done = tells 0 0 0

abbrev pub refused : ℕ → Told
refused k = tells k 0 0

abbrev pub gives : ℕ → Told
gives v = tells 0 0 v

-- collect: live words, live objects, addresses met
abbrev pub counted : ℕ → ℕ → ℕ → Told
counted l n a = record { refusal = 0; holds = 0; integer = pos 0; value = l; length = 0; objects = n; addresses = a }

-- inspect: null, the integer v, a traced or an untraced object with n fields, the code word w
abbrev pub holds_null : Told
holds_null = tells 0 0 0

abbrev pub holds_integer : ℤ → Told
holds_integer v = tells_integer v

abbrev pub holds_traced : ℕ → Told
holds_traced n = tells 0 2 n

abbrev pub holds_untraced : ℕ → Told
holds_untraced n = tells 0 3 n

abbrev pub holds_code : ℕ → Told
holds_code w = tells 0 4 w

-- half A or B, the free index, the heap's words and the roots
abbrev pub state : Half → ℕ → List ℕ → List ℕ → State
state h f H R = with_free h f (state_of H R fresh_record)

-- four bytes in a word, low byte first
abbrev pub bytes : ℕ → ℕ → ℕ → ℕ → ℕ
bytes a b c d = a + 256 * b + 65_536 * c + 16_777_216 * d

-- ---- P1 to P10 and Fresh

-- S = 8: all words 0; P5's start; and what its collection leaves
abbrev pub blank : List ℕ
blank = replicate 17 0

abbrev pub p5 : List ℕ
p5 = 0 ∷ 2 ∷ 1 ∷ 4 ∷ 12 ∷ 21 ∷ 0 ∷ replicate 10 0

abbrev pub p5' : List ℕ
p5' = replicate 9 0 ++ 0 ∷ 4 ∷ 40 ∷ 21 ∷ replicate 4 0

-- an empty heap with one root
abbrev pub empty : ℕ → State
empty w = state A 1 blank (w ∷ [])

abbrev pub one_null : State
one_null = empty 0

-- P5's start with the roots v and w
abbrev pub p5_with : ℕ → ℕ → State
p5_with v w = state A 7 p5 (v ∷ w ∷ [])

-- fresh on words that are no heap, and one null root; and what it leaves
abbrev pub begun : Outcome State
begun = fresh (state B 12 (replicate 17 7) (0 ∷ []))

abbrev pub freshly : State
freshly = begun.left

-- an integer is set into root 0, whose word is then w, and inspected there
abbrev pub integer : ℤ → ℕ → Case
integer v w = case one_null (Ask.SetInteger 0 v ∷ Ask.Inspect 0 ∷ []) (done ∷ holds_integer v ∷ []) (empty w)

abbrev pub cases : List Case
cases =
    -- P1: 10, 0 and -1
    integer (pos 10) 21
    ∷ integer (pos 0) 1
    ∷ integer (negsuc 0) 0xffffffff
    -- P2: the largest, the smallest, and one too many
    ∷ integer (pos 1_073_741_823) 0x7fffffff
    ∷ integer (negsuc 1_073_741_823) 0x80000001
    ∷ one one_null (Ask.SetInteger 0 (pos 1_073_741_824)) (refused 4) one_null
    -- P3: the tuple (23, 42)
    ∷ case (state A 1 blank (0 ∷ 0 ∷ []))
    (Ask.Allocate Traced 2 0 ∷ Ask.SetInteger 1 (pos 23) ∷ Ask.Store 0 0 1
    ∷ Ask.SetInteger 1 (pos 42) ∷ Ask.Store 0 1 1 ∷ [])
    (replicate 5 done)
    (state A 4 (0 ∷ 4 ∷ 47 ∷ 85 ∷ replicate 13 0) (4 ∷ 85 ∷ []))
    -- P4: "hello" and its zero byte, collected and read back
    ∷ case one_null
    (Ask.Allocate Untraced 2 0 ∷ Ask.RawWrite 0 0 (bytes 104 101 108 108) ∷ Ask.RawWrite 0 1 (bytes 111 0 0 0)
    ∷ Ask.Collect ∷ Ask.RawRead 0 0 ∷ Ask.Inspect 0 ∷ [])
    (done ∷ done ∷ done ∷ counted 3 1 1 ∷ gives 0x6c6c6568 ∷ holds_untraced 2 ∷ [])
    (state B 12 (replicate 9 0 ++ 0x80000004 ∷ 0x6c6c6568 ∷ 0x0000006f ∷ replicate 5 0) (36 ∷ []))
    -- its second word looks like a code word: a root that held it would hold one
    ∷ case (empty 0x6c6c6568) (Ask.Inspect 0 ∷ Ask.Collect ∷ []) (holds_code 0x6c6c6568 ∷ counted 0 0 0 ∷ [])
    (state B 9 blank (0x6c6c6568 ∷ []))
    -- P5, P6, P7, P8
    ∷ one (p5_with 24 12) Ask.Collect (counted 4 2 3) (state B 13 p5' (36 ∷ 40 ∷ []))
    ∷ one (p5_with 24 12) (Ask.Allocate Traced 3 1) done (state B 17 (set p5' 13 6) (36 ∷ 52 ∷ []))
    ∷ one (p5_with 24 12) (Ask.Allocate Traced 4 1) (refused 9) (state B 13 p5' (36 ∷ 40 ∷ []))
    ∷ one (p5_with 12 12) Ask.Collect (counted 3 1 3)
    (state B 12 (replicate 9 0 ++ 4 ∷ 36 ∷ 21 ∷ replicate 5 0) (36 ∷ 36 ∷ []))
    -- P9: 14 and 16 name no object
    ∷ unchanged (p5_with 14 12) (Ask.Collect ∷ Ask.Inspect 0 ∷ []) (refused 8 ∷ refused 5 ∷ [])
    ∷ unchanged (p5_with 16 12) (Ask.Collect ∷ Ask.Inspect 0 ∷ []) (refused 8 ∷ refused 5 ∷ [])
    -- P10: no roots
    ∷ one (state A 7 p5 []) Ask.Collect (counted 0 0 0) (state B 9 blank [])
    -- Fresh: n = 7 fits; 8 and the largest n are ROOM; one more is COUNT
    ∷ one freshly (Ask.Allocate Traced 7 0) done (state A 9 (set blank 1 14) (4 ∷ []))
    ∷ one freshly (Ask.Allocate Traced 8 0) (refused 9) (state B 9 blank (0 ∷ []))
    ∷ one freshly (Ask.Allocate Traced 1_073_741_823 0) (refused 9) (state B 9 blank (0 ∷ []))
    ∷ one freshly (Ask.Allocate Traced 1_073_741_824 0) (refused 3) one_null
    ∷ []

pub worked : map ran cases ≡ map expected cases
unfolding ran
worked = refl

-- fresh's answer by its case: the numbers of "done" are those of "no" too
pub fresh_says : begun.answer ≡ Ok Says.Done
unfolding ran
fresh_says = refl
