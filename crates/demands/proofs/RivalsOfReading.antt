-- Wrong machines that have to do with reading a text, and the statement that each of them breaks.
use Prim.Native.Nat.{ℕ, ◌+◌, ◌*◌}
use native.Mathlib.Omega.{arith}
use mathlib.Core.Path.{◌≡◌, refl, sym, ap, ◌∙◌}
use mathlib.Core.Bool.{cond, ◌&&◌}
use mathlib.Core.List.{List, [], ◌∷◌}
use lib.Dec.{eqb}
use lib.IntN.{pos}
use lib.ListN.{length, replicate, set}
use Rattle.std.specs.Prelude.{Ok, Err}
use Rattle.model.specs.declared.Refusal.{Refusal}
use Rattle.model.specs.declared.Refusal.TheVariants as Why
use Rattle.model.specs.declared.Answer.TheVariants as Says
use Rattle.model.specs.declared.Call.{Call}
use Rattle.model.specs.declared.Call.TheVariants as Ask
use Rattle.model.specs.Answers.{says, number, told, refused}
use Rattle.model.specs.Conditions as C
use Rattle.model.specs.Demand1 as D1
use Rattle.model.specs.Effects as E
use Rattle.model.specs.Headers.{tuple}
use Rattle.model.specs.ReadFaults.{IsText}
use Rattle.model.specs.Sessions.{step, Machine}
use Rattle.model.specs.Shape.{bad_shape_of}
use Rattle.model.specs.TextCases.{holding}
use Rattle.model.specs.TextLaws.{RoundTrip, AcceptsExactly}
use Rattle.model.specs.Trees.{end, leaf_then, node_then, Tree, leaf, node}
use Rattle.model.specs.Words.{State, with_heap, with_roots, with_text, at}
use Rattle.model.specs.Worked.{ran, p5_with}
use Rattle.theory.proofs.Deciding.{shape_decides}
use Rattle.demands.proofs.Demand1.{demand1}
use Rattle.theory.proofs.PlainAnswers.{refused-same, plainly}
use Rattle.theory.proofs.ReadJudged.{parsed-text}
use Rattle.demands.proofs.Rivals.{changed, but_left, reads, is}
use Rattle.demands.proofs.TextsWritable.{accepts_exactly}

-- S = 8, half A empty, one null root; and a text
abbrev lent : List ℕ → State
lent t = with_text t (holding [] 0)

-- ---- demand 1

-- a machine that meets it refuses what this one does
refuses_too : (M : Machine) → D1.Demand1 tuple M → (c : Call) (s : State) (k : Refusal) → (step tuple c s).answer ≡ Err k
    → (M.step c s).answer ≡ Err k
refuses_too M d c s k e = ((d.session c s).exactly k).1 ((((demand1 tuple).session c s).exactly k).0 e)

-- says "done" to a text and a blank
abbrev pub ignores_tail : Machine
ignores_tail = changed (λ c s o. cond (is reads c && eqb (at s.text 1) 32) (says Says.Done s) o)

pub ignores_tail_breaks_1 : D1.Demand1 tuple ignores_tail → ⊥
unfolding ran
ignores_tail_breaks_1 d = plainly Says.Done Why.Value (refuses_too ignores_tail d (Ask.Read 0) (lent (55 ∷ 32 ∷ [])) Why.Value refl)

-- counts what is open before it looks at the bytes
abbrev pub deep_first : Machine
deep_first = changed (λ c s o. cond (is reads c && eqb (length s.text) 66) (refused Why.Deep s) o)

pub deep-first_breaks_1 : D1.Demand1 tuple deep_first → ⊥
unfolding ran
deep-first_breaks_1 d =
    let e = refused-same Why.Deep Why.Value (refuses_too deep_first d (Ask.Read 0) (lent (32 ∷ replicate 65 40)) Why.Value refl) in
    let n : ◌≡◌ {A = ℕ} 11 10 = ap number e in
    omega arith

-- ---- what a read does

read_done : (to : ℕ) (s : State) → (step tuple (Ask.Read to) s).answer ≡ Ok Says.Done → E.Passes tuple (Ask.Read to) s
read_done to s a = ((demand1 tuple).session (Ask.Read to) s).none.0 (λ k e. plainly Says.Done k (sym a ∙ e))

seven_passes : E.Passes tuple (Ask.Read 0) (lent (55 ∷ []))
unfolding ran
seven_passes = read_done 0 (lent (55 ∷ [])) refl

seven_text : IsText (55 ∷ []) (leaf (pos 7))
unfolding ran
seven_text = parsed-text (55 ∷ []) (leaf (pos 7)) refl

-- puts 0 into the root, whatever it reads
abbrev pub reads_zero : Machine
reads_zero = changed (λ c s o. cond (is reads c) (but_left o (with_roots (1 ∷ []) o.left)) o)

pub reads-zero_breaks_read : E.Effects tuple reads_zero → ⊥
unfolding ran
reads-zero_breaks_read x =
    let r = x.read_now 0 (lent (55 ∷ [])) (leaf (pos 7)) seven_passes seven_text (omega arith) in
    let w : ◌≡◌ {A = ℕ} 1 15 = r.1.planted.0 in
    omega arith

-- ((),()) and its tree
abbrev two_units : List ℕ
two_units = 40 ∷ 40 ∷ 41 ∷ 44 ∷ 40 ∷ 41 ∷ 41 ∷ []

abbrev two_units_tree : Tree
two_units_tree = node (node_then end (node_then end end))

units_passes : E.Passes tuple (Ask.Read 0) (lent two_units)
unfolding ran
units_passes = read_done 0 (lent two_units) refl

units_text : IsText two_units two_units_tree
unfolding ran
units_text = parsed-text two_units two_units_tree refl

-- equal tuples share one object
abbrev pub shares_tuples : Machine
shares_tuples = changed (λ c s o. cond (is reads c) (but_left o (with_heap (set o.left.heap 3 (at o.left.heap 2)) o.left)) o)

pub shares_tuples_breaks_read : E.Effects tuple shares_tuples → ⊥
unfolding ran
shares_tuples_breaks_read x =
    let r = x.read_now 0 (lent two_units) two_units_tree units_passes units_text (omega arith) in
    let l = r.1.planted.2 in
    let c : l.2.0 ≡ 5 = l.2.1 in
    let w : 16 ≡ 4 * (l.2.0 + 0) = l.2.2.0 in
    omega arith

-- ---- the round trip

pub reads-zero_breaks_round_trip : RoundTrip reads_zero → ⊥
unfolding ran
reads-zero_breaks_round_trip x =
    let w = x 0 (lent (55 ∷ [])) (46 ∷ []) refl (omega arith) in
    let b : ◌≡◌ {A = ℕ} 48 55 = w.1.bytes 0 (omega arith) in
    omega arith

-- says "done", and leaves the root as it was
abbrev pub leaves_root : Machine
leaves_root = changed (λ c s o. cond (is reads c) (but_left o s) o)

pub leaves-root_breaks_round_trip : RoundTrip leaves_root → ⊥
unfolding ran
leaves-root_breaks_round_trip x =
    let w = x 0 (lent (55 ∷ [])) (46 ∷ []) refl (omega arith) in
    plainly (Says.Written 1) Why.Value (sym w.0)

-- ---- what a read does after a collection

-- P5's start, where (1,2) does not fit before the collection
abbrev crowded : State
crowded = with_text (40 ∷ 49 ∷ 44 ∷ 50 ∷ 41 ∷ []) (p5_with 24 12)

abbrev pair_tree : Tree
pair_tree = node (leaf_then (pos 1) (leaf_then (pos 2) end))

pair_passes : E.Passes tuple (Ask.Read 1) crowded
unfolding ran
pair_passes = read_done 1 crowded refl

pair-text : IsText crowded.text pair_tree
unfolding ran
pair-text = parsed-text crowded.text pair_tree refl

-- what root 1 held is dead where a text is read into it
abbrev pub old_value_dead : Machine
old_value_dead = changed (λ c s o. cond (is reads c) (step tuple c (with_roots (set s.roots 1 0) s)) o)

pub old_value_dead_breaks_read : E.Effects tuple old_value_dead → ⊥
unfolding ran
old_value_dead_breaks_read x =
    let r = x.read_then 1 crowded pair_tree pair_passes pair-text (omega arith) in
    let w : ◌≡◌ {A = ℕ} 40 52 = r.1.planted.0 in
    omega arith

pub leaves-root_breaks_read : E.Effects tuple leaves_root → ⊥
unfolding ran
leaves-root_breaks_read x =
    let r = x.read_then 1 crowded pair_tree pair_passes pair-text (omega arith) in
    let w : ◌≡◌ {A = ℕ} 12 52 = r.1.planted.0 in
    omega arith

-- ---- the texts that are taken

not-bad : (t : List ℕ) → C.BadShape (lent t) → ⊥
unfolding bad_shape_of
not-bad t = (shape_decides (lent t)).fails refl

-- takes what it cannot read for a text
abbrev pub accepts_all : Machine
accepts_all = changed (λ c s o. cond (is reads c && eqb (told o.answer).refusal (number Why.Value)) (says Says.Done s) o)

-- ~0
pub accepts_all_breaks_exactly : AcceptsExactly accepts_all → ⊥
unfolding ran
accepts_all_breaks_exactly x =
    let s = lent (126 ∷ 48 ∷ []) in
    let w = (x 0 s (not-bad (126 ∷ 48 ∷ [])) (omega arith)).0 (plainly Says.Done Why.Value, plainly Says.Done Why.Deep) in
    ((accepts_exactly 0 s (not-bad (126 ∷ 48 ∷ [])) (omega arith)).1 w).0 refl

-- has no text for the tuple of no fields
abbrev pub refuses_unit : Machine
refuses_unit = changed (λ c s o. cond (is reads c && eqb (at s.text 1) 41) (refused Why.Value s) o)

pub refuses_unit_breaks_exactly : AcceptsExactly refuses_unit → ⊥
unfolding ran
refuses_unit_breaks_exactly x =
    let s = lent (40 ∷ 41 ∷ []) in
    let w = (accepts_exactly 0 s (not-bad (40 ∷ 41 ∷ [])) (omega arith)).0 (plainly Says.Done Why.Value, plainly Says.Done Why.Deep) in
    ((x 0 s (not-bad (40 ∷ 41 ∷ [])) (omega arith)).1 w).0 refl
