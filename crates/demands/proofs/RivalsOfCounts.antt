-- Wrong machines that keep what they should and count it wrongly, and the sentence that each of them breaks.
use Prim.Native.Nat.{ℕ, ◌*◌}
use native.Mathlib.Omega.{arith}
use mathlib.Core.Path.{◌≡◌, refl, ap, ◌∙◌}
use mathlib.Core.List.{List, [], ◌∷◌, map}
use lib.ListN.{get_or, replicate}
use Rattle.std.specs.Prelude.{Result, Ok}
use Rattle.model.specs.declared.Half.TheVariants.{A}
use Rattle.model.specs.declared.Kind.TheVariants.{Traced}
use Rattle.model.specs.declared.Counts.{Counts}
use Rattle.model.specs.declared.Answer.{Answer}
use Rattle.model.specs.declared.Answer.TheVariants as Says
use Rattle.model.specs.declared.Call.TheVariants as Ask
use Rattle.model.specs.declared.Refusal.{Refusal}
use Rattle.model.specs.Answers.{told}
use Rattle.model.specs.Calls.{fresh_record}
use Rattle.model.specs.Collection.{order, addresses_among, counts}
use Rattle.model.specs.Demand2 as D
use Rattle.model.specs.Demand3 as D3
use Rattle.model.specs.Graph.{total_words, graph_order, objects_in, objects_among, graph_counts}
use Rattle.model.specs.GraphCalls.{on_object, graph_step, graph_replies}
use Rattle.model.specs.Headers.{tuple}
use Rattle.model.specs.Sessions.{Machine, Asked, Reply, alone}
use Rattle.model.specs.Words.{State}
use Rattle.model.specs.Worked as Worked
use Rattle.model.specs.Worked.{ran}
use Rattle.demands.proofs.CallsPass.{same-answer}
use Rattle.demands.proofs.Rivals.{miscounts, p5, p5-sound, no_room_lem, all_used}

-- ---- the machines: L and one of the other two numbers are right

abbrev in_objects : (State → Counts → ℕ) → State → Counts → Counts
in_objects f s n = record { live = n.live; objects = f s n; addresses = n.addresses }

abbrev in_addresses : (State → Counts → ℕ) → State → Counts → Counts
in_addresses f s n = record { live = n.live; objects = n.objects; addresses = f s n }

-- counts each object twice
abbrev twice : State → Counts → ℕ
twice s n = 2 * n.objects

abbrev pub counts_objects_twice : Machine
counts_objects_twice = miscounts (in_objects twice)

-- counts an object as often as it is met
abbrev met : State → Counts → ℕ
met s n = n.addresses

abbrev pub counts_meetings : Machine
counts_meetings = miscounts (in_objects met)

-- counts every header of the used part, garbage too
abbrev headers_used : State → Counts → ℕ
headers_used s n = (all_used s).objects

abbrev pub counts_headers : Machine
counts_headers = miscounts (in_objects headers_used)

-- counts an address only where it is met first, and copies
abbrev copies : State → Counts → ℕ
copies s n = n.objects

abbrev pub counts_copies_only : Machine
counts_copies_only = miscounts (in_addresses copies)

-- counts the addresses in fields and forgets those in roots
abbrev in_fields : State → Counts → ℕ
in_fields s n = addresses_among tuple s.heap (order tuple s)

abbrev pub forgets_roots : Machine
forgets_roots = miscounts (in_addresses in_fields)

-- counts the addresses in the fields of garbage too
abbrev addresses_used : State → Counts → ℕ
addresses_used s n = (all_used s).addresses

abbrev pub counts_garbage : Machine
counts_garbage = miscounts (in_addresses addresses_used)

-- ---- demand 2: P5 has two reachable objects, two addresses in the roots and one in a field

objects-at-p5 : (f : State → Counts → ℕ) → D.Demand2 tuple (miscounts (in_objects f)) → f p5 (counts tuple p5) ≡ 2
unfolding ran
objects-at-p5 f d =
    let z = d p5 p5-sound in
    ap (λ a. (told a).objects) z.answers ∙ z.leaves.objects (order tuple p5) z.leaves.lists

addresses-at-p5 : (f : State → Counts → ℕ) → D.Demand2 tuple (miscounts (in_addresses f)) → f p5 (counts tuple p5) ≡ 3
unfolding ran
addresses-at-p5 f d =
    let z = d p5 p5-sound in
    ap (λ a. (told a).addresses) z.answers ∙ z.leaves.addresses (order tuple p5) z.leaves.lists

pub counts-objects-twice_breaks_2 : D.Demand2 tuple counts_objects_twice → ⊥
unfolding ran
counts-objects-twice_breaks_2 d = let e : ◌≡◌ {A = ℕ} 4 2 = objects-at-p5 twice d in omega arith

pub counts_meetings_breaks_2 : D.Demand2 tuple counts_meetings → ⊥
unfolding ran
counts_meetings_breaks_2 d = let e : ◌≡◌ {A = ℕ} 3 2 = objects-at-p5 met d in omega arith

pub counts-copies-only_breaks_2 : D.Demand2 tuple counts_copies_only → ⊥
unfolding ran
counts-copies-only_breaks_2 d = let e : ◌≡◌ {A = ℕ} 2 3 = addresses-at-p5 copies d in omega arith

pub forgets_roots_breaks_2 : D.Demand2 tuple forgets_roots → ⊥
unfolding ran
forgets_roots_breaks_2 d = let e : ◌≡◌ {A = ℕ} 1 3 = addresses-at-p5 in_fields d in omega arith

-- ---- demand 3: one object with one field, its own address; root 0 holds it, or has let it go, and then it is collected

-- five words, and a null root
abbrev five_words : D3.Session
five_words = record {
  heap = replicate 5 0;
  S = 2;
  halves = record { length-is = refl; least = omega arith; most = omega arith };
  null_roots = 1;
  few = omega arith;
  «record» = fresh_record;
}

abbrev held : List Asked
held = map alone (Ask.Allocate Traced 1 0 ∷ Ask.Store 0 0 0 ∷ Ask.Collect ∷ [])

abbrev dropped : List Asked
dropped = map alone (Ask.Allocate Traced 1 0 ∷ Ask.Store 0 0 0 ∷ Ask.SetNull 0 ∷ Ask.Collect ∷ [])

-- the state of that collection: root 0 holds w
abbrev before : ℕ → State
before w = Worked.state A 3 (0 ∷ 2 ∷ 4 ∷ 0 ∷ 0 ∷ []) (w ∷ [])

-- the answer of reply k
abbrev reply : ℕ → List Reply → Result Answer Refusal
reply k l = (get_or l k (record { answer = Ok Says.Done; text = [] })).answer

module _ (f : State → Counts → Counts) (d : D3.Demand3 tuple (miscounts f)) where
  -- the graph counts one object, and its address twice; or nothing
  held-answers : Says.Live (f (before 4) (counts tuple (before 4))) ≡ Says.Live (record { live = 2; objects = 1; addresses = 2 })
  unfolding ran graph_replies graph_step on_object graph_counts graph_order total_words objects_in objects_among
  held-answers =
      same-answer _ _ (ap (reply 2) (d.fresh_answers five_words five_words refl (omega arith) held 3
      (no_room_lem (Ok Says.Done ∷ Ok Says.Done ∷ Ok (Says.Live _) ∷ []) refl)).1)

  dropped_answers : Says.Live (f (before 0) (counts tuple (before 0))) ≡ Says.Live (record { live = 0; objects = 0; addresses = 0 })
  unfolding ran graph_replies graph_step on_object graph_counts graph_order total_words objects_in objects_among
  dropped_answers =
      same-answer _ _ (ap (reply 3) (d.fresh_answers five_words five_words refl (omega arith) dropped 4
      (no_room_lem (Ok Says.Done ∷ Ok Says.Done ∷ Ok Says.Done ∷ Ok (Says.Live _) ∷ []) refl)).1)

pub counts-objects-twice_breaks_3 : D3.Demand3 tuple counts_objects_twice → ⊥
unfolding ran
counts-objects-twice_breaks_3 d =
    let e : ◌≡◌ {A = ℕ} 2 1 = ap (λ a. (told (Ok a)).objects) (held-answers (in_objects twice) d) in omega arith

pub counts-headers_breaks_3 : D3.Demand3 tuple counts_headers → ⊥
unfolding ran
counts-headers_breaks_3 d =
    let e : ◌≡◌ {A = ℕ} 1 0 = ap (λ a. (told (Ok a)).objects) (dropped_answers (in_objects headers_used) d) in omega arith

pub forgets_roots_breaks_3 : D3.Demand3 tuple forgets_roots → ⊥
unfolding ran
forgets_roots_breaks_3 d =
    let e : ◌≡◌ {A = ℕ} 1 2 = ap (λ a. (told (Ok a)).addresses) (held-answers (in_addresses in_fields) d) in omega arith

pub counts_garbage_breaks_3 : D3.Demand3 tuple counts_garbage → ⊥
unfolding ran
counts_garbage_breaks_3 d =
    let e : ◌≡◌ {A = ℕ} 1 0 = ap (λ a. (told (Ok a)).addresses) (dropped_answers (in_addresses addresses_used) d) in omega arith
