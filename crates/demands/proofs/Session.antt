-- A session in a heap and in the graph that it stands for, call by call and for lists of calls.
use Prim.Native.Nat.{ℕ, zero, suc, ◌+◌, ◌≤◌, ◌<◌}
use native.Mathlib.Omega.{arith}
use mathlib.Core.Path.{◌≡◌, refl, sym, ap, ◌∙◌}
use mathlib.Core.Logic.{◌⊎◌, inr, ⊎_elim}
use mathlib.Core.Bool.{true, false}
use mathlib.Core.Option.{some}
use mathlib.Core.List.Memᴰ
use mathlib.Core.List.{List, [], ◌∷◌, Memᴰ}
use lib.Dec.{eqb}
use lib.ListN.{length, take}
use Rattle.std.specs.Prelude.{Result, Ok, Err}
use Rattle.model.specs.declared.Kind.TheVariants.{Traced, Untraced}
use Rattle.model.specs.declared.Refusal.{Refusal}
use Rattle.model.specs.declared.Answer.{Answer}
use Rattle.model.specs.declared.Call.{Call}
use Rattle.model.specs.declared.Refusal.TheVariants as Why
use Rattle.model.specs.declared.Answer.TheVariants as Says
use Rattle.model.specs.declared.Call.TheVariants as Ask
use Rattle.model.specs.Answers.{number}
use Rattle.model.specs.Changes.{placed, planted}
use Rattle.model.specs.Reading.{Parsed, tree, broken, parsed}
use Rattle.model.specs.Trees.{tree_words}
use Rattle.model.specs.Demand3 as D3
use Rattle.model.specs.Graph.{Graph, graph_counts}
use Rattle.model.specs.GraphCalls.{graph_step, graph_with_text, graph_asked, graph_replies, graph_after}
use Rattle.model.specs.Headers.{Layout, WritesBoth, Adjacent}
use Rattle.model.specs.Sessions.{step, machine, Asked, Reply, asked, replies, answers, after}
use Rattle.model.specs.Answers.{Outcome}
use Rattle.model.specs.Words.{State, with_text, half_words_of, half_words}
use Rattle.demands.proofs.CallAllocate.{allocate-is, allocation_legal, allocate_agrees}
use Rattle.demands.proofs.CallRead.{read-tree, read_legal, read_agrees}
use Rattle.demands.proofs.Room.{roomed_exactly, Full}
use Rattle.theory.proofs.PlainAnswers.{refused-same, plainly}
use Rattle.demands.proofs.CallCollect.{live_same, collect_agrees}
use Rattle.demands.proofs.CallsOnFields.{load_agrees, store_agrees, raw_read_agrees, raw_write_agrees}
use Rattle.demands.proofs.GraphAnswers.{graph_refuses, graph-room}
use Rattle.demands.proofs.GraphLeaving.{of_graph}
use Rattle.demands.proofs.Lengths.{step_lengths}
use Rattle.model.specs.Represents.{Represents}
use Rattle.demands.proofs.Represents.{parts, Agrees, text_represents}
use Rattle.demands.proofs.CallsOnRoots.{check_agrees, set_integer_agrees, set_null_agrees, set_code_agrees, copy_agrees, same_agrees}
use Rattle.demands.proofs.CallsOnRoots.{inspect_agrees}
use Rattle.demands.proofs.CallWrite.{write_agrees}
use Rattle.theory.proofs.Tests.{by_test, never}
use Rattle.theory.proofs.Values.{some_same}
use Rattle.theory.proofs.Visits.{no_some}

cons_same : {A : Type 0} {a b : A} {xs ys : List A} → a ≡ b → xs ≡ ys → a ∷ xs ≡ b ∷ ys
cons_same p q = cc

-- "no room" by its number
refusal-room : (k : Refusal) → eqb (number k) 9 ≡ true → k ≡ Why.Room
refusal-room Why.Shape e = never e refl
refusal-room Why.Root e = never e refl
refusal-room Why.Count e = never e refl
refusal-room Why.Range e = never e refl
refusal-room Why.Object e = never e refl
refusal-room Why.Kind e = never e refl
refusal-room Why.Field e = never e refl
refusal-room Why.Damaged e = never e refl
refusal-room Why.Room e = refl
refusal-room Why.Value e = never e refl
refusal-room Why.Deep e = never e refl
refusal-room Why.Text e = never e refl

pub is_no_room_lem : (a : Result Answer Refusal) → D3.is_no_room a ≡ true → a ≡ D3.no_room
is_no_room_lem (Ok Says.Done) e = never e refl
is_no_room_lem (Ok (Says.Live n)) e = never e refl
is_no_room_lem (Ok Says.Sound) e = never e refl
is_no_room_lem (Ok Says.Unsound) e = never e refl
is_no_room_lem (Ok Says.Yes) e = never e refl
is_no_room_lem (Ok Says.No) e = never e refl
is_no_room_lem (Ok Says.Null) e = never e refl
is_no_room_lem (Ok (Says.Integer v)) e = never e refl
is_no_room_lem (Ok (Says.Object Traced n)) e = never e refl
is_no_room_lem (Ok (Says.Object Untraced n)) e = never e refl
is_no_room_lem (Ok (Says.Code w)) e = never e refl
is_no_room_lem (Ok (Says.Number w)) e = never e refl
is_no_room_lem (Ok (Says.Written n)) e = never e refl
is_no_room_lem (Err k) e = ap Err (refusal-room k e)

module _ (Y : Layout) (law : WritesBoth Y) (near : Adjacent Y) where
  -- every call: "no room", or heap and graph agree
  pub step-goes : (c : Call) (s : State) (g : Graph) → Represents Y s g
      → Full Y c s g (step Y c s) ⊎ Agrees Y (step Y c s) (graph_step c g)
  step-goes Ask.Collect s g m = inr (collect_agrees Y near s g m)
  step-goes Ask.Check s g m = inr (check_agrees Y s g m)
  step-goes (Ask.Allocate k n r) s g m = allocate_agrees k n r Y law near s g m
  step-goes (Ask.Read r) s g m = read_agrees r Y law near s g m
  step-goes (Ask.SetInteger r v) s g m = inr (set_integer_agrees Y r v s g m)
  step-goes (Ask.SetNull r) s g m = inr (set_null_agrees Y r s g m)
  step-goes (Ask.SetCode r w) s g m = inr (set_code_agrees Y r w s g m)
  step-goes (Ask.Copy p q) s g m = inr (copy_agrees Y p q s g m)
  step-goes (Ask.Load r f q) s g m = inr (load_agrees Y near r f q s g m)
  step-goes (Ask.Store r f q) s g m = inr (store_agrees Y near r f q s g m)
  step-goes (Ask.RawRead r f) s g m = inr (raw_read_agrees Y near r f s g m)
  step-goes (Ask.RawWrite r f n) s g m = inr (raw_write_agrees Y near r f n s g m)
  step-goes (Ask.Same p q) s g m = inr (same_agrees Y near p q s g m)
  step-goes (Ask.Inspect r) s g m = inr (inspect_agrees Y near r s g m)
  step-goes (Ask.Write r) s g m = inr (write_agrees Y near r s g m)

  -- a call that is not answered "no room" agrees with the graph
  pub step_agrees : (c : Call) (s : State) (g : Graph) → Represents Y s g → ((step Y c s).answer ≡ D3.no_room → ⊥)
      → Agrees Y (step Y c s) (graph_step c g)
  step_agrees c s g m f = ⊎_elim (λ (u : Full Y c s g (step Y c s)). absurd (f u.answers)) (λ a. a) (step-goes c s g m)

  -- where live words and the words that a call needs exceed the half, and the graph carries it out, it is "no room"
  read_exceeds : (r n : ℕ) (s : State) (g : Graph) → Represents Y s g → r < length g.roots → (x : Parsed) → parsed s.text ≡ x
      → D3.needed_by x ≡ some n → half_words s.heap < (graph_counts g).live + n → (step Y (Ask.Read r) s).answer ≡ D3.no_room
  read_exceeds r n s g m l (broken k) e w u = absurd (no_some n w)
  read_exceeds r n s g m l (tree t) e w u =
      let q = some_same (tree_words t) n w in
      ap (λ o. o.answer) (read-tree r Y s (parts m) (omega (arith, m.count)) t e)
      ∙ (roomed_exactly Y (tree_words t) (planted Y t r) s (parts m)).1 (omega (arith, live_same Y near s g m))

  pub step_exceeds : (c : Call) (s : State) (g : Graph) → Represents Y s g → (n : ℕ) → D3.needed c s.text ≡ some n
      → ((k : Refusal) → (graph_step c g).answer ≡ Err k → ⊥)
      → half_words s.heap < (graph_counts g).live + n → (step Y c s).answer ≡ D3.no_room
  step_exceeds (Ask.Allocate k f r) s g m n w a u =
      let l = allocation_legal k f r g a in
      let z = l.0 in
      let q = some_same (f + 1) n w in
      ap (λ o. o.answer) (allocate-is k f r Y s (parts m) (omega (arith, m.count)) l.1)
      ∙ (roomed_exactly Y (f + 1) (placed Y k f r) s (parts m)).1 (omega (arith, live_same Y near s g m))
  step_exceeds (Ask.Read r) s g m n w a u = read_exceeds r n s g m (read_legal r g a) (parsed s.text) refl w u
  step_exceeds Ask.Collect s g m n w a u = absurd (no_some n w)
  step_exceeds Ask.Check s g m n w a u = absurd (no_some n w)
  step_exceeds (Ask.SetInteger r v) s g m n w a u = absurd (no_some n w)
  step_exceeds (Ask.SetNull r) s g m n w a u = absurd (no_some n w)
  step_exceeds (Ask.SetCode r x) s g m n w a u = absurd (no_some n w)
  step_exceeds (Ask.Copy from to) s g m n w a u = absurd (no_some n w)
  step_exceeds (Ask.Load r f to) s g m n w a u = absurd (no_some n w)
  step_exceeds (Ask.Store r f from) s g m n w a u = absurd (no_some n w)
  step_exceeds (Ask.RawRead r f) s g m n w a u = absurd (no_some n w)
  step_exceeds (Ask.RawWrite r f x) s g m n w a u = absurd (no_some n w)
  step_exceeds (Ask.Same r q) s g m n w a u = absurd (no_some n w)
  step_exceeds (Ask.Inspect r) s g m n w a u = absurd (no_some n w)
  step_exceeds (Ask.Write r) s g m n w a u = absurd (no_some n w)

  -- "no room" in the larger of two heaps for one graph is "no room" in the smaller
  room_smaller : (c : Call) (s s⁺ : State) (g : Graph) → Represents Y s g → Represents Y s⁺ g
      → half_words s.heap ≤ half_words s⁺.heap
      → (step Y c s⁺).answer ≡ D3.no_room → (step Y c s).answer ≡ D3.no_room
  room_smaller c s s⁺ g m m⁺ l e =
      ⊎_elim
      (λ (u : Full Y c s⁺ g (step Y c s⁺)).
      step_exceeds c s g m u.words (ap (D3.needed c) (m.text ∙ sym m⁺.text) ∙ u.needs)
      (λ k x. plainly Says.Done k (sym u.carried ∙ x)) (let z = u.exceed in omega arith))
      (λ (a : Agrees Y (step Y c s⁺) (graph_step c g)). absurd (graph-room c g (sym a.0 ∙ e)))
      (step-goes c s⁺ g m⁺)

  step-half : (c : Call) (s : State) → half_words (step Y c s).left.heap ≡ half_words s.heap
  step-half c s = ap half_words_of (step_lengths Y s c).0

  -- a call of a session, lent bytes of its own
  -- (between two calls no bytes are lent)
  abbrev pub Stands : State → Graph → Type 0
  Stands s g = Represents Y (with_text [] s) (graph_with_text [] g)

  module _ (c : Asked) (s : State) (g : Graph) (m : Stands s g) where
    pub lends : Represents Y (with_text c.text s) (graph_with_text c.text g)
    lends = text_represents Y (with_text [] s) (graph_with_text [] g) m c.text

    pub asked-goes : Full Y c.call (with_text c.text s) (graph_with_text c.text g) (asked (machine Y) c s)
        ⊎ Agrees Y (asked (machine Y) c s) (graph_asked c g)
    asked-goes = step-goes c.call (with_text c.text s) (graph_with_text c.text g) lends

    asked_agrees : ((asked (machine Y) c s).answer ≡ D3.no_room → ⊥) → Agrees Y (asked (machine Y) c s) (graph_asked c g)
    asked_agrees f = step_agrees c.call (with_text c.text s) (graph_with_text c.text g) lends f

  asked-half : (c : Asked) (s : State) → half_words (asked (machine Y) c s).left.heap ≡ half_words s.heap
  asked-half c s = step-half c.call (with_text c.text s)

  handed_back : {o : Outcome State} {q : Outcome Graph} → Agrees Y o q → Stands o.left q.left
  handed_back {o} {q} a = text_represents Y o.left q.left a.1 []

  same_reply : {o : Outcome State} {q : Outcome Graph} → Agrees Y o q
      → ◌≡◌ {A = Reply} (record { answer = o.answer; text = o.left.text }) (record { answer = q.answer; text = q.left.text })
  same_reply a = λ i. record { answer = a.0 i; text = a.1.text i }

  -- k calls, none of which the smaller heap answers "no room"
  pub runs : (cs : List Asked) (k : ℕ) (s s⁺ : State) (g : Graph) → Stands s g → Stands s⁺ g
      → half_words s.heap ≤ half_words s⁺.heap
      → (Memᴰ D3.no_room (take k (answers (machine Y) cs s)) → ⊥)
      → (take k (replies (machine Y) cs s) ≡ take k (replies (machine Y) cs s⁺))
      × (take k (replies (machine Y) cs s) ≡ take k (graph_replies cs g))
  unfolding replies graph_replies
  runs [] k s s⁺ g m m⁺ l f = (refl, refl)
  runs (c ∷ cs) zero s s⁺ g m m⁺ l f = (refl, refl)
  runs (c ∷ cs) (suc k) s s⁺ g m m⁺ l f =
      let a = asked_agrees c s g m (λ e. f (Memᴰ.head (sym e))) in
      let b = asked_agrees c s⁺ g m⁺ (λ e. f (Memᴰ.head (sym
      (room_smaller c.call (with_text c.text s) (with_text c.text s⁺) (graph_with_text c.text g) (lends c s g m) (lends c s⁺ g m⁺)
      l e)))) in
      let ih = runs cs k (asked (machine Y) c s).left (asked (machine Y) c s⁺).left (graph_asked c g).left (handed_back a) (handed_back b)
      (omega (arith, asked-half c s, asked-half c s⁺)) (λ x. f (Memᴰ.tail x)) in
      (cons_same (same_reply a ∙ sym (same_reply b)) ih.0, cons_same (same_reply a) ih.1)

  -- after any list of calls the heap stands for the graph of those that were carried out
  pub after_represents : (cs : List Asked) (s : State) (g : Graph) → Stands s g
      → Represents Y (after (machine Y) cs s) (graph_after (D3.carried_out (machine Y) cs s) g)
      × (half_words (after (machine Y) cs s).heap ≡ half_words s.heap)
      × (length (after (machine Y) cs s).roots ≡ length s.roots)
  unfolding after graph_after D3.carried_out
  after_represents [] s g m = (m, refl, refl)
  after_represents (c ∷ cs) s g m =
      let t = asked-half c s in
      let q = (step_lengths Y (with_text c.text s) c.call).1 in
      ⊎_elim
      (λ (e : D3.is_no_room (asked (machine Y) c s).answer ≡ true).
      let ih = after_represents cs (asked (machine Y) c s).left g (full-stands c s g m (is_no_room_lem (asked (machine Y) c s).answer e)) in
      rw e (ih.0, ih.1 ∙ t, ih.2 ∙ q))
      (λ (e : D3.is_no_room (asked (machine Y) c s).answer ≡ false).
      let a = asked_agrees c s g m (λ z. never (ap D3.is_no_room z) e) in
      let ih = after_represents cs (asked (machine Y) c s).left (graph_asked c g).left (handed_back a) in
      rw e (ih.0, ih.1 ∙ t, ih.2 ∙ q))
      (by_test (D3.is_no_room (asked (machine Y) c s).answer))
    where
      full-stands : (c : Asked) (s : State) (g : Graph) → Stands s g → (asked (machine Y) c s).answer ≡ D3.no_room
          → Stands (asked (machine Y) c s).left g
      full-stands c s g m e =
          ⊎_elim
          (λ (u : Full Y c.call (with_text c.text s) (graph_with_text c.text g) (asked (machine Y) c s)).
          text_represents Y (asked (machine Y) c s).left (graph_with_text c.text g) u.stands [])
          (λ (a : Agrees Y (asked (machine Y) c s) (graph_asked c g)).
          absurd (graph-room c.call (graph_with_text c.text g) (sym a.0 ∙ e)))
          (asked-goes c s g m)

  -- and its answers are the graph's or "no room": none is SHAPE or DAMAGED
  pub session_refuses : (cs : List Asked) (s : State) (g : Graph) → Stands s g → (k : Refusal) → (k ≡ Why.Room → ⊥)
      → of_graph k ≡ false
      → Memᴰ (Err k) (answers (machine Y) cs s) → ⊥
  unfolding replies
  session_refuses [] s g m k n o x = Memᴰ.not-nil x
  session_refuses (c ∷ cs) s g m k n o x =
      let t = asked (machine Y) c s in
      ⊎_elim
      (λ (u : Full Y c.call (with_text c.text s) (graph_with_text c.text g) (asked (machine Y) c s)).
      ⊎_elim
      (λ (e : Err k ≡ t.answer). n (refused-same k Why.Room (e ∙ u.answers)))
      (λ (y : Memᴰ (Err k) (answers (machine Y) cs t.left)).
      session_refuses cs t.left g (text_represents Y t.left (graph_with_text c.text g) u.stands []) k n o y)
      (Memᴰ.cases_cons x))
      (λ (a : Agrees Y (asked (machine Y) c s) (graph_asked c g)).
      ⊎_elim
      (λ (e : Err k ≡ t.answer). never (graph_refuses c.call (graph_with_text c.text g) k (sym (e ∙ a.0))) o)
      (λ (y : Memᴰ (Err k) (answers (machine Y) cs t.left)).
      session_refuses cs t.left (graph_asked c g).left (handed_back a) k n o y)
      (Memᴰ.cases_cons x))
      (asked-goes c s g m)
