-- The law that every exported call cites: a call that is made with the record taken from C's numbers, and
-- whose answer and record go back as numbers, is the model's call given those numbers.
use Prim.Native.Nat.{ℕ}
use native.Mathlib.Omega.{arith}
use mathlib.Core.Path.{◌≡◌, refl, sym, ap, ◌∙◌, subst}
use mathlib.Core.Bool.{Bool, true, false}
use mathlib.Core.List.{List, []}
use lib.ListN.{length}
use Rattle.model.specs.declared.Record.{Record}
use Rattle.model.specs.declared.Refusal.{Refusal}
use Rattle.model.specs.declared.Answer.{Answer}
use Rattle.model.specs.declared.Call.{Call}
use Rattle.model.specs.declared.Call.TheVariants as Ask
use Rattle.model.specs.declared.Answered.{Answered}
use Rattle.model.specs.declared.Told.{Told}
use Rattle.model.specs.declared.Place.{Place}
use Rattle.model.specs.Words.{State, state_of, with_text, free}
use Rattle.model.specs.Headers.{tuple}
use Rattle.model.specs.Shape.{bad_length}
use Rattle.std.specs.Prelude.{Result}
use Rattle.model.specs.Agreements.{kept, outcome, kept_text, outcome_text}
use Rattle.model.specs.Answers.{Outcome, told, refuse}
use Rattle.model.specs.Calls.{fresh, inspect}
use Rattle.model.specs.Window.{window}
use Rattle.model.specs.Sessions.{step}
use Rattle.theory.proofs.Leaving.{inspect-stays}
use Rattle.numbers.specs.declared.seen.Seen.{Seen}
use Rattle.numbers.specs.Places as Places
use Rattle.crossing.specs.declared.CRecord.{CRecord}
use Rattle.crossing.specs.declared.CResult.{CResult}
use Rattle.crossing.specs.declared.CSeen.{CSeen}
use Rattle.crossing.specs.declared.CWindow.{CWindow}
use Rattle.crossing.specs.Numbers.{Given, given_of, called_of, begun, result_of, crossed, seen_of, keeping, no_half, window_of, opened}
use Rattle.crossing.specs.Crossing.{nowhere, taken, back, fresh_back, Narrow, NarrowPlace}
use Rattle.crossing.proofs.ShapeFirst.{nowhere-bad, shape-first, window-shape}
use Rattle.crossing.proofs.Laws.{record_law}
use Rattle.crossing.proofs.FreeIndexes.{step_narrow, window_narrow}

-- what a call is lent, and what it answers and leaves, with the bytes t
abbrev lent_of : List ℕ → List ℕ → List ℕ → Record → State
lent_of H R t q = with_text t (state_of H R q)

abbrev left_of : Answered → List ℕ → List ℕ → List ℕ → Outcome State
left_of o H R t = outcome_text o H R t

-- the call that was made, of the record that was taken
made : {H' R' t' : List ℕ} {q : Record} {o : Answered} (H R t : List ℕ) (c : CRecord) (k : Call)
    → q ≡ taken c → left_of o H' R' t' ≡ step tuple k (lent_of H R t q)
    → left_of o H' R' t' ≡ step tuple k (lent_of H R t (taken c))
made H R t c k e f = f ∙ ap (λ q. step tuple k (lent_of H R t q)) e

module _ {T : Type 0} (returns : Told → CRecord → T) (c : CRecord) where
  -- an outcome on its way back, and with the record that came
  abbrev sent : Outcome State → Given T
  sent o = given_of (returns (told o.answer) (back c o.left.«record»)) o.left.heap o.left.roots o.left.text

  abbrev sent_back : Outcome State → Given T
  sent_back o = given_of (returns (told o.answer) c) o.left.heap o.left.roots o.left.text

  lands : (k : Call) (H R t : List ℕ) (b : Bool) → no_half c ≡ b
      → sent (step tuple k (lent_of H R t (taken c))) ≡ called_of returns (step tuple k) H R t c
  unfolding called_of
  lands k H R t true e = rw e (ap sent_back (shape-first tuple (lent_of H R t nowhere) (nowhere-bad H R) k))
  lands k H R t false e = rw e

  pub crosses_text : {H' R' t' : List ℕ} {q : Record} {o : Answered} {r : T} (H R t : List ℕ) (k : Call)
      → q ≡ taken c → left_of o H' R' t' ≡ step tuple k (lent_of H R t q)
      → r ≡ returns (told o.answer) (back c o.«record») → given_of r H' R' t' ≡ called_of returns (step tuple k) H R t c
  crosses_text {H'} {R'} {t'} H R t k e f g =
      ap (λ x. given_of x H' R' t') g ∙ ap sent (made H R t c k e f) ∙ lands k H R t (no_half c) refl

  -- of a call that is lent no bytes
  pub crosses : {H' R' : List ℕ} {q : Record} {o : Answered} {r : T} (H R : List ℕ) (k : Call)
      → q ≡ taken c → outcome o H' R' ≡ step tuple k (state_of H R q)
      → r ≡ returns (told o.answer) (back c o.«record») → given_of r H' R' [] ≡ called_of returns (step tuple k) H R [] c
  crosses H R k e f g = crosses_text H R [] k e f g

-- a call that returns no record: the one that came is the one that it leaves
back-taken : (c : CRecord) → back c (taken c) ≡ c
back-taken c = go (no_half c) refl
  where
    go : (b : Bool) → no_half c ≡ b → back c (taken c) ≡ c
    go true e = rw e
    go false e = rw e (record_law.back c e)

pub keeps-text : {T : Type 0} {H' R' t' : List ℕ} {q : Record} {a : Result Answer Refusal} {r : T} (returns : Told → T) (c : CRecord)
    (H R t : List ℕ) (k : Call) → q ≡ taken c → kept_text a H' R' q t' ≡ step tuple k (lent_of H R t q)
    → r ≡ returns (told a) → given_of (r, c) H' R' t' ≡ called_of (keeping returns) (step tuple k) H R t c
keeps-text {q = q} {a = a} returns c H R t k e f g =
    crosses_text (keeping returns) c {o = record { answer = a; «record» = q }} H R t k e f (λ i. (g i, sym comes_back i))
  where
    comes_back : back c q ≡ c
    comes_back = ap (back c) e ∙ back-taken c

pub keeps : {T : Type 0} {H' R' : List ℕ} {q : Record} {a : Result Answer Refusal} {r : T} (returns : Told → T) (c : CRecord)
    (H R : List ℕ) (k : Call) → q ≡ taken c → kept a H' R' q ≡ step tuple k (state_of H R q)
    → r ≡ returns (told a) → given_of (r, c) H' R' [] ≡ called_of (keeping returns) (step tuple k) H R [] c
keeps returns c H R k e f g = keeps-text returns c H R [] k e f g

-- inspect, in numbers already
pub seen : {q : Record} {t : Seen} {r : CSeen} (c : CRecord) (H R : List ℕ) (root : ℕ)
    → q ≡ taken c → t ≡ Places.seen_of (told (inspect tuple root (state_of H R q)).answer)
    → r ≡ crossed t → given_of (r, c) H R [] ≡ called_of (keeping seen_of) (inspect tuple root) H R [] c
unfolding step
seen {q} c H R root e f g =
    let s = state_of H R q in
    keeps seen_of c H R (Ask.Inspect root) e
    (λ i. record { answer = (inspect tuple root s).answer; left = sym (inspect-stays tuple root s) i }) (g ∙ ap crossed f)

-- the bounds by which the record goes back
taken_narrow : {q : Record} (c : CRecord) → q ≡ taken c → Narrow c.free → Narrow q.free.0
taken_narrow c e n = subst (λ q. Narrow q.free.0) (sym e) (go (no_half c) refl)
  where
    go : (b : Bool) → no_half c ≡ b → Narrow (taken c).free.0
    go true e = rw e (omega arith)
    go false e = rw e n

pub narrow_text : {H' R' t' : List ℕ} {q : Record} {o : Answered} (c : CRecord) (H R t : List ℕ) (k : Call)
    → q ≡ taken c → left_of o H' R' t' ≡ step tuple k (lent_of H R t q)
    → Narrow c.free → Narrow o.«record».free.0
narrow_text c H R t k e f n = subst (λ (o : Outcome State). Narrow (free o.left)) (sym f)
    (step_narrow tuple (lent_of H R t _) (taken_narrow c e n) k)

pub narrow : {H' R' : List ℕ} {q : Record} {o : Answered} (c : CRecord) (H R : List ℕ) (k : Call)
    → q ≡ taken c → outcome o H' R' ≡ step tuple k (state_of H R q)
    → Narrow c.free → Narrow o.«record».free.0
narrow c H R k e f n = narrow_text c H R [] k e f n

-- fresh: it does not look at the record that it is given
pub fresh_crosses : {H' : List ℕ} {o : Answered} {r : CResult} (H : List ℕ) (q : Record) (c : CRecord)
    → outcome o H' [] ≡ fresh (state_of H [] q)
    → r ≡ result_of (told o.answer) (fresh_back (told o.answer) c o.«record») → given_of r H' [] [] ≡ begun H c
unfolding fresh refuse begun
fresh_crosses {H'} H q c f e =
    ap (λ x. given_of x H' [] []) e
    ∙ ap sent_back_lem f
    ∙ go (bad_length (length H)) refl
  where
    sent_back_lem : Outcome State → Given CResult
    sent_back_lem o =
        given_of
        (result_of (told o.answer) (fresh_back (told o.answer) c o.left.«record»))
        o.left.heap
        o.left.roots
        o.left.text

    go : (b : Bool) → bad_length (length H) ≡ b → sent_back_lem (fresh (state_of H [] q)) ≡ begun H c
    go true e = rw e
    go false e = rw e

pub fresh_narrow : {H' : List ℕ} {o : Answered} (H : List ℕ) (q : Record) (c : CRecord)
    → q ≡ taken c → outcome o H' [] ≡ fresh (state_of H [] q)
    → Narrow c.free → Narrow o.«record».free.0
unfolding fresh refuse
fresh_narrow H q c e f n = subst (λ (o : Outcome State). Narrow (free o.left)) (sym f) (go (bad_length (length H)) refl)
  where
    go : (b : Bool) → bad_length (length H) ≡ b → Narrow (free (fresh (state_of H [] q)).left)
    go true g = rw g (taken_narrow c e n)
    go false g = rw g (omega arith)

-- the window
pub window_crosses : {q : Record} {p : Result Place Refusal} {w : CWindow} (c : CRecord) (H R : List ℕ) (r : ℕ)
    → q ≡ taken c → p ≡ window tuple r (state_of H R q)
    → w ≡ window_of p → w ≡ opened (window tuple r) H R c
unfolding opened
window_crosses c H R r e f g = g ∙ ap window_of (f ∙ ap (λ q. window tuple r (state_of H R q)) e) ∙ go (no_half c) refl
  where
    go : (b : Bool) → no_half c ≡ b → window_of (window tuple r (state_of H R (taken c))) ≡ opened (window tuple r) H R c
    go true e = rw e (ap window_of (window-shape tuple (state_of H R nowhere) (nowhere-bad H R) r))
    go false e = rw e

pub place_narrow : {p : Result Place Refusal} (r : ℕ) (s : State) → p ≡ window tuple r s → NarrowPlace p
place_narrow r s e = subst NarrowPlace (sym e) (window_narrow tuple r s)
