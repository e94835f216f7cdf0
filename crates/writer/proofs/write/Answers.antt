-- `writer::write` meets its contract: refused as `admit` says, or what was measured and what was spelled is the call's outcome.
use native.Mathlib.Omega.{arith}
use Prim.Native.Nat.{ℕ}
use mathlib.Core.Path.{◌≡◌, sym, ap, ◌∙◌}
use Rattle.std.specs.Prelude.{Result}
use Rattle.model.specs.declared.Refusal.{Refusal}
use mathlib.Core.List.{List}
use Rattle.model.specs.Texts.{max_depth, value_pieces}
use Rattle.writer_measuring.specs.Forms.{form_in}
use Rattle.model.specs.Changes.{root_word}
use Rattle.writer_measuring.specs.Measured.{measured}
use Rattle.model.specs.Words.{state_of, with_text}
use Rattle.theory.proofs.Shape.{shaped}
use Rattle.words.specs.Admits.{admits}
use Rattle.words.proofs.Admitted.{passed_on, admitted_tests}
use Rattle.words.proofs.FirstWords.{first_by_length}
use Rattle.naming.proofs.NamedObjects.{free_in_heap}
use Rattle.writer.proofs.Writing.{write_unadmitted, write-refused, write_arrives, write-spelt}
use Rattle.writer.proofs.write.Goals as goal

-- the word that was measured is the root's, as numbers
asked : {x : Result ℕ Refusal} {q : ℕ} (first last n : ℕ) (H : List ℕ) (w : ℕ)
    → x ≡ measured n (value_pieces (form_in first last H) max_depth q) → q ≡ w
    → x ≡ measured n (value_pieces (form_in first last H) max_depth w)
asked f l n H w e same = e ∙ ap (λ (q : ℕ). measured n (value_pieces (form_in f l H) max_depth q)) same

pub returns-in_err-admit : goal.returns-in_err-admit
unfolding admits
returns-in_err-admit c =
    let s = with_text c.args.text.now (state_of c.args.heap.now c.args.roots.now c.args.«record») in
    rw (passed_on _ c.from_residual.ensures.1) (write_unadmitted _ s c.admit.ensures.is c.in_err-admit.was)

pub half_words-requires : goal.half_words-requires
half_words-requires c =
    let s = with_text c.args.text.now (state_of c.args.heap.now c.args.roots.now c.args.«record») in
    let g = shaped s (admitted_tests _ _ c.admit.ensures.is c.in_ok-admit.was).0 in
    omega arith

pub first_of-requires : goal.first_of-requires
first_of-requires c =
    let s = with_text c.args.text.now (state_of c.args.heap.now c.args.roots.now c.args.«record») in
    let g = shaped s (admitted_tests _ _ c.admit.ensures.is c.in_ok-admit.was).0 in
    omega (arith, c.half_words.ensures)

pub invariant_of-used : goal.invariant_of-used
invariant_of-used c =
    let s = with_text c.args.text.now (state_of c.args.heap.now c.args.roots.now c.args.«record») in
    let e = first_by_length _ c.args.«record».half c.first_of.ensures c.half_words.ensures in
    let fits = free_in_heap s (admitted_tests _ _ c.admit.ensures.is c.in_ok-admit.was).0 in
    record { begins = omega arith; within = omega arith }

pub returns-in_err-measure_root : goal.returns-in_err-measure_root
returns-in_err-measure_root c =
    let s = with_text c.args.text.now (state_of c.args.heap.now c.args.roots.now c.args.«record») in
    let t = admitted_tests _ _ c.admit.ensures.is c.in_ok-admit.was in
    rw (passed_on _ c.from_residual-in_err-measure_root.ensures.1)
    (write-refused _ s t.0 t.1 _
    (first_by_length _ c.args.«record».half c.first_of.ensures c.half_words.ensures)
    _ (sym c.in_err-measure_root.was ∙ asked _ _ _ _ (root_word s c.args.root) c.measure_root.ensures (omega arith)))

pub spell_root-requires : goal.spell_root-requires
spell_root-requires c =
    let s = with_text c.args.text.now (state_of c.args.heap.now c.args.roots.now c.args.«record») in
    let t = admitted_tests _ _ c.admit.ensures.is c.in_ok-admit.was in
    write_arrives _ s t.0 t.1 _
    (first_by_length _ c.args.«record».half c.first_of.ensures c.half_words.ensures)
    _ (sym c.in_ok-measure_root.was ∙ asked _ _ _ _ (root_word s c.args.root) c.measure_root.ensures (omega arith))

pub returns : goal.returns
returns c =
    let s = with_text c.args.text.now (state_of c.args.heap.now c.args.roots.now c.args.«record») in
    let t = admitted_tests _ _ c.admit.ensures.is c.in_ok-admit.was in
    let gone = c.spell_root in
    write-spelt _ s t.0 t.1 _
    (first_by_length _ c.args.«record».half c.first_of.ensures c.half_words.ensures)
    gone.result gone.new.text gone.ensures
