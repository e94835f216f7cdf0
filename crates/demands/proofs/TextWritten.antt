-- What a write leaves where nothing refuses it: the text of the root's word, and the bytes past it as they were.
use Prim.Native.Nat.{ℕ, ◌+◌, ◌-◌, ◌≤◌}
use native.Mathlib.Omega.{arith}
use mathlib.Core.Path.{◌≡◌, refl, sym, ap, ◌∙◌, subst}
use mathlib.Core.List.{List, [], ◌∷◌}
use lib.ListN.{length, drop, get_or-append}
use lib.Seq.{get_or-drop, get_or-append-add}
use Rattle.std.specs.Prelude.{Ok}
use Rattle.model.specs.declared.Answer.TheVariants as Says
use Rattle.model.specs.declared.Call.TheVariants as Ask
use Rattle.model.specs.Answers.{Outcome}
use Rattle.model.specs.Calls as Calls
use Rattle.model.specs.Changes.{root_word}
use Rattle.model.specs.Effects as E
use Rattle.model.specs.Headers.{Layout}
use Rattle.model.specs.Refusals.{own_rows}
use Rattle.model.specs.Sessions.{step}
use Rattle.model.specs.TextFaults.{HasText}
use Rattle.model.specs.Texts.{max_depth, Spelled, whole, broken, over, writes}
use Rattle.model.specs.Words.{State, with_text, at}
use Rattle.demands.proofs.CallsPass.{fails_test, past-roots}
use Rattle.theory.proofs.Deciding.{shape_decides}
use Rattle.theory.proofs.Rows.{first_some}
use Rattle.theory.proofs.Shape.{Shaped, shaped}
use Rattle.demands.proofs.TextFaults.{pieces_text, all}
use Rattle.demands.proofs.TextJudged.{broken-row}
use Rattle.demands.proofs.TextPlaces.{whole_is}
use Rattle.theory.proofs.Texts.{whole-fits, length_over}

pub text-written : (s : State) (bs : List ℕ) → length bs ≤ length s.text → E.TextWritten s bs (with_text (over bs s.text) s)
text-written s bs l = record {
  room = l;
  bytes = λ i k. get_or-append bs (drop (length bs) s.text) 0 i k;
  others = λ i k.
      let e : i ≡ length bs + (i - length bs) = omega arith in
      ap (λ z. at (over bs s.text) z) e ∙ get_or-append-add bs (drop (length bs) s.text) (i - length bs) 0
      ∙ get_or-drop (length bs) s.text (i - length bs) 0 ∙ ap (λ z. at s.text z) (sym e);
  same_length = length_over bs s.text l;
  same_heap = refl;
  same_roots = refl;
  same_record = refl;
}

-- the text of a word, an answer of its length, and what is left
abbrev Written : Layout → ℕ → State → Outcome State → Type 0
Written Y r s o =
    (bs : List ℕ) × HasText Y s max_depth (root_word s r) bs × (o.answer ≡ Ok (Says.Written (length bs))) × E.TextWritten s bs o.left

pub writes-text : (Y : Layout) (s : State) (r : ℕ) → E.Passes Y (Ask.Write r) s → Written Y r s (step Y (Ask.Write r) s)
unfolding step Calls.write
writes-text Y s r p =
    subst (Written Y r s) (sym (past-roots Y s (r ∷ []) _ p.0 p.1.0)) (go (Calls.root_spelled Y r s) refl)
  where
    h : Shaped s
    h = shaped s (fails_test (shape_decides s) p.0)

    go : (x : Spelled) → Calls.root_spelled Y r s ≡ x → Written Y r s (writes (λ t. with_text t s) s s.text x)
    go (whole bs) e = (
      bs,
      pieces_text Y s h max_depth (root_word s r) bs (whole_is (length s.text) (all Y s h r) bs e),
      refl,
      text-written s bs (whole-fits (length s.text) (all Y s h r) bs e),
    )
    go (broken k) e = absurd (first_some (own_rows Y (Ask.Write r) s) k (broken-row Y s h r k e) p.1.1)
