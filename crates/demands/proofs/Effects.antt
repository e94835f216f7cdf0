-- The library's machine does what document 01's "The calls" says, where nothing refuses.
use Prim.Native.Nat.{ℕ, ◌%◌, ◌≤◌}
use native.Mathlib.Omega.{arith}
use mathlib.Core.Path.{◌≡◌, refl, sym, ap, ◌∙◌}
use mathlib.Core.Logic.{◌↔◌}
use mathlib.Core.Bool.{Bool, true, false, cond}
use lib.Dec.{eqb}
use lib.ListN.{length, length-replicate}
use borrow.Author.Tests.{eqb-true, eqb-false, eq-eqb, ne_eqb}
use Rattle.std.specs.Prelude.{Result, Ok}
use Rattle.model.specs.declared.Answer.{Answer}
use Rattle.model.specs.declared.Answer.TheVariants as Says
use Rattle.model.specs.declared.Refusal.{Refusal}
use Rattle.model.specs.Calls.{fresh}
use Rattle.model.specs.Changes.{root_word}
use Rattle.model.specs.Conditions as C
use Rattle.model.specs.Conditions.{Decides}
use Rattle.model.specs.Effects as E
use Rattle.model.specs.Headers.{Layout}
use Rattle.model.specs.Limits.{code_floor}
use Rattle.model.specs.Sessions.{machine}
use Rattle.model.specs.Soundness.{sound}
use Rattle.model.specs.Values.{untag}
use Rattle.model.specs.Words.{State}
use Rattle.demands.proofs.CallsPass.{same-answer, fails_test, done_with, set-integer, set-null, set-code, copies, loads, stores}
use Rattle.demands.proofs.CallsPass.{raw-writes, raw-reads, checks, sames, seen, object_seen, inspects, allocates_now}
use Rattle.demands.proofs.CallsPass.{allocates_then}
use Rattle.theory.proofs.Deciding.{length_decides, named-address, sound_decides}
use Rattle.theory.proofs.Lists.{get_d_same}
use Rattle.theory.proofs.PlainAnswers.{no_yes}
use Rattle.demands.proofs.Start.{fresh_good}
use Rattle.demands.proofs.TextWritten.{writes-text}
use Rattle.demands.proofs.TreeRead.{reads_now, reads_then}
use Rattle.theory.proofs.WordSorts.{parts_code, address_no_code}

-- one of two answers by a test, and the condition that the test decides
chosen_true : {P : Type 0} (b : Bool) (x y : Answer) → Decides b P → (y ≡ x → ⊥)
    → ◌≡◌ {A = Result Answer Refusal} (Ok (cond b x y)) (Ok x) ↔ P
chosen_true true x y d n = (λ e. d.holds refl, λ p. refl)
chosen_true false x y d n = (λ e. absurd (n (same-answer y x e)), λ p. absurd (d.fails refl p))

chosen_false : {P : Type 0} (b : Bool) (x y : Answer) → Decides b P → (x ≡ y → ⊥)
    → ◌≡◌ {A = Result Answer Refusal} (Ok (cond b x y)) (Ok y) ↔ (P → ⊥)
chosen_false true x y d n = (λ e. absurd (n (same-answer x y e)), λ f. absurd (f (d.holds refl)))
chosen_false false x y d n = (λ e. d.fails refl, λ f. refl)

equal_decides : (a b : ℕ) → Decides (eqb a b) (a ≡ b)
equal_decides a b = record { holds = eqb-true a b; fails = eqb-false a b }

sound-unsound : Says.Unsound ≡ Says.Sound → ⊥
sound-unsound e = let z : ◌≡◌ {A = ℕ} 0 1 = cc in omega arith

fresh_clears : (s : State) → (C.BadLength s → ⊥) → E.Done (fresh s) (E.Cleared s)
fresh_clears s n =
    done_with (E.Cleared s) _ (fresh_good s (fails_test (length_decides s) n)) (record {
      zeros = λ i. get_d_same {A = ℕ} (length s.heap) i 0;
      same_length = length-replicate (length s.heap) 0;
      same_roots = refl;
      half_a = refl;
      free_is = refl;
      same_text = refl;
    })

module _ (Y : Layout) where
  -- what is seen in a root
  seen-null : (s : State) (w : ℕ) → w ≡ 0 → seen Y s w ≡ Says.Null
  seen-null s w e = rw e

  seen-integer : (s : State) (w : ℕ) → w % 2 ≡ 1 → seen Y s w ≡ Says.Integer (untag w)
  seen-integer s w e = rw (eq-eqb (w % 2) 1 e)

  seen-code : (s : State) (w : ℕ) → w % 2 ≡ 0 → code_floor ≤ w → seen Y s w ≡ Says.Code w
  seen-code s w e l =
      rw (ne_eqb (w % 2) 1 (λ o. omega arith), ne_eqb w 0 (λ z. omega arith), parts_code w e l)

  seen-object : (s : State) (w : ℕ) → C.Names Y s w → seen Y s w ≡ object_seen Y s w
  seen-object s w n =
      rw (
        ne_eqb (w % 2) 1 (λ e. omega (arith, n.even)),
        ne_eqb w 0 n.not_null,
        address_no_code w (named-address Y s w n),
      )

  pub effects : E.Effects Y (machine Y)
  effects = record {
    fresh = fresh_clears;
    check_sound =
        λ s p. rw (checks Y s p) (chosen_true (sound Y s) Says.Sound Says.Unsound (sound_decides Y s) sound-unsound);
    check_unsound = λ s p.
        rw (checks Y s p) (chosen_false (sound Y s) Says.Sound Says.Unsound (sound_decides Y s) (λ e. sound-unsound (sym e)));
    check_leaves = λ s p. ap (λ o. o.left) (checks Y s p);
    allocate_now = λ k n r s. allocates_now Y s k n r;
    allocate_then = λ k n r s. allocates_then Y s k n r;
    set_integer = λ r v s. set-integer Y s r v;
    set_null = λ r s. set-null Y s r;
    set_code = λ r w s. set-code Y s r w;
    copy = λ from to s. copies Y s from to;
    load = λ r f to s. loads Y s r f to;
    store = λ r f from s. stores Y s r f from;
    raw_read = λ r f s p. ap (λ o. o.answer) (raw-reads Y s r f p);
    raw_read_leaves = λ r f s p. ap (λ o. o.left) (raw-reads Y s r f p);
    raw_write = λ r f x s. raw-writes Y s r f x;
    same_yes = λ r q s p.
        rw (sames Y s r q p)
        (chosen_true (eqb (root_word s r) (root_word s q)) Says.Yes Says.No (equal_decides (root_word s r) (root_word s q)) no_yes);
    same_no = λ r q s p.
        rw (sames Y s r q p)
        (chosen_false (eqb (root_word s r) (root_word s q)) Says.Yes Says.No (equal_decides (root_word s r) (root_word s q))
        (λ e. no_yes (sym e)));
    same_leaves = λ r q s p. ap (λ o. o.left) (sames Y s r q p);
    inspect_null = λ r s p e. ap (λ o. o.answer) (inspects Y s r p) ∙ ap Ok (seen-null s (root_word s r) e);
    inspect_integer = λ r s p e. ap (λ o. o.answer) (inspects Y s r p) ∙ ap Ok (seen-integer s (root_word s r) e);
    inspect_code = λ r s p e l. ap (λ o. o.answer) (inspects Y s r p) ∙ ap Ok (seen-code s (root_word s r) e l);
    inspect_object = λ r s p n. ap (λ o. o.answer) (inspects Y s r p) ∙ ap Ok (seen-object s (root_word s r) n);
    inspect_leaves = λ r s p. ap (λ o. o.left) (inspects Y s r p);
    write = λ r s p. writes-text Y s r p;
    read_now = λ r s t p i f. reads_now Y r s t p i f;
    read_then = λ r s t p i c. reads_then Y r s t p i c;
  }
