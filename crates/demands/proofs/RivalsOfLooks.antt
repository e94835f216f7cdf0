-- Wrong machines that look at more than they may or cannot be told apart, and the sentence that each of them breaks.
use Prim.Native.Nat.{ℕ, zero, suc, ◌%◌, ◌<◌}
use native.Mathlib.Omega.{arith}
use mathlib.Core.Path.{◌≡◌, refl, sym, ap, ◌∙◌}
use mathlib.Core.Logic.{◌⊎◌, inl, inr, ⊎_elim}
use mathlib.Core.Bool.{true, false, cond, ◌&&◌}
use mathlib.Core.List.Memᴰ
use mathlib.Core.List.{[], ◌∷◌}
use lib.Dec.{eqb}
use lib.ListN.{replicate}
use Rattle.model.specs.declared.Half.TheVariants.{A}
use Rattle.model.specs.declared.Kind.TheVariants.{Traced, Untraced}
use Rattle.model.specs.declared.Call.TheVariants as Ask
use Rattle.model.specs.declared.Refusal.TheVariants as Why
use Rattle.model.specs.declared.Answer.TheVariants as Says
use Rattle.model.specs.Answers.{says, refuse, number, told}
use Rattle.model.specs.Calls as Calls
use Rattle.model.specs.Changes.{with_root, root_word}
use Rattle.model.specs.Collection.{collected}
use Rattle.model.specs.Conditions.{Sound}
use Rattle.model.specs.Demand2 as D
use Rattle.model.specs.Discovery.{mem}
use Rattle.model.specs.Headers.{tuple}
use Rattle.model.specs.Laws as Law
use Rattle.model.specs.Looks as L
use Rattle.model.specs.Objects.{address, is_traced, index, kind, field_index, names}
use Rattle.model.specs.Sessions.{step, Machine}
use Rattle.model.specs.Shape.{bad_shape_of}
use Rattle.model.specs.Soundness.{tiles, headers_from, headers, is_value, fields_are_values, sound}
use Rattle.model.specs.Values.{is_address}
use Rattle.model.specs.Words.{State, at, free}
use Rattle.model.specs.Worked as Worked
use Rattle.theory.proofs.Deciding.{sound_decides}
use Rattle.demands.proofs.CallsPass.{same-answer}
use Rattle.demands.proofs.Integers.{tag-odd}
use Rattle.theory.proofs.PlainAnswers.{no_yes}
use Rattle.demands.proofs.Rivals.{changed, is, checks, compares, loads}
use Rattle.demands.proofs.RivalsOfEffects.{word0}
use Rattle.theory.proofs.Tests.{by_test, never}
use Rattle.theory.proofs.WordSorts.{became_stays}

-- ---- same looks at a heap word

abbrev pub same_by_word1 : Machine
same_by_word1 = changed (λ c s o. cond (is compares c) (says (cond (eqb (at s.heap 1) 0) Says.Yes Says.No) s) o)

abbrev blank3 : State
blank3 = Worked.state A 1 (replicate 3 0) (0 ∷ [])

pub same_by_word_1_breaks_sees : L.Looks tuple same_by_word1 → ⊥
same_by_word_1_breaks_sees l = no_yes (same-answer Says.No Says.Yes (l.sees (Ask.Same 0 0) blank3 (0 ∷ 5 ∷ 0 ∷ []) refl tt).answer)

-- ---- load takes a raw word for a value: root 0 names an untraced object, whose one word is x

abbrev raw : ℕ → State
raw x = Worked.state A 3 (0 ∷ 0x80000002 ∷ x ∷ 0 ∷ 0 ∷ []) (4 ∷ [])

-- KIND becomes "done", and root 0 the first raw word of the object that it names
abbrev pub loads_raw : Machine
loads_raw = changed (λ c s o. cond (is loads c && eqb (told o.answer).refusal (number Why.Kind))
    (says Says.Done (with_root s 0 (at s.heap (field_index (index tuple (root_word s 0)) 0)))) o)

raw-sound : (x : ℕ) → Sound tuple (raw x)
unfolding tuple sound bad_shape_of tiles headers_from is_value fields_are_values mem
raw-sound x = (sound_decides tuple (raw x)).holds refl

-- no word that a load brings in is x, if that is neither a multiple of 4 nor odd
abbrev Fit : ℕ → Type 0
Fit w = (w % 2 ≡ 1) ⊎ (w % 4 ≡ 0)

traced_no : Untraced ≡ Traced → ⊥
traced_no e = never refl (ap is_traced (sym e))

headers_are : (x : ℕ) → headers tuple (raw x) ≡ 1 ∷ []
unfolding tuple headers_from
headers_are x = refl

kind-is : (x : ℕ) → kind tuple (raw x).heap 1 ≡ Untraced
unfolding tuple
kind-is x = refl

address-fits : (i : ℕ) → Fit (address tuple i)
address-fits i = inr (omega arith)

root-fits : (x r : ℕ) → r < 1 → Fit (root_word (raw x) r)
root-fits x zero l = inr refl
root-fits x (suc r) l = absurd (omega arith)

-- a load sets no root to a code word
load_no_code : (to w : ℕ) → Ask.Load 0 0 0 ≡ Ask.SetCode to w → ⊥
load_no_code to w e = never (ap (is loads) (sym e)) refl

fit : (x w : ℕ) → L.Origin tuple (raw x) (Ask.Load 0 0 0) w → Fit w
fit x w (L.old_root r l) = root-fits x r l
fit x w (L.renamed r v l b) =
    ⊎_elim
    (λ (p : is_address (root_word (raw x) r) ≡ true).
    rw (b.moves p) (address-fits (D.copy_index tuple (raw x) (index tuple (root_word (raw x) r)))))
    (λ (p : is_address (root_word (raw x) r) ≡ false).
    rw (became_stays tuple (raw x) (root_word (raw x) r) w b p) (root-fits x r l))
    (by_test (is_address (root_word (raw x) r)))
fit x w (L.field i f m k l) =
    let e : i ≡ 1 = Memᴰ.eq_of_singleton (rw (headers_are x) at m) in
    absurd (traced_no (sym (kind-is x) ∙ ap (λ j. kind tuple (raw x).heap j) (sym e) ∙ k))
fit x w (L.integer to v c e) = inl (tag-odd v e)
fit x w (L.null to c) = inr refl
fit x w (L.code to v c e) = absurd (load_no_code to v c)
fit x w (L.text to v c e) = inl (tag-odd v e.fits)
fit x w L.placed = address-fits (free (raw x))
fit x w L.placed_then = address-fits (free (collected tuple (raw x)))

loads_raw_lem : (x : ℕ) → (Fit x → ⊥) → L.Looks tuple loads_raw → ⊥
unfolding tuple step refuse Calls.load bad_shape_of names
loads_raw_lem x n l = n (fit x x (l.enters (Ask.Load 0 0 0) (raw x) 0 (raw-sound x) (omega arith)))

-- whatever the word looks like: an address, or a code word
pub loads_raw_breaks_enters : L.Looks tuple loads_raw → ⊥
loads_raw_breaks_enters = loads_raw_lem 6 (λ z. ⊎_elim (λ (e : 6 % 2 ≡ 1). omega arith) (λ (e : 6 % 4 ≡ 0). omega arith) z)

pub loads_raw-code_breaks_enters : L.Looks tuple loads_raw → ⊥
loads_raw-code_breaks_enters =
    loads_raw_lem 16777218 (λ z. ⊎_elim (λ (e : 16777218 % 2 ≡ 1). omega arith) (λ (e : 16777218 % 4 ≡ 0). omega arith) z)

-- ---- a check that answers "done" to one unsound heap and "not sound" to another

abbrev pub hushed : Machine
hushed = changed (λ c s o. cond (is checks c && eqb (at s.heap 0) 7) (says Says.Done s) o)

done-unsound : Says.Done ≡ Says.Unsound → ⊥
done-unsound e = let z : ◌≡◌ {A = ℕ} 0 1 = cc in omega arith

pub hushed_breaks_told-apart : Law.ToldApart hushed → ⊥
unfolding tuple step refuse Calls.check bad_shape_of sound
hushed_breaks_told-apart t = done-unsound (same-answer Says.Done Says.Unsound (t.session Ask.Check (word0 7) (word0 8) refl))
