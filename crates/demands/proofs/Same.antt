-- Records, counts, heaps, states and outcomes are equal by their parts.
use Prim.Native.Nat.{ℕ, zero, suc, ◌+◌, ◌≤◌, ◌<◌}
use native.Mathlib.Omega.{arith}
use mathlib.Core.Path.{◌≡◌, refl, sym, ap, ◌∙◌}
use mathlib.Core.Logic.{◌⊎◌, inl, inr, ⊎_elim}
use mathlib.Core.List.{List}
use lib.ListN.{length}
use Rattle.model.specs.declared.Half.{Half}
use Rattle.model.specs.declared.Kind.{Kind}
use Rattle.model.specs.declared.Kind.TheVariants.{Traced, Untraced}
use Rattle.model.specs.declared.Counts.{Counts}
use Rattle.model.specs.declared.Record.{Record}
use Rattle.model.specs.Answers.{Outcome}
use Rattle.model.specs.Objects.{field_index}
use Rattle.model.specs.Words.{State, at, half_words_of, half_words, first_of, first_word, free}
use Rattle.theory.proofs.Tests.{decide}

pub same_record_lem : (q q' : Record) → q.half ≡ q'.half → q.free.0 ≡ q'.free.0 → q ≡ q'
same_record_lem q q' h f = λ i. record { half = h i; free = record { 0 = f i } }

pub same-counts : (n n' : Counts) → n.live ≡ n'.live → n.objects ≡ n'.objects → n.addresses ≡ n'.addresses → n ≡ n'
same-counts n n' l o a = λ i. record { live = l i; objects = o i; addresses = a i }

pub same-state : (s s' : State) → s.heap ≡ s'.heap → s.roots ≡ s'.roots → s.«record» ≡ s'.«record» → s.text ≡ s'.text
    → s ≡ s'
same-state s s' h r q t = λ i. record { heap = h i; roots = r i; «record» = q i; text = t i }

-- of one half and one length, states have one first word
pub first-same : (s s' : State) → s.«record».half ≡ s'.«record».half → length s.heap ≡ length s'.heap → first_word s ≡ first_word s'
first-same s s' h n =
    ap (λ (x : ℕ). first_of (half_words_of x) s.«record».half) n ∙ ap (λ (x : Half). first_of (half_words s'.heap) x) h

-- an object's words in two heaps, from its index j on: its header, and n fields by its kind
pub object-words : (H H' : List ℕ) (k : Kind) (j n : ℕ) → at H j ≡ at H' j
    → (k ≡ Untraced → (f : ℕ) → f < n → at H (field_index j f) ≡ at H' (field_index j f))
    → (k ≡ Traced → (f : ℕ) → f < n → at H (field_index j f) ≡ at H' (field_index j f))
    → (m : ℕ) → m < n + 1 → at H (j + m) ≡ at H' (j + m)
object-words H H' k j n head raw values zero l = let e : j + 0 ≡ j = omega arith in rw e head
object-words H H' Traced j n head raw values (suc f) l =
    let e : j + suc f ≡ field_index j f = omega arith in rw e (values refl f (omega arith))
object-words H H' Untraced j n head raw values (suc f) l =
    let e : j + suc f ≡ field_index j f = omega arith in rw e (raw refl f (omega arith))

-- of one used part, states have one heap if its words are equal and all others 0
pub words_same : (s s' : State) → first_word s ≡ first_word s' → free s ≡ free s'
    → ((i : ℕ) → (i < first_word s) ⊎ (free s ≤ i) → at s.heap i ≡ 0) → ((i : ℕ) → (i < first_word s') ⊎ (free s' ≤ i) → at s'.heap i ≡ 0)
    → ((i : ℕ) → first_word s ≤ i → i < free s → at s.heap i ≡ at s'.heap i)
    → (i : ℕ) → at s.heap i ≡ at s'.heap i
words_same s s' first end clear clear' used i =
    ⊎_elim
    (λ (a : i < first_word s). clear i (inl a) ∙ sym (clear' i (inl (omega arith))))
    (λ (a : first_word s ≤ i).
    ⊎_elim
    (λ (b : i < free s). used i a b)
    (λ (b : free s ≤ i). clear i (inr b) ∙ sym (clear' i (inr (omega arith))))
    (decide i (free s)))
    (decide i (first_word s))

pub same_outcome : (o o' : Outcome State) → o.answer ≡ o'.answer → o.left ≡ o'.left → o ≡ o'
same_outcome o o' a l = λ i. record { answer = a i; left = l i }
