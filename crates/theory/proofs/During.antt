-- A collection with p words passed: the next word, what a longer order renames alike, and the end.
use Prim.Native.Nat.{ℕ, suc, ◌+◌, ◌≤◌, ◌<◌}
use native.Mathlib.Omega.{arith}
use mathlib.Core.Path.{◌≡◌, refl, sym, ap, ◌∙◌}
use mathlib.Core.Logic.{⊎_elim}
use mathlib.Core.Bool.{true, false}
use mathlib.Core.List.{List, [], map}
use mathlib.Core.Option.{none, some}
use lib.ListN.{length, get_or, length-map}
use Rattle.model.specs.Collection.{Cell, still, value, cells, word_leads, cell_leads, order_at, order, rename, settle}
use Rattle.model.specs.Collection.{copied, collected}
use Rattle.model.specs.Discovery.{visit, packed, words_before, found}
use Rattle.model.specs.During.{stage, during}
use Rattle.model.specs.Headers.{Layout}
use Rattle.model.specs.Objects.{address, index}
use Rattle.model.specs.Soundness.{headers}
use Rattle.model.specs.Values.{is_address}
use Rattle.model.specs.Words.{State, at, half_words, other, other_first}
use Rattle.theory.proofs.DiscoveryAlike.{found-settled}
use Rattle.theory.proofs.Collected.{new_at, new_rest}
use Rattle.theory.proofs.Discovery.{found_later}
use Rattle.theory.proofs.Members.{In}
use Rattle.theory.proofs.Order.{reached-header, order_at-reached, order_at-fits, order-fits}
use Rattle.theory.proofs.Packed.{words_before-append}
use Rattle.theory.proofs.Soundness.{SoundTests}
use Rattle.theory.proofs.Stage.{stage-passed, stage-rest}
use Rattle.theory.proofs.Tests.{by_test, decide}
use Rattle.theory.proofs.Values.{address-leads}
use Rattle.theory.proofs.Visits.{Starts, starts_in, visits_has}

module _ (Y : Layout) where
  -- a longer order renames what it leads to alike
  pub rename_stable : (H o o' : List ℕ) (b w : ℕ) → Starts o o' → ((i : ℕ) → word_leads Y w ≡ some i → In i o)
      → rename Y H o' b w ≡ rename Y H o b w
  unfolding rename
  rename_stable H o o' b w t f =
      ⊎_elim
      (λ (q : is_address w ≡ true).
      rw q (ap (λ z. address Y (b + z))
      (ap (λ z. words_before (cells Y H) z (index Y w)) t.1
      ∙ words_before-append (cells Y H) o t.0 (index Y w) (f (index Y w) (address-leads Y w q)))))
      (λ (q : is_address w ≡ false). rw q)
      (by_test (is_address w))

  pub settle_stable : (H o o' : List ℕ) (b : ℕ) (c : Cell) → Starts o o' → ((i : ℕ) → cell_leads Y c ≡ some i → In i o)
      → settle Y H o' b c ≡ settle Y H o b c
  settle_stable H o o' b (still w) t f = refl
  settle_stable H o o' b (value w) t f = rename_stable H o o' b w t f

module _ (Y : Layout) (s : State) (h : SoundTests Y s) (p : ℕ) where
  abbrev O : List ℕ
  O = order_at Y s p

  abbrev L : ℕ
  L = length (packed (cells Y s.heap) (order_at Y s p))

  pub order_heads : (i : ℕ) → In i (order_at Y s p) → In i (headers Y s)
  order_heads i m = reached-header Y s h i (order_at-reached Y s h p i m)

  pub order-room : length (packed (cells Y s.heap) (order_at Y s p)) ≤ half_words s.heap
  order-room = omega (arith, order_at-fits Y s h p, h.shape.high)

  -- passing one more word
  pub order-step : order_at Y s (suc p) ≡ visit (order_at Y s p) (cell_leads Y (get_or (packed (cells Y s.heap) (order_at Y s p)) p (still 0)))
  unfolding order_at found
  order-step = refl

  -- what a root leads to is found before any word is passed
  pub root-found : (r i : ℕ) → get_or (map (word_leads Y) s.roots) r none ≡ some i → In i (order_at Y s p)
  unfolding order_at found
  root-found r i e =
      let C = cells Y s.heap in
      let R = map (word_leads Y) s.roots in
      starts_in i (found C (still 0) (cell_leads Y) R 0) (found C (still 0) (cell_leads Y) R p)
      (found_later C (still 0) (cell_leads Y) R 0 p (omega arith))
      (visits_has [] R r i e)

  -- once every word of the copies is passed the order is whole, and the new half, the roots and the record
  -- are the collection's
  module _ (over : L ≤ p) where
    pub ended : order_at Y s p ≡ order Y s
    unfolding order_at
    ended =
        found-settled (cells Y s.heap) (still 0) (cell_leads Y) (map (word_leads Y) s.roots) refl p
        (half_words s.heap) over
        (omega (arith, order-fits Y s h))

    same-words : L ≡ length (packed (cells Y s.heap) (order Y s))
    same-words = ap (λ z. length (packed (cells Y s.heap) z)) ended

    pub end-word : (k : ℕ) → k < half_words s.heap → at (during Y s p).heap (other_first s + k)
        ≡ at (collected Y s).heap (other_first s + k)
    end-word k u =
        ⊎_elim
        (λ (a : k < L).
        stage-passed Y s h O order_heads order-room p k (omega arith) a
        ∙ ap (λ z. settle Y s.heap z (other_first s) (get_or (packed (cells Y s.heap) z) k (still 0))) ended
        ∙ sym (new_at Y s h k (omega (arith, same-words))))
        (λ (a : L ≤ k). stage-rest Y s h O order_heads order-room p k a u ∙ sym (new_rest Y s h k (omega (arith, same-words)) u))
        (decide k L)

    pub end-roots : (during Y s p).roots ≡ (collected Y s).roots
    unfolding stage copied
    end-roots = ap (λ z. map (rename Y s.heap z (other_first s)) s.roots) ended

    pub end_record : (during Y s p).«record» ≡ (collected Y s).«record»
    unfolding stage copied
    end_record =
        ap (λ z. record { half = other s.«record».half; free = record { 0 = other_first s + z } })
        (same-words ∙ sym (length-map (packed (cells Y s.heap) (order Y s)) (settle Y s.heap (order Y s) (other_first s))))
