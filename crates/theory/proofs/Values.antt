-- Words that are values: what they lead to, and the headers that they name.
use Prim.Native.Nat.{ℕ, zero, suc, ◌+◌, ◌%◌, ◌≤◌, ◌<◌}
use native.Mathlib.Omega.{arith}
use mathlib.Core.Path.{◌≡◌, refl, sym, ap, ◌∙◌}
use mathlib.Core.Logic.{⊎_elim}
use mathlib.Core.Bool.{true, false, not, ◌&&◌}
use mathlib.Core.List.{List, map}
use mathlib.Core.Option.{some}
use lib.Dec.{ltb, eqb}
use lib.ListN.{length, get_or, length-map, get_or-eq_default}
use borrow.Author.Tests.{ltb-true, ltb-false, eq-eqb}
use Rattle.model.specs.declared.Kind.{Kind}
use Rattle.model.specs.declared.Kind.TheVariants.{Traced, Untraced}
use Rattle.model.specs.Collection.{still, field_cell, cells, word_leads, cell_leads}
use Rattle.model.specs.Discovery.{mem}
use Rattle.model.specs.Headers.{Layout}
use Rattle.model.specs.Objects.{address, index, kind, field_count, size, field_words}
use Rattle.model.specs.Soundness.{is_value}
use Rattle.model.specs.Values.{is_address}
use Rattle.model.specs.Words.{at}
use Rattle.theory.proofs.Members.{In}
use Rattle.theory.proofs.Objects.{index-address, fields-length, field_cell_lem}
use Rattle.theory.proofs.Tests.{by_test, never, or_cases, or_right, and_both}
use Rattle.theory.proofs.Visits.{no_some}

pub some_same : (i j : ℕ) → some i ≡ some j → i ≡ j
some_same i j e = cc

module _ (Y : Layout) where
  -- a word that leads somewhere is a pointer
  pub leads-address : (w j : ℕ) → word_leads Y w ≡ some j → (is_address w ≡ true) × (index Y w ≡ j)
  unfolding word_leads
  leads-address w j e =
      ⊎_elim
      (λ (p : is_address w ≡ true). (p, some_same (index Y w) j (rw p at e)))
      (λ (p : is_address w ≡ false). absurd (no_some j (rw p at e)))
      (by_test (is_address w))

  pub address-leads : (w : ℕ) → is_address w ≡ true → word_leads Y w ≡ some (index Y w)
  unfolding word_leads
  address-leads w p = rw p

  -- a value that is a pointer names a header
  pub value-header : (hs : List ℕ) (w : ℕ) → is_value Y hs w ≡ true → is_address w ≡ true → In (index Y w) hs
  unfolding is_value
  value-header hs w v p =
      ⊎_elim (λ (q : not (is_address w) ≡ true). never refl (sym (rw p at q)))
      (λ q. (and_both (eqb (w % 4) 0) (mem (index Y w) hs) q).1)
      (or_cases (not (is_address w)) (eqb (w % 4) 0 && mem (index Y w) hs) v)

  pub address-value : (hs : List ℕ) (i : ℕ) → In i hs → is_value Y hs (address Y i) ≡ true
  unfolding is_value
  address-value hs i m =
      or_right (not (is_address (address Y i))) _
      (rw (eq-eqb (address Y i % 4) 0 (omega arith), index-address Y i) m)

  pub plain_value : (hs : List ℕ) (w : ℕ) → is_address w ≡ false → is_value Y hs w ≡ true
  unfolding is_value
  plain_value hs w p = rw p

  -- a cell of an object leads on only if it is a traced one's field
  pub record Leads (H : List ℕ) (i k j : ℕ) : Type 0 where
    pub field : ℕ
    pub place : k ≡ suc field
    pub traced : kind Y H i ≡ Traced
    pub under : field < field_count Y H i
    pub pointer : is_address (at H (i + 1 + field)) ≡ true
    pub to : index Y (at H (i + 1 + field)) ≡ j

  untraced-leads : (k : Kind) (w j : ℕ) → cell_leads Y (field_cell k w) ≡ some j → (k ≡ Traced) × (word_leads Y w ≡ some j)
  untraced-leads Traced w j e = (refl, e)
  untraced-leads Untraced w j e = absurd (no_some j e)

  pub cell_leads_lem : (H : List ℕ) (i k j : ℕ) → i + size Y H i ≤ length H
      → cell_leads Y (get_or (cells Y H i) k (still 0)) ≡ some j
      → Leads H i k j
  cell_leads_lem H i zero j l e = absurd (no_some j e)
  cell_leads_lem H i (suc f) j l e =
      ⊎_elim
      (λ (b : ltb f (field_count Y H i) ≡ true).
      let u : f < field_count Y H i = ltb-true _ _ b in
      let g = untraced-leads (kind Y H i) (at H (i + 1 + f)) j (ap (cell_leads Y) (sym (field_cell_lem Y H i f l u)) ∙ e) in
      let p = leads-address (at H (i + 1 + f)) j g.1 in
      record { field = f; place = refl; traced = g.0; under = u; pointer = p.0; to = p.1 })
      (λ (b : ltb f (field_count Y H i) ≡ false).
      let n = fields-length Y H i l in
      let m = length-map (field_words Y H i) (field_cell (kind Y H i)) in
      let c : get_or (cells Y H i) (suc f) (still 0) ≡ still 0 =
      get_or-eq_default (map (field_cell (kind Y H i)) (field_words Y H i)) (still 0)
      (let z : field_count Y H i ≤ f = ltb-false _ _ b in omega arith) in
      absurd (no_some j (ap (cell_leads Y) (sym c) ∙ e)))
      (by_test (ltb f (field_count Y H i)))

  -- and the other way
  pub field-leads : (H : List ℕ) (i f : ℕ) → i + size Y H i ≤ length H → kind Y H i ≡ Traced → f < field_count Y H i
      → is_address (at H (i + 1 + f)) ≡ true
      → cell_leads Y (get_or (cells Y H i) (suc f) (still 0)) ≡ some (index Y (at H (i + 1 + f)))
  field-leads H i f l k u p =
      ap (cell_leads Y) (field_cell_lem Y H i f l u ∙ ap (λ x. field_cell x (at H (i + 1 + f))) k)
      ∙ address-leads (at H (i + 1 + f)) p
