-- What a collection counts: leads that lead to a node, and sums over a list of nodes, in whatever order these stand.
use Prim.Native.Nat.{ℕ, zero, suc, ◌+◌, ◌≤◌, ◌<◌}
use native.Mathlib.Omega.{arith}
use mathlib.Core.Path.{◌≡◌, refl, sym, ap, ◌∙◌}
use mathlib.Core.Logic.{⊎_elim}
use mathlib.Core.Bool.{true, false, cond}
use mathlib.Core.List.{List, [], ◌∷◌, ◌++◌, map}
use mathlib.Core.Option.{Option, none, some}
use lib.ListN.{length, get_or, take, replicate, length-append, length-map, length-take, length-replicate}
use lib.Seq.{take_all}
use Rattle.model.specs.declared.Kind.{Kind}
use Rattle.model.specs.declared.Kind.TheVariants.{Traced, Untraced}
use Rattle.model.specs.Collection.{still, addresses_in, field_cell, cells, word_leads, cell_leads, addresses_of, addresses_among}
use Rattle.model.specs.Demand2.{Lists}
use Rattle.model.specs.Discovery.{packed}
use Rattle.model.specs.Headers.{Layout}
use Rattle.model.specs.Objects.{is_traced, kind, field_words}
use Rattle.model.specs.Values.{is_address}
use Rattle.theory.proofs.Lists.{get_d_map, map-append}
use Rattle.theory.proofs.Members.{once_distinct, mem_in, in_mem}
use Rattle.theory.proofs.Packed.{packed-append, packed-within}
use Rattle.theory.proofs.Tests.{by_test}
use Rattle.theory.proofs.Visits.{Starts}

-- ---- leads that lead to a node

abbrev pub meets : Option ℕ → ℕ
meets none = 0
meets (some i) = 1

unfoldable pub meetings : List (Option ℕ) → ℕ
meetings [] = 0
meetings (l ∷ ls) = meets l + meetings ls

pub meetings_append : (a b : List (Option ℕ)) → meetings (a ++ b) ≡ meetings a + meetings b
unfolding meetings
meetings_append [] b = omega arith
meetings_append (l ∷ a) b = let ih = meetings_append a b in omega arith

-- no more than there are leads
pub meets_most : (l : Option ℕ) → meets l ≤ 1
meets_most none = omega arith
meets_most (some i) = omega arith

pub meetings_most : (ls : List (Option ℕ)) → meetings ls ≤ length ls
unfolding meetings
meetings_most [] = omega arith
meetings_most (l ∷ ls) = let ih = meetings_most ls in let m = meets_most l in omega arith

-- the first p leads: one more, and what more leads behind change
pub meetings_next : (ls : List (Option ℕ)) (p : ℕ) → p < length ls
    → meetings (take (suc p) ls) ≡ meetings (take p ls) + meets (get_or ls p none)
unfolding meetings
meetings_next [] p l = absurd (omega arith)
meetings_next (x ∷ ls) zero l = omega arith
meetings_next (x ∷ ls) (suc p) l = let ih = meetings_next ls p (omega arith) in omega arith

pub meetings_first : (a b : List (Option ℕ)) (p : ℕ) → p ≤ length a → meetings (take p (a ++ b)) ≡ meetings (take p a)
unfolding meetings
meetings_first a b zero l = refl
meetings_first [] b (suc p) l = absurd (omega arith)
meetings_first (x ∷ a) b (suc p) l = ap (λ (n : ℕ). meets x + n) (meetings_first a b p (omega arith))

-- ---- the object addresses of words and of objects

module _ (Y : Layout) where
  pub address_meets : (w : ℕ) → is_address w ≡ true → meets (word_leads Y w) ≡ 1
  unfolding word_leads
  address_meets w p = rw p

  pub plain_meets : (w : ℕ) → is_address w ≡ false → meets (word_leads Y w) ≡ 0
  unfolding word_leads
  plain_meets w p = rw p

  pub word_meets : (w : ℕ) → cond (is_address w) 1 0 ≡ meets (word_leads Y w)
  word_meets w =
      ⊎_elim
      (λ (p : is_address w ≡ true). rw (p, address_meets w p))
      (λ (p : is_address w ≡ false). rw (p, plain_meets w p))
      (by_test (is_address w))

  pub words-met : (ws : List ℕ) → addresses_in ws ≡ meetings (map (word_leads Y) ws)
  unfolding addresses_in meetings
  words-met [] = refl
  words-met (w ∷ ws) = let m = word_meets w in let ih = words-met ws in omega arith

  -- fields by their object's kind
  values-met : (ws : List ℕ) → addresses_in ws ≡ meetings (map (cell_leads Y) (map (field_cell Traced) ws))
  unfolding addresses_in meetings
  values-met [] = refl
  values-met (w ∷ ws) = let m = word_meets w in let ih = values-met ws in omega arith

  raws-met : (ws : List ℕ) → 0 ≡ meetings (map (cell_leads Y) (map (field_cell Untraced) ws))
  unfolding meetings
  raws-met [] = refl
  raws-met (w ∷ ws) = raws-met ws ∙ omega arith

  fields-met : (k : Kind) (ws : List ℕ) → cond (is_traced k) (addresses_in ws) 0 ≡ meetings (map (cell_leads Y) (map (field_cell k) ws))
  fields-met Traced ws = values-met ws
  fields-met Untraced ws = raws-met ws

  object-met : (H : List ℕ) (i : ℕ) → addresses_of Y H i ≡ meetings (map (cell_leads Y) (cells Y H i))
  unfolding meetings
  object-met H i = fields-met (kind Y H i) (field_words Y H i) ∙ omega arith

  pub packed-met : (H o : List ℕ) → addresses_among Y H o ≡ meetings (map (cell_leads Y) (packed (cells Y H) o))
  unfolding addresses_among packed meetings
  packed-met H [] = refl
  packed-met H (i ∷ o) =
      ap (λ (n : ℕ). n + addresses_among Y H o) (object-met H i)
      ∙ ap (λ (n : ℕ). meetings (map (cell_leads Y) (cells Y H i)) + n) (packed-met H o)
      ∙ sym (ap meetings (map-append (cell_leads Y) (cells Y H i) (packed (cells Y H) o))
      ∙ meetings_append (map (cell_leads Y) (cells Y H i)) (map (cell_leads Y) (packed (cells Y H) o)))

  -- no more than there are words
  pub words-most : (ws : List ℕ) → addresses_in ws ≤ length ws
  words-most ws = omega (arith, words-met ws, meetings_most (map (word_leads Y) ws), length-map ws (word_leads Y))

  -- the words of an order's objects that are passed, and one more of them, which may bring more objects
  abbrev pub met_among : List ℕ → List ℕ → ℕ → ℕ
  met_among H o p = meetings (take p (map (cell_leads Y) (packed (cells Y H) o)))

  pub passed-met : (H o o' : List ℕ) (p : ℕ) → Starts o o' → p < length (packed (cells Y H) o)
      → met_among H o' (suc p) ≡ met_among H o p + meets (cell_leads Y (get_or (packed (cells Y H) o) p (still 0)))
  passed-met H o o' p q l =
      let ls = map (cell_leads Y) (packed (cells Y H) o) in
      let n : length (map (cell_leads Y) (packed (cells Y H) o)) ≡ length (packed (cells Y H) o) =
      length-map (packed (cells Y H) o) (cell_leads Y) in
      rw (q.1, packed-append (cells Y H) o q.0, map-append (cell_leads Y) (packed (cells Y H) o) (packed (cells Y H) q.0))
      (meetings_first ls (map (cell_leads Y) (packed (cells Y H) q.0)) (suc p) (omega arith)
      ∙ meetings_next ls p (omega arith)
      ∙ ap (λ (x : Option ℕ). meetings (take p ls) + meets x) (get_d_map (cell_leads Y) (packed (cells Y H) o) p (still 0) none l))

  pub passed-most : (H o : List ℕ) (p : ℕ) → met_among H o p ≤ p
  passed-most H o p =
      let ls = map (cell_leads Y) (packed (cells Y H) o) in
      omega (arith, meetings_most (take p ls), length-take p ls)

  -- and all of them
  pub all-met : (H o : List ℕ) (p : ℕ) → length (packed (cells Y H) o) ≤ p → met_among H o p ≡ addresses_among Y H o
  all-met H o p l =
      ap meetings (take_all p (map (cell_leads Y) (packed (cells Y H) o)) (omega (arith, length-map (packed (cells Y H) o) (cell_leads Y))))
      ∙ sym (packed-met H o)

-- ---- sums over a list of nodes

unfoldable total : (ℕ → ℕ) → List ℕ → ℕ
total f [] = 0
total f (i ∷ o) = f i + total f o

-- as so many cells end to end
abbrev so_many : (ℕ → ℕ) → ℕ → List ℕ
so_many f i = replicate (f i) 0

total_packed : (f : ℕ → ℕ) (o : List ℕ) → total f o ≡ length (packed (so_many f) o)
unfolding total packed
total_packed f [] = refl
total_packed f (i ∷ o) =
    let ih = total_packed f o in
    let a = length-append (so_many f i) (packed (so_many f) o) in
    let n : length (so_many f i) ≡ f i = length-replicate (f i) zero in
    omega arith

-- two lists of exactly the same numbers, each once
lists_total : {P : ℕ → Type 0} (f : ℕ → ℕ) (o o' : List ℕ) → Lists P o → Lists P o' → total f o ≡ total f o'
lists_total {P} f o o' l l' =
    let within : (a b : List ℕ) → Lists P a → Lists P b → total f a ≤ total f b =
    λ a b la lb.
    let p = packed-within (so_many f) a b (once_distinct a la.once)
    (λ i m. mem_in i b (lb.reached i (la.listed i (in_mem i a m)))) in
    omega (arith, total_packed f a, total_packed f b) in
    omega (arith, within o o' l l', within o' o l' l)

-- what is 0 of no node, and with one node more is f of it more, is that sum, and so the same of both lists
is_total : (F : List ℕ → ℕ) (f : ℕ → ℕ) → F [] ≡ 0 → ((i : ℕ) (o : List ℕ) → F (i ∷ o) ≡ f i + F o) → (o : List ℕ) → F o ≡ total f o
unfolding total
is_total F f empty more [] = empty
is_total F f empty more (i ∷ o) = more i o ∙ ap (λ (n : ℕ). f i + n) (is_total F f empty more o)

pub sums_same : {P : ℕ → Type 0} (F : List ℕ → ℕ) (f : ℕ → ℕ) → F [] ≡ 0 → ((i : ℕ) (o : List ℕ) → F (i ∷ o) ≡ f i + F o)
    → (o o' : List ℕ) → Lists P o → Lists P o' → F o ≡ F o'
sums_same F f empty more o o' l l' =
    is_total F f empty more o ∙ lists_total f o o' l l' ∙ sym (is_total F f empty more o')
