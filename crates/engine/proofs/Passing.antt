-- One word passed midway in a collection: the scan stands one word further, at the order that the word's visit gives.
use Prim.Native.Nat.{ℕ, suc, ◌+◌, ◌-◌, ◌<◌}
use native.Mathlib.Nat.{add-zero}
use native.Mathlib.Omega.{arith}
use mathlib.Core.Path.{◌≡◌, refl, sym, ap, ◌∙◌, subst}
use mathlib.Core.Logic.{⊎_elim}
use mathlib.Core.List.{List, [], ◌∷◌, ◌++◌, append-nil}
use mathlib.Core.Option.{Option}
use lib.ListN.{length, get_or}
use Rattle.model.specs.Words.{State, at, other_first}
use Rattle.model.specs.Headers.{Layout, Marks}
use Rattle.model.specs.Discovery.{mem, visit, packed}
use Rattle.model.specs.Soundness.{headers}
use Rattle.model.specs.Collection.{Cell, still, value, addresses_in, cells, word_leads, cell_leads, settle}
use Rattle.model.specs.During.{old_word}
use Rattle.theory.proofs.Tests.{same?}
use Rattle.theory.proofs.Members.{In, in_append_right, in_self}
use Rattle.theory.proofs.Visits.{Starts, starts_refl, visit_starts, visit_has}
use Rattle.theory.proofs.Packed.{packed_starts, packed_grows}
use Rattle.theory.proofs.Counting.{meets, words-most, met_among, passed-met, passed-most}
use Rattle.theory.proofs.Soundness.{SoundTests}
use Rattle.theory.proofs.Middle.{visit-none, header-within, distinct_fits, cell_header}
use Rattle.engine_moving.specs.Moving.{counted, addresses_met, MayCount, renamed, MayRename}
use Rattle.engine_scanning.specs.Scanning.{Scan, passed, MayPass}
use Rattle.engine_scanning.proofs.PassingLaws.{passed-header, passed-raw, passed-value}
use Rattle.engine.proofs.Midway.{Midway}
use Rattle.engine.proofs.Advancing.{keep, write}
use Rattle.engine.proofs.Cursors.{Cursor, past_value, past-raw, header_cell, object-fits, past-header}
use Rattle.engine.proofs.Renaming.{Renames, renames}

-- the scan c of the heap h stands past p words of the copies of the order o
pub record Scans (Y : Layout) (s : State) (o : List ℕ) (p : ℕ) (h : List ℕ) (c : Scan) : Type 0 where
  pub mid : Midway Y s o p h
  pub stands : c.at ≡ other_first s + p
  pub free : c.free ≡ other_first s + length (packed (cells Y s.heap) o)
  pub gone : List ℕ
  pub rest : List ℕ
  pub cursor : Cursor Y s.heap o p c.values c.raws gone rest
  -- each object of the order was copied; the addresses of the roots and of the words passed were met
  pub copied : c.tally.copied ≡ length o
  pub met : addresses_met c.tally ≡ addresses_in s.roots + met_among Y s.heap o p

module _ (Y : Layout) (K : Marks Y) (s : State) (v : SoundTests Y s) (o : List ℕ) (p : ℕ) (h : List ℕ) (c : Scan)
    (I : Scans Y s o p h c) (more : c.at < c.free) where
  abbrev H : List ℕ
  H = s.heap

  abbrev t : ℕ
  t = other_first s

  abbrev P : List ℕ → List Cell
  P x = packed (cells Y s.heap) x

  -- the word that is passed
  abbrev here : Cell
  here = get_or (packed (cells Y s.heap) o) p (still 0)

  p_in : p < length (P o)
  p_in = omega (arith, I.stands, I.free)

  word_at : at h c.at ≡ old_word here
  word_at =
      ap (at h) I.stands
      ∙ I.mid.todo p (omega arith) (omega (arith, p_in, distinct_fits Y s v o I.mid.heads I.mid.once))

  abbrev Next : List ℕ → Type 0
  Next x = Scans Y s x (suc p) (passed Y h c).heap (passed Y h c).scan

  -- a word that leads nowhere
  stay : (w : ℕ) → here ≡ still w → o ≡ visit o (cell_leads Y here)
  stay w e = sym (ap (λ (x : Cell). visit o (cell_leads Y x)) e ∙ visit-none o)

  -- and is no address
  met-still : (w : ℕ) → here ≡ still w → addresses_met c.tally ≡ addresses_in s.roots + met_among Y s.heap o (suc p)
  met-still w e =
      let z : meets (cell_leads Y here) ≡ 0 = ap (λ (x : Cell). meets (cell_leads Y x)) e in
      omega (arith, I.met, passed-met Y s.heap o o p (starts_refl o) p_in)

  -- ---- a header

  module _ (zv : c.values ≡ 0) (zr : c.raws ≡ 0) (k : ℕ) (rest : List ℕ) (e : I.rest ≡ k ∷ rest) where
    between : Cursor Y H o p 0 0 I.gone (k ∷ rest)
    between = rw (zv, zr, e) at I.cursor

    hk : In k (headers Y s)
    hk = I.mid.heads k (ap (mem k) between.split ∙ in_append_right k I.gone (k ∷ rest) (in_self k rest))

    head-is : here ≡ still (at H k)
    head-is = header_cell Y H o p I.gone k rest between (header-within Y s v k hk)

    header_at : at h c.at ≡ at H k
    header_at = word_at ∙ ap old_word head-is

    header_may : MayPass Y h c
    header_may = record {
      whole =
          λ a b. omega (
            arith,
            ap (λ (x : ℕ). Y.count_of x) header_at,
            object-fits Y H o p I.gone k rest between (header-within Y s v k hk),
            I.stands,
            I.free,
          );
      moves = λ n. absurd (n zv);
      counts = λ n. absurd (n zv);
    }

    header-next : Next o
    header-next =
        rw (passed-header Y h c zv zr, header_at)
        (record {
          mid = keep Y s v o p h I.mid p_in (at H k) head-is;
          stands = omega (arith, I.stands);
          free = I.free;
          gone = I.gone ++ (k ∷ []);
          rest = rest;
          cursor = past-header Y H o p I.gone k rest between (header-within Y s v k hk);
          copied = I.copied;
          met = met-still (at H k) head-is;
        })

  abbrev Turn : Type 0
  Turn = MayPass Y h c × Next (visit o (cell_leads Y here))

  at-header : c.values ≡ 0 → c.raws ≡ 0 → (l : List ℕ) → I.rest ≡ l → Turn
  at-header zv zr [] e =
      let q : length (P o) ≡ length (P I.gone) = ap (λ (x : List ℕ). length (P x))
      (I.cursor.split ∙ ap (λ (y : List ℕ). I.gone ++ y) e ∙ append-nil I.gone) in
      absurd (omega (arith, p_in, I.cursor.stands))
  at-header zv zr (k ∷ rest) e =
      (header_may zv zr k rest e, subst Next (stay (at H k) (head-is zv zr k rest e)) (header-next zv zr k rest e))

  -- ---- a raw word

  at_raw : c.values ≡ 0 → (c.raws ≡ 0 → ⊥) → Turn
  at_raw zv n =
      let k = I.cursor.others 0 (omega arith) in
      let e : here ≡ still k.0 = ap (λ (y : ℕ). get_or (P o) y (still 0)) (omega arith) ∙ k.1 in (
        record { whole = λ a b. absurd (n b); moves = λ m. absurd (m zv); counts = λ m. absurd (m zv) },
        subst Next (stay k.0 e)
            (rw (passed-raw Y h c zv n)
            (record {
              mid = keep Y s v o p h I.mid p_in k.0 e;
              stands = omega (arith, I.stands);
              free = I.free;
              gone = I.gone;
              rest = I.rest;
              cursor = past-raw Y H o p c.values c.raws I.gone I.rest I.cursor zv n;
              copied = I.copied;
              met = met-still k.0 e;
            })),
      )

  -- ---- a value

  module _ (n : c.values ≡ 0 → ⊥) (w : ℕ) (e : here ≡ value w) where
    abbrev o' : List ℕ
    o' = visit o (word_leads Y w)

    F : Renames Y s o o' p h w (t + length (P o))
    F = renames Y K s v o p h I.mid w (λ i q. cell_header Y s v o I.mid.heads p i p_in (ap (cell_leads Y) e ∙ q))

    w_at : at h c.at ≡ w
    w_at = word_at ∙ ap old_word e

    grown : Starts o o'
    grown = visit_starts o (word_leads Y w)

    here' : get_or (P o') p (still 0) ≡ value w
    here' = packed_starts (cells Y H) (still 0) o o' p grown p_in ∙ e

    value_may : MayRename Y h (at h c.at) c.free
    value_may = rw (w_at, I.free) F.may

    value-met : addresses_met (counted c.tally (renamed Y h w (t + length (P o))).met)
        ≡ addresses_in s.roots + met_among Y s.heap o' (suc p)
    value-met =
        let z : meets (cell_leads Y here) ≡ meets (word_leads Y w) = ap (λ (x : Cell). meets (cell_leads Y x)) e in
        omega (arith, F.met c.tally, I.met, passed-met Y s.heap o o' p grown p_in)

    value-next : Next o'
    value-next =
        rw (passed-value Y h c n, w_at, I.free, I.stands)
        (record {
          mid =
              write Y s v o' p (renamed Y h w (t + length (P o))).heap F.mid
              (omega (arith, p_in, packed_grows (cells Y H) o o' grown))
              (renamed Y h w (t + length (P o))).word
              (F.word ∙ ap (settle Y H o' t) (sym here'))
              (λ i q. subst (λ (l : Option ℕ). In i (visit o l)) (sym (ap (cell_leads Y) (sym here') ∙ q)) (visit_has o i));
          stands = omega arith;
          free = F.free;
          gone = I.gone;
          rest = I.rest ++ grown.0;
          cursor = subst (λ (x : List ℕ). Cursor Y H x (suc p) (c.values - 1) c.raws I.gone (I.rest ++ grown.0)) (sym grown.1)
              (past_value Y H o p c.values c.raws I.gone I.rest I.cursor grown.0 n);
          copied = F.copied c.tally I.copied;
          met = value-met;
        })

  -- what was met is no more than the roots and the words passed
  may_count : MayCount c.tally
  may_count =
      omega (
        arith,
        I.met,
        words-most Y s.roots,
        passed-most Y s.heap o p,
        p_in,
        distinct_fits Y s v o I.mid.heads I.mid.once,
        v.shape.few,
        v.shape.small,
      )

  at_value : (c.values ≡ 0 → ⊥) → Turn
  at_value n =
      let k = I.cursor.fields 0 (omega arith) in
      let e : here ≡ value k.0 = ap (λ (y : ℕ). get_or (P o) y (still 0)) (sym (add-zero p)) ∙ k.1 in (
        record { whole = λ a b. absurd (n a); moves = λ m. value_may n k.0 e; counts = λ m. may_count },
        subst Next (sym (ap (λ (x : Cell). visit o (cell_leads Y x)) e)) (value-next n k.0 e),
      )

  pub turn : MayPass Y h c × Scans Y s (visit o (cell_leads Y (get_or (packed (cells Y s.heap) o) p (still 0)))) (suc p)
      (passed Y h c).heap (passed Y h c).scan
  turn =
      ⊎_elim
      (λ (zv : c.values ≡ 0).
      ⊎_elim (λ (zr : c.raws ≡ 0). at-header zv zr I.rest refl)
      (λ (n : c.raws ≡ 0 → ⊥). at_raw zv n) (same? c.raws 0))
      (λ (n : c.values ≡ 0 → ⊥). at_value n)
      (same? c.values 0)
