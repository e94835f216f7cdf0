-- The writer's refusals: pieces read from the left give the fault at the least place, and there the one of the lowest rank.
use Prim.Native.Nat.{ℕ, ◌≤◌, ◌<◌}
use native.Mathlib.Omega.{arith}
use mathlib.Core.Path.{◌≡◌, refl, sym, ap, ◌∙◌, subst}
use mathlib.Core.Logic.{◌⊎◌, inl, inr, ⊎_elim}
use mathlib.Core.List.{List, [], ◌∷◌}
use lib.ListN.{length}
use Rattle.model.specs.declared.Kind.{Kind}
use Rattle.model.specs.declared.Kind.TheVariants.{Traced, Untraced}
use Rattle.model.specs.declared.Refusal.{Refusal}
use Rattle.model.specs.declared.Refusal.TheVariants as Why
use Rattle.model.specs.Changes.{root_word}
use Rattle.model.specs.Conditions as C
use Rattle.model.specs.Demand1 as D1
use Rattle.model.specs.Headers.{Layout}
use Rattle.model.specs.Objects.{index, kind}
use Rattle.model.specs.Refusals as Row
use Rattle.model.specs.Refusals.{rank, FirstFault}
use Rattle.model.specs.TextFaults as T
use Rattle.model.specs.Texts.{Piece, byte, fault, max_depth, whole, broken, spelled}
use Rattle.model.specs.Words.{State}
use Rattle.theory.proofs.Shape.{Shaped}
use Rattle.theory.proofs.Tests.{decide}
use Rattle.theory.proofs.Texts.{whole-fits}
use Rattle.demands.proofs.TextFaults.{pieces, all, here, inside_cut, stands-cut, pieces_deep, pieces_raw, pieces_no_text, pieces_no_kind}
use Rattle.demands.proofs.TextPlaces.{Cut, Stop, at_fault, at_room, stops, whole_is, cut-order, cut-same, spelt-cut}

-- ---- faults that have places

-- one refusal is the first
pub first-rank : (Faults : ℕ → Refusal → Type 0) (j k : Refusal) → FirstFault Faults j → FirstFault Faults k → rank j ≡ rank k
first-rank Faults j k a b =
    ⊎_elim
    (λ (x : a.place < b.place).
    ⊎_elim (λ (y : b.place < a.place). absurd (omega arith)) (λ (y : (b.place ≡ a.place) × (rank k ≤ rank j)). absurd (let z = y.0 in omega arith))
    (b.first a.place j a.is_fault))
    (λ (x : (a.place ≡ b.place) × (rank j ≤ rank k)).
    ⊎_elim (λ (y : b.place < a.place). absurd (let z = x.0 in omega arith))
    (λ (y : (b.place ≡ a.place) × (rank k ≤ rank j)). let z = x.1 in let v = y.1 in omega arith)
    (b.first a.place j a.is_fault))
    (a.first b.place k b.is_fault)

module _ (Y : Layout) (s : State) (h : Shaped s) (r : ℕ) where
  abbrev room : ℕ
  room = length s.text

  abbrev ps : List Piece
  ps = all Y s h r

  -- a fault stands among the pieces, or a byte where the bytes run out
  data Seen (p : ℕ) (j : Refusal) : Type 0 where
    as_fault : (i : Refusal) (ys : List Piece) → rank i ≤ rank j → Cut ps p (fault i ∷ ys) → Seen p j
    as_room : (b : ℕ) (ys : List Piece) → j ≡ Why.Text → p ≡ room → Cut ps p (byte b ∷ ys) → Seen p j

  -- the only piece of a word that has no text
  sole : {w d p : ℕ} (k : Refusal) → T.Begins Y s r w d p → pieces Y s d w ≡ fault k ∷ [] → (ys : List Piece) × Cut ps p (fault k ∷ ys)
  sole {w} {d} {p} k b e =
      let c = inside_cut Y s h r b (record { bytes = []; is = e; count = refl }) in
      (c.0, subst (λ z. Cut ps z (fault k ∷ c.0)) (omega arith) c.1)

  seen-deep : {w p : ℕ} → T.Begins Y s r w 0 p → C.Names Y s w → (k : Kind) → kind Y s.heap (index Y w) ≡ k → Seen p Why.Deep
  seen-deep {w} b n Traced e =
      let c = sole Why.Deep b (pieces_deep Y s w (record { named = n; traced = e })) in
      as_fault Why.Deep c.0 (omega arith) c.1
  seen-deep {w} b n Untraced e =
      let c = sole Why.Value b (pieces_raw Y s 0 w n e) in
      as_fault Why.Value c.0 (omega arith) c.1

  seen : {p : ℕ} {j : Refusal} → T.Fault Y s r p j → Seen p j
  seen (T.object {w} {d} b n) =
      let c = sole Why.Object b (pieces_no_kind Y s d w n) in
      as_fault Why.Object c.0 (omega arith) c.1
  seen (T.value {w} {d} b n) =
      let c = sole Why.Value b (pieces_no_text Y s d w n) in
      as_fault Why.Value c.0 (omega arith) c.1
  seen (T.deep {w} b n) = seen-deep b n _ refl
  seen (T.text t) = let c = stands-cut Y s h r t in as_room c.0 c.1 refl refl c.2

  -- each is one of the four
  fault-rank : {p : ℕ} {k : Refusal} → T.Fault Y s r p k → rank k ≤ rank Why.Text
  fault-rank (T.object b n) = omega arith
  fault-rank (T.value b n) = omega arith
  fault-rank (T.deep b n) = omega arith
  fault-rank (T.text t) = omega arith

  fault-byte : {A : Type 0} (k : Refusal) (b : ℕ) → fault k ≡ byte b → A
  fault-byte k b e = let z : ◌≡◌ {A = ℕ} 0 1 = cc in absurd (omega arith)

  fault-same : (j k : Refusal) → fault j ≡ fault k → j ≡ k
  fault-same j k e = cc

  -- of a place that is no earlier: later, or there by rank
  later : (m p : ℕ) (k j : Refusal) → m ≤ p → (m ≡ p → rank k ≤ rank j) → (m < p) ⊎ ((m ≡ p) × (rank k ≤ rank j))
  later m p k j l f =
      ⊎_elim (λ (a : m < p). inl a) (λ (a : p ≤ m). let e : m ≡ p = omega arith in inr (e, f e)) (decide m p)

  -- where reading stops at a fault
  fault-first : (m : ℕ) (k : Refusal) (ys : List Piece) → Cut ps m (fault k ∷ ys) → m ≤ room → T.Fault Y s r m k
      → (p : ℕ) (j : Refusal) → Seen p j → (m < p) ⊎ ((m ≡ p) × (rank k ≤ rank j))
  fault-first m k ys c l f p j (as_fault i zs q d) =
      later m p k j (cut-order d c)
      (λ e. let z = fault-same k i (cut-same c d e) in let y = ap rank z in omega arith)
  fault-first m k ys c l f p j (as_room b zs t e d) =
      later m p k j (omega arith) (λ q. let z = ap rank t in omega (arith, fault-rank f))

  -- where the bytes run out
  room-first : (b : ℕ) (ys : List Piece) → Cut ps room (byte b ∷ ys) → (p : ℕ) (j : Refusal) → Seen p j
      → (room < p) ⊎ ((room ≡ p) × (rank Why.Text ≤ rank j))
  room-first b ys c p j (as_fault i zs q d) =
      later room p Why.Text j (cut-order d c) (λ e. fault-byte i b (cut-same d c (sym e)))
  room-first b ys c p j (as_room a zs t e d) = inr (sym e, (let z = ap rank t in omega arith))

  pub first-fault : (k : Refusal) → spelled room ps ≡ broken k → FirstFault (T.Fault Y s r) k
  first-fault k e = go (stops room ps k e)
    where
      go : Stop room ps k → FirstFault (T.Fault Y s r) k
      go (at_fault m ys c l) =
          let f : T.Fault Y s r m k =
          subst (λ z. T.Fault Y s r z k) (omega (arith, c.count)) (here Y s h r max_depth (root_word s r) 0 T.root c.bytes (fault k) ys c.is) in
          record { place = m; is_fault = f; first = λ p j g. fault-first m k ys c l f p j (seen g) }
      go (at_room b ys c t) =
          let u : T.Stands Y s r room =
          subst (T.Stands Y s r) (omega (arith, c.count)) (here Y s h r max_depth (root_word s r) 0 T.root c.bytes (byte b) ys c.is) in
          subst (FirstFault (T.Fault Y s r)) (sym t)
          (record { place = room; is_fault = T.text u; first = λ p j g. room-first b ys c p j (seen g) })

  pub no_faults : (bs : List ℕ) → spelled room ps ≡ whole bs → (p : ℕ) (j : Refusal) → T.Fault Y s r p j → ⊥
  no_faults bs e p j f = go (seen f)
    where
      go : Seen p j → ⊥
      go (as_fault i ys q c) =
          (spelt-cut bs c.bytes (fault i) ys (sym (whole_is room ps bs e) ∙ c.is)).0
      go (as_room b ys t q c) =
          let l = (spelt-cut bs c.bytes (byte b) ys (sym (whole_is room ps bs e) ∙ c.is)).1 in
          let m = whole-fits room ps bs e in
          omega (arith, c.count)

  -- ---- the rows

  abbrev rows : List Row.Row
  rows =
      Row.fault_row (T.Fault Y s r) Why.Object ∷ Row.fault_row (T.Fault Y s r) Why.Value
      ∷ Row.fault_row (T.Fault Y s r) Why.Deep ∷ Row.fault_row (T.Fault Y s r) Why.Text ∷ []

  not_first : (j k : Refusal) → FirstFault (T.Fault Y s r) k → (rank j ≡ rank k → ⊥) → FirstFault (T.Fault Y s r) j → ⊥
  not_first j k f n g = n (first-rank (T.Fault Y s r) j k g f)

  first-row : {p : ℕ} {k : Refusal} → FirstFault (T.Fault Y s r) k → T.Fault Y s r p k → D1.First rows k
  first-row f (T.object b n) = inl (f, refl)
  first-row f (T.value b n) = inr (not_first Why.Object Why.Value f (λ e. omega arith), inl (f, refl))
  first-row f (T.deep b n) =
      inr (not_first Why.Object Why.Deep f (λ e. omega arith), inr (not_first Why.Value Why.Deep f (λ e. omega arith), inl (f, refl)))
  first-row f (T.text t) =
      inr (
        not_first Why.Object Why.Text f (λ e. omega arith),
        inr (
          not_first Why.Value Why.Text f (λ e. omega arith),
          inr (not_first Why.Deep Why.Text f (λ e. omega arith), inl (f, refl)),
        ),
      )

  pub broken-row : (k : Refusal) → spelled room ps ≡ broken k → D1.First rows k
  broken-row k e = let f = first-fault k e in first-row f f.is_fault

  pub whole-none : (bs : List ℕ) → spelled room ps ≡ whole bs → D1.None rows
  whole-none bs e =
      let n : (j : Refusal) → FirstFault (T.Fault Y s r) j → ⊥ = λ j f. no_faults bs e f.place j f.is_fault in
      (n Why.Object, (n Why.Value, (n Why.Deep, (n Why.Text, tt))))

  pub broken-not-room : (k : Refusal) → spelled room ps ≡ broken k → k ≡ Why.Room → ⊥
  broken-not-room k e q =
      let f = first-fault k e in let l = fault-rank f.is_fault in omega (arith, ap rank q)
