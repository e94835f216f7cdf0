-- The words of one object passed: its fields one by one, raw words at once; and the next object.
use Prim.Native.Nat.{ℕ, zero, suc, ◌+◌, ◌-◌, ◌≤◌, ◌<◌}
use native.Mathlib.Nat.{add-zero}
use native.Mathlib.Numerals.{add-one}
use native.Mathlib.Omega.{arith}
use mathlib.Core.Path.{◌≡◌, refl, sym, ap, ◌∙◌, subst}
use mathlib.Core.Bool.{true, false}
use mathlib.Core.List.{List}
use lib.ListN.{length}
use Rattle.model.specs.Words.{at}
use Rattle.model.specs.Headers.{Layout}
use Rattle.model.specs.Objects.{is_traced, size}
use Rattle.engine_moving.specs.declared.Met.{Met}
use Rattle.engine_moving.specs.declared.Tally.{Tally}
use Rattle.engine_moving.specs.Moving.{counted, MayCount}
use Rattle.engine_scanning.specs.Scanning.{Scan, scan, between, After, after, swept, ended, stepped, onward, values_of, raws_of}
use Rattle.engine_scanning.specs.Scanning.{field_passed, passed, run, MayPass, SafeRun, MayPassField, MayPassFields}
use Rattle.engine_scanning.specs.Scanning.{MayPassObject}
use Rattle.engine_scanning.proofs.PassingLaws.{passed-header, passed-raw, passed-value, Keeps, passed-keeps}
use Rattle.engine_scanning.proofs.RunLaws.{run-done, run_step, safe-room, turn_may, turn_run, turn_safe, run_at}
use Rattle.engine_scanning.proofs.RunLaws.{run-cut, safe-first, safe-rest, run_length}

module _ (Y : Layout) where
  -- ---- the field at i, those from e on no fields

  module _ (h : List ℕ) (i e f : ℕ) (t : Tally) (more : i < e) (whole : e ≤ f)
      (safe : SafeRun Y (e - i) h (scan i (e - i) 0 f t)) where
    abbrev here : Scan
    here = scan i (e - i) 0 f t

    before : i < f
    before = omega arith

    some_left : e - i ≡ suc (e - (i + 1))
    some_left = omega arith

    values-left : e - i ≡ 0 → ⊥
    values-left z = omega arith

    pub field_may : MayPassField Y h i f
    field_may = record {
      within = omega (arith, safe-room Y (e - i) h here safe);
      moves = (turn_may Y h here before (e - i) (e - (i + 1)) some_left safe).moves values-left;
    }

    pub field-counts : MayCount t
    field-counts = (turn_may Y h here before (e - i) (e - (i + 1)) some_left safe).counts values-left

    module _ (h' : List ℕ) (f' : ℕ) (m : Met) (t' : Tally) (q : stepped h' f' m ≡ field_passed Y h i f) (n : t' ≡ counted t m) where
      step_is : after h' (scan (i + 1) (e - (i + 1)) 0 f' t') ≡ passed Y h here
      step_is =
          let less : e - (i + 1) ≡ e - i - 1 = omega arith in
          ap (λ (x : ℕ). after h' (scan (i + 1) x 0 f' t')) less ∙ ap (λ (y : Tally). after h' (scan (i + 1) (e - i - 1) 0 f' y)) n
          ∙ ap (onward here (e - i - 1) 0) q
          ∙ sym (passed-value Y h here values-left)

      pub field-keeps : Keeps Y h here (after h' (scan (i + 1) (e - (i + 1)) 0 f' t'))
      field-keeps = subst (Keeps Y h here) (sym step_is) (passed-keeps Y h here)

      pub field-run : run Y (e - (i + 1)) h' (scan (i + 1) (e - (i + 1)) 0 f' t') ≡ run Y (e - i) h here
      field-run =
          turn_run Y h here before (e - i) (e - (i + 1)) some_left (after h' (scan (i + 1) (e - (i + 1)) 0 f' t')) step_is

      pub field-safe : SafeRun Y (e - (i + 1)) h' (scan (i + 1) (e - (i + 1)) 0 f' t')
      field-safe =
          turn_safe Y h here before (e - i) (e - (i + 1)) some_left
          (after h' (scan (i + 1) (e - (i + 1)) 0 f' t')) step_is safe

  -- no field left
  pub fields-done : (h : List ℕ) (i e f : ℕ) (t : Tally) → i ≡ e
      → run Y (e - i) h (scan i (e - i) 0 f t) ≡ after h (between e f t)
  unfolding run
  fields-done h i e f t q =
      let none : e - i ≡ 0 = omega arith in
      rw (none, q)

  -- ---- raw words

  skipped : (n : ℕ) (h : List ℕ) (i f : ℕ) (t : Tally) → i + n ≤ f
      → run Y n h (scan i 0 n f t) ≡ after h (between (i + n) f t)
  unfolding run
  skipped zero h i f t l = ap (λ (x : ℕ). after h (between x f t)) (sym (add-zero i))
  skipped (suc n) h i f t l =
      let less : suc n - 1 ≡ n = omega arith in
      run_step Y n h (scan i 0 (suc n) f t) (omega arith)
      ∙ ap (λ (a : After). run Y n a.heap a.scan) (passed-raw Y h (scan i 0 (suc n) f t) refl (λ z. omega arith))
      ∙ ap (λ (x : ℕ). run Y n h (scan (i + 1) 0 x f t)) less
      ∙ skipped n h (i + 1) f t (omega arith)
      ∙ ap (λ (x : ℕ). after h (between x f t)) (omega arith)

  -- ---- the object at i

  module _ (h : List ℕ) (i f : ℕ) (c : Tally) (may : MayPassObject Y h i f c) where
    abbrev n : ℕ
    n = Y.count_of (at h i)

    header_may : MayPass Y h (between i f c)
    header_may = turn_may Y h (between i f c) may.before (size Y h i) n (add-one n) may.safe

    object-whole : i + 1 + n ≤ f
    object-whole = omega (arith, header_may.whole refl refl)

    pub object-within : i < length h
    object-within = omega (arith, may.before, safe-room Y (size Y h i) h (between i f c) may.safe)

    -- where a header of a kind is passed
    module _ (v r : ℕ) (ev : v ≡ values_of Y (at h i)) (er : r ≡ raws_of Y (at h i)) where
      header_is : after h (scan (i + 1) v r f c) ≡ passed Y h (between i f c)
      header_is = rw (ev, er) (sym (passed-header Y h (between i f c) refl refl))

      header-run : run Y n h (scan (i + 1) v r f c) ≡ run Y (size Y h i) h (between i f c)
      header-run =
          turn_run Y h (between i f c) may.before (size Y h i) n (add-one n) (after h (scan (i + 1) v r f c)) header_is

      header-safe : SafeRun Y n h (scan (i + 1) v r f c)
      header-safe =
          turn_safe Y h (between i f c) may.before (size Y h i) n (add-one n)
          (after h (scan (i + 1) v r f c)) header_is may.safe

    module _ (m : ℕ) (count : m ≡ Y.count_of (at h i)) where
      pub fields_may : is_traced (Y.kind_of (at h i)) ≡ true → MayPassFields Y h (i + 1) m f c
      fields_may t = rw count (record { whole = object-whole; safe = header-safe n 0 (rw t) (rw t) })

      -- e is where the code goes on
      pub traced-is : is_traced (Y.kind_of (at h i)) ≡ true → (h' : List ℕ) (e f' : ℕ) (c' : Tally)
          → after h' (between (i + 1 + m) f' c') ≡ run Y m h (scan (i + 1) m 0 f c)
          → e ≡ i + size Y h i → after h' (between e f' c') ≡ run Y (size Y h i) h (between i f c)
      traced-is t h' e f' c' q next =
          ap (λ (x : ℕ). after h' (between x f' c')) (omega arith)
          ∙ q ∙ ap (λ (x : ℕ). run Y x h (scan (i + 1) x 0 f c)) count ∙ header-run n 0 (rw t) (rw t)

    pub untraced-is : is_traced (Y.kind_of (at h i)) ≡ false → (e : ℕ) → e ≡ i + size Y h i
        → after h (between e f c) ≡ run Y (size Y h i) h (between i f c)
    untraced-is t e next =
        ap (λ (x : ℕ). after h (between x f c)) (omega arith)
        ∙ sym (skipped n h (i + 1) f c object-whole) ∙ header-run 0 n (rw t) (rw t)

  -- ---- object after object

  module _ (h : List ℕ) (i f : ℕ) (t : Tally) (more : i < f) (safe : SafeRun Y (length h - i) h (between i f t)) where
    room : f ≤ length h
    room = safe-room Y (length h - i) h (between i f t) safe

    fits : i + size Y h i ≤ f
    fits = (turn_may Y h (between i f t) more (length h - i) (length h - i - 1) (omega (arith, room)) safe).whole refl refl

    fuel : length h - i ≡ size Y h i + (length h - (i + size Y h i))
    fuel = omega (arith, room, fits)

    safe-cut : SafeRun Y (size Y h i + (length h - (i + size Y h i))) h (between i f t)
    safe-cut = subst (λ (k : ℕ). SafeRun Y k h (between i f t)) fuel safe

    pub object_may : MayPassObject Y h i f t
    object_may =
        record { before = more; safe = safe-first Y (size Y h i) (length h - (i + size Y h i)) h (between i f t) safe-cut }

    module _ (h' : List ℕ) (i' f' : ℕ) (t' : Tally) (e : after h' (between i' f' t') ≡ run Y (size Y h i) h (between i f t)) where
      object-length : length h' ≡ length h
      object-length = ap (λ (a : After). length a.heap) e ∙ run_length Y (size Y h i) h (between i f t)

      object-next : i' ≡ i + size Y h i
      object-next = ap (λ (a : After). a.scan.at) e ∙ run_at Y (size Y h i) h (between i f t) fits

      rest-is : length h' - i' ≡ length h - (i + size Y h i)
      rest-is = omega (arith, object-length, object-next)

      pub object_less : length h' - i' < length h - i
      object_less = omega (arith, rest-is, fuel)

      pub object-run : run Y (length h' - i') h' (between i' f' t') ≡ run Y (length h - i) h (between i f t)
      object-run =
          ap (λ (k : ℕ). run Y k h' (between i' f' t')) rest-is
          ∙ ap (λ (a : After). run Y (length h - (i + size Y h i)) a.heap a.scan) e
          ∙ sym (run-cut Y (size Y h i) (length h - (i + size Y h i)) h (between i f t) fits)
          ∙ ap (λ (k : ℕ). run Y k h (between i f t)) (sym fuel)

      pub object-safe : SafeRun Y (length h' - i') h' (between i' f' t')
      object-safe =
          subst (λ (k : ℕ). SafeRun Y k h' (between i' f' t')) (sym rest-is)
          (subst (λ (a : After). SafeRun Y (length h - (i + size Y h i)) a.heap a.scan) (sym e)
          (safe-rest Y (size Y h i) (length h - (i + size Y h i)) h (between i f t) fits safe-cut))

  pub objects-done : (k : ℕ) (h : List ℕ) (i f : ℕ) (t : Tally) → f ≤ i → swept h f t ≡ ended (run Y k h (between i f t))
  objects-done k h i f t d = ap ended (sym (run-done Y k h (between i f t) d))
