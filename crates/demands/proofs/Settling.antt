-- Collecting twice settles, of any layout whose addresses lie below the floor and any sound state.
use Prim.Native.Nat.{ℕ, ◌+◌, ◌*◌, ◌-◌, ◌<◌}
use native.Mathlib.Omega.{arith}
use mathlib.Core.Path.{◌≡◌, refl, sym, ap, ◌∙◌, subst}
use mathlib.Core.Logic.{⊎_elim}
use mathlib.Core.Bool.{true, false}
use mathlib.Core.List.{List, map, map-map}
use mathlib.Core.Option.{some}
use lib.ListN.{length, get_or, length-map}
use Rattle.std.specs.Prelude.{Ok}
use Rattle.model.specs.declared.Half.{Half}
use Rattle.model.specs.declared.Half.TheVariants.{A, B}
use Rattle.model.specs.declared.Answer.TheVariants as Says
use Rattle.model.specs.declared.Call.TheVariants as Ask
use Rattle.model.specs.Collection.{Cell, still, value, cells, cell_leads, order, live, counts, collected}
use Rattle.model.specs.Demand2 as D
use Rattle.model.specs.Discovery.{packed, words_before}
use Rattle.model.specs.Headers.{Layout, Adjacent}
use Rattle.model.specs.Images.{image_value, image_cell, image}
use Rattle.model.specs.Objects.{address, index}
use Rattle.model.specs.Sessions.{step, machine}
use Rattle.model.specs.Settling.{Across, WordsAcross, once, twice, thrice, ValueShifted, Moved, Shifted, SettlesBy, Settling}
use Rattle.model.specs.Soundness.{headers, is_value}
use Rattle.model.specs.Values.{is_address}
use Rattle.model.specs.Words.{State, at, half_words, other, first_of, first_word, other_first, free}
use Rattle.theory.proofs.Collected.{live-is, new_length, new_first, new_half, new_free, new_text}
use Rattle.theory.proofs.CollectedSound.{new_sound, new_tiled, becomes, order_reach}
use Rattle.theory.proofs.Deciding.{tests_sound, sound_tests}
use Rattle.theory.proofs.Halves.{other-other}
use Rattle.theory.proofs.Lists.{get_d_map, map_same}
use Rattle.theory.proofs.Members.{In, at_in, mem_in, in_mem}
use Rattle.theory.proofs.Order.{free_in}
use Rattle.theory.proofs.Packed.{find}
use Rattle.theory.proofs.Soundness.{SoundTests}
use Rattle.theory.proofs.Tests.{by_test}
use Rattle.theory.proofs.Tiling.{headers-words}
use Rattle.theory.proofs.Values.{address-leads, value-header}
use Rattle.theory.proofs.WordSorts.{became_stays}
use Rattle.demands.proofs.CollectedAgain.{new, renamed, new_address, new_index, order_closed, roots_new, in_order, packed_new, counts_new}
use Rattle.demands.proofs.Demand2.{collects, collect-sound}
use Rattle.demands.proofs.TellsState.{value-address, header-place, tells_state}

-- ---- on or back

across-first : (h : Half) (S i j : ℕ) → j + first_of S h ≡ i + first_of S (other h) → Across h S i j
across-first A S i j e = omega arith
across-first B S i j e = omega arith

pub across-one : (h : Half) (d i j k : ℕ) → Across h d i j → Across h d i k → j ≡ k
across-one A d i j k a b = omega arith
across-one B d i j k a b = omega arith

across-address : (Y : Layout) (h : Half) (S i j : ℕ) → Across h S i j → Across h (4 * S) (address Y i) (address Y j)
across-address Y A S i j a = omega arith
across-address Y B S i j a = omega arith

-- ---- a sound heap that is met in the order in which its objects stand, and its collection

module _ (Y : Layout) (near : Adjacent Y) (s : State) (h : SoundTests Y s) (met : order Y s ≡ headers Y s) where
  abbrev t : State
  t = collected Y s

  abbrev half : Half
  half = s.«record».half

  abbrev S : ℕ
  S = half_words s.heap

  -- each object goes to the same place of the other half
  copy-place : (i : ℕ) → In i (headers Y s) → D.copy_index Y s i + first_word s ≡ i + other_first s
  copy-place i m =
      let p = header-place Y s h i m in
      let e : words_before (cells Y s.heap) (order Y s) i ≡ words_before (cells Y s.heap) (headers Y s) i =
      ap (λ o. words_before (cells Y s.heap) o i) met in
      omega arith

  copy-across : (i : ℕ) → In i (headers Y s) → WordsAcross s i (D.copy_index Y s i)
  copy-across i m = across-first s.«record».half (half_words s.heap) i (D.copy_index Y s i) (copy-place i m)

  moved : (i j : ℕ) → Moved Y s i j → In i (headers Y s) × (D.copy_index Y s i ≡ j)
  moved i j m =
      let n = mem_in i (headers Y s) m.object in
      (n, across-one half S i (D.copy_index Y s i) j (copy-across i n) m.across)

  reach : (i : ℕ) → In i (headers Y s) → D.Reach Y s i
  reach i m = order_reach Y s h i (rw met m)

  shifted : (w w' : ℕ) → (is_address w ≡ true → In (index Y w) (headers Y s) × (address Y (index Y w) ≡ w)) → D.Became Y s w w'
      → ValueShifted s w w'
  shifted w w' f b = record {
    moves = λ p.
        let q = f p in
        rw (b.moves p)
        (subst (λ z. Across half (4 * S) z (address Y (D.copy_index Y s (index Y w)))) q.1
        (across-address Y half S (index Y w) (D.copy_index Y s (index Y w)) (copy-across (index Y w) q.0)));
    stays = became_stays Y s w w' b;
  }

  -- a value that is an address is that of an object
  named : (w : ℕ) → is_value Y (headers Y s) w ≡ true → is_address w ≡ true → In (index Y w) (headers Y s) × (address Y (index Y w) ≡ w)
  named w v p = (value-header Y (headers Y s) w v p, value-address Y s h w v p)

  headers_new : headers Y t ≡ map (D.copy_index Y s) (headers Y s)
  headers_new = (new_tiled Y s h).1 ∙ ap (map (D.copy_index Y s)) met

  -- all words of the used part are live
  all_live : first_word s + live Y s ≡ free s
  all_live =
      let n = headers-words Y s.heap (free s) (free s - first_word s) (first_word s) (free_in Y s h) h.tiled in
      let e : live Y s ≡ length (packed (cells Y s.heap) (headers Y s)) =
      live-is Y s h ∙ ap (λ o. length (packed (cells Y s.heap) o)) met in
      omega (arith, h.shape.low)

  shifts : Shifted Y s t
  shifts =
      let c = collects Y s h in
      record {
        count = ap length headers_new ∙ length-map (headers Y s) (D.copy_index Y s);
        places = λ k l.
            let m = at_in (headers Y s) k l in
            let e : get_or (headers Y t) k 0 ≡ D.copy_index Y s (get_or (headers Y s) k 0) =
            ap (λ o. get_or o k 0) headers_new ∙ get_d_map (D.copy_index Y s) (headers Y s) k 0 0 l in
            record {
              object = in_mem (get_or (headers Y s) k 0) (headers Y s) m;
              across = rw e (copy-across (get_or (headers Y s) k 0) m);
            };
        header = λ i j m. let q = moved i j m in rw (← q.1) (c.header i (reach i q.0));
        raw_field = λ i j f m k l. let q = moved i j m in rw (← q.1) (c.raw_field i f (reach i q.0) k l);
        value_field = λ i j f m k l.
            let q = moved i j m in
            rw (← q.1)
            (shifted (at s.heap (i + 1 + f)) (at t.heap (D.copy_index Y s i + 1 + f)) (named _ (h.values i f q.0 k l))
            (c.value_field i f (reach i q.0) k l));
        root_count = c.root_count;
        root = λ r l. shifted (at s.roots r) (at t.roots r) (named _ (h.roots r l)) (c.root r l);
        other_half = c.other_half;
        free_index = across-first half S (free s) (free t) (omega (arith, new_free Y s h, all_live));
        same_length = c.same_length;
        cleared = c.cleared;
        same_text = c.same_text;
      }

  -- ---- the image

  value-image : (w : ℕ) → (is_address w ≡ true → In (index Y w) (headers Y s))
      → image_value Y (first_word t) (new Y near s h w) ≡ image_value Y (first_word s) w
  unfolding image_value
  value-image w f =
      ⊎_elim
      (λ (p : is_address w ≡ true).
      let q = copy-place (index Y w) (f p) in
      let d : D.copy_index Y s (index Y w) - first_word t ≡ index Y w - first_word s = omega (arith, new_first Y s h) in
      rw (p, new_address Y near s h w p, new_index Y near s h w p, d) refl)
      (λ (p : is_address w ≡ false). rw (became_stays Y s w (new Y near s h w) (becomes Y s h w) p, p) refl)
      (by_test (is_address w))

  cell_image : (c : Cell) → ((j : ℕ) → cell_leads Y c ≡ some j → In j (headers Y s))
      → image_cell Y (first_word t) (renamed Y near s h c) ≡ image_cell Y (first_word s) c
  cell_image (still w) f = refl
  cell_image (value w) f = value-image w (λ p. f (index Y w) (address-leads Y w p))

  abbrev cs : List Cell
  cs = packed (cells Y s.heap) (headers Y s)

  cells-image : (k : ℕ) → k < length cs
      → image_cell Y (first_word t) (renamed Y near s h (get_or cs k (still 0))) ≡ image_cell Y (first_word s) (get_or cs k (still 0))
  cells-image k l =
      let x = find (cells Y s.heap) (still 0) (headers Y s) k l in
      cell_image (get_or cs k (still 0))
      (λ j e. rw (← met) (order_closed Y near s h x.0 x.1 j (rw met x.2) (ap (cell_leads Y) (sym x.4) ∙ e)))

  image_new : image Y t ≡ image Y s
  unfolding image
  image_new = λ i. record { words = words i; roots = roots i }
    where
      words : (image Y t).words ≡ (image Y s).words
      words =
          ap (map (image_cell Y (first_word t)))
          (packed_new Y near s h ∙ ap (λ o. map (renamed Y near s h) (packed (cells Y s.heap) o)) met)
          ∙ map-map (image_cell Y (first_word t)) (renamed Y near s h) cs
          ∙ map_same (λ c. image_cell Y (first_word t) (renamed Y near s h c)) (image_cell Y (first_word s)) cs (still 0) cells-image

      roots : (image Y t).roots ≡ (image Y s).roots
      roots =
          ap (map (image_value Y (first_word t))) (roots_new Y near s h)
          ∙ map-map (image_value Y (first_word t)) (new Y near s h) s.roots
          ∙ map_same (λ w. image_value Y (first_word t) (new Y near s h w)) (image_value Y (first_word s)) s.roots 0
          (λ r l. value-image (at s.roots r) (λ p. value-header Y (headers Y s) (at s.roots r) (h.roots r l) p))

-- ---- the call, three times

module _ (Y : Layout) (near : Adjacent Y) (s : State) (h : SoundTests Y s) where
  abbrev s₁ : State
  s₁ = collected Y s

  abbrev s₂ : State
  s₂ = collected Y s₁

  abbrev s₃ : State
  s₃ = collected Y s₂

  abbrev h₁ : SoundTests Y s₁
  h₁ = new_sound Y s h

  abbrev h₂ : SoundTests Y s₂
  h₂ = new_sound Y s₁ h₁

  -- the third is in the first's half, and has its image
  third-first : s₃ ≡ s₁
  third-first =
      tells_state Y s₃ s₁ (tests_sound Y s₃ (new_sound Y s₂ h₂)) (tests_sound Y s₁ h₁)
      (new_half Y s₂ h₂ ∙ ap other (new_half Y s₁ h₁) ∙ other-other s₁.«record».half)
      (new_length Y s₂ h₂ ∙ new_length Y s₁ h₁)
      (new_text Y s₂ ∙ new_text Y s₁)
      (image_new Y near s₂ h₂ (in_order Y near s₁ h₁) ∙ image_new Y near s₁ h₁ (in_order Y near s h))

  pub once_is : once (machine Y) s ≡ s₁
  once_is = ap (λ o. o.left) (collect-sound Y s h)

  twice-is : twice (machine Y) s ≡ s₂
  twice-is = ap (once (machine Y)) once_is ∙ ap (λ o. o.left) (collect-sound Y s₁ h₁)

  thrice-is : thrice (machine Y) s ≡ s₃
  thrice-is = ap (once (machine Y)) twice-is ∙ ap (λ o. o.left) (collect-sound Y s₂ h₂)

  settles : SettlesBy Y (machine Y) s
  settles = record {
    shifts =
        subst (λ z. Shifted Y z (twice (machine Y) s)) (sym once_is)
        (subst (Shifted Y s₁) (sym twice-is) (shifts Y near s₁ h₁ (in_order Y near s h)));
    same_image = ap (image Y) twice-is ∙ image_new Y near s₁ h₁ (in_order Y near s h) ∙ sym (ap (image Y) once_is);
    returns = thrice-is ∙ third-first ∙ sym once_is;
    counts = counts Y s;
    first = ap (λ o. o.answer) (collect-sound Y s h);
    second =
        ap (λ z. (step Y Ask.Collect z).answer) once_is ∙ ap (λ o. o.answer) (collect-sound Y s₁ h₁)
        ∙ ap (λ n. Ok (Says.Live n)) (counts_new Y near s h);
    third =
        ap (λ z. (step Y Ask.Collect z).answer) twice-is ∙ ap (λ o. o.answer) (collect-sound Y s₂ h₂)
        ∙ ap (λ n. Ok (Says.Live n)) (counts_new Y near s₁ h₁ ∙ counts_new Y near s h);
  }

pub settling : (Y : Layout) → Adjacent Y → Settling Y (machine Y)
settling Y near s ok = settles Y near s (sound_tests Y s ok)
