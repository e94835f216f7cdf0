-- One object moved and one word renamed: each case of the two, and what they leave.
use Prim.Native.Nat.{ℕ, ◌+◌, ◌≤◌}
use native.Mathlib.Omega.{arith}
use native.Mathlib.Numerals.{add-one}
use mathlib.Core.Path.{◌≡◌, refl, sym, ap, ◌∙◌}
use mathlib.Core.Bool.{true, false}
use mathlib.Core.List.{List}
use lib.ListN.{length, set, length-set}
use Rattle.model.specs.Words.{at}
use Rattle.model.specs.Values.{is_address}
use Rattle.model.specs.Headers.{Layout}
use Rattle.model.specs.Objects.{address, index, size}
use Rattle.std.proofs.lemmas.Bool.{cond_both}
use Rattle.runs.specs.Runs.{copied_run}
use Rattle.runs.proofs.RunLaws.{copied-length, copied_front}
use Rattle.engine_moving.specs.declared.Met.TheVariants.{Plain, Copied, Found}
use Rattle.engine_moving.specs.Moving.{Left, left, moved, relocated, renamed}

module _ (Y : Layout) where
  module _ (h : List ℕ) (i f : ℕ) where
    pub relocated-copied : Y.is_header (at h i) ≡ true
        → relocated Y h i f ≡ left (moved Y h i f) (address Y f) (f + size Y h i) Copied
    unfolding relocated
    relocated-copied e = rw e

    pub relocated-found : Y.is_header (at h i) ≡ false → relocated Y h i f ≡ left h (Y.unmark (at h i)) f Found
    unfolding relocated
    relocated-found e = rw e

    -- the header stored from the register, then the n fields
    run-whole : (n : ℕ) → copied_run (set h f (at h i)) (i + 1) (f + 1) n ≡ copied_run h i f (n + 1)
    run-whole n = copied_front h i f n ∙ ap (copied_run h i f) (sym (add-one n))

    -- from what each call of the step answers
    pub copied_is : (n a m : ℕ) (h₁ : List ℕ) → Y.is_header (at h i) ≡ true → n ≡ Y.count_of (at h i)
        → h₁ ≡ copied_run (set h f (at h i)) (i + 1) (f + 1) n → a ≡ address Y f → m ≡ Y.mark a
        → left (set h₁ i m) a (f + 1 + n) Copied ≡ relocated Y h i f
    copied_is n a m h₁ e en eh ea em =
        let z : f + 1 + n ≡ f + (n + 1) = omega arith in
        rw (relocated-copied e, em, ea, eh, run-whole n, z, en)

    pub found-is : (a : ℕ) → Y.is_header (at h i) ≡ false → a ≡ Y.unmark (at h i) → left h a f Found ≡ relocated Y h i f
    found-is a e ea = rw (relocated-found e, ea)

    relocated-length : length (relocated Y h i f).heap ≡ length h
    unfolding relocated
    relocated-length =
        cond_both (Y.is_header (at h i)) _ _ (λ (l : Left). length l.heap ≡ length h)
        (λ e. simp length-set (copied-length h i f (size Y h i))) (λ e. refl)

    relocated-free : f ≤ (relocated Y h i f).free
    unfolding relocated
    relocated-free = cond_both (Y.is_header (at h i)) _ _ (λ (l : Left). f ≤ l.free) (λ e. omega arith) (λ e. omega arith)

    relocated-some : (relocated Y h i f).met ≡ Plain → ⊥
    unfolding relocated
    relocated-some = cond_both (Y.is_header (at h i)) _ _ (λ (l : Left). l.met ≡ Plain → ⊥) (λ e p. cc) (λ e p. cc)

  module _ (h : List ℕ) (w f : ℕ) where
    pub renamed-address : is_address w ≡ true → renamed Y h w f ≡ relocated Y h (index Y w) f
    unfolding renamed
    renamed-address e = rw e

    pub renamed-plain : is_address w ≡ false → renamed Y h w f ≡ left h w f Plain
    unfolding renamed
    renamed-plain e = rw e

    pub renamed-length : length (renamed Y h w f).heap ≡ length h
    unfolding renamed
    renamed-length =
        cond_both (is_address w) _ _ (λ (l : Left). length l.heap ≡ length h) (λ e. relocated-length h (index Y w) f) (λ e. refl)

    pub renamed-free : f ≤ (renamed Y h w f).free
    unfolding renamed
    renamed-free = cond_both (is_address w) _ _ (λ (l : Left). f ≤ l.free) (λ e. relocated-free h (index Y w) f) (λ e. omega arith)

    -- where no object was met, nothing is changed
    pub renamed_nothing : (renamed Y h w f).met ≡ Plain → renamed Y h w f ≡ left h w f Plain
    unfolding renamed
    renamed_nothing =
        cond_both (is_address w) _ _ (λ (l : Left). l.met ≡ Plain → l ≡ left h w f Plain)
        (λ e p. absurd (relocated-some h (index Y w) f p)) (λ e p. refl)
