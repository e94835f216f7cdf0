-- The roots renamed one after the other, and the parts of a whole collection in a row.
use Prim.Native.Nat.{ℕ, suc, ◌+◌, ◌-◌, ◌<◌}
use native.Mathlib.Numerals.{add-one}
use native.Mathlib.Omega.{arith}
use mathlib.Core.Path.{◌≡◌, refl, sym, ap, ◌∙◌, subst}
use mathlib.Core.List.{List, [], ◌∷◌, ◌++◌, append-nil}
use lib.ListN.{length, get_or, set, take, drop}
use lib.Seq.{take-suc-set, drop-set-lt, drop-cons, append_snoc, drop-length, take-length}
use Rattle.model.specs.Headers.{Layout}
use Rattle.runs.specs.Runs.{cleared}
use Rattle.engine_moving.specs.declared.Tally.{Tally}
use Rattle.engine_moving.specs.Moving.{Left, none_met, counted, MayCount, renamed, MayRename}
use Rattle.engine_scanning.specs.Scanning.{Sweep, swept, ended, between, run}
use Rattle.engine.specs.Evacuation.{Emptied, emptied, root_first, rooted, SafeRoots, scanned, evacuated}

-- what the roots before an index, done, and the outcome of the others make together
abbrev pub joined : List ℕ → Emptied → Emptied
joined p e = emptied e.heap (p ++ e.roots) e.free e.tally

module _ (Y : Layout) where
  -- what the roots leave, once one is renamed and t was met before it
  abbrev after-root : Tally → List ℕ → Left → Emptied
  after-root t rs l = rooted Y l.heap rs l.free (counted t l.met)

  abbrev safe-after : Tally → List ℕ → Left → Type 0
  safe-after t rs l = SafeRoots Y l.heap rs l.free (counted t l.met)

  rooted_cons : (h : List ℕ) (w : ℕ) (rs : List ℕ) (f : ℕ) (t : Tally)
      → rooted Y h (w ∷ rs) f t ≡ root_first (renamed Y h w f).word (after-root t rs (renamed Y h w f))
  unfolding rooted
  rooted_cons h w rs f t = refl

  safe_cons : (h : List ℕ) (w : ℕ) (rs : List ℕ) (f : ℕ) (t : Tally) → SafeRoots Y h (w ∷ rs) f t
      → MayRename Y h w f × MayCount t × safe-after t rs (renamed Y h w f)
  unfolding SafeRoots
  safe_cons h w rs f t p = p

  pub roots-done : (h rs : List ℕ) (f i : ℕ) (t : Tally) → i ≡ length rs
      → joined (take i rs) (rooted Y h (drop i rs) f t) ≡ emptied h rs f t
  unfolding rooted
  roots-done h rs f i t e = rw (e, drop-length rs, take-length rs) (rw (append-nil rs))

  -- root i, those before it renamed
  module _ (h rs : List ℕ) (f i : ℕ) (t : Tally) (more : i < length rs) (safe : SafeRoots Y h (drop i rs) f t) where
    here : MayRename Y h (get_or rs i 0) f × MayCount t × safe-after t (drop (suc i) rs) (renamed Y h (get_or rs i 0) f)
    here = safe_cons h (get_or rs i 0) (drop (suc i) rs) f t (rw (drop-cons rs i 0 more) at safe)

    pub root_may : MayRename Y h (get_or rs i 0) f
    root_may = here.0

    pub root-counts : MayCount t
    root-counts = here.1

    module _ (l : Left) (t' : Tally) (e : l ≡ renamed Y h (get_or rs i 0) f) (n : t' ≡ counted t l.met) where
      pub root-safe : SafeRoots Y l.heap (drop (i + 1) (set rs i l.word)) l.free t'
      root-safe =
          rw (n, add-one i, drop-set-lt (suc i) rs i l.word (omega arith))
          (subst (safe-after t (drop (suc i) rs)) (sym e) here.2)

      pub root_turn : joined (take (i + 1) (set rs i l.word)) (rooted Y l.heap (drop (i + 1) (set rs i l.word)) l.free t')
          ≡ joined (take i rs) (rooted Y h (drop i rs) f t)
      root_turn =
          rw (
            n,
            add-one i,
            drop-set-lt (suc i) rs i l.word (omega arith),
            take-suc-set rs i l.word more,
            drop-cons rs i 0 more,
            rooted_cons h (get_or rs i 0) (drop (suc i) rs) f t,
          )
          (rw (append_snoc (take i rs) l.word, ← e))

  -- ---- roots, scan and clearing, in a row

  -- the first k roots are visited, which are all
  module _ (h rs : List ℕ) (old used new : ℕ) (h₁ rs₁ : List ℕ) (f₁ : ℕ) (t₁ : Tally) (k : ℕ) (all : length rs ≡ k)
      (e : emptied h₁ rs₁ f₁ t₁ ≡ rooted Y h (take k rs) new none_met) where
    pub evacuated-is : (h₂ : List ℕ) (f₂ : ℕ) (t₂ : Tally) (h₃ : List ℕ)
        → swept h₂ f₂ t₂ ≡ ended (run Y (length h₁ - new) h₁ (between new f₁ t₁))
        → h₃ ≡ cleared h₂ old used
        → emptied h₃ (rs₁ ++ drop k rs) f₂ t₂ ≡ evacuated Y h rs old used new
    unfolding evacuated scanned
    evacuated-is h₂ f₂ t₂ h₃ a b =
        let none : drop k rs ≡ [] = ap (λ (n : ℕ). drop n rs) (sym all) ∙ drop-length rs in
        let whole : take k rs ≡ rs = ap (λ (n : ℕ). take n rs) (sym all) ∙ take-length rs in
        let visited = e ∙ ap (λ (l : List ℕ). rooted Y h l new none_met) whole in
        rw (none, append-nil, b, ← visited)
        (ap (λ (x : Sweep). emptied (cleared x.heap old used) rs₁ x.free x.tally) a)
