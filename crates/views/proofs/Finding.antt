-- Where the object that a root names stands, by the tests before it.
use Prim.Native.Nat.{ℕ}
use mathlib.Core.Path.{◌≡◌, sym}
use mathlib.Core.Bool.{Bool, not, cond}
use Rattle.std.specs.Prelude.{Ok, Err}
use lib.Dec.{leb}
use lib.ListN.{length}
use Rattle.model.specs.declared.Refusal.TheVariants as Why
use Rattle.model.specs.Words.{State}
use Rattle.model.specs.Headers.{Layout}
use Rattle.model.specs.Objects.{index, field_count, names}
use Rattle.model.specs.Shape.{bad_shape}
use Rattle.model.specs.Changes.{root_word}
use Rattle.model.specs.Window.{place, window}

-- i, j and n are read only where no test refuses; i is the header's index as it is answered, j as its word was read
pub window_tests : (Y : Layout) (r : ℕ) (s : State) {shape root unnamed : Bool} {i j n : ℕ} → bad_shape s ≡ shape
    → leb (length s.roots) r ≡ root → not (names Y s (root_word s r)) ≡ unnamed → i ≡ index Y (root_word s r)
    → j ≡ index Y (root_word s r) → n ≡ field_count Y s.heap j
    → cond shape (Err Why.Shape)
    (cond root (Err Why.Root) (cond unnamed (Err Why.Object) (Ok (place (record { 0 = i }) n)))) ≡ window Y r s
unfolding window
window_tests Y r s a b c d e f = simp (a, b, c, d, sym e, sym f)
