-- What a window answers at a field number, on any words and at any place.
use Prim.Native.Nat.{ℕ, ◌+◌, ◌≤◌, ◌<◌}
use native.Mathlib.Omega.{arith}
use mathlib.Core.Path.{◌≡◌}
use mathlib.Core.List.{List}
use lib.ListN.{length, take, drop, length-take, length-drop}
use lib.Seq.{get_or-take, get_or-drop}
use borrow.Author.Tests.{le-leb, lt-leb}
use Rattle.model.specs.declared.Refusal.{Refusal}
use Rattle.model.specs.declared.Index.{Index}
use Rattle.model.specs.declared.Refusal.TheVariants as Why
use Rattle.std.specs.Prelude.{Ok, Err}
use Rattle.model.specs.declared.Answer.TheVariants as Says
use Rattle.model.specs.Window.{place, window_word}
use Rattle.model.specs.Words.{at}

-- FIELD from the count on and past the end of the words, and else the word itself
module _ (H : List ℕ) (i : Index) (n f : ℕ) where
  pub word_from_count : n ≤ f → window_word H (Ok (place i n)) f ≡ Err Why.Field
  unfolding window_word
  word_from_count l =
      let x = length-take n (drop (i.0 + 1) H) in rw (le-leb (length (take n (drop (i.0 + 1) H))) f (omega arith))

  pub word-past-end : length H ≤ i.0 + 1 + f → window_word H (Ok (place i n)) f ≡ Err Why.Field
  unfolding window_word
  word-past-end l =
      let x = length-take n (drop (i.0 + 1) H) in
      let y = length-drop (i.0 + 1) H in
      rw (le-leb (length (take n (drop (i.0 + 1) H))) f (omega arith))

  -- j is the word's index, however it is reckoned
  pub word-itself : f < n → i.0 + 1 + f < length H → (j : ℕ) → j ≡ i.0 + 1 + f
      → window_word H (Ok (place i n)) f ≡ Ok (Says.Number (at H j))
  unfolding window_word
  word-itself l m j e =
      let x = length-take n (drop (i.0 + 1) H) in
      let y = length-drop (i.0 + 1) H in
      rw (
        lt-leb (length (take n (drop (i.0 + 1) H))) f (omega arith),
        get_or-take n (drop (i.0 + 1) H) f 0 l,
        get_or-drop (i.0 + 1) H f 0,
        e,
      )

pub word_hidden : (H : List ℕ) (k : Refusal) (f : ℕ) → window_word H (Err k) f ≡ Err Why.Field
unfolding window_word
word_hidden H k f = rw (le-leb 0 f (omega arith))
