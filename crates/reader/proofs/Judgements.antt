-- What a text was judged to be, and what it therefore stands for.
use Prim.Native.Nat.{ℕ}
use native.Mathlib.Omega.{arith}
use mathlib.Core.Path.{◌≡◌, refl}
use mathlib.Core.Bool.{true}
use mathlib.Core.List.{List}
use lib.IntN.{ℤ, pos, negsuc}
use Rattle.std.specs.Prelude.{Ok, Err}
use mir.Syntax.{w32, w64}
use mir.Val.{SFits}
use borrow.Author.Tests.{leb-true}
use Rattle.model.specs.declared.Refusal.{Refusal}
use Rattle.model.specs.Limits.{max_integer}
use Rattle.model.specs.Values.{in_range}
use Rattle.model.specs.Trees.{Forest, leaf, node, tree_words}
use Rattle.model.specs.Reading.{Parsed, tree, broken, parsed}
use Rattle.theory.proofs.ReadJudged.{parsed-text}
use Rattle.reader_judging.specs.declared.Judged.TheVariants.{Integer, Tuple}
use Rattle.reader_judging.specs.Judging.{judged_of}
use Rattle.reader.specs.Planting.{Stands}

-- what the judge answered, and what the bytes therefore are
pub is-integer : (p : Parsed) (v : ℤ) → Ok (Integer v) ≡ judged_of p → p ≡ tree (leaf v)
is-integer (tree (leaf u)) v e = cc
is-integer (tree (node g)) v e = cc
is-integer (broken k) v e = cc

pub is-refused : (p : Parsed) (k : Refusal) → Err k ≡ judged_of p → p ≡ broken k
is-refused (tree (leaf u)) k e = cc
is-refused (tree (node g)) k e = cc
is-refused (broken j) k e = cc

pub is-tuple : (T : List ℕ) (w : ℕ) → Ok (Tuple w) ≡ judged_of (parsed T) → ((g : Forest) × Stands T w g)
is-tuple T w e = let t = split (parsed T) e in (t.0, record { read = t.1; filled = t.2 })
  where
    split : (p : Parsed) → Ok (Tuple w) ≡ judged_of p → ((g : Forest) × (p ≡ tree (node g)) × (w ≡ tree_words (node g)))
    split (tree (leaf u)) e = cc
    split (tree (node g)) e = (g, refl, cc)
    split (broken k) e = cc

-- an integer that is read fits 32 bits, and so 64
pub integer-fits : (T : List ℕ) (v : ℤ) → parsed T ≡ tree (leaf v) → SFits w32 v × SFits w64 v
integer-fits T v e = go v (parsed-text T (leaf v) e).fits
  where
    go : (v : ℤ) → in_range v ≡ true → SFits w32 v × SFits w64 v
    go (pos n) f = let l = leb-true n max_integer f in (record { sfits = omega arith }, record { sfits = omega arith })
    go (negsuc n) f = let l = leb-true n max_integer f in (record { sfits = omega arith }, record { sfits = omega arith })
