-- What a word is to its text, by the heap's words and the used part's ends alone, in the order in which the writer tests.
-- The form itself is defined in `model`; the law that joins the two is `writer`'s, in proofs/.
use Rattle.std.specs.Prelude.{ℕ, ◌+◌, ◌-◌, ◌%◌, Bool, cond, ◌&&◌, List, ltb, leb, eqb, take, drop, Result, Ok, Err}
use Rattle.model.specs.declared.Refusal.{Refusal}
use Rattle.model.specs.declared.Refusal.TheVariants as Why
use Rattle.model.specs.Words.{at}
use Rattle.model.specs.Values.{is_odd, is_null, is_code, untag}
use Rattle.model.specs.Headers.{tuple}
use Rattle.model.specs.Objects.{index, field_count, is_traced}
use Rattle.model.specs.Texts.{Form, as_integer, as_tuple, textless}

-- a word names an object of the used part: the tests of `Objects.names` that SHAPE leaves
unfoldable pub named_in : ℕ → ℕ → List ℕ → ℕ → Bool
named_in first free H w =
    let i = index tuple w in
    eqb (w % 4) 0 && (leb first i && ltb i free) && tuple.is_header (at H i) && ltb (field_count tuple H i) (free - i)

unfoldable pub why_unnamed : ℕ → Refusal
why_unnamed w = cond (is_null w) Why.Value (cond (is_code w) Why.Value Why.Object)

-- where the tuple stands that an even word names, or why the word has no text
unfoldable pub tuple_named : ℕ → ℕ → List ℕ → ℕ → Result ℕ Refusal
tuple_named first free H w =
    cond (named_in first free H w)
    (cond (is_traced (tuple.kind_of (at H (index tuple w)))) (Ok (index tuple w)) (Err Why.Value))
    (Err (why_unnamed w))

-- the n words after the one at i
abbrev pub fields_at : List ℕ → ℕ → ℕ → List ℕ
fields_at H i n = take n (drop (i + 1) H)

unfoldable pub form_in : ℕ → ℕ → List ℕ → ℕ → Form ℕ
form_in first free H w =
    let i = index tuple w in
    cond (is_odd w) (as_integer (untag w))
    (cond (named_in first free H w)
    (cond (is_traced (tuple.kind_of (at H i))) (as_tuple (fields_at H i (field_count tuple H i))) (textless Why.Value))
    (textless (why_unnamed w)))
