-- What fresh leaves of any words of a legal length with null roots is sound and stands for the empty graph.
use Prim.Native.Nat.{ℕ, ◌+◌, ◌*◌, ◌-◌, ◌%◌}
use native.Mathlib.Omega.{arith}
use mathlib.Core.Path.{◌≡◌, refl, sym, ap, ◌∙◌, subst}
use mathlib.Core.Bool.{false}
use mathlib.Core.List.{[]}
use lib.ListN.{length, replicate, length-replicate}
use borrow.Author.Tests.{ne_eqb, le-ltb}
use Rattle.model.specs.declared.Answer.TheVariants as Says
use Rattle.model.specs.Answers.{says, refuse}
use Rattle.model.specs.Calls.{fresh, fresh_record}
use Rattle.model.specs.Demand3 as D3
use Rattle.model.specs.Graph.{null, Value, plain, empty_graph}
use Rattle.model.specs.Headers.{Layout}
use Rattle.model.specs.Limits.{max_words}
use Rattle.model.specs.Sessions.{machine}
use Rattle.model.specs.Shape.{bad_length}
use Rattle.model.specs.Soundness.{headers}
use Rattle.model.specs.Words.{State, state_of, with_heap, with_record, half_words}
use Rattle.theory.proofs.Deciding.{tests_sound}
use Rattle.theory.proofs.Lists.{get_d_same}
use Rattle.theory.proofs.Members.{in-nil}
use Rattle.demands.proofs.Placing.{zero-value}
use Rattle.model.specs.Represents.{Represents}
use Rattle.theory.proofs.Soundness.{SoundTests}
use Rattle.theory.proofs.Tiling.{tiles_here, headers_here}

pub fresh_good : (s : State) → bad_length (length s.heap) ≡ false
    → fresh s ≡ says Says.Done (with_record fresh_record (with_heap (replicate (length s.heap) 0) s))
unfolding fresh refuse
fresh_good s e = rw e

-- words lent with null roots and made fresh
module _ (Y : Layout) (e : D3.Session) where
  -- what is begun: the same number of words, all 0, half A, free index 1
  abbrev blank : State
  blank = state_of (replicate (length e.heap) 0) (replicate e.null_roots 0) fresh_record

  pub begun-is : D3.begun (machine Y) e ≡ blank
  begun-is =
      let v = e.halves in
      ap (λ o. o.left)
      (fresh_good (state_of e.heap (replicate e.null_roots 0) e.«record»)
      (rw (
        ne_eqb (length e.heap % 2) 0 (λ z. omega (arith, v.length-is)),
        le-ltb (length e.heap) 3 (omega (arith, v.length-is, v.least)),
        le-ltb max_words (length e.heap) (omega (arith, v.length-is, v.most)),
      )))

  blank-length : length blank.heap ≡ 2 * e.S + 1
  blank-length = length-replicate (length e.heap) 0 ∙ e.halves.length-is

  pub blank-half : half_words blank.heap ≡ e.S
  blank-half = omega (arith, blank-length)

  roots-length : length blank.roots ≡ e.null_roots
  roots-length = length-replicate e.null_roots 0

  blank-sound : SoundTests Y blank
  blank-sound = record {
    shape = record {
      odd = omega (arith, blank-length);
      pos = omega (arith, blank-half, e.halves.least);
      small = omega (arith, blank-half, e.halves.most);
      few = omega (arith, roots-length, e.few);
      low = omega arith;
      high = omega (arith, blank-half);
    };
    null = get_d_same {A = ℕ} (length e.heap) 0 0;
    idle = λ i l k. get_d_same {A = ℕ} (length e.heap) i 0;
    rest = λ i l k. get_d_same {A = ℕ} (length e.heap) i 0;
    tiled = tiles_here Y blank.heap 1 (1 - 1);
    roots = λ r l. rw (get_d_same {A = ℕ} e.null_roots r 0) (zero-value Y (headers Y blank));
    values = λ i f m k l. in-nil i (rw (headers_here Y blank.heap 1 (1 - 1)) at m);
  }

  blank_represents : Represents Y blank (empty_graph e.null_roots)
  blank_represents = record {
    ok = tests_sound Y blank blank-sound;
    kept = [];
    header_of = λ x. x;
    known = λ x i. in-nil x i;
    head = λ x i. in-nil x i;
    apart = λ x y i j q. in-nil x i;
    count = roots-length ∙ sym (length-replicate e.null_roots (plain null));
    roots = λ r l. rw (get_d_same {A = Value} e.null_roots r (plain null)) (refl, get_d_same {A = ℕ} e.null_roots r 0);
    holds = λ x i. in-nil x i;
    text = refl;
  }

  pub begun_represents : Represents Y (D3.begun (machine Y) e) (empty_graph e.null_roots)
  begun_represents = subst (λ s. Represents Y s (empty_graph e.null_roots)) (sym begun-is) blank_represents

  pub begun-half : half_words (D3.begun (machine Y) e).heap ≡ e.S
  begun-half = ap (λ s. half_words s.heap) begun-is ∙ blank-half
