-- The tests of the calls decide the conditions of document 01's rows; those of SHAPE, `names` and `sound` are in Deciding.
use Prim.Native.Nat.{ℕ, ◌+◌, ◌%◌, ◌≤◌, ◌<◌}
use native.Mathlib.Omega.{arith}
use mathlib.Core.Path.{◌≡◌, refl, ap}
use mathlib.Core.Logic.{inl, inr, ⊎_elim}
use mathlib.Core.Bool.{Bool, true, false, not}
use mathlib.Core.List.Memᴰ
use mathlib.Core.List.{List, [], ◌∷◌}
use lib.Dec.{ltb, leb}
use lib.IntN.{ℤ, pos, negsuc}
use lib.ListN.{length}
use borrow.Author.Tests.{ltb-true, ltb-false, leb-true, leb-false, not-true, not-false}
use Rattle.model.specs.declared.Kind.{Kind}
use Rattle.model.specs.declared.Kind.TheVariants.{Traced, Untraced}
use Rattle.model.specs.Admission.{no_roots}
use Rattle.model.specs.Calls.{is_of_kind}
use Rattle.model.specs.Changes.{no_root, root_word, spare, fits}
use Rattle.model.specs.Conditions as C
use Rattle.model.specs.Conditions.{Decides}
use Rattle.model.specs.Headers.{Layout}
use Rattle.model.specs.Limits.{max_fields, max_integer, code_floor}
use Rattle.model.specs.Objects.{is_traced, index, kind, field_count, names}
use Rattle.model.specs.Refusals as Row
use Rattle.model.specs.Soundness.{sound}
use Rattle.model.specs.Values.{is_address, is_code, in_range}
use Rattle.model.specs.Words.{State}
use Rattle.theory.proofs.Deciding.{names_decides, sound_decides}
use Rattle.theory.proofs.Objects.{kind-same}
use Rattle.theory.proofs.Tests.{never, same?, decide, or_cases, or-none}
use Rattle.theory.proofs.WordSorts.{address_parts, code_parts, parts_code}

-- ---- roots

pub roots_decide : (s : State) (named : List ℕ) → Decides (no_roots (length s.roots) named) (Row.NoRoot s named)
roots_decide s [] = record { holds = λ e. never e refl; fails = λ e n. Memᴰ.not-nil n.1 }
roots_decide s (r ∷ []) = record {
  holds = λ e. (r, Memᴰ.head refl, leb-true (length s.roots) r e);
  fails = λ e n.
      let l = leb-false (length s.roots) r e in
      ⊎_elim (λ (q : n.0 ≡ r). let z = n.2 in omega arith) (λ m. Memᴰ.not-nil m) (Memᴰ.cases_cons n.1);
}
roots_decide s (r ∷ q ∷ rs) = record {
  holds = λ e.
      ⊎_elim
      (λ x. (r, Memᴰ.head refl, leb-true (length s.roots) r x))
      (λ x. let n = (roots_decide s (q ∷ rs)).holds x in (n.0, Memᴰ.tail n.1, n.2))
      (or_cases (no_root s r) (no_roots (length s.roots) (q ∷ rs)) e);
  fails = λ e n.
      let x = or-none (no_root s r) (no_roots (length s.roots) (q ∷ rs)) e in
      ⊎_elim
      (λ (z : n.0 ≡ r). let l = leb-false (length s.roots) r x.0 in let y = n.2 in omega arith)
      (λ m. (roots_decide s (q ∷ rs)).fails x.1 (n.0, m, n.2))
      (Memᴰ.cases_cons n.1);
}

-- ---- numbers

pub count_decides : (n : ℕ) → Decides (ltb max_fields n) (max_fields < n)
count_decides n = record { holds = ltb-true max_fields n; fails = λ e l. let m = ltb-false max_fields n e in omega arith }

pub range_decides : (v : ℤ) → Decides (not (in_range v)) (Row.OutOfRange v)
range_decides (pos n) = record {
  holds = λ e. leb-false n max_integer (not-true (leb n max_integer) e);
  fails = λ e l. let m = leb-true n max_integer (not-false (leb n max_integer) e) in omega arith;
}
range_decides (negsuc n) = record {
  holds = λ e. leb-false n max_integer (not-true (leb n max_integer) e);
  fails = λ e l. let m = leb-true n max_integer (not-false (leb n max_integer) e) in omega arith;
}

pub code_decides : (w : ℕ) → Decides (not (is_code w)) (Row.NoCode w)
code_decides w = record {
  holds = λ e.
      ⊎_elim
      (λ (l : w < code_floor). inr l)
      (λ (l : code_floor ≤ w).
      ⊎_elim
      (λ (o : w % 2 ≡ 0). never (parts_code w o l) (not-true (is_code w) e))
      (λ (o : w % 2 ≡ 0 → ⊥). inl (omega arith))
      (same? (w % 2) 0))
      (decide w code_floor);
  fails = λ e n.
      let p = code_parts w (not-false (is_code w) e) in
      ⊎_elim (λ (o : w % 2 ≡ 1). let z = p.0 in omega arith) (λ (l : w < code_floor). let z = p.1 in omega arith) n;
}

-- ---- objects

kind-other : (k j : Kind) → is_of_kind k j ≡ false → j ≡ k → ⊥
kind-other Traced j e q = never (ap is_traced q) e
kind-other Untraced j e q = never (not-false (is_traced j) e) (ap is_traced q)

-- a test turned round decides that its condition fails
not_decides : {b : Bool} {P : Type 0} → Decides b P → Decides (not b) (P → ⊥)
not_decides {b} d = record { holds = λ e. d.fails (not-true b e); fails = λ e n. n (d.holds (not-false b e)) }

module _ (Y : Layout) (s : State) (r : ℕ) where
  pub object_decides : Decides (not (names Y s (root_word s r))) (Row.NoObject Y s r)
  object_decides = not_decides (names_decides Y s (root_word s r))

  pub value_decides : is_address (root_word s r) ≡ true → Decides (not (names Y s (root_word s r))) (Row.NoValue Y s r)
  value_decides a =
      let p = address_parts (root_word s r) a in
      record {
        holds = λ e. record { even = p.0; not_null = p.1; below_floor = p.2; names_none = object_decides.holds e };
        fails = λ e n. object_decides.fails e n.names_none;
      }

  module _ (n : names Y s (root_word s r) ≡ true) where
    is-named : C.Names Y s (root_word s r)
    is-named = (names_decides Y s (root_word s r)).holds n

    pub kind_decides : (k : Kind)
        → Decides (not (is_of_kind k (kind Y s.heap (index Y (root_word s r))))) (Row.OtherKind Y s k r)
    kind_decides k = record {
      holds =
          λ e. (
            is-named,
            kind-other k (kind Y s.heap (index Y (root_word s r)))
                (not-true (is_of_kind k (kind Y s.heap (index Y (root_word s r)))) e),
          );
      fails =
          λ e o. o.1 (kind-same k (kind Y s.heap (index Y (root_word s r)))
          (not-false (is_of_kind k (kind Y s.heap (index Y (root_word s r)))) e));
    }

    pub field_decides : (f : ℕ) → Decides (leb (field_count Y s.heap (index Y (root_word s r))) f) (Row.NoField Y s r f)
    field_decides f = record {
      holds = λ e. (is-named, leb-true (field_count Y s.heap (index Y (root_word s r))) f e);
      fails = λ e o. let l = leb-false (field_count Y s.heap (index Y (root_word s r))) f e in let m = o.1 in omega arith;
    }

-- ---- collections

pub unsound_decides : (Y : Layout) (s : State) → Decides (not (sound Y s)) (Row.Unsound Y s)
unsound_decides Y s = not_decides (sound_decides Y s)

-- where a collection is called for
pub called : (n : ℕ) (s : State) → fits (n + 1) s ≡ false → Row.CalledFor n s
called n s e = leb-false (n + 1) (spare s) e

pub uncalled : (n : ℕ) (s : State) → fits (n + 1) s ≡ true → Row.CalledFor n s → ⊥
uncalled n s e c = let l = leb-true (n + 1) (spare s) e in omega arith

pub damaged_decides : (Y : Layout) (n : ℕ) (s : State) → Row.CalledFor n s
    → Decides (not (sound Y s)) (Row.CalledFor n s × Row.Unsound Y s)
damaged_decides Y n s c =
    record { holds = λ e. (c, (unsound_decides Y s).holds e); fails = λ e u. (unsound_decides Y s).fails e u.1 }

pub room_decides : (n : ℕ) (s s' : State) → Row.CalledFor n s
    → Decides (not (fits (n + 1) s')) (Row.CalledFor n s × Row.CalledFor n s')
room_decides n s s' c = record {
  holds = λ e. (c, called n s' (not-true (fits (n + 1) s') e));
  fails = λ e u. uncalled n s' (not-false (fits (n + 1) s') e) u.1;
}
