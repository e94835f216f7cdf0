-- The pieces of a tuple by their places: what stands before a part, and in or after which part a piece stands.
use Prim.Native.Nat.{ℕ, zero, suc, ◌+◌, ◌≤◌, ◌<◌}
use native.Mathlib.Omega.{arith}
use mathlib.Core.Path.{◌≡◌, refl, sym, ap, ◌∙◌}
use mathlib.Core.Logic.{◌⊎◌, inl, inr, ⊎_elim}
use mathlib.Core.List.{List, [], ◌∷◌, ◌++◌, map, append_assoc}
use lib.ListN.{length, take, drop, length-append, length-take}
use lib.Seq.{split_at}
use Rattle.model.specs.declared.Refusal.{Refusal}
use Rattle.model.specs.declared.Refusal.TheVariants as Why
use Rattle.model.specs.Texts.{Piece, byte, fault, opener, closer, comma, one_opener, one_closer, joined, enclosed}
use Rattle.model.specs.Texts.{whole, broken, spelled}
use Rattle.model.specs.TextFaults.{lead, spread}
use Rattle.model.specs.Words.{at}
use Rattle.theory.proofs.Lists.{map-append}
use Rattle.theory.proofs.Texts.{behind-whole, behind-broken}

-- bytes as pieces
abbrev pub spelt : List ℕ → List Piece
spelt bs = map byte bs

-- lists and pieces that are equal, by their parts
head-is : {x y : Piece} {xs ys : List Piece} → x ∷ xs ≡ y ∷ ys → x ≡ y
head-is e = cc

tail_is : {x y : Piece} {xs ys : List Piece} → x ∷ xs ≡ y ∷ ys → xs ≡ ys
tail_is e = cc

cons_is : {A : Type 0} {x y : A} {xs ys : List A} → x ≡ y → xs ≡ ys → x ∷ xs ≡ y ∷ ys
cons_is e f = cc

no_cons : {A : Type 0} {x : Piece} {xs : List Piece} → [] ≡ x ∷ xs → A
no_cons e = let z : ◌≡◌ {A = ℕ} 0 1 = cc in absurd (omega arith)

byte-same : {a b : ℕ} → byte a ≡ byte b → a ≡ b
byte-same e = cc

no_byte : {A : Type 0} {b : ℕ} {k : Refusal} → byte b ≡ fault k → A
no_byte e = let z : ◌≡◌ {A = ℕ} 0 1 = cc in absurd (omega arith)

pub spelt-append : (a b : List ℕ) → spelt (a ++ b) ≡ spelt a ++ spelt b
spelt-append a b = map-append byte a b

-- ---- n bytes stand before some pieces

pub record Cut (ps : List Piece) (n : ℕ) (rest : List Piece) : Type 0 where
  pub bytes : List ℕ
  pub is : ps ≡ spelt bytes ++ rest
  pub count : length bytes ≡ n

pub cut-then : {ps qs rs : List Piece} {m n : ℕ} → Cut ps m qs → Cut qs n rs → Cut ps (m + n) rs
cut-then {ps} {qs} {rs} c d = record {
  bytes = c.bytes ++ d.bytes;
  is = c.is ∙ ap (λ x. spelt c.bytes ++ x) d.is ∙ sym (append_assoc (spelt c.bytes) (spelt d.bytes) rs)
      ∙ ap (λ x. x ++ rs) (sym (spelt-append c.bytes d.bytes));
  count = length-append c.bytes d.bytes ∙ omega (arith, c.count, d.count);
}

pub cut-more : {ps qs : List Piece} {n : ℕ} (rs : List Piece) → Cut ps n qs → Cut (ps ++ rs) n (qs ++ rs)
cut-more {ps} {qs} rs c = record {
  bytes = c.bytes;
  is = ap (λ x. x ++ rs) c.is ∙ append_assoc (spelt c.bytes) qs rs;
  count = c.count;
}

-- ---- from the parts to the pieces

-- texts with a comma before each
abbrev commas : List (List ℕ) → List ℕ
commas [] = []
commas (t ∷ ts) = comma ∷ (t ++ commas ts)

commas_length : (ts : List (List ℕ)) → length (commas ts) ≡ spread ts
commas_length [] = refl
commas_length (t ∷ ts) = let ih = commas_length ts in let a = length-append t (commas ts) in omega arith

joined-spelt : (ts : List (List ℕ)) (qs : List (List Piece))
    → joined byte (map spelt ts ++ qs) ≡ spelt (commas ts) ++ joined byte qs
unfolding joined
joined-spelt [] qs = refl
joined-spelt (t ∷ ts) qs =
    ap (λ x. byte comma ∷ (spelt t ++ x)) (joined-spelt ts qs)
    ∙ ap (λ x. byte comma ∷ x)
    (sym (append_assoc (spelt t) (spelt (commas ts)) (joined byte qs)) ∙ ap (λ x. x ++ joined byte qs) (sym (spelt-append t (commas ts))))

-- two parts or more
enclosed-more : (p : List Piece) (ps : List (List Piece)) → 1 ≤ length ps → enclosed byte (p ∷ ps) ≡ byte opener ∷ (p ++ joined byte ps)
unfolding enclosed
enclosed-more p [] l = absurd (omega arith)
enclosed-more p (q ∷ ps) l = refl

lead-more : (n : ℕ) → 2 ≤ n → lead n ≡ 1
lead-more zero l = absurd (omega arith)
lead-more (suc zero) l = absurd (omega arith)
lead-more (suc (suc n)) l = refl

-- a part after some that are bytes
pub before-part : (ts : List (List ℕ)) (q : List Piece) (qs : List (List Piece))
    → (ys : List Piece) × Cut (enclosed byte (map spelt ts ++ (q ∷ qs))) (lead (length ts + suc (length qs)) + spread ts) (q ++ ys)
unfolding enclosed joined
before-part [] q [] = (byte one_closer ∷ [], record { bytes = one_opener; is = refl; count = refl })
before-part [] q (r ∷ qs) = (
  joined byte (r ∷ qs),
  record {
    bytes = opener ∷ [];
    is = refl;
    count = omega (arith, lead-more (0 + suc (suc (length qs))) (omega arith));
  },
)
before-part (t ∷ ts) q qs = (
  joined byte qs,
  record {
    bytes = opener ∷ (t ++ (commas ts ++ (comma ∷ [])));
    is = enclosed-more (spelt t) (map spelt ts ++ (q ∷ qs)) (let a = length-append (map spelt ts) (q ∷ qs) in omega arith)
        ∙ ap (λ x. byte opener ∷ (spelt t ++ x)) (joined-spelt ts (q ∷ qs))
        ∙ simp (map-append, append_assoc);
    count =
        let a = length-append t (commas ts ++ (comma ∷ [])) in
        let b = length-append (commas ts) (comma ∷ []) in
        omega (arith, commas_length ts, lead-more (suc (length ts) + suc (length qs)) (omega arith));
  },
)

-- the byte after a part
pub after-part : (t : List ℕ) (ts : List (List ℕ)) (qs : List (List Piece))
    → (b : ℕ) × (ys : List Piece)
    × Cut (enclosed byte (map spelt (t ∷ ts) ++ qs)) (lead (suc (length ts) + length qs) + (length t + spread ts)) (byte b ∷ ys)
unfolding enclosed joined
after-part t [] [] = (
  one_closer,
  [],
  record {
    bytes = one_opener ++ t;
    is = refl;
    count = let a = length-append one_opener t in omega arith;
  },
)
after-part t ts (q ∷ qs) = (
  comma,
  q ++ joined byte qs,
  record {
    bytes = opener ∷ (t ++ commas ts);
    is = enclosed-more (spelt t) (map spelt ts ++ (q ∷ qs)) (let a = length-append (map spelt ts) (q ∷ qs) in omega arith)
        ∙ ap (λ x. byte opener ∷ (spelt t ++ x)) (joined-spelt ts (q ∷ qs))
        ∙ simp (map-append, append_assoc);
    count =
        let a = length-append t (commas ts) in
        omega (arith, commas_length ts, lead-more (suc (length ts) + suc (length qs)) (omega arith));
  },
)
after-part t (u ∷ ts) [] = (
  closer,
  [],
  record {
    bytes = opener ∷ (t ++ commas (u ∷ ts));
    is = ap (λ x. byte opener ∷ (spelt t ++ x)) (joined-spelt (u ∷ ts) [])
        ∙ simp (map-append, append_assoc);
    count =
        let a = length-append t (commas (u ∷ ts)) in
        omega (arith, commas_length (u ∷ ts), lead-more (suc (suc (length ts)) + 0) (omega arith));
  },
)

-- a byte of the opener, and the closer of ()
pub opener-part : (ps : List (List Piece)) (i : ℕ) → i < lead (length ps)
    → (b : ℕ) × (ys : List Piece) × Cut (enclosed byte ps) i (byte b ∷ ys)
unfolding enclosed
opener-part [] zero l = (opener, _, record { bytes = []; is = refl; count = refl })
opener-part [] (suc i) l = absurd (omega arith)
opener-part (p ∷ []) zero l = (123, _, record { bytes = []; is = refl; count = refl })
opener-part (p ∷ []) (suc zero) l = (49, _, record { bytes = 123 ∷ []; is = refl; count = refl })
opener-part (p ∷ []) (suc (suc zero)) l = (61, _, record { bytes = 123 ∷ 49 ∷ []; is = refl; count = refl })
opener-part (p ∷ []) (suc (suc (suc i))) l = absurd (omega arith)
opener-part (p ∷ q ∷ ps) zero l = (opener, _, record { bytes = []; is = refl; count = refl })
opener-part (p ∷ q ∷ ps) (suc i) l = absurd (omega arith)

pub unit_closer : Cut (enclosed byte []) 1 (byte closer ∷ [])
unfolding enclosed
unit_closer = record { bytes = opener ∷ []; is = refl; count = refl }

-- ---- from the pieces to the parts

-- a piece behind bytes of two lists stands in the first, or the first is bytes
split : (p q : List Piece) (bs : List ℕ) (x : Piece) (ys : List Piece) → p ++ q ≡ spelt bs ++ (x ∷ ys)
    → ((zs : List Piece) × (p ≡ spelt bs ++ (x ∷ zs)))
    ⊎ ((t : List ℕ) × (cs : List ℕ) × (bs ≡ t ++ cs) × (p ≡ spelt t) × (q ≡ spelt cs ++ (x ∷ ys)))
split [] q bs x ys e = inr ([], bs, refl, refl, e)
split (y ∷ p) q [] x ys e = inl (p, cons_is (head-is e) refl)
split (y ∷ p) q (b ∷ bs) x ys e =
    ⊎_elim
    (λ (u : (zs : List Piece) × (p ≡ spelt bs ++ (x ∷ zs))). inl (u.0, cons_is (head-is e) u.1))
    (λ (u : (t : List ℕ) × (cs : List ℕ) × (bs ≡ t ++ cs) × (p ≡ spelt t) × (q ≡ spelt cs ++ (x ∷ ys))).
    inr (b ∷ u.0, u.1, ap (λ z. b ∷ z) u.2, cons_is (head-is e) u.3, u.4))
    (split p q bs x ys (tail_is e))

abbrev pub IsByte : Piece → Type 0
IsByte (byte b) = Unit {0}
IsByte (fault k) = ⊥

-- where a piece with n bytes before it stands in a tuple of such parts
pub data Where (ps : List (List Piece)) (x : Piece) (n : ℕ) : Type 0 where
  in_opener : n < lead (length ps) → IsByte x → Where ps x n
  in_part : (ts : List (List ℕ)) (q : List Piece) (qs : List (List Piece)) (bs : List ℕ) (zs : List Piece) → ps ≡ map spelt ts ++ (q ∷ qs)
      → q ≡ spelt bs ++ (x ∷ zs) → n ≡ lead (length ps) + spread ts + length bs → Where ps x n
  after_part : (t : List ℕ) (ts : List (List ℕ)) (qs : List (List Piece)) → ps ≡ map spelt (t ∷ ts) ++ qs
      → n ≡ lead (length ps) + (length t + spread ts) → IsByte x → Where ps x n
  in_unit : ps ≡ [] → n ≡ 1 → IsByte x → Where ps x n

byte-is : (b : ℕ) (x : Piece) → byte b ≡ x → IsByte x
byte-is b (byte c) e = tt
byte-is b (fault k) e = no_byte e

none_left : (bs : List ℕ) (x : Piece) (ys : List Piece) → [] ≡ spelt bs ++ (x ∷ ys) → ⊥
none_left [] x ys e = no_cons e
none_left (b ∷ bs) x ys e = no_cons e

snoc_spread : (ts : List (List ℕ)) (t : List ℕ) → spread (ts ++ (t ∷ [])) ≡ spread ts + (length t + 1)
snoc_spread [] t = omega arith
snoc_spread (u ∷ ts) t = let ih = snoc_spread ts t in omega arith

-- behind a first part that is bytes, and others
located_joined : (ps : List (List Piece)) (n : ℕ) (x : Piece) (ys : List Piece) (qs : List (List Piece)) (t : List ℕ)
    (ts : List (List ℕ)) (bs : List ℕ)
    → ps ≡ map spelt (t ∷ ts) ++ qs
    → n ≡ lead (length ps) + (length t + spread ts) + length bs
    → joined byte qs ≡ spelt bs ++ (x ∷ ys)
    → Where ps x n
unfolding joined
located_joined ps n x ys [] t ts [] a c e = after_part t ts [] a (c ∙ omega arith) (byte-is closer x (head-is e))
located_joined ps n x ys [] t ts (b ∷ bs) a c e = absurd (none_left bs x ys (tail_is e))
located_joined ps n x ys (q ∷ qs) t ts [] a c e = after_part t ts (q ∷ qs) a (c ∙ omega arith) (byte-is comma x (head-is e))
located_joined ps n x ys (q ∷ qs) t ts (b ∷ bs) a c e =
    ⊎_elim
    (λ (u : (zs : List Piece) × (q ≡ spelt bs ++ (x ∷ zs))).
    in_part (t ∷ ts) q qs bs u.0 a u.1 (c ∙ omega arith))
    (λ (u : (t' : List ℕ) × (cs : List ℕ) × (bs ≡ t' ++ cs) × (q ≡ spelt t') × (joined byte qs ≡ spelt cs ++ (x ∷ ys))).
    located_joined ps n x ys qs t (ts ++ (u.0 ∷ [])) u.1
    (a ∙ ap (λ z. spelt t ∷ z)
    (ap (λ z. map spelt ts ++ (z ∷ qs)) u.3 ∙ sym (append_assoc (map spelt ts) (spelt u.0 ∷ []) qs)
    ∙ ap (λ z. z ++ qs) (sym (map-append spelt ts (u.0 ∷ [])))))
    (c ∙ (let l = ap length u.2 in let m = length-append u.0 u.1 in omega (arith, snoc_spread ts u.0)))
    u.4)
    (split q (joined byte qs) bs x ys (tail_is e))

pub located : (ps : List (List Piece)) (bs : List ℕ) (x : Piece) (ys : List Piece) → enclosed byte ps ≡ spelt bs ++ (x ∷ ys)
    → Where ps x (length bs)
unfolding enclosed
located [] [] x ys e = in_opener (omega arith) (byte-is opener x (head-is e))
located [] (b ∷ []) x ys e = in_unit refl refl (byte-is closer x (head-is (tail_is e)))
located [] (b ∷ c ∷ bs) x ys e = absurd (none_left bs x ys (tail_is (tail_is e)))
located (p ∷ []) [] x ys e = in_opener (omega arith) (byte-is 123 x (head-is e))
located (p ∷ []) (b ∷ []) x ys e = in_opener (omega arith) (byte-is 49 x (head-is (tail_is e)))
located (p ∷ []) (b ∷ c ∷ []) x ys e = in_opener (omega arith) (byte-is 61 x (head-is (tail_is (tail_is e))))
located (p ∷ []) (b ∷ c ∷ d ∷ bs) x ys e =
    ⊎_elim
    (λ (u : (zs : List Piece) × (p ≡ spelt bs ++ (x ∷ zs))). in_part [] p [] bs u.0 refl u.1 (omega arith))
    (λ (u : (t : List ℕ) × (cs : List ℕ) × (bs ≡ t ++ cs) × (p ≡ spelt t) × (byte one_closer ∷ [] ≡ spelt cs ++ (x ∷ ys))).
    only u.0 u.1 u.2 u.3 u.4)
    (split p (byte one_closer ∷ []) bs x ys (tail_is (tail_is (tail_is e))))
  where
    only : (t cs : List ℕ) → bs ≡ t ++ cs → p ≡ spelt t → byte one_closer ∷ [] ≡ spelt cs ++ (x ∷ ys)
        → Where (p ∷ []) x (suc (suc (suc (length bs))))
    only t [] a q f =
        after_part t [] [] (ap (λ z. z ∷ []) q) (let l = ap length a in let m = length-append t [] in omega arith)
        (byte-is one_closer x (head-is f))
    only t (k ∷ cs) a q f = absurd (none_left cs x ys (tail_is f))
located (p ∷ q ∷ ps) [] x ys e = in_opener (omega arith) (byte-is opener x (head-is e))
located (p ∷ q ∷ ps) (b ∷ bs) x ys e =
    ⊎_elim
    (λ (u : (zs : List Piece) × (p ≡ spelt bs ++ (x ∷ zs))). in_part [] p (q ∷ ps) bs u.0 refl u.1 (omega arith))
    (λ (u : (t : List ℕ) × (cs : List ℕ) × (bs ≡ t ++ cs) × (p ≡ spelt t) × (joined byte (q ∷ ps) ≡ spelt cs ++ (x ∷ ys))).
    located_joined (p ∷ q ∷ ps) (suc (length bs)) x ys (q ∷ ps) u.0 [] u.1 (ap (λ z. z ∷ q ∷ ps) u.3)
    (let l = ap length u.2 in let m = length-append u.0 u.1 in omega arith) u.4)
    (split p (joined byte (q ∷ ps)) bs x ys (tail_is e))

-- ---- bytes alone

pub spelt-same : (a b : List ℕ) → spelt a ≡ spelt b → a ≡ b
spelt-same [] [] e = refl
spelt-same [] (b ∷ bs) e = no_cons e
spelt-same (a ∷ cs) [] e = no_cons (sym e)
spelt-same (a ∷ cs) (b ∷ bs) e = cons_is (byte-same (head-is e)) (spelt-same cs bs (tail_is e))

-- a piece among bytes is one
pub spelt-cut : (t bs : List ℕ) (x : Piece) (ys : List Piece) → spelt t ≡ spelt bs ++ (x ∷ ys) → IsByte x × (length bs < length t)
spelt-cut [] bs x ys e = absurd (none_left bs x ys e)
spelt-cut (b ∷ t) [] x ys e = (byte-is b x (head-is e), omega arith)
spelt-cut (b ∷ t) (c ∷ bs) x ys e = let r = spelt-cut t bs x ys (tail_is e) in (r.0, let l = r.1 in omega arith)

-- a fault alone
pub no_fault : {A : Type 0} (k : Refusal) (t : List ℕ) → fault k ∷ [] ≡ spelt t → A
no_fault k [] e = no_cons (sym e)
no_fault k (b ∷ t) e = no_byte (sym (head-is e))

pub fault-cut : (k : Refusal) (bs : List ℕ) (x : Piece) (ys : List Piece) → fault k ∷ [] ≡ spelt bs ++ (x ∷ ys)
    → (x ≡ fault k) × (length bs ≡ 0)
fault-cut k [] x ys e = (sym (head-is e), refl)
fault-cut k (b ∷ bs) x ys e = no_byte (sym (head-is e))

-- a tuple of texts is the text of the tuple
joined-text : (ts : List (List ℕ)) → joined byte (map spelt ts) ≡ spelt (joined (λ b. b) ts)
unfolding joined
joined-text [] = refl
joined-text (t ∷ ts) = ap (λ x. byte comma ∷ (spelt t ++ x)) (joined-text ts) ∙ ap (λ x. byte comma ∷ x) (sym (spelt-append t (joined (λ b. b) ts)))

pub enclosed-spelt : (ts : List (List ℕ)) → enclosed byte (map spelt ts) ≡ spelt (enclosed (λ b. b) ts)
unfolding enclosed
enclosed-spelt [] = refl
enclosed-spelt (t ∷ []) = ap (λ x. byte 123 ∷ byte 49 ∷ byte 61 ∷ x) (sym (spelt-append t (one_closer ∷ [])))
enclosed-spelt (t ∷ u ∷ ts) =
    ap (λ x. byte opener ∷ (spelt t ++ x)) (joined-text (u ∷ ts)) ∙ ap (λ x. byte opener ∷ x) (sym (spelt-append t (joined (λ b. b) (u ∷ ts))))

-- and where it is bytes, so are its parts
append-spelt : (p q : List Piece) (t : List ℕ) → p ++ q ≡ spelt t
    → (a : List ℕ) × (b : List ℕ) × (p ≡ spelt a) × (q ≡ spelt b)
append-spelt [] q t e = ([], t, refl, e)
append-spelt (x ∷ p) q [] e = no_cons (sym e)
append-spelt (x ∷ p) q (c ∷ t) e = let r = append-spelt p q t (tail_is e) in (c ∷ r.0, r.1, cons_is (head-is e) r.2, r.3)

spelt-joined : (ps : List (List Piece)) (t : List ℕ) → joined byte ps ≡ spelt t → (ts : List (List ℕ)) × (ps ≡ map spelt ts)
unfolding joined
spelt-joined [] t e = ([], refl)
spelt-joined (p ∷ ps) [] e = no_cons (sym e)
spelt-joined (p ∷ ps) (c ∷ t) e =
    let r = append-spelt p (joined byte ps) t (tail_is e) in
    let q = spelt-joined ps r.1 r.3 in
    (r.0 ∷ q.0, cons_is r.2 q.1)

pub spelt-enclosed : (ps : List (List Piece)) (t : List ℕ) → enclosed byte ps ≡ spelt t → (ts : List (List ℕ)) × (ps ≡ map spelt ts)
unfolding enclosed
spelt-enclosed [] t e = ([], refl)
spelt-enclosed (p ∷ []) [] e = no_cons (sym e)
spelt-enclosed (p ∷ []) (a ∷ []) e = no_cons (sym (tail_is e))
spelt-enclosed (p ∷ []) (a ∷ b ∷ []) e = no_cons (sym (tail_is (tail_is e)))
spelt-enclosed (p ∷ []) (a ∷ b ∷ c ∷ t) e =
    let r = append-spelt p (byte one_closer ∷ []) t (tail_is (tail_is (tail_is e))) in
    (r.0 ∷ [], cons_is r.2 refl)
spelt-enclosed (p ∷ q ∷ ps) [] e = no_cons (sym e)
spelt-enclosed (p ∷ q ∷ ps) (c ∷ t) e =
    let r = append-spelt p (joined byte (q ∷ ps)) t (tail_is e) in
    let u = spelt-joined (q ∷ ps) r.1 r.3 in
    (r.0 ∷ u.0, cons_is r.2 u.1)

pub no_length : {A : Type 0} (xs : List A) → length xs ≡ 0 → xs ≡ []
no_length [] e = refl
no_length (x ∷ xs) e = absurd (omega arith)

-- a byte among bytes
pub digit-cut : {ps : List Piece} (t : List ℕ) (i : ℕ) → i < length t → ps ≡ spelt t → Cut ps i (byte (at t i) ∷ spelt (drop (suc i) t))
digit-cut {ps} t i l e = record {
  bytes = take i t;
  is = e ∙ ap spelt (split_at t i 0 l) ∙ spelt-append (take i t) (at t i ∷ drop (suc i) t);
  count = length-take i t ∙ omega arith;
}

-- ---- pieces read from the left

-- why reading stops: at a fault, or at a byte that has no room
pub data Stop (n : ℕ) (ps : List Piece) (k : Refusal) : Type 0 where
  at_fault : (m : ℕ) (ys : List Piece) → Cut ps m (fault k ∷ ys) → m ≤ n → Stop n ps k
  at_room : (b : ℕ) (ys : List Piece) → Cut ps n (byte b ∷ ys) → k ≡ Why.Text → Stop n ps k

cons_cut : {ps qs : List Piece} {n : ℕ} (b : ℕ) → Cut ps n qs → Cut (byte b ∷ ps) (suc n) qs
cons_cut b c = record { bytes = b ∷ c.bytes; is = ap (λ x. byte b ∷ x) c.is; count = ap suc c.count }

pub stops : (n : ℕ) (ps : List Piece) (k : Refusal) → spelled n ps ≡ broken k → Stop n ps k
unfolding spelled
stops n [] k e = let z : ◌≡◌ {A = ℕ} 0 1 = cc in absurd (omega arith)
stops n (fault j ∷ ps) k e =
    let q : j ≡ k = cc in
    at_fault 0 ps (record { bytes = []; is = ap (λ x. fault x ∷ ps) q; count = refl }) (omega arith)
stops zero (byte b ∷ ps) k e = at_room b ps (record { bytes = []; is = refl; count = refl }) (cc)
stops (suc n) (byte b ∷ ps) k e = more (stops n ps k (behind-broken b (spelled n ps) k e))
  where
    more : Stop n ps k → Stop (suc n) (byte b ∷ ps) k
    more (at_fault m ys c l) = at_fault (suc m) ys (cons_cut b c) (omega arith)
    more (at_room a ys c t) = at_room a ys (cons_cut b c) t

pub whole_is : (n : ℕ) (ps : List Piece) (bs : List ℕ) → spelled n ps ≡ whole bs → ps ≡ spelt bs
unfolding spelled
whole_is n [] bs e = let z : bs ≡ [] = cc in ap spelt (sym z)
whole_is n (fault k ∷ ps) bs e = let z : ◌≡◌ {A = ℕ} 0 1 = cc in absurd (omega arith)
whole_is zero (byte b ∷ ps) bs e = let z : ◌≡◌ {A = ℕ} 0 1 = cc in absurd (omega arith)
whole_is (suc n) (byte b ∷ ps) bs e =
    let c = behind-whole b (spelled n ps) bs e in
    ap (λ x. byte b ∷ x) (whole_is n ps c.0 c.1) ∙ ap spelt (sym c.2)

-- no byte stands before a fault's place but those that count
order-at : (cs : List ℕ) (j : Refusal) (ys : List Piece) (bs : List ℕ) (rest : List Piece)
    → spelt cs ++ (fault j ∷ ys) ≡ spelt bs ++ rest → length bs ≤ length cs
order-at cs j ys [] rest e = omega arith
order-at [] j ys (b ∷ bs) rest e = no_byte (sym (head-is e))
order-at (c ∷ cs) j ys (b ∷ bs) rest e = let l = order-at cs j ys bs rest (tail_is e) in omega arith

pub cut-order : {ps ys rest : List Piece} {p m : ℕ} {j : Refusal} → Cut ps p (fault j ∷ ys) → Cut ps m rest → m ≤ p
cut-order {ps} {ys} {rest} {p} {m} {j} c d =
    let l = order-at c.bytes j ys d.bytes rest (sym c.is ∙ d.is) in
    omega (arith, c.count, d.count)

same_at : (cs bs : List ℕ) (x y : Piece) (xs ys : List Piece) → spelt cs ++ (x ∷ xs) ≡ spelt bs ++ (y ∷ ys) → length cs ≡ length bs → x ≡ y
same_at [] [] x y xs ys e l = head-is e
same_at [] (b ∷ bs) x y xs ys e l = absurd (omega arith)
same_at (c ∷ cs) [] x y xs ys e l = absurd (omega arith)
same_at (c ∷ cs) (b ∷ bs) x y xs ys e l = same_at cs bs x y xs ys (tail_is e) (omega arith)

-- one piece at a place
pub cut-same : {ps xs ys : List Piece} {p m : ℕ} {x y : Piece} → Cut ps p (x ∷ xs) → Cut ps m (y ∷ ys) → p ≡ m → x ≡ y
cut-same {ps} {xs} {ys} {p} {m} {x} {y} c d e =
    same_at c.bytes d.bytes x y xs ys (sym c.is ∙ d.is) (omega (arith, c.count, d.count))
