-- Wrong machines that do not settle, and wrong images: what `Settling`, `SameImage`, `TellsState` and `TellsGraph` rule out.
use Prim.Native.Nat.{ℕ, zero, suc, ◌+◌, ◌-◌, ◌<◌}
use native.Mathlib.Omega.{arith}
use mathlib.Core.Path.{◌≡◌, refl, sym, ap, ◌∙◌}
use mathlib.Core.Bool.{Bool, true, cond}
use mathlib.Core.List.{List, [], ◌∷◌, ◌++◌, map}
use lib.Dec.{ltb, eqb}
use lib.ListN.{length, get_or, replicate}
use borrow.Author.Tests.{ltb-true}
use Rattle.model.specs.declared.Half.TheVariants.{A, B}
use Rattle.model.specs.Answers.{told}
use Rattle.model.specs.Collection.{Cell, still, value, build, filled, cells, order, rename, settle, copied, collected}
use Rattle.model.specs.Conditions.{Sound}
use Rattle.model.specs.Demand3.{OfWords}
use Rattle.model.specs.Discovery.{mem, packed}
use Rattle.model.specs.Headers.{tuple}
use Rattle.model.specs.Images.{ImageWord, word, offset, Image, image_value, image}
use Rattle.model.specs.Objects.{address}
use Rattle.model.specs.Sessions.{Machine}
use Rattle.model.specs.Settling.{once, Settling, SameImage, TellsState, TellsGraph}
use Rattle.model.specs.Soundness.{all, headers}
use Rattle.model.specs.Values.{is_address}
use Rattle.model.specs.Words.{State, with_heap, with_roots, with_free, at, address_of, half_words, first_word, other_first}
use Rattle.model.specs.Worked as Worked
use Rattle.model.specs.Worked.{ran}
use Rattle.theory.proofs.Deciding.{sound_decides, sound_tests}
use Rattle.theory.proofs.Headers.{tuple_adjacent}
use Rattle.theory.proofs.Keeping.{tile}
use Rattle.theory.proofs.Members.{place}
use Rattle.theory.proofs.Tests.{and_both}
use Rattle.demands.proofs.CallCollect.{collect_represents}
use Rattle.demands.proofs.Rivals.{changed, but_left, is, collects, p5, p5-sound}
use Rattle.demands.proofs.RivalsOfCounts.{counts_headers}
use Rattle.demands.proofs.Standing.{value_of, sound_represents}

-- ---- machines

-- a machine that leaves something else of a collection, and answers right
abbrev leaving : (State → State) → Machine
leaving f = changed (λ c s o. cond (is collects c) (but_left o (f s)) o)

-- the numbers of a list that are in another, last first
abbrev backwards : List ℕ → List ℕ → List ℕ
backwards o [] = []
backwards o (i ∷ hs) = backwards o hs ++ cond (mem i o) (i ∷ []) []

-- reverses the order each time: the last of the live objects that stand in the half is copied first
abbrev pub reversing : Machine
reversing = leaving (λ s. copied tuple (backwards (order tuple s) (headers tuple s)) s)

-- leaves a gap of one word before the copies in half B
abbrev gapped : State → State
gapped s =
    let H = s.heap in
    let S = half_words H in
    let b = other_first s + 1 in
    let ws = map (settle tuple H (order tuple s) b) (packed (cells tuple H) (order tuple s)) in
    with_free B (b + length ws)
    (with_roots (map (rename tuple H (order tuple s) b) s.roots)
    (with_heap (build B (filled S (0 ∷ ws)) (replicate S 0)) s))

abbrev pub leaving_gap : Machine
leaving_gap = leaving (λ s. cond (eqb (first_word s) 1) (gapped s) (collected tuple s))

-- ---- P5's collection, and the second: the objects stand at 9 and 10 first

pub reversing_breaks_settling : Settling tuple reversing → ⊥
unfolding ran
reversing_breaks_settling d =
    let z : ◌≡◌ {A = ℕ} 10 12 = ((d p5 p5-sound).shifts.places 1 (omega arith)).across in omega arith

pub leaving_gap_breaks_settling : Settling tuple leaving_gap → ⊥
unfolding ran
leaving_gap_breaks_settling d = let z : ◌≡◌ {A = ℕ} 2 3 = (d p5 p5-sound).shifts.count in omega arith

-- counts garbage, which only the first collection meets
pub counts-headers_breaks_settling : Settling tuple counts_headers → ⊥
unfolding ran
counts-headers_breaks_settling d =
    let x = d p5 p5-sound in
    let e : ◌≡◌ {A = ℕ} 3 2 = ap (λ a. (told a).objects) (x.first ∙ sym x.second) in omega arith

-- ---- P5 and what its collection leaves stand for one graph

abbrev fits32 : ℕ → Bool
fits32 w = ltb w 4_294_967_296

below : (ws : List ℕ) → all fits32 ws ≡ true → (i : ℕ) → at ws i < 4_294_967_296
below [] e i = omega arith
below (w ∷ ws) e zero = ltb-true w 4_294_967_296 (and_both (fits32 w) (all fits32 ws) e).0
below (w ∷ ws) e (suc i) = below ws (and_both (fits32 w) (all fits32 ws) e).1 i

abbrev p5' : State
p5' = collected tuple p5

p5-words : OfWords p5
p5-words = record { heap = below p5.heap refl; roots = below p5.roots refl }

p5'-words : OfWords p5'
unfolding ran
p5'-words = record { heap = below p5'.heap refl; roots = below p5'.roots refl }

-- what is said of two heaps of one graph is said of these two
images_at-p5 : (M : Machine) → SameImage tuple M → image tuple (once M p5) ≡ image tuple (once M p5')
images_at-p5 M d =
    let m = sound_represents tuple tuple_adjacent p5 (sound_tests tuple p5 p5-sound) p5-words in
    d p5 p5' _ p5-words p5'-words m (collect_represents tuple tuple_adjacent p5 _ m)

-- the word that an image's word is, unless it is an object's
abbrev plainly : ImageWord → ℕ
plainly (word w) = w
plainly (offset k) = 7

pub reversing_breaks_same-image : SameImage tuple reversing → ⊥
unfolding ran image image_value
reversing_breaks_same-image d =
    let z : ◌≡◌ {A = ℕ} 0 4 = ap (λ (m : Image). plainly (get_or m.words 0 (word 7))) (images_at-p5 reversing d) in omega arith

pub leaving_gap_breaks_same-image : SameImage tuple leaving_gap → ⊥
unfolding ran image image_value
leaving_gap_breaks_same-image d =
    let z : ◌≡◌ {A = ℕ} 5 4 = ap (λ (m : Image). length m.words) (images_at-p5 leaving_gap d) in omega arith

-- ---- images that lose something: an object without fields, full halves of one word, and a root that holds its address or null

abbrev holding : ℕ → State
holding w = Worked.state A 2 (0 ∷ 0 ∷ 0 ∷ []) (w ∷ [])

held-sound : Sound tuple (holding 4)
unfolding ran
held-sound = (sound_decides tuple (holding 4)).holds refl

null-sound : Sound tuple (holding 0)
unfolding ran
null-sound = (sound_decides tuple (holding 0)).holds refl

-- a way to make images that makes one of both loses the state, and loses the graph: its root is an object or is null
loses_state : (f : State → Image) → f (holding 4) ≡ f (holding 0) → TellsState tuple f → ⊥
loses_state f e d =
    let z : ◌≡◌ {A = ℕ} 4 0 = ap (λ (s : State). at s.roots 0) (d (holding 4) (holding 0) held-sound null-sound refl refl refl e) in
    omega arith

held-words : OfWords (holding 4)
held-words = record { heap = below (holding 4).heap refl; roots = below (holding 4).roots refl }

loses_graph : (f : State → Image) → f (holding 4) ≡ f (holding 0) → TellsGraph tuple f → ⊥
unfolding ran value_of place
loses_graph f e d =
    let m = sound_represents tuple tuple_adjacent (holding 4) (sound_tests tuple (holding 4) held-sound) held-words in
    let n = d (holding 4) (holding 0) _ m null-sound refl e in
    let r = n.roots 0 (omega arith) in
    let from = (tile tuple (holding 0) (sound_tests tuple (holding 0) null-sound) (n.header_of 0) (n.head 0 r.0)).from in
    let z : 0 ≡ address tuple (n.header_of 0) = r.1 in
    omega arith

-- addresses less that of the half's first word, which is null's for the first object
abbrev less : ℕ → ℕ → ImageWord
less b w = word (cond (is_address w) (w - address_of b) w)

abbrev less_cell : ℕ → Cell → ImageWord
less_cell b (still w) = word w
less_cell b (value w) = less b w

abbrev pub subtracted : State → Image
subtracted s = record {
  words = map (less_cell (first_word s)) (packed (cells tuple s.heap) (headers tuple s));
  roots = map (less (first_word s)) s.roots;
}

pub subtracted_loses_state : TellsState tuple subtracted → ⊥
subtracted_loses_state = loses_state subtracted refl

pub subtracted_loses_graph : TellsGraph tuple subtracted → ⊥
subtracted_loses_graph = loses_graph subtracted refl

-- the words without the roots
abbrev pub rootless : State → Image
rootless s = record { words = (image tuple s).words; roots = [] }

pub rootless_loses_state : TellsState tuple rootless → ⊥
unfolding image
rootless_loses_state = loses_state rootless refl

pub rootless_loses_graph : TellsGraph tuple rootless → ⊥
unfolding image
rootless_loses_graph = loses_graph rootless refl
