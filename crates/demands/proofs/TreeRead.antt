-- What a read leaves where nothing refuses it: the tree of the text, word by word.
use Prim.Native.Nat.{ℕ, ◌+◌, ◌≤◌, ◌<◌}
use native.Mathlib.Omega.{arith}
use mathlib.Core.Path.{◌≡◌, refl, ap, ◌∙◌, subst}
use mathlib.Core.Logic.{◌⊎◌, inl, inr, ⊎_elim}
use mathlib.Core.Bool.{true, false}
use mathlib.Core.List.Memᴰ
use mathlib.Core.List.{[], ◌∷◌}
use lib.ListN.{length, length-set}
use lib.Seq.{get_or-set_same, get_or-set_other}
use borrow.Author.Tests.{le-leb, lt-leb}
use Rattle.model.specs.declared.Kind.TheVariants.{Traced}
use Rattle.model.specs.declared.Refusal.{Refusal}
use Rattle.model.specs.declared.Call.TheVariants as Ask
use Rattle.model.specs.Answers.{refuse}
use Rattle.model.specs.Calls as Calls
use Rattle.model.specs.Changes.{spare, placed, laid, planted}
use Rattle.model.specs.Collection.{collected}
use Rattle.model.specs.Effects as E
use Rattle.model.specs.Headers.{Layout}
use Rattle.model.specs.Reading.{Parsed, tree, broken, parsed}
use Rattle.model.specs.ReadFaults.{IsText, ReadFault, breach, cut, deep}
use Rattle.model.specs.Refusals as Row
use Rattle.model.specs.Sessions.{step}
use Rattle.model.specs.Soundness.{sound}
use Rattle.model.specs.Trees.{Tree, leaf, node, count, forest_words, tree_words}
use Rattle.model.specs.Values.{tag}
use Rattle.model.specs.Words.{State, at, free}
use Rattle.demands.proofs.CallsPass.{done_with, past-roots, legal, good_shape}
use Rattle.demands.proofs.Changed.{new_object}
use Rattle.theory.proofs.Collected.{new_roots}
use Rattle.theory.proofs.CollectedSound.{new_shape}
use Rattle.theory.proofs.Deciding.{sound_decides}
use Rattle.theory.proofs.Laying.{Out, before, past, laid_lays, laid_frame, laid-laid}
use Rattle.theory.proofs.ReadJudged.{first-read-fault, parsed-text, text-parsed}
use Rattle.theory.proofs.Shape.{Shaped, first_in}
use Rattle.theory.proofs.Soundness.{SoundTests, sound_parts, sound-whole}
use Rattle.theory.proofs.Tests.{by_test, decide}

module _ (Y : Layout) where
  -- a tree planted in a state of a heap's shape
  pub new_tree : (t : Tree) (r : ℕ) (s : State) → Shaped s → r < length s.roots → tree_words t ≤ spare s
      → E.NewTree Y t r s (planted Y t r s)
  unfolding planted
  new_tree (leaf v) r s h l f = record {
    planted = (get_or-set_same s.roots r (tag v) 0 l, refl);
    others = λ i o. refl;
    same_length = refl;
    other_roots = λ q d. get_or-set_other s.roots r q (tag v) 0 d;
    root_count = length-set s.roots r (tag v);
    same_half = refl;
    same_text = refl;
  }
  new_tree (node g) r s h l f =
      let b = first_in s h in
      let w = h.low in
      let fit : count g + 1 ≤ spare s = omega arith in
      let o = new_object Y Traced (count g) r s h l fit in
      let s₁ = placed Y Traced (count g) r s in
      let lays = laid_lays Y g (free s + 1) s₁ in
      let free₁ = o.free_is in
      let room : free s + (count g + 1) + forest_words g ≤ length s.heap = omega arith in
      let words = laid-laid Y g (free s + 1) s₁ (omega arith) (omega (arith, o.same_length)) in
      let s₂ = laid Y g (free s + 1) s₁ in
      record {
        planted = (
          ap (λ R. at R r) lays.same_roots ∙ o.root,
          laid_frame Y g (free s + 1) s₁ (free s) (before (omega arith)) (before (omega arith)) ∙ o.header,
          subst (λ b. E.Laid Y s₂.heap g (free s + 1) b (free s₂)) free₁ words,
        );
        others = λ i c.
            let out : Out i (free s) (count g + 1 + forest_words g) = outside i lays.free_is free₁ c in
            laid_frame Y g (free s + 1) s₁ i (within i out) (beyond i free₁ out) ∙ o.others i (either i out);
        same_length = lays.same_length ∙ o.same_length;
        other_roots = λ q d. ap (λ R. at R q) lays.same_roots ∙ o.other_roots q d;
        root_count = ap length lays.same_roots ∙ o.root_count;
        same_half = lays.same_half ∙ o.same_half;
        same_text = lays.same_text ∙ o.same_text;
      }
    where
      outside : (i : ℕ) {a b : ℕ} → a ≡ b + forest_words g → b ≡ free s + (count g + 1) → (i < free s) ⊎ (a ≤ i)
          → Out i (free s) (count g + 1 + forest_words g)
      outside i e d (inl x) = before x
      outside i e d (inr x) = past (omega arith)

      within : (i : ℕ) → Out i (free s) (count g + 1 + forest_words g) → Out i (free s + 1) (count g)
      within i (before x) = before (omega arith)
      within i (past x) = past (omega arith)

      beyond : (i : ℕ) {b : ℕ} → b ≡ free s + (count g + 1) → Out i (free s) (count g + 1 + forest_words g) → Out i b (forest_words g)
      beyond i e (before x) = before (omega arith)
      beyond i e (past x) = past (omega arith)

      either : (i : ℕ) → Out i (free s) (count g + 1 + forest_words g) → (i < free s) ⊎ (free s + (count g + 1) ≤ i)
      either i (before x) = inl x
      either i (past x) = inr (omega arith)

  -- what is read is the text of a tree
  pub read-text : (r : ℕ) (s : State) → E.Passes Y (Ask.Read r) s → (t : Tree) × IsText s.text t
  read-text r s p = by (parsed s.text) refl
    where
      by : (x : Parsed) → parsed s.text ≡ x → (t : Tree) × IsText s.text t
      by (tree t) e = (t, parsed-text s.text t e)
      by (broken k) e = let f = first-read-fault s.text k e in none f f.is_fault
        where
          none : {q : ℕ} {k : Refusal} → Row.FirstFault (ReadFault s.text) k → ReadFault s.text q k
              → (t : Tree) × IsText s.text t
          none f (breach q l v) = absurd (p.1.1.0 f)
          none f (cut v) = absurd (p.1.1.0 f)
          none f (deep q l o h) = absurd (p.1.1.1.0 f)

  module _ (r : ℕ) (s : State) (t : Tree) (p : E.Passes Y (Ask.Read r) s) (i : IsText s.text t) where
    read_is : step Y (Ask.Read r) s ≡ Calls.with_room Y (tree_words t) (planted Y t r) s
    unfolding step Calls.read
    read_is = past-roots Y s (r ∷ []) _ p.0 p.1.0 ∙ ap (Calls.reads Y r s) (text-parsed s.text t i)

    pub root_is : r < length s.roots
    root_is = legal Y s r (r ∷ []) (Memᴰ.head refl) p.1.0

    pub reads_now : tree_words t ≤ spare s → E.Done (step Y (Ask.Read r) s) (E.NewTree Y t r s)
    unfolding refuse
    reads_now f =
        done_with (E.NewTree Y t r s) (planted Y t r s) (read_is ∙ rw (le-leb (tree_words t) (spare s) f))
        (new_tree t r s (good_shape Y s p.0) root_is f)

    module _ (c : Row.Short (tree_words t) s) where
      pub is-sound : SoundTests Y s
      is-sound =
          ⊎_elim (λ (e : sound Y s ≡ true). sound_parts Y s e)
          (λ (e : sound Y s ≡ false). absurd (p.1.1.1.1.0 (t, i, c, (sound_decides Y s).fails e))) (by_test (sound Y s))

      pub fits-then : tree_words t ≤ spare (collected Y s)
      fits-then =
          ⊎_elim (λ (l : spare (collected Y s) < tree_words t). absurd (p.1.1.1.1.1.0 (t, i, c, l)))
          (λ (l : tree_words t ≤ spare (collected Y s)). l)
          (decide (spare (collected Y s)) (tree_words t))

      pub reads_then : E.Done (step Y (Ask.Read r) s) (E.NewTree Y t r (collected Y s))
      unfolding refuse
      reads_then =
          done_with (E.NewTree Y t r (collected Y s)) (planted Y t r (collected Y s))
          (read_is
          ∙ rw (lt-leb (tree_words t) (spare s) c, sound-whole Y s is-sound, le-leb (tree_words t) (spare (collected Y s)) fits-then))
          (new_tree t r (collected Y s) (new_shape Y s is-sound) (let z = root_is in omega (arith, new_roots Y s is-sound)) fits-then)
