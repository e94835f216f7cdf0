-- What else is proved of the numbers, as types; `proofs/Laws` has the proofs.
use Rattle.std.specs.Prelude.{ℕ, ◌≡◌, false, List, Result}
use Rattle.model.specs.declared.Record.{Record}
use Rattle.model.specs.declared.Call.{Call}
use Rattle.model.specs.declared.Call.TheVariants as Ask
use Rattle.model.specs.declared.Refusal.{Refusal}
use Rattle.model.specs.declared.Place.{Place}
use Rattle.model.specs.Words.{State}
use Rattle.model.specs.Headers.{Layout}
use Rattle.model.specs.Answers.{told}
use Rattle.model.specs.Calls.{fresh}
use Rattle.model.specs.Window.{window_word}
use Rattle.model.specs.Sessions.{step}
use Rattle.crossing.specs.declared.CRecord.{CRecord}
use Rattle.crossing.specs.declared.CWindow.{CWindow}
use Rattle.crossing.specs.Numbers.{Given, given_of, no_half, numbers_of, record_of, result_of, collected_of, answer_of}
use Rattle.crossing.specs.Numbers.{seen_of, written_of, window_of, word_at}

-- a promise is an equation `given .. ≡ g`: any two outcomes that it allows are equal
abbrev pub Settles : Type 1
Settles = (T : Type 0) (g : Given T) (a b : T) (H H' R R' t t' : List ℕ)
    → given_of a H R t ≡ g → given_of b H' R' t' ≡ g → (a ≡ b) × (H ≡ H') × (R ≡ R') × (t ≡ t')

-- the record that a call returned is the one that the next call is made with, and the other way round
pub record RecordLaw : Type 0 where
  pub half : (q : Record) → no_half (numbers_of q) ≡ false
  pub there : (q : Record) → record_of (numbers_of q) ≡ q
  pub back : (c : CRecord) → no_half c ≡ false → numbers_of (record_of c) ≡ c

-- the word that C gets by a window's numbers is the one that the model's window shows: on any words, at any place
abbrev pub WordLaw : Type 0
WordLaw = (H : List ℕ) (p : Result Place Refusal) (f : ℕ) → word_at H (window_of p) f ≡ window_word H p f

-- a call whose struct is not its own: neither collect nor inspect nor write
abbrev pub Simple : Call → Type 0
Simple c = (c ≡ Ask.Collect → ⊥) × ((r : ℕ) → c ≡ Ask.Inspect r → ⊥) × ((r : ℕ) → c ≡ Ask.Write r → ⊥)

-- answers can be told apart in what C gets: two answers of one call that are returned alike are equal, whatever the records.
-- Collect, inspect and write have a struct of their own each; of the others refusal and value are enough.
pub record AnswersApart (Y : Layout) : Type 0 where
  pub in_result : (c : Call) (s s' : State) (q q' : CRecord) → Simple c
      → result_of (told (step Y c s).answer) q ≡ result_of (told (step Y c s').answer) q' → (step Y c s).answer ≡ (step Y c s').answer
  pub in_answer : (c : Call) (s s' : State) → Simple c
      → answer_of (told (step Y c s).answer) ≡ answer_of (told (step Y c s').answer) → (step Y c s).answer ≡ (step Y c s').answer
  pub in_collected : (s s' : State) (q q' : CRecord)
      → collected_of (told (step Y Ask.Collect s).answer) q ≡ collected_of (told (step Y Ask.Collect s').answer) q'
      → (step Y Ask.Collect s).answer ≡ (step Y Ask.Collect s').answer
  pub in_seen : (r : ℕ) (s s' : State)
      → seen_of (told (step Y (Ask.Inspect r) s).answer) ≡ seen_of (told (step Y (Ask.Inspect r) s').answer)
      → (step Y (Ask.Inspect r) s).answer ≡ (step Y (Ask.Inspect r) s').answer
  pub in_written : (r : ℕ) (s s' : State)
      → written_of (told (step Y (Ask.Write r) s).answer) ≡ written_of (told (step Y (Ask.Write r) s').answer)
      → (step Y (Ask.Write r) s).answer ≡ (step Y (Ask.Write r) s').answer
  pub in_fresh : (s s' : State) (q q' : CRecord) → result_of (told (fresh s).answer) q ≡ result_of (told (fresh s').answer) q'
      → (fresh s).answer ≡ (fresh s').answer
  pub in_word : (H H' : List ℕ) (w w' : CWindow) (f f' : ℕ) → answer_of (told (word_at H w f)) ≡ answer_of (told (word_at H' w' f'))
      → word_at H w f ≡ word_at H' w' f'
  -- and so can the places of windows
  pub in_window : (p p' : Result Place Refusal) → window_of p ≡ window_of p' → p ≡ p'
