-- P5 in the middle of its collection, computed: after the roots, and with all four words passed.
use Rattle.model.specs.Worked as Worked
use mathlib.Core.Path.{◌≡◌, refl}
use mathlib.Core.List.{[], ◌∷◌}
use lib.ListN.{replicate}
use Rattle.model.specs.declared.Half.TheVariants.{A, B}
use Rattle.model.specs.Headers.{tuple}
use Rattle.model.specs.Discovery.{mem, visit, visits, packed, words_before, found}
use Rattle.model.specs.Collection.{word_leads, order_at, rename}
use Rattle.model.specs.During.{marked, stage, during}

pub p5-rooted : during tuple (Worked.state A 7 Worked.p5 (24 ∷ 12 ∷ [])) 0
    ≡ Worked.state B 13 (0 ∷ 2 ∷ 1 ∷ 41 ∷ 12 ∷ 21 ∷ 37 ∷ 0 ∷ 0 ∷ 0 ∷ 4 ∷ 12 ∷ 21 ∷ replicate 4 0) (36 ∷ 40 ∷ [])
unfolding tuple stage marked order_at found visits visit mem packed words_before word_leads rename
p5-rooted = refl

pub p5-passed : during tuple (Worked.state A 7 Worked.p5 (24 ∷ 12 ∷ [])) 4
    ≡ Worked.state B 13 (0 ∷ 2 ∷ 1 ∷ 41 ∷ 12 ∷ 21 ∷ 37 ∷ 0 ∷ 0 ∷ 0 ∷ 4 ∷ 40 ∷ 21 ∷ replicate 4 0) (36 ∷ 40 ∷ [])
unfolding tuple stage marked order_at found visits visit mem packed words_before word_leads rename
p5-passed = refl
