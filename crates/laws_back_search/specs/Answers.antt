-- What the backward searcher answers.
use Rattle.std.specs.Prelude.{◌≡◌, ◌+◌, ℕ, Bool, List, reverse}
use Rattle.laws_search.specs.Order.{Order, Scan, IsScan}
use Rattle.laws_search.specs.Tree.{Index}
use Rattle.laws_search.specs.Search.{IsWanted, Answers}
use Rattle.laws_search.specs.Back.{Back, IsBack, Over, after_back, back_start}

-- the backward searcher's list, if it has ended after at most n visits
abbrev pub AnswersBack : {S E : Type 0} → (E → Bool) → Index S E → Scan S E → Back S E → ℕ → List E → Type 0
AnswersBack killed x scan back n es = after_back killed x scan back n (back_start x) ≡ Over es

-- whatever the scan, the backward searcher ends within twice the blocks, with the reverse of what the scan is to find
abbrev pub FindsReverse : {S E : Type 0} → Order S E → Index S E → Type 0
FindsReverse {S} {E} o x =
    (killed : E → Bool) (scan : Scan S E) (back : Back S E) → IsBack o scan back
    → (es : List E) → IsWanted o killed x scan es → AnswersBack killed x scan back (x.blocks + x.blocks) (reverse es)

-- and so with the reverse of what the forward searcher answers
abbrev pub MirrorsAnswers : {S E : Type 0} → Order S E → Index S E → Type 0
MirrorsAnswers {S} {E} o x =
    (killed : E → Bool) (scan : Scan S E) (back : Back S E) → IsScan o scan → IsBack o scan back
    → (n : ℕ) (es : List E) → Answers killed x scan n es
    → AnswersBack killed x scan back (x.blocks + x.blocks) (reverse es)
