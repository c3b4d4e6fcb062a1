-- The backward searcher's list is the reverse of the forward one's.
use Rattle.std.proofs.Common.{◌≡◌, ◌+◌, List, reverse, sym, ◌∙◌, subst, arith}
use Rattle.laws_search.specs.Order.{Order, IsOrder}
use Rattle.laws_search.specs.Tree.{Index}
use Rattle.laws_search.specs.Searchable.{IsSearchable}
use Rattle.laws_search.specs.Search.{State, Ended, after_visits, search_start}
use Rattle.laws_search.proofs.Whole.{finds, more_visits}
use Rattle.laws_search.proofs.Unique.{same_wanted}
use Rattle.laws_search.proofs.Backward.{finds_back}
use Rattle.laws_back_search.specs.Answers.{AnswersBack, FindsReverse, MirrorsAnswers}

pub finds_reverse : {S E : Type 0} (o : Order S E) (x : Index S E) → IsOrder o → IsSearchable o x → FindsReverse o x
finds_reverse o x laws quiet = λ killed scan back fits es wanted.
    let r = finds_back o x laws quiet killed scan back fits in
    subst (λ zs. AnswersBack killed x scan back (x.blocks + x.blocks) (reverse zs)) (same_wanted o laws killed x scan r.0 es r.1 wanted) r.2

same_end : {E : Type 0} (ds es : List E) → ◌≡◌ {A = State E} (Ended ds) (Ended es) → ds ≡ es
same_end ds es e = cc

pub mirrors_answers : {S E : Type 0} (o : Order S E) (x : Index S E) → IsOrder o → IsSearchable o x → MirrorsAnswers o x
mirrors_answers o x laws quiet = λ killed scan back fits turns n es answers.
    let r = finds o x laws quiet killed scan fits in
    let m = n + x.blocks in
    let here : after_visits killed x scan m (search_start x) ≡ Ended es = more_visits killed x scan n m (search_start x) es (omega arith) answers in
    let there : after_visits killed x scan m (search_start x) ≡ Ended r.0 = more_visits killed x scan x.blocks m (search_start x) r.0 (omega arith) r.2 in
    let same = same_end r.0 es (sym there ∙ here) in
    subst (λ zs. AnswersBack killed x scan back (x.blocks + x.blocks) (reverse zs)) same (finds_reverse o x laws quiet killed scan back turns r.0 r.1)
