-- A backward search, step by step.
use Rattle.std.proofs.Common.{◌≡◌, ◌≢◌, ◌+◌, Bool, List, [], reverse, refl, ap}
use Rattle.std.specs.Prelude.{◌==◌}
use Rattle.std.proofs.lemmas.Bool.{cond-true, cond-false, eq-eqb, ne_eqb}
use Rattle.laws_search.specs.Order.{Order, IsOrder, Scan}
use Rattle.laws_search.specs.Tree.{Index}
use Rattle.laws_search.specs.Searchable.{IsSearchable}
use Rattle.laws_search.specs.Back.{Back, BackState, Over, Seeks, after_back, back_start}
use Rattle.laws_back_search.specs.Spots.{GoesBackInSteps, appended_of, rest_back}
use Rattle.laws_back_search.proofs.Places.{over_is, visits_back_on, reads_back, seeks_on}
use Rattle.laws_back_search.proofs.Runs.{left_ends, left_least, left_most}
use Rattle.laws_back_search.proofs.Whole.{finds_reverse}

rest_ended : {S E : Type 0} (killed : E → Bool) (x : Index S E) (scan : Scan S E) (back : Back S E) (s : BackState E) (zs : List E) → after_back killed x scan back (x.blocks + x.blocks) s ≡ Over zs → rest_back killed x scan back s ≡ zs
unfolding rest_back
rest_ended killed x scan back s zs e = ap appended_of e

starts_empty : {S E : Type 0} (x : Index S E) → x.fastroot ≡ 0 → back_start x ≡ Over []
unfolding back_start
starts_empty x none = cond-true (x.fastroot == 0) _ _ (eq-eqb x.fastroot 0 none)

starts_at : {S E : Type 0} (x : Index S E) → x.fastroot ≢ 0 → back_start x ≡ Seeks x.fastroot
unfolding back_start
starts_at x some = cond-false (x.fastroot == 0) _ _ (ne_eqb x.fastroot 0 some)

pub goes_back : {S E : Type 0} (o : Order S E) (x : Index S E) → IsOrder o → IsSearchable o x → GoesBackInSteps o x
goes_back o x laws quiet = λ killed scan back fits es wanted.
    let ends = finds_reverse o x laws quiet killed scan back fits es wanted in
    let goal = reverse es in
    record {
      whole = rest_ended killed x scan back (back_start x) goal ends;
      ends = left_ends killed x scan back (back_start x) goal ends;
      not_before = λ n zs answers. left_least killed x scan back (back_start x) n zs answers;
      most = λ s. left_most killed x scan back s;
      empty = λ none. starts_empty x none;
      begins = λ some. (starts_at x some, record { visits = 0; comes = starts_at x some });
      seeks = λ b v. seeks_on o x quiet killed scan back goal ends b v;
      visits = λ b v. visits_back_on o x quiet killed scan back goal ends b v;
      reads = λ b k st. reads_back o x quiet killed scan back goal ends b k st;
      over = over_is o x quiet killed scan back goal ends (Over []) refl;
    }
