-- Where the entries of rows are listed they are those of all, and no row is in doubt; and else some row is.
use Rattle.std.proofs.Common.{◌≡◌, ◌<◌, ◌∙◌, ℕ, true, false, List, [], ◌∷◌, ◌++◌, length, map, refl, sym, ap, arith}
use Rattle.std.specs.Prelude.{Option, Some, None}
use Rattle.std.proofs.lemmas.Bool.{and_parts, and_right}
use Rattle.outside.specs.Outside.{Names}
use Rattle.case_file.specs.Record.{CaseRecord}
use Rattle.bt_image.specs.Image.{LeafEntry}
use Rattle.reports.specs.Added.{joined, nothing}
use Rattle.reports.specs.Lists.{Lists}
use Rattle.reports.specs.declared.places.UnjudgedPlace.{UnjudgedPlace}
use Rattle.bt_levels.specs.Lists.{is_nothing, is_quiet}
use Rattle.heap_rows.specs.Rows.{rows_of}
use Rattle.heap_rows.specs.declared.rows.LiveRow.{LiveRow}
use Rattle.bt_build.specs.Listed.{Listed}
use Rattle.join_row_entries.specs.Entries.{AreDoubted, AreListed, doubts_in, doubts_of, entries_of_rows, entry_of, if_read, rows_listed}
use Rattle.join_row_entries.proofs.GatherLaws.{packed, whole}

module _ (case : CaseRecord) (n : ℕ) where
  -- entries that are those of all rows
  entries_are : (rows : List LiveRow) (es : List LeafEntry) → map Some es ≡ map (entry_of case n) rows → entries_of_rows case n rows ≡ es
  entries_are [] [] are = refl
  entries_are [] (e ∷ es) are = absurd cc
  entries_are (row ∷ rows) [] are = absurd cc
  entries_are (row ∷ rows) (e ∷ es) are =
      let here : Some e ≡ entry_of case n row = cc in
      let rest : map Some es ≡ map (entry_of case n) rows = cc in
      ap (λ (o : Option LeafEntry). if_read o ++ entries_of_rows case n rows) (sym here) ∙ ap (λ (ds : List LeafEntry). e ∷ ds) (entries_are rows es rest)

  none_doubted : (rows : List LiveRow) (es : List LeafEntry) → map Some es ≡ map (entry_of case n) rows → doubts_in case n rows ≡ nothing
  none_doubted [] [] are = refl
  none_doubted [] (e ∷ es) are = absurd cc
  none_doubted (row ∷ rows) [] are = absurd cc
  none_doubted (row ∷ rows) (e ∷ es) are =
      let here : entry_of case n row ≡ Some e = cc in
      let rest : map Some es ≡ map (entry_of case n) rows = cc in
      λ i. joined (whole case n row e here i) (none_doubted rows es rest i)

  -- where no row is in doubt each has an entry
  all_listed : (rows : List LiveRow) → is_quiet (doubts_in case n rows) ≡ true → map Some (entries_of_rows case n rows) ≡ map (entry_of case n) rows
  all_listed [] quiet = refl
  all_listed (row ∷ rows) quiet = go (entry_of case n row) refl (λ rest. all_listed rows rest)
    where
      go : (o : Option LeafEntry) → entry_of case n row ≡ o → (is_quiet (doubts_in case n rows) ≡ true → map Some (entries_of_rows case n rows) ≡ map (entry_of case n) rows)
          → map Some (entries_of_rows case n (row ∷ rows)) ≡ map (entry_of case n) (row ∷ rows)
      go (Some e) is deeper =
          let rest : is_quiet (doubts_in case n rows) ≡ true = sym (ap (λ (l : Lists). is_quiet (joined l (doubts_in case n rows))) (whole case n row e is)) ∙ quiet in
          ap (λ (o : Option LeafEntry). map Some (if_read o ++ entries_of_rows case n rows)) is ∙ (λ i. sym is i ∷ deeper rest i)
      go None is deeper =
          let loud = sym (ap (λ (l : Lists). is_quiet (joined l (doubts_in case n rows))) (packed case n row is)) ∙ quiet in
          let both = and_parts (is_nothing (doubts_in case n rows).findings) false loud in
          absurd cc

-- entries that are listed
module _ (case : CaseRecord) (names : Names) (n : ℕ) where
  pub listed_is : (l : Listed) → AreListed case n (rows_of case names) l → l ≡ rows_listed case names n
  listed_is l are = λ i. record { specs = are.specs i; more = are.more i; entries = sym (entries_are case n (rows_of case names) l.entries are.entries) i }

  pub listed_quiet : (l : Listed) → AreListed case n (rows_of case names) l → is_quiet (doubts_of case names n) ≡ true
  unfolding doubts_of
  listed_quiet l are = ap is_quiet (none_doubted case n (rows_of case names) l.entries are.entries)

  pub quiet_listed : is_quiet (doubts_of case names n) ≡ true → AreListed case n (rows_of case names) (rows_listed case names n)
  unfolding doubts_of
  quiet_listed quiet = record { specs = refl; more = refl; entries = all_listed case n (rows_of case names) quiet }

  -- rows that are in doubt
  pub doubted_loud : (report : Lists) → AreDoubted case names n report → is_quiet (doubts_of case names n) ≡ false
  doubted_loud report are = ap is_quiet (sym are.doubts) ∙ and_right (is_nothing report.findings) (is_nothing report.unjudged) (some_there report.unjudged are.some)
    where
      some_there : (us : List UnjudgedPlace) → 0 < length us → is_nothing us ≡ false
      some_there [] some = absurd (omega (arith, some))
      some_there (u ∷ us) some = refl
