-- The rows in doubt are those of which a value is compressed.
use Rattle.std.proofs.Common.{◌≡◌, ◌++◌, ℕ, true, List, [], ◌∷◌, refl, sym, subst, inl, inr}
use Rattle.std.specs.Prelude.{All, Contains, Option, Some, None}
use Rattle.std.proofs.lemmas.List.Elements.{All-append, All-cons, All-nil, Contains-append_left, Contains-append_right}
use Rattle.outside.specs.Outside.{Names}
use Rattle.key_orders.specs.declared.columns.Value.{Value}
use Rattle.case_file.specs.Record.{CaseRecord}
use Rattle.reports.specs.Lists.{Lists}
use Rattle.reports.specs.declared.places.Place.{Place}
use Rattle.reports.specs.declared.places.Place.TheVariants.{Tuple}
use Rattle.reports.specs.declared.places.Reason.{Reason}
use Rattle.reports.specs.declared.places.Reason.TheVariants.{U6}
use Rattle.reports.specs.declared.places.UnjudgedPlace.{UnjudgedPlace}
use Rattle.bt_levels.specs.Index.{case_columns}
use Rattle.bt_steps.proofs.Members.{either-in, first-in, none-in, other-in}
use Rattle.heap_rows.specs.Rows.{rows_of}
use Rattle.heap_rows.specs.declared.rows.LiveRow.{LiveRow}
use Rattle.join_rules.specs.Broken.{Doubts, packed_key, packed_more}
use Rattle.join_rules.specs.Lists.{row_lists, row_lists_by}
use Rattle.join_rules.specs.Rows.{key_of, more_of}
use Rattle.join_row_entries.specs.Entries.{doubts_in, doubts_of}
use Rattle.cmd_run.specs.Reindexed.{AreDoubts}

module _ (case : CaseRecord) (n : ℕ) where
  -- what is listed of one row
  abbrev of_row : LiveRow → Lists
  of_row = row_lists n (case_columns case n) (λ key more tid. true)

  abbrev by_values : LiveRow → (key more : Option (List Value)) → Lists
  by_values row = row_lists_by n (λ key more tid. true) row

  abbrev doubt : LiveRow → UnjudgedPlace
  doubt row = record { reason = U6; place = Tuple n row.tid }

  none_by : (row : LiveRow) (key more : Option (List Value)) → (by_values row key more).findings ≡ []
  none_by row (Some key) (Some more) = refl
  none_by row (Some key) None = refl
  none_by row None more = refl

  none_of : (row : LiveRow) → (of_row row).findings ≡ []
  unfolding row_lists
  none_of row = none_by row (key_of case n row) (more_of case n row)

  none_in : (rows : List LiveRow) → (doubts_in case n rows).findings ≡ []
  none_in [] = refl
  none_in (row ∷ rows) = λ i. none_of row i ++ none_in rows i

  -- a row of which a value is compressed
  key_by : (row : LiveRow) (key more : Option (List Value)) → key ≡ None → Contains (by_values row key more).unjudged (doubt row)
  key_by row (Some key) more is = absurd cc
  key_by row None more is = first-in (doubt row) []

  more_by : (row : LiveRow) (key more : Option (List Value)) → more ≡ None → Contains (by_values row key more).unjudged (doubt row)
  more_by row (Some key) (Some more) is = absurd cc
  more_by row (Some key) None is = first-in (doubt row) []
  more_by row None more is = first-in (doubt row) []

  key_listed : (row : LiveRow) → key_of case n row ≡ None → Contains (of_row row).unjudged (doubt row)
  unfolding row_lists
  key_listed row is = key_by row (key_of case n row) (more_of case n row) is

  more_listed : (row : LiveRow) → more_of case n row ≡ None → Contains (of_row row).unjudged (doubt row)
  unfolding row_lists
  more_listed row is = more_by row (key_of case n row) (more_of case n row) is

  -- is listed among all
  among_rows : (rows : List LiveRow) (row : LiveRow) (u : UnjudgedPlace) → Contains rows row → Contains (of_row row).unjudged u → Contains (doubts_in case n rows).unjudged u
  among_rows [] row u has there = absurd (none-in row [] refl has)
  among_rows (r ∷ rows) row u has there = elim (either-in r row rows has) [
    | inl same ↦
        Contains-append_left (of_row r).unjudged (doubts_in case n rows).unjudged u (subst (λ (x : LiveRow). Contains (of_row x).unjudged u) (sym same) there)
    | inr later ↦ Contains-append_right (of_row r).unjudged (doubts_in case n rows).unjudged u (among_rows rows row u later there)
  ]

  module _ (names : Names) where
    abbrev IsDoubtful : UnjudgedPlace → Type 0
    IsDoubtful u = Doubts case names n u.reason u.place

    -- each that is listed is in doubt
    sound_by : (row : LiveRow) → Contains (rows_of case names) row → (key more : Option (List Value)) → key_of case n row ≡ key → more_of case n row ≡ more
        → All IsDoubtful (by_values row key more).unjudged
    sound_by row among (Some key) (Some more) is beside = All-nil IsDoubtful
    sound_by row among (Some key) None is beside = All-cons IsDoubtful (doubt row) [] (packed_more row among beside) (All-nil IsDoubtful)
    sound_by row among None more is beside = All-cons IsDoubtful (doubt row) [] (packed_key row among is) (All-nil IsDoubtful)

    sound_of : (row : LiveRow) → Contains (rows_of case names) row → All IsDoubtful (of_row row).unjudged
    unfolding row_lists
    sound_of row among = sound_by row among (key_of case n row) (more_of case n row) refl refl

    sound_in : (rows : List LiveRow) → ((row : LiveRow) → Contains rows row → Contains (rows_of case names) row) → All IsDoubtful (doubts_in case n rows).unjudged
    sound_in [] among = All-nil IsDoubtful
    sound_in (row ∷ rows) among =
        All-append IsDoubtful (of_row row).unjudged (doubts_in case n rows).unjudged (sound_of row (among row (first-in row rows)))
        (sound_in rows (λ r has. among r (other-in row r rows has)))

    -- and each that is in doubt is listed
    listed : (reason : Reason) (place : Place) → Doubts case names n reason place → Contains (doubts_in case n (rows_of case names)).unjudged (record { reason = reason; place = place })
    listed _ _ (packed_key row among is) = among_rows (rows_of case names) row (doubt row) among (key_listed row is)
    listed _ _ (packed_more row among is) = among_rows (rows_of case names) row (doubt row) among (more_listed row is)

    pub doubts_are : AreDoubts case names n (doubts_of case names n)
    unfolding doubts_of
    doubts_are = record { none_found = none_in (rows_of case names); sound = sound_in (rows_of case names) (λ row has. has); complete = listed }
