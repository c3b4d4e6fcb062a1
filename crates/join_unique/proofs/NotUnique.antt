-- Nothing is listed of an index that isn't unique.
use Rattle.std.proofs.Common.{◌≡◌, ◌∙◌, inl, inr, false, true, ℕ, List, [], ◌∷◌, ap, refl, sym}
use Rattle.std.specs.Prelude.{Contains, None, Option, Some, option_map, unwrap_or}
use Rattle.std.proofs.lemmas.Bool.{cases_Bool}
use Rattle.outside.specs.Outside.{Names}
use Rattle.case_file.specs.Record.{CaseRecord, IndexRecord}
use Rattle.bt_levels.specs.Index.{no_index}
use Rattle.key_orders.specs.declared.columns.Value.{Value}
use Rattle.reports.specs.Added.{finding_at, joined, nothing, report_lists}
use Rattle.reports.specs.Lists.{Lists}
use Rattle.reports.specs.declared.places.Place.TheVariants.{Tuple}
use Rattle.bt_steps.proofs.Members.{first-in, other-in}
use Rattle.heap_rows.specs.Rows.{rows_of}
use Rattle.heap_rows.specs.declared.rows.LiveRow.{LiveRow}
use Rattle.case_file.specs.declared.case.Unique.{Unique}
use Rattle.case_file.specs.declared.case.Unique.TheVariants.{No}
use Rattle.join_rules.specs.Lists.{duplicate_lists, duplicate_rule, duplicates_lists, of_each}
use Rattle.join_rules.specs.Unique.{counts, is_duplicate, unique_of}
use Rattle.join_rules.proofs.Duplicates.{with-earlier}

never-counts : (key : List Value) → counts No key ≡ true → ⊥
never-counts key h = absurd cc

module _ (case : CaseRecord) (names : Names) (n : ℕ) where
  none-twice : unique_of case n ≡ No → (row : LiveRow) → Contains (rows_of case names) row → is_duplicate case names n row ≡ false
  none-twice kind row among = elim (cases_Bool (is_duplicate case names n row)) [
    | inl t ↦ let two = (with-earlier case names n row among t).1 in absurd (never-counts two.key (ap (λ (u : Unique). counts u two.key) (sym kind) ∙ two.counted))
    | inr f ↦ f
  ]

  rows-nothing : (rows : List LiveRow) → ((row : LiveRow) → Contains rows row → is_duplicate case names n row ≡ false) → of_each report_lists (duplicate_lists case names n) rows ≡ nothing
  unfolding duplicate_lists
  rows-nothing [] none = refl
  rows-nothing (row ∷ rows) none =
      (λ i. joined (finding_at (Tuple n row.tid) (duplicate_rule (none row (first-in row rows) i))) (of_each report_lists (duplicate_lists case names n) rows))
      ∙ rows-nothing rows (λ r among. none r (other-in row r rows among))

  -- where no row is a duplicate
  pub none-listed : ((row : LiveRow) → Contains (rows_of case names) row → is_duplicate case names n row ≡ false) → duplicates_lists case names n ≡ nothing
  unfolding duplicates_lists
  none-listed none = rows-nothing (rows_of case names) none

  pub nothing-with : duplicates_lists case names n ≡ nothing → (old : Lists) → old ≡ joined old (duplicates_lists case names n)
  nothing-with none old = sym (ap (joined old) none ∙ report_lists.with_none old)

  pub nothing-added : unique_of case n ≡ No → (old : Lists) → old ≡ joined old (duplicates_lists case names n)
  nothing-added kind = nothing-with (none-listed (none-twice kind))

-- an index of a case
pub unique-there : (o : Option IndexRecord) (unique : Unique) → option_map (λ i. i.unique) o ≡ Some unique → unique ≡ (unwrap_or o no_index).unique
unique-there None unique is = absurd cc
unique-there (Some i) unique is = sym (cc)
