-- The rows that are noted, sorted, are those of which X3 is listed.
use Rattle.std.proofs.Common.{◌≡◌, ◌∙◌, ◌<◌, ◌*◌, ◌+◌, ◌/◌, ◌%◌, ℕ, suc, inl, inr, Bool, true, false, List, [], ◌∷◌, refl, ap, sym, subst, arith}
use Rattle.std.specs.Prelude.{AllPairs, Contains, Some, cond, ◌⊎◌}
use Rattle.std.proofs.lemmas.Bool.{both_ways}
use Rattle.std.proofs.lemmas.List.Elements.{All-contains_itself, All-weaker}
use Rattle.std.proofs.lemmas.List.Kept.{AllPairs-cons}
use Rattle.outside.specs.Outside.{Names}
use Rattle.page_layout.specs.declared.rules.Rule.TheVariants.{X3}
use Rattle.key_orders.specs.declared.Tid.{Tid}
use Rattle.case_file.specs.Record.{CaseRecord}
use Rattle.reports.specs.Added.{finding_at, joined, report_lists}
use Rattle.reports.specs.declared.places.Place.TheVariants.{Tuple}
use Rattle.bt_steps.proofs.Members.{either-in, first-in, none-in, other-in}
use Rattle.heap_rows.specs.RowLaws.{IsBefore, TidsRise, in_lower_block, in_same_block}
use Rattle.heap_rows.specs.Rows.{rows_of}
use Rattle.heap_rows.specs.declared.rows.LiveRow.{LiveRow}
use Rattle.join_rules.specs.Lists.{duplicate_lists, duplicate_rule, duplicates_lists, of_each}
use Rattle.join_rules.specs.Unique.{is_duplicate}
use Rattle.join_unique.specs.Groups.{tid_number}
use Rattle.join_unique.specs.Later.{later_list, later_lists, tid_at}
use Rattle.join_unique.proofs.Sorting.{same-members}

number-back : (block item : ℕ) → item < 65536 → (block * 65536 + item) / 65536 ≡ block
number-back block item small = omega (arith, small)

number-item : (block item : ℕ) → item < 65536 → (block * 65536 + item) % 65536 ≡ item
number-item block item small = omega (arith, small)

pub tid-back : (tid : Tid) → tid.item < 65536 → tid_at (tid_number tid) ≡ tid
tid-back tid small = λ i. record { block = number-back tid.block tid.item small i; item = number-item tid.block tid.item small i }

pub number-rises : (t u : Tid) → t.item < 65536 → IsBefore t u → tid_number t < tid_number u
number-rises t u small (in_lower_block lt) = omega (arith, small, lt)
number-rises t u small (in_same_block e lt) = omega (arith, e, lt)

-- the numbers of the rows that pass a test
abbrev pub numbers : (LiveRow → Bool) → List LiveRow → List ℕ
numbers test [] = []
numbers test (row ∷ rows) = cond (test row) (tid_number row.tid ∷ numbers test rows) (numbers test rows)

module _ (test : LiveRow → Bool) where
  pub from-numbers : (rows : List LiveRow) (n : ℕ) → Contains (numbers test rows) n → (row : LiveRow) × Contains rows row × (test row ≡ true) × (n ≡ tid_number row.tid)
  from-numbers [] n among = absurd (none-in n [] refl among)
  from-numbers (row ∷ rows) n among = go (test row) refl (λ h. from-numbers rows n h) among
    where
      later : (r : LiveRow) × Contains rows r × (test r ≡ true) × (n ≡ tid_number r.tid) → (r : LiveRow) × Contains (row ∷ rows) r × (test r ≡ true) × (n ≡ tid_number r.tid)
      later h = (h.0, other-in row h.0 rows h.1, h.2, h.3)

      go : (b : Bool) → test row ≡ b → (Contains (numbers test rows) n → (r : LiveRow) × Contains rows r × (test r ≡ true) × (n ≡ tid_number r.tid)) → Contains (cond b (tid_number row.tid ∷ numbers test rows) (numbers test rows)) n → (r : LiveRow) × Contains (row ∷ rows) r × (test r ≡ true) × (n ≡ tid_number r.tid)
      go false is again h = later (again h)
      go true is again h = elim (either-in (tid_number row.tid) n (numbers test rows) h) [
        | inl e ↦ (row, first-in row rows, is, sym e)
        | inr k ↦ later (again k)
      ]

  pub in-numbers : (rows : List LiveRow) (row : LiveRow) → Contains rows row → test row ≡ true → Contains (numbers test rows) (tid_number row.tid)
  in-numbers [] row among passes = absurd (none-in row [] refl among)
  in-numbers (first ∷ rows) row among passes = go (test first) refl (either-in first row rows among) (λ h. in-numbers rows row h passes)
    where
      go : (b : Bool) → test first ≡ b → (first ≡ row) ⊎ Contains rows row → (Contains rows row → Contains (numbers test rows) (tid_number row.tid)) → Contains (cond b (tid_number first.tid ∷ numbers test rows) (numbers test rows)) (tid_number row.tid)
      go true is (inl e) again = subst (λ (r : LiveRow). Contains (tid_number first.tid ∷ numbers test rows) (tid_number r.tid)) e (first-in (tid_number first.tid) (numbers test rows))
      go true is (inr k) again = other-in (tid_number first.tid) (tid_number row.tid) (numbers test rows) (again k)
      go false is (inl e) again = absurd (both_ways (test first) is (ap test e ∙ passes))
      go false is (inr k) again = again k

  numbers-rise : (rows : List LiveRow) → ((row : LiveRow) → Contains rows row → row.tid.item < 65536) → TidsRise rows → AllPairs (λ x y. x < y) (numbers test rows)
  numbers-rise [] small rise = λ i j d lt within. absurd (omega (arith, within))
  numbers-rise (row ∷ rows) small rise = go (test row) (numbers-rise rows (λ r among. small r (other-in row r rows among)) (λ i j d lt within. rise (suc i) (suc j) d (omega (arith, lt)) (omega (arith, within))))
    where
      behind : (n : ℕ) → Contains (numbers test rows) n → tid_number row.tid < n
      behind n among =
          let from = from-numbers rows n among in
          let r = from.0 in
          let before : IsBefore row.tid r.tid = subst (λ (q : LiveRow). IsBefore row.tid q.tid) from.1.2 (rise 0 (suc from.1.0) r (omega arith) (let lt = from.1.1 in omega (arith, lt))) in
          subst (λ (m : ℕ). tid_number row.tid < m) (sym from.3) (number-rises row.tid r.tid (small row (first-in row rows)) before)

      go : (b : Bool) → AllPairs (λ x y. x < y) (numbers test rows) → AllPairs (λ x y. x < y) (cond b (tid_number row.tid ∷ numbers test rows) (numbers test rows))
      go false all = all
      go true all =
          AllPairs-cons (λ x y. x < y) (tid_number row.tid) (numbers test rows)
          (All-weaker (Contains (numbers test rows)) (λ n. tid_number row.tid < n) behind (numbers test rows) (All-contains_itself (numbers test rows))) all

module _ (case : CaseRecord) (names : Names) (n : ℕ) where
  abbrev test : LiveRow → Bool
  test = is_duplicate case names n

  each-row : (rows : List LiveRow) → ((row : LiveRow) → Contains rows row → row.tid.item < 65536) → of_each report_lists (duplicate_lists case names n) rows ≡ of_each report_lists (later_list n) (numbers test rows)
  unfolding duplicate_lists
  each-row [] small = refl
  each-row (row ∷ rows) small = go (test row) (each-row rows (λ r among. small r (other-in row r rows among)))
    where
      back : tid_at (tid_number row.tid) ≡ row.tid
      back = tid-back row.tid (small row (first-in row rows))

      go : (b : Bool) → of_each report_lists (duplicate_lists case names n) rows ≡ of_each report_lists (later_list n) (numbers test rows)
          → joined (finding_at (Tuple n row.tid) (duplicate_rule b)) (of_each report_lists (duplicate_lists case names n) rows) ≡ of_each report_lists (later_list n) (cond b (tid_number row.tid ∷ numbers test rows) (numbers test rows))
      go true rest = λ i. joined (finding_at (Tuple n (sym back i)) (Some X3)) (rest i)
      go false rest = rest

  -- what is listed of rising numbers, which are those of the rows with an earlier one of their key
  pub listed : ((row : LiveRow) → Contains (rows_of case names) row → row.tid.item < 65536) → TidsRise (rows_of case names) → (ns : List ℕ) → AllPairs (λ x y. x < y) ns
      → ((m : ℕ) → Contains ns m → (row : LiveRow) × Contains (rows_of case names) row × (is_duplicate case names n row ≡ true) × (m ≡ tid_number row.tid))
      → ((row : LiveRow) → Contains (rows_of case names) row → is_duplicate case names n row ≡ true → Contains ns (tid_number row.tid))
      → later_lists n ns ≡ duplicates_lists case names n
  unfolding duplicates_lists later_lists
  listed small rise ns rising there back =
      ap (λ ms. of_each report_lists (later_list n) ms)
      (same-members ns (numbers test (rows_of case names)) rising (numbers-rise test (rows_of case names) small rise)
      (λ m among. let h = there m among in subst (Contains (numbers test (rows_of case names))) (sym h.3) (in-numbers test (rows_of case names) h.0 h.1 h.2))
      (λ m among. let h = from-numbers test (rows_of case names) m among in subst (Contains ns) (sym h.3) (back h.0 h.1 h.2)))
      ∙ sym (each-row (rows_of case names) small)
