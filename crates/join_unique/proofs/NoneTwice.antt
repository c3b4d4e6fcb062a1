-- No row is a duplicate where no two entries of the index have the same values.
use Rattle.std.proofs.Common.{◌≡◌, ◌∙◌, ℕ, inl, inr, false, ap, sym, arith}
use Rattle.std.specs.Prelude.{Contains}
use Rattle.std.proofs.lemmas.Bool.{cases_Bool}
use Rattle.outside.specs.Outside.{Names}
use Rattle.laws_search.specs.Keys.{Entry}
use Rattle.laws_search.specs.Search.{entries_of}
use Rattle.key_orders.specs.declared.columns.Value.{Value}
use Rattle.key_orders.specs.declared.Tid.{Tid}
use Rattle.case_file.specs.Record.{CaseRecord}
use Rattle.reports.specs.Added.{nothing}
use Rattle.bt_levels.specs.declared.sound.SoundTree.{SoundTree}
use Rattle.bt_levels.specs.Files.{number_of}
use Rattle.bt_levels.specs.Sound.{file_of, image_of}
use Rattle.heap_table_check.specs.declared.files.SoundHeap.{SoundHeap}
use Rattle.heap_rows.specs.RowLaws.{AreLiveTuples, IsBefore, in_lower_block, in_same_block}
use Rattle.heap_rows.specs.Rows.{rows_of}
use Rattle.heap_rows.specs.declared.rows.LiveRow.{LiveRow}
use Rattle.join_rules.specs.Broken.{AreJoined}
use Rattle.join_rules.specs.Lists.{duplicates_lists}
use Rattle.join_rules.specs.Unique.{AreDuplicates, is_duplicate}
use Rattle.join_rules.proofs.Duplicates.{with-earlier}
use Rattle.join_row_keys.specs.Joined.{BelongTogether, HoldTogether}
use Rattle.join_row_keys.proofs.HeapRoots.{roots-apart}
use Rattle.join_unique.proofs.NotUnique.{none-listed}
use Rattle.join_unique.proofs.RowEntries.{row-entry}

not-itself : (t u : Tid) → IsBefore t u → t ≡ u → ⊥
not-itself t u (in_lower_block lt) same = let block = ap (λ (x : Tid). x.block) same in omega (arith, lt, block)
not-itself t u (in_same_block is lt) same = let item = ap (λ (x : Tid). x.item) same in omega (arith, lt, item)

module _ (names : Names) (case : CaseRecord) (heap : SoundHeap) (tree : SoundTree) (belong : BelongTogether case heap tree) (hold : HoldTogether names case heap tree) (joined : AreJoined case names (number_of (file_of tree)))
    (whole : AreLiveTuples case names (rows_of case names))
    (apart : (d e : Entry Value Tid) → Contains (entries_of (image_of names tree)) d → Contains (entries_of (image_of names tree)) e → d.values ≡ e.values → d ≡ e) where
  abbrev n : ℕ
  n = number_of (file_of tree)

  not-two : (earlier row : LiveRow) → AreDuplicates case names n earlier row → ⊥
  not-two earlier row two =
      let a = row-entry names case heap tree belong hold joined earlier two.key two.first two.of_first in
      let b = row-entry names case heap tree belong hold joined row two.key two.second two.of_second in
      let one : a.entry ≡ b.entry = apart a.entry b.entry a.among b.among (a.sought.values ∙ sym b.sought.values) in
      let root : earlier.root ≡ row.root = sym a.sought.tid_is ∙ ap (λ (e : Entry Value Tid). e.tid) one ∙ b.sought.tid_is in
      not-itself earlier.tid row.tid two.lower (roots-apart case names hold.quiet whole earlier row two.first two.second root)

  none-twice : (row : LiveRow) → Contains (rows_of case names) row → is_duplicate case names n row ≡ false
  none-twice row among = elim (cases_Bool (is_duplicate case names n row)) [
    | inl t ↦ let with = with-earlier case names n row among t in absurd (not-two with.0 row with.1)
    | inr f ↦ f
  ]

  pub nothing-twice : duplicates_lists case names n ≡ nothing
  nothing-twice = none-listed case names n none-twice
