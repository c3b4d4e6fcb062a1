-- What `gen` builds: its case is sound, its files are judged, and its findings are the rules that are broken in them.
use Rattle.std.proofs.Common.{◌≡◌, ◌≤◌, ◌<◌, ◌+◌, ◌*◌, ◌/◌, ◌++◌, ◌⊎◌, ℕ, Bool, true, false, List, [], refl, ap, sym, subst, ◌∙◌, arith, codes, length, nat_lt}
use Rattle.std.specs.Prelude.{Err, IfOk, None, Ok, Option, Result, Some, if◌then◌else◌}
use Rattle.std.specs.List.{All}
use Rattle.std.proofs.lemmas.Bool.{le-ltb, lt-ltb, ltb-true}
use Rattle.memory_files.specs.Memory.{sure_seen, sure_state}
use Rattle.outside.specs.Outside.{Names, Tells}
use Rattle.outside.specs.declared.files.Part.TheVariants.{Segment}
use Rattle.memory_files.specs.declared.sure.SureFiles.{SureFiles}
use Rattle.page_layout.specs.declared.rules.Rule.{Rule}
use Rattle.rel_files.specs.Blocks.{blocks_of, segment_length}
use Rattle.rel_files.specs.Refusals.{file_refusal, large_by, limit_of}
use Rattle.rel_files.proofs.Refusals.{one_segment}
use Rattle.case_file.specs.Generated.{generated_case, index_on, rising_key}
use Rattle.case_file.specs.Record.{CaseRecord}
use Rattle.case_file.specs.Sound.{IsPath, IsSound as IsSoundCase, IsSoundIndex, IsSoundKey}
use Rattle.key_orders.specs.declared.columns.ColType.{ColType}
use Rattle.key_orders.specs.declared.columns.ColType.TheVariants.{Int4, Int8}
use Rattle.reports.specs.Added.{IsListed}
use Rattle.reports.specs.Lists.{Lists}
use Rattle.rel_files.specs.declared.check_fault.CheckFault.{CheckFault}
use Rattle.rel_files.specs.declared.check_fault.Which.{Which}
use Rattle.rel_files.specs.declared.check_fault.Which.TheVariants.{Heap, Index}
use Rattle.reports.specs.declared.places.Place.{Place}
use Rattle.reports.specs.declared.places.Reason.{Reason}
use Rattle.heap_table_check.specs.Files.{refusal_of as table_refusal}
use Rattle.rel_build.specs.declared.rows.Row.{Row}
use Rattle.rel_build.specs.Files.{built_files}
use Rattle.rel_build.specs.Rows.{pages_for, rows_below}
use Rattle.rel_build.specs.Trees.{has_upper_root, leaves_for, tree_blocks}
use Rattle.rel_build.proofs.Parts.{length_rows}
use Rattle.cmd_run.specs.All.{all_found, all_refusal, first_upto, whole_judged}
use Rattle.cmd_answers.specs.Cases.{unless_refused}
use Rattle.cmd_run.specs.Generated.{BreaksGenerated, DoubtsGenerated, IsTrueGenerated, counts_of, generated_judged, generated_owed}
use Rattle.cmd_run.specs.Laws.{AreLaws}
use Rattle.cmd_run.specs.Numbered.{IsBehind}
use Rattle.cmd_answers.specs.Outcome.{Outcome, owed_by, owed_under, reported, reported_under, too_large}
use Rattle.cmd_answers.specs.Seen.{outcome_seen}
use Rattle.cmd_answers.specs.declared.fault.RunFault.{RunFault}
use Rattle.cmd_answers.specs.declared.output.Output.{Output}
use Rattle.cmd_answers.specs.declared.output.Unit.TheVariants.{Rows}
use Rattle.cmd_run.proofs.WholeLaws.{whole_doubt_listed, whole_doubts, whole_listed, whole_sound, whole_true}

-- Its files are judged

not_large : (which : Which) (blocks : ℕ) → blocks ≤ limit_of which → large_by which (nat_lt (limit_of which) blocks) blocks ≡ None
not_large which blocks few = none (nat_lt (limit_of which) blocks) refl
  where
    none : (large : Bool) → nat_lt (limit_of which) blocks ≡ large → large_by which (nat_lt (limit_of which) blocks) blocks ≡ None
    none true is = absurd (let more = ltb-true (limit_of which) blocks is in omega (arith, more, few))
    none false is = ap (λ (b : Bool). large_by which b blocks) is

-- a file of whole blocks that are few is judged
pub file_is_judged : (which : Which) (names : Names) (base bytes : List ℕ) (blocks : ℕ) → names base (Segment 0) ≡ Some bytes
    → length bytes ≡ 8192 * blocks → blocks < 131072 → blocks ≤ limit_of which → file_refusal which names base 131072 ≡ None
unfolding file_refusal
file_is_judged which names base bytes blocks held long short few =
    rw held (not_large which (blocks_of names base 131072 (limit_of which)) least)
  where
    counted : segment_length names base 0 ≡ length bytes / 8192
    counted = rw held refl

    least : blocks_of names base 131072 (limit_of which) ≤ limit_of which
    least =
        let all = one_segment names base 131072 (limit_of which) (omega (arith, counted, long, short)) in
        omega (arith, all, counted, long, few)

-- none of these files is refused
none_refused : (names : Names) → file_refusal Heap names (codes "t") 131072 ≡ None → file_refusal (Index 1) names (codes "i1") 131072 ≡ None
    → file_refusal (Index 2) names (codes "i2") 131072 ≡ None → all_refusal generated_case names ≡ None
unfolding table_refusal first_upto
none_refused names table by_id by_group = rw (table, by_id, by_group) refl

few_by : (upper : Bool) (leaves : ℕ) → leaves ≤ 67 → (if upper then leaves + 1 else leaves) + 1 ≤ 69
few_by true leaves few = omega (arith, few)
few_by false leaves few = omega (arith, few)

few_blocks : (rows : List Row) → length rows ≤ 20000 → tree_blocks rows ≤ 69
few_blocks rows few = few_by (has_upper_root rows) (leaves_for rows) (omega (arith, few))

-- the files that are built are held, and of whole blocks
pub record AreHeld (seed rows : ℕ) : Type 0 where
  pub table : List ℕ
  pub by_id : List ℕ
  pub by_group : List ℕ
  pub holds_table : built_files seed rows (codes "t") (Segment 0) ≡ Some table
  pub holds_id : built_files seed rows (codes "i1") (Segment 0) ≡ Some by_id
  pub holds_group : built_files seed rows (codes "i2") (Segment 0) ≡ Some by_group
  pub table_blocks : length table ≡ 8192 * pages_for 185 rows
  pub id_blocks : length by_id ≡ 8192 * tree_blocks (rows_below seed rows)
  pub group_blocks : length by_group ≡ 8192 * tree_blocks (rows_below seed rows)

pub are_held : (seed rows : ℕ) {table by_id by_group : List ℕ} → built_files seed rows (codes "t") (Segment 0) ≡ Some table
    → built_files seed rows (codes "i1") (Segment 0) ≡ Some by_id → built_files seed rows (codes "i2") (Segment 0) ≡ Some by_group
    → length table ≡ 8192 * pages_for 185 rows → length by_id ≡ 8192 * tree_blocks (rows_below seed rows)
    → length by_group ≡ 8192 * tree_blocks (rows_below seed rows) → AreHeld seed rows
are_held seed rows {table = table} {by_id = by_id} {by_group = by_group} a b c d e f = record {
  table = table;
  by_id = by_id;
  by_group = by_group;
  holds_table = a;
  holds_id = b;
  holds_group = c;
  table_blocks = d;
  id_blocks = e;
  group_blocks = f;
}

pub files_are_judged : (seed rows : ℕ) → rows ≤ 20000 → AreHeld seed rows → all_refusal generated_case (built_files seed rows) ≡ None
files_are_judged seed rows few held =
    let names = built_files seed rows in
    let blocks = tree_blocks (rows_below seed rows) in
    let most : blocks ≤ 69 = few_blocks (rows_below seed rows) (omega (arith, length_rows seed rows, few)) in
    none_refused names
    (file_is_judged Heap names (codes "t") held.table (pages_for 185 rows) held.holds_table held.table_blocks (omega (arith, few)) (omega (arith, few)))
    (file_is_judged (Index 1) names (codes "i1") held.by_id blocks held.holds_id held.id_blocks (omega (arith, most)) (omega (arith, most)))
    (file_is_judged (Index 2) names (codes "i2") held.by_group blocks held.holds_group held.group_blocks (omega (arith, most)) (omega (arith, most)))

-- What is written of it

-- the report on it
pub built_is : (seed rows : ℕ) (case : CaseRecord) (o : Outcome) → rows ≤ 20000 → AreHeld seed rows → case ≡ generated_case
    → o ≡ owed_by (whole_judged (built_files seed rows) case) → o ≡ reported (all_found generated_case (built_files seed rows))
built_is seed rows case o few held is owed =
    let names = built_files seed rows in
    owed ∙ ap (λ (c : CaseRecord). owed_by (whole_judged names c)) is
    ∙ ap (λ (refusal : Option CheckFault). owed_by (unless_refused refusal generated_case (all_found generated_case names))) (files_are_judged seed rows few held)

pub told_of_built : (r : Result Output RunFault) (files : SureFiles) (case : CaseRecord) → ((seed rows : ℕ) → rows ≤ 20000 → AreHeld seed rows)
    → Tells sure_seen files r (λ o names. outcome_seen o ≡ owed_by (whole_judged names case))
    → IfOk r (λ o. (seed rows : ℕ) → rows ≤ 20000 → (sure_state files).held ≡ built_files seed rows → case ≡ generated_case → outcome_seen o ≡ reported (all_found generated_case (built_files seed rows)))
told_of_built (Err e) files case held told = record {}
told_of_built (Ok o) files case held told =
    λ seed rows few same is. built_is seed rows case (outcome_seen o) few (held seed rows few) is (told (built_files seed rows) (ap Some same))

-- behind its counts
few_owed : (heading : List ℕ) (many : Bool) (refusal : Outcome) (found : Lists) → many ≡ false
    → owed_under heading (if many then Err refusal else Ok found) ≡ reported_under heading found
few_owed heading true refusal found few = absurd (cc)
few_owed heading false refusal found few = refl

pub counted_is : (seed rows : ℕ) (text counts report : List ℕ) (code : ℕ) → rows ≤ 20000 → text ≡ counts ++ report → counts ≡ counts_of seed rows
    → record { bytes = report; code = code } ≡ reported (all_found generated_case (built_files seed rows))
    → record { bytes = text; code = code } ≡ generated_owed seed rows
counted_is seed rows text counts report code few whole is owed =
    let found = all_found generated_case (built_files seed rows) in
    let heading = counts_of seed rows in
    let same : text ≡ heading ++ (reported found).bytes = whole ∙ (λ i. is i ++ (ap (λ (o : Outcome). o.bytes) owed) i) in
    (λ i. record { bytes = same i; code = ap (λ (o : Outcome). o.code) owed i })
    ∙ sym (few_owed heading (nat_lt 20000 rows) _ found (le-ltb 20000 rows few))

-- or the refusal of too many rows
pub many_owed : (seed rows : ℕ) (o : Outcome) → 20000 < rows → o ≡ too_large (codes "gen") Rows rows 20000 → o ≡ generated_owed seed rows
many_owed seed rows o many is = is ∙ sym (by (nat_lt 20000 rows) (lt-ltb 20000 rows many))
  where
    by : (b : Bool) → b ≡ true → owed_under (counts_of seed rows) (if b then Err (too_large (codes "gen") Rows rows 20000) else Ok (all_found generated_case (built_files seed rows))) ≡ too_large (codes "gen") Rows rows 20000
    by true e = refl
    by false e = absurd (cc)

-- Its case is sound

path_of : (path : List ℕ) (n : ℕ) → length path ≡ n → 1 ≤ n → n ≤ 200 → IsPath path
path_of path n is least most = (omega (arith, is, least), omega (arith, is, most))

sound_index : (name file : List ℕ) (m n column : ℕ) (ctype : ColType) → length name ≡ m → 1 ≤ m → m ≤ 63 → length file ≡ n → 1 ≤ n → n ≤ 200
    → IsSoundKey generated_case.columns (rising_key column ctype) → IsSoundIndex generated_case.columns (index_on name file column ctype)
sound_index name file m n column ctype named least most stored first last key = record {
  name = (omega (arith, named, least), omega (arith, named, most));
  file = path_of file n stored first last;
  count = (omega arith, omega arith);
  keys = (key, record {});
  few_more = omega arith;
  more = record {};
}

pub sound_generated : IsSoundCase generated_case
sound_generated = record {
  segment_blocks = (omega arith, omega arith);
  cluster = record {
    next_xid = (omega arith, omega arith);
    oldest_xid = (omega arith, omega arith);
    next_multi = (omega arith, omega arith);
    oldest_multi = (omega arith, omega arith);
    next_member = omega arith;
    xids = omega arith;
    multis = omega arith;
  };
  xact = path_of (codes "xact") 4 refl (omega arith) (omega arith);
  offsets = path_of (codes "offsets") 7 refl (omega arith) (omega arith);
  members = path_of (codes "members") 7 refl (omega arith) (omega arith);
  heap_file = path_of (codes "t") 1 refl (omega arith) (omega arith);
  toast = λ toast is. absurd (cc);
  column_count = (omega arith, omega arith);
  columns = (record { ctype = refl; missing = refl; few = omega arith }, (record { ctype = refl; missing = refl; few = omega arith }, record {}));
  index_count = omega arith;
  indexes = (
    sound_index (codes "t_id") (codes "i1") 4 2 0 Int8 refl (omega arith) (omega arith) refl (omega arith) (omega arith) (record { is_there = refl; may_be_key = refl }),
    (
      sound_index (codes "t_grp") (codes "i2") 5 2 1 Int4 refl (omega arith) (omega arith) refl (omega arith) (omega arith) (record { is_there = refl; may_be_key = refl }),
      record {},
    ),
  );
}

-- Its report

chosen : (many : Bool) (refusal : Outcome) (found lists : Lists) → (if many then Err refusal else Ok found) ≡ Ok lists → found ≡ lists
chosen true refusal found lists e = cc
chosen false refusal found lists e = cc

module _ (laws : AreLaws) (seed rows : ℕ) (lists : Lists) (e : generated_judged seed rows ≡ Ok lists) where
  abbrev names : Names
  names = built_files seed rows

  shown : all_found generated_case names ≡ lists
  shown = chosen (nat_lt 20000 rows) _ (all_found generated_case names) lists e

  pub generated_sound : All (λ f. BreaksGenerated seed rows f.rule f.place) lists.findings
  generated_sound = subst (λ (l : Lists). All (λ f. BreaksGenerated seed rows f.rule f.place) l.findings) shown (whole_sound laws generated_case names)

  pub generated_doubts : All (λ u. DoubtsGenerated seed rows u.reason u.place) lists.unjudged
  generated_doubts = subst (λ (l : Lists). All (λ u. DoubtsGenerated seed rows u.reason u.place) l.unjudged) shown (whole_doubts laws generated_case names)

  pub generated_listed : (rule : Rule) (place : Place) → BreaksGenerated seed rows rule place → IsListed lists place ⊎ IsBehind lists rule place
  generated_listed rule place broken = subst (λ (l : Lists). IsListed l place ⊎ IsBehind l rule place) shown (whole_listed laws generated_case names rule place broken)

  pub generated_doubt_listed : (reason : Reason) (place : Place) → DoubtsGenerated seed rows reason place → IsListed lists place
  generated_doubt_listed reason place doubt = subst (λ (l : Lists). IsListed l place) shown (whole_doubt_listed laws generated_case names reason place doubt)

  pub generated_true : lists.findings ≡ [] → lists.unjudged ≡ [] → IsTrueGenerated seed rows
  generated_true none sure = whole_true laws generated_case names sound_generated (ap (λ (l : Lists). l.findings) shown ∙ none) (ap (λ (l : Lists). l.unjudged) shown ∙ sure)
