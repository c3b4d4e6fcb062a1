-- What the text of the document means.
use Rattle.std.proofs.Common.{◌≡◌, ℕ, ◌≤◌, List, length, map, true, cond, Option, Some, None, Ok, Err, codes, refl, sym, ap, ◌∙◌, subst}
use Rattle.std.proofs.lemmas.List.{length-map}
use Rattle.std.specs.Str.{is_utf8}
use Rattle.toml.specs.Data.{Members}
use Rattle.toml.specs.Parse.{parse_document}
use Rattle.case_rules.specs.declared.fault.CaseRule.{CaseRule}
use Rattle.case_rules.specs.Spots.{Spot}
use Rattle.case_rules.specs.Tables.{tables_at}
use Rattle.case_file.specs.Case.{Meaning, case_of, document_of, judged, meaning_of, record_of}
use Rattle.case_file.specs.Columns.{column_of}
use Rattle.case_file.specs.Record.{CaseRecord}
use Rattle.case_file.specs.Sound.{IsSound}
use Rattle.case_text.specs.declared.parts.ClusterPart.{ClusterPart}
use Rattle.case_text.specs.declared.parts.TablePart.{TablePart}
use Rattle.case_text.specs.Plain.{IsPlainCluster, IsPlainTable}
use Rattle.case_text.specs.Told.{are_found, case_told}
use Rattle.case_text.specs.Written.{column_data, document_told}
use Rattle.case_text.proofs.ReadsBack.{columns_in, reads_back}

pub text_means : (s : List ℕ) (top : Members) → is_utf8 s ≡ true → parse_document s ≡ Some top → case_of s ≡ meaning_of (Some top)
unfolding case_of document_of
text_means s top utf8 parsed =
    let taken : cond (is_utf8 s) (parse_document s) None ≡ parse_document s = rw utf8 refl in
    ap meaning_of (taken ∙ parsed)

-- a document that means a case
case_meant : (top : Members) (o : Option (CaseRule × Spot)) (case : CaseRecord) → ◌≡◌ {A = Meaning} (judged top o) (Ok case) → record_of top ≡ case
case_meant top (Some broken) case is = cc is
case_meant top None case is = ok_same (record_of top) case is
  where
    ok_or : CaseRecord → Meaning → CaseRecord
    ok_or case (Ok c) = c
    ok_or case (Err e) = case

    ok_same : (a b : CaseRecord) → ◌≡◌ {A = Meaning} (Ok a) (Ok b) → a ≡ b
    ok_same a b same = ap (ok_or a) same

few_columns : (c : ClusterPart) (t : TablePart) → IsSound (record_of (document_told c t)) → length t.columns.items ≤ 64
unfolding record_of
few_columns c t sound =
    let ds = tables_at (codes "column") (document_told c t) in
    let read : length (map column_of ds) ≡ length ds = length-map ds column_of in
    let told : length ds ≡ length t.columns.items = ap length (columns_in c t) ∙ length-map t.columns.items column_data in
    let count = sound.column_count.1 in
    rw (read, told) at count

pub text_told : (s : List ℕ) (c : ClusterPart) (t : TablePart) (case : CaseRecord) → IsPlainCluster c → IsPlainTable t → are_found t ≡ true
    → is_utf8 s ≡ true → parse_document s ≡ Some (document_told c t) → case_of s ≡ Ok case → IsSound case
    → case_of s ≡ Ok (case_told c t)
text_told s c t case plain_cluster plain_table found utf8 parsed read sound =
    let top : Members = document_told c t in
    let means = text_means s top utf8 parsed in
    let same = case_meant top _ case (sym means ∙ read) in
    let few = few_columns c t (subst IsSound (sym same) sound) in
    read ∙ ap Ok (sym same ∙ reads_back c t plain_cluster plain_table few found)
