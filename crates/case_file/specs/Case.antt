-- What a text means: a case, or the first rule that the text breaks, with its place.
use Rattle.std.specs.Prelude.{◌≡◌, ℕ, List, [], ◌∷◌, map, if◌then◌else◌, Option, Some, None, option_map}
use Rattle.std.specs.Prelude.{option_and_then, Result, Ok, Err, codes, find}
use Rattle.std.specs.Str.{is_utf8}
use Rattle.rel_files.specs.declared.cluster.Cluster.{Cluster}
use Rattle.toml.specs.Data.{Members}
use Rattle.toml.specs.Parse.{parse_document}
use Rattle.case_rules.specs.declared.fault.CaseRule.{CaseRule}
use Rattle.case_rules.specs.declared.fault.CaseRule.TheVariants.{C1, C2, C3, C4, C5, C6, C7}
use Rattle.case_rules.specs.declared.fault.CaseFault.{CaseFault}
use Rattle.case_rules.specs.declared.fault.CaseFault.TheVariants.{Refused, NoMemory}
use Rattle.case_file.specs.Columns.{column_of}
use Rattle.case_file.specs.Indexes.{index_of}
use Rattle.case_file.specs.Record.{CaseRecord}
use Rattle.case_rules.specs.Rules.{at_least_one, breaks}
use Rattle.case_rules.specs.Spots.{Spot, spot_text, spots}
use Rattle.case_rules.specs.Tables.{has, number_at, number_in, table_at, tables_at, text_at, text_in}

-- the first of the rules that a spot breaks, with the first spot that breaks it
abbrev pub broken_or : CaseRule → Option Spot → Option (CaseRule × Spot) → Option (CaseRule × Spot)
broken_or rule (Some spot) later = Some (rule, spot)
broken_or rule None later = later

abbrev pub first_broken : Members → List Spot → List CaseRule → Option (CaseRule × Spot)
first_broken top ss [] = None
first_broken top ss (rule ∷ rules) = broken_or rule (find (breaks top rule) ss) (first_broken top ss rules)

abbrev pub rules_in_order : List CaseRule
rules_in_order = C2 ∷ C3 ∷ C4 ∷ C5 ∷ C6 ∷ C7 ∷ []

-- what a document says that breaks no rule
abbrev pub segment_blocks_of : Members → ℕ
segment_blocks_of top = if has (codes "segment_blocks") top then number_at (codes "segment_blocks") top else 131072

unfoldable pub cluster_of : Option Members → Cluster
cluster_of t = record {
  next_xid = number_in t (codes "next_xid");
  oldest_xid = number_in t (codes "oldest_xid");
  next_multi = at_least_one (number_in t (codes "next_multi"));
  oldest_multi = number_in t (codes "oldest_multi");
  next_member = number_in t (codes "next_member");
}

unfoldable pub toast_of : Option Members → Option (List ℕ × ℕ)
toast_of t =
    option_map (λ file. (file, number_in t (codes "toast_oid"))) (option_and_then (text_at (codes "toast_file")) t)

unfoldable pub record_of : Members → CaseRecord
record_of top =
    let cluster = table_at (codes "cluster") top in
    let heap = table_at (codes "heap") top in
    let columns = tables_at (codes "column") top in
    record {
      segment_blocks = segment_blocks_of top;
      cluster = cluster_of cluster;
      xact = text_in cluster (codes "xact");
      offsets = text_in cluster (codes "offsets");
      members = text_in cluster (codes "members");
      heap_file = text_in heap (codes "file");
      toast = toast_of heap;
      columns = map column_of columns;
      indexes = map (index_of columns) (tables_at (codes "index") top);
    }

-- a case, or a broken rule and the text of its place
abbrev pub Meaning : Type 0
Meaning = Result CaseRecord (CaseRule × List ℕ)

abbrev pub judged : Members → Option (CaseRule × Spot) → Meaning
judged top (Some broken) = Err (broken.0, spot_text broken.1)
judged top None = Ok (record_of top)

abbrev pub meaning_of : Option Members → Meaning
meaning_of (Some top) = judged top (first_broken top (spots top) rules_in_order)
meaning_of None = Err (C1, codes "text")

-- the document that a text is, if it is UTF-8 and `toml` reads it
unfoldable pub document_of : List ℕ → Option Members
document_of text = if is_utf8 text then parse_document text else None

-- what a text means
unfoldable pub case_of : List ℕ → Meaning
case_of text = meaning_of (document_of text)

-- a fault tells the rule and the place of a text that means no case, or that memory ran out
abbrev pub Tells : Meaning → CaseFault → Type 0
Tells meaning (Refused rule place) = ◌≡◌ {A = Meaning} meaning (Err (rule, place))
Tells meaning NoMemory = Unit {0}
