-- The text of a report.
use Rattle.std.specs.Prelude.{ℕ, List, [], ◌∷◌, ◌++◌, length, codes, decimal}
use Rattle.std.specs.List.{flat_map}
use Rattle.page_layout.specs.Rules.{code_of}
use Rattle.reports.specs.LongLists.{first_part}
use Rattle.reports.specs.Fields.{decimal_field, tid_text}
use Rattle.reports.specs.declared.places.Rel.{Rel}
use Rattle.reports.specs.declared.places.Rel.TheVariants.{Heap, Map, Toast, Index}
use Rattle.reports.specs.declared.places.Place.{Place}
use Rattle.reports.specs.declared.places.Place.TheVariants.{Segment, Block, Item, Column, Tuple, Entry}
use Rattle.reports.specs.declared.places.Finding.{Finding}
use Rattle.reports.specs.declared.places.Reason.{Reason}
use Rattle.reports.specs.declared.places.Reason.TheVariants.{U1, U2, U3, U4, U5, U6}
use Rattle.reports.specs.declared.places.UnjudgedPlace.{UnjudgedPlace}
use Rattle.reports.specs.declared.places.Verdict.{Verdict}
use Rattle.reports.specs.declared.places.Verdict.TheVariants.{Clean, Findings, Unjudged}

unfoldable pub rel_text : Rel → List ℕ
rel_text Heap = codes "heap"
rel_text Map = codes "map"
rel_text Toast = codes "toast"
rel_text (Index n) = decimal_field (codes "index ") n

abbrev pub block_text : Rel → ℕ → List ℕ
block_text rel block = rel_text rel ++ decimal_field (codes " block ") block

abbrev pub item_text : Rel → ℕ → ℕ → List ℕ
item_text rel block item = block_text rel block ++ decimal_field (codes " item ") item

unfoldable pub place_text : Place → List ℕ
place_text (Segment rel segment) = rel_text rel ++ decimal_field (codes " segment ") segment
place_text (Block rel block) = block_text rel block
place_text (Item rel block item) = item_text rel block item
place_text (Column block item column) = item_text Heap block item ++ decimal_field (codes " column ") column
place_text (Tuple index tid) = rel_text (Index index) ++ codes " tuple " ++ tid_text tid
place_text (Entry index block item tid) = item_text (Index index) block item ++ codes " tid " ++ tid_text tid

unfoldable pub reason_code : Reason → List ℕ
reason_code U1 = codes "U1"
reason_code U2 = codes "U2"
reason_code U3 = codes "U3"
reason_code U4 = codes "U4"
reason_code U5 = codes "U5"
reason_code U6 = codes "U6"

unfoldable pub finding_line : Finding → List ℕ
finding_line f = codes "finding " ++ code_of f.rule ++ codes " " ++ place_text f.place ++ codes "\n"

unfoldable pub unjudged_line : UnjudgedPlace → List ℕ
unjudged_line u = codes "unjudged " ++ reason_code u.reason ++ codes " " ++ place_text u.place ++ codes "\n"

-- findings come before what can't be judged
unfoldable pub verdict_of : List Finding → List UnjudgedPlace → Verdict
verdict_of (f ∷ fs) us = Findings
verdict_of [] (u ∷ us) = Unjudged
verdict_of [] [] = Clean

unfoldable pub verdict_word : Verdict → List ℕ
verdict_word Clean = codes "clean"
verdict_word Findings = codes "findings"
verdict_word Unjudged = codes "unjudged"

unfoldable pub counts_text : ℕ → ℕ → Verdict → List ℕ
counts_text findings unjudged verdict =
    codes "findings " ++ decimal findings ++ codes " unjudged " ++ decimal unjudged
    ++ codes "\nverdict " ++ verdict_word verdict ++ codes "\n"

-- the first thousand lines of each kind, and the counts of all
unfoldable pub report_text : List Finding → List UnjudgedPlace → List ℕ
report_text fs us =
    flat_map finding_line (first_part fs) ++ flat_map unjudged_line (first_part us)
    ++ counts_text (length fs) (length us) (verdict_of fs us)
