use Rattle.std.proofs.Common.{◌≡◌, List, ℕ, drop, false, length, take, ap, ◌∙◌, arith}
use Rattle.page_layout.specs.Page.{item_of}
use Rattle.page_layout.specs.declared.page.LinePtr.{LinePtr}
use Rattle.tuple_head.specs.Head.{has_misplaced_attributes, tuple_head_of}
use Rattle.heap_tuples.specs.Places.{tuple_at}
use Rattle.heap_tuples.specs.Tuples.{attributes_in, parts_of}
use Rattle.heap_rows.proofs.RowFinds.{body_by, read_by}
use Rattle.heap_rows.proofs.RowLaws.{never_in, read_or_not}
use Rattle.heap_rows.proofs.row_page.tuple_attributes.Goals as goal

pub returns-in-Some-clause-read : goal.returns-in-Some-clause-read
unfolding attributes_in
returns-in-Some-clause-read c = λ item list pointed has.
    let page = c.args.page.now in
    let pointer = c.args.pointer in
    let columns = c.args.columns.now in
    let tuple = c.in-Some.tuple.now in
    let is : tuple ≡ take pointer.len (drop pointer.off page) = c.in-Some.ensures.bytes ∙ ap (λ (p : List ℕ). take pointer.len (drop pointer.off p)) c.new.ensures in
    let named : tuple ≡ tuple_at page item = is ∙ ap (λ (p : LinePtr). take p.len (drop p.off page)) pointed in
    let kept : has_misplaced_attributes (length tuple) (tuple_head_of tuple) ≡ false =
    ap (λ (n : ℕ). has_misplaced_attributes n (tuple_head_of tuple)) (c.in-Some.ensures.len ∙ ap (λ (p : LinePtr). p.len) pointed)
    ∙ ap (λ (t : List ℕ). has_misplaced_attributes (item_of page item).len (tuple_head_of t)) named
    ∙ has.header in
    let own = read_or_not (attributes_in columns (tuple_at page item)) list has.read (never_in columns (tuple_at page item) c.requires.aligned) in
    read_by c.tuple_columns.result (parts_of columns tuple) list (c.tuple_columns.ensures.some kept) c.tuple_columns.ensures.parts
    (ap (λ (t : List ℕ). attributes_in columns t) named ∙ own)

pub returns-in-Some-clause-body : goal.returns-in-Some-clause-body
returns-in-Some-clause-body c =
    let page = c.args.page.now in
    let pointer = c.args.pointer in
    let tuple = c.in-Some.tuple.now in
    let whole : length page ≡ 8192 = omega arith in
    let is : tuple ≡ take pointer.len (drop pointer.off page) = c.in-Some.ensures.bytes ∙ ap (λ (p : List ℕ). take pointer.len (drop pointer.off p)) c.new.ensures in
    body_by c.tuple_columns.result page pointer tuple whole is c.in-Some.ensures.len c.in-Some.ensures.long c.tuple_columns.ensures.end c.tuple_columns.ensures.part
