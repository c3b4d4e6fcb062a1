use Rattle.std.proofs.Common.{◌≡◌, ◌++◌, ◌∙◌, ℕ, List, map, ap, sym, arith}
use Rattle.outside.specs.Adds.{each_below, one_list}
use Rattle.rel_build.specs.declared.rows.Row.{Row}
use Rattle.page_write.specs.Pages.{heap_page}
use Rattle.rel_build.specs.Rows.{row_tuple, table_file, table_page}
use Rattle.rel_build.proofs.Parts.{parts_next, parts_none}
use Rattle.rel_build.proofs.table.table_file.Goals as goal

pub loop-k-init : goal.loop-k-init
loop-k-init c = c.new-file.ensures.items ∙ sym (parts_none (table_page c.args.rows.now))

pub loop-k-preserved : goal.loop-k-preserved
loop-k-preserved c =
    let rows = c.args.rows.now in
    let page_is : c.in_ok-page.page ≡ table_page rows c.loop-k.k =
    c.in_ok-page.ensures ∙ ap (λ (part : List Row). heap_page (map row_tuple part)) c.part_of.ensures.part in
    c.in_ok-push_bytes.ensures
    ∙ ap (λ (page : List ℕ). c.loop-k.file.items ++ page) page_is
    ∙ ap (λ (file : List ℕ). file ++ table_page rows c.loop-k.k) c.loop-k.invariant
    ∙ sym (parts_next (table_page rows) c.loop-k.k)

pub returns : goal.returns
unfolding table_file
returns c =
    let count = c.pages_for-k-end.ensures in
    let end : c.loop-k.k ≡ c.pages_for-k-end.result = omega arith in
    c.loop-k.invariant ∙ ap (each_below one_list (table_page c.args.rows.now)) (end ∙ count)
