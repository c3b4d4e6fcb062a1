use Rattle.std.proofs.Common.{refl}
use Rattle.page_layout.specs.View.{page_bytes}
use Rattle.key_attrs.specs.Columns.{tree_columns}
use Rattle.laws_search.proofs.Gather.{In-from_Contains}
use Rattle.bt_image.specs.Image.{page_keys}
use Rattle.bt_steps.specs.Entries.{keys_at}
use Rattle.bt_steps.proofs.OnLeaf.{in-get, item-read, only-there}
use Rattle.bt_steps.proofs.leaf.find_on.Goals as goal

pub returns-in_err-nth-clause-none : goal.returns-in_err-nth-clause-none
unfolding keys_at
returns-in_err-nth-clause-none c none readable leaf alive e there sought =
    let columns = tree_columns c.args.columns.now in
    let page = page_bytes c.args.page in
    let at = c.last_passed-item.ensures in
    let r = c.last_passed-item.result in
    let in-item = only-there columns page readable leaf alive c.args.sought.key.now c.args.sought.tid r at.from at.to
    (λ past. at.passed readable alive past) (λ less. at.next readable alive less) e sought (In-from_Contains (page_keys columns.specs columns.more page) e there) in
    let k = in-get e _ in-item in
    c.in_err-nth.ensures.none refl k.0 e k.1 sought (item-read columns page readable leaf alive r at.from at.to)
