use Rattle.std.proofs.Common.{◌≡◌, length, ap, sym, subst, ◌∙◌}
use Rattle.std.specs.Prelude.{Ok}
use Rattle.bt_meta.specs.Heads.{tree_head_of}
use Rattle.bt_tuples.specs.Items.{ItemFits, Plain, Posting, meaning_of}
use Rattle.bt_tuples.specs.Keys.{count_by}
use Rattle.bt_tuples.specs.Shown.{item_shown}
use Rattle.bt_tuples.specs.Tuples.{number_of, plain_tid, tids_at}
use Rattle.bt_tuples.proofs.Reading.{IsRead, means-fits, means-pivot, means-plain, means-posting, record_pivot}
use Rattle.bt_tuples.proofs.items.tuple_item.Goals as goal
use Rattle.bt_tuples.proofs.items.tuple_item.Goals.{in-Pivot, in-Plain, in-Posting}

read : (c : goal.Joined-head) → IsRead c.args.columns.now.specs.now c.args.columns.now.more.now c.args.tuple.now (tree_head_of c.args.tuple.now) c.read_tuple.new.key
read c =
    let e = c.in-Ok.ensures in
    subst (λ h. IsRead c.args.columns.now.specs.now c.args.columns.now.more.now c.args.tuple.now h c.read_tuple.new.key) e.head
    (record { head_is = e.head; begins = e.value; count = e.count; fits = e.fits; whole = e.whole; some = e.some })

means : (c : goal.Joined-head) → item_shown c.match-head.result ≡ meaning_of c.args.columns.now.specs.now c.args.columns.now.more.now c.args.tuple.now c.args.killed
means c =
    let e = c.in-Ok.ensures in
    let tuple = c.args.tuple.now in
    let key = c.read_tuple.new.key in
    elim c.match-head.branch [
      | in-Pivot w ↦
          ap item_shown w.result-is
          ∙ (λ i. record_pivot (w.kept_tid.ensures i) key (e.head i).block)
          ∙ means-pivot c.args.columns.now.specs.now c.args.columns.now.more.now tuple key (read c) c.args.killed (sym (ap (λ h. h.kind) e.head) ∙ w.in-Pivot.is)
      | in-Plain w ↦
          ap item_shown w.result-is
          ∙ ap (λ t. Plain key w.included.result t c.args.killed) (w.plain_tid.ensures ∙ ap plain_tid e.head)
          ∙ means-plain c.args.columns.now.specs.now c.args.columns.now.more.now tuple key (read c) c.args.killed (sym (ap (λ h. h.kind) e.head) ∙ w.in-Plain.is) w.included.result
          (w.included.ensures key (read c).begins.rest (read c).begins.is (e.count ∙ ap (λ kind. count_by kind c.in-Ok.head (length c.args.columns.now.specs.now)) w.in-Plain.is) (read c).begins.alone)
      | in-Posting w ↦
          ap item_shown w.result-is
          ∙ ap (λ ts. Posting key ts c.args.killed) (w.at.ensures ∙ ap (λ n. tids_at tuple c.in-Ok.head.block n) w.number_of.ensures ∙ ap (λ h. tids_at tuple h.block (number_of h)) e.head)
          ∙ means-posting c.args.columns.now.specs.now c.args.columns.now.more.now tuple key (read c) c.args.killed (sym (ap (λ h. h.kind) e.head) ∙ w.in-Posting.is)
    ]

pub returns-after-head-clause-outcome : goal.returns-after-head-clause-outcome
returns-after-head-clause-outcome c = ap Ok (means c) ∙ c.in-Ok.ensures.outcome c.args.killed

pub returns-after-head-clause-fits : goal.returns-after-head-clause-fits
returns-after-head-clause-fits c =
    subst (ItemFits c.args.columns.now.specs.now) (sym (means c)) (means-fits c.args.columns.now.specs.now c.args.columns.now.more.now c.args.tuple.now c.read_tuple.new.key (read c) c.args.killed)
