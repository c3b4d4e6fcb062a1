use Rattle.std.proofs.Common.{List, ap, sym, subst, ◌∙◌}
use Rattle.std.specs.Prelude.{Option}
use Rattle.laws_search.specs.Keys.{Separator}
use Rattle.key_orders.specs.declared.columns.Value.{Value}
use Rattle.key_orders.specs.declared.Tid.{Tid}
use Rattle.bt_meta.specs.Heads.{tree_head_of}
use Rattle.bt_tuples.specs.Items.{meaning_of}
use Rattle.bt_tuples.specs.Keys.{first_tid_in, last_tid_in}
use Rattle.bt_tuples.proofs.Reading.{IsRead, means-first, means-fits, means-last}
use Rattle.bt_tuples.proofs.keys.read_tuple_keys.Goals as goal

abbrev key_and : List Value → Option Tid → Separator Value Tid
key_and key tid = record { kept = key; tid = tid }

pub returns-in-Ok-clause-keys : goal.returns-in-Ok-clause-keys
returns-in-Ok-clause-keys c killed =
    let e = c.in-Ok.ensures in
    let read : IsRead c.args.columns.now.specs.now c.args.columns.now.more.now c.args.tuple.now (tree_head_of c.args.tuple.now) c.read_tuple.new.key =
    subst (λ h. IsRead c.args.columns.now.specs.now c.args.columns.now.more.now c.args.tuple.now h c.read_tuple.new.key) e.head
    (record { head_is = e.head; begins = e.value; count = e.count; fits = e.fits; whole = e.whole; some = e.some }) in
    record {
      item = meaning_of c.args.columns.now.specs.now c.args.columns.now.more.now c.args.tuple.now killed;
      is = sym (e.outcome killed);
      fits = means-fits c.args.columns.now.specs.now c.args.columns.now.more.now c.args.tuple.now c.read_tuple.new.key read killed;
      first =
          ap (key_and c.read_tuple.new.key) (c.first_tid-keys.ensures ∙ ap (λ h. first_tid_in h.kind c.args.tuple.now) e.head)
          ∙ means-first c.args.columns.now.specs.now c.args.columns.now.more.now c.args.tuple.now c.read_tuple.new.key read killed;
      last =
          ap (key_and c.read_tuple.new.key) (c.last_tid-keys.ensures ∙ ap (λ h. last_tid_in h.kind c.args.tuple.now) e.head)
          ∙ means-last c.args.columns.now.specs.now c.args.columns.now.more.now c.args.tuple.now c.read_tuple.new.key read killed;
    }
