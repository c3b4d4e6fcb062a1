use Rattle.std.proofs.Common.{sym}
use Rattle.std.specs.Prelude.{Ok, Err}
use Rattle.page_layout.specs.View.{page_bytes}
use Rattle.bt_tuples.specs.Shown.{item_shown}
use Rattle.bt_tuples.specs.declared.items.ItemFault.TheVariants.{Broken, Packed}
use Rattle.bt_pages.proofs.Plain.{at_spot, own_doubt-live, own_rule-live}
use Rattle.bt_pages.proofs.items.own_found.Goals as goal

pub returns-in-Ok-clause-rule : goal.returns-in-Ok-clause-rule
returns-in-Ok-clause-rule c =
    sym (own_rule-live c.args.columns.now.specs.now c.args.columns.now.more.now (page_bytes c.args.page) c.args.i c.requires.live (Ok (item_shown c.in-Ok.field-0)) (at_spot c.args.columns.now.specs.now c.args.columns.now.more.now (page_bytes c.args.page) c.args.i _ (Ok (item_shown c.in-Ok.field-0)) c.spot_of.ensures c.in-Ok.ensures.outcome))

pub returns-in-Ok-clause-doubt : goal.returns-in-Ok-clause-doubt
returns-in-Ok-clause-doubt c =
    sym (own_doubt-live c.args.columns.now.specs.now c.args.columns.now.more.now (page_bytes c.args.page) c.args.i c.requires.live (Ok (item_shown c.in-Ok.field-0)) (at_spot c.args.columns.now.specs.now c.args.columns.now.more.now (page_bytes c.args.page) c.args.i _ (Ok (item_shown c.in-Ok.field-0)) c.spot_of.ensures c.in-Ok.ensures.outcome))

pub returns-in-Err-Broken-clause-rule : goal.returns-in-Err-Broken-clause-rule
returns-in-Err-Broken-clause-rule c =
    sym (own_rule-live c.args.columns.now.specs.now c.args.columns.now.more.now (page_bytes c.args.page) c.args.i c.requires.live (Err (Broken c.in-Err-Broken.rule)) (at_spot c.args.columns.now.specs.now c.args.columns.now.more.now (page_bytes c.args.page) c.args.i _ (Err (Broken c.in-Err-Broken.rule)) c.spot_of.ensures (rw (c.in-Err-Broken.field-0-is) at c.in-Err-Broken.ensures.outcome)))

pub returns-in-Err-Broken-clause-doubt : goal.returns-in-Err-Broken-clause-doubt
returns-in-Err-Broken-clause-doubt c =
    sym (own_doubt-live c.args.columns.now.specs.now c.args.columns.now.more.now (page_bytes c.args.page) c.args.i c.requires.live (Err (Broken c.in-Err-Broken.rule)) (at_spot c.args.columns.now.specs.now c.args.columns.now.more.now (page_bytes c.args.page) c.args.i _ (Err (Broken c.in-Err-Broken.rule)) c.spot_of.ensures (rw (c.in-Err-Broken.field-0-is) at c.in-Err-Broken.ensures.outcome)))

pub returns-in-Err-Packed-clause-rule : goal.returns-in-Err-Packed-clause-rule
returns-in-Err-Packed-clause-rule c =
    sym (own_rule-live c.args.columns.now.specs.now c.args.columns.now.more.now (page_bytes c.args.page) c.args.i c.requires.live (Err Packed) (at_spot c.args.columns.now.specs.now c.args.columns.now.more.now (page_bytes c.args.page) c.args.i _ (Err Packed) c.spot_of.ensures (rw (c.in-Err-Packed.field-0-is) at c.in-Err-Packed.ensures.outcome)))

pub returns-in-Err-Packed-clause-doubt : goal.returns-in-Err-Packed-clause-doubt
returns-in-Err-Packed-clause-doubt c =
    sym (own_doubt-live c.args.columns.now.specs.now c.args.columns.now.more.now (page_bytes c.args.page) c.args.i c.requires.live (Err Packed) (at_spot c.args.columns.now.specs.now c.args.columns.now.more.now (page_bytes c.args.page) c.args.i _ (Err Packed) c.spot_of.ensures (rw (c.in-Err-Packed.field-0-is) at c.in-Err-Packed.ensures.outcome)))
