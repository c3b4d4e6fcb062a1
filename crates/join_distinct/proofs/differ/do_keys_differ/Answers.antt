use Rattle.std.proofs.Common.{subst}
use Rattle.page_layout.specs.Page.{count_of}
use Rattle.page_layout.specs.View.{page_bytes}
use Rattle.key_attrs.specs.Columns.{tree_columns}
use Rattle.join_distinct.specs.declared.rising.Rise.{Rise}
use Rattle.join_distinct.specs.Items.{RisesTo}
use Rattle.join_distinct.proofs.Steps.{differ-none}
use Rattle.join_distinct.proofs.differ.do_keys_differ.Goals as goal

pub returns-in-Begins : goal.returns-in-Begins
returns-in-Begins c =
    let page = page_bytes c.args.page in
    differ-none (tree_columns c.args.columns.now) page (count_of page) (subst (λ (r : Rise). RisesTo (tree_columns c.args.columns.now) page (count_of page) r) c.in-Begins.is c.requires.rise)

pub returns-in-Rises : goal.returns-in-Rises
returns-in-Rises c =
    let page = page_bytes c.args.page in
    (subst (λ (r : Rise). RisesTo (tree_columns c.args.columns.now) page (count_of page) r) c.in-Rises.is c.requires.rise).1
