use Rattle.std.proofs.lemmas.Result.{on_ok_weaker}
use Rattle.copy_out.proofs.Grouping.{five_written}
use Rattle.copy_out.proofs.fields.push_groups.Goals as goal

pub returns : goal.returns
returns c =
    let one = c.split_at.result in
    let two = c.split_at-2.result in
    let three = c.split_at-3.result in
    let four = c.split_at-4.result in
    on_ok_weaker c.push_slice.result
    (λ e. five_written c.args.text.now c.push_group.new.text c.push_group-2.new.text c.push_group-3.new.text c.push_group-4.new.text c.push_slice.new.self
    c.args.digits.now one.0.now one.1.now two.0.now two.1.now three.0.now three.1.now four.0.now four.1.now c.requires
    c.split_at.ensures.front c.split_at.ensures.back c.split_at-2.ensures.front c.split_at-2.ensures.back
    c.split_at-3.ensures.front c.split_at-3.ensures.back c.split_at-4.ensures.front c.split_at-4.ensures.back
    c.in_ok-push_group.ensures c.in_ok-push_group-2.ensures c.in_ok-push_group-3.ensures c.in_ok-push_group-4.ensures e)
    c.push_slice.ensures
