use Rattle.bt_levels.specs.Sound.{block_count, held_block, index_columns}
use Rattle.join_meet.specs.Meeting.{all_entries}
use Rattle.join_meet.proofs.Some.{some-none}
use Rattle.heap_indexed.proofs.meeting.Meeting.meet_near.Goals as goal

pub returns-then-is_some-clause-met : goal.returns-then-is_some-clause-met
returns-then-is_some-clause-met g c = λ names told. some-none (all_entries (index_columns c.args.tree.now) (block_count c.args.tree.now) (held_block names c.args.tree.now)) c.args.self.now.slots
