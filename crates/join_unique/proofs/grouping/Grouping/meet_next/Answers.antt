use Rattle.join_unique.proofs.grouping.Grouping.meet_next.Goals as goal

pub returns-clause-told : goal.returns-clause-told
returns-clause-told g c = λ names told. c.pass.ensures.told names (c.find_in_block.ensures.told names told)
