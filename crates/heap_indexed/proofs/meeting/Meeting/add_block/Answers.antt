use Rattle.std.proofs.Common.{◌∙◌}
use Rattle.bt_levels.specs.Sound.{index_columns}
use Rattle.heap_indexed.proofs.KeptLaws.{kept-same}
use Rattle.heap_indexed.proofs.meeting.Meeting.add_block.Goals as goal

pub returns : goal.returns
returns c = λ names done strays range tree work. record {
  pages = work.pages;
  done_is = work.done_is;
  strays_are = work.strays_are;
  apart = work.apart;
  unmet = λ tid. c.in_ok-add_block.ensures.ok.met tid ∙ work.unmet tid;
  kept = λ whole. kept-same (index_columns tree) c.args.self.now.slots c.add_block.new.self range c.in_ok-add_block.ensures.ok.keys (work.kept whole);
  rooted = λ tid some. work.rooted tid (λ none. some (c.in_ok-add_block.ensures.ok.keys tid ∙ none));
}
