use Rattle.std.proofs.Common.{◌≡◌, ◌-◌, ◌≤◌, take}
use Rattle.outside.specs.Outside.{IfHeld, Passed}
use Rattle.outside.specs.declared.files.Part.TheVariants.{Segment}
use Rattle.cmd_answers.proofs.text.read_text.Given as goal

-- the text so far begins the file
abbrev pub invariant-loop-done : goal.invariant-loop-done
invariant-loop-done g l = record {
  within : l.done ≤ l.len;
  text : IfHeld g.F.Files.seen l.initial.files l.file (Segment 0) (λ bytes. l.text ≡ take l.done bytes);
  asked : Passed g.F.Files.seen l.initial.files l.files;
}

abbrev pub decreases-loop-done : goal.decreases-loop-done
decreases-loop-done g l = l.len - l.done
