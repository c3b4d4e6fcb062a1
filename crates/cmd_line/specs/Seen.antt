-- What the values of the code stand for.
use Rattle.std.specs.Prelude.{Option}
use Rattle.std.specs.Option.{option_map}
use Rattle.cmd_line.specs.Bounds.{bounds_in}
use Rattle.cmd_line.specs.Words.{All, Copy, Form, Generated, Heap, Index, Judge, Pages, Reindex, Scan, Show, Tell}
use Rattle.cmd_line.specs.declared.bounds.ScanWords.{ScanWords}
use Rattle.cmd_line.specs.declared.words.Command.{Command}
use Rattle.cmd_line.specs.declared.words.Command.TheVariants.{Pages as pages_command, Heap as heap_command}
use Rattle.cmd_line.specs.declared.words.Command.TheVariants.{Index as index_command, All as all_command}
use Rattle.cmd_line.specs.declared.words.Command.TheVariants.{Copy as copy_command, Reindex as reindex_command}
use Rattle.cmd_line.specs.declared.words.Command.TheVariants.{Show as show_command, Gen as gen_command}
use Rattle.cmd_line.specs.declared.words.Command.TheVariants.{Scan as scan_command, Tell as tell_command}

-- the form of a scan's words
abbrev pub scan_seen : ScanWords → Form
scan_seen words = Scan words.case.now words.name.now (bounds_in words.low.now words.high.now) words.direction

-- the form of a command
abbrev pub form_seen : Command → Form
form_seen (pages_command file) = Judge (Pages file.now)
form_seen (heap_command case) = Judge (Heap case.now)
form_seen (index_command case name) = Judge (Index case.now name.now)
form_seen (all_command case) = Judge (All case.now)
form_seen (copy_command case) = Copy case.now
form_seen (reindex_command case name) = Reindex case.now name.now
form_seen (show_command kind file block) = Show kind file.now block
form_seen (gen_command seed rows) = Judge (Generated seed rows)
form_seen (scan_command words) = scan_seen words
form_seen (tell_command notice) = Tell notice

-- the same, where there is one
abbrev pub form_asked : Option Command → Option Form
form_asked command = option_map form_seen command
