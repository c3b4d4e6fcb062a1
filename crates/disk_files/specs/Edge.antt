-- What the objects at the real edge tell: their failures alone.
use Rattle.std.specs.Prelude.{ℕ, None, []}
use Rattle.disk_files.specs.declared.disk.DiskFiles.{DiskFiles}
use Rattle.outside.specs.Outside.{Seen}
use Rattle.disk_files.specs.declared.out.OutSink.{OutSink}

-- what real files show of themselves
abbrev pub disk_seen : DiskFiles → Seen
disk_seen d = record { held = None; faults = d.faults; refused = d.refused; reads = d.reads; lenders = [] }

-- how often a write to standard output failed
abbrev pub out_faults : OutSink → ℕ
out_faults s = s.faults
