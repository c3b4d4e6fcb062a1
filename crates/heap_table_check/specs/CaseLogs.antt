-- The logs that the code keeps of a case.
use Rattle.liveness.specs.LogFiles.{LogFiles}
use Rattle.rel_files.specs.Slru.{dir_of}
use Rattle.heap_table_check.specs.declared.logs.CaseLogs.{CaseLogs}

abbrev pub log_files_kept : CaseLogs → LogFiles
log_files_kept logs = record {
  xact = dir_of logs.xact;
  offsets = dir_of logs.offsets;
  members = dir_of logs.members;
  cluster = logs.cluster;
}
