-- What files hold of the logs.
use Rattle.std.specs.Prelude.{ℕ, List}
use Rattle.outside.specs.Outside.{Names}
use Rattle.rel_files.specs.Ranges.{is_multi_in_range, is_xid_in_range}
use Rattle.rel_files.specs.Slru.{dir_of}
use Rattle.rel_files.specs.declared.cluster.Cluster.{Cluster}
use Rattle.xact_status.specs.Status.{status_of}
use Rattle.multi_members.specs.Updater.{updater_of}
use Rattle.liveness.specs.Logs.{Logs}
use Rattle.liveness.specs.declared.states.Status3.{Status3}

-- the folders of pg_xact and of the two parts of pg_multixact, and the cluster's numbers
pub record LogFiles : Type 0 where
  pub xact : List ℕ
  pub offsets : List ℕ
  pub members : List ℕ
  pub cluster : Cluster

-- what the logs in these folders say, where these names are held
abbrev pub logs_of : Names → LogFiles → Logs
logs_of names files = record {
  xid_in_range = is_xid_in_range files.cluster;
  multi_in_range = is_multi_in_range files.cluster;
  status = status_of names files.xact;
  updater = updater_of names files.offsets files.members files.cluster;
}

-- the folders and the numbers that are handed in
abbrev pub log_files_of : Status3 → LogFiles
log_files_of logs = record {
  xact = dir_of logs.xact.now;
  offsets = dir_of logs.offsets.now;
  members = dir_of logs.members.now;
  cluster = logs.cluster;
}
