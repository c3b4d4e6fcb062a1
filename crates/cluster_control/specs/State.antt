-- The states of a cluster, by their numbers and in words.
use Rattle.std.specs.Prelude.{ℕ, ◌==◌, if◌then◌else◌, List, codes}
use Rattle.cluster_control.specs.declared.state.ClusterState.{ClusterState}
use Rattle.cluster_control.specs.declared.state.ClusterState.TheVariants.{StartingUp, ShutDown, ShutDownInRecovery}
use Rattle.cluster_control.specs.declared.state.ClusterState.TheVariants.{ShuttingDown, InCrashRecovery}
use Rattle.cluster_control.specs.declared.state.ClusterState.TheVariants.{InArchiveRecovery, InProduction, Other}

-- the state that a number stands for
abbrev pub state_of : ℕ → ClusterState
state_of n =
    if n == 0 then StartingUp
    else if n == 1 then ShutDown
    else if n == 2 then ShutDownInRecovery
    else if n == 3 then ShuttingDown
    else if n == 4 then InCrashRecovery
    else if n == 5 then InArchiveRecovery
    else if n == 6 then InProduction
    else Other n

-- a state in words
abbrev pub words_of : ClusterState → List ℕ
words_of StartingUp = codes "starting up"
words_of ShutDown = codes "shut down"
words_of ShutDownInRecovery = codes "shut down in recovery"
words_of ShuttingDown = codes "shutting down"
words_of InCrashRecovery = codes "in crash recovery"
words_of InArchiveRecovery = codes "in archive recovery"
words_of InProduction = codes "in production"
words_of (Other n) = codes "in an unknown state"
