-- What a sink in memory has taken, and which of its calls fail.
use Rattle.std.specs.Prelude.{ℕ, ◌++◌, [], ◌∷◌, List, Result}
use Rattle.memory_files.specs.declared.sink.MemSink.{MemSink}
use Rattle.memory_files.specs.Calls.{after_call, faults_after}

-- what there is to say of a sink in memory: what was written, how many bytes it takes at once, which
-- later puts fail (1 is the next one), and how often a put has failed
pub record SinkState : Type 0 where
  pub written : List ℕ
  pub grain : ℕ
  pub failing_puts : List ℕ
  pub faults : ℕ

abbrev pub sink_state : MemSink → SinkState
sink_state s = record {
  written = s.bytes.items;
  grain = s.grain;
  failing_puts = s.failing_puts;
  faults = s.faults;
}

-- a sink that has taken nothing, with no failure planned and none counted
abbrev pub nothing_taken : ℕ → SinkState
nothing_taken grain = record { written = []; grain = grain; failing_puts = []; faults = 0 }

-- the n-th later put is to fail too
abbrev pub after_fail_put : SinkState → ℕ → SinkState
after_fail_put s n = record s { failing_puts = s.failing_puts ++ n ∷ [] }

-- a put was made, gave this, and these bytes are written since
abbrev pub after_put : {T E : Type 0} → SinkState → Result T E → List ℕ → SinkState
after_put s result written = record s {
  written = written;
  failing_puts = after_call s.failing_puts;
  faults = faults_after s.faults result;
}
