-- How an object in memory counts its calls and its failures.
use Rattle.std.specs.Prelude.{ℕ, ◌-◌, if◌then◌else◌, List, map, Result, is_err}
use Rattle.outside.specs.Counting.{one_more}

-- the numbers of the later calls that fail, once a call was made: the next one had the number 1
abbrev pub after_call : List ℕ → List ℕ
after_call = map (λ n. n - 1)

-- a count of faults after a call with this result
abbrev pub faults_after : {T E : Type 0} → ℕ → Result T E → ℕ
faults_after faults result = if is_err result then one_more faults else faults
