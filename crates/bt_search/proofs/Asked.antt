-- Reads are at most as many as visits.
use Rattle.std.proofs.Common.{ℕ, ◌+◌, ◌≤◌, arith}
use Rattle.std.specs.Prelude.{Some, Result, Ok, Err, refl}
use Rattle.std.proofs.lemmas.Grind.{common_steps}
use Rattle.outside.specs.Outside.{AskedWithin, Seen, failed}
use Rattle.outside.specs.declared.files.Failed.{Failed}
use Rattle.rel_files.specs.declared.fault.ReadFault.{ReadFault}
use Rattle.rel_files.specs.Faults.{read_fault}
use Rattle.outside.proofs.Asking.{AskedAtMost-more, AskedAtMost-then}

-- nothing was asked
pub asked-none : {T E : Type 0} {a : Seen} {x : T} {f : E} (n : ℕ) → AskedWithin {T = T} {E = E} (Some n) a a (Ok x) f
asked-none n = grind (arith, common_steps)

-- a fault that is handed on: there is one fault of reading
pub asked-failed : {T U : Type 0} {n : ℕ} {a b : Seen} {e d : ReadFault} → AskedWithin {T = T} (Some n) a b (Err e) read_fault → AskedWithin {T = U} (Some n) a b (Err d) read_fault
asked-failed h = record { same = h.same; later = h.later; onward = h.onward; caused = λ is. h.caused refl; through = h.through; most = h.most }

-- an answer that asks no more
pub asked-ok : {T U D E : Type 0} {m n : ℕ} {a b : Seen} {x : T} {y : U} {e : D} {f : E} → m ≤ n → AskedWithin {T = T} {E = D} (Some m) a b (Ok x) e → AskedWithin {T = U} {E = E} (Some n) a b (Ok y) f
asked-ok le h = grind (arith, common_steps)

-- after others
pub asked-then : {T U D E : Type 0} {m n k : ℕ} {a b c : Seen} {x : T} {r : Result U E} {e : D} {f : E} → m + n ≤ k
    → AskedWithin (Some m) a b (Ok x) e → AskedWithin (Some n) b c r f → AskedWithin (Some k) a c r f
asked-then le g h = AskedAtMost-more le (AskedAtMost-then g h)

-- so far, in a loop
pub passed-then : {T U D E : Type 0} {m n k : ℕ} {a b c : Seen} {x : T} {y : U} {e : D} {f : E} → m + n ≤ k
    → AskedWithin (Some m) a b (Ok x) e → AskedWithin (Some n) b c (Ok y) f → AskedWithin {T = Failed} {E = Failed} (Some k) a c (Ok failed) failed
passed-then le g h = asked-ok le (AskedAtMost-then g h)
