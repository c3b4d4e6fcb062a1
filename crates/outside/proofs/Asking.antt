-- Calls one after another. Each law is proved by what its records say, whatever that is.
use Rattle.std.proofs.Common.{ℕ, ◌+◌, ◌*◌, ◌≤◌, mul-add, mul-one, arith}
use Rattle.std.specs.Prelude.{Option, Some, None, Result, Ok, Err}
use Rattle.std.proofs.lemmas.Grind.{common_steps}
use Rattle.outside.specs.Outside.{AskedWithin, Seen, failed}
use Rattle.outside.specs.declared.files.Failed.{Failed}

-- no call yet
pub Passed-none : {a : Seen} → AskedWithin {T = Failed} {E = Failed} None a a (Ok failed) failed
Passed-none = grind (arith, common_steps)

pub PassedAtMost-none : {a : Seen} → AskedWithin {T = Failed} {E = Failed} (Some 0) a a (Ok failed) failed
PassedAtMost-none = grind (arith, common_steps)

-- a budget may be forgotten, or be more
pub Asked-any : {T E : Type 0} {m : Option ℕ} {a b : Seen} {r : Result T E} {f : E} → AskedWithin m a b r f → AskedWithin None a b r f
Asked-any h = grind (arith, common_steps)

pub AskedAtMost-more : {T E : Type 0} {m n : ℕ} {a b : Seen} {r : Result T E} {f : E} → m ≤ n → AskedWithin (Some m) a b r f → AskedWithin (Some n) a b r f
AskedAtMost-more le h = grind (arith, common_steps)

-- one call after others of which none failed
after : {T U D E : Type 0} {m n : Option ℕ} {a b c : Seen} {x : T} (r : Result U E) {e : D} {f : E}
    → AskedWithin m a b (Ok x) e → AskedWithin n b c r f → AskedWithin None a c r f
after (Ok y) g h = grind (arith, common_steps)
after (Err y) g h = grind (arith, common_steps)

pub Asked-then : {T U D E : Type 0} {m n : Option ℕ} {a b c : Seen} {x : T} {r : Result U E} {e : D} {f : E}
    → AskedWithin m a b (Ok x) e → AskedWithin n b c r f → AskedWithin None a c r f
Asked-then {r = r} g h = after r g h

-- budgets add up
after_more : {T U D E : Type 0} {m n : ℕ} {a b c : Seen} {x : T} (r : Result U E) {e : D} {f : E}
    → AskedWithin (Some m) a b (Ok x) e → AskedWithin (Some n) b c r f → AskedWithin (Some (m + n)) a c r f
after_more (Ok y) g h = grind (arith, common_steps)
after_more (Err y) g h = grind (arith, common_steps)

pub AskedAtMost-then : {T U D E : Type 0} {m n : ℕ} {a b c : Seen} {x : T} {r : Result U E} {e : D} {f : E}
    → AskedWithin (Some m) a b (Ok x) e → AskedWithin (Some n) b c r f → AskedWithin (Some (m + n)) a c r f
AskedAtMost-then {r = r} g h = after_more r g h

-- in a loop: one turn more
pub Passed-next : {T U D E : Type 0} {m n : Option ℕ} {a b c : Seen} {x : T} {y : U} {e : D} {f : E}
    → AskedWithin m a b (Ok x) e → AskedWithin n b c (Ok y) f → AskedWithin {T = Failed} {E = Failed} None a c (Ok failed) failed
Passed-next g h = grind (arith, common_steps)

-- no read in any turn
pub PassedAtMost-again : {T U D E : Type 0} {a b c : Seen} {x : T} {y : U} {e : D} {f : E}
    → AskedWithin (Some 0) a b (Ok x) e → AskedWithin (Some 0) b c (Ok y) f → AskedWithin {T = Failed} {E = Failed} (Some 0) a c (Ok failed) failed
PassedAtMost-again g h = grind (arith, common_steps)

-- n more in each turn
pub PassedAtMost-next : {T U D E : Type 0} (n k : ℕ) {a b c : Seen} {x : T} {y : U} {e : D} {f : E}
    → AskedWithin (Some (n * k)) a b (Ok x) e → AskedWithin (Some n) b c (Ok y) f → AskedWithin {T = Failed} {E = Failed} (Some (n * (k + 1))) a c (Ok failed) failed
PassedAtMost-next n k g h =
    let turns = mul-add n k 1 in
    let one = mul-one n in
    grind (arith, common_steps)
