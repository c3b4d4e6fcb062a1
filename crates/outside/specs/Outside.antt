-- What files show of themselves, what a sink has taken, and when a fault may be told.
use Rattle.std.specs.Prelude.{◌≡◌, ℕ, ◌+◌, ◌-◌, ◌^◌, ◌≤◌, Bool, min, List, ◌∷◌, ◌++◌, Option, Some, None, Result, Ok}
use Rattle.std.specs.Prelude.{IfOk, IfSome, OnErr, IsErrOf, IsSomeAnd}
use Rattle.std.specs.Option.{option_map}
use Rattle.std.proofs.Common.{refl, ap, append_assoc}
use Rattle.outside.specs.declared.files.Failed.{Failed}
use Rattle.outside.specs.declared.files.Part.{Part}

-- the bytes under each base and part, where there are some
abbrev pub Names : Type 0
Names = List ℕ → Part → Option (List ℕ)

-- the same, where an object tells it
abbrev pub Held : Type 0
Held = Option Names

-- what files show of themselves: what they hold, how often a call failed, whether the last failure
-- was a refused allocation of their own, how often they were read, and the references through which
-- an object asks the files of another, its own first: each by its name
pub record Seen : Type 0 where
  pub held : Held
  pub faults : ℕ
  pub refused : Bool
  pub reads : ℕ
  pub lenders : List ℕ

-- what files show through a reference of this name
abbrev pub seen_through : Seen → ℕ → Seen
seen_through s name = record s { lenders = name ∷ s.lenders }

-- where names are told, they meet P
abbrev pub IfTold : {S : Type 0} → (S → Seen) → S → (Names → Type 0) → Type 0
IfTold seen files P = (names : Names) → (seen files).held ≡ Some names → P names

-- an answer meets P of it and of the names, where they are told
abbrev pub Tells : {S T E : Type 0} → (S → Seen) → S → Result T E → (T → Names → Type 0) → Type 0
Tells seen files result P = IfOk result (λ answer. IfTold seen files (P answer))

-- where the bytes of a name are told, they meet P
abbrev pub IfHeld : {S : Type 0} → (S → Seen) → S → List ℕ → Part → (List ℕ → Type 0) → Type 0
IfHeld seen files base part P =
    (names : Names) (bytes : List ℕ) → (seen files).held ≡ Some names → names base part ≡ Some bytes → P bytes

-- where names are told, this one is held, and its bytes meet P
abbrev pub IsHeldAnd : {S : Type 0} → (S → Seen) → S → List ℕ → Part → (List ℕ → Type 0) → Type 0
IsHeldAnd seen files base part P = (names : Names) → (seen files).held ≡ Some names → IsSomeAnd (names base part) P

-- the last value of a counter
abbrev pub last_count : ℕ
last_count = 2 ^ 64 - 1

-- a count of faults has risen, or stands at its last value
abbrev pub Rose : ℕ → ℕ → Type 0
Rose before now = min (before + 1) last_count ≤ now

-- a count doesn't fall, and an error comes only where it rose
pub record HasCause {T E : Type 0} (before now : ℕ) (result : Result T E) : Type 0 where
  pub later : before ≤ now
  pub failed : OnErr result (Rose before now)

-- the one failure
abbrev pub failed : Failed
failed = record {}

-- files were asked, and this came of it: they hold what they held and ask the files that they asked,
-- no count fell, this fault comes only where a call failed, and they were read at most so often
pub record AskedWithin {T E : Type 0} (budget : Option ℕ) (old new : Seen) (result : Result T E) (fault : E)
    : Type 0 where
  pub same : new.held ≡ old.held
  pub later : old.faults ≤ new.faults
  pub onward : old.reads ≤ new.reads
  pub caused : IsErrOf result fault → Rose old.faults new.faults
  pub through : new.lenders ≡ old.lenders
  pub most : IfSome budget (λ n. new.reads ≤ old.reads + n)

-- with any number of reads
abbrev pub Asked : {S T E : Type 0} → (S → Seen) → S → S → Result T E → E → Type 0
Asked seen old new = AskedWithin None (seen old) (seen new)

-- with at most n reads
abbrev pub AskedAtMost : {S T E : Type 0} → ℕ → (S → Seen) → S → S → Result T E → E → Type 0
AskedAtMost n seen old new = AskedWithin (Some n) (seen old) (seen new)

-- files were asked, and no call failed
abbrev pub Passed : {S : Type 0} → (S → Seen) → S → S → Type 0
Passed seen old new = AskedWithin {T = Failed} None (seen old) (seen new) (Ok failed) failed

-- the same, with at most n reads
abbrev pub PassedAtMost : {S : Type 0} → ℕ → (S → Seen) → S → S → Type 0
PassedAtMost n seen old new = AskedWithin {T = Failed} (Some n) (seen old) (seen new) (Ok failed) failed

-- what was written, where it is told, and these bytes after it
abbrev pub appended : Option (List ℕ) → List ℕ → Option (List ℕ)
appended written bytes = option_map (λ xs. xs ++ bytes) written

-- two pieces after one another are their join
pub appended-append : (written : Option (List ℕ)) (xs ys : List ℕ)
    → appended (appended written xs) ys ≡ appended written (xs ++ ys)
appended-append None xs ys = refl
appended-append (Some ws) xs ys = ap Some (append_assoc ws xs ys)
