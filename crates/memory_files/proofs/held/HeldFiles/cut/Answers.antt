-- A file that is held is its first entry.
use Rattle.std.proofs.Common.{◌≡◌, ◌≤◌, ◌<◌, ◌∙◌, List, ℕ, refl, sym, ap, subst, arith, length}
use Rattle.std.specs.Prelude.{Some, None, IsSomeAnd, position, Option}
use Rattle.memory_files.specs.declared.held.Entry.{Entry}
use Rattle.outside.specs.Outside.{Names}
use Rattle.memory_files.specs.Held.{is_named, look_up, with_file}
use Rattle.memory_files.proofs.Lookup.{front_of-file, look_up-at, look_up-none, look_up-set}
use Rattle.memory_files.proofs.held.HeldFiles.cut.Goals as goal

-- a length that is known of the bytes that are found
fits : (found : Option (List ℕ)) (bytes : List ℕ) (n : ℕ) → found ≡ Some bytes → n ≤ length bytes → IsSomeAnd found (λ bs. n ≤ length bs)
fits found bytes n is le = let P : Option (List ℕ) → Type 0 = λ o. IsSomeAnd o (λ bs. n ≤ length bs) in subst P (sym is) le

-- and none where the bytes are fewer, or none are found
is_short : (found : Option (List ℕ)) (bytes : List ℕ) (n : ℕ) → found ≡ Some bytes → length bytes < n → IsSomeAnd found (λ bs. n ≤ length bs) → ⊥
is_short found bytes n is lt h =
    let P : Option (List ℕ) → Type 0 = λ o. IsSomeAnd o (λ bs. n ≤ length bs) in
    let le : n ≤ length bytes = subst P is h in
    omega (arith, le, lt)

is_none : (found : Option (List ℕ)) (n : ℕ) → found ≡ None → IsSomeAnd found (λ bs. n ≤ length bs) → ⊥
is_none found n is h = let P : Option (List ℕ) → Type 0 = λ o. IsSomeAnd o (λ bs. n ≤ length bs) in subst P is h

pub returns-in-Some-clause-answer : goal.returns-in-Some-clause-answer
returns-in-Some-clause-answer c =
    let es = c.args.self.now.entries.items in
    let old : Entry = c.index.result.now in
    let first : position (is_named c.args.base.now c.args.part) es ≡ Some c.in-Some.at = rw (← c.deref.ensures.value) (sym c.in-Some.ensures) in
    let held = look_up-at es c.args.base.now c.args.part c.in-Some.at old first (sym c.index.ensures) in
    (λ _. fits _ old.bytes.items c.args.len held (omega (arith, c.if-len.true, c.len.ensures)), λ _. refl)

pub returns-in-Some-clause-cut : goal.returns-in-Some-clause-cut
returns-in-Some-clause-cut c _ =
    let es = c.args.self.now.entries.items in
    let base = c.args.base.now in
    let part = c.args.part in
    let old : Entry = c.index_mut.result.now in
    let new : Entry = record { base = old.base; part = old.part; bytes = c.truncate.new.self } in
    let first : position (is_named base part) es ≡ Some c.in-Some.at = rw (← c.deref.ensures.value) (sym c.in-Some.ensures) in
    let held = look_up-at es base part c.in-Some.at old first (sym c.index_mut.ensures.value) in
    let with_bytes : List ℕ → Names = λ bytes. with_file (look_up es) base part bytes in
    look_up-set base part es new old c.in-Some.at first (sym c.index_mut.ensures.value) refl refl
    ∙ ap with_bytes c.truncate.ensures.items ∙ front_of-file (look_up es) base part old.bytes.items c.args.len held

pub returns-in_default-clause-answer : goal.returns-in_default-clause-answer
returns-in_default-clause-answer c =
    let es = c.args.self.now.entries.items in
    let old : Entry = c.index.result.now in
    let first : position (is_named c.args.base.now c.args.part) es ≡ Some c.in-Some.at = rw (← c.deref.ensures.value) (sym c.in-Some.ensures) in
    let held = look_up-at es c.args.base.now c.args.part c.in-Some.at old first (sym c.index.ensures) in
    (λ no. absurd (cc), λ h. absurd (is_short _ old.bytes.items c.args.len held (omega (arith, c.if-len.false, c.len.ensures)) h))

pub returns-in_default-2-clause-answer : goal.returns-in_default-2-clause-answer
returns-in_default-2-clause-answer c =
    let none : position (is_named c.args.base.now c.args.part) c.args.self.now.entries.items ≡ None = rw (← c.deref.ensures.value) (sym c.in_default.ensures) in
    (λ no. absurd (cc), λ h. absurd (is_none _ c.args.len (look_up-none c.args.self.now.entries.items c.args.base.now c.args.part none) h))
