-- Names are found as before, but for the one that was added.
use Rattle.std.proofs.Common.{◌≡◌, ℕ, List, refl, sym, ◌∙◌, ap}
use Rattle.std.specs.Prelude.{Some, None, position, string_bytes}
use Rattle.memory_files.specs.declared.held.Entry.{Entry}
use Rattle.outside.specs.Outside.{Names}
use Rattle.memory_files.specs.Held.{is_named, look_up, with_file}
use Rattle.memory_files.proofs.Lookup.{look_up-push, look_up-set}
use Rattle.memory_files.proofs.held.HeldFiles.add.Goals as goal

pub returns-in-Some-clause-ok : goal.returns-in-Some-clause-ok
returns-in-Some-clause-ok c =
    let es = c.args.self.now.entries.items in
    let base = c.args.base.now in
    let part = c.args.part in
    let old : Entry = c.index_mut.result.now in
    let new : Entry = record { base = old.base; part = old.part; bytes = c.in_ok-bytes.bytes } in
    let first : position (is_named base part) es ≡ Some c.in-Some.at = rw (← c.deref.ensures.value) (sym c.in-Some.ensures) in
    let with_bytes : List ℕ → Names = λ bytes. with_file (look_up es) base part bytes in
    look_up-set base part es new old c.in-Some.at first (sym c.index_mut.ensures.value) refl refl ∙ ap with_bytes c.in_ok-bytes.ensures.items

pub returns-in_ok-push-in-None-clause-ok : goal.returns-in_ok-push-in-None-clause-ok
returns-in_ok-push-in-None-clause-ok c =
    let es = c.args.self.now.entries.items in
    let part = c.args.part in
    let new : Entry = record { base = c.in_ok-base-in-None.base; part = part; bytes = c.in_ok-bytes.bytes } in
    let base_is : string_bytes new.base ≡ c.args.base.now = c.in_ok-base-in-None.ensures.ok in
    let none : position (is_named (string_bytes new.base) part) es ≡ None = rw (base_is, ← c.deref.ensures.value) (sym c.in-None.ensures) in
    let with_base : List ℕ → Names = λ base. with_file (look_up es) base part new.bytes.items in
    let with_bytes : List ℕ → Names = λ bytes. with_file (look_up es) c.args.base.now part bytes in
    ap look_up c.in_ok-push-in-None.ensures.items ∙ look_up-push es new none ∙ ap with_base base_is ∙ ap with_bytes c.in_ok-bytes.ensures.items
