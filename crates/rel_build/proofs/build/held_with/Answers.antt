use Rattle.std.proofs.Common.{◌≡◌, ◌∙◌, ap, List, ℕ, codes}
use Rattle.outside.specs.declared.files.Part.{Part}
use Rattle.outside.specs.declared.files.Part.TheVariants.{Segment, Slru}
use Rattle.memory_files.specs.Held.{no_names, with_file}
use Rattle.memory_files.specs.Memory.{SureState}
use Rattle.outside.specs.Outside.{Names}
use Rattle.rel_build.specs.Files.{held_with}
use Rattle.rel_build.proofs.build.held_with.Goals as goal

-- files that were not read
abbrev unread : Names → SureState
unread names = record { held = names; reads = 0 }

-- one more file
more : (old new : SureState) (names : Names) (base : List ℕ) (part : Part) (bytes : List ℕ)
    → new ≡ record old { held = with_file old.held base part bytes } → old ≡ unread names
    → new ≡ unread (with_file names base part bytes)
more old new names base part bytes e was = e ∙ ap (λ (s : SureState). record s { held = with_file s.held base part bytes }) was

pub returns : goal.returns
unfolding held_with
returns c =
    let one = more _ _ no_names (codes "t") (Segment 0) c.args.table.now c.in_ok-add.ensures.ok c.new-files.ensures in
    let two = more _ _ _ (codes "i1") (Segment 0) c.args.by_id.now c.in_ok-add-2.ensures.ok one in
    let three = more _ _ _ (codes "i2") (Segment 0) c.args.by_group.now c.in_ok-add-3.ensures.ok two in
    more _ _ _ (codes "xact") (Slru 0) _ c.in_ok-add-4.ensures.ok three
    ∙ ap (λ (log : List ℕ). unread (with_file (with_file (with_file (with_file no_names (codes "t") (Segment 0) c.args.table.now) (codes "i1") (Segment 0) c.args.by_id.now) (codes "i2") (Segment 0) c.args.by_group.now) (codes "xact") (Slru 0) log))
    (c.deref.ensures.value ∙ c.in_ok-log.ensures)
