use Rattle.std.proofs.Common.{◌≡◌, ◌∙◌, ◌++◌, ◌∷◌, [], false, true, length, map, ap, subst, sym}
use Rattle.std.specs.Prelude.{not}
use Rattle.std.proofs.lemmas.Bool.{eq-eqb, false≢true}
use Rattle.key_orders.specs.declared.Tid.{Tid}
use Rattle.key_orders.specs.Values.{value_shown}
use Rattle.case_file.specs.Record.{CaseRecord}
use Rattle.bt_image.specs.Image.{LeafEntry, leaf_entry}
use Rattle.reports.specs.declared.places.Place.TheVariants.{Tuple}
use Rattle.reports.specs.declared.places.Reason.TheVariants.{U6}
use Rattle.join_row_entries.specs.Roots.{IsOnlyTaken, may_take}
use Rattle.join_row_entries.proofs.GatherLaws.{free-first, left-doubt, left-listed, left-unlisted, of-one, of-three}
use Rattle.join_row_entries.proofs.gather.Gathered.add_row.Goals as goal

pub returns-then-not-read-clause-left : goal.returns-then-not-read-clause-left
returns-then-not-read-clause-left c =
    of-one c.unjudged.result c.unjudged.ensures.ok (λ added names row rows all are is at from left.
    let old = c.args.self.now in
    let n = c.args.reader.index in
    left-doubt c.args.reader.case.now n all rows row old (record { list = old.list; roots = old.roots; report = c.unjudged.new.self })
    (sym (c.if-not-read.ensures.entry names row rows are is))
    (added ∙ (λ i. record { findings = old.report.findings; unjudged = old.report.unjudged ++ record { reason = U6; place = Tuple n (at i) } ∷ [] }))
    (λ i. old.roots) left)

pub returns-then-has_doubt-clause-left : goal.returns-then-has_doubt-clause-left
returns-then-has_doubt-clause-left c = λ names row rows all are is at from left.
    let old = c.args.self.now in
    left-unlisted c.args.reader.case.now c.args.reader.index all rows row (leaf_entry c.read.new.key c.read.new.more row.root false) old
    (sym (c.if-not-read.ensures.entry names row rows are is))
    (λ none. false≢true (ap not (sym (eq-eqb (length old.report.unjudged) 0 none)) ∙ sym c.has_doubt.ensures ∙ c.if-has_doubt.true)) left

pub returns-clause-left : goal.returns-clause-left
returns-clause-left c =
    of-three c.add_entry.result c.add_entry.ensures.same c.add_entry.ensures.entry c.add_entry.ensures.others (λ same entry others names row rows all are is at from left.
    let case : CaseRecord = c.args.reader.case.now in
    let n = c.args.reader.index in
    let old = c.args.self.now in
    let new = c.add_entry.new.self in
    let e : LeafEntry = leaf_entry c.read.new.key c.read.new.more row.root false in
    let given : leaf_entry (map value_shown c.as_slice.result.now) (map value_shown c.as_slice-2.result.now) c.args.place.root false ≡ e =
    (λ i. leaf_entry (c.as_slice.ensures.values i) (c.as_slice-2.ensures.values i) (from i) false) in
    let may = subst (λ (t : Tid). may_take old.roots t ≡ true) (sym from) (free-first old.roots row rows left.free) in
    left-listed case n all rows row e old new (sym (c.if-not-read.ensures.entry names row rows are is)) same.report
    (entry may ∙ ap (λ (d : LeafEntry). old.list.entries ++ d ∷ []) given)
    (subst (λ (t : Tid). IsOnlyTaken t old.roots new.roots) from others) left)
