use Rattle.std.proofs.Common.{rules, ◌≡◌, ◌∙◌, ◌+◌, ◌*◌, ◌≤◌, ℕ, List, [], ap, arith, inl, inr, refl, sym, subst, true, mul-le-mul_left}
use Rattle.std.specs.Prelude.{Contains, Option}
use Rattle.heap_table_check.specs.declared.files.SoundHeap.{SoundHeap}
use Rattle.std.proofs.lemmas.List.Elements.{All-contains_itself, All-weaker}
use Rattle.rel_files.specs.Relation.{count_of}
use Rattle.outside.proofs.Asking.{AskedAtMost-more, AskedAtMost-then}
use Rattle.heap_table_check.specs.Files.{heap_in}
use Rattle.heap_rows.specs.Reads.{most_block_reads}
use Rattle.bt_steps.proofs.Members.{none-in}
use Rattle.heap_rows.specs.declared.row_cursor.RowPlace.{RowPlace}
use Rattle.heap_rows.specs.declared.rows.LiveRow.{LiveRow}
use Rattle.heap_rows.specs.RowCursor.{IsPlaceOfFirst, heap_at, next_in, rows_ahead}
use Rattle.join_row_keys.proofs.Places.{same-then}
use Rattle.join_unique.specs.Roots.{is_root_in}
use Rattle.join_unique.proofs.Adding.{root-added}
use Rattle.heap_rows.proofs.ReadLaws.{asked-ok}
use Rattle.join_unique.proofs.Reading.{as-many, none-read, passed-as, passed-of, read-asked, way-last, way-next, way-none}
use Rattle.join_unique.proofs.check.add_roots.Goals as goal

pub find-requires : goal.find-requires
find-requires g c = record { told = λ names told. c.loop-k.invariant.told names (sym c.loop-k.invariant.asked.same ∙ told) }

pub loop-k-init : goal.loop-k-init
loop-k-init g c = record {
  told = c.requires.told;
  roots = λ names told row among. inr among;
  same = record { case = refl; heap = refl; asked = refl };
  within = omega (arith, c.requires.begun);
  asked = as-many (ap (λ (n : ℕ). most_block_reads (heap_at c.args.cursor.now) * n) (sym c.requires.begun)) (none-read (most_block_reads (heap_at c.args.cursor.now)));
}

pub loop-k-preserved : goal.loop-k-preserved
loop-k-preserved g c =
    let inv = c.loop-k.invariant in
    let cursor = c.find.new.self in
    record {
      told = λ names told. c.pass.ensures.told names (c.find.ensures.told names (inv.asked.same ∙ told));
      roots = λ names told row among.
          let before = inv.asked.same ∙ told in
          let ahead = c.find.ensures.left names before in
          let first = subst (λ (o : Option RowPlace). IsPlaceOfFirst o (rows_ahead names cursor)) c.in-Some.is (c.in_ok-place.ensures.first names before) in
          root-added c.loop-k.roots c.insert.new.self c.in-Some.place (rows_ahead names cursor) (rows_ahead names c.pass.new.self) c.insert.ensures first
          (c.pass.ensures.left names (c.find.ensures.told names before)) row
          (elim (inv.roots names told row among) [
            | inl had ↦ inl had
            | inr k ↦ inr (subst (λ (xs : List LiveRow). Contains xs row) (sym ahead) k)
          ]);
      same = same-then c.args.cursor.now cursor c.pass.new.self (same-then c.args.cursor.now c.loop-k.cursor cursor inv.same c.find.ensures.same) c.pass.ensures.same;
      within =
          let within = c.find.ensures.within (omega (arith, inv.within, ap (λ (h : SoundHeap). count_of (heap_in h)) inv.same.heap)) in
          omega (arith, c.pass.ensures.next, within, ap (λ (h : SoundHeap). count_of (heap_in h)) inv.same.heap);
      asked =
          let m = most_block_reads (heap_at c.args.cursor.now) in
          let way = way-none c.args.cursor.now c.loop-k.cursor _ inv.same c.requires.none in
          passed-of (as-many (way-next m (next_in c.loop-k.cursor) (next_in cursor) c.find.ensures.next ∙ ap (λ (n : ℕ). m * n) (sym c.pass.ensures.next))
          (AskedAtMost-then inv.asked (as-many way (read-asked c.in_ok-place.ensures.most c.in_ok-place.ensures.asked))));
    }

pub returns-in_default-clause-roots : goal.returns-in_default-clause-roots
returns-in_default-clause-roots g c = λ names told.
    let inv = c.loop-k.invariant in
    let before = inv.asked.same ∙ told in
    let ahead = c.find.ensures.left names before in
    let none : rows_ahead names c.find.new.self ≡ [] = subst (λ (o : Option RowPlace). IsPlaceOfFirst o (rows_ahead names c.find.new.self)) c.in_default.is (c.in_ok-place.ensures.first names before) in
    All-weaker (Contains (rows_ahead names c.args.cursor.now)) (λ (row : LiveRow). is_root_in c.loop-k.roots row.root ≡ true)
    (λ row among. elim (inv.roots names told row among) [
      | inl had ↦ had
      | inr k ↦ absurd (none-in row (rows_ahead names c.loop-k.cursor) (sym ahead ∙ none) k)
    ])
    (rows_ahead names c.args.cursor.now) (All-contains_itself (rows_ahead names c.args.cursor.now))

pub returns-in_default-clause-asked : goal.returns-in_default-clause-asked
returns-in_default-clause-asked g c =
    let inv = c.loop-k.invariant in
    let m = most_block_reads (heap_at c.args.cursor.now) in
    let blocks = ap (λ (h : SoundHeap). count_of (heap_in h)) inv.same.heap in
    let within = c.find.ensures.within (omega (arith, inv.within, blocks)) in
    let way = way-none c.args.cursor.now c.loop-k.cursor _ inv.same c.requires.none in
    let most : m * next_in c.find.new.self ≤ m * (count_of (heap_in (heap_at c.args.cursor.now)) + 1) = mul-le-mul_left m (omega (arith, within, blocks)) in
    asked-ok most (as-many (way-next m (next_in c.loop-k.cursor) (next_in c.find.new.self) c.find.ensures.next)
    (AskedAtMost-then inv.asked (as-many way (read-asked c.in_ok-place.ensures.most c.in_ok-place.ensures.asked))))

pub returns-in_err-place-clause-asked : goal.returns-in_err-place-clause-asked
returns-in_err-place-clause-asked g c =
    let inv = c.loop-k.invariant in
    let m = most_block_reads (heap_at c.args.cursor.now) in
    let blocks = ap (λ (h : SoundHeap). count_of (heap_in h)) inv.same.heap in
    let within = c.find.ensures.within (omega (arith, inv.within, blocks)) in
    let way = way-none c.args.cursor.now c.loop-k.cursor _ inv.same c.requires.none in
    let few = way-last m (next_in c.loop-k.cursor) (next_in c.find.new.self) (count_of (heap_in (heap_at c.args.cursor.now))) c.find.ensures.next (omega (arith, within, blocks)) in
    let all = AskedAtMost-more few (AskedAtMost-then inv.asked (as-many way c.in_err-place.ensures.asked)) in
    search rules

pub returns-clause-asked : goal.returns-clause-asked
returns-clause-asked g c =
    let inv = c.loop-k.invariant in
    let m = most_block_reads (heap_at c.args.cursor.now) in
    let most : m * next_in c.loop-k.cursor ≤ m * (count_of (heap_in (heap_at c.args.cursor.now)) + 1) = mul-le-mul_left m (omega (arith, inv.within)) in
    passed-as (λ no. absurd cc) (AskedAtMost-more most inv.asked)
