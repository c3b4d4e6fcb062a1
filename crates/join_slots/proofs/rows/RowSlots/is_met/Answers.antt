use Rattle.std.proofs.Common.{◌≡◌, ◌∙◌, ap, subst, sym}
use Rattle.std.specs.Prelude.{Some}
use Rattle.join_slots.specs.Met.{is_key}
use Rattle.key_storage.specs.Rows.{row_values}
use Rattle.join_slots.specs.Slots.{Tables, keys_in, keys_of, met_in, mets_of}
use Rattle.join_slots.proofs.WholeLaws.{kept_key}
use Rattle.join_slots.proofs.rows.RowSlots.is_met.Goals as goal

pub returns : goal.returns
returns c =
    let s = c.self.inside in
    let same : keys_of s.first c.deref.result.now c.deref-2.result.now c.deref-3.result.now ≡ keys_of s.first s.starts.items s.records.items s.arena.items =
    λ i. keys_of s.first (c.deref.ensures.value i) (c.deref-2.ensures.value i) (c.deref-3.ensures.value i) in
    let held = kept_key (row_values c.args.values) (keys_of s.first s.starts.items s.records.items s.arena.items c.args.tid)
    (ap (λ keys. is_key (row_values c.args.values) (keys c.args.tid)) (sym same) ∙ (sym c.is_kept_in.ensures ∙ c.if-not-is_kept_in.false)) in (
      subst (λ (t : Tables). keys_in t c.args.tid ≡ Some (row_values c.args.values)) c.self.view_is held,
      c.is_met_in.ensures ∙ (λ i. mets_of s.first (c.deref.ensures.value i) (c.deref-4.ensures.value i) c.args.tid) ∙ ap (λ (t : Tables). met_in t c.args.tid) c.self.view_is,
    )
