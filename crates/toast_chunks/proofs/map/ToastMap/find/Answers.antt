use Rattle.std.proofs.Common.{◌≡◌, Some, None, to_z, w32, arith}
use Rattle.std.specs.Prelude.{pos}
use Rattle.std.proofs.lemmas.Int.{to_z_pos}
use Rattle.toast_chunks.specs.Index.{FindsPlace}
use Rattle.toast_chunks.proofs.Finding.{chunk_found, place_found}
use Rattle.toast_chunks.proofs.map.ToastMap.find.Goals as goal

pub returns-in-None : goal.returns-in-None
returns-in-None c =
    let seq : to_z w32 c.args.k ≡ pos c.args.k = to_z_pos w32 c.args.k c.requires in
    rw (← c.self.view_is) (place_found c.self.inside.chunks.items c.self.inside.places c.args.id c.args.k (to_z w32 c.args.k) None c.self.invariant.found c.in-None.ensures.value seq)

pub index-requires : goal.index-requires
index-requires c =
    let seq : to_z w32 c.args.k ≡ pos c.args.k = to_z_pos w32 c.args.k c.requires in
    let finds : FindsPlace c.self.inside.chunks.items c.args.id (pos c.args.k) (Some c.in-Some.place.now) = place_found c.self.inside.chunks.items c.self.inside.places c.args.id c.args.k (to_z w32 c.args.k) (Some c.in-Some.place.now) c.self.invariant.found c.in-Some.ensures.value seq in
    omega (arith, finds.0, c.self.inside.chunks.ok.0)

pub returns-in-Some : goal.returns-in-Some
returns-in-Some c =
    let seq : to_z w32 c.args.k ≡ pos c.args.k = to_z_pos w32 c.args.k c.requires in
    let finds : FindsPlace c.self.inside.chunks.items c.args.id (pos c.args.k) (Some c.in-Some.place.now) = place_found c.self.inside.chunks.items c.self.inside.places c.args.id c.args.k (to_z w32 c.args.k) (Some c.in-Some.place.now) c.self.invariant.found c.in-Some.ensures.value seq in
    rw (← c.self.view_is) (chunk_found c.self.inside.chunks.items c.args.id (pos c.args.k) c.in-Some.place.now c.index.result.now finds c.index.ensures)
