-- What the tests say.
use Rattle.std.specs.Prelude.{◌↔◌, IsTrue, List}
use Rattle.varlena_attrs.specs.declared.places.ToastPointer.{ToastPointer}
use Rattle.toast_chunks.specs.declared.map.Chunk.{Chunk}
use Rattle.toast_chunks.specs.Chunks.{IsWhole, is_whole}
use Rattle.toast_chunks.specs.Pointer.{KeepsPointerRule, keeps_pointer_rule}

abbrev pub WholeIsTested : List Chunk → ToastPointer → Type 0
WholeIsTested chunks p = IsTrue (is_whole chunks p) ↔ IsWhole chunks p

abbrev pub PointerIsTested : ToastPointer → Type 0
PointerIsTested p = IsTrue (keeps_pointer_rule p) ↔ KeepsPointerRule p
