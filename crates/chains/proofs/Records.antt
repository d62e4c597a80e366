-- A field of two bytes, as it was read. Assumes nothing.
use Rattle.std.proofs.Common.{◌≡◌, ℕ, List, refl, w16, Fits}
use Rattle.std.specs.Prelude.{Some}
use Rattle.numbers.proofs.Rows.{field_less}
use Rattle.numbers.proofs.little_endian.Fields.{Bytes}
use Rattle.numbers.specs.LittleEndian.{field_at}

pub field_fits : (s : List ℕ) (at : ℕ) {v next : ℕ} → Some (v, next) ≡ field_at 2 s at → Bytes s → Fits w16 v
field_fits s at e h = record { fits = field_less 2 s at e refl h }
