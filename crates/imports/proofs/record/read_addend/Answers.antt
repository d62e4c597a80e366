-- A field of four bytes is below 2^32.
use Rattle.imports.proofs.Imports.{field_most}
use Rattle.std.proofs.Common.{arith}
use Rattle.imports.proofs.record.read_addend.Goals as goal

pub signed-addend-requires : goal.signed-addend-requires
signed-addend-requires c =
    (field_most c.args.s.now c.in_ok-fields.behind c.read_u32-2.ensures c.in_ok-n.ensures.ok_part c.type_inv.s, omega arith, omega arith)
