-- `signed_at` meets its contract: the machine reads the number's bits as the definition does (law `turned`).
use Rattle.std.proofs.Common.{ap, ◌∙◌, w32}
use Rattle.std.proofs.lemmas.Int.{to_z-of_z}
use Rattle.cases.specs.Records.{signed_of}
use Rattle.cases.proofs.Turned.{turned}
use Rattle.cases.proofs.input.signed_at.Goals as goal

pub returns : goal.returns
returns c =
    to_z-of_z w32 c.cast_signed.result (record { sfits = c.cast_signed.type_inv })
    ∙ c.cast_signed.ensures
    ∙ turned _
    ∙ ap signed_of c.long_at.ensures
