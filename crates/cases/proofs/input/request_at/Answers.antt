-- `request_at` meets its contract: each field is read from its place.
use Rattle.std.proofs.Common.{ap, ◌∙◌, w32}
use Rattle.std.proofs.lemmas.Int.{to_z-of_z}
use Rattle.cases.specs.Records.{op_of}
use Rattle.cases.proofs.Fields.{fields}
use Rattle.cases.proofs.input.request_at.Goals as goal

pub returns : goal.returns
returns c =
    fields _ _ _ _ _ _ _ _ _ _
    (c.op_of.ensures ∙ ap op_of c.word_at.ensures)
    c.name_at.ensures
    c.name_at-2.ensures
    c.word_at-2.ensures
    c.word_at-3.ensures
    (to_z-of_z w32 c.signed_at.result (record { sfits = c.signed_at.type_inv }) ∙ c.signed_at.ensures)
    (to_z-of_z w32 c.signed_at-2.result (record { sfits = c.signed_at-2.type_inv }) ∙ c.signed_at-2.ensures)
    c.word_at-4.ensures
