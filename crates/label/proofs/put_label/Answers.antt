-- `put_label` meets its contract: each of the three texts is copied into a part of its length (law `copied_in`).
use Rattle.std.proofs.Common.{◌≡◌, length, refl, arith}
use borrow.Rule.Slice.PartMut.{put_mid}
use Rattle.names.specs.Text.{bytes}
use Rattle.label.specs.Labels.{name_place, owner_place, mark_place, system_mark, labelled_with, put_at}
use Rattle.label.proofs.Labels.{copied_in}
use Rattle.label.proofs.Laws.{put-long}
use Rattle.label.proofs.put_label.Goals as goal

pub returns : goal.returns
unfolding labelled_with system_mark bytes
returns c =
    let a = c.args in
    let block = a.block.now in
    let named = put_at name_place a.name block in
    let owned = put_at owner_place a.owner named in
    let n : length a.name ≡ 12 = omega arith in
    let o : length a.owner ≡ 12 = omega arith in
    let long : length named ≡ length block = put-long block a.name name_place (omega arith) in
    let long-2 : length owned ≡ length named = put-long named a.owner owner_place (omega arith) in
    let first : put_mid name_place 12 block c.copy_from_slice.new.self ≡ named =
    copied_in block a.name name_place 12 (omega arith) n c.copy_from_slice.ensures.after in
    let second : put_mid owner_place 12 named c.copy_from_slice-2.new.self ≡ owned =
    copied_in named a.owner owner_place 12 (omega arith) o c.copy_from_slice-2.ensures.after in
    rw (first, second) (copied_in owned system_mark mark_place 12 (omega arith) refl c.copy_from_slice-3.ensures.after)
