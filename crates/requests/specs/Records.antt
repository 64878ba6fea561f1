-- The record that a request on a file, by its name alone, hands to the door.
use Rattle.std.specs.Prelude.{pos}
use Rattle.meaning.specs.declared.Name.{Name}
use Rattle.meaning.specs.declared.Op.{Op}
use Rattle.meaning.specs.declared.Request.{Request}

-- the fields that it has no use for are 0, or the same name again
abbrev pub on_file : Op → Name → Request
on_file op name =
    record {
      op = op;
      name = name;
      new_name = name;
      job = 0;
      channel = 0;
      size = pos 0;
      final_length = pos 0;
      date = 0;
    }
