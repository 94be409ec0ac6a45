-- The draft that a request writer holds.
use Rattle.std.specs.Prelude.{is_some}
use Rattle.compose.specs.Drafts.{Draft}
use Rattle.compose.specs.Made.{given_of, len_of}
use Rattle.compose.specs.declared.request.RequestWriter.{RequestWriter}

abbrev pub draft_of : RequestWriter → Draft
draft_of w =
    record {
      bytes = w.out.now;
      name = w.name;
      begun = is_some w.begun;
      len = len_of w.begun;
      given = given_of w.begun;
      kept = w.kept;
    }
