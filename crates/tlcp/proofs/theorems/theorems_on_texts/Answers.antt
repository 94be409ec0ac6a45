use Rattle.tlcp.proofs.Numerals.{reads-decimal, reads-signed}
use Rattle.tlcp.proofs.Unescaped.{reads-escapes}
use Rattle.tlcp.proofs.WrittenLists.{reads-written, written-short}
use Rattle.tlcp.proofs.theorems.theorems_on_texts.Goals as goal

pub returns : goal.returns
returns c = record {
  escapes = reads-escapes;
  decimal = reads-decimal;
  signed = reads-signed;
  written = reads-written;
  short = written-short;
}
