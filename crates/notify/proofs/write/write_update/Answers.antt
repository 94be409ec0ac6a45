use Rattle.std.proofs.Common.{sym, ◌∙◌}
use Rattle.notify.proofs.Updating.{update-from, update-short, update-back, update-unbroken}
use Rattle.notify.proofs.Updating.{update-unrefused, update-answer, update-placed}
use Rattle.notify.proofs.write.write_update.Goals as goal

pub returns-in_err-compose_update : goal.returns-in_err-compose_update
returns-in_err-compose_update g c =
    let k = g.R.Value.kind in
    let delta = c.args.delta.now in
    let h = update-from k c.args.id delta c.args.fields c.if-delta-ne-FIELD_LIMIT.false c.if-not-hold.ensures (sym c.covers.ensures ∙ c.if-not-covers.false) in
    absurd (update-unrefused k g.met.R.Value.lawful c.args.id delta c.args.fields h _ c.in_err-compose_update.ensures)

pub returns : goal.returns
returns g c =
    let k = g.R.Value.kind in
    let law = g.met.R.Value.lawful in
    let id = c.args.id in
    let delta = c.args.delta.now in
    let fields = c.args.fields in
    let h = update-from k id delta fields c.if-delta-ne-FIELD_LIMIT.false c.if-not-hold.ensures (sym c.covers.ensures ∙ c.if-not-covers.false) in
    let line = c.in_ok-compose_update.ensures in
    record {
      answer =
          update-answer k law id delta fields h _ line c.args.at c.args.out.now c.put.ensures.answer;
      bytes =
          update-placed k law id delta fields h _ line c.args.at c.args.out.now c.put.ensures.bytes;
      read_back = update-back k law id delta fields;
      short = update-short k law id delta fields;
      unbroken = update-unbroken k law id delta fields;
    }
