use Rattle.request.proofs.anew.write_anew.Goals as goal

pub returns-in-Create : goal.returns-in-Create
returns-in-Create c = rw c.in-Create.is (c.create_anew.ensures c.args.session)

pub returns-in-Add : goal.returns-in-Add
returns-in-Add c = rw c.in-Add.is (c.add_anew.ensures c.args.session)

pub returns-in-Delete : goal.returns-in-Delete
returns-in-Delete c = rw c.in-Delete.is (c.delete_anew.ensures c.args.session)

pub returns-in-ForceRebind : goal.returns-in-ForceRebind
returns-in-ForceRebind c = rw c.in-ForceRebind.is (c.rebind_anew.ensures c.args.session)
