use Rattle.c_walks.proofs.edge_step.assign.Goals as goal

pub returns-in-LoadPtr-clause-went : goal.returns-in-LoadPtr-clause-went
returns-in-LoadPtr-clause-went c = rw c.in-LoadPtr.is (c.load.ensures.went c.args.shapes.now)

pub returns-in-Free-clause-went : goal.returns-in-Free-clause-went
returns-in-Free-clause-went c = rw c.in-Free.is (c.free.ensures.went c.args.shapes.now)

pub returns-in-LoadData-clause-went : goal.returns-in-LoadData-clause-went
returns-in-LoadData-clause-went c = rw c.in-LoadData.is (c.load_datum.ensures.went c.args.shapes.now)

pub returns-in-TestPtr-clause-went : goal.returns-in-TestPtr-clause-went
returns-in-TestPtr-clause-went c = rw c.in-TestPtr.is (c.test.ensures c.args.shapes.now)

pub returns-in-TestData-clause-went : goal.returns-in-TestData-clause-went
returns-in-TestData-clause-went c = rw c.in-TestData.is (c.test_data.ensures c.args.shapes.now)

pub returns-in-Stop-clause-went : goal.returns-in-Stop-clause-went
returns-in-Stop-clause-went c = rw c.in-Stop.is (c.stop.ensures c.args.shapes.now c.args.choice c.args.heap.now)
