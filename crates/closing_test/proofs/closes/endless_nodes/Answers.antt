use Rattle.closing_test.proofs.closes.endless_nodes.Goals as goal

pub returns-in-Right : goal.returns-in-Right
returns-in-Right c = rw c.in-Right.is c.forward.ensures

pub returns-in-Left : goal.returns-in-Left
returns-in-Left c = rw c.in-Left.is c.backward.ensures
