-- `ordering::visit_rows` meets its contract.
use Rattle.ordering.proofs.OrderLaws.{visits_all}
use Rattle.ordering.proofs.visit_rows.Goals as goal

pub returns : goal.returns
returns c =
    let visited = c.visit in
    let settled = c.settle in
    (visits_all settled.ensures visited.ensures, visited.ensures.stays)
