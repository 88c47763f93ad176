-- `take_grant::mapped` meets its contract: the rows that the code joins are the definition's, by `mapped_joined`. Assumes nothing.
use Rattle.take_grant.proofs.Rights.{mapped_joined}
use Rattle.take_grant.proofs.mapped.Goals as goal

pub returns : goal.returns
returns c = mapped_joined c.args.rights c.row-read.result c.row-write.result c.row-grant.result c.row-store.result c.row-read.ensures c.row-write.ensures c.row-grant.ensures c.row-store.ensures
