-- `apply_rules` is every rule at the pair, in the order of the definition. Assumes nothing.
use Rattle.relation.proofs.Feeds.{five_steps, turned}
use Rattle.relation.proofs.apply_rules.Goals as goal

pub returns : goal.returns
returns c = let p = c.args.p in
    let q = c.back-q.ensures in
    five_steps _ _ _ _ _ _ p.x p.y c.share.ensures c.join_word.ensures c.join_word-2.ensures
    (turned _ _ 1 p.x p.y _ _ q.0 q.1 c.share-2.ensures) (turned _ _ 3 p.x p.y _ _ q.0 q.1 c.share-3.ensures)
