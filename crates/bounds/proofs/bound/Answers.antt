-- `bound` is the definition: what links reach from the stand-in, without the members, and the rounds that they take. Assumes nothing.
use native.Mathlib.Omega.{arith}
use Rattle.bounds.proofs.TestLinks.{code_links, bound_answer}
use Rattle.bounds.proofs.bound.Goals as goal

pub test_links-words-requires : goal.test_links-words-requires
test_links-words-requires c = omega arith

pub returns : goal.returns
returns c = let low = c.requires.0 in
    let x = c.lowest-x.ensures in
    bound_answer _ _ _ _ _ _ _ low x (code_links _ _ _ _ _ _ low c.requires.1 x c.test_links-words.ensures) c.reach-spread.ensures c.less-objects.ensures
