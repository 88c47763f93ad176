-- `potential_access` answers the closure of the table, or that it is not sound. Assumes nothing.
use native.Mathlib.Omega.{arith}
use Rattle.access.proofs.StartWords.{begun}
use Rattle.access.proofs.TableWords.{access_done, access_refused}
use Rattle.access.proofs.potential_access.Goals as goal

pub returns-then-not-is_sound : goal.returns-then-not-is_sound
returns-then-not-is_sound c = access_refused _ _ c.is_sound.ensures c.if-not-is_sound.true

pub saturate-words-requires : goal.saturate-words-requires
saturate-words-requires c = (begun _ _ _ _ (omega arith) c.held_words.ensures).full

pub returns : goal.returns
returns c = access_done _ _ _ _ _ c.is_sound.ensures c.if-not-is_sound.false c.born_outside-born.ensures c.held_words.ensures c.saturate-words.ensures
