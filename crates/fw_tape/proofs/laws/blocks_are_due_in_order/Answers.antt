use Rattle.fw_tape.proofs.BlockLaws.{block_has_cycle, one_cycle, share_is_due, passed_in_parts, blocks_in_parts, given_now, counted_one}
use Rattle.fw_tape.proofs.laws.blocks_are_due_in_order.Goals as goal

pub returns-clause-once : goal.returns-clause-once
returns-clause-once c = block_has_cycle

pub returns-clause-one : goal.returns-clause-one
returns-clause-one c = one_cycle

pub returns-clause-share : goal.returns-clause-share
returns-clause-share c = share_is_due

pub returns-clause-parts : goal.returns-clause-parts
returns-clause-parts c = λ d m n. passed_in_parts d d.transport m n

pub returns-clause-blocks : goal.returns-clause-blocks
returns-clause-blocks c = λ d m n. blocks_in_parts d d.transport m n

pub returns-clause-given : goal.returns-clause-given
returns-clause-given c = given_now

pub returns-clause-counted : goal.returns-clause-counted
returns-clause-counted c = counted_one
