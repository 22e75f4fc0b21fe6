-- Each clause is a lemma.
use Rattle.fw_model_run.proofs.Units.{first_kept, request_kept, reset_kept, rest_kept, second_kept, tape_kept, passed_kept, tape_is, frame_kept, sent_kept, quiet_kept}
use Rattle.fw_model_run.proofs.deck_laws.nodes_keep_decks.Goals as goal

pub returns-clause-first : goal.returns-clause-first
returns-clause-first c = first_kept

pub returns-clause-requests : goal.returns-clause-requests
returns-clause-requests c = request_kept

pub returns-clause-resets : goal.returns-clause-resets
returns-clause-resets c = reset_kept

pub returns-clause-rests : goal.returns-clause-rests
returns-clause-rests c = rest_kept

pub returns-clause-seconds : goal.returns-clause-seconds
returns-clause-seconds c = second_kept

pub returns-clause-tapes : goal.returns-clause-tapes
returns-clause-tapes c = tape_kept

pub returns-clause-cycles : goal.returns-clause-cycles
returns-clause-cycles c = passed_kept

pub returns-clause-tape : goal.returns-clause-tape
returns-clause-tape c = tape_is

pub returns-clause-next : goal.returns-clause-next
returns-clause-next c = frame_kept

pub returns-clause-sent : goal.returns-clause-sent
returns-clause-sent c = sent_kept

pub returns-clause-quiet : goal.returns-clause-quiet
returns-clause-quiet c = quiet_kept
