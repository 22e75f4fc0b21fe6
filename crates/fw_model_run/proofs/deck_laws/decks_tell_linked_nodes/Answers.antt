-- Each clause is a lemma.
use Rattle.fw_model_run.proofs.Units.{addressed, may_pass, packet_same}
use Rattle.fw_model_run.proofs.FrameWrites.{fits_write}
use Rattle.fw_model_run.proofs.SendsAll.{can_send_all, sent_less}
use Rattle.fw_model_run.proofs.deck_laws.decks_tell_linked_nodes.Goals as goal

pub returns-clause-frames : goal.returns-clause-frames
returns-clause-frames c = addressed

pub returns-clause-tapes : goal.returns-clause-tapes
returns-clause-tapes c = may_pass

pub returns-clause-packets : goal.returns-clause-packets
returns-clause-packets c = packet_same

pub returns-clause-fits : goal.returns-clause-fits
returns-clause-fits c = fits_write

pub returns-clause-all : goal.returns-clause-all
returns-clause-all c = can_send_all

pub returns-clause-fewer : goal.returns-clause-fewer
returns-clause-fewer c = sent_less
