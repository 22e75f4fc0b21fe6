-- Each clause is a lemma.
use Rattle.fw_model_run.proofs.Common.{refl}
use Rattle.fw_model_run.proofs.Counting.{packets_are, counts_before}
use Rattle.fw_model_run.proofs.Talkers.{member_talks, in_order, talker_place}
use Rattle.fw_model_run.proofs.streams.cycles_have_a_packet_a_talker.Goals as goal

pub returns-clause-talk : goal.returns-clause-talk
returns-clause-talk c = λ l i p e. (member_talks 64 l i p e).0

pub returns-clause-all : goal.returns-clause-all
returns-clause-all c = talker_place

pub returns-clause-order : goal.returns-clause-order
returns-clause-order c = in_order 64

pub returns-clause-packets : goal.returns-clause-packets
returns-clause-packets c = packets_are

pub returns-clause-counts : goal.returns-clause-counts
returns-clause-counts c = counts_before

pub returns-clause-account : goal.returns-clause-account
returns-clause-account c = λ l q. refl
