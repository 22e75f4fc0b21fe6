use Rattle.fw_cip.proofs.StreamLaws.{heard_whole}
use Rattle.fw_cip.proofs.laws.a_stream_is_heard_without_gaps.Goals as goal

pub returns : goal.returns
returns c = heard_whole
