use Rattle.fw_plug.proofs.Changes.{broadcast_of_word, counter_of_word, channel_of_word, overhead_of_word, units_of_word, counted_word}
use Rattle.fw_plug.proofs.Changes.{uncounted_word, broadcast_word, unbroadcast_word, channel_word, overhead_word}
use Rattle.fw_plug.proofs.laws.words_are_those_of_plugs.Goals as goal

pub returns : goal.returns
returns c = record {
  broadcast = broadcast_of_word;
  counter = counter_of_word;
  channel = channel_of_word;
  overhead = overhead_of_word;
  units = units_of_word;
  counted = counted_word;
  uncounted = uncounted_word;
  set = broadcast_word;
  cleared = unbroadcast_word;
  on_channel = channel_word;
  with_overhead = overhead_word;
}
