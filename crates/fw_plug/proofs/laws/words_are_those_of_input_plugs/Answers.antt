use Rattle.fw_plug.proofs.Changes.{in_broadcast_of_word, in_counter_of_word, in_channel_of_word, in_counted_word, in_uncounted_word, in_broadcast_word, in_unbroadcast_word, in_channel_word}
use Rattle.fw_plug.proofs.laws.words_are_those_of_input_plugs.Goals as goal

pub returns : goal.returns
returns c = record {
  broadcast = in_broadcast_of_word;
  counter = in_counter_of_word;
  channel = in_channel_of_word;
  counted = in_counted_word;
  uncounted = in_uncounted_word;
  set = in_broadcast_word;
  cleared = in_unbroadcast_word;
  on_channel = in_channel_word;
}
