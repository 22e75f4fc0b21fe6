use Rattle.fw_plug.proofs.Words.{in_fields_of_word}
use Rattle.fw_plug.proofs.laws.input_words_are_their_fields.Goals as goal

pub returns-clause-fields : goal.returns-clause-fields
returns-clause-fields c = in_fields_of_word
