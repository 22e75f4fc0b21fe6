use Rattle.fw_plug.proofs.Words.{fields_of_word}
use Rattle.fw_plug.proofs.laws.output_words_are_their_fields.Goals as goal

pub returns-clause-fields : goal.returns-clause-fields
returns-clause-fields c = fields_of_word
