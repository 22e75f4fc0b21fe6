-- Each clause is a lemma.
use Rattle.fw_model_account.proofs.Bounds.{word_at_below}
use Rattle.fw_model_account.proofs.Decoded.{output_of_word, input_of_word}
use Rattle.fw_model_account.proofs.Listing.{units_listed, channel_listed}
use Rattle.fw_model_account.proofs.registers_tell.Goals as goal

pub returns-clause-units : goal.returns-clause-units
returns-clause-units c = units_listed

pub returns-clause-channels : goal.returns-clause-channels
returns-clause-channels c = channel_listed

pub returns-clause-outputs : goal.returns-clause-outputs
returns-clause-outputs c = output_of_word

pub returns-clause-inputs : goal.returns-clause-inputs
returns-clause-inputs c = input_of_word

pub returns-clause-below : goal.returns-clause-below
returns-clause-below c = word_at_below
