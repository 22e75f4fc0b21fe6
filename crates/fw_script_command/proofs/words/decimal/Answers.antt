use Rattle.fw_script_command.proofs.NumberLaws.{too_large, digits_utf8}
use Rattle.fw_script_command.proofs.words.decimal.Goals as goal

pub returns-in-Err-parse-clause-none : goal.returns-in-Err-parse-clause-none
returns-in-Err-parse-clause-none c = λ d.
    too_large c.args.word.now c.parse.result _ (rw c.in-Ok.ensures.cases.0 at c.parse.ensures.value.0) c.in-Err-parse.is d

pub returns-in-Err-clause-none : goal.returns-in-Err-clause-none
returns-in-Err-clause-none c = λ d. absurd (c.in-Err.ensures.cases.0 (digits_utf8 c.args.word.now d))
