use Rattle.std.proofs.Common.{codes}
use Rattle.fw_log_registers.specs.Places.{place_of}
use Rattle.fw_trace_names.specs.Registers.{named_word}
use Rattle.fw_trace_requests.specs.Answers.{not_made_text}
use Rattle.fw_trace_names.proofs.LoopLaws.{then_put}
use Rattle.fw_trace_requests.proofs.answers.put_not_made.Goals as goal

pub returns : goal.returns
unfolding not_made_text
returns c =
    let said = named_word c.args.names.now (place_of c.args.offset) c.args.word in
    then_put c.put_word_at.result c.args.text.now.items c.put_word.new.text.items c.put_word_at.new.text.items (codes ": not made,") said c.in_ok-put_word.ensures c.put_word_at.ensures
