use Rattle.std.proofs.Common.{◌≡◌, ◌++◌, ℕ, List, codes, decimal, ap, sym, ◌∙◌}
use Rattle.std.proofs.lemmas.Result.{on_ok_weaker}
use Rattle.fw_log_loop.specs.declared.ending.LogEnd.{LogEnd}
use Rattle.fw_page.specs.Ends.{why_text, log_line}
use Rattle.fw_page.proofs.EndLaws.{three}
use Rattle.fw_page.proofs.ends.put_log_line.Goals as goal

pub returns-in_ok-put_number-in-NoLog : goal.returns-in_ok-put_number-in-NoLog
returns-in_ok-put_number-in-NoLog c =
    let old : List ℕ = c.args.text.now.items in
    let fault = c.in-NoLog.fault in
    on_ok_weaker c.put_word-in-NoLog-2.result
    (λ e. three old (codes ":log 4 byte ") (decimal fault.place) (why_text fault.why) _ _ _ c.in_ok-put_word-in-NoLog.ensures c.in_ok-put_number-in-NoLog.ensures
    (e ∙ ap (λ (l : List ℕ). c.put_number.new.text.items ++ l) c.why_text.ensures) ∙ ap (λ (x : LogEnd). old ++ log_line x) (sym c.in-NoLog.is))
    c.put_word-in-NoLog-2.ensures
