use Rattle.std.proofs.Common.{rules, ◌≡◌, ◌++◌, ◌∙◌, ◌<◌, ◌^◌, List, ℕ, ap, sym, subst}
use Rattle.std.proofs.lemmas.Result.{IfOk-weaker}
use Rattle.std.specs.Str.{IsUtf8}
use Rattle.fw_log_text.specs.Line.{entry_line}
use Rattle.fw_log_text.proofs.AsciiLaws.{line_is_text}
use Rattle.fw_log_text.proofs.text.entry_text.Goals as goal

pub returns : goal.returns
returns c =
    let is : c.as_slice.result.now ≡ entry_line c.args.t.now = c.as_slice.ensures ∙ c.in_ok-put_entry.ensures.line ∙ ap (λ (x : List ℕ). x ++ entry_line c.args.t.now) c.in_ok-room.ensures in
    let few : c.args.t.now.cycle < 2 ^ 64 = search rules in
    let U : List ℕ → Type 0 = IsUtf8 in
    IfOk-weaker c.from_utf8_lossy.result _ _ (λ s ok. ok (subst U (sym is) (line_is_text c.args.t.now few c.requires)) ∙ is) c.from_utf8_lossy.ensures.ok
