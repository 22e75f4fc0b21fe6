use Rattle.std.proofs.Common.{List, ℕ, ◌++◌, codes, decimal, take}
use Rattle.fw_log_explain.specs.Lines.{stream_text}
use Rattle.fw_log_explainer.proofs.JoinLaws.{two_more}
use Rattle.fw_log_explainer.proofs.iso.write_stream.Goals as goal

pub returns-clause-text : goal.returns-clause-text
unfolding stream_text
returns-clause-text c =
    let out : List ℕ = take c.args.at c.args.out.now in
    let p = c.args.p.now in
    let first : List ℕ = codes "isochronous channel " ++ decimal p.channel in
    two_more out (first ++ codes " SID " ++ decimal p.cip.sid) (codes " DBC ") (decimal p.cip.dbc) _ _
    (two_more out first (codes " SID ") (decimal p.cip.sid) _ _ c.write_part-at.ensures.text c.write_part-at-2.ensures.text)
    c.write_part.ensures.text
