use Rattle.fw_log_json.proofs.Common.{◌++◌, ◌∙◌, List, ℕ, ap, on_ok_weaker, Reset, object}
use Rattle.fw_log_json.proofs.LaterLaws.{told}
use Rattle.fw_log_json.proofs.room.put_kept.Goals as goal

pub returns : goal.returns
returns c =
    on_ok_weaker c.put_latest.result
    (λ e. told _ _ _ _ _ c.in_ok-keep.ensures e
    ∙ ap (λ (t : List ℕ). t ++ object (record { cycle = c.args.cycle; what = Reset c.args.r.now })) c.room.view_is)
    c.put_latest.ensures
