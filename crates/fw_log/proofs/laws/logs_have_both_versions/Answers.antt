use Rattle.fw_log.proofs.Common.{refl, sym, ◌∙◌, ap, List, ◌++◌, header_bytes, Timed}
use Rattle.fw_log_entry.specs.Log.{entries_bytes}
use Rattle.fw_log.proofs.FollowingLaws.{one_log}
use Rattle.fw_log.proofs.laws.logs_have_both_versions.Goals as goal

pub returns-clause-one : goal.returns-clause-one
returns-clause-one c v w entries others bytes f g = one_log v w entries others bytes f g

pub returns-clause-opens : goal.returns-clause-opens
returns-clause-opens c v w entries bytes f = record { order = f.order; same = refl }

pub returns-clause-both : goal.returns-clause-both
returns-clause-both c v w entries bytes f = record { opens = record { order = f.opens.order; same = refl }; ends = f.ends }

pub returns-clause-back : goal.returns-clause-back
returns-clause-back c v w entries others bytes out f e h =
    let same = (one_log v v entries others out (record { order = f.opens.order; same = e }) h.opens).1 in
    ap (λ (x : List Timed). header_bytes w ++ entries_bytes w 0 x) (sym same) ∙ f.opens.same
