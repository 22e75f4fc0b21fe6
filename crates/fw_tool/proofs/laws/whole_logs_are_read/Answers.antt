use Rattle.std.proofs.Common.{◌++◌, Some, refl}
use Rattle.fw_log_entry.specs.Log.{header_bytes}
use Rattle.fw_log_entry.specs.declared.version.Version.TheVariants.{Two}
use Rattle.fw_model_run.specs.Giving.{log_bytes}
use Rattle.fw_log_loop.proofs.Completions.{is_complete}
use Rattle.fw_log_words.specs.Words.{form_by, rules_by, accepts_by}
use Rattle.fw_tool.proofs.RunTrees.{run_tree}
use Rattle.fw_tool.proofs.WordLaws.{run_accepted}
use Rattle.fw_tool.proofs.laws.whole_logs_are_read.Goals as goal

pub returns : goal.returns
returns g c left left' held held' ran short word has told' kept kept' e reads =
    let trees = run_tree c.actions_leave_states_good.ensures.actions c.self_ids_tell_the_tree.ensures ran.logged.actions ran.logged.log in
    let bytes = header_bytes Two ++ log_bytes 0 ran.logged.log in
    is_complete (form_by word) (rules_by word) (Some bytes) told' kept kept' e reads ran.logged.log bytes refl (record { version = Two; spells = ran.whole }) short
    (accepts_by word ran.logged.log (run_accepted word ran.logged.log ran.logged.audited (λ r. trees r c.actions_leave_states_good.ensures.first ran.logged.sound) has))
