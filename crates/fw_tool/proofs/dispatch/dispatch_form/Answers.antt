use Rattle.std.proofs.Common.{ℕ, refl, sym, subst}
use Rattle.fw_script_gen.specs.Gen.{script_of}
use Rattle.fw_model_run.specs.Desks.{DeskRelations}
use Rattle.fw_log_loop.specs.Endings.{Reads}
use Rattle.fw_log_words.specs.Words.{form_by, rules_by, Accepts}
use Rattle.fw_log_words.specs.declared.LogWord.{LogWord}
use Rattle.fw_script_words.specs.Scripts.{IsValid}
use Rattle.fw_tool.specs.About.{about_text, IsSaid}
use Rattle.fw_tool.specs.Faults.{FirstFault}
use Rattle.fw_tool.specs.declared.about.About.{About}
use Rattle.fw_tool.specs.declared.ending.Ending.{Ending}
use Rattle.fw_tool.specs.Scripts.{RunsAs}
use Rattle.fw_tool.specs.declared.scripts.ScriptWord.{ScriptWord}
use Rattle.fw_tool.specs.declared.words.Word.TheVariants.{Script, Gen, Log, Explore, About as Say}
use Rattle.fw_tool.proofs.Completions.{run_completes, seed_completes, log_completes, first_of_run, first_of_seed, first_of_log, seed_same, done_or_unmet, done_unwritten}
use Rattle.fw_tool.proofs.Doings.{script_not_gen, script_not_log, script_not_about, gen_not_script, gen_not_log, gen_not_about, log_not_script, log_not_gen}
use Rattle.fw_tool.proofs.Doings.{log_not_about, about_not_script, about_not_gen, about_not_log, one_script, one_seed, one_log, one_about}
use Rattle.fw_tool.proofs.Doings.{script_not_explore, gen_not_explore, log_not_explore, about_not_explore, explore_not_script, explore_not_gen, explore_not_log, explore_not_about}
use Rattle.fw_tool.proofs.dispatch.dispatch_form.Given as given
use Rattle.fw_tool.proofs.dispatch.dispatch_form.Goals as goal

-- ---- other words

pub returns-in_default-clause-scripts : goal.returns-in_default-clause-scripts
returns-in_default-clause-scripts g c word form = absurd (c.in_default.not-Some (Script word) ((c.word_of.ensures (Script word)).1 form))

pub returns-in_default-clause-sums : goal.returns-in_default-clause-sums
returns-in_default-clause-sums g c seed form = absurd (c.in_default.not-Some (Gen seed) ((c.word_of.ensures (Gen seed)).1 form))

pub returns-in_default-clause-logs : goal.returns-in_default-clause-logs
returns-in_default-clause-logs g c word form = absurd (c.in_default.not-Some (Log word) ((c.word_of.ensures (Log word)).1 form))

pub returns-in_default-clause-complete : goal.returns-in_default-clause-complete
returns-in_default-clause-complete g c word form = absurd (c.in_default.not-Some (Script word) ((c.word_of.ensures (Script word)).1 form))

pub returns-in_default-clause-complete_sums : goal.returns-in_default-clause-complete_sums
returns-in_default-clause-complete_sums g c seed form = absurd (c.in_default.not-Some (Gen seed) ((c.word_of.ensures (Gen seed)).1 form))

pub returns-in_default-clause-complete_log : goal.returns-in_default-clause-complete_log
returns-in_default-clause-complete_log g c word form = absurd (c.in_default.not-Some (Log word) ((c.word_of.ensures (Log word)).1 form))

pub returns-in_default-clause-explorations : goal.returns-in_default-clause-explorations
returns-in_default-clause-explorations g c more form = absurd (c.in_default.not-Some Explore ((c.word_of.ensures Explore).1 ((more, form), tt)))

pub returns-in_default-clause-about : goal.returns-in_default-clause-about
returns-in_default-clause-about g c about form = absurd (c.in_default.not-Some (Say about) ((c.word_of.ensures (Say about)).1 form))

-- ---- the words that run a script

pub returns-in-Script-clause-scripts : goal.returns-in-Script-clause-scripts
returns-in-Script-clause-scripts g c word form =
    let D : DeskRelations = record { blocks = given.F-post g c.args.desk.now.blocks; vendor = given.H-post g c.args.desk.now.vendor } in
    let same = one_script c.word_of.result c.in-Some.word c.in-Script.word word c.in-Some.is c.in-Script.is ((c.word_of.ensures (Script word)).1 form) in
    let P : ScriptWord → Type 0 = λ w. RunsAs D w (g.S.Source.left c.args.source.now) (g.S.Source.left c.run_as.new.source) (g.K.Sink.held c.args.sink.now)
    (g.K.Sink.held c.run_as.new.sink) c.run_as.result in
    (c.run_as.result, c.ending_of_run.ensures, subst P same c.run_as.ensures.runs)

pub returns-in-Script-clause-sums : goal.returns-in-Script-clause-sums
returns-in-Script-clause-sums g c seed form = absurd (script_not_gen c.word_of.result c.in-Some.word c.in-Script.word seed c.in-Some.is c.in-Script.is ((c.word_of.ensures (Gen seed)).1 form))

pub returns-in-Script-clause-logs : goal.returns-in-Script-clause-logs
returns-in-Script-clause-logs g c word form = absurd (script_not_log c.word_of.result c.in-Some.word c.in-Script.word word c.in-Some.is c.in-Script.is ((c.word_of.ensures (Log word)).1 form))

pub returns-in-Script-clause-first : goal.returns-in-Script-clause-first
returns-in-Script-clause-first g c =
    let F : Ending → Type 0 = FirstFault (g.S.Source.faults c.args.source.now) (g.S.Source.faults c.run_as.new.source) (g.K.Sink.faults c.args.sink.now) (g.K.Sink.faults c.run_as.new.sink) in
    subst F (sym c.ending_of_run.ensures) (first_of_run _ _ _ _ c.run_as.result c.run_as.ensures.read_count c.run_as.ensures.write_count)

pub returns-in-Script-clause-complete : goal.returns-in-Script-clause-complete
returns-in-Script-clause-complete g c word form script told valid = done_or_unmet c.ending_of_run.ensures (run_completes c.run_as.result (c.run_as.ensures.complete script told valid))

pub returns-in-Script-clause-complete_sums : goal.returns-in-Script-clause-complete_sums
returns-in-Script-clause-complete_sums g c seed form = absurd (script_not_gen c.word_of.result c.in-Some.word c.in-Script.word seed c.in-Some.is c.in-Script.is ((c.word_of.ensures (Gen seed)).1 form))

pub returns-in-Script-clause-complete_log : goal.returns-in-Script-clause-complete_log
returns-in-Script-clause-complete_log g c word form = absurd (script_not_log c.word_of.result c.in-Some.word c.in-Script.word word c.in-Some.is c.in-Script.is ((c.word_of.ensures (Log word)).1 form))

pub returns-in-Script-clause-explorations : goal.returns-in-Script-clause-explorations
returns-in-Script-clause-explorations g c more form = absurd
    (script_not_explore c.word_of.result c.in-Some.word c.in-Script.word c.in-Some.is c.in-Script.is ((c.word_of.ensures Explore).1 ((more, form), tt)))

pub returns-in-Script-clause-about : goal.returns-in-Script-clause-about
returns-in-Script-clause-about g c about form = absurd (script_not_about c.word_of.result c.in-Some.word c.in-Script.word about c.in-Some.is c.in-Script.is ((c.word_of.ensures (Say about)).1 form))

-- ---- gen

pub returns-in-Gen-clause-scripts : goal.returns-in-Gen-clause-scripts
returns-in-Gen-clause-scripts g c word form = absurd (gen_not_script c.word_of.result c.in-Some.word c.in-Gen.seed word c.in-Some.is c.in-Gen.is ((c.word_of.ensures (Script word)).1 form))

pub returns-in-Gen-clause-sums : goal.returns-in-Gen-clause-sums
returns-in-Gen-clause-sums g c seed form =
    let D : DeskRelations = record { blocks = given.F-post g c.args.desk.now.blocks; vendor = given.H-post g c.args.desk.now.vendor } in
    let same = one_seed c.word_of.result c.in-Some.word c.in-Gen.seed seed c.in-Some.is c.in-Gen.is ((c.word_of.ensures (Gen seed)).1 form) in (
      refl,
      (
        c.run_seed.result,
        c.ending_of_run-in-Gen.ensures,
        seed_same D (g.K.Sink.held c.args.sink.now)
            (g.K.Sink.held c.run_seed.new.sink) c.run_seed.result c.in-Gen.seed seed same c.run_seed.ensures.sums,
      ),
    )

pub returns-in-Gen-clause-logs : goal.returns-in-Gen-clause-logs
returns-in-Gen-clause-logs g c word form = absurd (gen_not_log c.word_of.result c.in-Some.word c.in-Gen.seed word c.in-Some.is c.in-Gen.is ((c.word_of.ensures (Log word)).1 form))

pub returns-in-Gen-clause-first : goal.returns-in-Gen-clause-first
returns-in-Gen-clause-first g c =
    let D : DeskRelations = record { blocks = given.F-post g c.args.desk.now.blocks; vendor = given.H-post g c.args.desk.now.vendor } in
    let F : Ending → Type 0 = FirstFault (g.S.Source.faults c.args.source.now) (g.S.Source.faults c.args.source.now) (g.K.Sink.faults c.args.sink.now) (g.K.Sink.faults c.run_seed.new.sink) in
    subst F (sym c.ending_of_run-in-Gen.ensures)
    (first_of_seed D c.in-Gen.seed (g.K.Sink.held c.args.sink.now) (g.K.Sink.held c.run_seed.new.sink) (g.S.Source.faults c.args.source.now) (g.K.Sink.faults c.args.sink.now)
    (g.K.Sink.faults c.run_seed.new.sink) c.run_seed.result c.run_seed.ensures.sums c.run_seed.ensures.write_count)

pub returns-in-Gen-clause-complete : goal.returns-in-Gen-clause-complete
returns-in-Gen-clause-complete g c word form = absurd (gen_not_script c.word_of.result c.in-Some.word c.in-Gen.seed word c.in-Some.is c.in-Gen.is ((c.word_of.ensures (Script word)).1 form))

pub returns-in-Gen-clause-complete_sums : goal.returns-in-Gen-clause-complete_sums
returns-in-Gen-clause-complete_sums g c seed form valid =
    let D : DeskRelations = record { blocks = given.F-post g c.args.desk.now.blocks; vendor = given.H-post g c.args.desk.now.vendor } in
    let V : ℕ → Type 0 = λ n. IsValid (script_of n) in
    let same = one_seed c.word_of.result c.in-Some.word c.in-Gen.seed seed c.in-Some.is c.in-Gen.is ((c.word_of.ensures (Gen seed)).1 form) in
    done_unwritten c.ending_of_run-in-Gen.ensures
    (seed_completes D c.in-Gen.seed (g.K.Sink.held c.args.sink.now) (g.K.Sink.held c.run_seed.new.sink) c.run_seed.result c.run_seed.ensures.sums
    (c.run_seed.ensures.complete (subst V (sym same) valid)))

pub returns-in-Gen-clause-complete_log : goal.returns-in-Gen-clause-complete_log
returns-in-Gen-clause-complete_log g c word form = absurd (gen_not_log c.word_of.result c.in-Some.word c.in-Gen.seed word c.in-Some.is c.in-Gen.is ((c.word_of.ensures (Log word)).1 form))

pub returns-in-Gen-clause-explorations : goal.returns-in-Gen-clause-explorations
returns-in-Gen-clause-explorations g c more form = absurd (gen_not_explore c.word_of.result c.in-Some.word c.in-Gen.seed c.in-Some.is c.in-Gen.is ((c.word_of.ensures Explore).1 ((more, form), tt)))

pub returns-in-Gen-clause-about : goal.returns-in-Gen-clause-about
returns-in-Gen-clause-about g c about form = absurd (gen_not_about c.word_of.result c.in-Some.word c.in-Gen.seed about c.in-Some.is c.in-Gen.is ((c.word_of.ensures (Say about)).1 form))

-- ---- the words that read a log

pub returns-in-Log-clause-scripts : goal.returns-in-Log-clause-scripts
returns-in-Log-clause-scripts g c word form = absurd (log_not_script c.word_of.result c.in-Some.word c.in-Log.word word c.in-Some.is c.in-Log.is ((c.word_of.ensures (Script word)).1 form))

pub returns-in-Log-clause-sums : goal.returns-in-Log-clause-sums
returns-in-Log-clause-sums g c seed form = absurd (log_not_gen c.word_of.result c.in-Some.word c.in-Log.word seed c.in-Some.is c.in-Log.is ((c.word_of.ensures (Gen seed)).1 form))

pub returns-in-Log-clause-logs : goal.returns-in-Log-clause-logs
returns-in-Log-clause-logs g c word form =
    let same = one_log c.word_of.result c.in-Some.word c.in-Log.word word c.in-Some.is c.in-Log.is ((c.word_of.ensures (Log word)).1 form) in
    let P : LogWord → Type 0 = λ w. Reads (form_by w) (rules_by w) (g.S.Source.left c.args.source.now) (g.S.Source.left c.read_as.new.source) (g.K.Sink.held c.args.sink.now)
    (g.K.Sink.held c.read_as.new.sink) c.read_as.result in
    (c.read_as.result, c.ending_of_log.ensures, subst P same c.read_as.ensures.reads)

pub returns-in-Log-clause-first : goal.returns-in-Log-clause-first
returns-in-Log-clause-first g c =
    let F : Ending → Type 0 = FirstFault (g.S.Source.faults c.args.source.now) (g.S.Source.faults c.read_as.new.source) (g.K.Sink.faults c.args.sink.now) (g.K.Sink.faults c.read_as.new.sink) in
    subst F (sym c.ending_of_log.ensures) (first_of_log _ _ _ _ c.read_as.result c.read_as.ensures.read_count c.read_as.ensures.write_count)

pub returns-in-Log-clause-complete : goal.returns-in-Log-clause-complete
returns-in-Log-clause-complete g c word form = absurd (log_not_script c.word_of.result c.in-Some.word c.in-Log.word word c.in-Some.is c.in-Log.is ((c.word_of.ensures (Script word)).1 form))

pub returns-in-Log-clause-complete_sums : goal.returns-in-Log-clause-complete_sums
returns-in-Log-clause-complete_sums g c seed form = absurd (log_not_gen c.word_of.result c.in-Some.word c.in-Log.word seed c.in-Some.is c.in-Log.is ((c.word_of.ensures (Gen seed)).1 form))

pub returns-in-Log-clause-complete_log : goal.returns-in-Log-clause-complete_log
returns-in-Log-clause-complete_log g c word form entries bytes told log short accepted =
    let same = one_log c.word_of.result c.in-Some.word c.in-Log.word word c.in-Some.is c.in-Log.is ((c.word_of.ensures (Log word)).1 form) in
    let A : LogWord → Type 0 = λ w. Accepts w entries in
    done_or_unmet c.ending_of_log.ensures (log_completes c.read_as.result (c.read_as.ensures.complete entries bytes told log short (subst A (sym same) accepted)))

pub returns-in-Log-clause-explorations : goal.returns-in-Log-clause-explorations
returns-in-Log-clause-explorations g c more form = absurd (log_not_explore c.word_of.result c.in-Some.word c.in-Log.word c.in-Some.is c.in-Log.is ((c.word_of.ensures Explore).1 ((more, form), tt)))

pub returns-in-Log-clause-about : goal.returns-in-Log-clause-about
returns-in-Log-clause-about g c about form = absurd (log_not_about c.word_of.result c.in-Some.word c.in-Log.word about c.in-Some.is c.in-Log.is ((c.word_of.ensures (Say about)).1 form))

-- ---- what the program says of itself

pub returns-in-About-clause-scripts : goal.returns-in-About-clause-scripts
returns-in-About-clause-scripts g c word form = absurd (about_not_script c.word_of.result c.in-Some.word c.in-About.about word c.in-Some.is c.in-About.is ((c.word_of.ensures (Script word)).1 form))

pub returns-in-About-clause-sums : goal.returns-in-About-clause-sums
returns-in-About-clause-sums g c seed form = absurd (about_not_gen c.word_of.result c.in-Some.word c.in-About.about seed c.in-Some.is c.in-About.is ((c.word_of.ensures (Gen seed)).1 form))

pub returns-in-About-clause-logs : goal.returns-in-About-clause-logs
returns-in-About-clause-logs g c word form = absurd (about_not_log c.word_of.result c.in-Some.word c.in-About.about word c.in-Some.is c.in-About.is ((c.word_of.ensures (Log word)).1 form))

pub returns-in-About-clause-explorations : goal.returns-in-About-clause-explorations
returns-in-About-clause-explorations g c more form = absurd (about_not_explore c.word_of.result c.in-Some.word c.in-About.about c.in-Some.is c.in-About.is
    ((c.word_of.ensures Explore).1 ((more, form), tt)))

pub returns-in-About-clause-about : goal.returns-in-About-clause-about
returns-in-About-clause-about g c about form =
    let same = one_about c.word_of.result c.in-Some.word c.in-About.about about c.in-Some.is c.in-About.is ((c.word_of.ensures (Say about)).1 form) in
    let P : About → Type 0 = λ a. IsSaid (g.K.Sink.held c.args.sink.now) (g.K.Sink.held c.say.new.sink) (about_text a) c.say.result in
    (refl, subst P same c.say.ensures.said)

pub returns-in-About-clause-first : goal.returns-in-About-clause-first
returns-in-About-clause-first g c = c.say.ensures.first (g.S.Source.faults c.args.source.now)

pub returns-in-About-clause-complete : goal.returns-in-About-clause-complete
returns-in-About-clause-complete g c word form = absurd (about_not_script c.word_of.result c.in-Some.word c.in-About.about word c.in-Some.is c.in-About.is ((c.word_of.ensures (Script word)).1 form))

pub returns-in-About-clause-complete_sums : goal.returns-in-About-clause-complete_sums
returns-in-About-clause-complete_sums g c seed form = absurd (about_not_gen c.word_of.result c.in-Some.word c.in-About.about seed c.in-Some.is c.in-About.is ((c.word_of.ensures (Gen seed)).1 form))

pub returns-in-About-clause-complete_log : goal.returns-in-About-clause-complete_log
returns-in-About-clause-complete_log g c word form = absurd (about_not_log c.word_of.result c.in-Some.word c.in-About.about word c.in-Some.is c.in-About.is ((c.word_of.ensures (Log word)).1 form))

-- ---- explore

pub returns-in-Explore-clause-scripts : goal.returns-in-Explore-clause-scripts
returns-in-Explore-clause-scripts g c word form = absurd (explore_not_script c.word_of.result c.in-Some.word word c.in-Some.is c.in-Explore.is ((c.word_of.ensures (Script word)).1 form))

pub returns-in-Explore-clause-sums : goal.returns-in-Explore-clause-sums
returns-in-Explore-clause-sums g c seed form = absurd (explore_not_gen c.word_of.result c.in-Some.word seed c.in-Some.is c.in-Explore.is ((c.word_of.ensures (Gen seed)).1 form))

pub returns-in-Explore-clause-logs : goal.returns-in-Explore-clause-logs
returns-in-Explore-clause-logs g c word form = absurd (explore_not_log c.word_of.result c.in-Some.word word c.in-Some.is c.in-Explore.is ((c.word_of.ensures (Log word)).1 form))

pub returns-in-Explore-clause-about : goal.returns-in-Explore-clause-about
returns-in-Explore-clause-about g c about form = absurd (explore_not_about c.word_of.result c.in-Some.word about c.in-Some.is c.in-Explore.is ((c.word_of.ensures (Say about)).1 form))

pub returns-in-Explore-clause-complete : goal.returns-in-Explore-clause-complete
returns-in-Explore-clause-complete g c word form = absurd (explore_not_script c.word_of.result c.in-Some.word word c.in-Some.is c.in-Explore.is ((c.word_of.ensures (Script word)).1 form))

pub returns-in-Explore-clause-complete_sums : goal.returns-in-Explore-clause-complete_sums
returns-in-Explore-clause-complete_sums g c seed form = absurd (explore_not_gen c.word_of.result c.in-Some.word seed c.in-Some.is c.in-Explore.is ((c.word_of.ensures (Gen seed)).1 form))

pub returns-in-Explore-clause-complete_log : goal.returns-in-Explore-clause-complete_log
returns-in-Explore-clause-complete_log g c word form = absurd (explore_not_log c.word_of.result c.in-Some.word word c.in-Some.is c.in-Explore.is ((c.word_of.ensures (Log word)).1 form))
