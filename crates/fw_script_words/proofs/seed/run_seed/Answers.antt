use Rattle.fw_script_words.proofs.Common.{List, ℕ, length, ap, arith, DeskRelations}
use Rattle.fw_script_gen.proofs.LengthLaws.{script_few}
use Rattle.fw_script_words.proofs.Countings.{summed_up, unwritten, no_write_fault, sums_no_refusal}
use Rattle.fw_script_words.proofs.seed.run_seed.Given as given
use Rattle.fw_script_words.proofs.seed.run_seed.Goals as goal

pub count_run-requires-clause-short : goal.count_run-requires-clause-short
count_run-requires-clause-short g c =
    let size = ap (λ (l : List ℕ). length l) c.in-Ok.ensures in
    omega (arith, size, script_few c.args.seed)

pub returns-in-Done-clause-sums : goal.returns-in-Done-clause-sums
returns-in-Done-clause-sums g c = summed_up c.args.seed c.in-Ok.script.items c.count_run.new.tally (g.K.Sink.held c.args.sink.now)
    (g.K.Sink.held c.write_summary.new.sink) c.write_summary.result c.in-Ok.ensures c.in-Done.ensures c.write_summary.ensures.text

pub returns-in-Done-clause-complete : goal.returns-in-Done-clause-complete
returns-in-Done-clause-complete g c valid =
    let D : DeskRelations = record { blocks = given.F-post g c.args.desk.now.blocks; vendor = given.H-post g c.args.desk.now.vendor } in
    sums_no_refusal D c.args.seed (g.K.Sink.held c.args.sink.now) (g.K.Sink.held c.write_summary.new.sink) c.write_summary.result
    (summed_up c.args.seed c.in-Ok.script.items c.count_run.new.tally (g.K.Sink.held c.args.sink.now)
    (g.K.Sink.held c.write_summary.new.sink) c.write_summary.result c.in-Ok.ensures c.in-Done.ensures c.write_summary.ensures.text) valid

pub returns-in_default-count_run : goal.returns-in_default-count_run
returns-in_default-count_run g c =
    let D : DeskRelations = record { blocks = given.F-post g c.args.desk.now.blocks; vendor = given.H-post g c.args.desk.now.vendor } in
    let held = g.K.Sink.held c.args.sink.now in
    let d = unwritten D c.args.seed c.in-Ok.script.items c.count_run.new.tally held c.count_run.result c.in-Ok.ensures c.in_default-count_run.not-Done c.count_run.ensures in
    record {
      sums = d;
      complete = sums_no_refusal D c.args.seed held held c.count_run.result d;
      write_count = no_write_fault D (g.K.Sink.faults c.args.sink.now) c.in-Ok.script.items c.count_run.new.tally c.count_run.result c.count_run.ensures;
    }
