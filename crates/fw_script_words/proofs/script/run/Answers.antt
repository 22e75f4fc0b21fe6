use Rattle.fw_script_words.proofs.Common.{◌∙◌, refl}
use Rattle.std.proofs.Common.{rules}
use Rattle.fw_script_words.proofs.Goings.{going_first}
use Rattle.fw_script_words.proofs.Faults.{part_header}
use Rattle.fw_script_words.proofs.Completions.{run_completes}
use Rattle.fw_script_words.proofs.script.run.Goals as goal

pub returns-in_default-write_header-clause-runs : goal.returns-in_default-write_header-clause-runs
returns-in_default-write_header-clause-runs g c = part_header (g.S.Source.left c.args.source.now) (g.K.Sink.held c.args.sink.now) (g.K.Sink.held c.write_header.new.sink) (search rules)

pub loop-ending-init : goal.loop-ending-init
loop-ending-init g c = record {
  going = going_first (g.S.Source.left c.args.source.now) (g.K.Sink.held c.args.sink.now) (g.K.Sink.held c.write_header.new.sink) c.in-Ok-new.reader c.in-Ok.bus (search rules) (search rules)
      (search rules) (search rules);
  unread = refl;
  unwritten = c.in-Ok-write_header.ensures.same;
}

pub loop-ending-preserved : goal.loop-ending-preserved
loop-ending-preserved g c =
    let i = c.loop-ending.invariant in
    let (bytes, wrote, there) = c.in_default-carry_next.ensures.goes (g.S.Source.left c.args.source.now) (g.K.Sink.held c.args.sink.now) (g.K.Sink.held c.loop-ending.sink) i.going in
    let step = there (g.K.Sink.held c.carry_next.new.sink) wrote in
    record { going = step.going; unread = c.in_default-carry_next.ensures.reads ∙ i.unread; unwritten = c.in_default-carry_next.ensures.writes ∙ i.unwritten }

pub loop-ending-smaller : goal.loop-ending-smaller
loop-ending-smaller g c =
    let (bytes, wrote, there) = c.in_default-carry_next.ensures.goes (g.S.Source.left c.args.source.now) (g.K.Sink.held c.args.sink.now)
    (g.K.Sink.held c.loop-ending.sink) c.loop-ending.invariant.going in
    (there (g.K.Sink.held c.carry_next.new.sink) wrote).shorter

pub returns-in-Some-clause-runs : goal.returns-in-Some-clause-runs
returns-in-Some-clause-runs g c =
    let (bytes, wrote, there) = c.in-Some.ensures.goes (g.S.Source.left c.args.source.now) (g.K.Sink.held c.args.sink.now) (g.K.Sink.held c.loop-ending.sink) c.loop-ending.invariant.going in
    (there (g.K.Sink.held c.carry_next.new.sink) wrote).runs

pub returns-in-Some-clause-complete : goal.returns-in-Some-clause-complete
returns-in-Some-clause-complete g c script told valid =
    let (bytes, wrote, there) = c.in-Some.ensures.goes (g.S.Source.left c.args.source.now) (g.K.Sink.held c.args.sink.now) (g.K.Sink.held c.loop-ending.sink) c.loop-ending.invariant.going in
    run_completes _ script (g.S.Source.left c.args.source.now) (g.S.Source.left c.carry_next.new.source) (g.K.Sink.held c.args.sink.now) (g.K.Sink.held c.carry_next.new.sink) c.in-Some.ending
    (there (g.K.Sink.held c.carry_next.new.sink) wrote).runs
    told valid
