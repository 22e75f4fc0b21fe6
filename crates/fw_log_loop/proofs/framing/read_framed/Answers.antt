use Rattle.std.proofs.Common.{◌≡◌, ◌+◌, ◌<◌, ◌^◌, ◌∙◌, inl, ℕ, List, length, Ok, Err, refl, sym, subst}
use Rattle.fw_outside.specs.Outside.{Grows}
use Rattle.fw_outside.specs.Stops.{WriteCount}
use Rattle.fw_log_entry.specs.declared.entry.Timed.{Timed}
use Rattle.fw_log_loop.specs.Readings.{Form}
use Rattle.fw_log_loop.specs.Endings.{stop_of, Reads}
use Rattle.fw_log_loop.specs.Framings.{Adds, Concludes}
use Rattle.fw_log_loop.specs.declared.ending.LogEnding.TheVariants.{Stopped}
use Rattle.fw_log_loop.proofs.Completions.{is_complete, complete_by}
use Rattle.fw_log_loop.proofs.Interruptions.{nothing_read}
use Rattle.fw_log_loop.proofs.Gatherings.{none_else}
use Rattle.fw_log_loop.proofs.Enclosings.{read_none, read_open, read_whole, read_part, end_reads, end_writes, whole_writes}
use Rattle.fw_log_loop.proofs.framing.read_framed.Goals as goal

pub returns-in_default : goal.returns-in_default
returns-in_default g c = nothing_read (g.O.Reading.form c.args.output) g.O.Reading.rules _ _ refl refl

pub returns-in_default-new : goal.returns-in_default-new
returns-in_default-new g c = nothing_read (g.O.Reading.form c.args.output) g.O.Reading.rules _ _ refl refl

pub returns-in_default-begin : goal.returns-in_default-begin
returns-in_default-begin g c = record {
  reads = inl (read_none (g.O.Reading.form c.args.output) g.O.Reading.rules (g.S.Source.left c.args.source.now) (g.K.Sink.held c.args.sink.now) (g.K.Sink.held c.begin.new.sink)
      (g.met.O.Framed.frame c.args.output) c.in_default-begin.ensures.text);
  read_count = refl;
  write_count = c.in_default-begin.ensures.failed;
  complete = λ entries bytes is log short h. tt;
}

pub returns-in_default-of : goal.returns-in_default-of
returns-in_default-of g c =
    let form = g.O.Reading.form c.args.output in
    let rules = g.O.Reading.rules in
    let read = c.read_pieces-ending.ensures in
    let none = sym c.of.ensures ∙ none_else c.of.result c.in_default-of.not-Some in
    let reads = read_open form rules (g.O.Reading.took c.read_pieces-ending.new.output) (g.S.Source.left c.args.source.now) (g.S.Source.left c.read_pieces-ending.new.source)
    (g.K.Sink.held c.args.sink.now) (g.K.Sink.held c.begin.new.sink)
    (g.K.Sink.held c.read_pieces-ending.new.sink) c.read_pieces-ending.result (g.met.O.Reading.accepted c.read_pieces-ending.new.output)
    (g.met.O.Framed.frame c.args.output) c.in-Ok-begin.ensures.text read.reads none in
    let W : ℕ → Type 0 = λ n. WriteCount n (g.K.Sink.faults c.read_pieces-ending.new.sink) (stop_of c.read_pieces-ending.result) in
    record {
      reads = reads;
      read_count = read.read_count;
      write_count = subst W c.in-Ok-begin.ensures.stays read.write_count;
      complete = complete_by rules rules.completes (g.S.Source.left c.args.source.now) c.read_pieces-ending.result g.met.O.Reading.unrefused
          (is_complete form rules (g.S.Source.left c.args.source.now) (g.S.Source.left c.read_pieces-ending.new.source) (g.K.Sink.held c.args.sink.now)
          (g.K.Sink.held c.read_pieces-ending.new.sink) c.read_pieces-ending.result reads);
    }

pub returns-in-Ok-conclude : goal.returns-in-Ok-conclude
returns-in-Ok-conclude g c =
    let form = g.O.Reading.form c.args.output in
    let rules = g.O.Reading.rules in
    let read = c.read_pieces-ending.ensures in
    let held2 = g.K.Sink.held c.read_pieces-ending.new.sink in
    let held3 = g.K.Sink.held c.conclude.new.sink in
    let end = c.in-Some.end in
    let A : Form → Type 0 = λ f. (es : List Timed) → length es + 1 < 2 ^ 64 → g.O.Reading.took c.read_pieces-ending.new.output es → Adds f es end (Grows held2 held3) in
    let reads = read_whole form rules (g.O.Reading.took c.read_pieces-ending.new.output) (g.S.Source.left c.args.source.now) (g.S.Source.left c.read_pieces-ending.new.source)
    (g.K.Sink.held c.args.sink.now) (g.K.Sink.held c.begin.new.sink) held2 held3
    c.read_pieces-ending.result end (g.met.O.Reading.accepted c.read_pieces-ending.new.output) c.in-Ok-begin.ensures.text read.reads (sym c.in-Some.ensures)
    (subst A read.same c.in-Ok-conclude.ensures.text) in
    let W : ℕ → Type 0 = λ n. WriteCount n (g.K.Sink.faults c.read_pieces-ending.new.sink) (stop_of c.read_pieces-ending.result) in
    record {
      reads = reads;
      read_count = read.read_count;
      write_count = whole_writes c.read_pieces-ending.result end (g.K.Sink.faults c.args.sink.now) (g.K.Sink.faults c.read_pieces-ending.new.sink) (g.K.Sink.faults c.conclude.new.sink)
          (sym c.in-Some.ensures) (subst W c.in-Ok-begin.ensures.stays read.write_count)
          c.in-Ok-conclude.ensures.counts;
      complete = complete_by rules rules.completes (g.S.Source.left c.args.source.now) c.read_pieces-ending.result g.met.O.Reading.unrefused
          (is_complete form rules (g.S.Source.left c.args.source.now) (g.S.Source.left c.read_pieces-ending.new.source) (g.K.Sink.held c.args.sink.now) held3 c.read_pieces-ending.result reads);
    }

pub returns : goal.returns
returns g c =
    let form = g.O.Reading.form c.args.output in
    let rules = g.O.Reading.rules in
    let read = c.read_pieces-ending.ensures in
    let held2 = g.K.Sink.held c.read_pieces-ending.new.sink in
    let held3 = g.K.Sink.held c.conclude.new.sink in
    let end = c.in-Some.end in
    let stop = c.in-Err.stop in
    let A : Form → Type 0 = λ f. (es : List Timed) → length es + 1 < 2 ^ 64 → g.O.Reading.took c.read_pieces-ending.new.output es → Concludes f es end held2 held3 (Err stop) in
    let reads = read_part form rules (g.O.Reading.took c.read_pieces-ending.new.output) (g.S.Source.left c.args.source.now) (g.S.Source.left c.read_pieces-ending.new.source)
    (g.K.Sink.held c.args.sink.now) (g.K.Sink.held c.begin.new.sink) held2 held3
    c.read_pieces-ending.result end stop (g.met.O.Framed.frame c.args.output) c.in-Ok-begin.ensures.text read.reads (sym c.in-Some.ensures) (subst A read.same c.in-Err.ensures.text) in
    let W : ℕ → Type 0 = λ n. WriteCount n (g.K.Sink.faults c.read_pieces-ending.new.sink) (stop_of c.read_pieces-ending.result) in
    record {
      reads = reads;
      read_count = end_reads c.read_pieces-ending.result end stop (g.S.Source.faults c.args.source.now) (g.S.Source.faults c.read_pieces-ending.new.source)
          (g.K.Sink.faults c.read_pieces-ending.new.sink) (g.K.Sink.faults c.conclude.new.sink) (sym c.in-Some.ensures)
          read.read_count c.in-Err.ensures.counts;
      write_count = end_writes c.read_pieces-ending.result end stop (g.K.Sink.faults c.args.sink.now) (g.K.Sink.faults c.read_pieces-ending.new.sink) (g.K.Sink.faults c.conclude.new.sink)
          (sym c.in-Some.ensures)
          (subst W c.in-Ok-begin.ensures.stays read.write_count) c.in-Err.ensures.counts;
      complete = complete_by rules rules.completes (g.S.Source.left c.args.source.now) (Stopped stop) g.met.O.Reading.unrefused
          (is_complete form rules (g.S.Source.left c.args.source.now) (g.S.Source.left c.read_pieces-ending.new.source) (g.K.Sink.held c.args.sink.now) held3 (Stopped stop) reads);
    }
