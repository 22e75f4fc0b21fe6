use Rattle.fw_script_words.proofs.Common.{ℕ, [], ◌++◌, Some, refl, subst, ◌∙◌, DeskRelations, ReadCount, course_of}
use Rattle.std.proofs.Common.{rules}
use Rattle.fw_script_words.proofs.Dubbings.{recording_first, recorded_ends, reads_in_memory}
use Rattle.fw_script_words.proofs.recording.record_run.Given as given
use Rattle.fw_script_words.proofs.recording.record_run.Goals as goal

pub loop-ending-init : goal.loop-ending-init
loop-ending-init g c = record {
  recording = recording_first (g.S.Source.left c.args.source.now) c.in-Ok.reader c.args.bus.now (search rules) c.requires.first c.requires.fresh;
  unread = refl;
}

pub loop-ending-preserved : goal.loop-ending-preserved
loop-ending-preserved g c =
    let i = c.loop-ending.invariant.recording in
    let (bytes, wrote, there) = c.in_default-carry_next.ensures.goes (g.S.Source.left c.args.source.now) (Some []) (Some i.written) i.going in
    record {
      recording = record { written = i.written ++ bytes; going = (there (Some (i.written ++ bytes)) refl).going };
      unread = c.in_default-carry_next.ensures.reads ∙ c.loop-ending.invariant.unread;
    }

pub loop-ending-smaller : goal.loop-ending-smaller
loop-ending-smaller g c =
    let i = c.loop-ending.invariant.recording in
    let (bytes, wrote, there) = c.in_default-carry_next.ensures.goes (g.S.Source.left c.args.source.now) (Some []) (Some i.written) i.going in
    (there (Some (i.written ++ bytes)) refl).shorter

pub returns-in-Some : goal.returns-in-Some
returns-in-Some g c =
    let D : DeskRelations = record { blocks = given.F-post g c.args.desk.now.blocks; vendor = given.H-post g c.args.desk.now.vendor } in
    let i = c.loop-ending.invariant.recording in
    let (bytes, wrote, there) = c.in-Some.ensures.goes (g.S.Source.left c.args.source.now) (Some []) (Some i.written) i.going in
    rw c.in_memory.ensures (record {
      recorded = recorded_ends D (g.S.Source.left c.args.source.now) (g.S.Source.left c.loop-ending.source) (g.S.Source.left c.carry_next.new.source) (i.written ++ bytes)
          (course_of i.going) c.loop-ending.reader c.carry_next.new.reader c.carry_next.new.bus c.in-Some.ending
          (there (Some (i.written ++ bytes)) refl);
      read_count = reads_in_memory _ _ c.in-Some.ending (subst (λ (n : ℕ). ReadCount n
          (g.S.Source.faults c.carry_next.new.source) c.in-Some.ending) c.loop-ending.invariant.unread c.in-Some.ensures.reads);
    })
