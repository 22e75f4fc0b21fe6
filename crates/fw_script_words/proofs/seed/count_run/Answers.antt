use Rattle.fw_script_words.proofs.Common.{List, ℕ, [], ◌++◌, Some, ◌∙◌, latest_epoch, DeskRelations, course_of}
use Rattle.std.proofs.Common.{rules}
use Rattle.fw_script_words.proofs.Countings.{counting_first, kept_elsewhere, given_alone, counting_more, counted_ends}
use Rattle.fw_script_words.proofs.seed.count_run.Given as given
use Rattle.fw_script_words.proofs.seed.count_run.Goals as goal

pub loop-ending-init : goal.loop-ending-init
loop-ending-init g c =
    counting_first c.args.script.items c.new-source.result c.new-sink.result.held c.in-Ok-new.reader c.in-Ok.bus c.args.tally.now
    (search rules) (search rules) (search rules) c.new-source.ensures c.new-sink.ensures.held c.requires.none

pub loop-ending-preserved : goal.loop-ending-preserved
loop-ending-preserved g c =
    let D : DeskRelations = record { blocks = given.F-post g c.args.desk.now.blocks; vendor = given.H-post g c.args.desk.now.vendor } in
    let i = c.loop-ending.invariant in
    let held : List ℕ = c.carry_next.new.sink.held in
    let (bytes, wrote, there) = c.in_default-carry_next.ensures.goes (Some c.args.script.items) (Some []) (Some i.written) i.going in
    let d = there (Some (i.written ++ held)) (kept_elsewhere i.written c.loop-ending.sink.held held i.empty bytes wrote) in
    let same = given_alone {D = D} i c.carry_next.new.source held c.carry_next.new.reader c.carry_next.new.bus d in
    counting_more {D = D} i c.carry_next.new.source held c.clear.new.self.held c.carry_next.new.reader c.carry_next.new.bus c.take.new.self d
    (c.in-Ok-take.ensures (latest_epoch 0 i.going.log) i.going.log d.out d.fit (c.as_slice.ensures ∙ same) i.counts) c.clear.ensures.held

pub loop-ending-smaller : goal.loop-ending-smaller
loop-ending-smaller g c =
    let i = c.loop-ending.invariant in
    let held : List ℕ = c.carry_next.new.sink.held in
    let (bytes, wrote, there) = c.in_default-carry_next.ensures.goes (Some c.args.script.items) (Some []) (Some i.written) i.going in
    let d = there (Some (i.written ++ held)) (kept_elsewhere i.written c.loop-ending.sink.held held i.empty bytes wrote) in
    d.shorter

pub returns-in-Some : goal.returns-in-Some
returns-in-Some g c =
    let D : DeskRelations = record { blocks = given.F-post g c.args.desk.now.blocks; vendor = given.H-post g c.args.desk.now.vendor } in
    let i = c.loop-ending.invariant in
    let held : List ℕ = c.carry_next.new.sink.held in
    let (bytes, wrote, there) = c.in-Some.ensures.goes (Some c.args.script.items) (Some []) (Some i.written) i.going in
    rw c.in_memory.ensures (counted_ends D c.args.script.items c.loop-ending.source c.carry_next.new.source (i.written ++ held)
    (course_of i.going) c.loop-ending.reader c.carry_next.new.reader c.carry_next.new.bus c.loop-ending.tally c.in-Some.ending c.requires.short i.counts c.in-Some.ensures.reads
    (there (Some (i.written ++ held)) (kept_elsewhere i.written c.loop-ending.sink.held held i.empty bytes wrote)))
