use Rattle.fw_script_words.proofs.Common.{ℕ, [], ◌++◌, Some, refl, subst, ◌∙◌, arith, DeskRelations, ReadCount}
use Rattle.fw_script_words.proofs.Checkings.{checking_first, checking_more, checked_ends}
use Rattle.fw_script_words.proofs.Dubbings.{reads_in_memory}
use Rattle.fw_script_words.proofs.checking.check_run.Given as given
use Rattle.fw_script_words.proofs.checking.check_run.Goals as goal

pub loop-ending-init : goal.loop-ending-init
loop-ending-init g c = record {
  checking = checking_first (g.S.Source.left c.args.source.now) c.args.reader.now c.args.bus.now c.requires.unread c.requires.first c.requires.fresh;
  unread = refl;
}

pub loop-ending-preserved : goal.loop-ending-preserved
loop-ending-preserved g c =
    let i = c.loop-ending.invariant.checking in
    let (bytes, wrote, there) = c.in_default.ensures.goes (g.S.Source.left c.args.source.now) (Some []) (Some i.written) i.going in
    record {
      checking = checking_more i _ _ _ bytes _ _ (there (Some (i.written ++ bytes)) refl);
      unread = c.in_default.ensures.reads ∙ c.loop-ending.invariant.unread;
    }

pub loop-ending-smaller : goal.loop-ending-smaller
loop-ending-smaller g c =
    let i = c.loop-ending.invariant.checking in
    let (bytes, wrote, there) = c.in_default.ensures.goes (g.S.Source.left c.args.source.now) (Some []) (Some i.written) i.going in
    (there (Some (i.written ++ bytes)) refl).shorter

pub overflow_add-commands : goal.overflow_add-commands
overflow_add-commands g c = omega (arith, c.loop-ending.invariant.checking.few)

pub returns-in-Some : goal.returns-in-Some
returns-in-Some g c =
    let D : DeskRelations = record { blocks = given.F-post g c.args.desk.now.blocks; vendor = given.H-post g c.args.desk.now.vendor } in
    let i = c.loop-ending.invariant.checking in
    let (bytes, wrote, there) = c.in-Some.ensures.goes (g.S.Source.left c.args.source.now) (Some []) (Some i.written) i.going in
    rw c.in_memory.ensures (record {
      checked = checked_ends D (g.S.Source.left c.args.source.now) (g.S.Source.left c.loop-ending.source) (g.S.Source.left c.carry_next.new.source) (i.written ++ bytes) _
          c.loop-ending.reader c.carry_next.new.reader c.carry_next.new.bus c.loop-ending.commands c.in-Some.ending i.counted (there (Some (i.written ++ bytes)) refl);
      read_count = reads_in_memory _ _ c.in-Some.ending
          (subst (λ (n : ℕ). ReadCount n (g.S.Source.faults c.carry_next.new.source) c.in-Some.ending) c.loop-ending.invariant.unread c.in-Some.ensures.reads);
    })
