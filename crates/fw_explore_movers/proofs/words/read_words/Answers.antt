use Rattle.std.proofs.Common.{ℕ, ◌+◌, ◌<◌, List, [], Global, string_bytes, length, sym, subst, arith}
use Rattle.fw_explore_movers.specs.Words.{Reads, ReadsAll, Refused, Took, nothing_read, all_read}
use Rattle.fw_explore_movers.proofs.ReadsLaws.{one_more, first_refused}
use Rattle.fw_explore_movers.proofs.words.read_words.Goals as goal

pub loop-at-init : goal.loop-at-init
loop-at-init c = subst (ReadsAll 1 [] nothing_read) (sym c.new-reading.ensures) all_read

pub returns-in-Ok-Some : goal.returns-in-Ok-Some
returns-in-Ok-Some c =
    let within : c.loop-at.at < length c.args.words.now = omega arith in
    let took = subst (Took (c.loop-at.at + 1) c.as_bytes.result.now c.loop-at.reading c.take.new.self) c.in-Ok-Some.field-0-is c.in-Ok-Some.ensures in
    let refused = subst (λ (w : List ℕ). Refused (c.loop-at.at + 1) w c.loop-at.reading c.in-Ok-Some.why) c.as_bytes.ensures.value took in
    first_refused (string_bytes {Z = Global}) c.args.words.now c.loop-at.at c.index-words-at.result within c.index-words-at.is c.loop-at.reading c.in-Ok-Some.why c.loop-at.invariant refused

pub loop-at-preserved : goal.loop-at-preserved
loop-at-preserved c =
    let within : c.loop-at.at < length c.args.words.now = omega arith in
    let took = subst (Took (c.loop-at.at + 1) c.as_bytes.result.now c.loop-at.reading c.take.new.self) c.in-Ok-None.field-0-is c.in-Ok-None.ensures in
    let read = subst (λ (w : List ℕ). Reads (c.loop-at.at + 1) w c.loop-at.reading c.take.new.self) c.as_bytes.ensures.value took in
    one_more (string_bytes {Z = Global}) c.args.words.now c.loop-at.at c.index-words-at.result within c.index-words-at.is c.loop-at.reading c.take.new.self c.loop-at.invariant read
