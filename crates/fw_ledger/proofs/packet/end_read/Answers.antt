use Rattle.fw_ledger.proofs.Common.{◌≡◌, true, false, Some, refl, sym, ◌∙◌, ap, subst, rules, option_map, word_of, GoesOn}
use Rattle.fw_ledger.specs.Swapped.{is_read_of}
use Rattle.fw_ledger.proofs.Replies.{read_refused, read_ended, ended_answer}
use Rattle.fw_ledger.proofs.packet.end_read.Goals as goal

pub returns-then-not-is_read_of : goal.returns-then-not-is_read_of
returns-then-not-is_read_of c = λ l h d.
    let fails : is_read_of c.outstanding-asked.result c.args.head.now.source ≡ false = search rules in
    let x = read_refused l c.args.c c.args.head.now c.args.rcode (Some c.args.value) c.outstanding-asked.result d (c.outstanding-asked.ensures l h) fails in
    (x.0, refl, x.1)

pub returns : goal.returns
returns c = λ l h d.
    let holds : is_read_of c.outstanding-asked.result c.args.head.now.source ≡ true = search rules in
    let x = read_ended l c.args.c c.args.head.now c.args.rcode (Some c.args.value) c.outstanding-asked.result (c.outstanding-asked.ensures l h) holds in
    let e = x.0 in (
      record {
        requester = refl;
        rcode = refl;
        shown = refl;
        request = e.request;
        answer = ended_answer l c.args.c _ c.outstanding-asked.result d e;
        asked = e.asked;
        due = c.word_in.ensures l h ∙ ap (option_map (word_of l)) (c.register_asked.ensures.register l e.request h e.asked);
      },
      subst (GoesOn c.end.new.self) (sym x.1) (c.end.ensures l h),
    )
