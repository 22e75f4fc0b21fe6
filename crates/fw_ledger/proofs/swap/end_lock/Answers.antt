use Rattle.fw_ledger.proofs.Common.{◌≡◌, true, false, refl, ◌∙◌, ap, rules, option_map, err_from_is_err_and, word_of}
use Rattle.fw_ledger.specs.Swapped.{is_lock_of}
use Rattle.fw_ledger.proofs.Replies.{ended_answer}
use Rattle.fw_ledger.proofs.Taking.{goes_stand}
use Rattle.fw_ledger.proofs.LockRefusals.{lock_refused, lock_stopped}
use Rattle.fw_ledger.proofs.LockReplies.{lock_ended, lock_goes}
use Rattle.fw_ledger.proofs.swap.end_lock.Goals as goal

pub returns-then-not-is_lock_of : goal.returns-then-not-is_lock_of
returns-then-not-is_lock_of c = λ l h d.
    let fails : is_lock_of c.outstanding-asked.result c.args.head.now.source c.args.function ≡ false = search rules in
    let x = lock_refused l c.args.c c.args.head.now c.args.rcode c.args.function c.args.old.now c.outstanding-asked.result d (c.outstanding-asked.ensures l h) fails in
    (x.0, refl, x.1)

pub returns-in_err-make_swap : goal.returns-in_err-make_swap
returns-in_err-make_swap c = λ l h d.
    let p = err_from_is_err_and c.from_residual.result c.from_residual.ensures.1 in
    let a = c.outstanding-asked.result in
    let is = c.outstanding-asked.ensures l h in
    let holds : is_lock_of a c.args.head.now.source c.args.function ≡ true = search rules in
    let x = lock_ended l c.args.c c.args.head.now c.args.rcode c.args.function c.args.old.now a is holds in
    rw (p.1, p.2) (lock_stopped c.args.tables.now _ l c.args.c c.args.head.now c.args.rcode c.args.function c.args.old.now a _ _ _ c.requires.controller h.sound d x is holds
    (c.register_asked-register.ensures.register l x.request h x.asked) c.swap_done-done.ensures (c.in_err-make_swap.ensures l h))

pub end-requires-clause-stands : goal.end-requires-clause-stands
end-requires-clause-stands c = goes_stand _ _ (c.in_ok-make_swap.ensures c.requires.stands.0 c.requires.stands.1).1

pub returns : goal.returns
returns c = λ l h d.
    let a = c.outstanding-asked.result in
    let is = c.outstanding-asked.ensures l h in
    let holds : is_lock_of a c.args.head.now.source c.args.function ≡ true = search rules in
    let x = lock_ended l c.args.c c.args.head.now c.args.rcode c.args.function c.args.old.now a is holds in
    let place = c.register_asked-register.ensures.register l x.request h x.asked in (
      record {
        requester = refl;
        rcode = refl;
        shown = c.quadlet_in.ensures;
        request = x.request;
        answer = ended_answer l c.args.c _ a d x;
        asked = x.asked;
        due = c.word_in.ensures l h ∙ ap (option_map (word_of l)) place;
      },
      lock_goes c.make_swap.new.tables _ l c.args.c c.args.head.now c.args.rcode c.args.function c.args.old.now a _ _ x is holds place c.swap_done-done.ensures
          (c.in_ok-make_swap.ensures l h).1 c.end.ensures,
    )
