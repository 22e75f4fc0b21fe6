use Rattle.fw_account_tables.proofs.Common.{◌≡◌, ◌+◌, true, false, Some, slice_set, sym, ◌∙◌, ap, subst, rules, true≢false, with_item, ChannelsAvailable, allowed, Follows, moved_by, Pending, Tables}
use Rattle.fw_model_account.specs.Moves.{AllocateChannel}
use Rattle.fw_model_account.specs.Decode.{at_addressed}
use Rattle.fw_account_tables.specs.Swaps.{half_of}
use Rattle.fw_account_tables.proofs.Swapping.{compared, differ}
use Rattle.fw_account_tables.proofs.ChannelSwaps.{channel_follows, channel_denied}
use Rattle.fw_account_tables.proofs.tables.Tables.allocate_channel.Goals.{then-not-may_allocate-via-then-not-may_allocate, then-not-may_allocate-via-else-not-may_allocate+then-not-exceeds}
use Rattle.fw_account_tables.proofs.tables.Tables.allocate_channel.Goals as goal

pub returns-then-not-may_allocate : goal.returns-then-not-may_allocate
returns-then-not-may_allocate c = λ l h.
    let addressed : l.addressed c.args.c ≡ Some c.in-Plug.plug = sym (c.in-Plug.ensures l h) in
    channel_denied c.args.self.now l c.args.c c.args.base c.args.bit c.args.new c.in-Plug.plug h c.requires.half c.requires.bit addressed
    (λ may less. elim c.then-not-may_allocate.branch [
      | then-not-may_allocate-via-then-not-may_allocate w ↦
          (let no : c.may_allocate.result ≡ false = search rules in true≢false (sym (c.may_allocate.ensures l h addressed ∙ may) ∙ no))
      | then-not-may_allocate-via-else-not-may_allocate+then-not-exceeds w ↦
          (let no : w.exceeds.result ≡ false = search rules in differ w.exceeds.result _ _ w.exceeds.ensures no
          (w.half.ensures ∙ less ∙ ap (λ v. c.args.new + v) (sym w.value_of.ensures)))
    ])

pub returns : goal.returns
returns c = λ l h.
    let t = c.args.self.now in
    let x = c.in-Plug.plug in
    let addressed : l.addressed c.args.c ≡ Some x = sym (c.in-Plug.ensures l h) in
    let may : c.may_allocate.result ≡ true = search rules in
    let more : c.exceeds.result ≡ true = search rules in
    let less = sym c.half.ensures ∙ compared c.exceeds.result _ _ c.exceeds.ensures more ∙ ap (λ v. c.args.new + v) c.value_of.ensures in
    subst (λ (m : Tables). Follows true t (record m { charges = with_item m.charges c.from.result (Pending c.args.c x 0) })
    (moved_by c.args.c (allowed l c.args.c (ChannelsAvailable c.args.base) (half_of c.args.base t) c.args.new
    (at_addressed (l.addressed c.args.c) (AllocateChannel (c.args.base + c.args.bit)))) l)) (sym c.set_half.ensures)
    (channel_follows t l c.args.c c.args.base c.args.bit c.args.new x (with_item t.charges c.from.result (Pending c.args.c x 0)) h c.requires.controller
    c.requires.half c.requires.bit addressed
    (sym (c.may_allocate.ensures l h addressed) ∙ may) less (ap (λ k. slice_set t.charges.items k (Pending c.args.c x 0)) c.from.ensures))
