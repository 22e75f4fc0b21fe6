use Rattle.fw_account_tables.proofs.Common.{◌≡◌, ◌+◌, ◌-◌, ◌^◌, true, false, slice_set, sym, ◌∙◌, ap}
use Rattle.fw_account_tables.proofs.Common.{subst, rules, true≢false, with_item, ChannelsAvailable, allowed, Follows, allocation_of, charge_at}
use Rattle.fw_account_tables.proofs.Common.{moved_by, Free, Tables}
use Rattle.fw_model_account.specs.Moves.{ReleaseChannel}
use Rattle.fw_model_account.specs.Decode.{at_addressed, held_for}
use Rattle.fw_account_tables.specs.Swaps.{half_of, holds_no_units}
use Rattle.fw_account_tables.proofs.Swapping.{compared, differ}
use Rattle.fw_account_tables.proofs.ChannelSwaps.{half_within, release_follows, release_denied}
use Rattle.fw_account_tables.proofs.tables.Tables.release_channel.Goals.{then-not-holds_no_units-via-then-not-holds_no_units, then-not-holds_no_units-via-else-not-holds_no_units+then-not-exceeds}
use Rattle.fw_account_tables.proofs.tables.Tables.release_channel.Goals as goal

pub returns-then-not-holds_no_units : goal.returns-then-not-holds_no_units
returns-then-not-holds_no_units c = λ l h.
    let t = c.args.self.now in
    let held : c.holds_no_units.result ≡ holds_no_units c.args.c (l.allocations (c.args.base + c.args.bit)) =
    c.holds_no_units.ensures ∙ ap (λ x. holds_no_units c.args.c (allocation_of x))
    (c.charge_at.ensures ∙ ap (λ xs. charge_at xs c.from-channel.result) c.deref.ensures.value ∙ ap (charge_at t.charges.items) c.from-channel.ensures)
    ∙ ap (holds_no_units c.args.c) (h.resources.charges (c.args.base + c.args.bit) (half_within c.args.base c.args.bit c.requires.half c.requires.bit)) in
    release_denied t l c.args.c c.args.base c.args.bit c.args.new h c.requires.half c.requires.bit
    (λ has more. elim c.then-not-holds_no_units.branch [
      | then-not-holds_no_units-via-then-not-holds_no_units w ↦
          (let no : c.holds_no_units.result ≡ false = search rules in true≢false (sym (held ∙ has) ∙ no))
      | then-not-holds_no_units-via-else-not-holds_no_units+then-not-exceeds w ↦
          (let no : w.exceeds.result ≡ false = search rules in differ w.exceeds.result _ _ w.exceeds.ensures no
          (more ∙ ap (λ k. k + 2 ^ (31 - c.args.bit)) (sym w.half.ensures) ∙ ap (λ v. w.half.result + v) (sym w.value_of.ensures)))
    ])

pub returns : goal.returns
returns c = λ l h.
    let t = c.args.self.now in
    let held : c.holds_no_units.result ≡ holds_no_units c.args.c (l.allocations (c.args.base + c.args.bit)) =
    c.holds_no_units.ensures ∙ ap (λ x. holds_no_units c.args.c (allocation_of x))
    (c.charge_at.ensures ∙ ap (λ xs. charge_at xs c.from-channel.result) c.deref.ensures.value ∙ ap (charge_at t.charges.items) c.from-channel.ensures)
    ∙ ap (holds_no_units c.args.c) (h.resources.charges (c.args.base + c.args.bit) (half_within c.args.base c.args.bit c.requires.half c.requires.bit)) in
    let has : c.holds_no_units.result ≡ true = search rules in
    let done : c.exceeds.result ≡ true = search rules in
    let more = compared c.exceeds.result _ _ c.exceeds.ensures done ∙ ap (λ k. k + c.value_of.result) c.half.ensures ∙ ap (λ v. half_of c.args.base t + v)
    c.value_of.ensures in
    subst (λ (m : Tables). Follows true t (record m { charges = with_item m.charges c.from-channel.result Free })
    (moved_by c.args.c (allowed l c.args.c (ChannelsAvailable c.args.base) (half_of c.args.base t) c.args.new
    (at_addressed (held_for (l.allocations (c.args.base + c.args.bit))) (ReleaseChannel (c.args.base + c.args.bit)))) l)) (sym c.set_half.ensures)
    (release_follows t l c.args.c c.args.base c.args.bit c.args.new (with_item t.charges c.from-channel.result Free) h c.requires.controller c.requires.half
    c.requires.bit (sym held ∙ has) more (ap (λ k. slice_set t.charges.items k Free) c.from-channel.ensures))
