use Rattle.fw_ledger.proofs.Common.{sym, ◌∙◌, ap, slice_set, refl, with_item}
use Rattle.fw_ledger.proofs.Requests.{refused_none, refused_beside, asked_follows, asked_stands}
use Rattle.fw_model_account.proofs.Packets.{device_below, device_started}
use Rattle.fw_ledger.proofs.packet.take_request.Goals as goal

pub returns-in-None : goal.returns-in-None
returns-in-None c = λ l operation h is.
    let none = sym (c.device.ensures.device l h) ∙ c.in-None.is in
    (refused_none l _ _ none, refl, (refl, none))

pub returns-then-is_busy : goal.returns-then-is_busy
returns-then-is_busy c = λ l operation h is.
    let x = refused_beside l _ c.args.source _ (sym (c.device.ensures.device l h) ∙ c.in-Some.is) (sym (c.is_busy.ensures l h) ∙ c.if-is_busy.true) in
    (x.0, refl, x.1)

pub returns : goal.returns
returns c = λ l operation h is.
    let d = sym (c.device.ensures.device l h) ∙ c.in-Some.is in
    let t = c.args.tables.now in
    let x = c.addressed_after-plug.result in
    let i = c.from-c.ensures in (
      tt,
      asked_follows _ l _ _ _ d (sym (c.is_busy.ensures l h) ∙ c.if-is_busy.false)
          (asked_stands t l c.in-Some.device _ c.args.asked x (with_item t.addressed c.from-c.result x) (with_item t.asked c.from-c.result c.args.asked) h (device_below _ _ _ h.sound.range d)
          (device_started _ _ _ d)
          (ap (λ k. slice_set t.addressed.items k x) i) (ap (λ k. slice_set t.asked.items k c.args.asked) i) is (c.addressed_after-plug.ensures l h)),
    )
