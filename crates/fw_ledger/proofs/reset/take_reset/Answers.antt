use Rattle.fw_ledger.proofs.Common.{List, ℕ, sym, subst, NodeRow, AreRates}
use Rattle.fw_model_account.proofs.Fold.{fits_network}
use Rattle.fw_phy.specs.declared.packet.PhyPacket.{PhyPacket}
use Rattle.fw_ledger.specs.Renewed.{IsRenewed}
use Rattle.fw_ledger.proofs.ResetTables.{reset_stands}
use Rattle.fw_ledger.proofs.reset.take_reset.Goals as goal

pub rates_of-rates-requires : goal.rates_of-rates-requires
rates_of-rates-requires c = λ n. rw c.as_slice.ensures.value ((fits_network c.args.r.now c.requires.fits).speeds n)

pub returns : goal.returns
returns c = λ l h.
    let t = c.args.tables.now in
    let r = c.args.r.now in
    let rates = c.rates_of-rates.result in
    let A : List NodeRow → Type 0 = λ nodes. AreRates t.outs c.outs_of-outs.result nodes c.as_slice.result.now rates in
    let B : List PhyPacket → Type 0 = λ ids. AreRates t.outs c.outs_of-outs.result r.nodes ids rates in
    let C : List ℕ → Type 0 = λ outs. AreRates t.outs outs r.nodes r.ids rates in
    let are = subst C (sym c.renew.ensures.outs) (subst B c.as_slice.ensures.value (subst A c.as_slice-nodes.ensures.value c.rates_of-rates.ensures.rates)) in
    let R : List NodeRow → Type 0 = λ nodes. IsRenewed t r.manager nodes rates c.renew.new.tables in
    reset_stands t l r rates c.renew.new.tables h (fits_network r c.requires.fits) are (subst R c.as_slice-nodes.ensures.value c.renew.ensures.renewed)
