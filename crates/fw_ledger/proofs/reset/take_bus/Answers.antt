use Rattle.fw_ledger.proofs.Common.{◌≤◌, refl, false≢true, List, ℕ, Option, length, sym, subst, arith, NodeRow, AreRates}
use Rattle.std.proofs.Common.{replicate}
use Rattle.std.specs.List.{All}
use Rattle.fw_model_account.proofs.Fold.{fits_network}
use Rattle.fw_log_entry.specs.Log.{RowFits}
use Rattle.fw_ledger.specs.Renewed.{IsRenewed}
use Rattle.fw_ledger.proofs.Renewals.{no_rates, none_new, some_new}
use Rattle.fw_ledger.proofs.ResetTables.{reset_stands}
use Rattle.fw_account_tables.proofs.Starts.{no_count}
use Rattle.fw_ledger.proofs.reset.take_bus.Goals as goal

pub outs_of-outs-requires : goal.outs_of-outs-requires
outs_of-outs-requires c = subst (All RowFits) c.requires.fits.3 c.requires.fits.1.rows

pub renew-requires-clause-rows : goal.renew-requires-clause-rows
renew-requires-clause-rows c = subst (All RowFits) c.requires.fits.3 c.requires.fits.1.rows

pub renew-requires-clause-few : goal.renew-requires-clause-few
renew-requires-clause-few c = let N : List NodeRow → Type 0 = λ nodes. length nodes ≤ 63 in subst N c.requires.fits.3 c.requires.fits.1.few

pub renew-requires-clause-rates : goal.renew-requires-clause-rates
renew-requires-clause-rates c = λ d. omega (arith, no_count d)

pub returns-clause-taken : goal.returns-clause-taken
returns-clause-taken c = λ yes l r h fits same_manager same_nodes.
    let t = c.args.tables.now in
    let rates : List ℕ = replicate 63 0 in
    let gains = c.gains_plugs.ensures.none c.if-gains_plugs.false in
    let C : List ℕ → Type 0 = λ outs. AreRates t.outs outs r.nodes r.ids rates in
    let are = subst C (sym c.renew.ensures.outs) (no_rates t.outs c.outs_of-outs.result r.nodes r.ids rates gains) in
    let R : List NodeRow → Type 0 = λ nodes. IsRenewed t c.args.manager nodes rates c.renew.new.tables in
    let M : Option ℕ → Type 0 = λ manager. IsRenewed t manager r.nodes rates c.renew.new.tables in
    reset_stands t l r rates c.renew.new.tables h (fits_network r fits) are (subst M (sym same_manager) (subst R (sym same_nodes) c.renew.ensures.renewed))

pub returns-then-gains_plugs-clause-exactly : goal.returns-then-gains_plugs-clause-exactly
returns-then-gains_plugs-clause-exactly c = λ l h. (
  λ yes. absurd (false≢true yes),
  λ none. some_new c.args.tables.now l c.args.nodes.now c.outs_of-outs.result h c.outs_of-outs.ensures (c.gains_plugs.ensures.some c.if-gains_plugs.true) none,
)

pub returns-clause-exactly : goal.returns-clause-exactly
returns-clause-exactly c = λ l h. (
  λ yes. none_new c.args.tables.now l c.args.nodes.now c.outs_of-outs.result h c.outs_of-outs.ensures (c.gains_plugs.ensures.none c.if-gains_plugs.false),
  λ none. refl,
)
