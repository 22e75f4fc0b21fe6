-- What the tables have is what is held in the account that they stand for.
use Rattle.fw_holders.proofs.Common.{◌≡◌, ◌<◌, ◌∙◌, ℕ, false, Option, Some, None, ap, sym, ResetEntry, Account, StandsFor, Tables, nodes_of}
use Rattle.fw_model_account.specs.Account.{Allocation, Flow}
use Rattle.fw_account_tables.specs.Stands.{ShowsReset, allocation_of, charge_at}
use Rattle.fw_holders.specs.Held.{holding, holding_of, unallocated}

-- the nodes
pub nodes_shown : (t : Tables) (l : Account) → StandsFor t l → t.nodes ≡ nodes_of l.latest
nodes_shown t l h = by l.latest h.latest
  where
    by : (o : Option ResetEntry) → ShowsReset t.started t.manager t.nodes o → t.nodes ≡ nodes_of o
    by None s = s.2
    by (Some r) s = s.2

-- what is held with a channel while no reclaim second runs
pub holding_shown : (t : Tables) (l : Account) (ch : ℕ) → StandsFor t l → t.reclaiming ≡ false → ch < 64 → holding_of (allocation_of (charge_at t.charges.items ch)) None ≡ holding l ch
holding_shown t l ch h stopped within =
    ap (λ (o : Option Allocation). holding_of o None) (h.resources.charges ch within)
    ∙ ap (λ (o : Option Flow). holding_of (l.allocations ch) (unallocated l.continues o)) (sym (h.sound.reclaimable_ends (sym h.second.runs ∙ stopped) ch))
