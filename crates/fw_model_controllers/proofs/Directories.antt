-- A directory that agrees with the latest reset entry.
use Rattle.fw_model_controllers.proofs.Common.{◌≡◌, ◌<◌, ℕ, Option, Some, ap, subst, sym, ◌∙◌, ResetEntry, Account, Directory, IsDirectory}
use Rattle.std.proofs.Common.{IsTrue}
use Rattle.fw_cmp_jobs.specs.Nodes.{node_of}
use Rattle.fw_model_controllers.specs.Requests.{EachOnce, IsDevice, IsManager, IsNumbering}

once : (r : ResetEntry) (number : ℕ → Option ℕ) → IsNumbering r number → EachOnce (Some r)
once r number x m n a b e f same =
    let first = x.rows m a e in
    let second : number a.device ≡ Some n = ap number same ∙ x.rows n b f in
    cc

-- with the entry that the account has
of_entry : (r : ResetEntry) (number : ℕ → Option ℕ) (dir : Directory) (latest : Option ResetEntry) → latest ≡ Some r → IsNumbering r number → ((d n : ℕ) → node_of dir d ≡ Some n → number d ≡ Some n)
    → dir.manager ≡ r.manager → ((d n : ℕ) → node_of dir d ≡ Some n → IsDevice latest d n) × ((n : ℕ) → dir.manager ≡ Some n → IsManager latest n) × EachOnce latest
of_entry r number dir latest e x nodes manager = subst (λ o. ((d n : ℕ) → node_of dir d ≡ Some n → IsDevice o d n) × ((n : ℕ) → dir.manager ≡ Some n → IsManager o n) × EachOnce o) (sym e)
    (λ d n f. x.devices d n (nodes d n f), λ n f. sym manager ∙ f, once r number x)

pub directory : (l : Account) (r : ResetEntry) (number : ℕ → Option ℕ) (now : ℕ) (dir : Directory) → l.latest ≡ Some r → IsNumbering r number → ((d n : ℕ) → node_of dir d ≡ Some n → number d ≡ Some n)
    → dir.manager ≡ r.manager → (IsTrue l.reclaiming → now < dir.over_at) → IsDirectory l now dir
directory l r number now dir e x nodes manager second = let w = of_entry r number dir l.latest e x nodes manager in record { devices = w.0; manager = w.1; once = w.2; second = second }
