-- The tables after what was taken or refused: they stand for an account still.
use Rattle.fw_ledger.proofs.Common.{PlugAt, ◌≡◌, ℕ, Bool, true, false, Option, Some, None, refl, sym}
use Rattle.fw_ledger.proofs.Common.{subst, false≢true, Account, Move}
use Rattle.fw_ledger.proofs.Common.{StandsFor, Follows, moved_by, GoesOn, Tables}
use Rattle.std.proofs.Common.{Result, Ok, Err}
use Rattle.fw_ledger.specs.Refused.{Takes}
use Rattle.fw_ledger.specs.declared.refused.Refused.{Refused}

-- the tables stand for an account still
pub follows_stand : (taken : Bool) (t new : Tables) (l : Account) (o : Option Account) → StandsFor t l → Follows taken t new o
    → (m : Account) × StandsFor new m
follows_stand taken t new l None h f = (l, subst (λ x. StandsFor x l) (sym f.1) h)
follows_stand taken t new l (Some m) h f = (m, f.1)

-- what was taken, or was not
pub follows_goes : (t new : Tables) (o : Option Account) → Follows true t new o → GoesOn new o
follows_goes t new None f = false≢true (sym f.0)
follows_goes t new (Some m) f = f.1

pub follows_stops : (t new : Tables) (o : Option Account) → Follows false t new o → (o ≡ None) × (new ≡ t)
follows_stops t new None f = (refl, f.1)
follows_stops t new (Some m) f = absurd (false≢true f.0)

-- a swap that is no move
pub moved_none : (t new : Tables) (l : Account) (c : ℕ) (o : Option (PlugAt × Move)) → Follows false t new (moved_by c o l) → (o ≡ None) × (moved_by c o l ≡ None) × (new ≡ t)
moved_none t new l c None f = (refl, refl, f.1)
moved_none t new l c (Some m) f = absurd (false≢true f.0)

-- the tables stand for an account still, after an entry that was taken
pub goes_stand : (new : Tables) (o : Option Account) → GoesOn new o → (m : Account) × StandsFor new m
goes_stand new None h = absurd h
goes_stand new (Some m) h = (m, h)

-- or was refused
pub takes_stand : {A : Type 0} (r : Result A Refused) (says : A → Type 0) (why : Refused → Type 0) (t new : Tables) (l : Account) (o : Option Account) → StandsFor t l → Takes r says t new o why
    → (m : Account) × StandsFor new m
takes_stand (Ok a) says why t new l o h taken = goes_stand new o taken.1
takes_stand (Err f) says why t new l o h taken = (l, subst (λ x. StandsFor x l) (sym taken.1) h)
